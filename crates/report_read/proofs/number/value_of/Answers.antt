use Rattle.std.proofs.Common.{arith, rules}
use Rattle.std.proofs.lemmas.Fmt.{IsAscii-from_digits}
use Rattle.std.proofs.lemmas.Str.{IsUtf8-from_ascii}
use Rattle.report_read.proofs.NumberLaws.{zero_leads, parsed}
use Rattle.report_read.proofs.number.value_of.Goals as goal
use Rattle.report_read.proofs.number.value_of.Goals.{else-digits-gt1-via-then-digits-gt1+else-digits-eq48, else-digits-gt1-via-else-digits-gt1}

pub returns-then-digits-eq48 : goal.returns-then-digits-eq48
returns-then-digits-eq48 c = λ n fits. zero_leads c.args.digits.now n c.if-digits-gt1.true c.if-digits-eq48.true fits

pub returns-in_default : goal.returns-in_default
returns-in_default c = λ n fits same.
    c.in_default.ensures.cases.0 (IsUtf8-from_ascii c.args.digits.now (IsAscii-from_digits c.args.digits.now c.requires))

pub returns : goal.returns
returns c =
    let ds = c.args.digits.now in
    rw c.ok.ensures.value
    (elim c.else-digits-gt1.branch [
      | else-digits-gt1-via-then-digits-gt1+else-digits-eq48 w ↦
          parsed ds _ c.parse.result c.in-Ok.ensures.cases.0 c.requires (λ some first. absurd (w.if-digits-eq48.false first)) c.parse.ensures.value.0
      | else-digits-gt1-via-else-digits-gt1 w ↦
          parsed ds _ c.parse.result c.in-Ok.ensures.cases.0 c.requires (λ some first. omega (arith, w.if-digits-gt1.false)) c.parse.ensures.value.0
    ])
