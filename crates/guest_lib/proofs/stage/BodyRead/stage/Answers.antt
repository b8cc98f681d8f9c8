use Rattle.std.proofs.Common.{◌∙◌, sym, ap}
use Rattle.std.specs.Option.{is_some}
use Rattle.guest_lib.specs.declared.stage.Stage.{Stage}
use Rattle.guest_lib.specs.Receiving.{ahead_at}
use Rattle.guest_lib.specs.Stage.{step_of}
use Rattle.guest_lib.proofs.FetchLaws.{none_left}
use Rattle.guest_lib.proofs.BodyLaws.{last_alike}
use Rattle.guest_lib.proofs.stage.BodyRead.stage.Goals as goal

pub returns-clause-alike : goal.returns-clause-alike
returns-clause-alike c = λ end page len os.
    let b = c.args.self in
    let none = none_left b.slots (ap is_some (sym c.first.ensures.first) ∙ sym c.is_some.ensures ∙ c.if-is_some.false) in
    ap (λ (s : Stage). ahead_at end page len (step_of s) os) c.word_stage.ensures ∙ last_alike b c.requires none end page len os
