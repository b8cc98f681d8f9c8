use Rattle.std.proofs.Common.{ℕ, Vec, Global, subst}
use Rattle.line_phase.specs.declared.phase.Reader.{Reader}
use Rattle.line_phase.specs.Reader.{after_read, after_fault, most_after}
use Rattle.line_phase.specs.Followed.{Leads}
use Rattle.line_phase.proofs.fetch.read_on.Goals as goal

pub returns-in-Whole : goal.returns-in-Whole
returns-in-Whole c =
    let P : Reader → Type 0 = λ r. Leads (after_read r c.replace-got.result.items) (most_after r) c.used.result in
    let Q : Vec ℕ Global → Type 0 = λ v. Leads (after_read c.args.reader.now v.items) (most_after c.args.reader.now) c.used.result in
    rw c.in-Whole.is (subst Q c.replace-got.ensures.value (subst P c.replace-reader.ensures.value c.used.ensures))

pub returns-in-Failed : goal.returns-in-Failed
returns-in-Failed c =
    let P : Reader → Type 0 = λ r. Leads (after_fault r) (most_after r) c.failed.result in
    rw c.in-Failed.is (subst P c.replace-reader-in-Failed.ensures.value c.failed.ensures)
