use Rattle.std.proofs.Common.{◌≡◌, false, true, refl, sym, ap, ◌∙◌, arith, length}
use Rattle.std.specs.Option.{is_some}
use Rattle.std.proofs.lemmas.Bool.{false≢true}
use Rattle.audit.specs.Entries.{entry_at}
use Rattle.audit.proofs.FirstLaws.{found_at, not_at, nowhere}
use Rattle.audit.proofs.StepLaws.{followed_all}
use Rattle.audit.proofs.entries.entries_differ.Goals as goal

pub returns-then-is_some : goal.returns-then-is_some
returns-then-is_some c =
    let es = c.args.entries.now in
    let some : is_some c.in_ok-found.found ≡ true = sym c.is_some.ensures ∙ c.if-is_some.true in
    record {
      first = found_at (entry_at c.args.machine.now.script es) (length es) c.loop-at.at c.in_ok-found.found c.loop-at.invariant.0
          (c.in_ok-found.ensures.is ∙ ap (λ t. entry_at t es c.loop-at.at) c.loop-at.invariant.1.script) some c.loop-at-test.true;
      followed = λ none. absurd (false≢true (sym (ap is_some none) ∙ some));
    }

pub loop-at-preserved : goal.loop-at-preserved
loop-at-preserved c =
    let es = c.args.entries.now in
    let none : is_some c.in_ok-found.found ≡ false = sym c.is_some.ensures ∙ c.if-is_some.false in
    let f = c.in_ok-found.ensures.goes none in (
      not_at (entry_at c.args.machine.now.script es) c.loop-at.at c.in_ok-found.found c.loop-at.invariant.0
          (c.in_ok-found.ensures.is ∙ ap (λ t. entry_at t es c.loop-at.at) c.loop-at.invariant.1.script) none,
      record { script = f.script ∙ c.loop-at.invariant.1.script; schedule = f.schedule },
    )

pub returns : goal.returns
returns c =
    let es = c.args.entries.now in
    record {
      first = nowhere (entry_at c.args.machine.now.script es) (length es) c.loop-at.at c.loop-at.invariant.0 c.loop-at-test.false c.loop-at.auto.at-end;
      followed = λ none. followed_all c.args.machine.now.script es c.loop-at.at c.loop-at.machine c.loop-at.invariant.1 c.loop-at-test.false;
    }

pub entry_at-requires-clause-followed : goal.entry_at-requires-clause-followed
entry_at-requires-clause-followed c = record { script = refl; schedule = c.loop-at.invariant.1.schedule }
