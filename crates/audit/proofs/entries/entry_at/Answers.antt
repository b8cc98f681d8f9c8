use Rattle.std.proofs.Common.{◌≡◌, false, ap, ◌∙◌, sym}
use Rattle.std.specs.Option.{is_some}
use Rattle.audit.proofs.StepLaws.{entry_is, entry_goes}
use Rattle.audit.proofs.entries.entry_at.Goals as goal

pub returns : goal.returns
returns c =
    let e = c.index-entries-at.result in
    let s = c.args.machine.now.script in
    record {
      is = c.shorts_differ.ensures
          ∙ entry_is s c.args.entries.now c.args.at e c.args.machine.now c.requires.inside c.index-entries-at.is c.requires.followed c.in_ok-next.next
          c.next_short.new.machine c.in_ok-next.ensures;
      goes = λ none.
          entry_goes s c.args.entries.now c.args.at e c.args.machine.now c.requires.inside c.index-entries-at.is c.requires.followed c.in_ok-next.next
          c.next_short.new.machine c.in_ok-next.ensures c.requires.outcomes (ap is_some (sym c.shorts_differ.ensures) ∙ none);
    }
