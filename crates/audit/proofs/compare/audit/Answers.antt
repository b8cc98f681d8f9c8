use Rattle.std.proofs.Common.{◌≡◌, sym, ap, ◌∙◌}
use Rattle.audit.specs.Entries.{schedule_in, entries_differ}
use Rattle.audit.proofs.AuditLaws.{entries_split}
use Rattle.audit.proofs.compare.audit.Goals as goal

pub returns-in-Some : goal.returns-in-Some
returns-in-Some c =
    entries_split c.args.scripts.now c.args.closed.now c.in-Some.split
    (sym c.in-Some.is ∙ c.in_ok-found.ensures.first ∙ ap (λ t. entries_differ t c.as_slice.result.now) c.in_ok-machine.ensures.script
    ∙ ap (entries_differ c.args.scripts.now) c.as_slice.ensures)

pub audit_end-requires : goal.audit_end-requires
audit_end-requires c =
    let f = c.in_ok-found.ensures.followed c.in-None.is in
    let script = f.script ∙ c.in_ok-machine.ensures.script in
    record {
      script = script;
      followed = f.schedule ∙ ap schedule_in c.as_slice.ensures;
      same = ap (λ t. entries_differ t c.args.closed.now.entries) f.script ∙ ap (entries_differ c.in_ok-machine.machine.script) (sym c.as_slice.ensures)
          ∙ sym c.in_ok-found.ensures.first ∙ c.in-None.is;
    }
