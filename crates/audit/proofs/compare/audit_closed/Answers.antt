use Rattle.std.proofs.Common.{◌≡◌, None, Option, refl, sym, ap, ◌∙◌}
use Rattle.argo_machine.specs.Machine.{Standing}
use Rattle.audit.specs.declared.split.Split.{Split}
use Rattle.audit.specs.Audit.{first_difference}
use Rattle.audit.specs.Rows.{side}
use Rattle.audit.proofs.AuditLaws.{sides_split, side_is, agreed}
use Rattle.audit.proofs.compare.audit_closed.Goals as goal

pub returns-in-Some : goal.returns-in-Some
returns-in-Some c =
    let m = c.args.machine in
    sides_split m.script c.args.closed.now m refl c.requires.followed c.requires.same (side c.in_ok-domains.heard c.in_ok-domains.domains c.in_ok-shown.shown.totals)
    c.requires.ended
    (side_is m.script m.schedule c.in_ok-domains.heard c.in_ok-domains.domains c.in_ok-shown.shown c.in_ok-domains.ensures.heard c.in_ok-domains.ensures.domains
    c.in_ok-shown.ensures.shown)
    ∙ sym c.in_ok-found.ensures ∙ c.in-Some.is

pub returns : goal.returns
returns c =
    let m = c.args.machine in
    let none : first_difference m.script c.args.closed.now ≡ None =
    sides_split m.script c.args.closed.now m refl c.requires.followed c.requires.same (side c.in_ok-domains.heard c.in_ok-domains.domains c.in_ok-shown.shown.totals)
    c.requires.ended
    (side_is m.script m.schedule c.in_ok-domains.heard c.in_ok-domains.domains c.in_ok-shown.shown c.in_ok-domains.ensures.heard c.in_ok-domains.ensures.domains
    c.in_ok-shown.ensures.shown)
    ∙ sym c.in_ok-found.ensures ∙ c.in-None.is in
    agreed m.script c.args.closed.now m refl c.requires.followed c.requires.same c.in_ok-shown.shown none c.in_ok-shown.ensures.complete c.in_ok-shown.ensures.shown
