use Rattle.std.proofs.Common.{◌/◌, IsTrue, length, sym, subst}
use Rattle.std.specs.BTreeMap.{is_at}
use Rattle.argo_base.specs.Match.{key_cmp}
use Rattle.argo_model.specs.Rules.State.{Ring}
use Rattle.flat_live.specs.Memory.{are_there, stand_in}
use Rattle.live_domain.proofs.EntryLaws.{all_pass-remove_entry}
use Rattle.flat_live.proofs.live.Live.unregister.Goals as goal

pub invariant_of-self-2 : goal.invariant_of-self-2
invariant_of-self-2 c =
    let x = c.self.inside in
    subst (λ rs. IsTrue (stand_in (length x.bytes / 4096) rs)) (sym c.remove.ensures.entries)
    (all_pass-remove_entry (λ (r : Ring). are_there (length x.bytes / 4096) r.pages) (is_at (key_cmp c.args.key)) x.rings.entries c.self.invariant)
