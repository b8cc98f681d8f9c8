use Rattle.std.proofs.Common.{◌≡◌, ◌/◌, ◌∙◌, sym, ap, subst, IsTrue, false, replicate, length, rules}
use Rattle.argo_model.specs.Rules.State.{Live}
use Rattle.argo_model.specs.Rules.Register.{are_free_for}
use Rattle.flat_live.specs.FreePages.{with_others, are_free_in}
use Rattle.flat_live.specs.Memory.{stand_in}
use Rattle.flat_live.proofs.FreePageLaws.{free_by_table}
use Rattle.flat_live.proofs.live.Live.are_free_for.Goals as goal

pub take_others-requires : goal.take_others-requires
take_others-requires c =
    let x = c.self.inside in
    let whole : length c.as_mut_slice-taken.result.now ≡ length x.bytes / 4096 =
    c.as_mut_slice-taken.ensures.len ∙ c.in_ok-table.ensures.len ∙ ap (λ n. n / 4096) c.len.ensures in
    subst (λ n. IsTrue (stand_in n x.rings.entries)) (sym whole) c.self.invariant

pub returns : goal.returns
returns c =
    let i = c.self.inside in
    let x : Live = record { bytes = i.bytes; flag = i.flag; next_serial = i.next_serial; rings = i.rings.entries } in
    let new : c.as_mut_slice-taken.result.now ≡ replicate (length x.bytes / 4096) false =
    c.as_mut_slice-taken.ensures.value ∙ c.in_ok-table.ensures.items_if_clones_equal (search rules) ∙ ap (λ n. replicate (n / 4096) false) c.len.ensures in
    c.take_if_free.ensures
    ∙ ap (λ t. are_free_in t c.args.pages.now) (c.take_others.ensures ∙ ap (λ t. with_others c.args.key.now t x.rings) new)
    ∙ free_by_table x c.args.key.now c.args.pages.now
    ∙ ap (λ (x : Live). are_free_for x c.args.key.now c.args.pages.now) c.self.view_is
