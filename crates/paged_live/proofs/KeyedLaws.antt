-- Laws of a domain's first ring.
use Rattle.std.proofs.Common.{◌≡◌, true, cond, List, [], ◌∷◌, slice_get, Option, Some, None, option_map, refl, sym, ap, ◌∙◌}
use Rattle.std.specs.Prelude.{is_some}
use Rattle.std.specs.Option.{IfSome, IfNone}
use Rattle.std.specs.Map.{lookup}
use Rattle.std.specs.BTreeMap.{is_at}
use Rattle.std.proofs.lemmas.Option.{same_Some}
use Rattle.argo_base.specs.declared.ring_key.RingKey.{RingKey}
use Rattle.argo_base.specs.Match.{key_cmp}
use Rattle.argo_model.specs.Rules.Register.{has_ring}
use Rattle.argo_model.specs.Rules.State.{Ring, Live}
use Rattle.ring_table.proofs.BucketLaws.{key_itself}

pub first_there : (live : Live) (o : Option RingKey) → o ≡ option_map (λ e. e.0) (slice_get live.rings 0) → IfSome o (λ key. has_ring live key ≡ true)
first_there live o first = by live.rings o first where
  by : (rs : List (RingKey × Ring)) (o : Option RingKey) → o ≡ option_map (λ (e : RingKey × Ring). e.0) (slice_get rs 0)
      → IfSome o (λ key. is_some (lookup (is_at (key_cmp key)) rs) ≡ true)
  by rs None first = tt
  by [] (Some key) first = cc
  by (e ∷ es) (Some key) first =
      let at : is_at (key_cmp key) e.0 ≡ true = ap (is_at (key_cmp key)) (same_Some e.0 key (sym first)) ∙ key_itself key in
      ap (λ b. is_some (cond b (Some e.1) (lookup (is_at (key_cmp key)) es))) at

pub first_absent : (live : Live) (o : Option RingKey) → o ≡ option_map (λ e. e.0) (slice_get live.rings 0) → IfNone o (live.rings ≡ [])
first_absent live o first = by live.rings o first where
  by : (rs : List (RingKey × Ring)) (o : Option RingKey) → o ≡ option_map (λ (e : RingKey × Ring). e.0) (slice_get rs 0) → IfNone o (rs ≡ [])
  by rs (Some key) first = tt
  by [] None first = refl
  by (e ∷ es) None first = cc
