-- Laws of the next ring to be swept.
use Rattle.std.proofs.Common.{◌≡◌, ℕ, Bool, true, false, cond, nat_lt, List, [], ◌∷◌, map, filter, Option, Some, None, option_map, refl, sym, ap, ◌∙◌}
use Rattle.std.specs.List.{fold, best_of}
use Rattle.argo_base.specs.declared.ring_key.RingKey.{RingKey}
use Rattle.argo_model.specs.Rules.State.{Ring}
use Rattle.argo_model.specs.Rules.Sweep.{least_serial, next_ring}
use Rattle.flat_live.specs.Sweeps.{numbered, nearer}

-- a ring's serial is less than another's
abbrev is_lesser : RingKey × Ring → RingKey × Ring → Bool
is_lesser a b = nat_lt a.1.serial b.1.serial

-- the nearest of some rings, the first of them being this one or none
abbrev nearest : ℕ → Option (RingKey × ℕ) → List (RingKey × Ring) → Option (RingKey × ℕ)
nearest after best rings = fold (nearer after) best (map numbered rings)

abbrev above : ℕ → RingKey × Ring → Bool
above after e = nat_lt after e.1.serial

kept_some : (after : ℕ) (b e : RingKey × Ring) (es : List (RingKey × Ring)) (less : Bool)
    → nearest after (Some (numbered e)) es ≡ Some (numbered (best_of is_lesser e (filter (above after) es)))
    → nearest after (Some (numbered b)) es ≡ Some (numbered (best_of is_lesser b (filter (above after) es)))
    → nearest after (cond less (Some (numbered e)) (Some (numbered b))) es ≡ Some (numbered (best_of is_lesser (cond less e b) (filter (above after) es)))
kept_some after b e es true on off = on
kept_some after b e es false on off = off

nearest_some : (after : ℕ) (b : RingKey × Ring) (es : List (RingKey × Ring))
    → nearest after (Some (numbered b)) es ≡ Some (numbered (best_of is_lesser b (filter (above after) es)))
nearest_some after b [] = refl
nearest_some after b (e ∷ es) = by (above after e) (nearest_some after e es) (nearest_some after b es) where
  by : (kept : Bool)
      → nearest after (Some (numbered e)) es ≡ Some (numbered (best_of is_lesser e (filter (above after) es)))
      → nearest after (Some (numbered b)) es ≡ Some (numbered (best_of is_lesser b (filter (above after) es)))
      → nearest after (cond kept (cond (is_lesser e b) (Some (numbered e)) (Some (numbered b))) (Some (numbered b))) es
      ≡ Some (numbered (best_of is_lesser b (cond kept (e ∷ filter (above after) es) (filter (above after) es))))
  by true on off = kept_some after b e es (is_lesser e b) on off
  by false on off = off

-- a walk over the rings that keeps the nearest so far finds the next one
pub nearest_is : (after : ℕ) (rings : List (RingKey × Ring)) → nearest after None rings ≡ option_map numbered (next_ring after rings)
nearest_is after [] = refl
nearest_is after (e ∷ es) = by (above after e) (nearest_some after e es) (nearest_is after es) where
  by : (kept : Bool)
      → nearest after (Some (numbered e)) es ≡ Some (numbered (best_of is_lesser e (filter (above after) es)))
      → nearest after None es ≡ option_map numbered (next_ring after es)
      → nearest after (cond kept (Some (numbered e)) None) es ≡ option_map numbered (least_serial (cond kept (e ∷ filter (above after) es) (filter (above after) es)))
  by true on off = on
  by false on off = off

key_of_numbered : (o : Option (RingKey × Ring)) → option_map (λ (e : RingKey × ℕ). e.0) (option_map numbered o) ≡ option_map (λ (e : RingKey × Ring). e.0) o
key_of_numbered None = refl
key_of_numbered (Some e) = refl

-- where nothing is left, the best so far has the next ring's key
pub nearest_key : (after : ℕ) (rings left : List (RingKey × Ring)) (best : Option (RingKey × ℕ)) → left ≡ []
    → nearest after best left ≡ nearest after None rings
    → option_map (λ (e : RingKey × ℕ). e.0) best ≡ option_map (λ (e : RingKey × Ring). e.0) (next_ring after rings)
nearest_key after rings left best done kept =
    ap (option_map (λ (e : RingKey × ℕ). e.0)) (sym (ap (nearest after best) done) ∙ kept ∙ nearest_is after rings)
    ∙ key_of_numbered (next_ring after rings)
