-- Laws of the ring that is swept next: its key depends on the keys and the serials of rings alone.
use Rattle.std.proofs.Common.{◌≡◌, ℕ, Bool, true, false, cond, nat_lt, List, [], ◌∷◌, map, filter, Option, Some, None, option_map, refl, sym, ap, ◌∙◌}
use Rattle.std.specs.List.{best_of}
use Rattle.std.specs.Map.{lookup, set_value}
use Rattle.argo_base.specs.declared.ring_key.RingKey.{RingKey}
use Rattle.argo_model.specs.Rules.State.{Ring}
use Rattle.argo_model.specs.Rules.Sweep.{least_serial, next_ring}

-- ---- lists whose elements are seen so

module _ {X Y : Type 0} (f : X → Y) where
  filter_seen : (test : Y → Bool) (xs : List X) → map f (filter (λ x. test (f x)) xs) ≡ filter test (map f xs)
  filter_seen test [] = refl
  filter_seen test (x ∷ xs) = by (test (f x)) (filter_seen test xs) where
    by : (b : Bool) → map f (filter (λ x. test (f x)) xs) ≡ filter test (map f xs)
        → map f (cond b (x ∷ filter (λ x. test (f x)) xs) (filter (λ x. test (f x)) xs)) ≡ cond b (f x ∷ filter test (map f xs)) (filter test (map f xs))
    by true rest = ap (λ ys. f x ∷ ys) rest
    by false rest = rest

  best_seen : (beats : Y → Y → Bool) (b : X) (xs : List X) → f (best_of (λ a b. beats (f a) (f b)) b xs) ≡ best_of beats (f b) (map f xs)
  best_seen beats b [] = refl
  best_seen beats b (x ∷ xs) = by (beats (f x) (f b)) (best_seen beats x xs) (best_seen beats b xs) where
    by : (t : Bool) → f (best_of (λ a b. beats (f a) (f b)) x xs) ≡ best_of beats (f x) (map f xs)
        → f (best_of (λ a b. beats (f a) (f b)) b xs) ≡ best_of beats (f b) (map f xs)
        → f (best_of (λ a b. beats (f a) (f b)) (cond t x b) xs) ≡ best_of beats (cond t (f x) (f b)) (map f xs)
    by true on off = on
    by false on off = off

-- ---- rings by their serials

-- a ring's key and its serial
abbrev numbered : RingKey × Ring → RingKey × ℕ
numbered e = (e.0, e.1.serial)

abbrev is_lesser : RingKey × ℕ → RingKey × ℕ → Bool
is_lesser a b = nat_lt a.1 b.1

abbrev least_number : List (RingKey × ℕ) → Option RingKey
least_number [] = None
least_number (n ∷ ns) = Some (best_of is_lesser n ns).0

least_is : (es : List (RingKey × Ring)) → option_map (λ (e : RingKey × Ring). e.0) (least_serial es) ≡ least_number (map numbered es)
least_is [] = refl
least_is (e ∷ es) = ap (λ (n : RingKey × ℕ). Some n.0) (best_seen numbered is_lesser e es)

next_is : (after : ℕ) (es : List (RingKey × Ring)) → option_map (λ (e : RingKey × Ring). e.0) (next_ring after es) ≡ least_number (filter (λ (n : RingKey × ℕ). nat_lt after n.1) (map numbered es))
next_is after es =
    least_is (filter (λ (e : RingKey × Ring). nat_lt after e.1.serial) es)
    ∙ ap least_number (filter_seen numbered (λ (n : RingKey × ℕ). nat_lt after n.1) es)

-- a ring gives place to one of the same serial
numbers_set : (test : RingKey → Bool) (es : List (RingKey × Ring)) (w r : Ring) → lookup test es ≡ Some r → w.serial ≡ r.serial → map numbered (set_value test es w) ≡ map numbered es
numbers_set test [] w r found same = refl
numbers_set test (e ∷ es) w r found same = by (test e.0) found (numbers_set test es w r) where
  by : (b : Bool) → cond b (Some e.1) (lookup test es) ≡ Some r → (lookup test es ≡ Some r → w.serial ≡ r.serial → map numbered (set_value test es w) ≡ map numbered es)
      → map numbered (cond b ((e.0, w) ∷ es) (e ∷ set_value test es w)) ≡ numbered e ∷ map numbered es
  by true found rest =
      let is : e.1 ≡ r = cc in
      ap (λ n. (e.0, n) ∷ map numbered es) (same ∙ sym (ap (λ (x : Ring). x.serial) is))
  by false found rest = ap (λ ns. numbered e ∷ ns) (rest found same)

-- and the next ring has the key that it had
pub next_set : (after : ℕ) (test : RingKey → Bool) (es : List (RingKey × Ring)) (w r : Ring) → lookup test es ≡ Some r → w.serial ≡ r.serial
    → option_map (λ (e : RingKey × Ring). e.0) (next_ring after (set_value test es w)) ≡ option_map (λ (e : RingKey × Ring). e.0) (next_ring after es)
next_set after test es w r found same =
    next_is after (set_value test es w)
    ∙ ap (λ ns. least_number (filter (λ (n : RingKey × ℕ). nat_lt after n.1) ns)) (numbers_set test es w r found same)
    ∙ sym (next_is after es)
