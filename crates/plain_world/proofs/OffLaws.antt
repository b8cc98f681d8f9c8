-- Laws of a ring that goes off the lists of several domains, one after another.
use Rattle.std.proofs.Common.{◌≡◌, ℕ, suc, zero, ◌<◌, ◌==◌, ◌&&◌, ◌||◌, not, Bool, true, false, List, [], ◌∷◌, take, length, get_or, slice_get, Some, refl, sym, ap, ◌∙◌}
use Rattle.std.specs.BTreeMap.{is_at}
use Rattle.std.proofs.lemmas.Option.{slice_get-get_or}
use Rattle.touch_laws.proofs.NumberLaws.{eq_turned}
use Rattle.std.proofs.Math.Bool.{or-false}
use Rattle.argo_base.specs.Match.{id_cmp}
use Rattle.argo_base.specs.Notices.{Notices, doms_of}
use Rattle.argo_base.specs.declared.ring_key.RingId.{RingId}
use Rattle.argo_model.specs.Rules.Register.{has_number}
use Rattle.domain_lists.specs.Lists.{RingLists, names, is_pair}

assoc : (a b c : Bool) → (a || (b || c)) ≡ ((a || b) || c)
assoc true b c = refl
assoc false b c = refl

taken_one : (xs : List ℕ) (i x d : ℕ) → slice_get xs i ≡ Some x → has_number (take (suc i) xs) d ≡ (has_number (take i xs) d || (x == d))
taken_one [] i x d here = cc
taken_one (y ∷ ys) zero x d here =
    let same : y ≡ x = cc in
    or-false (y == d) ∙ ap (λ z. z == d) same
taken_one (y ∷ ys) (suc i) x d here = ap (λ b. (y == d) || b) (taken_one ys i x d here) ∙ assoc (y == d) (has_number (take i ys) d) (x == d)

noted_one : (ns : Notices) (i : ℕ) (n : ℕ × ℕ) (d : ℕ) → slice_get ns i ≡ Some n → has_number (doms_of (take (suc i) ns)) d ≡ (has_number (doms_of (take i ns)) d || (n.0 == d))
noted_one [] i n d here = cc
noted_one (m ∷ ms) zero n d here =
    let same : m ≡ n = cc in
    or-false (m.0 == d) ∙ ap (λ (z : ℕ × ℕ). z.0 == d) same
noted_one (m ∷ ms) (suc i) n d here = ap (λ b. (m.0 == d) || b) (noted_one ms i n d here) ∙ assoc (m.0 == d) (has_number (doms_of (take i ms)) d) (n.0 == d)

one_more : (n a b h : Bool) → ((n && not (a && h)) && not (b && h)) ≡ (n && not ((a || b) && h))
one_more true true b true = refl
one_more true true true false = refl
one_more true true false false = refl
one_more true false true true = refl
one_more true false true false = refl
one_more true false false true = refl
one_more true false false false = refl
one_more false a b h = refl

module _ (old mid new : RingLists) (id : RingId) where
  -- one more goes off the list of a domain
  step : (so_far then : List ℕ) (dom : ℕ) → ((d : ℕ) → has_number then d ≡ (has_number so_far d || (dom == d)))
      → ((d : ℕ) (x : RingId) → names mid d x ≡ (names old d x && not (has_number so_far d && is_at (id_cmp id) x)))
      → ((d : ℕ) (x : RingId) → names new d x ≡ (names mid d x && not (is_pair dom id d x)))
      → (d : ℕ) (x : RingId) → names new d x ≡ (names old d x && not (has_number then d && is_at (id_cmp id) x))
  step so_far then dom more went off d x =
      off d x
      ∙ ap (λ b. b && not (is_pair dom id d x)) (went d x)
      ∙ ap (λ b. (names old d x && not (has_number so_far d && is_at (id_cmp id) x)) && not (b && is_at (id_cmp id) x)) (eq_turned d dom)
      ∙ one_more (names old d x) (has_number so_far d) (dom == d) (is_at (id_cmp id) x)
      ∙ ap (λ b. names old d x && not (b && is_at (id_cmp id) x)) (sym (more d))

  pub off_one : (doms : List ℕ) (i n dom : ℕ) → n ≡ suc i → i < length doms → dom ≡ get_or doms i dom
      → ((d : ℕ) (x : RingId) → names mid d x ≡ (names old d x && not (has_number (take i doms) d && is_at (id_cmp id) x)))
      → ((d : ℕ) (x : RingId) → names new d x ≡ (names mid d x && not (is_pair dom id d x)))
      → (d : ℕ) (x : RingId) → names new d x ≡ (names old d x && not (has_number (take n doms) d && is_at (id_cmp id) x))
  off_one doms i n dom is inside read =
      let here = slice_get-get_or doms i dom inside ∙ ap (λ x. Some x) (sym read) in
      step (take i doms) (take n doms) dom (λ d. ap (λ k. has_number (take k doms) d) is ∙ taken_one doms i dom d here)

  pub off_noted : (ns : Notices) (i k : ℕ) (n : ℕ × ℕ) → k ≡ suc i → i < length ns → n ≡ get_or ns i n
      → ((d : ℕ) (x : RingId) → names mid d x ≡ (names old d x && not (has_number (doms_of (take i ns)) d && is_at (id_cmp id) x)))
      → ((d : ℕ) (x : RingId) → names new d x ≡ (names mid d x && not (is_pair n.0 id d x)))
      → (d : ℕ) (x : RingId) → names new d x ≡ (names old d x && not (has_number (doms_of (take k ns)) d && is_at (id_cmp id) x))
  off_noted ns i k n is inside read =
      let here = slice_get-get_or ns i n inside ∙ ap (λ x. Some x) (sym read) in
      step (doms_of (take i ns)) (doms_of (take k ns)) n.0 (λ d. ap (λ j. has_number (doms_of (take j ns)) d) is ∙ noted_one ns i n d here)
