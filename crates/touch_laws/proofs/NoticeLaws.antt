-- Laws of who waits on a ring, and of rings by their keys.
use Rattle.std.proofs.Common.{◌≡◌, ◌≢◌, ℕ, ◌<◌, Bool, true, false, cond, ◌==◌, ◌||◌, not, List, [], ◌∷◌, filter, map, is_some, Some, None, option_map, refl, sym, ap, ◌∙◌, subst, arith}
use Rattle.std.specs.declared.cmp.Ordering.{Ordering}
use Rattle.std.specs.declared.cmp.Ordering.TheVariants.{Less, Equal, Greater}
use Rattle.std.specs.Ordering.{nat_cmp, match_ordering, is_eq}
use Rattle.std.specs.Map.{lookup, set_value, remove_entry}
use Rattle.std.specs.BTreeMap.{is_at, insert_entry}
use Rattle.std.proofs.lemmas.Bool.Decides.{nat_tests}
use Rattle.touch_laws.proofs.NumberLaws.{eq_same}
use Rattle.argo_base.specs.Match.{key_cmp}
use Rattle.argo_base.specs.Notices.{Notices, size_of, doms_of}
use Rattle.argo_base.specs.declared.ring_key.RingKey.{RingKey}
use Rattle.argo_model.specs.Rules.Register.{has_number}
use Rattle.argo_model.specs.Rules.State.{Ring}
use Rattle.state_laws.specs.Each.{Each, EachTwo}
use Rattle.state_laws.specs.Valid.{AreApart}
use Rattle.state_laws.proofs.Lives.{key_self, key_other}
use Rattle.state_laws.proofs.Lists.{each_weak, each_filter}
use Rattle.state_laws.proofs.Rising.{cmp_equal, is_at_same, absent}

at_not : (d k : ℕ) → (d == k) ≡ false → is_at (nat_cmp k) d ≡ false
at_not d k h = grind (arith, nat_tests)

-- ---- notices

module _ (dom : ℕ) where
  pub noted_other : (ns : Notices) (v d : ℕ) → (dom == d) ≡ false → size_of (insert_entry nat_cmp ns dom v) d ≡ size_of ns d
  noted_other [] v d apart = ap (λ (b : Bool). cond b (Some v) None) (at_not dom d apart)
  noted_other (e ∷ es) v d apart = by (nat_cmp dom e.0) refl (noted_other es v d apart) where
    by : (o : Ordering) → nat_cmp dom e.0 ≡ o → size_of (insert_entry nat_cmp es dom v) d ≡ size_of es d
        → size_of (match_ordering o ((dom, v) ∷ e ∷ es) ((e.0, v) ∷ es) (e ∷ insert_entry nat_cmp es dom v)) d ≡ cond (is_at (nat_cmp d) e.0) (Some e.1) (size_of es d)
    by Less is rest = ap (λ (b : Bool). cond b (Some v) (size_of (e ∷ es) d)) (at_not dom d apart)
    by Equal is rest =
        let n : is_at (nat_cmp d) e.0 ≡ false = ap (λ k. is_at (nat_cmp d) k) (sym (cmp_equal dom e.0 is)) ∙ at_not dom d apart in
        ap (λ (b : Bool). cond b (Some v) (size_of es d)) n ∙ ap (λ (b : Bool). cond b (Some e.1) (size_of es d)) (sym n)
    by Greater is rest = ap (cond (is_at (nat_cmp d) e.0) (Some e.1)) rest

  pub withdrawn_other : (ns : Notices) (d : ℕ) → (dom == d) ≡ false → size_of (remove_entry (is_at (nat_cmp dom)) ns) d ≡ size_of ns d
  withdrawn_other [] d apart = refl
  withdrawn_other (e ∷ es) d apart = by (is_at (nat_cmp dom) e.0) refl (withdrawn_other es d apart) where
    by : (b : Bool) → is_at (nat_cmp dom) e.0 ≡ b → size_of (remove_entry (is_at (nat_cmp dom)) es) d ≡ size_of es d
        → size_of (cond b es (e ∷ remove_entry (is_at (nat_cmp dom)) es)) d ≡ cond (is_at (nat_cmp d) e.0) (Some e.1) (size_of es d)
    by true is rest =
        let n : is_at (nat_cmp d) e.0 ≡ false = ap (λ k. is_at (nat_cmp d) k) (sym (is_at_same dom e.0 is)) ∙ at_not dom d apart in
        ap (λ (b : Bool). cond b (Some e.1) (size_of es d)) (sym n)
    by false is rest = ap (cond (is_at (nat_cmp d) e.0) (Some e.1)) rest

module _ (out : ℕ × ℕ → Bool) where
  -- notices of which some went out: those of the others stay
  pub kept_others : (ns : Notices) (d : ℕ) → has_number (doms_of (filter out ns)) d ≡ false → is_some (size_of (filter (λ n. not (out n)) ns) d) ≡ is_some (size_of ns d)
  kept_others [] d apart = refl
  kept_others (e ∷ es) d apart = by (out e) apart (kept_others es d) where
    or_right : (a b : Bool) → (a || b) ≡ false → (a ≡ false) × (b ≡ false)
    or_right false b h = (refl, h)
    or_right true b h = cc

    by : (b : Bool) → has_number (doms_of (cond b (e ∷ filter out es) (filter out es))) d ≡ false
        → (has_number (doms_of (filter out es)) d ≡ false → is_some (size_of (filter (λ n. not (out n)) es) d) ≡ is_some (size_of es d))
        → is_some (size_of (cond (not b) (e ∷ filter (λ n. not (out n)) es) (filter (λ n. not (out n)) es)) d) ≡ is_some (cond (is_at (nat_cmp d) e.0) (Some e.1) (size_of es d))
    by true apart rest =
        let a = or_right (e.0 == d) (has_number (doms_of (filter out es)) d) apart in
        rest a.1 ∙ ap (λ (b : Bool). is_some (cond b (Some e.1) (size_of es d))) (sym (at_not e.0 d a.0))
    by false apart rest = at (is_at (nat_cmp d) e.0) (rest apart) where
      at : (b : Bool) → is_some (size_of (filter (λ n. not (out n)) es) d) ≡ is_some (size_of es d)
          → is_some (cond b (Some e.1) (size_of (filter (λ n. not (out n)) es) d)) ≡ is_some (cond b (Some e.1) (size_of es d))
      at true h = refl
      at false h = h

  -- and none comes in
  pub none_new : (ns : Notices) (d : ℕ) → is_some (size_of (filter out ns) d) ≡ true → is_some (size_of ns d) ≡ true
  none_new [] d h = h
  none_new (e ∷ es) d h = by (out e) h (none_new es d) where
    by : (b : Bool) → is_some (size_of (cond b (e ∷ filter out es) (filter out es)) d) ≡ true → (is_some (size_of (filter out es) d) ≡ true → is_some (size_of es d) ≡ true)
        → is_some (cond (is_at (nat_cmp d) e.0) (Some e.1) (size_of es d)) ≡ true
    by true h rest = at (is_at (nat_cmp d) e.0) h where
      at : (b : Bool) → is_some (cond b (Some e.1) (size_of (filter out es) d)) ≡ true → is_some (cond b (Some e.1) (size_of es d)) ≡ true
      at true h = refl
      at false h = rest h
    by false h rest = at (is_at (nat_cmp d) e.0) where
      at : (b : Bool) → is_some (cond b (Some e.1) (size_of es d)) ≡ true
      at true = refl
      at false = rest h

-- what holds of the domain of every notice holds of one of these
among : (P : ℕ → Type 0) (out : ℕ × ℕ → Bool) (ns : Notices) (d : ℕ) → Each (λ (n : ℕ × ℕ). P n.0) ns → has_number (doms_of (filter out ns)) d ≡ true → P d
among P out [] d all h = cc
among P out (e ∷ es) d all h = by (out e) h (among P out es d all.1) where
  by : (b : Bool) → has_number (doms_of (cond b (e ∷ filter out es) (filter out es))) d ≡ true → (has_number (doms_of (filter out es)) d ≡ true → P d) → P d
  by true h rest = at (e.0 == d) refl h where
    at : (b : Bool) → (e.0 == d) ≡ b → (b || has_number (doms_of (filter out es)) d) ≡ true → P d
    at true is h = subst P (eq_same e.0 d is) all.0
    at false is h = rest h
  by false h rest = rest h

-- notices of domains that differ: those that went out stand no more
pub none_left : (out : ℕ × ℕ → Bool) (ns : Notices) (d : ℕ) → EachTwo (λ (a b : ℕ × ℕ). a.0 < b.0) ns → has_number (doms_of (filter out ns)) d ≡ true
    → is_some (size_of (filter (λ n. not (out n)) ns) d) ≡ false
none_left out [] d rising h = cc
none_left out (e ∷ es) d rising h = by (out e) h (none_left out es d rising.1) where
  later : (a b : ℕ) → a < b → is_at (nat_cmp b) a ≡ false
  later a b h = grind (arith, nat_tests)

  by : (b : Bool) → has_number (doms_of (cond b (e ∷ filter out es) (filter out es))) d ≡ true
      → (has_number (doms_of (filter out es)) d ≡ true → is_some (size_of (filter (λ n. not (out n)) es) d) ≡ false)
      → is_some (size_of (cond (not b) (e ∷ filter (λ n. not (out n)) es) (filter (λ n. not (out n)) es)) d) ≡ false
  by true h rest = at (e.0 == d) refl h where
    at : (b : Bool) → (e.0 == d) ≡ b → (b || has_number (doms_of (filter out es)) d) ≡ true → is_some (size_of (filter (λ n. not (out n)) es) d) ≡ false
    at true is h =
        ap is_some (absent d (filter (λ n. not (out n)) es)
        (each_filter (λ (f : ℕ × ℕ). d ≢ f.0) (λ n. not (out n)) es (each_weak (λ (f : ℕ × ℕ). e.0 < f.0) (λ (f : ℕ × ℕ). d ≢ f.0) (λ f l same. before (eq_same e.0 d is) same l) es rising.0))) where
          before : {a b c : ℕ} → a ≡ b → b ≡ c → a < c → ⊥
          before s t l = omega arith
    at false is h = rest h
  by false h rest =
      ap (λ (b : Bool). is_some (cond b (Some e.1) (size_of (filter (λ n. not (out n)) es) d))) (later e.0 d (among (λ k. e.0 < k) out es d rising.0 h)) ∙ rest h

-- who is none of those that wait does not wait
pub not_waiting : (ns : Notices) (d : ℕ) → has_number (doms_of ns) d ≡ false → is_some (size_of ns d) ≡ false
not_waiting [] d h = refl
not_waiting (e ∷ es) d h = by (e.0 == d) refl h (not_waiting es d) where
  by : (b : Bool) → (e.0 == d) ≡ b → (b || has_number (doms_of es) d) ≡ false → (has_number (doms_of es) d ≡ false → is_some (size_of es d) ≡ false)
      → is_some (cond (is_at (nat_cmp d) e.0) (Some e.1) (size_of es d)) ≡ false
  by true is h rest = cc
  by false is h rest = ap (λ (b : Bool). is_some (cond b (Some e.1) (size_of es d))) (at_not e.0 d is) ∙ rest h

-- ---- rings by their keys

module _ (key : RingKey) where
  other_key : (k q : RingKey) → is_at (key_cmp key) k ≡ false → is_at (key_cmp key) q ≡ true → is_at (key_cmp k) q ≡ false
  other_key k q apart is = key_other k q (λ same. cannot (sym (ap (λ y. is_at (key_cmp key) y) same ∙ is) ∙ apart)) where
    cannot : true ≡ false → ⊥
    cannot h = cc

  pub key_set_other : (es : List (RingKey × Ring)) (w : Ring) (k : RingKey) → is_at (key_cmp key) k ≡ false
      → lookup (is_at (key_cmp k)) (set_value (is_at (key_cmp key)) es w) ≡ lookup (is_at (key_cmp k)) es
  key_set_other [] w k apart = refl
  key_set_other (e ∷ es) w k apart = by (is_at (key_cmp key) e.0) refl (key_set_other es w k apart) where
    by : (b : Bool) → is_at (key_cmp key) e.0 ≡ b → lookup (is_at (key_cmp k)) (set_value (is_at (key_cmp key)) es w) ≡ lookup (is_at (key_cmp k)) es
        → lookup (is_at (key_cmp k)) (cond b ((e.0, w) ∷ es) (e ∷ set_value (is_at (key_cmp key)) es w)) ≡ cond (is_at (key_cmp k) e.0) (Some e.1) (lookup (is_at (key_cmp k)) es)
    by true is rest =
        let n = other_key k e.0 apart is in
        ap (λ (b : Bool). cond b (Some w) (lookup (is_at (key_cmp k)) es)) n ∙ ap (λ (b : Bool). cond b (Some e.1) (lookup (is_at (key_cmp k)) es)) (sym n)
    by false is rest = ap (cond (is_at (key_cmp k) e.0) (Some e.1)) rest

  pub key_set_same : (es : List (RingKey × Ring)) (w r : Ring) → lookup (is_at (key_cmp key)) es ≡ Some r → lookup (is_at (key_cmp key)) (set_value (is_at (key_cmp key)) es w) ≡ Some w
  key_set_same [] w r here = cc
  key_set_same (e ∷ es) w r here = by (is_at (key_cmp key) e.0) refl here (key_set_same es w r) where
    by : (b : Bool) → is_at (key_cmp key) e.0 ≡ b → cond b (Some e.1) (lookup (is_at (key_cmp key)) es) ≡ Some r
        → (lookup (is_at (key_cmp key)) es ≡ Some r → lookup (is_at (key_cmp key)) (set_value (is_at (key_cmp key)) es w) ≡ Some w)
        → lookup (is_at (key_cmp key)) (cond b ((e.0, w) ∷ es) (e ∷ set_value (is_at (key_cmp key)) es w)) ≡ Some w
    by true is here rest = ap (λ (b : Bool). cond b (Some w) (lookup (is_at (key_cmp key)) es)) is
    by false is here rest = ap (λ (b : Bool). cond b (Some e.1) (lookup (is_at (key_cmp key)) (set_value (is_at (key_cmp key)) es w))) is ∙ rest here

  pub key_put_other : (es : List (RingKey × Ring)) (w : Ring) (k : RingKey) → is_at (key_cmp key) k ≡ false
      → lookup (is_at (key_cmp k)) (insert_entry key_cmp es key w) ≡ lookup (is_at (key_cmp k)) es
  key_put_other [] w k apart = ap (λ (b : Bool). cond b (Some w) None) (other_key k key apart (key_self key))
  key_put_other (e ∷ es) w k apart = by (key_cmp key e.0) refl (key_put_other es w k apart) where
    by : (o : Ordering) → key_cmp key e.0 ≡ o → lookup (is_at (key_cmp k)) (insert_entry key_cmp es key w) ≡ lookup (is_at (key_cmp k)) es
        → lookup (is_at (key_cmp k)) (match_ordering o ((key, w) ∷ e ∷ es) ((e.0, w) ∷ es) (e ∷ insert_entry key_cmp es key w))
        ≡ cond (is_at (key_cmp k) e.0) (Some e.1) (lookup (is_at (key_cmp k)) es)
    by Less is rest = ap (λ (b : Bool). cond b (Some w) (lookup (is_at (key_cmp k)) (e ∷ es))) (other_key k key apart (key_self key))
    by Equal is rest =
        let n = other_key k e.0 apart (ap is_eq is) in
        ap (λ (b : Bool). cond b (Some w) (lookup (is_at (key_cmp k)) es)) n ∙ ap (λ (b : Bool). cond b (Some e.1) (lookup (is_at (key_cmp k)) es)) (sym n)
    by Greater is rest = ap (cond (is_at (key_cmp k) e.0) (Some e.1)) rest

  pub key_put_same : (es : List (RingKey × Ring)) (w : Ring) → lookup (is_at (key_cmp key)) (insert_entry key_cmp es key w) ≡ Some w
  key_put_same [] w = ap (λ (b : Bool). cond b (Some w) None) (key_self key)
  key_put_same (e ∷ es) w = by (key_cmp key e.0) refl (key_put_same es w) where
    by : (o : Ordering) → key_cmp key e.0 ≡ o → lookup (is_at (key_cmp key)) (insert_entry key_cmp es key w) ≡ Some w
        → lookup (is_at (key_cmp key)) (match_ordering o ((key, w) ∷ e ∷ es) ((e.0, w) ∷ es) (e ∷ insert_entry key_cmp es key w)) ≡ Some w
    by Less is rest = ap (λ (b : Bool). cond b (Some w) (lookup (is_at (key_cmp key)) (e ∷ es))) (key_self key)
    by Equal is rest = ap (λ (o : Ordering). cond (is_eq o) (Some w) (lookup (is_at (key_cmp key)) es)) is
    by Greater is rest = ap (λ (o : Ordering). cond (is_eq o) (Some e.1) (lookup (is_at (key_cmp key)) (insert_entry key_cmp es key w))) is ∙ rest

  pub key_removed_other : (es : List (RingKey × Ring)) (k : RingKey) → is_at (key_cmp key) k ≡ false
      → lookup (is_at (key_cmp k)) (remove_entry (is_at (key_cmp key)) es) ≡ lookup (is_at (key_cmp k)) es
  key_removed_other [] k apart = refl
  key_removed_other (e ∷ es) k apart = by (is_at (key_cmp key) e.0) refl (key_removed_other es k apart) where
    by : (b : Bool) → is_at (key_cmp key) e.0 ≡ b → lookup (is_at (key_cmp k)) (remove_entry (is_at (key_cmp key)) es) ≡ lookup (is_at (key_cmp k)) es
        → lookup (is_at (key_cmp k)) (cond b es (e ∷ remove_entry (is_at (key_cmp key)) es)) ≡ cond (is_at (key_cmp k) e.0) (Some e.1) (lookup (is_at (key_cmp k)) es)
    by true is rest = ap (λ (b : Bool). cond b (Some e.1) (lookup (is_at (key_cmp k)) es)) (sym (other_key k e.0 apart is))
    by false is rest = ap (cond (is_at (key_cmp k) e.0) (Some e.1)) rest

  -- among rings of other keys it is not found
  pub none_apart : (es : List (RingKey × Ring)) (r : Ring) → Each (AreApart (key, r)) es → lookup (is_at (key_cmp key)) es ≡ None
  none_apart [] r apart = refl
  none_apart (e ∷ es) r apart =
      ap (λ (b : Bool). cond b (Some e.1) (lookup (is_at (key_cmp key)) es)) (key_other key e.0 apart.0.keys) ∙ none_apart es r apart.1

pub key_map : (f : Ring → Ring) (k : RingKey) (es : List (RingKey × Ring)) → lookup (is_at (key_cmp k)) (map (λ (e : RingKey × Ring). (e.0, f e.1)) es) ≡ option_map f (lookup (is_at (key_cmp k)) es)
key_map f k [] = refl
key_map f k (e ∷ es) = by (is_at (key_cmp k) e.0) (key_map f k es) where
  by : (b : Bool) → lookup (is_at (key_cmp k)) (map (λ (e : RingKey × Ring). (e.0, f e.1)) es) ≡ option_map f (lookup (is_at (key_cmp k)) es)
      → cond b (Some (f e.1)) (lookup (is_at (key_cmp k)) (map (λ (e : RingKey × Ring). (e.0, f e.1)) es)) ≡ option_map f (cond b (Some e.1) (lookup (is_at (key_cmp k)) es))
  by true rest = refl
  by false rest = rest
