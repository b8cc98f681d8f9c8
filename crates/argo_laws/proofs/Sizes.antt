-- Laws of the sizes of notices: what a sweep, a shorter ring, a delivery and a question leave of them.
use Rattle.std.proofs.Common.{◌≡◌, ◌≢◌, ℕ, ◌<◌, max, Bool, true, false, cond, ◌⊎◌, [], ◌∷◌, filter, unwrap_or, Option, Some, None, ⊎_elim, inl, inr, refl, sym, ap, ◌∙◌, subst, arith}
use Rattle.std.specs.declared.cmp.Ordering.{Ordering}
use Rattle.std.specs.declared.cmp.Ordering.TheVariants.{Less, Equal, Greater}
use Rattle.std.specs.Ordering.{nat_cmp, match_ordering, is_eq}
use Rattle.std.specs.BTreeMap.{is_at, insert_entry}
use Rattle.std.proofs.lemmas.Bool.{cases_eq}
use Rattle.argo_base.specs.Notices.{Notices, size_of, noted, withdrawn, doms_of}
use Rattle.state_laws.specs.Each.{Each}
use Rattle.state_laws.proofs.Lists.{each_weak}
use Rattle.state_laws.proofs.Lives.{In}
use Rattle.state_laws.proofs.Rising.{IsRising, absent, is_at_not, is_at_same, is_at_self, none_removed}
use Rattle.argo_laws.specs.Steps.{StandsWith}

later_apart : (d : ℕ) (e : ℕ × ℕ) (es : Notices) → d ≡ e.0 → Each (λ (f : ℕ × ℕ). e.0 < f.0) es → Each (λ (f : ℕ × ℕ). d ≢ f.0) es
later_apart d e es same rising = each_weak (λ (f : ℕ × ℕ). e.0 < f.0) (λ (f : ℕ × ℕ). d ≢ f.0) (λ f h s. omega arith) es rising

filter_apart : (kept : ℕ × ℕ → Bool) (d : ℕ) (ns : Notices) → Each (λ (f : ℕ × ℕ). d ≢ f.0) ns → size_of (filter kept ns) d ≡ None
filter_apart kept d [] none = refl
filter_apart kept d (e ∷ es) none = by (kept e) (filter_apart kept d es none.1) where
  by : (b : Bool) → size_of (filter kept es) d ≡ None → size_of (cond b (e ∷ filter kept es) (filter kept es)) d ≡ None
  by true rest = ap (λ (b : Bool). cond b (Some e.1) (size_of (filter kept es) d)) (is_at_not d e.0 none.0) ∙ rest
  by false rest = rest

-- the notice of a domain is among those that are kept where it passes, and else it is gone
pub size_kept : (kept : ℕ × ℕ → Bool) (ns : Notices) (d size : ℕ) → size_of ns d ≡ Some size → kept (d, size) ≡ true → size_of (filter kept ns) d ≡ Some size
size_kept kept [] d size h keeps = cc
size_kept kept (e ∷ es) d size h keeps = by (is_at (nat_cmp d) e.0) refl h (size_kept kept es d size) (kept e) refl where
  by : (a : Bool) → is_at (nat_cmp d) e.0 ≡ a → cond a (Some e.1) (size_of es d) ≡ Some size → (size_of es d ≡ Some size → kept (d, size) ≡ true → size_of (filter kept es) d ≡ Some size)
      → (k : Bool) → kept e ≡ k → size_of (cond k (e ∷ filter kept es) (filter kept es)) d ≡ Some size
  by true is h rest true keep = ap (λ (b : Bool). cond b (Some e.1) (size_of (filter kept es) d)) is ∙ h
  by true is h rest false keep =
      let same = is_at_same d e.0 is in
      let size_is : e.1 ≡ size = cc in
      let k : kept e ≡ true = subst (λ n. kept (n, e.1) ≡ true) same (subst (λ n. kept (d, n) ≡ true) (sym size_is) keeps) in
      cc
  by false is h rest true keep = ap (λ (b : Bool). cond b (Some e.1) (size_of (filter kept es) d)) is ∙ rest h keeps
  by false is h rest false keep = rest h keeps

pub size_gone : (kept : ℕ × ℕ → Bool) (ns : Notices) (d size : ℕ) → IsRising ns → size_of ns d ≡ Some size → kept (d, size) ≡ false → size_of (filter kept ns) d ≡ None
size_gone kept [] d size rising h keeps = refl
size_gone kept (e ∷ es) d size rising h keeps = by (is_at (nat_cmp d) e.0) refl h (size_gone kept es d size rising.1) (kept e) refl where
  by : (a : Bool) → is_at (nat_cmp d) e.0 ≡ a → cond a (Some e.1) (size_of es d) ≡ Some size → (size_of es d ≡ Some size → kept (d, size) ≡ false → size_of (filter kept es) d ≡ None)
      → (k : Bool) → kept e ≡ k → size_of (cond k (e ∷ filter kept es) (filter kept es)) d ≡ None
  by true is h rest true keep =
      let same = is_at_same d e.0 is in
      let size_is : e.1 ≡ size = cc in
      let k : kept e ≡ false = subst (λ n. kept (n, e.1) ≡ false) same (subst (λ n. kept (d, n) ≡ false) (sym size_is) keeps) in
      cc
  by true is h rest false keep = filter_apart kept d es (later_apart d e es (is_at_same d e.0 is) rising.0)
  by false is h rest true keep = ap (λ (b : Bool). cond b (Some e.1) (size_of (filter kept es) d)) is ∙ rest h keeps
  by false is h rest false keep = rest h keeps

-- what is kept stood so
pub size_was : (kept : ℕ × ℕ → Bool) (ns : Notices) (d size : ℕ) → IsRising ns → size_of (filter kept ns) d ≡ Some size → size_of ns d ≡ Some size
size_was kept [] d size rising h = h
size_was kept (e ∷ es) d size rising h = by (is_at (nat_cmp d) e.0) refl (kept e) refl h (size_was kept es d size rising.1) where
  by : (a : Bool) → is_at (nat_cmp d) e.0 ≡ a → (k : Bool) → kept e ≡ k → size_of (cond k (e ∷ filter kept es) (filter kept es)) d ≡ Some size
      → (size_of (filter kept es) d ≡ Some size → size_of es d ≡ Some size) → cond a (Some e.1) (size_of es d) ≡ Some size
  by true is true keep h rest = sym (ap (λ (b : Bool). cond b (Some e.1) (size_of (filter kept es) d)) is) ∙ h
  by true is false keep h rest =
      let none = filter_apart kept d es (later_apart d e es (is_at_same d e.0 is) rising.0) in
      cc
  by false is true keep h rest = rest (sym (ap (λ (b : Bool). cond b (Some e.1) (size_of (filter kept es) d)) is) ∙ h)
  by false is false keep h rest = rest h

-- a domain of a notice that passes is among those of the notices that pass
pub dom_in : (kept : ℕ × ℕ → Bool) (ns : Notices) (d size : ℕ) → size_of ns d ≡ Some size → kept (d, size) ≡ true → In d (doms_of (filter kept ns))
dom_in kept [] d size h keeps = cc
dom_in kept (e ∷ es) d size h keeps = by (is_at (nat_cmp d) e.0) refl h (dom_in kept es d size) (kept e) refl where
  by : (a : Bool) → is_at (nat_cmp d) e.0 ≡ a → cond a (Some e.1) (size_of es d) ≡ Some size → (size_of es d ≡ Some size → kept (d, size) ≡ true → In d (doms_of (filter kept es)))
      → (k : Bool) → kept e ≡ k → In d (doms_of (cond k (e ∷ filter kept es) (filter kept es)))
  by true is h rest true keep = inl (sym (is_at_same d e.0 is))
  by true is h rest false keep =
      let same = is_at_same d e.0 is in
      let size_is : e.1 ≡ size = cc in
      let k : kept e ≡ true = subst (λ n. kept (n, e.1) ≡ true) same (subst (λ n. kept (d, n) ≡ true) (sym size_is) keeps) in
      cc
  by false is h rest true keep = inr (rest h keeps)
  by false is h rest false keep = rest h keeps

-- and has a notice that passes
pub record Passes (kept : ℕ × ℕ → Bool) (ns : Notices) (d : ℕ) : Type 0 where
  pub size : ℕ
  pub stood : size_of ns d ≡ Some size
  pub passes : kept (d, size) ≡ true

pub in_doms : (kept : ℕ × ℕ → Bool) (ns : Notices) (d : ℕ) → IsRising ns → In d (doms_of (filter kept ns)) → Passes kept ns d
in_doms kept [] d rising i = absurd i
in_doms kept (e ∷ es) d rising i = by (kept e) refl i (in_doms kept es d rising.1) where
  later : Passes kept es d → Passes kept (e ∷ es) d
  later p = at (is_at (nat_cmp d) e.0) refl where
    at : (a : Bool) → is_at (nat_cmp d) e.0 ≡ a → Passes kept (e ∷ es) d
    at true is = let none = absent d es (later_apart d e es (is_at_same d e.0 is) rising.0) in let s = p.stood in cc
    at false is = record { size = p.size; stood = ap (λ (b : Bool). cond b (Some e.1) (size_of es d)) is ∙ p.stood; passes = p.passes }

  by : (k : Bool) → kept e ≡ k → In d (doms_of (cond k (e ∷ filter kept es) (filter kept es))) → (In d (doms_of (filter kept es)) → Passes kept es d) → Passes kept (e ∷ es) d
  by true keep i rest =
      ⊎_elim (λ same. record {
        size = e.1;
        stood = ap (λ (b : Bool). cond b (Some e.1) (size_of es d)) (subst (λ k. is_at (nat_cmp k) e.0 ≡ true) same (is_at_self e.0));
        passes = subst (λ n. kept (n, e.1) ≡ true) same keep;
      }) (λ more. later (rest more)) i
  by false keep i rest = later (rest i)

-- ---- a notice is set, or withdrawn

insert_same : (ns : Notices) (d v : ℕ) → size_of (insert_entry nat_cmp ns d v) d ≡ Some v
insert_same [] d v = ap (λ (b : Bool). cond b (Some v) None) (is_at_self d)
insert_same (e ∷ es) d v = by (nat_cmp d e.0) refl (insert_same es d v) where
  by : (o : Ordering) → nat_cmp d e.0 ≡ o → size_of (insert_entry nat_cmp es d v) d ≡ Some v → size_of (match_ordering o ((d, v) ∷ e ∷ es) ((e.0, v) ∷ es) (e ∷ insert_entry nat_cmp es d v)) d ≡ Some v
  by Less is rest = ap (λ (b : Bool). cond b (Some v) (size_of (e ∷ es) d)) (is_at_self d)
  by Equal is rest = ap (λ (o : Ordering). cond (is_eq o) (Some v) (size_of es d)) is
  by Greater is rest = ap (λ (o : Ordering). cond (is_eq o) (Some e.1) (size_of (insert_entry nat_cmp es d v) d)) is ∙ rest

insert_other : (ns : Notices) (d v q : ℕ) → q ≢ d → size_of (insert_entry nat_cmp ns d v) q ≡ size_of ns q
insert_other [] d v q apart = ap (λ (b : Bool). cond b (Some v) None) (is_at_not q d apart)
insert_other (e ∷ es) d v q apart = by (nat_cmp d e.0) refl (insert_other es d v q apart) where
  by : (o : Ordering) → nat_cmp d e.0 ≡ o → size_of (insert_entry nat_cmp es d v) q ≡ size_of es q
      → size_of (match_ordering o ((d, v) ∷ e ∷ es) ((e.0, v) ∷ es) (e ∷ insert_entry nat_cmp es d v)) q ≡ size_of (e ∷ es) q
  by Less is rest = ap (λ (b : Bool). cond b (Some v) (size_of (e ∷ es) q)) (is_at_not q d apart)
  by Equal is rest =
      let same : d ≡ e.0 = is_at_same d e.0 (ap is_eq is) in
      let n = is_at_not q e.0 (λ h. apart (h ∙ sym same)) in
      ap (λ (b : Bool). cond b (Some v) (size_of es q)) n ∙ sym (ap (λ (b : Bool). cond b (Some e.1) (size_of es q)) n)
  by Greater is rest = ap (cond (is_at (nat_cmp q) e.0) (Some e.1)) rest

-- a notice of the domain itself is there, and of others as they were
pub noted_stands : (ns : Notices) (d n q size : ℕ) → size_of ns q ≡ Some size → StandsWith size (size_of (noted ns d n) q)
noted_stands ns d n q size h =
    ⊎_elim (λ same. at_d same h) (λ apart. subst (StandsWith size) (sym (insert_other ns d (max n (unwrap_or (size_of ns d) 0)) q apart ∙ h)) (omega arith)) (cases_eq q d) where
      at_d : q ≡ d → size_of ns q ≡ Some size → StandsWith size (size_of (noted ns d n) q)
      at_d same h =
          let old : unwrap_or (size_of ns d) 0 ≡ size = ap (λ (o : Option ℕ). unwrap_or o 0) (subst (λ k. size_of ns k ≡ Some size) same h) in
          let new : size_of (noted ns d n) q ≡ Some (max n (unwrap_or (size_of ns d) 0)) = subst (λ k. size_of (noted ns d n) k ≡ Some (max n (unwrap_or (size_of ns d) 0))) (sym same) (insert_same ns d (max n (unwrap_or (size_of ns d) 0))) in
          subst (StandsWith size) (sym new) (omega arith)

pub noted_was : (ns : Notices) (d n q size : ℕ) → size_of (noted ns d n) q ≡ Some size → (q ≡ d) ⊎ (size_of ns q ≡ Some size)
noted_was ns d n q size h = ⊎_elim (λ same. inl same) (λ apart. inr (sym (insert_other ns d (max n (unwrap_or (size_of ns d) 0)) q apart) ∙ h)) (cases_eq q d)

pub withdrawn_same : (ns : Notices) (d : ℕ) → IsRising ns → size_of (withdrawn ns d) d ≡ None
withdrawn_same ns d rising = absent d (withdrawn ns d) (none_removed d ns rising)

pub withdrawn_other : (ns : Notices) (d q : ℕ) → q ≢ d → size_of (withdrawn ns d) q ≡ size_of ns q
withdrawn_other [] d q apart = refl
withdrawn_other (e ∷ es) d q apart = by (is_at (nat_cmp d) e.0) refl (withdrawn_other es d q apart) where
  by : (b : Bool) → is_at (nat_cmp d) e.0 ≡ b → size_of (withdrawn es d) q ≡ size_of es q → size_of (cond b es (e ∷ withdrawn es d)) q ≡ size_of (e ∷ es) q
  by true is rest = let same = is_at_same d e.0 is in sym (ap (λ (b : Bool). cond b (Some e.1) (size_of es q)) (is_at_not q e.0 (λ h. apart (h ∙ sym same))))
  by false is rest = ap (cond (is_at (nat_cmp q) e.0) (Some e.1)) rest

pub still : (ns : Notices) (d size : ℕ) → size_of ns d ≡ Some size → StandsWith size (size_of ns d)
still ns d size h = subst (StandsWith size) (sym h) (omega arith)
