-- Laws of what holds of every element of a list, and of every two.
use Rattle.std.proofs.Common.{◌≡◌, Bool, true, false, cond, List, [], ◌∷◌, ◌++◌, map, filter, Some, None, refl, ap, ◌∙◌, subst}
use Rattle.std.specs.declared.cmp.Ordering.{Ordering}
use Rattle.std.specs.declared.cmp.Ordering.TheVariants.{Less, Equal, Greater}
use Rattle.std.specs.Ordering.{match_ordering, is_eq}
use Rattle.std.specs.Map.{lookup, set_value, remove_entry}
use Rattle.std.specs.BTreeMap.{is_at, insert_entry}
use Rattle.state_laws.specs.Each.{Each, EachTwo}

module _ {X : Type 0} where
  pub each_weak : (P Q : X → Type 0) → ((x : X) → P x → Q x) → (xs : List X) → Each P xs → Each Q xs
  each_weak P Q weak [] all = tt
  each_weak P Q weak (x ∷ xs) all = (weak x all.0, each_weak P Q weak xs all.1)

  -- of two that hold of every element, a third
  pub each_both : (P Q R : X → Type 0) → ((x : X) → P x → Q x → R x) → (xs : List X) → Each P xs → Each Q xs → Each R xs
  each_both P Q R both [] p q = tt
  each_both P Q R both (x ∷ xs) p q = (both x p.0 q.0, each_both P Q R both xs p.1 q.1)

  pub each_filter : (P : X → Type 0) (kept : X → Bool) (xs : List X) → Each P xs → Each P (filter kept xs)
  each_filter P kept [] all = tt
  each_filter P kept (x ∷ xs) all = by (kept x) (each_filter P kept xs all.1) where
    by : (b : Bool) → Each P (filter kept xs) → Each P (cond b (x ∷ filter kept xs) (filter kept xs))
    by true rest = (all.0, rest)
    by false rest = rest

  -- what is kept passes
  pub each_kept : (P Q : X → Type 0) (kept : X → Bool) → ((x : X) → kept x ≡ true → P x → Q x) → (xs : List X) → Each P xs → Each Q (filter kept xs)
  each_kept P Q kept passes [] all = tt
  each_kept P Q kept passes (x ∷ xs) all = by (kept x) refl (each_kept P Q kept passes xs all.1) where
    by : (b : Bool) → kept x ≡ b → Each Q (filter kept xs) → Each Q (cond b (x ∷ filter kept xs) (filter kept xs))
    by true is rest = (passes x is all.0, rest)
    by false is rest = rest

  pub two_filter : (R : X → X → Type 0) (kept : X → Bool) (xs : List X) → EachTwo R xs → EachTwo R (filter kept xs)
  two_filter R kept [] all = tt
  two_filter R kept (x ∷ xs) all = by (kept x) (two_filter R kept xs all.1) where
    by : (b : Bool) → EachTwo R (filter kept xs) → EachTwo R (cond b (x ∷ filter kept xs) (filter kept xs))
    by true rest = (each_filter (R x) kept xs all.0, rest)
    by false rest = rest

  -- one element among others
  pub each_mid : (P : X → Type 0) (x : X) (before after : List X) → Each P (before ++ x ∷ after) → P x × Each P (before ++ after)
  each_mid P x [] after all = (all.0, all.1)
  each_mid P x (y ∷ before) after all = let h = each_mid P x before after all.1 in (h.0, (all.0, h.1))

  pub each_put : (P : X → Type 0) (x : X) (before after : List X) → P x → Each P (before ++ after) → Each P (before ++ x ∷ after)
  each_put P x [] after p all = (p, all)
  each_put P x (y ∷ before) after p all = (all.0, each_put P x before after p all.1)

  module _ (R : X → X → Type 0) (turned : (x y : X) → R x y → R y x) where
    pub two_mid : (x : X) (before after : List X) → EachTwo R (before ++ x ∷ after) → Each (R x) (before ++ after) × EachTwo R (before ++ after)
    two_mid x [] after all = (all.0, all.1)
    two_mid x (y ∷ before) after all =
        let h = two_mid x before after all.1 in
        let one = each_mid (R y) x before after all.0 in
        ((turned y x one.0, h.0), (one.1, h.1))

    pub two_put : (x : X) (before after : List X) → Each (R x) (before ++ after) → EachTwo R (before ++ after) → EachTwo R (before ++ x ∷ after)
    two_put x [] after one all = (one, all)
    two_put x (y ∷ before) after one all =
        (each_put (R y) x before after (turned x y one.0) all.0, two_put x before after one.1 all.1)

module _ {X Y : Type 0} where
  pub each_map : (P : X → Type 0) (Q : Y → Type 0) (f : X → Y) → ((x : X) → P x → Q (f x)) → (xs : List X) → Each P xs → Each Q (map f xs)
  each_map P Q f keeps [] all = tt
  each_map P Q f keeps (x ∷ xs) all = (keeps x all.0, each_map P Q f keeps xs all.1)

  pub two_map : (R : X → X → Type 0) (S : Y → Y → Type 0) (f : X → Y) → ((x y : X) → R x y → S (f x) (f y)) → (xs : List X) → EachTwo R xs → EachTwo S (map f xs)
  two_map R S f keeps [] all = tt
  two_map R S f keeps (x ∷ xs) all = (each_map (R x) (S (f x)) f (keeps x) xs all.0, two_map R S f keeps xs all.1)

-- an entry that its key finds, among the others
pub record Found {K X : Type 0} (test : K → Bool) (es : List (K × X)) (x : X) : Type 0 where
  pub key : K
  pub before : List (K × X)
  pub after : List (K × X)
  pub is_key : test key ≡ true
  pub whole : es ≡ before ++ (key, x) ∷ after
  pub changed : (w : X) → set_value test es w ≡ before ++ (key, w) ∷ after
  pub without : remove_entry test es ≡ before ++ after

pub found : {K X : Type 0} (test : K → Bool) (es : List (K × X)) (x : X) → lookup test es ≡ Some x → Found test es x
found test [] x here = cc
found {K} {X} test (e ∷ es) x here = by (test e.0) refl here (found test es x) where
  by : (b : Bool) → test e.0 ≡ b → cond b (Some e.1) (lookup test es) ≡ Some x → (lookup test es ≡ Some x → Found test es x) → Found test (e ∷ es) x
  by true is here rest =
      let same : e.1 ≡ x = cc in
      record {
        key = e.0;
        before = [];
        after = es;
        is_key = is;
        whole = ap (λ (v : X). (e.0, v) ∷ es) same;
        changed = λ w. ap (λ (b : Bool). cond b ((e.0, w) ∷ es) (e ∷ set_value test es w)) is;
        without = ap (λ (b : Bool). cond b es (e ∷ remove_entry test es)) is;
      }
  by false is here rest =
      let h = rest here in
      record {
        key = h.key;
        before = e ∷ h.before;
        after = h.after;
        is_key = h.is_key;
        whole = ap (λ r. e ∷ r) h.whole;
        changed = λ w. ap (λ (b : Bool). cond b ((e.0, w) ∷ es) (e ∷ set_value test es w)) is ∙ ap (λ r. e ∷ r) (h.changed w);
        without = ap (λ (b : Bool). cond b es (e ∷ remove_entry test es)) is ∙ ap (λ r. e ∷ r) h.without;
      }

-- a new entry, between those that stood
pub record Added {K X : Type 0} (cmp : K → K → Ordering) (es : List (K × X)) (k : K) (x : X) : Type 0 where
  pub before : List (K × X)
  pub after : List (K × X)
  pub parts : es ≡ before ++ after
  pub whole : insert_entry cmp es k x ≡ before ++ (k, x) ∷ after

pub added : {K X : Type 0} (cmp : K → K → Ordering) (es : List (K × X)) (k : K) (x : X) → lookup (is_at (cmp k)) es ≡ None → Added cmp es k x
added cmp [] k x none = record { before = []; after = []; parts = refl; whole = refl }
added {K} {X} cmp (e ∷ es) k x none = by (cmp k e.0) refl none (added cmp es k x) where
  by : (o : Ordering) → cmp k e.0 ≡ o → cond (is_eq o) (Some e.1) (lookup (is_at (cmp k)) es) ≡ None → (lookup (is_at (cmp k)) es ≡ None → Added cmp es k x) → Added cmp (e ∷ es) k x
  by Less is none rest = record {
    before = [];
    after = e ∷ es;
    parts = refl;
    whole = ap (λ (o : Ordering). match_ordering o ((k, x) ∷ e ∷ es) ((e.0, x) ∷ es) (e ∷ insert_entry cmp es k x)) is;
  }
  by Equal is none rest = cc
  by Greater is none rest =
      let h = rest none in
      record {
        before = e ∷ h.before;
        after = h.after;
        parts = ap (λ r. e ∷ r) h.parts;
        whole = ap (λ (o : Ordering). match_ordering o ((k, x) ∷ e ∷ es) ((e.0, x) ∷ es) (e ∷ insert_entry cmp es k x)) is ∙ ap (λ r. e ∷ r) h.whole;
      }

module _ {K X : Type 0} where
  -- a value that passes is written in another's place
  pub each_set : (P : K × X → Type 0) (test : K → Bool) (es : List (K × X)) (w : X) → Each P es → ((k : K) → P (k, w)) → Each P (set_value test es w)
  each_set P test [] w all passes = tt
  each_set P test (e ∷ es) w all passes = by (test e.0) (each_set P test es w all.1 passes) where
    by : (b : Bool) → Each P (set_value test es w) → Each P (cond b ((e.0, w) ∷ es) (e ∷ set_value test es w))
    by true rest = (passes e.0, all.1)
    by false rest = (all.0, rest)

  -- what is said of keys alone stays when a value changes
  each_keys : (P : K → Type 0) (test : K → Bool) (es : List (K × X)) (w : X) → Each (λ (e : K × X). P e.0) es → Each (λ (e : K × X). P e.0) (set_value test es w)
  each_keys P test [] w all = tt
  each_keys P test (e ∷ es) w all = by (test e.0) (each_keys P test es w all.1) where
    by : (b : Bool) → Each (λ (e : K × X). P e.0) (set_value test es w) → Each (λ (e : K × X). P e.0) (cond b ((e.0, w) ∷ es) (e ∷ set_value test es w))
    by true rest = (all.0, all.1)
    by false rest = (all.0, rest)

  pub two_keys : (R : K → K → Type 0) (test : K → Bool) (es : List (K × X)) (w : X) → EachTwo (λ (a b : K × X). R a.0 b.0) es → EachTwo (λ (a b : K × X). R a.0 b.0) (set_value test es w)
  two_keys R test [] w all = tt
  two_keys R test (e ∷ es) w all = by (test e.0) (each_keys (R e.0) test es w all.0) (two_keys R test es w all.1) where
    by : (b : Bool) → Each (λ (f : K × X). R e.0 f.0) (set_value test es w) → EachTwo (λ (a b : K × X). R a.0 b.0) (set_value test es w)
        → EachTwo (λ (a b : K × X). R a.0 b.0) (cond b ((e.0, w) ∷ es) (e ∷ set_value test es w))
    by true one rest = (all.0, all.1)
    by false one rest = (one, rest)

  -- what holds of every entry holds of one that is found
  pub each_found : (P : K × X → Type 0) (test : K → Bool) (es : List (K × X)) (x : X) → lookup test es ≡ Some x → Each P es → (k : K) × (test k ≡ true) × P (k, x)
  each_found P test es x here all =
      let f = found test es x here in
      let h = each_mid P (f.key, x) f.before f.after (subst (Each P) f.whole all) in
      (f.key, f.is_key, h.0)
