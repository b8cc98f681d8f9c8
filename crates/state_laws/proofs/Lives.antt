-- Laws of the rings of a domain: one of them is changed, comes in or goes out, and the others stay as they should be.
use Rattle.std.proofs.Common.{◌≡◌, ◌≢◌, ℕ, ◌+◌, ◌<◌, ◌≤◌, ◌⊎◌, Bool, true, false, ◌||◌, ◌==◌, cond, nat_lt, IsTrue, List, [], ◌∷◌, ◌++◌, length, filter, Option, Some, None, option_map, ⊎_elim, inl, inr, refl, sym, ap, ◌∙◌, subst, arith}
use Rattle.std.specs.declared.cmp.Ordering.{Ordering}
use Rattle.std.specs.declared.cmp.Ordering.TheVariants.{Less, Equal, Greater}
use Rattle.std.specs.Ordering.{nat_cmp, ordering_then, is_eq}
use Rattle.std.specs.Option.{option_or}
use Rattle.std.specs.List.{best_of}
use Rattle.std.specs.Map.{lookup, set_value, remove_entry}
use Rattle.std.specs.BTreeMap.{is_at}
use Rattle.std.proofs.lemmas.Bool.{or_parts, or_from, false_from_ne_true}
use Rattle.std.proofs.lemmas.Bool.Decides.{nat_tests}
use Rattle.argo_base.specs.declared.ring_key.RingKey.{RingKey}
use Rattle.argo_base.specs.Match.{key_cmp, key_of, match_of, wildcard, is_wildcard}
use Rattle.argo_model.specs.Rules.Limits.{most_rings}
use Rattle.argo_model.specs.Rules.Register.{has_number, all_differ}
use Rattle.argo_model.specs.Rules.RingBytes.{PagedRing, paged, ring_bytes, laid, set_paged}
use Rattle.argo_model.specs.Rules.State.{Live, Ring}
use Rattle.argo_model.specs.Rules.Sweep.{least_serial, next_ring}
use Rattle.state_laws.specs.Each.{Each, EachTwo}
use Rattle.state_laws.specs.Valid.{IsRing, IsLive, AreApart, ShareNone, KeepsUntaken}
use Rattle.state_laws.proofs.Lists.{each_weak, each_both, each_mid, each_put, two_mid, two_put, found}
use Rattle.state_laws.proofs.Pages.{AreThere, length-laid, laid_here, laid_apart, length-ring_bytes, still_there}
use Rattle.state_laws.proofs.Rising.{is_at_same, is_at_self}
use Rattle.state_laws.proofs.RingActs.{IsFine, IsStill}

-- ---- keys

then_equal : (o p : Ordering) → is_eq (ordering_then o p) ≡ true → (is_eq o ≡ true) × (is_eq p ≡ true)
then_equal Less p h = cc
then_equal Equal p h = (refl, h)
then_equal Greater p h = cc

pub key_same : (a b : RingKey) → is_at (key_cmp a) b ≡ true → a ≡ b
key_same a b h =
    let e = then_equal (nat_cmp a.port b.port) (nat_cmp a.partner b.partner) h in
    ap (λ p. key_of p a.partner) (is_at_same a.port b.port e.0) ∙ ap (λ p. key_of b.port p) (is_at_same a.partner b.partner e.1)

pub key_self : (a : RingKey) → is_at (key_cmp a) a ≡ true
key_self a =
    by (nat_cmp a.port a.port) (nat_cmp a.partner a.partner) (is_at_self a.port) (is_at_self a.partner) where
      by : (o p : Ordering) → is_eq o ≡ true → is_eq p ≡ true → is_eq (ordering_then o p) ≡ true
      by Less p h g = cc
      by Equal p h g = g
      by Greater p h g = cc

pub key_other : (a b : RingKey) → a ≢ b → is_at (key_cmp a) b ≡ false
key_other a b apart = false_from_ne_true (is_at (key_cmp a) b) (λ h. apart (key_same a b h))

-- ---- an element of a list

abbrev pub In : {X : Type 0} → X → List X → Type 0
In x [] = ⊥
In x (y ∷ ys) = (y ≡ x) ⊎ In x ys

module _ {X : Type 0} where
  pub each_in : (P : X → Type 0) (x : X) (xs : List X) → In x xs → Each P xs → P x
  each_in P x [] i all = absurd i
  each_in P x (y ∷ ys) i all = ⊎_elim (λ same. subst P same all.0) (λ later. each_in P x ys later all.1) i

  pub in_filter : (test : X → Bool) (x : X) (xs : List X) → In x (filter test xs) → In x xs × (test x ≡ true)
  in_filter test x [] i = absurd i
  in_filter test x (y ∷ ys) i = by (test y) refl i (in_filter test x ys) where
    by : (b : Bool) → test y ≡ b → In x (cond b (y ∷ filter test ys) (filter test ys)) → (In x (filter test ys) → In x ys × (test x ≡ true)) → In x (y ∷ ys) × (test x ≡ true)
    by true is i rest = ⊎_elim (λ same. (inl same, subst (λ z. test z ≡ true) same is)) (λ later. let h = rest later in (inr h.0, h.1)) i
    by false is i rest = let h = rest i in (inr h.0, h.1)

  -- the best of some is one of them
  pub best_in : (beats : X → X → Bool) (b : X) (xs : List X) → In (best_of beats b xs) (b ∷ xs)
  best_in beats b [] = inl refl
  best_in beats b (x ∷ xs) = by (beats x b) (best_in beats x xs) (best_in beats b xs) where
    by : (t : Bool) → In (best_of beats x xs) (x ∷ xs) → In (best_of beats b xs) (b ∷ xs) → In (best_of beats (cond t x b) xs) (b ∷ x ∷ xs)
    by true on off = inr on
    by false on off = ⊎_elim (λ same. inl same) (λ later. inr (inr later)) off

-- ---- rings that are found

-- rings whose keys differ are found by their keys
pub lookup_in : (rings : List (RingKey × Ring)) (e : RingKey × Ring) → EachTwo AreApart rings → In e rings → lookup (is_at (key_cmp e.0)) rings ≡ Some e.1
lookup_in [] e apart i = absurd i
lookup_in (f ∷ fs) e apart i = ⊎_elim (λ same. first same) (λ later. behind later (lookup_in fs e apart.1 later)) i where
  first : f ≡ e → lookup (is_at (key_cmp e.0)) (f ∷ fs) ≡ Some e.1
  first same =
      let k : is_at (key_cmp e.0) f.0 ≡ true = subst (λ (g : RingKey × Ring). is_at (key_cmp e.0) g.0 ≡ true) (sym same) (key_self e.0) in
      ap (λ (b : Bool). cond b (Some f.1) (lookup (is_at (key_cmp e.0)) fs)) k ∙ ap (λ (g : RingKey × Ring). Some g.1) same

  behind : In e fs → lookup (is_at (key_cmp e.0)) fs ≡ Some e.1 → lookup (is_at (key_cmp e.0)) (f ∷ fs) ≡ Some e.1
  behind later rest =
      let a = each_in (AreApart f) e fs later apart.0 in
      let k = key_other e.0 f.0 (λ same. a.keys (sym same)) in
      ap (λ (b : Bool). cond b (Some f.1) (lookup (is_at (key_cmp e.0)) fs)) k ∙ rest

pub next_in : (after : ℕ) (rings : List (RingKey × Ring)) (e : RingKey × Ring) → next_ring after rings ≡ Some e → In e rings
next_in after rings e found = (in_filter (λ (e : RingKey × Ring). nat_lt after e.1.serial) e rings (least (filter (λ (e : RingKey × Ring). nat_lt after e.1.serial) rings) found)).0 where
  least : (es : List (RingKey × Ring)) → least_serial es ≡ Some e → In e es
  least [] h = cc
  least (f ∷ fs) h =
      let b = best_of (λ (a b : RingKey × Ring). nat_lt a.1.serial b.1.serial) f fs in
      let same : b ≡ e = cc in
      subst (λ x. In x (f ∷ fs)) same (best_in (λ (a b : RingKey × Ring). nat_lt a.1.serial b.1.serial) f fs)

-- the ring that a sender meets: its key finds it, and is for the sender or for every domain
pub record Matched (rings : List (RingKey × Ring)) (sender : ℕ) (e : RingKey × Ring) : Type 0 where
  pub found : lookup (is_at (key_cmp e.0)) rings ≡ Some e.1
  pub allowed : IsTrue (is_wildcard e.0.partner || (e.0.partner == sender))

some_inj : (a b : RingKey × Ring) → Some a ≡ Some b → a ≡ b
some_inj a b h = cc

pub matched : (rings : List (RingKey × Ring)) (port sender : ℕ) (e : RingKey × Ring) → match_of rings port sender ≡ Some e → Matched rings sender e
matched rings port sender e met = by (lookup (is_at (key_cmp (key_of port sender))) rings) refl (lookup (is_at (key_cmp (key_of port wildcard))) rings) refl met where
  same_key : (partner : ℕ) (r : Ring) → lookup (is_at (key_cmp (key_of port partner))) rings ≡ Some r → (key_of port partner, r) ≡ e
      → IsTrue (is_wildcard partner || (partner == sender)) → Matched rings sender e
  same_key partner r here is may = subst (Matched rings sender) is (record { found = here; allowed = may })

  exact : IsTrue (is_wildcard sender || (sender == sender))
  exact = grind (arith, nat_tests)

  by : (o : Option Ring) → lookup (is_at (key_cmp (key_of port sender))) rings ≡ o → (w : Option Ring) → lookup (is_at (key_cmp (key_of port wildcard))) rings ≡ w
      → option_or (option_map (λ (r : Ring). (key_of port sender, r)) o) (option_map (λ (r : Ring). (key_of port wildcard, r)) w) ≡ Some e → Matched rings sender e
  by (Some r) here w there met = same_key sender r here (some_inj (key_of port sender, r) e met) exact
  by None none (Some r) here met = same_key wildcard r here (some_inj (key_of port wildcard, r) e met) refl
  by None none None gone met = cc

-- ---- pages in common

pub share_turned : (xs ys : List ℕ) → ShareNone xs ys → ShareNone ys xs
share_turned xs [] none = tt
share_turned xs (y ∷ ys) none =
    (one xs none, share_turned xs ys (each_weak (λ x. (y == x || has_number ys x) ≡ false) (λ x. has_number ys x ≡ false) (λ x h. (or_parts (y == x) (has_number ys x) h).1) xs none)) where
      turned : (x : ℕ) → (y == x) ≡ false → (x == y) ≡ false
      turned x h = grind (arith, nat_tests)

      one : (xs : List ℕ) → ShareNone xs (y ∷ ys) → has_number xs y ≡ false
      one [] none = refl
      one (x ∷ xs) none = or_from (x == y) (has_number xs y) (turned x (or_parts (y == x) (has_number ys x) none.0).0) (one xs none.1)

pub apart_turned : (a b : RingKey × Ring) → AreApart a b → AreApart b a
apart_turned a b h = record { keys = λ e. h.keys (sym e); serials = λ e. h.serials (sym e); pages = share_turned a.1.pages b.1.pages h.pages }

-- ---- one ring among others

pub length-mid : {X : Type 0} (x : X) (before after : List X) → length (before ++ x ∷ after) ≡ length (before ++ after) + 1
length-mid x [] after = omega arith
length-mid x (y ∷ before) after = let e = length-mid x before after in omega arith

module _ (alive : ℕ → Bool) where
  pub fine_of : (memory : List ℕ) (k : RingKey) (r : Ring) → IsRing alive memory (k, r) → IsFine alive k (paged memory r)
  fine_of memory k r h =
      record {
        legal = h.legal;
        paged = h.paged;
        sized = length-ring_bytes memory r.pages h.pages_are_there;
        tx_is_place = h.tx_is_place;
        untaken = h.untaken;
        notices = record { rising = h.one_notice_each; few = h.few_notices; each = h.notices };
      }

  -- a ring whose bytes are those
  pub ring_of : (memory : List ℕ) (k : RingKey) (p : PagedRing) → AreThere memory p.ring.pages → IsTrue (all_differ p.ring.pages)
      → ring_bytes memory p.ring.pages ≡ p.own → IsFine alive k p → IsRing alive memory (k, p.ring)
  ring_of memory k p there differ bytes f =
      let n = f.notices in
      record {
        legal = f.legal;
        paged = f.paged;
        pages_are_there = there;
        pages_differ = differ;
        tx_is_place = f.tx_is_place;
        untaken = subst (λ o. KeepsUntaken p.ring.clean o p.ring) (sym bytes) f.untaken;
        one_notice_each = n.rising;
        few_notices = n.few;
        notices = n.each;
      }

  -- a ring of which a change of the memory leaves the bytes
  pub ring_stays : (memory new : List ℕ) (e : RingKey × Ring) → length new ≡ length memory → ring_bytes new e.1.pages ≡ ring_bytes memory e.1.pages
      → IsRing alive memory e → IsRing alive new e
  ring_stays memory new e sized same h =
      record {
        legal = h.legal;
        paged = h.paged;
        pages_are_there = still_there memory new e.1.pages sized h.pages_are_there;
        pages_differ = h.pages_differ;
        tx_is_place = h.tx_is_place;
        untaken = subst (λ o. KeepsUntaken e.1.clean o e.1) (sym same) h.untaken;
        one_notice_each = h.one_notice_each;
        few_notices = h.few_notices;
        notices = h.notices;
      }

  module _ (memory : List ℕ) (k : RingKey) (p : PagedRing) (there : AreThere memory p.ring.pages) where
    -- the others, where this one is laid back
    pub others_stay : (others : List (RingKey × Ring)) → Each (AreApart (k, p.ring)) others → Each (IsRing alive memory) others
        → Each (IsRing alive (laid p.ring.pages p.own memory)) others
    others_stay others apart rings =
        each_both (AreApart (k, p.ring)) (IsRing alive memory) (IsRing alive (laid p.ring.pages p.own memory))
        (λ e a h. ring_stays memory (laid p.ring.pages p.own memory) e (length-laid p.ring.pages p.own memory there)
        (laid_apart p.ring.pages p.own memory e.1.pages there (share_turned p.ring.pages e.1.pages a.pages)) h)
        others apart rings

    pub laid_ring : IsTrue (all_differ p.ring.pages) → IsFine alive k p → IsRing alive (laid p.ring.pages p.own memory) (k, p.ring)
    laid_ring differ f =
        ring_of (laid p.ring.pages p.own memory) k p (still_there memory (laid p.ring.pages p.own memory) p.ring.pages (length-laid p.ring.pages p.own memory there) there) differ
        (laid_here p.ring.pages p.own memory there differ f.sized) f

  -- a ring among others, laid back
  pub put_among : (live : Live) (k : RingKey) (p : PagedRing) (before after : List (RingKey × Ring)) (next : ℕ)
      → Each (λ (e : RingKey × Ring). e.1.serial < next) (before ++ after) → Each (IsRing alive live.bytes) (before ++ after) → EachTwo AreApart (before ++ after)
      → AreThere live.bytes p.ring.pages → IsTrue (all_differ p.ring.pages) → IsFine alive k p → p.ring.serial < next → Each (AreApart (k, p.ring)) (before ++ after)
      → length (before ++ (k, p.ring) ∷ after) ≤ most_rings
      → IsLive alive (record live { bytes = laid p.ring.pages p.own live.bytes; next_serial = next; rings = before ++ (k, p.ring) ∷ after })
  put_among live k p before after next serials rings two there differ f made apart few =
      let memory = live.bytes in
      let new = laid p.ring.pages p.own memory in
      record {
        few_rings = few;
        serials_are_made = each_put (λ (e : RingKey × Ring). e.1.serial < next) (k, p.ring) before after made serials;
        rings = each_put (IsRing alive new) (k, p.ring) before after (laid_ring memory k p there differ f) (others_stay memory k p there (before ++ after) apart rings);
        apart = two_put AreApart apart_turned (k, p.ring) before after apart two;
      }

-- what is known of the ring that a key finds, and of the others
pub record Chosen (alive : ℕ → Bool) (live : Live) (key : RingKey) (r : Ring) : Type 0 where
  pub before : List (RingKey × Ring)
  pub after : List (RingKey × Ring)
  pub changed : (w : Ring) → set_value (is_at (key_cmp key)) live.rings w ≡ before ++ (key, w) ∷ after
  pub without : remove_entry (is_at (key_cmp key)) live.rings ≡ before ++ after
  pub whole : live.rings ≡ before ++ (key, r) ∷ after
  pub ring : IsRing alive live.bytes (key, r)
  pub made : r.serial < live.next_serial
  pub apart : Each (AreApart (key, r)) (before ++ after)
  pub serials : Each (λ (e : RingKey × Ring). e.1.serial < live.next_serial) (before ++ after)
  pub rings : Each (IsRing alive live.bytes) (before ++ after)
  pub two : EachTwo AreApart (before ++ after)
  pub few : length (before ++ (key, r) ∷ after) ≤ most_rings

pub chosen : (alive : ℕ → Bool) (live : Live) (key : RingKey) (r : Ring) → IsLive alive live → lookup (is_at (key_cmp key)) live.rings ≡ Some r → Chosen alive live key r
chosen alive live key r h here =
    let f = found (is_at (key_cmp key)) live.rings r here in
    let k = key_same key f.key f.is_key in
    let whole : live.rings ≡ f.before ++ (key, r) ∷ f.after = f.whole ∙ ap (λ q. f.before ++ (q, r) ∷ f.after) (sym k) in
    let serials = each_mid (λ (e : RingKey × Ring). e.1.serial < live.next_serial) (key, r) f.before f.after (subst (Each (λ (e : RingKey × Ring). e.1.serial < live.next_serial)) whole h.serials_are_made) in
    let rings = each_mid (IsRing alive live.bytes) (key, r) f.before f.after (subst (Each (IsRing alive live.bytes)) whole h.rings) in
    let two = two_mid AreApart apart_turned (key, r) f.before f.after (subst (EachTwo AreApart) whole h.apart) in
    record {
      before = f.before;
      after = f.after;
      changed = λ w. f.changed w ∙ ap (λ q. f.before ++ (q, w) ∷ f.after) (sym k);
      without = f.without;
      whole = whole;
      ring = rings.0;
      made = serials.0;
      apart = two.0;
      serials = serials.1;
      rings = rings.1;
      two = two.1;
      few = subst (λ (es : List (RingKey × Ring)). length es ≤ most_rings) whole h.few_rings;
    }

-- an act on the ring that a key finds
pub still_live : (alive : ℕ → Bool) (live : Live) (key : RingKey) (r : Ring) (q : PagedRing) → IsLive alive live → lookup (is_at (key_cmp key)) live.rings ≡ Some r
    → IsStill alive key (paged live.bytes r) q → IsLive alive (set_paged live key q)
still_live alive live key r q h here s =
    let c = chosen alive live key r h here in
    let ring = c.ring in
    let there = subst (AreThere live.bytes) (sym s.pages) ring.pages_are_there in
    let differ = subst (λ pages. IsTrue (all_differ pages)) (sym s.pages) ring.pages_differ in
    let apart = each_weak (AreApart (key, r)) (AreApart (key, q.ring))
    (λ o a. record { keys = a.keys; serials = λ e. a.serials (sym s.serial ∙ e); pages = subst (λ pages. ShareNone pages o.1.pages) (sym s.pages) a.pages }) (c.before ++ c.after) c.apart in
    let n = length-mid (key, r) c.before c.after in
    let m = length-mid (key, q.ring) c.before c.after in
    let few = c.few in
    subst (λ (rs : List (RingKey × Ring)). IsLive alive (record live { bytes = laid q.ring.pages q.own live.bytes; rings = rs })) (sym (c.changed q.ring))
    (put_among alive live key q c.before c.after live.next_serial c.serials c.rings c.two there differ s.fine (subst (λ n. n < live.next_serial) (sym s.serial) c.made) apart (omega arith))
