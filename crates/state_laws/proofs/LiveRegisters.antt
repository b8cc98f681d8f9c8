-- Laws of registrations: a ring that starts, on pages that are free for it, leaves what its owner has as it should be.
use Rattle.std.proofs.Common.{◌≡◌, ◌≢◌, ℕ, ◌+◌, ◌/◌, ◌<◌, Bool, true, false, ◌||◌, ◌&&◌, not, cond, if◌then◌else◌, nat_le, IsTrue, List, [], ◌∷◌, ◌++◌, length, is_some, Option, Some, None, refl, sym, ap, subst, arith}
use Rattle.std.specs.List.{list_all, list_any}
use Rattle.std.specs.Map.{lookup}
use Rattle.std.specs.BTreeMap.{is_at}
use Rattle.std.proofs.lemmas.Bool.{or_parts, and_parts}
use Rattle.std.proofs.lemmas.Bool.Decides.{nat_tests}
use Rattle.argo_base.specs.declared.errno.Errno.TheVariants.{Exist, NoSpc, Inval}
use Rattle.argo_base.specs.declared.ring_key.RingKey.{RingKey}
use Rattle.argo_base.specs.Match.{key_cmp}
use Rattle.argo_base.specs.Slots.{is_legal, page_count}
use Rattle.argo_model.specs.declared.action.Outcome.TheVariants.{Done}
use Rattle.argo_model.specs.Rules.Effects.{answered, refuse_if}
use Rattle.argo_model.specs.Rules.Limits.{most_rings}
use Rattle.argo_model.specs.Rules.Register.{own_ring, has_ring, has_number, all_differ, is_free_for, are_free_for, resized, register_anew, new_ring, register_new, stands_so, register_allowed, register_own}
use Rattle.argo_model.specs.Rules.RingBytes.{paged, laid}
use Rattle.argo_model.specs.Rules.Starts.{started}
use Rattle.argo_model.specs.Rules.State.{Live, Ring, has_page}
use Rattle.state_laws.specs.Each.{Each, EachTwo}
use Rattle.state_laws.specs.Valid.{IsRing, IsLive, AreApart, ShareNone}
use Rattle.state_laws.proofs.Lists.{each_weak, each_both, each_mid, added}
use Rattle.state_laws.proofs.Pages.{AreThere, length-ring_bytes}
use Rattle.state_laws.proofs.RingActs.{IsFine, fine_started, resized_notices, no_notices}
use Rattle.state_laws.proofs.Lives.{key_other, key_self, put_among, length-mid, chosen}
use Rattle.state_laws.proofs.LiveActs.{KeepsLive, live_if}

not_false : (b : Bool) → not b ≡ true → b ≡ false
not_false true h = cc
not_false false h = refl

not_true : (b : Bool) → not b ≡ false → b ≡ true
not_true true h = refl
not_true false h = cc

-- a page is in no other ring
abbrev others_have : RingKey → ℕ → RingKey × Ring → Bool
others_have key page e = not (is_at (key_cmp key) e.0) && has_number e.1.pages page

-- what it tells that pages are free for a ring
record AreFree (live : Live) (key : RingKey) (pages : List ℕ) : Type 0 where
  there : AreThere live.bytes pages
  differ : IsTrue (all_differ pages)
  free : Each (λ page. list_any (others_have key page) live.rings ≡ false) pages

are_free : (live : Live) (key : RingKey) (pages : List ℕ) → are_free_for live key pages ≡ true → AreFree live key pages
are_free live key pages h = record { there = there pages p.0; differ = p.1; free = free pages p.0 } where
  p : (list_all (is_free_for live key) pages ≡ true) × (all_differ pages ≡ true)
  p = and_parts (list_all (is_free_for live key) pages) (all_differ pages) h

  below : (page : ℕ) → has_page live page ≡ true → page < length live.bytes / 4096
  below page h = grind (arith, nat_tests)

  there : (ps : List ℕ) → list_all (is_free_for live key) ps ≡ true → AreThere live.bytes ps
  there [] h = tt
  there (q ∷ qs) h =
      let g = and_parts (is_free_for live key q) (list_all (is_free_for live key) qs) h in
      let f = and_parts (has_page live q) (not (list_any (others_have key q) live.rings)) g.0 in
      (below q f.0, there qs g.1)

  free : (ps : List ℕ) → list_all (is_free_for live key) ps ≡ true → Each (λ page. list_any (others_have key page) live.rings ≡ false) ps
  free [] h = tt
  free (q ∷ qs) h =
      let g = and_parts (is_free_for live key q) (list_all (is_free_for live key) qs) h in
      let f = and_parts (has_page live q) (not (list_any (others_have key q) live.rings)) g.0 in
      (not_false (list_any (others_have key q) live.rings) f.1, free qs g.1)

-- so every ring of another key shares none of them
share_none : (key : RingKey) (pages : List ℕ) (rings : List (RingKey × Ring)) → Each (λ page. list_any (others_have key page) rings ≡ false) pages
    → Each (λ (o : RingKey × Ring). key ≢ o.0 → ShareNone pages o.1.pages) rings
share_none key pages [] free = tt
share_none key pages (e ∷ es) free = (
  λ apart. each_weak (λ page. (others_have key page e || list_any (others_have key page) es) ≡ false) (λ page. has_number e.1.pages page ≡ false)
      (λ page h. one page apart (or_parts (others_have key page e) (list_any (others_have key page) es) h).0) pages free,
  share_none key pages es (each_weak (λ page. (others_have key page e || list_any (others_have key page) es) ≡ false) (λ page. list_any (others_have key page) es ≡ false)
      (λ page h. (or_parts (others_have key page e) (list_any (others_have key page) es) h).1) pages free),
) where
  clear : (b c : Bool) → b ≡ false → (not b && c) ≡ false → c ≡ false
  clear true c h g = cc
  clear false c h g = g

  one : (page : ℕ) → key ≢ e.0 → others_have key page e ≡ false → has_number e.1.pages page ≡ false
  one page apart h = clear (is_at (key_cmp key) e.0) (has_number e.1.pages page) (key_other key e.0 apart) h

-- a key that finds no ring is that of none
none_has : (key : RingKey) (rings : List (RingKey × Ring)) → lookup (is_at (key_cmp key)) rings ≡ None → Each (λ (o : RingKey × Ring). key ≢ o.0) rings
none_has key [] none = tt
none_has key (e ∷ es) none = by (is_at (key_cmp key) e.0) refl none (none_has key es) where
  by : (b : Bool) → is_at (key_cmp key) e.0 ≡ b → cond b (Some e.1) (lookup (is_at (key_cmp key)) es) ≡ None
      → (lookup (is_at (key_cmp key)) es ≡ None → Each (λ (o : RingKey × Ring). key ≢ o.0) es) → Each (λ (o : RingKey × Ring). key ≢ o.0) (e ∷ es)
  by true is none rest = cc
  by false is none rest = (λ same. other same is, rest none) where
    other : key ≡ e.0 → is_at (key_cmp key) e.0 ≡ false → ⊥
    other same is = let s : is_at (key_cmp key) e.0 ≡ true = subst (λ k. is_at (key_cmp key) k ≡ true) same (key_self key) in cc

module _ (alive : ℕ → Bool) (live : Live) (h : IsLive alive live) (key : RingKey) (len : ℕ) (pages : List ℕ) (fit : IsTrue (is_legal len)) (paged_so : length pages ≡ page_count len) where
  -- a new ring
  new_live : are_free_for live key pages ≡ true → own_ring live key ≡ None → length live.rings < most_rings → KeepsLive alive (register_new live key len pages)
  new_live free none room =
      let f = are_free live key pages free in
      let p = started (paged live.bytes (new_ring live.next_serial len pages)) in
      let a = added key_cmp live.rings key p.ring none in
      let rings = subst (Each (IsRing alive live.bytes)) a.parts h.rings in
      let serials = each_weak (λ (e : RingKey × Ring). e.1.serial < live.next_serial) (λ (e : RingKey × Ring). e.1.serial < live.next_serial + 1) (λ e l. omega arith) live.rings h.serials_are_made in
      let keys = none_has key live.rings none in
      let share = share_none key pages live.rings f.free in
      let both = each_both (λ (o : RingKey × Ring). key ≢ o.0) (λ (o : RingKey × Ring). key ≢ o.0 → ShareNone pages o.1.pages) (λ (o : RingKey × Ring). (key ≢ o.0) × ShareNone pages o.1.pages)
      (λ o k s. (k, s k)) live.rings keys share in
      let apart = each_both (λ (o : RingKey × Ring). (key ≢ o.0) × ShareNone pages o.1.pages) (λ (o : RingKey × Ring). o.1.serial < live.next_serial) (AreApart (key, p.ring))
      (λ o k s. record { keys = k.0; serials = λ e. differs live.next_serial o.1.serial s e; pages = k.1 }) live.rings both h.serials_are_made in
      let fine : IsFine alive key p = fine_started alive key (paged live.bytes (new_ring live.next_serial len pages))
      (record { legal = fit; paged = paged_so; sized = length-ring_bytes live.bytes pages f.there; notices = no_notices alive key len }) in
      let n = length-mid (key, p.ring) a.before a.after in
      let m = ap length a.parts in
      record {
        left = subst (λ (rs : List (RingKey × Ring)). IsLive alive (record live { bytes = laid pages p.own live.bytes; next_serial = live.next_serial + 1; rings = rs })) (sym a.whole)
            (put_among alive live key p a.before a.after (live.next_serial + 1) (subst (Each (λ (e : RingKey × Ring). e.1.serial < live.next_serial + 1)) a.parts serials) rings (subst (EachTwo AreApart) a.parts h.apart)
            f.there f.differ fine (omega arith) (subst (Each (AreApart (key, p.ring))) a.parts apart) (omega arith));
      } where
        differs : (n m : ℕ) → m < n → n ≡ m → ⊥
        differs n m less same = omega arith

  -- a ring that stood
  anew_live : (r : Ring) → are_free_for live key pages ≡ true → own_ring live key ≡ Some r → KeepsLive alive (register_anew live key r len pages)
  anew_live r free here =
      let f = are_free live key pages free in
      let c = chosen alive live key r h here in
      let p = started (paged live.bytes (resized r len pages)) in
      let old = c.ring in
      let share = share_none key pages live.rings f.free in
      let others = (each_mid (λ (o : RingKey × Ring). key ≢ o.0 → ShareNone pages o.1.pages) (key, r) c.before c.after (subst (Each (λ (o : RingKey × Ring). key ≢ o.0 → ShareNone pages o.1.pages)) c.whole share)).1 in
      let apart = each_both (AreApart (key, r)) (λ (o : RingKey × Ring). key ≢ o.0 → ShareNone pages o.1.pages) (AreApart (key, p.ring))
      (λ o a s. record { keys = a.keys; serials = a.serials; pages = s a.keys }) (c.before ++ c.after) c.apart others in
      let fine : IsFine alive key p = fine_started alive key (paged live.bytes (resized r len pages))
      (record {
        legal = fit;
        paged = paged_so;
        sized = length-ring_bytes live.bytes pages f.there;
        notices = resized_notices alive key r.len len r.notices (record { rising = old.one_notice_each; few = old.few_notices; each = old.notices });
      }) in
      let n = length-mid (key, p.ring) c.before c.after in
      let m = length-mid (key, r) c.before c.after in
      let few = c.few in
      record {
        left = subst (λ (rs : List (RingKey × Ring)). IsLive alive (record live { bytes = laid pages p.own live.bytes; rings = rs })) (sym (c.changed p.ring))
            (put_among alive live key p c.before c.after live.next_serial c.serials c.rings c.two f.there f.differ fine c.made apart (omega arith));
      }

  allowed_live : are_free_for live key pages ≡ true → (o : Option Ring) → own_ring live key ≡ o → (not (is_some o) && nat_le most_rings (length live.rings)) ≡ false → KeepsLive alive (register_allowed live key len pages o)
  allowed_live free None none room = new_live free none (grind (arith, nat_tests))
  allowed_live free (Some r) here room = by (stands_so r len pages) where
    by : (b : Bool) → KeepsLive alive (if b then answered Done else register_anew live key r len pages)
    by true = record { left = tt }
    by false = anew_live r free here

  pub live_register : (fail_exist : Bool) → KeepsLive alive (register_own live key len pages fail_exist)
  live_register fail_exist =
      let rest = register_allowed live key len pages (own_ring live key) in
      let free = refuse_if (not (are_free_for live key pages)) Inval rest in
      let room = refuse_if (not (has_ring live key) && nat_le most_rings (length live.rings)) NoSpc free in
      live_if alive (has_ring live key && fail_exist) Exist room
      (λ a. live_if alive (not (has_ring live key) && nat_le most_rings (length live.rings)) NoSpc free
      (λ b. live_if alive (not (are_free_for live key pages)) Inval rest
      (λ c. allowed_live (not_true (are_free_for live key pages) c) (own_ring live key) refl b)))
