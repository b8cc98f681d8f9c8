-- Laws of reads of a domain's pages, and of puts into them.
use Rattle.std.proofs.Common.{◌≡◌, ◌≢◌, ℕ, zero, suc, ◌+◌, ◌*◌, ◌<◌, ◌≤◌, Bool, true, false, ◌==◌, cond, nat_lt, if◌then◌else◌, List, [], ◌∷◌, length, slice_index, slice_get, map, position, Option, Some, None, option_map, unwrap_or, ⊎_elim, refl, sym, ap, ◌∙◌, subst, arith}
use Rattle.std.specs.Prelude.{not, slice_set, is_some}
use Rattle.std.specs.List.{prefix_len}
use Rattle.std.proofs.lemmas.Bool.{cases_lt}
use Rattle.std.proofs.lemmas.Bool.Decides.{nat_tests}
use Rattle.std.proofs.lemmas.List.{length-set, get_or-set_same, get_or-set_other, set-get_or}
use Rattle.std.proofs.lemmas.List.Sums.{prefix_len_is}
use Rattle.std.proofs.lemmas.Option.{same_Some, none-some}
use Rattle.std.proofs.lemmas.Map.Made.{lookup-map_values, keys_of-map_values}
use Rattle.std.proofs.lemmas.Map.{keys-set_value}
use Rattle.std.specs.List.Sorted.{IsStrictlySortedBy}
use Rattle.std.specs.Map.{lookup, set_value, keys_of}
use Rattle.std.specs.BTreeMap.{is_at}
use Rattle.argo_base.specs.declared.ring_key.RingKey.{RingKey}
use Rattle.argo_base.specs.Match.{key_cmp, at_key}
use Rattle.argo_base.specs.Splice.{splice}
use Rattle.argo_model.specs.Rules.State.{Ring, Live, has_page}
use Rattle.argo_model.specs.Rules.Puts.{after_put, put_into, ring_after_put, clean_after, moves, touches, dirtied}
use Rattle.argo_model.specs.Rules.RingBytes.{PagedRing, paged as paged_in}
use Rattle.argo_model.specs.Rules.Act as acts
use Rattle.argo_model.specs.Rules.Effects.{after, leaving, answered}
use Rattle.argo_model.specs.declared.action.Outcome.TheVariants.{Done, Fault}
use Rattle.guest_pages.specs.Pages.{page_at, with_written}
use Rattle.guest_pages.specs.Rows.{numbers_of}
use Rattle.ring_core.specs.Held.{Held, paged, Becomes}
use Rattle.ring_core.specs.Puts.{put_in}
use Rattle.ring_core.proofs.TestLaws.{same_number, other_number}
use Rattle.ring_table.specs.Rows.{Held as Row, held, held_at, value_at, row_of}
use Rattle.ring_table.proofs.BucketLaws.{key_total, key_exact, key_is}
use Rattle.ring_table.proofs.EntryLaws.{same_entries}
use Rattle.paged_live.specs.declared.home.Home.{Home}
use Rattle.paged_live.specs.Homes.{home, home_at}
use Rattle.paged_live.specs.Store.{memory}
use Rattle.paged_live.specs.Parts.{Rows, Parts, stood, store_of, ring_of, rings_of, seen, IsParts, StandsStill}
use Rattle.paged_live.proofs.PageLaws.{Differ}
use Rattle.paged_live.proofs.SizeLaws.{page_is_there, inside_is, outside_is}
use Rattle.paged_live.proofs.StoreLaws.{same_key_or_not, pages_differ, at_home, elsewhere, not_own, put_memory}
use Rattle.paged_live.proofs.AloneLaws.{Put, put_store, put_alone_memory}
use Rattle.paged_live.proofs.MoveLaws.{Apart}
use Rattle.paged_live.proofs.RowLaws.{set_here, set_other, map-set_value}
use Rattle.paged_live.proofs.PartsLaws.{Found, found_stood, ring_seen, paged_seen, with_ring, with_value_is, changed_wrote}

-- ---- which ring a put touches

found_at : (n : ℕ) (len : ℕ) → n < len → cond (nat_lt n len) (Some n) None ≡ Some n
found_at n len below = let e : nat_lt n len ≡ true = grind (arith, nat_tests) in ap (λ b. cond b (Some n) None) e

found_none : (n : ℕ) (len : ℕ) → n ≡ len → cond (nat_lt n len) (Some n) None ≡ None
found_none n len at = let e : nat_lt n len ≡ false = grind (arith, nat_tests) in ap (λ b. cond b (Some n) None) e

at_place : (pages : List ℕ) (place page : ℕ) → Differ pages → place < length pages → slice_index pages place ≡ page → position (λ p. p == page) pages ≡ Some place
at_place pages place page differ below at =
    let n : prefix_len (λ p. not (p == page)) pages ≡ place =
    prefix_len_is (λ p. not (p == page)) pages place 0 (omega (arith, below))
    (λ k less. ap not (other_number (slice_index pages k) page (λ same. let e : k ≡ place = differ k place (omega (arith, less, below)) below (same ∙ sym at) in omega (arith, less, e))))
    (λ _. ap not (same_number (slice_index pages place) page at)) in
    ap (λ m. cond (nat_lt m (length pages)) (Some m) None) n ∙ found_at place (length pages) below

at_none : (pages : List ℕ) (page : ℕ) → Apart pages page → position (λ p. p == page) pages ≡ None
at_none pages page apart =
    let n : prefix_len (λ p. not (p == page)) pages ≡ length pages =
    prefix_len_is (λ p. not (p == page)) pages (length pages) 0 (omega arith)
    (λ k less. ap not (other_number (slice_index pages k) page (apart k less)))
    (λ past. absurd (omega (arith, past))) in
    ap (λ m. cond (nat_lt m (length pages)) (Some m) None) n ∙ found_none (length pages) (length pages) refl

-- a ring that has not the page stays
put_apart : (memory : List ℕ) (page off : ℕ) (bytes : List ℕ) (r : Ring) → Apart r.pages page → after_put memory page off bytes r ≡ r
put_apart memory page off bytes r apart =
    ap (λ o. unwrap_or (option_map (λ at. ring_after_put (paged_in memory r) at bytes) (option_map (λ place. 4096 * place + off) o)) r) (at_none r.pages page apart)

-- the ring that has it is written
put_at : (memory : List ℕ) (page off place : ℕ) (bytes : List ℕ) (r : Ring) → Differ r.pages → place < length r.pages → slice_index r.pages place ≡ page
    → after_put memory page off bytes r ≡ ring_after_put (paged_in memory r) (4096 * place + off) bytes
put_at memory page off place bytes r differ below at =
    ap (λ o. unwrap_or (option_map (λ at. ring_after_put (paged_in memory r) at bytes) (option_map (λ place. 4096 * place + off) o)) r) (at_place r.pages place page differ below at)

-- ---- all rings after a put

module _ {X : Type 0} (f : X → X) (es : List (RingKey × X)) (rising : IsStrictlySortedBy key_cmp (keys_of es)) where
  abbrev changed : List (RingKey × X)
  changed = map (λ e. (e.0, f e.1)) es

  changed_rising : IsStrictlySortedBy key_cmp (keys_of changed)
  changed_rising = subst (IsStrictlySortedBy key_cmp) (sym (keys_of-map_values f es)) rising

  -- where each stays, all do
  pub none_changed : ((q : RingKey) (x : X) → lookup (is_at (key_cmp q)) es ≡ Some x → f x ≡ x) → map (λ e. (e.0, f e.1)) es ≡ es
  none_changed stay = same_entries key_total key_exact changed es changed_rising rising by where
    by : (q : RingKey) → lookup (is_at (key_cmp q)) changed ≡ lookup (is_at (key_cmp q)) es
    by q = lookup-map_values f (is_at (key_cmp q)) es ∙ at (lookup (is_at (key_cmp q)) es) refl where
      at : (o : Option X) → lookup (is_at (key_cmp q)) es ≡ o → option_map f o ≡ o
      at None found = refl
      at (Some x) found = ap Some (stay q x found)

  -- where all but one stay, that one is written in its place
  pub one_changed : (key : RingKey) (r w : X) → lookup (is_at (key_cmp key)) es ≡ Some r → f r ≡ w
      → ((q : RingKey) (x : X) → q ≢ key → lookup (is_at (key_cmp q)) es ≡ Some x → f x ≡ x) → map (λ e. (e.0, f e.1)) es ≡ set_value (is_at (key_cmp key)) es w
  one_changed key r w here is stay =
      same_entries key_total key_exact changed (set_value (is_at (key_cmp key)) es w) changed_rising
      (subst (IsStrictlySortedBy key_cmp) (sym (keys-set_value (is_at (key_cmp key)) es w)) rising) by where
        by : (q : RingKey) → lookup (is_at (key_cmp q)) changed ≡ lookup (is_at (key_cmp q)) (set_value (is_at (key_cmp key)) es w)
        by q = lookup-map_values f (is_at (key_cmp q)) es ∙ ⊎_elim
            (λ same. ap (λ k. option_map f (lookup (is_at (key_cmp k)) es)) same ∙ ap (option_map f) here ∙ ap Some is
            ∙ sym (set_here es key r w here) ∙ ap (λ k. lookup (is_at (key_cmp k)) (set_value (is_at (key_cmp key)) es w)) (sym same))
            (λ other. at other (lookup (is_at (key_cmp q)) es) refl ∙ sym (set_other es key q r w here other))
            (same_key_or_not q key) where
              at : q ≢ key → (o : Option X) → lookup (is_at (key_cmp q)) es ≡ o → option_map f o ≡ o
              at other None found = refl
              at other (Some x) found = ap Some (stay q x other found)

-- a ring of the rules is one of the domain's
pub record Shown (x : Parts) (q : RingKey) (r : Ring) : Type 0 where
  pub row : Row Held
  pub is : held_at x.rows q ≡ Some row
  pub same : ring_of row ≡ r

pub shown_at : (x : Parts) (q : RingKey) (r : Ring) → lookup (is_at (key_cmp q)) (rings_of x.rows) ≡ Some r → Shown x q r
shown_at x q r found = by (held_at x.rows q) refl (sym (lookup-map_values ring_of (is_at (key_cmp q)) x.rows) ∙ found) where
  by : (o : Option (Row Held)) → held_at x.rows q ≡ o → option_map ring_of o ≡ Some r → Shown x q r
  by None is at = cc
  by (Some h) is at = record { row = h; is = is; same = same_Some (ring_of h) r at }

pub rings_rising : (x : Parts) → IsParts x → IsStrictlySortedBy key_cmp (keys_of (rings_of x.rows))
rings_rising x is = subst (IsStrictlySortedBy key_cmp) (sym (keys_of-map_values ring_of x.rows)) is.named.rising

-- where the page is there, and where it is not
pub put_there : (live : Live) (page off : ℕ) (bytes : List ℕ) → has_page live page ≡ true → put_into live page off bytes ≡ after live (acts.put live page off bytes)
put_there live page off bytes there = ap (λ t. after live (if t then leaving Done (put_into live page off bytes) else answered Fault)) (sym there)

pub done_there : (live : Live) (page off : ℕ) (bytes : List ℕ) → has_page live page ≡ true → Done ≡ (acts.put live page off bytes).outcome
done_there live page off bytes there = ap (λ t. (if t then leaving Done (put_into live page off bytes) else answered Fault).outcome) (sym there)

pub stays_absent : (live : Live) (page off : ℕ) (bytes : List ℕ) → has_page live page ≡ false → live ≡ after live (acts.put live page off bytes)
stays_absent live page off bytes absent = ap (λ t. after live (if t then leaving Done (put_into live page off bytes) else answered Fault)) (sym absent)

pub fault_absent : (live : Live) (page off : ℕ) (bytes : List ℕ) → has_page live page ≡ false → Fault ≡ (acts.put live page off bytes).outcome
fault_absent live page off bytes absent = ap (λ t. (if t then leaving Done (put_into live page off bytes) else answered Fault).outcome) (sym absent)

-- ---- a put into a page that stands by itself

module _ (x : Parts) (is : IsParts x) (page off : ℕ) (bytes : List ℕ) (fit : off + length bytes ≤ 4096) where
  abbrev pub written : Parts
  written = record x { private = with_written x.private page off bytes }

  module _ (b : List ℕ) (at : page_at x.private page ≡ Some b) where
    below : page < length x.private
    below = is.store.inside page b at

    step : Put (store_of x) (store_of written) page off bytes b
    step =
        record {
          count = length-set x.private page (option_map (λ p. splice p off bytes) (page_at x.private page));
          was = at;
          now = get_or-set_same x.private page (option_map (λ p. splice p off bytes) (page_at x.private page)) None below ∙ ap (option_map (λ p. splice p off bytes)) at;
          others = λ m apart. get_or-set_other x.private page m (option_map (λ p. splice p off bytes) (page_at x.private page)) None apart;
          home = λ m. refl;
          ring = λ k. refl;
          fit = fit;
        }

    pub written_parts : IsParts written
    written_parts =
        record {
          homes = is.homes ∙ sym step.count;
          store = put_store (store_of x) (store_of written) page off bytes b is.store step;
          named = is.named;
        }

    rings_stay : map (λ e. (e.0, after_put (seen x).bytes page off bytes e.1)) (rings_of x.rows) ≡ rings_of x.rows
    rings_stay = none_changed (after_put (seen x).bytes page off bytes) (rings_of x.rows) (rings_rising x is) (λ q r found.
        let s = shown_at x q r found in
        let own = not_own (store_of x) is.store q (stood s.row) (ap (option_map stood) s.is) page b at in
        put_apart (seen x).bytes page off bytes r (subst (λ (r : Ring). Apart r.pages page) s.same own))

    pub written_seen : seen written ≡ after (seen x) (acts.put (seen x) page off bytes)
    written_seen =
        let there : has_page (seen x) page ≡ true = page_is_there x is page ∙ inside_is page (length x.private) below in
        ap (λ bs. record (seen x) { bytes = bs }) (put_alone_memory (store_of x) (store_of written) page off bytes b is.store step)
        ∙ ap (λ rs. record (seen x) { bytes = splice (seen x).bytes (4096 * page + off) bytes; rings = rs }) (sym rings_stay)
        ∙ put_there (seen x) page off bytes there

-- ---- a put into a page of a ring

-- a put keeps the pages
cleaned_pages : (r : Ring) (at n : ℕ) (k : Option ℕ) → (clean_after r at n k).pages ≡ r.pages
cleaned_pages r at n (Some k) = refl
cleaned_pages r at n None = by (touches r.len at n) where
  by : (b : Bool) → (if b then dirtied r else r).pages ≡ r.pages
  by true = refl
  by false = refl

pub put_pages : (p : PagedRing) (at : ℕ) (bytes : List ℕ) → (ring_after_put p at bytes).pages ≡ p.ring.pages
put_pages p at bytes = by p.ring.clean where
  by : (b : Bool) → (if b then clean_after p.ring at (length bytes) (moves p at bytes) else p.ring).pages ≡ p.ring.pages
  by true = cleaned_pages p.ring at (length bytes) (moves p at bytes)
  by false = refl

module _ (x : Parts) (is : IsParts x) (page off place : ℕ) (bytes : List ℕ) (key : RingKey) (a b : Held) (f : Found x.rows key a)
    (lent : home_at x.homes page ≡ Some (home key place)) where
  pub lent_below : page < length x.private
  lent_below = is.store.there page (home key place) lent

  pub lent_at : (place < length (numbers_of a.row)) × (slice_index (numbers_of a.row) place ≡ page)
  lent_at = at_home (store_of x) is.store key (paged f.serial a) (found_stood x.rows key a f) page (home key place) lent refl

  module _ (fit : off + length bytes ≤ 4096) (still : StandsStill a b) (becomes : Becomes a b (λ p. put_in p (4096 * place + off) bytes)) where
    put_rings : rings_of (with_ring x key b).rows ≡ map (λ e. (e.0, after_put (seen x).bytes page off bytes e.1)) (rings_of x.rows)
    put_rings =
        let p = paged f.serial a in
        let found = found_stood x.rows key a f in
        let own : after_put (seen x).bytes page off bytes p.ring ≡ (paged f.serial b).ring =
        put_at (seen x).bytes page off place bytes p.ring (pages_differ (store_of x) is.store key p found) lent_at.0 lent_at.1
        ∙ ap (λ q. ring_after_put q (4096 * place + off) bytes) (paged_seen x is key a f)
        ∙ sym (ap (λ (q : PagedRing). q.ring) (becomes f.serial)) in
        ap rings_of (with_value_is x.rows key a b f) ∙ map-set_value ring_of (is_at (key_cmp key)) x.rows (held f.serial b)
        ∙ sym (one_changed (after_put (seen x).bytes page off bytes) (rings_of x.rows) (rings_rising x is) key p.ring (paged f.serial b).ring (ring_seen x.rows key a f) own (λ q r other at.
        let s = shown_at x q r at in
        let apart = elsewhere (store_of x) is.store q (stood s.row) (ap (option_map stood) s.is) page (home key place) lent (λ same. other (sym same)) in
        put_apart (seen x).bytes page off bytes r (subst (λ (r : Ring). Apart r.pages page) s.same apart)))

    pub put_seen : seen (with_ring x key b) ≡ after (seen x) (acts.put (seen x) page off bytes)
    put_seen =
        let there : has_page (seen x) page ≡ true = page_is_there x is page ∙ inside_is page (length x.private) lent_below in
        ap (λ bs. record (seen x) { bytes = bs; rings = rings_of (with_ring x key b).rows })
        (put_memory (store_of x) (store_of (with_ring x key b)) key (paged f.serial a) (paged f.serial b) is.store (changed_wrote x key a b f still)
        page place off bytes lent fit (ap (λ (q : PagedRing). q.own) (becomes f.serial)))
        ∙ ap (λ rs. record (seen x) { bytes = splice (seen x).bytes (4096 * page + off) bytes; rings = rs }) put_rings
        ∙ put_there (seen x) page off bytes there

-- ---- a page that is absent

pub absent : (x : Parts) → IsParts x → (page : ℕ) → page_at x.private page ≡ None → home_at x.homes page ≡ None → has_page (seen x) page ≡ false
absent x is page alone lent = page_is_there x is page ∙ outside_is page (length x.private) (⊎_elim (λ inside. absurd (is.store.somewhere page inside alone lent)) (λ past. past) (cases_lt page (length x.private)))

-- ---- where a ring stands among those of the rules

place_of : {X : Type 0} (es : List (RingKey × X)) (key : RingKey) (x : X) → lookup (is_at (key_cmp key)) es ≡ Some x → (i : ℕ) × (slice_get es i ≡ Some (key, x))
place_of [] key x found = cc
place_of {X} (e ∷ es) key x found = by (is_at (key_cmp key) e.0) refl found (place_of es key x) where
  by : (b : Bool) → is_at (key_cmp key) e.0 ≡ b → cond b (Some e.1) (lookup (is_at (key_cmp key)) es) ≡ Some x
      → (lookup (is_at (key_cmp key)) es ≡ Some x → (i : ℕ) × (slice_get es i ≡ Some (key, x))) → (i : ℕ) × (slice_get (e ∷ es) i ≡ Some (key, x))
  by true at here rest = (zero, ap (λ k. Some (k, e.1)) (sym (key_is key e.0 at)) ∙ ap (λ v. Some (key, v)) (same_Some e.1 x here))
  by false at here rest = let h = rest here in (suc h.0, h.1)

pub ring_at : (x : Parts) (key : RingKey) (h : Row Held) → held_at x.rows key ≡ Some h → (i : ℕ) × (slice_get (rings_of x.rows) i ≡ Some (key, ring_of h))
ring_at x key h found = place_of (rings_of x.rows) key (ring_of h) (lookup-map_values ring_of (is_at (key_cmp key)) x.rows ∙ ap (option_map ring_of) found)

-- ---- what a call that found nothing says

pub none_of : {X : Type 0} (o : Option X) → is_some o ≡ false → o ≡ None
none_of None h = refl
none_of (Some x) h = cc

-- where no page stood by itself, nothing was written
pub unwritten : (pages : List (Option (List ℕ))) (n off : ℕ) (bytes : List ℕ) → page_at pages n ≡ None → with_written pages n off bytes ≡ pages
unwritten pages n off bytes none =
    ap (λ o. slice_set pages n (option_map (λ p. splice p off bytes) o)) none ∙ ap (slice_set pages n) (sym none) ∙ set-get_or pages n None

-- a page's home is a ring that stands
pub home_stands : (x : Parts) → IsParts x → (page : ℕ) (h : Home) → home_at x.homes page ≡ Some h → value_at x.rows h.key ≡ None → ⊥
home_stands x is page h at none = by (held_at x.rows h.key) refl none where
  by : (o : Option (Row Held)) → held_at x.rows h.key ≡ o → option_map (λ (r : Row Held). r.value) o ≡ None → ⊥
  by None found none = let l = is.store.lies page h at in none-some l.found (sym (ap (option_map stood) found) ∙ l.ring)
  by (Some r) found none = none-some r.value (sym none)

pub done_written : (x : Parts) → IsParts x → (page off : ℕ) (bytes b : List ℕ) → page_at x.private page ≡ Some b → Done ≡ (acts.put (seen x) page off bytes).outcome
done_written x is page off bytes b at =
    done_there (seen x) page off bytes (page_is_there x is page ∙ inside_is page (length x.private) (is.store.inside page b at))

pub done_put : (x : Parts) → IsParts x → (page off : ℕ) (bytes : List ℕ) (h : Home) → home_at x.homes page ≡ Some h → Done ≡ (acts.put (seen x) page off bytes).outcome
done_put x is page off bytes h at =
    done_there (seen x) page off bytes (page_is_there x is page ∙ inside_is page (length x.private) (is.store.there page h at))

-- what a read of the pages that stand by themselves found
pub row_none : (rows : Rows) (key : RingKey) → option_map row_of (at_key rows key) ≡ None → value_at rows key ≡ None
row_none rows key none = by (held_at rows key) none where
  by : (o : Option (Row Held)) → option_map row_of (option_map (λ (h : Row Held). (key, h)) o) ≡ None → option_map (λ (h : Row Held). h.value) o ≡ None
  by None h = refl
  by (Some r) h = cc
