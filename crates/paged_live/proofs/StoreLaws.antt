-- Laws of the pages of a domain, where they stand.
use Rattle.std.proofs.Common.{◌≡◌, ◌≢◌, ℕ, ◌+◌, ◌*◌, ◌<◌, ◌≤◌, List, length, take, drop, slice_index, Option, Some, None, option_map, unwrap_or, ◌⊎◌, inl, inr, ⊎_elim, refl, sym, ap, ◌∙◌, subst, arith, length-drop}
use Rattle.std.proofs.lemmas.Bool.{cases_eq, cases_order}
use Rattle.std.proofs.lemmas.List.{length-take-le}
use Rattle.std.proofs.lemmas.Option.{none-some, same_Some}
use Rattle.argo_base.specs.declared.ring_key.RingKey.{RingKey}
use Rattle.argo_base.specs.Splice.{splice}
use Rattle.argo_base.proofs.SpliceLaws.{part-splice, take-splice_before, drop-splice_after}
use Rattle.paged_live.specs.declared.home.Home.{Home}
use Rattle.argo_model.specs.Rules.RingBytes.{PagedRing, ring_bytes, laid}
use Rattle.guest_pages.specs.PageBytes.{zero_page}
use Rattle.ring_core.specs.Flat.{flat, ArePages, with_page}
use Rattle.paged_live.specs.Homes.{home}
use Rattle.paged_live.specs.Store.{Store, piece, lent_page, page_of, memory, Lies, IsStore}
use Rattle.paged_live.proofs.PageLaws.{Differ, flat_same, flat_written, with_page_same, with_page_other, own_in_flat, laid_flat, with_own, with_own_other, with_own_at}

-- two keys are one, or not
pub same_key_or_not : (q key : RingKey) → (q ≡ key) ⊎ (q ≢ key)
same_key_or_not q key =
    ⊎_elim
    (λ ports. ⊎_elim
    (λ partners. inl (ap (λ n. record { port = n; partner = q.partner }) ports ∙ ap (λ n. record { port = key.port; partner = n }) partners))
    (λ apart. inr (λ same. apart (ap (λ (k : RingKey). k.partner) same)))
    (cases_eq q.partner key.partner))
    (λ apart. inr (λ same. apart (ap (λ (k : RingKey). k.port) same)))
    (cases_eq q.port key.port)

pub length-piece : (i : ℕ) (own : List ℕ) (n : ℕ) → length own ≡ 4096 * n → i < n → length (piece i own) ≡ 4096
length-piece i own n sized below = length-take-le 4096 (drop (4096 * i) own) (omega (arith, length-drop (4096 * i) own))

-- ---- where a page stands

-- by itself
pub record Alone (s : Store) (n : ℕ) : Type 0 where
  pub bytes : List ℕ
  pub is : s.page n ≡ Some bytes

-- in a ring
pub record Lent (s : Store) (n : ℕ) : Type 0 where
  pub home : Home
  pub is : s.home n ≡ Some home
  pub none : s.page n ≡ None

pub alone_or_lent : (s : Store) → IsStore s → (n : ℕ) → n < s.count → Alone s n ⊎ Lent s n
alone_or_lent s st n below = by (s.page n) (s.home n) refl refl where
  by : (o : Option (List ℕ)) (h : Option Home) → s.page n ≡ o → s.home n ≡ h → Alone s n ⊎ Lent s n
  by (Some b) h page home = inl (record { bytes = b; is = page })
  by None (Some h) page home = inr (record { home = h; is = home; none = page })
  by None None page home = absurd (st.somewhere n below page home)

pub no_page : (s : Store) → IsStore s → (n : ℕ) (h : Home) → s.home n ≡ Some h → s.page n ≡ None
no_page s st n h is = by (s.page n) refl where
  by : (o : Option (List ℕ)) → s.page n ≡ o → o ≡ None
  by None page = refl
  by (Some b) page = absurd (none-some h (sym (st.apart n b page) ∙ is))

pub alone_is : (s : Store) (n : ℕ) (b : List ℕ) → s.page n ≡ Some b → page_of s n ≡ b
alone_is s n b is = ap (λ o. unwrap_or o (lent_page s.ring (s.home n))) is

pub lent_is : (s : Store) (n : ℕ) (h : Home) (p : PagedRing) → s.page n ≡ None → s.home n ≡ Some h → s.ring h.key ≡ Some p → page_of s n ≡ piece h.place p.own
lent_is s n h p none is found =
    ap (λ o. unwrap_or o (lent_page s.ring (s.home n))) none ∙ ap (lent_page s.ring) is ∙ ap (λ o. unwrap_or (option_map (λ (p : PagedRing). piece h.place p.own) o) zero_page) found

-- a page of a ring
pub own_page : (s : Store) → IsStore s → (key : RingKey) (p : PagedRing) → s.ring key ≡ Some p → (i : ℕ) → i < length p.ring.pages
    → (slice_index p.ring.pages i < s.count) × (page_of s (slice_index p.ring.pages i) ≡ piece i p.own)
own_page s st key p found i below =
    let n = slice_index p.ring.pages i in
    let is = st.known key p found i below in
    (st.there n (home key i) is, lent_is s n (home key i) p (no_page s st n (home key i) is) is found)

-- every page has 4,096 bytes
pub are_pages : (s : Store) → IsStore s → ArePages (page_of s) s.count
are_pages s st n below =
    ⊎_elim
    (λ (a : Alone s n). ap length (alone_is s n a.bytes a.is) ∙ st.whole n a.bytes a.is)
    (λ (l : Lent s n).
    let at = st.lies n l.home l.is in
    ap length (lent_is s n l.home at.found l.none l.is at.ring)
    ∙ length-piece l.home.place at.found.own (length at.found.ring.pages) (st.sized l.home.key at.found at.ring) at.below)
    (alone_or_lent s st n below)

-- so a ring's own bytes are those of its pages in the memory
pub own_bytes : (s : Store) → IsStore s → (key : RingKey) (p : PagedRing) → s.ring key ≡ Some p → ring_bytes (memory s) p.ring.pages ≡ p.own
own_bytes s st key p found = own_in_flat (page_of s) s.count p.ring.pages p.own (are_pages s st) (st.sized key p found) (own_page s st key p found)

-- the pages of a ring differ
pub pages_differ : (s : Store) → IsStore s → (key : RingKey) (p : PagedRing) → s.ring key ≡ Some p → Differ p.ring.pages
pages_differ s st key p found i j bi bj same =
    let e : home key i ≡ home key j =
    same_Some (home key i) (home key j) (sym (st.known key p found i bi) ∙ ap s.home same ∙ st.known key p found j bj) in
    ap (λ (h : Home). h.place) e

-- a page that has its home in a ring is at that place of it
pub at_home : (s : Store) → IsStore s → (key : RingKey) (p : PagedRing) → s.ring key ≡ Some p → (n : ℕ) (h : Home) → s.home n ≡ Some h → h.key ≡ key
    → (h.place < length p.ring.pages) × (slice_index p.ring.pages h.place ≡ n)
at_home s st key p found n h is same =
    let at = st.lies n h is in
    let e : at.found ≡ p = same_Some at.found p (sym at.ring ∙ ap s.ring same ∙ found) in
    (subst (λ (q : PagedRing). h.place < length q.ring.pages) e at.below, subst (λ (q : PagedRing). slice_index q.ring.pages h.place ≡ n) e at.at)

-- a page that has its home in another ring is none of a ring's
pub elsewhere : (s : Store) → IsStore s → (key : RingKey) (p : PagedRing) → s.ring key ≡ Some p → (n : ℕ) (h : Home) → s.home n ≡ Some h → h.key ≢ key
    → (i : ℕ) → i < length p.ring.pages → slice_index p.ring.pages i ≢ n
elsewhere s st key p found n h is apart i below same =
    let e : home key i ≡ h = same_Some (home key i) h (sym (st.known key p found i below) ∙ ap s.home same ∙ is) in
    apart (sym (ap (λ (x : Home). x.key) e))

-- so is one that stands by itself
pub not_own : (s : Store) → IsStore s → (key : RingKey) (p : PagedRing) → s.ring key ≡ Some p → (n : ℕ) (b : List ℕ) → s.page n ≡ Some b
    → (i : ℕ) → i < length p.ring.pages → slice_index p.ring.pages i ≢ n
not_own s st key p found n b page i below same =
    none-some (home key i) (sym (st.apart n b page) ∙ ap s.home (sym same) ∙ st.known key p found i below)

-- ---- a ring is written

-- one ring changed, on the same pages
pub record Wrote (s t : Store) (key : RingKey) (p q : PagedRing) : Type 0 where
  pub count : t.count ≡ s.count
  pub page : (n : ℕ) → t.page n ≡ s.page n
  pub home : (n : ℕ) → t.home n ≡ s.home n
  pub was : s.ring key ≡ Some p
  pub now : t.ring key ≡ Some q
  pub others : (k : RingKey) → k ≢ key → t.ring k ≡ s.ring k
  pub pages : q.ring.pages ≡ p.ring.pages
  pub sized : length q.own ≡ 4096 * length q.ring.pages

pub wrote_store : (s t : Store) (key : RingKey) (p q : PagedRing) → IsStore s → Wrote s t key p q → IsStore t
wrote_store s t key p q st w =
    record {
      whole = λ n b is. st.whole n b (sym (w.page n) ∙ is);
      inside = λ n b is. subst (λ c. n < c) (sym w.count) (st.inside n b (sym (w.page n) ∙ is));
      apart = λ n b is. w.home n ∙ st.apart n b (sym (w.page n) ∙ is);
      somewhere = λ n below page home. st.somewhere n (subst (λ c. n < c) w.count below) (sym (w.page n) ∙ page) (sym (w.home n) ∙ home);
      there = λ n h is. subst (λ c. n < c) (sym w.count) (st.there n h (sym (w.home n) ∙ is));
      lies = lies;
      known = known;
      sized = sized;
    } where
      lies : (n : ℕ) (h : Home) → t.home n ≡ Some h → Lies t n h
      lies n h is =
          let old = sym (w.home n) ∙ is in
          let at = st.lies n h old in
          ⊎_elim
          (λ same. let e = at_home s st key p w.was n h old same in
          record {
            found = q;
            ring = ap t.ring same ∙ w.now;
            below = subst (λ ps. h.place < length ps) (sym w.pages) e.0;
            at = subst (λ ps. slice_index ps h.place ≡ n) (sym w.pages) e.1;
          })
          (λ other. record { found = at.found; ring = w.others h.key other ∙ at.ring; below = at.below; at = at.at })
          (same_key_or_not h.key key)

      known : (k : RingKey) (r : PagedRing) → t.ring k ≡ Some r → (i : ℕ) → i < length r.ring.pages → t.home (slice_index r.ring.pages i) ≡ Some (home k i)
      known k r is i below =
          ⊎_elim
          (λ same.
          let e : r.ring.pages ≡ p.ring.pages = ap (λ (x : PagedRing). x.ring.pages) (same_Some r q (sym is ∙ ap t.ring same ∙ w.now)) ∙ w.pages in
          ap (λ ps. t.home (slice_index ps i)) e ∙ w.home (slice_index p.ring.pages i)
          ∙ st.known key p w.was i (subst (λ ps. i < length ps) e below) ∙ ap (λ k. Some (home k i)) (sym same))
          (λ other. w.home (slice_index r.ring.pages i) ∙ st.known k r (sym (w.others k other) ∙ is) i below)
          (same_key_or_not k key)

      sized : (k : RingKey) (r : PagedRing) → t.ring k ≡ Some r → length r.own ≡ 4096 * length r.ring.pages
      sized k r is =
          ⊎_elim
          (λ same. subst (λ (x : PagedRing). length x.own ≡ 4096 * length x.ring.pages) (same_Some q r (sym w.now ∙ ap t.ring (sym same) ∙ is)) w.sized)
          (λ other. st.sized k r (sym (w.others k other) ∙ is))
          (same_key_or_not k key)

-- each page after it
wrote_alone : (s t : Store) (key : RingKey) (p q : PagedRing) → IsStore s → Wrote s t key p q → (n : ℕ) (b : List ℕ) → s.page n ≡ Some b → page_of t n ≡ page_of s n
wrote_alone s t key p q st w n b is = alone_is t n b (w.page n ∙ is) ∙ sym (alone_is s n b is)

wrote_other : (s t : Store) (key : RingKey) (p q : PagedRing) → IsStore s → Wrote s t key p q → (n : ℕ) (l : Lent s n) → l.home.key ≢ key → page_of t n ≡ page_of s n
wrote_other s t key p q st w n l other =
    let at = st.lies n l.home l.is in
    lent_is t n l.home at.found (w.page n ∙ l.none) (w.home n ∙ l.is) (w.others l.home.key other ∙ at.ring)
    ∙ sym (lent_is s n l.home at.found l.none l.is at.ring)

wrote_own : (s t : Store) (key : RingKey) (p q : PagedRing) → IsStore s → Wrote s t key p q → (n : ℕ) (l : Lent s n) → l.home.key ≡ key → page_of t n ≡ piece l.home.place q.own
wrote_own s t key p q st w n l same = lent_is t n l.home q (w.page n ∙ l.none) (w.home n ∙ l.is) (ap t.ring same ∙ w.now)

-- the memory has its bytes laid back
pub wrote_memory : (s t : Store) (key : RingKey) (p q : PagedRing) → IsStore s → Wrote s t key p q → memory t ≡ laid q.ring.pages q.own (memory s)
wrote_memory s t key p q st w =
    let pages = q.ring.pages in
    let inside : (i : ℕ) → i < length pages → slice_index pages i < s.count = λ i below.
    subst (λ ps. slice_index ps i < s.count) (sym w.pages) (own_page s st key p w.was i (subst (λ ps. i < length ps) w.pages below)).0 in
    ap (flat (page_of t)) w.count
    ∙ flat_same (page_of t) (with_own (page_of s) pages q.own) s.count by
    ∙ sym (laid_flat (page_of s) s.count pages q.own (are_pages s st) w.sized inside) where
      by : (n : ℕ) → n < s.count → page_of t n ≡ with_own (page_of s) q.ring.pages q.own n
      by n below =
          let pages = q.ring.pages in
          ⊎_elim
          (λ (a : Alone s n).
          wrote_alone s t key p q st w n a.bytes a.is
          ∙ sym (with_own_other (page_of s) pages q.own n (λ i inside. subst (λ ps. slice_index ps i ≢ n) (sym w.pages)
          (not_own s st key p w.was n a.bytes a.is i (subst (λ ps. i < length ps) w.pages inside)))))
          (λ (l : Lent s n). ⊎_elim
          (λ same.
          let at = at_home s st key p w.was n l.home l.is same in
          let below : l.home.place < length pages = subst (λ ps. l.home.place < length ps) (sym w.pages) at.0 in
          let here : slice_index pages l.home.place ≡ n = subst (λ ps. slice_index ps l.home.place ≡ n) (sym w.pages) at.1 in
          wrote_own s t key p q st w n l same
          ∙ sym (with_own_at (page_of s) pages q.own l.home.place (subst Differ (sym w.pages) (pages_differ s st key p w.was)) below)
          ∙ ap (with_own (page_of s) pages q.own) here)
          (λ other.
          wrote_other s t key p q st w n l other
          ∙ sym (with_own_other (page_of s) pages q.own n (λ i inside. subst (λ ps. slice_index ps i ≢ n) (sym w.pages)
          (elsewhere s st key p w.was n l.home l.is other i (subst (λ ps. i < length ps) w.pages inside)))))
          (same_key_or_not l.home.key key))
          (alone_or_lent s st n below)

-- a write into one page of a ring is one into the memory
pub put_memory : (s t : Store) (key : RingKey) (p q : PagedRing) → IsStore s → Wrote s t key p q → (n place off : ℕ) (bytes : List ℕ)
    → s.home n ≡ Some (home key place) → off + length bytes ≤ 4096 → q.own ≡ splice p.own (4096 * place + off) bytes
    → memory t ≡ splice (memory s) (4096 * n + off) bytes
put_memory s t key p q st w n place off bytes is fit written =
    ap (flat (page_of t)) w.count
    ∙ flat_same (page_of t) (with_page (page_of s) n (splice (page_of s n) off bytes)) s.count by
    ∙ sym (flat_written (page_of s) s.count n off bytes (are_pages s st) (st.there n (home key place) is) fit) where
      at : (place < length p.ring.pages) × (slice_index p.ring.pages place ≡ n)
      at = at_home s st key p w.was n (home key place) is refl

      long : length p.own ≡ 4096 * length p.ring.pages
      long = st.sized key p w.was

      -- another page of the ring
      beside : (j : ℕ) → j ≢ place → j < length p.ring.pages → piece j q.own ≡ piece j p.own
      beside j apart below =
          let here = at.0 in
          ap (piece j) written
          ∙ ⊎_elim
          (λ less. take-splice_before p.own bytes (4096 * place + off) (4096 * j) 4096 (omega arith) (omega (arith, long, here)))
          (λ more. ap (take 4096) (drop-splice_after p.own bytes (4096 * place + off) (4096 * j) (omega arith) (omega (arith, long, here))))
          (cases_apart j place apart) where
            cases_apart : (a b : ℕ) → a ≢ b → (a < b) ⊎ (b < a)
            cases_apart a b apart = ⊎_elim (λ same. absurd (apart same)) (λ o. o) (cases_order a b)

      here : page_of t n ≡ splice (page_of s n) off bytes
      here =
          let below = at.0 in
          let none = no_page s st n (home key place) is in
          lent_is t n (home key place) q (w.page n ∙ none) (w.home n ∙ is) w.now
          ∙ ap (piece place) written
          ∙ part-splice p.own bytes (4096 * place) 4096 off fit (omega (arith, long, below))
          ∙ ap (λ b. splice b off bytes) (sym (lent_is s n (home key place) p none is w.was))

      by : (m : ℕ) → m < s.count → page_of t m ≡ with_page (page_of s) n (splice (page_of s n) off bytes) m
      by m below =
          ⊎_elim
          (λ same. ap (page_of t) same ∙ here ∙ sym (with_page_same (page_of s) n (splice (page_of s n) off bytes) m same))
          (λ apart. other m below apart ∙ sym (with_page_other (page_of s) n (splice (page_of s n) off bytes) m apart))
          (cases_eq m n) where
            other : (m : ℕ) → m < s.count → m ≢ n → page_of t m ≡ page_of s m
            other m below apart =
                ⊎_elim
                (λ (a : Alone s m). wrote_alone s t key p q st w m a.bytes a.is)
                (λ (l : Lent s m). ⊎_elim
                (λ same.
                let h = at_home s st key p w.was m l.home l.is same in
                let differ : l.home.place ≢ place = λ e. apart (sym h.1 ∙ ap (slice_index p.ring.pages) e ∙ at.1) in
                wrote_own s t key p q st w m l same ∙ beside l.home.place differ h.0
                ∙ sym (lent_is s m l.home p l.none l.is (ap s.ring same ∙ w.was)))
                (λ o. wrote_other s t key p q st w m l o)
                (same_key_or_not l.home.key key))
                (alone_or_lent s st m below)
