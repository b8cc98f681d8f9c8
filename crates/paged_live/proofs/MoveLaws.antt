-- Laws of pages that move into a ring and back.
use Rattle.std.proofs.Common.{◌≡◌, ◌≢◌, ℕ, ◌*◌, ◌<◌, List, length, slice_index, Some, None, ⊎_elim, sym, ap, ◌∙◌, subst}
use Rattle.std.proofs.lemmas.Option.{none-some, same_Some}
use Rattle.argo_base.specs.declared.ring_key.RingKey.{RingKey}
use Rattle.paged_live.specs.declared.home.Home.{Home}
use Rattle.argo_model.specs.Rules.RingBytes.{PagedRing, ring_bytes, laid}
use Rattle.ring_core.specs.Flat.{flat}
use Rattle.paged_live.specs.Homes.{home}
use Rattle.paged_live.specs.Store.{Store, piece, page_of, memory, Lies, IsStore}
use Rattle.paged_live.proofs.PageLaws.{Differ, At, at_or_not, flat_same, own_in_flat, laid_flat, with_own, with_own_other, with_own_at}
use Rattle.paged_live.proofs.StoreLaws.{same_key_or_not, Alone, Lent, alone_or_lent, alone_is, lent_is, own_page, are_pages, length-piece, at_home, elsewhere}

abbrev pub Apart : List ℕ → ℕ → Type 0
Apart pages n = (i : ℕ) → i < length pages → slice_index pages i ≢ n

-- ---- a ring ends, and its pages come back

pub record Returned (s t : Store) (key : RingKey) (p : PagedRing) : Type 0 where
  pub count : t.count ≡ s.count
  pub was : s.ring key ≡ Some p
  pub gone : t.ring key ≡ None
  pub others : (k : RingKey) → k ≢ key → t.ring k ≡ s.ring k
  pub page : (i : ℕ) → i < length p.ring.pages → t.page (slice_index p.ring.pages i) ≡ Some (piece i p.own)
  pub home : (i : ℕ) → i < length p.ring.pages → t.home (slice_index p.ring.pages i) ≡ None
  pub other_page : (n : ℕ) → Apart p.ring.pages n → t.page n ≡ s.page n
  pub other_home : (n : ℕ) → Apart p.ring.pages n → t.home n ≡ s.home n

module _ (s t : Store) (key : RingKey) (p : PagedRing) (st : IsStore s) (w : Returned s t key p) where
  abbrev back_page : (n : ℕ) (a : At p.ring.pages n) → t.page n ≡ Some (piece a.place p.own)
  back_page n a = ap t.page (sym a.is) ∙ w.page a.place a.below

  back_home : (n : ℕ) (a : At p.ring.pages n) → t.home n ≡ None
  back_home n a = ap t.home (sym a.is) ∙ w.home a.place a.below

  -- a page that has a home then had it before, and is none of the ring's
  had_home : (n : ℕ) (h : Home) → t.home n ≡ Some h → Apart p.ring.pages n
  had_home n h is = ⊎_elim (λ (a : At p.ring.pages n). absurd (none-some h (sym (back_home n a) ∙ is))) (λ none. none) (at_or_not p.ring.pages n)

  -- its home is another ring
  home_apart : (n : ℕ) (h : Home) → t.home n ≡ Some h → h.key ≢ key
  home_apart n h is same =
      let apart = had_home n h is in
      let e = at_home s st key p w.was n h (sym (w.other_home n apart) ∙ is) same in
      apart h.place e.0 e.1

  found_apart : (k : RingKey) (r : PagedRing) → t.ring k ≡ Some r → k ≢ key
  found_apart k r is same = none-some r (sym w.gone ∙ ap t.ring (sym same) ∙ is)

  -- a page of another ring is none of this one's
  other_ring : (k : RingKey) (r : PagedRing) → s.ring k ≡ Some r → k ≢ key → (i : ℕ) → i < length r.ring.pages → Apart p.ring.pages (slice_index r.ring.pages i)
  other_ring k r is apart i below = elsewhere s st key p w.was (slice_index r.ring.pages i) (home k i) (st.known k r is i below) apart

  pub returned_store : IsStore t
  returned_store =
      record {
        whole = λ n b is. ⊎_elim
            (λ (a : At p.ring.pages n). ap length (same_Some b (piece a.place p.own) (sym is ∙ back_page n a))
            ∙ length-piece a.place p.own (length p.ring.pages) (st.sized key p w.was) a.below)
            (λ none. st.whole n b (sym (w.other_page n none) ∙ is))
            (at_or_not p.ring.pages n);
        inside = λ n b is. subst (λ c. n < c) (sym w.count) (⊎_elim
            (λ (a : At p.ring.pages n). subst (λ m. m < s.count) a.is (own_page s st key p w.was a.place a.below).0)
            (λ none. st.inside n b (sym (w.other_page n none) ∙ is))
            (at_or_not p.ring.pages n));
        apart = λ n b is. ⊎_elim
            (λ (a : At p.ring.pages n). back_home n a)
            (λ none. w.other_home n none ∙ st.apart n b (sym (w.other_page n none) ∙ is))
            (at_or_not p.ring.pages n);
        somewhere = λ n below page home. ⊎_elim
            (λ (a : At p.ring.pages n). none-some (piece a.place p.own) (sym page ∙ back_page n a))
            (λ none. st.somewhere n (subst (λ c. n < c) w.count below) (sym (w.other_page n none) ∙ page) (sym (w.other_home n none) ∙ home))
            (at_or_not p.ring.pages n);
        there = λ n h is. subst (λ c. n < c) (sym w.count) (st.there n h (sym (w.other_home n (had_home n h is)) ∙ is));
        lies = λ n h is. let at = st.lies n h (sym (w.other_home n (had_home n h is)) ∙ is) in
            record { found = at.found; ring = w.others h.key (home_apart n h is) ∙ at.ring; below = at.below; at = at.at };
        known = λ k r is i below.
            let apart = found_apart k r is in
            let old = sym (w.others k apart) ∙ is in
            w.other_home (slice_index r.ring.pages i) (other_ring k r old apart i below) ∙ st.known k r old i below;
        sized = λ k r is. st.sized k r (sym (w.others k (found_apart k r is)) ∙ is);
      }

  -- the memory stays
  pub returned_memory : memory t ≡ memory s
  returned_memory = ap (flat (page_of t)) w.count ∙ flat_same (page_of t) (page_of s) s.count by where
    by : (n : ℕ) → n < s.count → page_of t n ≡ page_of s n
    by n below =
        ⊎_elim
        (λ (a : At p.ring.pages n).
        alone_is t n (piece a.place p.own) (back_page n a) ∙ sym (own_page s st key p w.was a.place a.below).1 ∙ ap (page_of s) a.is)
        (λ none. ⊎_elim
        (λ (a : Alone s n). alone_is t n a.bytes (w.other_page n none ∙ a.is) ∙ sym (alone_is s n a.bytes a.is))
        (λ (l : Lent s n).
        let at = st.lies n l.home l.is in
        let is : t.home n ≡ Some l.home = w.other_home n none ∙ l.is in
        lent_is t n l.home at.found (w.other_page n none ∙ l.none) is (w.others l.home.key (home_apart n l.home is) ∙ at.ring)
        ∙ sym (lent_is s n l.home at.found l.none l.is at.ring))
        (alone_or_lent s st n below))
        (at_or_not p.ring.pages n)

-- ---- a ring comes, on pages that stood by themselves

pub record Joined (s t : Store) (key : RingKey) (q : PagedRing) : Type 0 where
  pub count : t.count ≡ s.count
  pub none : s.ring key ≡ None
  pub now : t.ring key ≡ Some q
  pub others : (k : RingKey) → k ≢ key → t.ring k ≡ s.ring k
  pub free : (i : ℕ) → i < length q.ring.pages → Alone s (slice_index q.ring.pages i)
  pub differ : Differ q.ring.pages
  pub page : (i : ℕ) → i < length q.ring.pages → t.page (slice_index q.ring.pages i) ≡ None
  pub home : (i : ℕ) → i < length q.ring.pages → t.home (slice_index q.ring.pages i) ≡ Some (home key i)
  pub other_page : (n : ℕ) → Apart q.ring.pages n → t.page n ≡ s.page n
  pub other_home : (n : ℕ) → Apart q.ring.pages n → t.home n ≡ s.home n
  pub sized : length q.own ≡ 4096 * length q.ring.pages

-- the bytes of pages that stand by themselves are those of the memory
pub free_bytes : (s : Store) → IsStore s → (pages own : List ℕ) → length own ≡ 4096 * length pages
    → ((i : ℕ) → i < length pages → s.page (slice_index pages i) ≡ Some (piece i own)) → ring_bytes (memory s) pages ≡ own
free_bytes s st pages own sized free =
    own_in_flat (page_of s) s.count pages own (are_pages s st) sized
    (λ i below. (st.inside (slice_index pages i) (piece i own) (free i below), alone_is s (slice_index pages i) (piece i own) (free i below)))

module _ (s t : Store) (key : RingKey) (q : PagedRing) (st : IsStore s) (w : Joined s t key q) where
  lent_page_none : (n : ℕ) (a : At q.ring.pages n) → t.page n ≡ None
  lent_page_none n a = ap t.page (sym a.is) ∙ w.page a.place a.below

  lent_home : (n : ℕ) (a : At q.ring.pages n) → t.home n ≡ Some (home key a.place)
  lent_home n a = ap t.home (sym a.is) ∙ w.home a.place a.below

  was_alone : (n : ℕ) (a : At q.ring.pages n) → Alone s n
  was_alone n a = let f = w.free a.place a.below in record { bytes = f.bytes; is = ap s.page (sym a.is) ∙ f.is }

  -- a page that stands by itself then is none of the ring's
  page_apart : (n : ℕ) (b : List ℕ) → t.page n ≡ Some b → Apart q.ring.pages n
  page_apart n b is = ⊎_elim (λ (a : At q.ring.pages n). absurd (none-some b (sym (lent_page_none n a) ∙ is))) (λ none. none) (at_or_not q.ring.pages n)

  -- nor is one that stood in another ring
  home_other : (n : ℕ) (h : Home) → s.home n ≡ Some h → Apart q.ring.pages n
  home_other n h is =
      ⊎_elim (λ (a : At q.ring.pages n). let f = was_alone n a in absurd (none-some h (sym (st.apart n f.bytes f.is) ∙ is))) (λ none. none) (at_or_not q.ring.pages n)

  -- which is another
  key_other : (k : RingKey) (r : PagedRing) → s.ring k ≡ Some r → k ≢ key
  key_other k r is same = none-some r (sym w.none ∙ ap s.ring (sym same) ∙ is)

  joined_lies : (n : ℕ) (h : Home) → t.home n ≡ Some h → Lies t n h
  joined_lies n h is =
      ⊎_elim
      (λ (a : At q.ring.pages n).
      let e : home key a.place ≡ h = same_Some (home key a.place) h (sym (lent_home n a) ∙ is) in
      subst (Lies t n) e (record { found = q; ring = w.now; below = a.below; at = a.is }))
      (λ none.
      let at = st.lies n h (sym (w.other_home n none) ∙ is) in
      record { found = at.found; ring = w.others h.key (key_other h.key at.found at.ring) ∙ at.ring; below = at.below; at = at.at })
      (at_or_not q.ring.pages n)

  joined_known : (k : RingKey) (r : PagedRing) → t.ring k ≡ Some r → (i : ℕ) → i < length r.ring.pages → t.home (slice_index r.ring.pages i) ≡ Some (home k i)
  joined_known k r is i below =
      ⊎_elim
      (λ same.
      let e : q ≡ r = same_Some q r (sym w.now ∙ ap t.ring (sym same) ∙ is) in
      subst (λ (x : PagedRing). t.home (slice_index x.ring.pages i) ≡ Some (home k i)) e
      (w.home i (subst (λ (x : PagedRing). i < length x.ring.pages) (sym e) below) ∙ ap (λ k. Some (home k i)) (sym same)))
      (λ other.
      let old = sym (w.others k other) ∙ is in
      let known = st.known k r old i below in
      w.other_home (slice_index r.ring.pages i) (home_other (slice_index r.ring.pages i) (home k i) known) ∙ known)
      (same_key_or_not k key)

  joined_sized : (k : RingKey) (r : PagedRing) → t.ring k ≡ Some r → length r.own ≡ 4096 * length r.ring.pages
  joined_sized k r is =
      ⊎_elim
      (λ same. subst (λ (x : PagedRing). length x.own ≡ 4096 * length x.ring.pages) (same_Some q r (sym w.now ∙ ap t.ring (sym same) ∙ is)) w.sized)
      (λ other. st.sized k r (sym (w.others k other) ∙ is))
      (same_key_or_not k key)

  pub joined_store : IsStore t
  joined_store =
      record {
        whole = λ n b is. st.whole n b (sym (w.other_page n (page_apart n b is)) ∙ is);
        inside = λ n b is. subst (λ c. n < c) (sym w.count) (st.inside n b (sym (w.other_page n (page_apart n b is)) ∙ is));
        apart = λ n b is. let none = page_apart n b is in w.other_home n none ∙ st.apart n b (sym (w.other_page n none) ∙ is);
        somewhere = λ n below page home. ⊎_elim
            (λ (a : At q.ring.pages n). none-some _ (sym home ∙ lent_home n a))
            (λ none. st.somewhere n (subst (λ c. n < c) w.count below) (sym (w.other_page n none) ∙ page) (sym (w.other_home n none) ∙ home))
            (at_or_not q.ring.pages n);
        there = λ n h is. subst (λ c. n < c) (sym w.count) (⊎_elim
            (λ (a : At q.ring.pages n). let f = was_alone n a in st.inside n f.bytes f.is)
            (λ none. st.there n h (sym (w.other_home n none) ∙ is))
            (at_or_not q.ring.pages n));
        lies = joined_lies;
        known = joined_known;
        sized = joined_sized;
      }

  -- the memory has the ring's bytes laid into it
  pub joined_memory : memory t ≡ laid q.ring.pages q.own (memory s)
  joined_memory =
      ap (flat (page_of t)) w.count
      ∙ flat_same (page_of t) (with_own (page_of s) q.ring.pages q.own) s.count by
      ∙ sym (laid_flat (page_of s) s.count q.ring.pages q.own (are_pages s st) w.sized
      (λ i below. let f = w.free i below in st.inside (slice_index q.ring.pages i) f.bytes f.is)) where
        other : (n : ℕ) → n < s.count → Apart q.ring.pages n → page_of t n ≡ page_of s n
        other n below none =
            ⊎_elim
            (λ (a : Alone s n). alone_is t n a.bytes (w.other_page n none ∙ a.is) ∙ sym (alone_is s n a.bytes a.is))
            (λ (l : Lent s n).
            let at = st.lies n l.home l.is in
            lent_is t n l.home at.found (w.other_page n none ∙ l.none) (w.other_home n none ∙ l.is) (w.others l.home.key (key_other l.home.key at.found at.ring) ∙ at.ring)
            ∙ sym (lent_is s n l.home at.found l.none l.is at.ring))
            (alone_or_lent s st n below)

        by : (n : ℕ) → n < s.count → page_of t n ≡ with_own (page_of s) q.ring.pages q.own n
        by n below =
            ⊎_elim
            (λ (a : At q.ring.pages n).
            lent_is t n (home key a.place) q (lent_page_none n a) (lent_home n a) w.now
            ∙ sym (with_own_at (page_of s) q.ring.pages q.own a.place w.differ a.below) ∙ ap (with_own (page_of s) q.ring.pages q.own) a.is)
            (λ none. other n below none ∙ sym (with_own_other (page_of s) q.ring.pages q.own n none))
            (at_or_not q.ring.pages n)
