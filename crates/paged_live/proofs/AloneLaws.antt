-- Laws of a page that stands by itself and is written.
use Rattle.std.proofs.Common.{◌≡◌, ◌≢◌, ℕ, ◌+◌, ◌*◌, ◌<◌, ◌≤◌, List, length, slice_index, Some, None, ⊎_elim, sym, ap, ◌∙◌, subst, arith}
use Rattle.std.proofs.lemmas.Bool.{cases_eq}
use Rattle.std.proofs.lemmas.Option.{none-some, same_Some}
use Rattle.argo_base.specs.declared.ring_key.RingKey.{RingKey}
use Rattle.argo_base.specs.Splice.{splice}
use Rattle.argo_base.proofs.SpliceLaws.{length-splice}
use Rattle.ring_core.specs.Flat.{flat, with_page}
use Rattle.paged_live.specs.Store.{Store, page_of, memory, IsStore}
use Rattle.paged_live.proofs.PageLaws.{flat_same, flat_written, with_page_same, with_page_other}
use Rattle.paged_live.proofs.StoreLaws.{Alone, Lent, alone_or_lent, alone_is, lent_is, are_pages}

pub record Put (s t : Store) (n off : ℕ) (bytes b : List ℕ) : Type 0 where
  pub count : t.count ≡ s.count
  pub was : s.page n ≡ Some b
  pub now : t.page n ≡ Some (splice b off bytes)
  pub others : (m : ℕ) → m ≢ n → t.page m ≡ s.page m
  pub home : (m : ℕ) → t.home m ≡ s.home m
  pub ring : (k : RingKey) → t.ring k ≡ s.ring k
  pub fit : off + length bytes ≤ 4096

-- a page that stood by itself, before it
put_was : (s t : Store) (n off : ℕ) (bytes b : List ℕ) → Put s t n off bytes b → (m : ℕ) (c : List ℕ) → t.page m ≡ Some c → Alone s m
put_was s t n off bytes b w m c is =
    ⊎_elim
    (λ same. record { bytes = b; is = ap s.page same ∙ w.was })
    (λ apart. record { bytes = c; is = sym (w.others m apart) ∙ is })
    (cases_eq m n)

put_none : (s t : Store) (n off : ℕ) (bytes b : List ℕ) → Put s t n off bytes b → (m : ℕ) → t.page m ≡ None → s.page m ≡ None
put_none s t n off bytes b w m is =
    ⊎_elim
    (λ same. absurd (none-some (splice b off bytes) (sym is ∙ ap t.page same ∙ w.now)))
    (λ apart. sym (w.others m apart) ∙ is)
    (cases_eq m n)

pub put_store : (s t : Store) (n off : ℕ) (bytes b : List ℕ) → IsStore s → Put s t n off bytes b → IsStore t
put_store s t n off bytes b st w =
    record {
      whole = whole;
      inside = λ m c is. let a = put_was s t n off bytes b w m c is in subst (λ k. m < k) (sym w.count) (st.inside m a.bytes a.is);
      apart = λ m c is. let a = put_was s t n off bytes b w m c is in w.home m ∙ st.apart m a.bytes a.is;
      somewhere = λ m below page home. st.somewhere m (subst (λ k. m < k) w.count below) (put_none s t n off bytes b w m page) (sym (w.home m) ∙ home);
      there = λ m h is. subst (λ k. m < k) (sym w.count) (st.there m h (sym (w.home m) ∙ is));
      lies = λ m h is. let at = st.lies m h (sym (w.home m) ∙ is) in record { found = at.found; ring = w.ring h.key ∙ at.ring; below = at.below; at = at.at };
      known = λ k r is i below. w.home (slice_index r.ring.pages i) ∙ st.known k r (sym (w.ring k) ∙ is) i below;
      sized = λ k r is. st.sized k r (sym (w.ring k) ∙ is);
    } where
      whole : (m : ℕ) (c : List ℕ) → t.page m ≡ Some c → length c ≡ 4096
      whole m c is =
          ⊎_elim
          (λ same.
          let e : splice b off bytes ≡ c = same_Some (splice b off bytes) c (sym w.now ∙ ap t.page (sym same) ∙ is) in
          let l = st.whole n b w.was in
          let fit = w.fit in
          ap length (sym e) ∙ length-splice b bytes off (omega arith) ∙ l)
          (λ apart. st.whole m c (sym (w.others m apart) ∙ is))
          (cases_eq m n)

pub put_alone_memory : (s t : Store) (n off : ℕ) (bytes b : List ℕ) → IsStore s → Put s t n off bytes b → memory t ≡ splice (memory s) (4096 * n + off) bytes
put_alone_memory s t n off bytes b st w =
    ap (flat (page_of t)) w.count
    ∙ flat_same (page_of t) (with_page (page_of s) n (splice (page_of s n) off bytes)) s.count by
    ∙ sym (flat_written (page_of s) s.count n off bytes (are_pages s st) (st.inside n b w.was) w.fit) where
      other : (m : ℕ) → m < s.count → m ≢ n → page_of t m ≡ page_of s m
      other m below apart =
          ⊎_elim
          (λ (a : Alone s m). alone_is t m a.bytes (w.others m apart ∙ a.is) ∙ sym (alone_is s m a.bytes a.is))
          (λ (l : Lent s m).
          let at = st.lies m l.home l.is in
          lent_is t m l.home at.found (w.others m apart ∙ l.none) (w.home m ∙ l.is) (w.ring l.home.key ∙ at.ring)
          ∙ sym (lent_is s m l.home at.found l.none l.is at.ring))
          (alone_or_lent s st m below)

      by : (m : ℕ) → m < s.count → page_of t m ≡ with_page (page_of s) n (splice (page_of s n) off bytes) m
      by m below =
          ⊎_elim
          (λ same.
          ap (page_of t) same ∙ alone_is t n (splice b off bytes) w.now ∙ ap (λ x. splice x off bytes) (sym (alone_is s n b w.was))
          ∙ sym (with_page_same (page_of s) n (splice (page_of s n) off bytes) m same))
          (λ apart. other m below apart ∙ sym (with_page_other (page_of s) n (splice (page_of s n) off bytes) m apart))
          (cases_eq m n)
