-- Laws of what another domain had with the rings of a domain, which ends ring after ring.
use Rattle.std.proofs.Common.{◌≡◌, ℕ, zero, suc, Bool, true, false, cond, ◌==◌, List, [], ◌∷◌, map, filter, slice_get, Option, Some, None, option_map, inl, inr, ⊎_elim, refl, sym, ap, ◌∙◌, subst, arith}
use Rattle.std.specs.Prelude.{not}
use Rattle.std.specs.List.Sorted.{IsStrictlySortedBy, IsStrictlyIncreasing}
use Rattle.std.specs.Map.{lookup, set_value, remove_entry, keys_of}
use Rattle.std.specs.BTreeMap.{is_at}
use Rattle.std.specs.Ordering.{nat_cmp}
use Rattle.std.proofs.lemmas.Bool.{cases_lt}
use Rattle.std.proofs.lemmas.Bool.Decides.{nat_tests}
use Rattle.std.proofs.lemmas.Cmp.{eq_by_cmp_equiv, nat_cmp_total}
use Rattle.std.proofs.lemmas.Map.{lookup-remove_entry}
use Rattle.std.proofs.lemmas.Map.Made.{lookup-map_values}
use Rattle.std.proofs.lemmas.Map.Entries.{lookup_from_place}
use Rattle.std.proofs.lemmas.Map.Keys.{IsDistinct-from_sorted, sorted_from_strictly_increasing}
use Rattle.std.proofs.lemmas.Option.{none-some, same_Some}
use Rattle.argo_base.specs.declared.ring_key.RingKey.{RingKey}
use Rattle.argo_base.specs.Match.{key_cmp}
use Rattle.argo_base.specs.Notices.{Notices, withdrawn, doms_of}
use Rattle.argo_model.specs.Rules.Destroy.{ring_without, rings_without, live_without}
use Rattle.argo_model.specs.Rules.Register.{own_ring, without_ring}
use Rattle.argo_model.specs.Rules.State.{Ring, Live}
use Rattle.ring_core.specs.Held.{Held, paged}
use Rattle.ring_table.specs.declared.row.Row.{Row as TableRow}
use Rattle.ring_table.specs.Rows.{held_of}
use Rattle.ring_table.specs.Edits.{with_value}
use Rattle.ring_table.specs.Serials.{NoneAbove, IsNext}
use Rattle.ring_table.proofs.BucketLaws.{key_total, key_is}
use Rattle.ring_table.proofs.EntryLaws.{remove-absent}
use Rattle.live_domain.specs.Keyed.{without_notice, without_notice_of}
use Rattle.paged_live.specs.Forgets.{IsForgotten, Forgot, IsAbove, NoneIsAbove, AllForgotten}
use Rattle.paged_live.specs.Parts.{Parts, ring_of, seen, IsParts}
use Rattle.paged_live.proofs.PartsLaws.{Found, with_ring, value_here}
use Rattle.paged_live.proofs.PutLaws.{shown_at, rings_rising}
use Rattle.paged_live.proofs.RowLaws.{set_here, set_other, remove_here, remove_other}
use Rattle.paged_live.proofs.StoreLaws.{same_key_or_not}

abbrev Entry : Type 0
Entry = RingKey × Ring

abbrev without : ℕ → Entry → Entry
without d e = (e.0, ring_without d e.1)

abbrev stays : ℕ → Entry → Bool
stays d e = not (e.0.partner == d)

-- ---- what is left of the rings either way

same_rest : (d : ℕ) (e : Entry) (xs ys : List Entry) (b : Bool) → map (without d) xs ≡ map (without d) ys
    → map (without d) (cond (not b) (e ∷ xs) xs) ≡ map (without d) (cond (not b) (e ∷ ys) ys)
same_rest d e xs ys true rest = rest
same_rest d e xs ys false rest = ap (λ r. without d e ∷ r) rest

removed : (d : ℕ) (key : RingKey) (es : List Entry) → (key.partner == d) ≡ true → rings_without d (remove_entry (is_at (key_cmp key)) es) ≡ rings_without d es
removed d key [] at = refl
removed d key (e ∷ es) at = by (is_at (key_cmp key) e.0) refl (removed d key es at) where
  by : (b : Bool) → is_at (key_cmp key) e.0 ≡ b → rings_without d (remove_entry (is_at (key_cmp key)) es) ≡ rings_without d es
      → rings_without d (cond b es (e ∷ remove_entry (is_at (key_cmp key)) es)) ≡ rings_without d (e ∷ es)
  by true here rest =
      let p : (e.0.partner == d) ≡ true = ap (λ (k : RingKey). k.partner == d) (sym (key_is key e.0 here)) ∙ at in
      sym (ap (λ b. map (without d) (cond (not b) (e ∷ filter (stays d) es) (filter (stays d) es))) p)
  by false here rest = same_rest d e (filter (stays d) (remove_entry (is_at (key_cmp key)) es)) (filter (stays d) es) (e.0.partner == d) rest

softened : (d : ℕ) (key : RingKey) (es : List Entry) (r : Ring) → lookup (is_at (key_cmp key)) es ≡ Some r → ring_without d (ring_without d r) ≡ ring_without d r
    → rings_without d (set_value (is_at (key_cmp key)) es (ring_without d r)) ≡ rings_without d es
softened d key [] r found twice = refl
softened d key (e ∷ es) r found twice = by (is_at (key_cmp key) e.0) found (λ h. softened d key es r h twice) where
  w : Ring
  w = ring_without d r

  by : (b : Bool) → cond b (Some e.1) (lookup (is_at (key_cmp key)) es) ≡ Some r
      → (lookup (is_at (key_cmp key)) es ≡ Some r → rings_without d (set_value (is_at (key_cmp key)) es (ring_without d r)) ≡ rings_without d es)
      → rings_without d (cond b ((e.0, ring_without d r) ∷ es) (e ∷ set_value (is_at (key_cmp key)) es (ring_without d r))) ≡ rings_without d (e ∷ es)
  by true at rest = one (e.0.partner == d) where
    one : (b : Bool) → map (without d) (cond (not b) ((e.0, ring_without d r) ∷ filter (stays d) es) (filter (stays d) es))
        ≡ map (without d) (cond (not b) (e ∷ filter (stays d) es) (filter (stays d) es))
    one true = refl
    one false = ap (λ x. (e.0, x) ∷ map (without d) (filter (stays d) es)) (twice ∙ ap (ring_without d) (sym (same_Some e.1 r at)))
  by false at rest = same_rest d e (filter (stays d) (set_value (is_at (key_cmp key)) es (ring_without d r))) (filter (stays d) es) (e.0.partner == d) (rest at)

-- ---- one ring

pub ring_ended : (d : ℕ) (key : RingKey) (live : Live) → IsStrictlySortedBy key_cmp (keys_of live.rings) → (key.partner == d) ≡ true → Forgot d key live (without_ring live key)
ring_ended d key live rising at =
    record {
      same = ap (λ rs. record live { rings = rs }) (removed d key live.rings at);
      next_serial = refl;
      done = λ r is. absurd (none-some r (sym (remove_here live.rings key rising) ∙ is));
      others = λ q other. remove_other live.rings key q rising other;
    }

pub notice_ended : (d : ℕ) (key : RingKey) (live : Live) → (key.partner == d) ≡ false
    → ((r : Ring) → own_ring (without_notice live key d) key ≡ Some r → withdrawn r.notices d ≡ r.notices) → Forgot d key live (without_notice live key d)
notice_ended d key live apart gone = by (own_ring live key) refl gone where
  by : (o : Option Ring) → own_ring live key ≡ o → ((r : Ring) → own_ring (without_notice_of live key d o) key ≡ Some r → withdrawn r.notices d ≡ r.notices)
      → Forgot d key live (without_notice_of live key d o)
  by None found gone =
      record { same = refl; next_serial = refl; done = λ r is. absurd (none-some r (sym found ∙ is)); others = λ q other. refl }
  by (Some r) found gone =
      let here = set_here live.rings key r (ring_without d r) found in
      record {
        same = ap (λ rs. record live { rings = rs }) (softened d key live.rings r found (ap (λ ns. record r { notices = ns }) (gone (ring_without d r) here)));
        next_serial = refl;
        done = λ s is. record { partner = apart; notices = gone s is };
        others = λ q other. set_other live.rings key q r (ring_without d r) found other;
      }

-- ---- a notice that was withdrawn is not there

dom_is : (d x : ℕ) → is_at (nat_cmp d) x ≡ true → d ≡ x
dom_is d x at = grind (arith, nat_tests)

dom_itself : (d : ℕ) → is_at (nat_cmp d) d ≡ true
dom_itself d = grind (arith, nat_tests)

one_dom : (d x y : ℕ) → is_at (nat_cmp d) x ≡ true → is_at (nat_cmp d) y ≡ is_at (nat_cmp x) y
one_dom d x y at = ap (λ k. is_at (nat_cmp k) y) (dom_is d x at)

pub withdrawn_twice : (ns : Notices) (d : ℕ) → IsStrictlyIncreasing (doms_of ns) → withdrawn (withdrawn ns d) d ≡ withdrawn ns d
withdrawn_twice ns d rising =
    remove-absent nat_cmp_total (is_at (nat_cmp d)) (withdrawn ns d)
    (lookup-remove_entry (eq_by_cmp_equiv nat_cmp_total) (is_at (nat_cmp d)) (one_dom d) d ns (IsDistinct-from_sorted nat_cmp (keys_of ns) (sorted_from_strictly_increasing (keys_of ns) rising))
    ∙ ap (λ b. cond b None (lookup (is_at (nat_cmp d)) ns)) (dom_itself d))

pub notice_gone : (x : Parts) (key : RingKey) (a b : Held) → Found x.rows key a → (d : ℕ) → withdrawn b.notices d ≡ b.notices
    → (r : Ring) → own_ring (seen (with_ring x key b)) key ≡ Some r → withdrawn r.notices d ≡ r.notices
notice_gone x key a b f d gone r is =
    let here : own_ring (seen (with_ring x key b)) key ≡ Some (paged f.serial b).ring =
    lookup-map_values ring_of (is_at (key_cmp key)) (with_value x.rows key b) ∙ ap (option_map ring_of) (value_here x.rows key a b f) in
    subst (λ (t : Ring). withdrawn t.notices d ≡ t.notices) (same_Some (paged f.serial b).ring r (sym here ∙ is)) gone

-- ---- ring after ring

pub forgot_next : (d serial next : ℕ) (key : RingKey) (live new : Live) → AllForgotten d serial live → IsAbove live serial key next → Forgot d key live new → AllForgotten d next new
forgot_next d serial next key live new all above forgot q r at low =
    ⊎_elim
    (λ same. subst (λ (k : RingKey). IsForgotten d k r) (sym same) (forgot.done r (ap (own_ring new) (sym same) ∙ at)))
    (λ other.
    let old = sym (forgot.others q other) ∙ at in
    ⊎_elim (λ less. all q r old less) (λ same. absurd (other same)) (above.alone q r old low))
    (same_key_or_not q key)

-- where nothing is left of the domain, all stays without it
nothing_left : (d : ℕ) (es : List Entry) → ((i : ℕ) (e : Entry) → slice_get es i ≡ Some e → IsForgotten d e.0 e.1) → rings_without d es ≡ es
nothing_left d [] all = refl
nothing_left d (e ∷ es) all =
    let h = all zero e refl in
    ap (λ b. map (without d) (cond (not b) (e ∷ filter (stays d) es) (filter (stays d) es))) h.partner
    ∙ ap (λ ns. (e.0, record e.1 { notices = ns }) ∷ rings_without d es) h.notices
    ∙ ap (λ r. e ∷ r) (nothing_left d es (λ i f at. all (suc i) f at))

pub all_forgotten : (d serial : ℕ) (live : Live) → AllForgotten d serial live → NoneIsAbove live serial → live ≡ live_without d live
all_forgotten d serial live all none =
    ap (λ rs. record live { rings = rs }) (sym (nothing_left d live.rings (λ i e at.
    let found = lookup_from_place (eq_by_cmp_equiv key_total) live.rings i e.0 e.1 (IsDistinct-from_sorted key_cmp (keys_of live.rings) none.rising) at in
    all e.0 e.1 found (none.below e.0 e.1 found))))

-- ---- in a domain

pub is_above : (x : Parts) → IsParts x → (serial : ℕ) (row : TableRow Held) → IsNext x.rows serial row → IsAbove (seen x) serial row.key row.serial
is_above x is serial row next =
    record {
      above = next.above;
      young = is.named.young row.key (held_of row) next.stands;
      alone = λ q r at low.
          let s = shown_at x q r at in
          let same : s.row.serial ≡ r.serial = ap (λ (t : Ring). t.serial) s.same in
          ⊎_elim
          (λ less. inr (is.named.differ q row.key s.row (held_of row) s.is next.stands
          (let least = next.least q s.row s.is (omega (arith, less, same)) in omega (arith, least, low, same))))
          (λ more. inl more)
          (cases_lt serial r.serial);
    }

pub none_above : (x : Parts) → IsParts x → (serial : ℕ) → NoneAbove x.rows serial → NoneIsAbove (seen x) serial
none_above x is serial none =
    record {
      rising = rings_rising x is;
      below = λ q r at.
          let s = shown_at x q r at in
          let same : s.row.serial ≡ r.serial = ap (λ (t : Ring). t.serial) s.same in
          omega (arith, none q s.row s.is, same);
    }

-- before the first ring
pub none_first : (x : Parts) → IsParts x → (d : ℕ) → AllForgotten d 0 (seen x)
none_first x is d q r at low =
    let s = shown_at x q r at in
    let same : s.row.serial ≡ r.serial = ap (λ (t : Ring). t.serial) s.same in
    absurd (omega (arith, is.named.some q s.row s.is, same, low))
