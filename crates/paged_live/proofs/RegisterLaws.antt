-- Laws of rings that are registered, and registered anew.
use Rattle.std.proofs.Common.{◌≡◌, ◌≢◌, ℕ, ◌+◌, ◌*◌, IsTrue, List, length, Option, Some, None, option_map, ⊎_elim, refl, sym, ap, ◌∙◌, subst, arith}
use Rattle.std.proofs.Common.{true, false}
use Rattle.std.specs.List.Sorted.{IsStrictlySortedBy}
use Rattle.std.specs.Map.{set_value}
use Rattle.std.specs.BTreeMap.{is_at, insert_entry}
use Rattle.std.proofs.lemmas.Map.{keys-set_value}
use Rattle.std.proofs.lemmas.Map.Made.{lookup-map_values}
use Rattle.std.proofs.lemmas.Option.{none-some}
use Rattle.argo_base.specs.declared.ring_key.RingKey.{RingKey}
use Rattle.argo_base.specs.Match.{key_cmp, key_in}
use Rattle.argo_model.specs.Rules.State.{Live}
use Rattle.argo_model.specs.Rules.Register.{new_ring, add_paged, own_ring, register_anew, stands_so, resized, are_free_for}
use Rattle.argo_base.specs.Numbers.{all_differ}
use Rattle.argo_model.specs.declared.action.Outcome.TheVariants.{Done}
use Rattle.argo_model.specs.Rules.Effects.{answered}
use Rattle.argo_model.specs.Rules.RingBytes.{PagedRing, paged as paged_in, set_paged, ring_bytes, laid}
use Rattle.argo_model.specs.Rules.Starts.{started}
use Rattle.guest_pages.specs.Pages.{can_lend, row_of, without}
use Rattle.guest_pages.specs.Rows.{numbers_of, row_bytes}
use Rattle.ring_core.specs.Held.{Held, paged, Becomes}
use Rattle.ring_core.specs.Restarts.{ring_on, restarted, given_back, lent_bytes}
use Rattle.ring_table.specs.Rows.{Held as Row, held, held_at}
use Rattle.ring_table.specs.Edits as edits
use Rattle.ring_table.proofs.BucketLaws.{key_total, key_exact}
use Rattle.ring_table.proofs.EntryLaws.{same_entries, sorted-insert, sorted-remove}
use Rattle.paged_live.specs.declared.home.Home.{Home}
use Rattle.paged_live.specs.Homes.{cleared, settled}
use Rattle.paged_live.specs.Parts.{Rows, Parts, ring_of, rings_of, seen, IsParts}
use Rattle.paged_live.specs.Registers.{anew_if_free}
use Rattle.paged_live.proofs.BackLaws.{own_free}
use Rattle.paged_live.proofs.OwnLaws.{stands_pages, anew_is}
use Rattle.paged_live.proofs.StoreLaws.{same_key_or_not}
use Rattle.paged_live.proofs.RowLaws.{set_here, set_other, remove_here, remove_other, insert_here, insert_other, map-set_value}
use Rattle.paged_live.proofs.PartsLaws.{Found, with_value_is, ring_seen, with_ring}
use Rattle.paged_live.proofs.HomeLaws.{AreWhole}
use Rattle.paged_live.proofs.EndLaws.{ended, ended_parts, ended_seen}
use Rattle.paged_live.proofs.JoinLaws.{Joins, joined, joined_parts, joined_bytes, joined_rings}
use Rattle.paged_live.proofs.FreeLaws.{lent_bytes_are, numbers-row_of, free_is, free_without}

-- ---- a new ring

module _ (x : Parts) (is : IsParts x) (key : RingKey) (len : ℕ) (v : Held) (ns : List ℕ) (can : IsTrue (can_lend x.private ns)) (none : held_at x.rows key ≡ None)
    (named : key_in v.id ≡ key) (new : (serial : ℕ) → paged serial v ≡ ring_on serial len (row_of x.private ns)) (sized : length (row_bytes v.row) ≡ 4096 * length v.row) where
  abbrev pub registered : Parts
  registered = joined x key x.next_serial (x.next_serial + 1) v ns

  pub new_joins : Joins x key x.next_serial (x.next_serial + 1) v ns
  new_joins =
      record {
        can = can;
        none = none;
        named = named;
        pages = ap (λ (p : PagedRing). p.ring.pages) (new 0) ∙ numbers-row_of x.private ns;
        sized = sized;
        some = is.named.first;
        young = omega arith;
        later = omega arith;
        own = λ q h at same. let low = is.named.young q h at in omega arith;
      }

  pub registered_parts : IsParts registered
  registered_parts = joined_parts x is key x.next_serial (x.next_serial + 1) v ns new_joins

  pub registered_seen : seen registered ≡ add_paged (seen x) key (started (paged_in (seen x).bytes (new_ring x.next_serial len ns)))
  registered_seen =
      let row = row_of x.private ns in
      let serial = x.next_serial in
      let p = paged serial v in
      let is_started : p ≡ started (paged_in (seen x).bytes (new_ring serial len ns)) =
      new serial
      ∙ ap (λ n. started (record { ring = new_ring serial len n; own = row_bytes row })) (numbers-row_of x.private ns)
      ∙ ap (λ own. started (record { ring = new_ring serial len ns; own = own })) (sym (lent_bytes_are x is ns can)) in
      ap (λ bs. record (seen x) { bytes = bs; next_serial = serial + 1; rings = (seen registered).rings }) (joined_bytes x is key serial (serial + 1) v ns new_joins)
      ∙ ap (λ rs. record (seen x) { bytes = laid p.ring.pages p.own (seen x).bytes; next_serial = serial + 1; rings = rs }) (joined_rings x is key serial (serial + 1) v ns new_joins)
      ∙ ap (add_paged (seen x) key) is_started

-- each part as a call leaves it
pub registered_is : (x : Parts) (key : RingKey) (v : Held) (ns : List ℕ) (private : List (Option (List ℕ))) (homes : List (Option Home)) (rows : Rows)
    → private ≡ without x.private ns → homes ≡ settled key 0 ns x.homes → rows ≡ edits.with_row x.rows key x.next_serial v
    → record { private = private; homes = homes; flag = x.flag; next_serial = x.next_serial + 1; rows = rows } ≡ joined x key x.next_serial (x.next_serial + 1) v ns
registered_is x key v ns private homes rows p h s =
    ap (λ ps. record x { private = ps; homes = homes; next_serial = x.next_serial + 1; rows = rows }) p
    ∙ ap (λ hs. record x { private = without x.private ns; homes = hs; next_serial = x.next_serial + 1; rows = rows }) h
    ∙ ap (λ rs. record x { private = without x.private ns; homes = settled key 0 ns x.homes; next_serial = x.next_serial + 1; rows = rs }) s

-- no ring of the key is seen where none stands
pub none_held : (x : Parts) (key : RingKey) → own_ring (seen x) key ≡ None → held_at x.rows key ≡ None
none_held x key none = by (held_at x.rows key) (sym (lookup-map_values ring_of (is_at (key_cmp key)) x.rows) ∙ none) where
  by : (o : Option (Row Held)) → option_map ring_of o ≡ None → o ≡ None
  by None h = refl
  by (Some r) h = cc

-- ---- a ring on other pages

module _ (x : Parts) (is : IsParts x) (key : RingKey) (a v : Held) (f : Found x.rows key a) (whole : AreWhole a.row) (ns : List ℕ) where
  abbrev pub moved : Parts
  moved =
      record x {
        private = without (given_back x.private a) ns;
        homes = settled key 0 ns (cleared (numbers_of a.row) x.homes);
        rows = edits.with_value x.rows key v;
      }

  pub moved_is : (private : List (Option (List ℕ))) (homes : List (Option Home)) → private ≡ without (given_back x.private a) ns
      → homes ≡ settled key 0 ns (cleared (numbers_of a.row) x.homes)
      → record { private = private; homes = homes; flag = x.flag; next_serial = x.next_serial; rows = edits.with_value x.rows key v } ≡ moved
  moved_is private homes p h =
      ap (λ ps. record x { private = ps; homes = homes; rows = edits.with_value x.rows key v }) p
      ∙ ap (λ hs. record x { private = without (given_back x.private a) ns; homes = hs; rows = edits.with_value x.rows key v }) h

  abbrev back : Parts
  back = ended x key a

  back_is : IsParts back
  back_is = ended_parts x is key a f whole

  back_bytes : (seen back).bytes ≡ (seen x).bytes
  back_bytes = ap (λ (l : Live). l.bytes) (ended_seen x is key a f whole)

  back_none : held_at back.rows key ≡ None
  back_none = remove_here x.rows key is.named.rising

  -- where it may stand
  pub anew_free : are_free_for (seen x) key ns ≡ can_lend (given_back x.private a) ns
  anew_free =
      free_without (seen x) key ns ∙ ap (λ l. are_free_for l key ns) (sym (ended_seen x is key a f whole)) ∙ free_is back back_is key back_none ns

  -- written under its key, or taken out and put in again
  same_rows : edits.with_value x.rows key v ≡ edits.with_row (edits.without_row x.rows key) key f.serial v
  same_rows = with_value_is x.rows key a v f ∙ same_entries key_total key_exact
      (set_value (is_at (key_cmp key)) x.rows (held f.serial v)) (insert_entry key_cmp (edits.without_row x.rows key) key (held f.serial v))
      (subst (IsStrictlySortedBy key_cmp) (sym (keys-set_value (is_at (key_cmp key)) x.rows (held f.serial v))) is.named.rising)
      (sorted-insert key_total key (held f.serial v) (edits.without_row x.rows key) (sorted-remove key_total (is_at (key_cmp key)) x.rows is.named.rising)) by where
        by : (q : RingKey) → held_at (set_value (is_at (key_cmp key)) x.rows (held f.serial v)) q ≡ held_at (insert_entry key_cmp (edits.without_row x.rows key) key (held f.serial v)) q
        by q =
            ⊎_elim
            (λ same.
            ap (held_at (set_value (is_at (key_cmp key)) x.rows (held f.serial v))) same
            ∙ set_here x.rows key (held f.serial a) (held f.serial v) f.is
            ∙ sym (insert_here (edits.without_row x.rows key) key (held f.serial v))
            ∙ ap (held_at (insert_entry key_cmp (edits.without_row x.rows key) key (held f.serial v))) (sym same))
            (λ other.
            set_other x.rows key q (held f.serial a) (held f.serial v) f.is other
            ∙ sym (remove_other x.rows key q is.named.rising other)
            ∙ sym (insert_other (edits.without_row x.rows key) key q (held f.serial v) other))
            (same_key_or_not q key)

  module _ (len : ℕ) (can : IsTrue (can_lend (given_back x.private a) ns)) (id : v.id ≡ a.id) (sized : length (row_bytes v.row) ≡ 4096 * length v.row)
      (new : Becomes a v (restarted len ns (lent_bytes (given_back x.private a) ns))) where
    moved_joins : Joins back key f.serial x.next_serial v ns
    moved_joins =
        record {
          can = can;
          none = back_none;
          named = ap key_in id ∙ is.named.key key (held f.serial a) f.is;
          pages = ap (λ (p : PagedRing). p.ring.pages) (new 0);
          sized = sized;
          some = is.named.some key (held f.serial a) f.is;
          young = is.named.young key (held f.serial a) f.is;
          later = omega arith;
          own = λ q h at same.
              let other : q ≢ key = λ e. none-some h (sym back_none ∙ ap (held_at back.rows) (sym e) ∙ at) in
              other (is.named.differ q key h (held f.serial a) (sym (remove_other x.rows key q is.named.rising other) ∙ at) f.is same);
        }

    is_moved : moved ≡ joined back key f.serial x.next_serial v ns
    is_moved = ap (λ rs. record moved { rows = rs }) same_rows

    pub moved_parts : IsParts moved
    moved_parts = subst IsParts (sym is_moved) (joined_parts back back_is key f.serial x.next_serial v ns moved_joins)

    pub moved_seen : seen moved ≡ set_paged (seen x) key (started (paged_in (seen x).bytes (resized (paged f.serial a).ring len ns)))
    moved_seen =
        let p = paged f.serial v in
        let bytes : (seen moved).bytes ≡ laid p.ring.pages p.own (seen x).bytes =
        ap (λ (y : Parts). (seen y).bytes) is_moved ∙ joined_bytes back back_is key f.serial x.next_serial v ns moved_joins ∙ ap (laid p.ring.pages p.own) back_bytes in
        let rings : (seen moved).rings ≡ set_value (is_at (key_cmp key)) (seen x).rings p.ring =
        ap rings_of (with_value_is x.rows key a v f) ∙ map-set_value ring_of (is_at (key_cmp key)) x.rows (held f.serial v) in
        let own : lent_bytes (given_back x.private a) ns ≡ ring_bytes (seen x).bytes ns =
        sym (lent_bytes_are back back_is ns can) ∙ ap (λ bs. ring_bytes bs ns) back_bytes in
        ap (λ bs. record (seen x) { bytes = bs; rings = (seen moved).rings }) bytes
        ∙ ap (λ rs. record (seen x) { bytes = laid p.ring.pages p.own (seen x).bytes; rings = rs }) rings
        ∙ ap (set_paged (seen x) key) (new f.serial ∙ ap (λ o. started (record { ring = resized (paged f.serial a).ring len ns; own = o })) own)

-- ---- what is left where a ring stands

-- it stays as it is
pub stays_is : (x : Parts) → IsParts x → (key : RingKey) (a : Held) (f : Found x.rows key a) → AreWhole a.row → IsTrue (all_differ (numbers_of a.row)) → (len : ℕ) (ns : List ℕ)
    → stands_so (paged f.serial a).ring len ns ≡ true → anew_if_free (seen x) key len ns ≡ answered Done
stays_is x is key a f whole distinct len ns so =
    let r = (paged f.serial a).ring in
    let own : numbers_of a.row ≡ ns = stands_pages r len ns so in
    let free = anew_free x is key a a f whole ns ∙ ap (can_lend (given_back x.private a)) (sym own) ∙ own_free x is key a f whole distinct in
    anew_is (seen x) key len ns r true free (ring_seen x.rows key a f) so

-- or starts on other pages
pub moves_to : (x : Parts) → IsParts x → (key : RingKey) (a : Held) (f : Found x.rows key a) → AreWhole a.row → (len : ℕ) (ns : List ℕ)
    → IsTrue (can_lend (given_back x.private a) ns) → stands_so (paged f.serial a).ring len ns ≡ false
    → anew_if_free (seen x) key len ns ≡ register_anew (seen x) key (paged f.serial a).ring len ns
moves_to x is key a f whole len ns can so =
    anew_is (seen x) key len ns (paged f.serial a).ring false (anew_free x is key a a f whole ns ∙ can) (ring_seen x.rows key a f) so

-- or is refused them, and all is as it was
pub kept_is : (x : Parts) (key : RingKey) (b : Held) {private : List (Option (List ℕ))} {homes : List (Option Home)} → private ≡ x.private → homes ≡ x.homes
    → record { private = private; homes = homes; flag = x.flag; next_serial = x.next_serial; rows = edits.with_value x.rows key b } ≡ with_ring x key b
kept_is x key b {private} {homes} p h =
    ap (λ ps. record x { private = ps; homes = homes; rows = edits.with_value x.rows key b }) p ∙ ap (λ hs. record x { homes = hs; rows = edits.with_value x.rows key b }) h
