-- Laws of a table whose rows have their rings: what is found in it, and what is left of it.
use Rattle.std.proofs.Common.{◌≡◌, ℕ, ◌<◌, ◌≤◌, Bool, true, false, cond, List, [], ◌∷◌, map, IsTrue, Option, Some, None, is_some, Bor, MutBor, refl, sym, ap, ◌∙◌, subst}
use Rattle.std.specs.declared.cmp.Ordering.{Ordering}
use Rattle.std.specs.declared.cmp.Ordering.TheVariants.{Less, Equal, Greater}
use Rattle.std.specs.Ordering.{match_ordering, is_eq}
use Rattle.std.specs.Option.{option_copied, option_copied_mut, option_map, option_or, unwrap_or}
use Rattle.std.specs.Map.{lookup, set_value, remove_entry}
use Rattle.std.specs.BTreeMap.{is_at, insert_entry}
use Rattle.std.proofs.lemmas.Bool.{false≢true}
use Rattle.std.proofs.lemmas.Map.Made.{lookup-map_values}
use Rattle.argo_base.specs.declared.ring_key.RingKey.{RingKey}
use Rattle.argo_base.specs.Match.{key_cmp, key_of, at_key, match_of, wildcard}
use Rattle.ring_table.specs.declared.row.Row.{Row}
use Rattle.ring_table.specs.Rows.{Held, held, held_of, held_at, row_of, value_at}
use Rattle.ring_table.specs.Edits.{with_row, without_row, with_value}
use Rattle.ring_table.specs.Listing.{serials_of}
use Rattle.ring_table.proofs.BucketLaws.{key_total, key_itself}
use Rattle.ring_table.proofs.EntryLaws.{find-insert}
use Rattle.ring_table.specs.Serials as tables
use Rattle.shared_parts.specs.declared.homes.Home.{Home}
use Rattle.shared_parts.specs.Homes.{settled}
use Rattle.shared_parts.specs.Rings.{Registry, AreTaken, NoneAbove, IsNext, serial_at, has_ring, without_ring, with_ring, next_serial}

-- ---- whether there is one

pub copied_some : {T : Type 0} (r : Option (Bor T)) → is_some (option_copied r) ≡ is_some r
copied_some None = refl
copied_some (Some x) = refl

pub copied_mut_some : {T : Type 0} (r : Option (MutBor T)) → is_some (option_copied_mut r) ≡ is_some r
copied_mut_some None = refl
copied_mut_some (Some x) = refl

some_key : {Y : Type 0} (key : RingKey) (o : Option Y) → is_some {T = RingKey × Y} (option_map (λ r. (key, r)) o) ≡ is_some o
some_key key None = refl
some_key key (Some y) = refl

some_or : {A B : Type 0} (a b : Option A) (x y : Option B) → is_some a ≡ is_some x → is_some b ≡ is_some y → is_some (option_or a b) ≡ is_some (option_or x y)
some_or None b None y one two = two
some_or None b (Some v) y one two = cc
some_or (Some a) b None y one two = cc
some_or (Some a) b (Some v) y one two = refl

-- ---- the serials

module _ {T : Type 0} where
  abbrev serial : Held T → ℕ
  serial h = h.serial

  pub found_serial : (test : RingKey → Bool) (es : List (RingKey × Held T)) → lookup test (serials_of es) ≡ option_map (λ h. h.serial) (lookup test es)
  found_serial test es = lookup-map_values serial test es

  some_same : (o : Option (Held T)) → is_some (option_map serial o) ≡ is_some o
  some_same None = refl
  some_same (Some h) = refl

  pub found_both : (test : RingKey → Bool) (es : List (RingKey × Held T)) → is_some (lookup test (serials_of es)) ≡ is_some (lookup test es)
  found_both test es = ap is_some (found_serial test es) ∙ some_same (lookup test es)

  abbrev listed : RingKey × Held T → RingKey × ℕ
  listed e = (e.0, e.1.serial)

  at_both : (es : List (RingKey × Held T)) (key : RingKey) → is_some (at_key (serials_of es) key) ≡ is_some (at_key es key)
  at_both es key =
      some_key key (lookup (is_at (key_cmp key)) (serials_of es))
      ∙ found_both (is_at (key_cmp key)) es
      ∙ sym (some_key key (lookup (is_at (key_cmp key)) es))

  -- a sender meets a ring by the serials where it does by the rows
  pub match_both : (es : List (RingKey × Held T)) (port sender : ℕ) → is_some (match_of (serials_of es) port sender) ≡ is_some (match_of es port sender)
  match_both es port sender =
      some_or (at_key (serials_of es) (key_of port sender)) (at_key (serials_of es) (key_of port wildcard)) (at_key es (key_of port sender)) (at_key es (key_of port wildcard))
      (at_both es (key_of port sender)) (at_both es (key_of port wildcard))

  -- ---- edits

  serial-insert : (es : List (RingKey × Held T)) (key : RingKey) (h : Held T) → serials_of (insert_entry key_cmp es key h) ≡ insert_entry key_cmp (serials_of es) key h.serial
  serial-insert [] key h = refl
  serial-insert (e ∷ es) key h = by (key_cmp key e.0) (serial-insert es key h) where
    by : (o : Ordering) → serials_of (insert_entry key_cmp es key h) ≡ insert_entry key_cmp (serials_of es) key h.serial
        → serials_of (match_ordering o ((key, h) ∷ e ∷ es) ((e.0, h) ∷ es) (e ∷ insert_entry key_cmp es key h))
        ≡ match_ordering o ((key, h.serial) ∷ listed e ∷ serials_of es) ((e.0, h.serial) ∷ serials_of es) (listed e ∷ insert_entry key_cmp (serials_of es) key h.serial)
    by Less rest = refl
    by Equal rest = refl
    by Greater rest = ap (λ r. listed e ∷ r) rest

  pub serial-with_row : (es : List (RingKey × Held T)) (key : RingKey) (s : ℕ) (v : T) → serials_of (with_row es key s v) ≡ insert_entry key_cmp (serials_of es) key s
  serial-with_row es key s v = serial-insert es key (held s v)

  serial-remove : (test : RingKey → Bool) (es : List (RingKey × Held T)) → serials_of (remove_entry test es) ≡ remove_entry test (serials_of es)
  serial-remove test [] = refl
  serial-remove test (e ∷ es) = by (test e.0) (serial-remove test es) where
    by : (b : Bool) → serials_of (remove_entry test es) ≡ remove_entry test (serials_of es)
        → serials_of (cond b es (e ∷ remove_entry test es)) ≡ cond b (serials_of es) (listed e ∷ remove_entry test (serials_of es))
    by true rest = refl
    by false rest = ap (λ r. listed e ∷ r) rest

  pub serial-without_row : (es : List (RingKey × Held T)) (key : RingKey) → serials_of (without_row es key) ≡ remove_entry (is_at (key_cmp key)) (serials_of es)
  serial-without_row es key = serial-remove (is_at (key_cmp key)) es

  abbrev found : (RingKey → Bool) → Bool → RingKey × Held T → List (RingKey × Held T) → ℕ
  found test b e es = unwrap_or (option_map serial (cond b (Some e.1) (lookup test es))) 0

  serial-set : (test : RingKey → Bool) (es : List (RingKey × Held T)) (v : T) → serials_of (set_value test es (held (unwrap_or (option_map (λ h. h.serial) (lookup test es)) 0) v)) ≡ serials_of es
  serial-set test [] v = refl
  serial-set test (e ∷ es) v = by (test e.0) (serial-set test es v) where
    by : (b : Bool) → serials_of (set_value test es (held (unwrap_or (option_map (λ h. h.serial) (lookup test es)) 0) v)) ≡ serials_of es
        → serials_of (cond b ((e.0, held (found test b e es) v) ∷ es) (e ∷ set_value test es (held (found test b e es) v))) ≡ listed e ∷ serials_of es
    by true rest = refl
    by false rest = ap (λ r. listed e ∷ r) rest

  pub serial-with_value : (es : List (RingKey × Held T)) (key : RingKey) (v : T) → serials_of (with_value es key v) ≡ serials_of es
  serial-with_value es key v = serial-set (is_at (key_cmp key)) es v

  -- ---- what is found by a serial

  abbrev pub shown : List (RingKey × Held T) → ℕ → List (Option Home) → Registry
  shown es next homes = record { serials = serials_of es; next = next; homes = homes }

  pub shown_value : (es : List (RingKey × Held T)) (key : RingKey) (v : T) (next : ℕ) (homes : List (Option Home)) → shown (with_value es key v) next homes ≡ shown es next homes
  shown_value es key v next homes = ap (λ (ss : List (RingKey × ℕ)). record { serials = ss; next = next; homes = homes }) (serial-with_value es key v)

  pub shown_without : (es : List (RingKey × Held T)) (key : RingKey) (next : ℕ) (homes : List (Option Home)) → shown (without_row es key) next homes ≡ without_ring (shown es next homes) key []
  shown_without es key next homes = ap (λ (ss : List (RingKey × ℕ)). record { serials = ss; next = next; homes = homes }) (serial-without_row es key)

  pub absent_held : (es : List (RingKey × Held T)) (key : RingKey) → is_some (lookup (is_at (key_cmp key)) (serials_of es)) ≡ false → held_at es key ≡ None
  absent_held es key none = by (held_at es key) refl (sym (found_both (is_at (key_cmp key)) es) ∙ none) where
    by : (o : Option (Held T)) → held_at es key ≡ o → is_some (held_at es key) ≡ false → held_at es key ≡ None
    by None is gone = is
    by (Some h) is gone = absurd (false≢true (sym gone ∙ ap is_some is))

  -- a row that has the serial
  had : (o : Option (Held T)) (s : ℕ) → option_map (λ h. h.serial) o ≡ Some s → (h : Held T) × (o ≡ Some h) × (h.serial ≡ s)
  had None s is = cc
  had (Some h) s is = (h, refl, cc)

  held_with : (es : List (RingKey × Held T)) (key : RingKey) (s : ℕ) → lookup (is_at (key_cmp key)) (serials_of es) ≡ Some s → (h : Held T) × (held_at es key ≡ Some h) × (h.serial ≡ s)
  held_with es key s found = had (held_at es key) s (sym (found_serial (is_at (key_cmp key)) es) ∙ found)

  pub none_above : (es : List (RingKey × Held T)) (serial next : ℕ) (homes : List (Option Home)) → tables.NoneAbove es serial → NoneAbove (shown es next homes) serial
  none_above es serial next homes none key s found =
      let h = held_with es key s found in
      subst (λ (n : ℕ). n ≤ serial) h.2 (none key h.0 h.1)

  pub is_next : (es : List (RingKey × Held T)) (serial next : ℕ) (homes : List (Option Home)) (row : Row T) → tables.IsNext es serial row → IsNext (shown es next homes) serial row.serial
  is_next es serial next homes row is = record {
    key = row.key;
    stands = found_serial (is_at (key_cmp row.key)) es ∙ ap (option_map (λ h. h.serial)) is.stands;
    above = is.above;
    least = λ q s found more.
        let h = held_with es q s found in
        subst (λ (n : ℕ). row.serial ≤ n) h.2 (is.least q h.0 h.1 (subst (λ (n : ℕ). serial < n) (sym h.2) more));
  }

-- ---- the rings

module _ {X : Type 0} where
  -- what is found has its ring
  pub taken_at : (test : RingKey → Bool) (es : List (RingKey × Held (Option X))) (h : Held (Option X)) → AreTaken es → lookup test es ≡ Some h → is_some h.value ≡ true
  taken_at test [] h taken found = cc
  taken_at test (e ∷ es) h taken found = by (test e.0) found (taken_at test es h taken.1) where
    by : (b : Bool) → cond b (Some e.1) (lookup test es) ≡ Some h → (lookup test es ≡ Some h → is_some h.value ≡ true) → is_some h.value ≡ true
    by true here rest =
        let same : e.1 ≡ h = cc in
        subst (λ (k : Held (Option X)). is_some k.value ≡ true) same taken.0
    by false here rest = rest here

  pub taken-remove : (test : RingKey → Bool) (es : List (RingKey × Held (Option X))) → AreTaken es → AreTaken (remove_entry test es)
  taken-remove test [] taken = tt
  taken-remove test (e ∷ es) taken = by (test e.0) (taken-remove test es taken.1) where
    by : (b : Bool) → AreTaken (remove_entry test es) → AreTaken (cond b es (e ∷ remove_entry test es))
    by true rest = taken.1
    by false rest = (taken.0, rest)

  pub taken-set : (test : RingKey → Bool) (es : List (RingKey × Held (Option X))) (h : Held (Option X)) → is_some h.value ≡ true → AreTaken es → AreTaken (set_value test es h)
  taken-set test [] h is taken = tt
  taken-set test (e ∷ es) h is taken = by (test e.0) (taken-set test es h is taken.1) where
    by : (b : Bool) → AreTaken (set_value test es h) → AreTaken (cond b ((e.0, h) ∷ es) (e ∷ set_value test es h))
    by true rest = (is, taken.1)
    by false rest = (taken.0, rest)

  at_self : (key : RingKey) (es : List (RingKey × Held (Option X))) (a h : Held (Option X)) → set_value (is_at (key_cmp key)) ((key, a) ∷ es) h ≡ (key, h) ∷ es
  at_self key es a h = ap (λ (b : Bool). cond b ((key, h) ∷ es) ((key, a) ∷ set_value (is_at (key_cmp key)) es h)) (key_itself key)

  -- a new row whose ring was put in
  fill : (es : List (RingKey × Held (Option X))) (key : RingKey) (a h : Held (Option X)) → is_some h.value ≡ true → AreTaken es → AreTaken (set_value (is_at (key_cmp key)) (insert_entry key_cmp es key a) h)
  fill [] key a h is taken = subst AreTaken (sym (at_self key [] a h)) (is, tt)
  fill (e ∷ es) key a h is taken = by (key_cmp key e.0) refl (fill es key a h is taken.1) where
    by : (o : Ordering) → key_cmp key e.0 ≡ o → AreTaken (set_value (is_at (key_cmp key)) (insert_entry key_cmp es key a) h)
        → AreTaken (set_value (is_at (key_cmp key)) (match_ordering o ((key, a) ∷ e ∷ es) ((e.0, a) ∷ es) (e ∷ insert_entry key_cmp es key a)) h)
    by Less is_order rest = subst AreTaken (sym (at_self key (e ∷ es) a h)) (is, taken)
    by Equal is_order rest = subst AreTaken (sym (ap (λ o. cond (is_eq o) ((e.0, h) ∷ es) ((e.0, a) ∷ set_value (is_at (key_cmp key)) es h)) is_order)) (is, taken.1)
    by Greater is_order rest =
        subst AreTaken (sym (ap (λ o. cond (is_eq o) ((e.0, h) ∷ insert_entry key_cmp es key a) (e ∷ set_value (is_at (key_cmp key)) (insert_entry key_cmp es key a) h)) is_order)) (taken.0, rest)

  pub taken-filled : (es : List (RingKey × Held (Option X))) (key : RingKey) (s : ℕ) (x : X) → AreTaken es → AreTaken (with_value (with_row es key s None) key (Some x))
  taken-filled es key s x taken = fill es key (held s None) _ refl taken

  -- a new row is found
  pub row_there : (es : List (RingKey × Held (Option X))) (key : RingKey) (s : ℕ) (v : Option X) → held_at (with_row es key s v) key ≡ Some (held s v)
  row_there es key s v = find-insert key_total key (held s v) es key ∙ ap (λ (b : Bool). cond b (Some (held s v)) (held_at es key)) (key_itself key)

  -- ---- what a look-up gives

  some_row : (o : Option (RingKey × Held (Option X))) (r : Option (Row (Option X))) → r ≡ option_map row_of o → is_some r ≡ is_some o
  some_row None r is = ap is_some is
  some_row (Some e) r is = ap is_some is

  row_taken : (o : Option (RingKey × Held (Option X))) (row : Row (Option X)) → ((e : RingKey × Held (Option X)) → o ≡ Some e → is_some e.1.value ≡ true) → Some row ≡ option_map row_of o → is_some row.value ≡ true
  row_taken None row all is = cc
  row_taken (Some e) row all is =
      let same : row ≡ row_of e = cc in
      subst (λ (r : Row (Option X)). is_some r.value ≡ true) (sym same) (all e refl)

  at_taken : (es : List (RingKey × Held (Option X))) (key : RingKey) → AreTaken es → (e : RingKey × Held (Option X)) → at_key es key ≡ Some e → is_some e.1.value ≡ true
  at_taken es key taken e is = by (held_at es key) refl is where
    by : (o : Option (Held (Option X))) → held_at es key ≡ o → option_map (λ h. (key, h)) o ≡ Some e → is_some e.1.value ≡ true
    by None found is = cc
    by (Some h) found is =
        let same : (key, h) ≡ e = cc in
        subst (λ (p : RingKey × Held (Option X)). is_some p.1.value ≡ true) same (taken_at (is_at (key_cmp key)) es h taken found)

  either_taken : (a b : Option (RingKey × Held (Option X))) → ((e : RingKey × Held (Option X)) → a ≡ Some e → is_some e.1.value ≡ true) → ((e : RingKey × Held (Option X)) → b ≡ Some e → is_some e.1.value ≡ true)
      → (e : RingKey × Held (Option X)) → option_or a b ≡ Some e → is_some e.1.value ≡ true
  either_taken None b one two e is = two e is
  either_taken (Some a) b one two e is = one e is

  -- the row of a key, and the one that a sender meets: whether it is there, and that it has its ring
  pub key_row : (es : List (RingKey × Held (Option X))) (key : RingKey) (r : Option (Row (Option X))) → r ≡ option_map row_of (at_key es key) → is_some r ≡ is_some (lookup (is_at (key_cmp key)) (serials_of es))
  key_row es key r is = some_row (at_key es key) r is ∙ some_key key (held_at es key) ∙ sym (found_both (is_at (key_cmp key)) es)

  pub key_taken : (es : List (RingKey × Held (Option X))) (key : RingKey) (row : Row (Option X)) → AreTaken es → Some row ≡ option_map row_of (at_key es key) → is_some row.value ≡ true
  key_taken es key row taken is = row_taken (at_key es key) row (at_taken es key taken) is

  pub match_row : (es : List (RingKey × Held (Option X))) (port sender : ℕ) (r : Option (Row (Option X))) → r ≡ option_map row_of (match_of es port sender) → is_some r ≡ is_some (match_of (serials_of es) port sender)
  match_row es port sender r is = some_row (match_of es port sender) r is ∙ sym (match_both es port sender)

  pub match_taken : (es : List (RingKey × Held (Option X))) (port sender : ℕ) (row : Row (Option X)) → AreTaken es → Some row ≡ option_map row_of (match_of es port sender) → is_some row.value ≡ true
  match_taken es port sender row taken is =
      row_taken (match_of es port sender) row
      (either_taken (at_key es (key_of port sender)) (at_key es (key_of port wildcard)) (at_taken es (key_of port sender) taken) (at_taken es (key_of port wildcard) taken)) is

  some_value : (o : Option (Held (Option X))) (v : Option (Option X)) → v ≡ option_map (λ h. h.value) o → is_some v ≡ is_some o
  some_value None v is = ap is_some is
  some_value (Some h) v is = ap is_some is

  -- the value of a key
  pub key_value : (es : List (RingKey × Held (Option X))) (key : RingKey) (v : Option (Option X)) → v ≡ value_at es key → is_some v ≡ is_some (lookup (is_at (key_cmp key)) (serials_of es))
  key_value es key v is = some_value (held_at es key) v is ∙ sym (found_both (is_at (key_cmp key)) es)

  pub value_taken : (es : List (RingKey × Held (Option X))) (key : RingKey) (v : Option X) → AreTaken es → Some v ≡ value_at es key → is_some v ≡ true
  value_taken es key v taken is = by (held_at es key) refl is where
    by : (o : Option (Held (Option X))) → held_at es key ≡ o → Some v ≡ option_map (λ h. h.value) o → is_some v ≡ true
    by None found is = cc
    by (Some h) found is =
        let same : v ≡ h.value = cc in
        ap is_some same ∙ taken_at (is_at (key_cmp key)) es h taken found

  pub taken-value : (es : List (RingKey × Held (Option X))) (key : RingKey) (x : X) → AreTaken es → AreTaken (with_value es key (Some x))
  taken-value es key x taken = taken-set (is_at (key_cmp key)) es (held (unwrap_or (option_map (λ h. h.serial) (held_at es key)) 0) (Some x)) refl taken

  pub taken-without : (es : List (RingKey × Held (Option X))) (key : RingKey) → AreTaken es → AreTaken (without_row es key)
  taken-without es key taken = taken-remove (is_at (key_cmp key)) es taken

  pub no_empty : (es : List (RingKey × Held (Option X))) (key : RingKey) (v : Option X) → AreTaken es → Some v ≡ value_at es key → v ≡ None → ⊥
  no_empty es key v taken is none = false≢true (sym (ap is_some none) ∙ value_taken es key v taken is)

  pub row_lost : (es t : List (RingKey × Held (Option X))) (key : RingKey) (s : ℕ) → t ≡ with_row es key s None → None ≡ value_at t key → ⊥
  row_lost es t key s is none =
      false≢true
      (ap is_some none ∙ ap (λ (x : List (RingKey × Held (Option X))). is_some (value_at x key)) is
      ∙ ap (λ (o : Option (Held (Option X))). is_some (option_map (λ h. h.value) o)) (row_there es key s None))

  pub shown_made : (es t : List (RingKey × Held (Option X))) (key k : RingKey) (s next : ℕ) (v : Option X) (homes after : List (Option Home)) (numbers : List ℕ)
      → t ≡ with_row es key s None → next ≡ next_serial s → after ≡ settled key 0 numbers homes → key ≡ k
      → shown (with_value t key v) next after ≡ with_ring (shown es s homes) k numbers
  shown_made es t key k s next v homes after numbers is more noted same =
      shown_value t key v next after
      ∙ ap (λ (x : List (RingKey × Held (Option X))). shown x next after) is
      ∙ ap (λ (ss : List (RingKey × ℕ)). record { serials = ss; next = next; homes = after }) (serial-with_row es key s None)
      ∙ ap (λ (n : ℕ). record { serials = insert_entry key_cmp (serials_of es) key s; next = n; homes = after }) more
      ∙ ap (λ (hs : List (Option Home)). record { serials = insert_entry key_cmp (serials_of es) key s; next = next_serial s; homes = hs }) noted
      ∙ ap (λ (q : RingKey). with_ring (shown es s homes) q numbers) same

-- what is not there does not go
pub remove_absent : (key : RingKey) (es : List (RingKey × ℕ)) → is_some (lookup (is_at (key_cmp key)) es) ≡ false → remove_entry (is_at (key_cmp key)) es ≡ es
remove_absent key [] none = refl
remove_absent key (e ∷ es) none = by (is_at (key_cmp key) e.0) none (remove_absent key es) where
  by : (b : Bool) → is_some (cond b (Some e.1) (lookup (is_at (key_cmp key)) es)) ≡ false → (is_some (lookup (is_at (key_cmp key)) es) ≡ false → remove_entry (is_at (key_cmp key)) es ≡ es)
      → cond b es (e ∷ remove_entry (is_at (key_cmp key)) es) ≡ e ∷ es
  by true none rest = cc
  by false none rest = ap (λ r. e ∷ r) (rest none)

pub without_absent : (r : Registry) (key : RingKey) → has_ring r key ≡ false → without_ring r key [] ≡ r
without_absent r key none = ap (λ (ss : List (RingKey × ℕ)). record { serials = ss; next = r.next; homes = r.homes }) (remove_absent key r.serials none)
