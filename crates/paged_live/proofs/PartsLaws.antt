-- Laws of a domain of which one ring changes on its pages.
use Rattle.std.proofs.Common.{◌≡◌, ◌≢◌, ℕ, ◌*◌, true, false, List, Option, Some, None, option_map, unwrap_or, Result, Ok, Err, OnErr, ⊎_elim, refl, sym, ap, ◌∙◌, subst}
use Rattle.std.specs.List.Sorted.{IsStrictlySortedBy}
use Rattle.std.specs.Map.{lookup, keys_of, set_value}
use Rattle.std.specs.Option.{is_some, option_or}
use Rattle.std.specs.BTreeMap.{is_at}
use Rattle.std.proofs.lemmas.List.{length-map}
use Rattle.std.proofs.lemmas.Option.{same_Some}
use Rattle.std.proofs.lemmas.Map.{keys-set_value}
use Rattle.std.proofs.lemmas.Map.Made.{lookup-map_values}
use Rattle.std.proofs.lemmas.Map.Steps.{set_value_same}
use Rattle.argo_base.specs.declared.ring_key.RingKey.{RingKey}
use Rattle.argo_base.specs.Match.{key_cmp, key_of, key_in, wildcard, at_key, match_of}
use Rattle.argo_model.specs.Rules.State.{Ring}
use Rattle.argo_model.specs.Rules.Effects.{Change, lifted, after}
use Rattle.argo_model.specs.Rules.RingBytes.{PagedRing, paged as paged_in, set_paged, laid}
use Rattle.guest_pages.specs.Rows.{numbers_of, row_bytes}
use Rattle.ring_core.specs.Held.{Held, paged, Becomes}
use Rattle.ring_table.specs.declared.row.Row.{Row as TableRow}
use Rattle.ring_table.specs.Rows.{Held as Row, held, held_at, value_at, row_of}
use Rattle.ring_table.specs.Edits.{with_value}
use Rattle.paged_live.specs.Parts.{Rows, Parts, stood, ring_in, store_of, ring_of, rings_of, seen, IsParts, StandsStill}
use Rattle.paged_live.proofs.StoreLaws.{same_key_or_not, own_bytes, Wrote, wrote_store, wrote_memory}
use Rattle.paged_live.proofs.RowLaws.{set_here, set_other, map-set_value}

-- ---- what is found

-- a ring stands under a key
pub record Found (rows : Rows) (key : RingKey) (v : Held) : Type 0 where
  pub serial : ℕ
  pub is : held_at rows key ≡ Some (held serial v)

pub found_value : (rows : Rows) (key : RingKey) (v : Held) → value_at rows key ≡ Some v → Found rows key v
found_value rows key v value = by (held_at rows key) refl value where
  by : (o : Option (Row Held)) → held_at rows key ≡ o → option_map (λ (h : Row Held). h.value) o ≡ Some v → Found rows key v
  by None is value = cc
  by (Some h) is value = record { serial = h.serial; is = is ∙ ap (λ w. Some (held h.serial w)) (same_Some h.value v value) }

pub found_stood : (rows : Rows) (key : RingKey) (v : Held) (f : Found rows key v) → ring_in rows key ≡ Some (paged f.serial v)
found_stood rows key v f = ap (option_map stood) f.is

-- in what the rules see
pub ring_seen : (rows : Rows) (key : RingKey) (v : Held) (f : Found rows key v) → lookup (is_at (key_cmp key)) (rings_of rows) ≡ Some (paged f.serial v).ring
ring_seen rows key v f = lookup-map_values ring_of (is_at (key_cmp key)) rows ∙ ap (option_map ring_of) f.is

pub paged_seen : (x : Parts) → IsParts x → (key : RingKey) (v : Held) (f : Found x.rows key v) → paged_in (seen x).bytes (paged f.serial v).ring ≡ paged f.serial v
paged_seen x is key v f =
    ap (λ own. record { ring = (paged f.serial v).ring; own = own }) (own_bytes (store_of x) is.store key (paged f.serial v) (found_stood x.rows key v f))

-- ---- one ring changes

-- the domain with another ring under a key
abbrev pub with_ring : Parts → RingKey → Held → Parts
with_ring x key v = record x { rows = with_value x.rows key v }

pub with_value_is : (rows : Rows) (key : RingKey) (a b : Held) (f : Found rows key a) → with_value rows key b ≡ set_value (is_at (key_cmp key)) rows (held f.serial b)
with_value_is rows key a b f =
    ap (λ o. set_value (is_at (key_cmp key)) rows (held (unwrap_or (option_map (λ (h : Row Held). h.serial) o) 0) b)) f.is

pub value_here : (rows : Rows) (key : RingKey) (a b : Held) (f : Found rows key a) → held_at (with_value rows key b) key ≡ Some (held f.serial b)
value_here rows key a b f =
    ap (λ (rs : Rows). held_at rs key) (with_value_is rows key a b f) ∙ set_here rows key (held f.serial a) (held f.serial b) f.is

value_other : (rows : Rows) (key q : RingKey) (a b : Held) → Found rows key a → q ≢ key → held_at (with_value rows key b) q ≡ held_at rows q
value_other rows key q a b f other =
    ap (λ (rs : Rows). held_at rs q) (with_value_is rows key a b f) ∙ set_other rows key q (held f.serial a) (held f.serial b) f.is other

pub changed_wrote : (x : Parts) (key : RingKey) (a b : Held) (f : Found x.rows key a) → StandsStill a b
    → Wrote (store_of x) (store_of (with_ring x key b)) key (paged f.serial a) (paged f.serial b)
changed_wrote x key a b f still =
    record {
      count = refl;
      page = λ n. refl;
      home = λ n. refl;
      was = found_stood x.rows key a f;
      now = ap (option_map stood) (value_here x.rows key a b f);
      others = λ q other. ap (option_map stood) (value_other x.rows key q a b f other);
      pages = still.pages;
      sized = still.sized ∙ ap (λ n. 4096 * n) (sym (length-map b.row (λ (p : ℕ × List ℕ). p.0)));
    }

-- an entry after it
entry_was : (x : Parts) (key : RingKey) (a b : Held) (f : Found x.rows key a) (q : RingKey) (h : Row Held) → held_at (with_value x.rows key b) q ≡ Some h
    → StandsStill a b → IsParts x → (key_in h.value.id ≡ q) × ((g : ℕ) → g ≡ h.serial → (v : Held) × (held_at x.rows q ≡ Some (held g v)))
entry_was x key a b f q h is still parts =
    ⊎_elim
    (λ same.
    let e : held f.serial b ≡ h = same_Some (held f.serial b) h (sym (value_here x.rows key a b f) ∙ ap (held_at (with_value x.rows key b)) (sym same) ∙ is) in (
      ap (λ (r : Row Held). key_in r.value.id) (sym e) ∙ ap key_in still.id ∙ parts.named.key key (held f.serial a) f.is ∙ sym same,
      λ g at. (a, ap (held_at x.rows) same ∙ f.is ∙ ap (λ n. Some (held n a)) (ap (λ (r : Row Held). r.serial) e ∙ sym at)),
    ))
    (λ other.
    let old = sym (value_other x.rows key q a b f other) ∙ is in (
      parts.named.key q h old,
      λ g at. (h.value, old ∙ ap (λ n. Some (held n h.value)) (sym at)),
    ))
    (same_key_or_not q key)

pub changed_parts : (x : Parts) → IsParts x → (key : RingKey) (a b : Held) → Found x.rows key a → StandsStill a b → IsParts (with_ring x key b)
changed_parts x is key a b f still =
    record {
      homes = is.homes;
      store = wrote_store (store_of x) (store_of (with_ring x key b)) key (paged f.serial a) (paged f.serial b) is.store (changed_wrote x key a b f still);
      named = record {
        rising = subst (IsStrictlySortedBy key_cmp) (sym (ap keys_of (with_value_is x.rows key a b f) ∙ keys-set_value (is_at (key_cmp key)) x.rows (held f.serial b))) is.named.rising;
        key = λ q h at. (entry_was x key a b f q h at still is).0;
        young = λ q h at. let old = (entry_was x key a b f q h at still is).1 h.serial refl in is.named.young q (held h.serial old.0) old.1;
        first = is.named.first;
        some = λ q h at. let old = (entry_was x key a b f q h at still is).1 h.serial refl in is.named.some q (held h.serial old.0) old.1;
        differ = λ k q g h at_k at_q same.
            let old_k = (entry_was x key a b f k g at_k still is).1 g.serial refl in
            let old_q = (entry_was x key a b f q h at_q still is).1 h.serial refl in
            is.named.differ k q (held g.serial old_k.0) (held h.serial old_q.0) old_k.1 old_q.1 same;
      };
    }

pub changed_seen : (x : Parts) → IsParts x → (key : RingKey) (a b : Held) (f : Found x.rows key a) → StandsStill a b
    → seen (with_ring x key b) ≡ set_paged (seen x) key (paged f.serial b)
changed_seen x is key a b f still =
    let bytes = wrote_memory (store_of x) (store_of (with_ring x key b)) key (paged f.serial a) (paged f.serial b) is.store (changed_wrote x key a b f still) in
    let rings = ap rings_of (with_value_is x.rows key a b f) ∙ map-set_value ring_of (is_at (key_cmp key)) x.rows (held f.serial b) in
    ap (λ bs. record (seen x) { bytes = bs; rings = rings_of (with_value x.rows key b) }) bytes
    ∙ ap (λ rs. record (seen x) { bytes = laid (numbers_of b.row) (row_bytes b.row) (seen x).bytes; rings = rs }) rings

-- a ring that is laid back as it is changes nothing
pub same_seen : (x : Parts) → IsParts x → (key : RingKey) (a : Held) (f : Found x.rows key a) → set_paged (seen x) key (paged f.serial a) ≡ seen x
same_seen x is key a f =
    let p = paged f.serial a in
    let found = found_stood x.rows key a f in
    let w : Wrote (store_of x) (store_of x) key p p =
    record {
      count = refl;
      page = λ n. refl;
      home = λ n. refl;
      was = found;
      now = found;
      others = λ q other. refl;
      pages = refl;
      sized = is.store.sized key p found;
    } in
    ap (λ bs. record (seen x) { bytes = bs; rings = set_value (is_at (key_cmp key)) (rings_of x.rows) p.ring }) (sym (wrote_memory (store_of x) (store_of x) key p p is.store w))
    ∙ ap (λ rs. record (seen x) { rings = rs }) (set_value_same (is_at (key_cmp key)) (rings_of x.rows) p.ring (ring_seen x.rows key a f))

-- an act of the rules on the ring is one on what the owner has
pub changed_after : (x : Parts) → IsParts x → (key : RingKey) (a b : Held) (f : Found x.rows key a) → StandsStill a b → (rule : PagedRing → Change PagedRing)
    → Becomes a b (λ p. after p (rule p))
    → seen (with_ring x key b) ≡ after (seen x) (lifted (set_paged (seen x) key) (rule (paged_in (seen x).bytes (paged f.serial a).ring)))
changed_after x is key a b f still rule becomes =
    let p = paged f.serial a in
    changed_seen x is key a b f still
    ∙ ap (set_paged (seen x) key) (becomes f.serial)
    ∙ by (rule p).left
    ∙ ap (λ q. after (seen x) (lifted (set_paged (seen x) key) (rule q))) (sym (paged_seen x is key a f)) where
      by : (o : Option PagedRing) → set_paged (seen x) key (unwrap_or o (paged f.serial a)) ≡ unwrap_or (option_map (set_paged (seen x) key) o) (seen x)
      by None = same_seen x is key a f
      by (Some q) = refl

-- a ring that stays leaves all as it is
pub unchanged_seen : (x : Parts) → IsParts x → (key : RingKey) (a b : Held) → Found x.rows key a → StandsStill a b → Becomes a b (λ p. p) → seen (with_ring x key b) ≡ seen x
unchanged_seen x is key a b f still becomes =
    changed_seen x is key a b f still ∙ ap (set_paged (seen x) key) (becomes f.serial) ∙ same_seen x is key a f

-- ---- the ring that a sender meets

abbrev pub seen_entry : RingKey × Row Held → RingKey × Ring
seen_entry e = (e.0, ring_of e.1)

at_key_seen : (rows : Rows) (key : RingKey) → at_key (rings_of rows) key ≡ option_map seen_entry (at_key rows key)
at_key_seen rows key = ap (option_map (λ (r : Ring). (key, r))) (lookup-map_values ring_of (is_at (key_cmp key)) rows) ∙ by (held_at rows key) where
  by : (o : Option (Row Held)) → option_map (λ (r : Ring). (key, r)) (option_map ring_of o) ≡ option_map seen_entry (option_map (λ (h : Row Held). (key, h)) o)
  by None = refl
  by (Some h) = refl

pub match_seen : (rows : Rows) (port sender : ℕ) → match_of (rings_of rows) port sender ≡ option_map seen_entry (match_of rows port sender)
match_seen rows port sender =
    ap (λ o. option_or o (at_key (rings_of rows) (key_of port wildcard))) (at_key_seen rows (key_of port sender))
    ∙ ap (option_or (option_map seen_entry (at_key rows (key_of port sender)))) (at_key_seen rows (key_of port wildcard))
    ∙ by (at_key rows (key_of port sender)) (at_key rows (key_of port wildcard)) where
      by : (o w : Option (RingKey × Row Held)) → option_or (option_map seen_entry o) (option_map seen_entry w)
          ≡ option_map seen_entry (option_or o w)
      by None w = refl
      by (Some e) w = refl

-- a key of the table whose row is the match: the rules meet it too
pub match_is : (rows : Rows) (port sender : ℕ) (key : RingKey) (v : Held) (f : Found rows key v) → at_key rows key ≡ match_of rows port sender
    → match_of (rings_of rows) port sender ≡ Some (key, (paged f.serial v).ring)
match_is rows port sender key v f same =
    match_seen rows port sender ∙ ap (option_map seen_entry) (sym same) ∙ ap (λ o. option_map seen_entry (option_map (λ (h : Row Held). (key, h)) o)) f.is

pub match_none : (rows : Rows) (port sender : ℕ) (key : RingKey) → at_key rows key ≡ match_of rows port sender → value_at rows key ≡ None
    → match_of (rings_of rows) port sender ≡ None
match_none rows port sender key same none = match_seen rows port sender ∙ ap (option_map seen_entry) (sym same) ∙ by (held_at rows key) none where
  by : (o : Option (Row Held)) → option_map (λ (h : Row Held). h.value) o ≡ None → option_map seen_entry (option_map (λ (h : Row Held). (key, h)) o) ≡ None
  by None none = refl
  by (Some h) none = cc

-- the ring of the sender alone, or else the wildcard's
pub met_exact : (rows : Rows) (port sender : ℕ) → is_some (option_map row_of (at_key rows (key_of port sender))) ≡ true
    → at_key rows (key_of port sender) ≡ match_of rows port sender
met_exact rows port sender there = by (at_key rows (key_of port sender)) there where
  by : (o : Option (RingKey × Row Held)) → is_some (option_map row_of o) ≡ true → o ≡ option_or o (at_key rows (key_of port wildcard))
  by None there = cc
  by (Some e) there = refl

pub met_any : (rows : Rows) (port sender : ℕ) → is_some (option_map row_of (at_key rows (key_of port sender))) ≡ false
    → at_key rows (key_of port wildcard) ≡ match_of rows port sender
met_any rows port sender gone = by (at_key rows (key_of port sender)) gone where
  by : (o : Option (RingKey × Row Held)) → is_some (option_map row_of o) ≡ false → at_key rows (key_of port wildcard) ≡ option_or o (at_key rows (key_of port wildcard))
  by None gone = refl
  by (Some e) gone = cc

-- what holds in any case holds after an error
pub in_any_case : {T E P : Type 0} (r : Result T E) → P → OnErr r P
in_any_case (Ok x) p = tt
in_any_case (Err e) p = p

-- a row that is found
pub found_row : (rows : Rows) (key : RingKey) (row : TableRow Held) → option_map row_of (at_key rows key) ≡ Some row → Found rows key row.value
found_row rows key row at = by (held_at rows key) refl at where
  by : (o : Option (Row Held)) → held_at rows key ≡ o → option_map row_of (option_map (λ (h : Row Held). (key, h)) o) ≡ Some row → Found rows key row.value
  by None is at = cc
  by (Some h) is at =
      let same : row_of (key, h) ≡ row = same_Some (row_of (key, h)) row at in
      record { serial = h.serial; is = is ∙ ap (λ v. Some (held h.serial v)) (ap (λ (r : TableRow Held). r.value) same) }
