-- Laws of a domain's rings by their keys.
use Rattle.std.proofs.Common.{◌≡◌, ◌≢◌, Bool, true, false, cond, List, [], ◌∷◌, map, Option, Some, None, refl, sym, ap, ◌∙◌, ⊎_elim}
use Rattle.std.specs.declared.cmp.Ordering.{Ordering}
use Rattle.std.specs.declared.cmp.Ordering.TheVariants.{Less, Equal, Greater}
use Rattle.std.specs.Ordering.{match_ordering}
use Rattle.std.specs.Prelude.{IsSome}
use Rattle.std.specs.List.Sorted.{IsStrictlySortedBy}
use Rattle.std.specs.Map.{lookup, set_value, remove_entry, keys_of}
use Rattle.std.specs.BTreeMap.{is_at, insert_entry}
use Rattle.std.proofs.lemmas.Bool.{cases_Bool}
use Rattle.std.proofs.lemmas.Cmp.{eq_by_cmp_equiv}
use Rattle.std.proofs.lemmas.Map.{lookup-set_value, lookup-remove_entry}
use Rattle.std.proofs.lemmas.Map.Keys.{IsDistinct-from_sorted}
use Rattle.argo_base.specs.declared.ring_key.RingKey.{RingKey}
use Rattle.argo_base.specs.Match.{key_cmp}
use Rattle.ring_table.proofs.BucketLaws.{key_total, key_is, key_itself}
use Rattle.ring_table.proofs.EntryLaws.{find-insert}

pub at_other : (key q : RingKey) → q ≢ key → is_at (key_cmp key) q ≡ false
at_other key q other = ⊎_elim (λ same. absurd (other (sym (key_is key q same)))) (λ no. no) (cases_Bool (is_at (key_cmp key) q))

one : (key x y : RingKey) → is_at (key_cmp key) x ≡ true → is_at (key_cmp key) y ≡ is_at (key_cmp x) y
one key x y at = ap (λ k. is_at (key_cmp k) y) (key_is key x at)

module _ {X : Type 0} where
  abbrev find : List (RingKey × X) → RingKey → Option X
  find es q = lookup (is_at (key_cmp q)) es

  there : (o : Option X) (x : X) → o ≡ Some x → IsSome o
  there None x is = cc
  there (Some y) x is = refl

  -- another value written under a key
  pub set_here : (es : List (RingKey × X)) (key : RingKey) (v w : X) → find es key ≡ Some v → find (set_value (is_at (key_cmp key)) es w) key ≡ Some w
  set_here es key v w found =
      lookup-set_value (eq_by_cmp_equiv key_total) (is_at (key_cmp key)) (one key) key w es (there (find es key) v found)
      ∙ ap (λ b. cond b (Some w) (find es key)) (key_itself key)

  pub set_other : (es : List (RingKey × X)) (key q : RingKey) (v w : X) → find es key ≡ Some v → q ≢ key → find (set_value (is_at (key_cmp key)) es w) q ≡ find es q
  set_other es key q v w found other =
      lookup-set_value (eq_by_cmp_equiv key_total) (is_at (key_cmp key)) (one key) q w es (there (find es key) v found)
      ∙ ap (λ b. cond b (Some w) (find es q)) (at_other key q other)

  -- a key's value that goes
  pub remove_here : (es : List (RingKey × X)) (key : RingKey) → IsStrictlySortedBy key_cmp (keys_of es) → find (remove_entry (is_at (key_cmp key)) es) key ≡ None
  remove_here es key sorted =
      lookup-remove_entry (eq_by_cmp_equiv key_total) (is_at (key_cmp key)) (one key) key es (IsDistinct-from_sorted key_cmp (keys_of es) sorted)
      ∙ ap (λ b. cond b None (find es key)) (key_itself key)

  pub remove_other : (es : List (RingKey × X)) (key q : RingKey) → IsStrictlySortedBy key_cmp (keys_of es) → q ≢ key → find (remove_entry (is_at (key_cmp key)) es) q ≡ find es q
  remove_other es key q sorted other =
      lookup-remove_entry (eq_by_cmp_equiv key_total) (is_at (key_cmp key)) (one key) q es (IsDistinct-from_sorted key_cmp (keys_of es) sorted)
      ∙ ap (λ b. cond b None (find es q)) (at_other key q other)

  -- a key's value that comes
  pub insert_here : (es : List (RingKey × X)) (key : RingKey) (w : X) → find (insert_entry key_cmp es key w) key ≡ Some w
  insert_here es key w = find-insert key_total key w es key ∙ ap (λ b. cond b (Some w) (find es key)) (key_itself key)

  pub insert_other : (es : List (RingKey × X)) (key q : RingKey) (w : X) → q ≢ key → find (insert_entry key_cmp es key w) q ≡ find es q
  insert_other es key q w other = find-insert key_total key w es q ∙ ap (λ b. cond b (Some w) (find es q)) (at_other key q other)

module _ {X Y : Type 0} (g : X → Y) where
  abbrev mapped : List (RingKey × X) → List (RingKey × Y)
  mapped es = map (λ e. (e.0, g e.1)) es

  -- the same edits of what the values are seen as
  pub map-set_value : (test : RingKey → Bool) (es : List (RingKey × X)) (w : X) → map (λ e. (e.0, g e.1)) (set_value test es w) ≡ set_value test (map (λ e. (e.0, g e.1)) es) (g w)
  map-set_value test [] w = refl
  map-set_value test (e ∷ es) w = by (test e.0) (map-set_value test es w) where
    by : (b : Bool) → mapped (set_value test es w) ≡ set_value test (mapped es) (g w)
        → mapped (cond b ((e.0, w) ∷ es) (e ∷ set_value test es w)) ≡ cond b ((e.0, g w) ∷ mapped es) ((e.0, g e.1) ∷ set_value test (mapped es) (g w))
    by true rest = refl
    by false rest = ap (λ r. (e.0, g e.1) ∷ r) rest

  pub map-remove_entry : (test : RingKey → Bool) (es : List (RingKey × X)) → map (λ e. (e.0, g e.1)) (remove_entry test es) ≡ remove_entry test (map (λ e. (e.0, g e.1)) es)
  map-remove_entry test [] = refl
  map-remove_entry test (e ∷ es) = by (test e.0) (map-remove_entry test es) where
    by : (b : Bool) → mapped (remove_entry test es) ≡ remove_entry test (mapped es)
        → mapped (cond b es (e ∷ remove_entry test es)) ≡ cond b (mapped es) ((e.0, g e.1) ∷ remove_entry test (mapped es))
    by true rest = refl
    by false rest = ap (λ r. (e.0, g e.1) ∷ r) rest

  pub map-insert_entry : (es : List (RingKey × X)) (key : RingKey) (w : X) → map (λ e. (e.0, g e.1)) (insert_entry key_cmp es key w) ≡ insert_entry key_cmp (map (λ e. (e.0, g e.1)) es) key (g w)
  map-insert_entry [] key w = refl
  map-insert_entry (e ∷ es) key w = by (key_cmp key e.0) (map-insert_entry es key w) where
    by : (o : Ordering) → mapped (insert_entry key_cmp es key w) ≡ insert_entry key_cmp (mapped es) key (g w)
        → mapped (match_ordering o ((key, w) ∷ e ∷ es) ((e.0, w) ∷ es) (e ∷ insert_entry key_cmp es key w))
        ≡ match_ordering o ((key, g w) ∷ (e.0, g e.1) ∷ mapped es) ((e.0, g w) ∷ mapped es) ((e.0, g e.1) ∷ insert_entry key_cmp (mapped es) key (g w))
    by Less rest = refl
    by Equal rest = refl
    by Greater rest = ap (λ r. (e.0, g e.1) ∷ r) rest
