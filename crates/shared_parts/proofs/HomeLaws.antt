-- Laws of homes that are noted one after another.
use Rattle.std.proofs.Common.{◌≡◌, ℕ, zero, suc, ◌+◌, ◌<◌, true, false, List, [], ◌∷◌, length, drop, slice_index, Option, Some, None, is_some, refl, sym, ap, ◌∙◌, arith}
use Rattle.std.specs.Option.{option_map}
use Rattle.std.proofs.lemmas.List.{get_or-map}
use Rattle.argo_base.specs.declared.ring_key.RingKey.{RingKey}
use Rattle.guest_pages.specs.Rows.{numbers_of, page_in}
use Rattle.shared_parts.specs.declared.homes.Home.{Home}
use Rattle.shared_parts.specs.Homes.{home, home_at, with_home, settled, cleared}
use Rattle.shared_parts.specs.Rings.{Registry, serial_at, has_ring, place_in, place_of}

drop_next : (xs : List ℕ) (k : ℕ) → k < length xs → drop k xs ≡ slice_index xs k ∷ drop (k + 1) xs
drop_next [] k below = absurd (omega arith)
drop_next (x ∷ xs) zero below = refl
drop_next (x ∷ xs) (suc k) below =
    let e : suc (k + 1) ≡ suc k + 1 = omega arith in
    drop_next xs k (omega arith) ∙ ap (λ n. slice_index xs k ∷ drop n (x ∷ xs)) e

-- one more is settled
pub settle_next : (key : RingKey) (ns : List ℕ) (homes : List (Option Home)) (k n : ℕ) → k < length ns → n ≡ slice_index ns k
    → settled key k (drop k ns) homes ≡ settled key (k + 1) (drop (k + 1) ns) (with_home n (Some (home key k)) homes)
settle_next key ns homes k n below is =
    ap (λ xs. settled key k xs homes) (drop_next ns k below) ∙ ap (λ m. settled key (k + 1) (drop (k + 1) ns) (with_home m (Some (home key k)) homes)) (sym is)

-- one more is cleared
pub clear_next : (ns : List ℕ) (homes : List (Option Home)) (k n : ℕ) → k < length ns → n ≡ slice_index ns k
    → cleared (drop k ns) homes ≡ cleared (drop (k + 1) ns) (with_home n None homes)
clear_next ns homes k n below is =
    ap (λ xs. cleared xs homes) (drop_next ns k below) ∙ ap (λ m. cleared (drop (k + 1) ns) (with_home m None homes)) (sym is)

-- the number of a page of a row
pub number_of : (row : List (ℕ × List ℕ)) (k : ℕ) → k < length row → (page_in row k).0 ≡ slice_index (numbers_of row) k
number_of row k below = sym (get_or-map (λ (p : ℕ × List ℕ). p.0) row k (0, []) 0 below)

-- where a page stands

pub place_none : (r : Registry) (page : ℕ) → None ≡ home_at r.homes page → None ≡ place_of r page
place_none r page is = ap (place_in r) is

none_there : (o : Option ℕ) (place : ℕ) → false ≡ is_some o → None ≡ option_map (λ _. place) o
none_there None place is = refl
none_there (Some s) place is = cc

one_there : (o : Option ℕ) (place : ℕ) → true ≡ is_some o → Some place ≡ option_map (λ _. place) o
one_there None place is = cc
one_there (Some s) place is = refl

pub place_lost : (r : Registry) (page : ℕ) (h : Home) → Some h ≡ home_at r.homes page → false ≡ has_ring r h.key → None ≡ place_of r page
place_lost r page h is none = none_there (serial_at r h.key) h.place none ∙ ap (place_in r) is

pub place_found : (r : Registry) (page : ℕ) (h : Home) → Some h ≡ home_at r.homes page → true ≡ has_ring r h.key → Some h.place ≡ place_of r page
place_found r page h is there = one_there (serial_at r h.key) h.place there ∙ ap (place_in r) is
