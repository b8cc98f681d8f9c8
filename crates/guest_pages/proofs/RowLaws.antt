-- Laws of what a row is seen as.
use Rattle.std.proofs.Common.{◌≡◌, ℕ, ◌<◌, List, [], ◌∷◌, length, map, Option, Some, None, refl, sym, ap, subst, ◌∙◌, arith}
use Rattle.std.specs.Prelude.{unwrap_or, slice_set, slice_index_or}
use Rattle.std.specs.List.{All}
use Rattle.std.proofs.Math.Seq.{map-set_same}
use Rattle.std.proofs.lemmas.List.{get_or-map, length-map, map-set}
use Rattle.std.proofs.lemmas.List.Elements.{All-map, All-set, All-weaker}
use Rattle.guest_pages.specs.declared.lazy_page.Lent.{Lent}
use Rattle.guest_pages.specs.PageBytes.{HoldsPage}
use Rattle.argo_base.specs.Numbers.{all_differ}
use Rattle.guest_pages.specs.RowInside.{IsRow}
use Rattle.guest_pages.specs.Rows.{numbered, numbers_of, page_in}

-- the row with other bytes in the page at a place
abbrev pub with_bytes : List (ℕ × List ℕ) → ℕ → List ℕ → List (ℕ × List ℕ)
with_bytes row place bytes = slice_set row place ((page_in row place).0, bytes)

pub numbers_of-numbered : (row : List Lent) → numbers_of (map numbered row) ≡ map (λ e. e.number) row
numbers_of-numbered [] = refl
numbers_of-numbered (e ∷ es) = ap (λ ns. e.number ∷ ns) (numbers_of-numbered es)

length-held : (p : Option (List ℕ)) → HoldsPage p → length (unwrap_or p []) ≡ 4096
length-held None held = absurd held
length-held (Some p) held = held

-- each page of a row has 4,096 bytes
pub pages_whole : (row : List Lent) → All (λ e. HoldsPage e.page) row → All (λ p. length p.1 ≡ 4096) (map numbered row)
pages_whole row held =
    All-map (λ (p : ℕ × List ℕ). length p.1 ≡ 4096) numbered row
    (All-weaker (λ (e : Lent). HoldsPage e.page) (λ (e : Lent). length (unwrap_or e.page []) ≡ 4096) (λ e h. length-held e.page h) row held)

-- a place of a row
abbrev pub place_of : ℕ → Option (List ℕ) → Lent
place_of n p = record { number = n; page = p }

-- a place as it is seen
pub page_in-numbered : (places : List Lent) (row : List (ℕ × List ℕ)) (place : ℕ) (e : Lent) → map numbered places ≡ row → place < length row
    → e ≡ slice_index_or places place e → page_in row place ≡ numbered e
page_in-numbered places row place e seen inside is =
    let long : place < length places = omega (arith, ap length seen, length-map places numbered) in
    ap (λ r. page_in r place) (sym seen) ∙ get_or-map numbered places place e (0, []) long ∙ ap numbered (sym is)

-- other bytes at a place, as they are seen
pub with_bytes-numbered : (places : List Lent) (row : List (ℕ × List ℕ)) (place : ℕ) (e : Lent) (bytes : List ℕ) → map numbered places ≡ row
    → place < length row → e ≡ slice_index_or places place e
    → map numbered (slice_set places place (place_of e.number (Some bytes))) ≡ with_bytes row place bytes
with_bytes-numbered places row place e bytes seen inside is =
    map-set numbered places place (place_of e.number (Some bytes))
    ∙ ap (λ r. slice_set r place (e.number, bytes)) seen
    ∙ ap (λ p. slice_set row place (p.0, bytes)) (sym (page_in-numbered places row place e seen inside is))

-- a row with other bytes at a place is a row
pub row_with_bytes : (places : List Lent) (place : ℕ) (e : Lent) (bytes : List ℕ) → IsRow places → e ≡ slice_index_or places place e
    → length bytes ≡ 4096 → IsRow (slice_set places place (place_of e.number (Some bytes)))
row_with_bytes places place e bytes are is whole =
    record {
      differ =
          ap all_differ (map-set_same (λ (x : Lent). x.number) places place (place_of e.number (Some bytes)) e (ap (λ (x : Lent). x.number) is))
          ∙ are.differ;
      whole = All-set (λ (x : Lent). HoldsPage x.page) places place (place_of e.number (Some bytes)) whole are.whole;
    }

pub row_whole : (places : List Lent) (row : List (ℕ × List ℕ)) → IsRow places → map numbered places ≡ row → All (λ p. length p.1 ≡ 4096) row
row_whole places row are seen = subst (λ r. All (λ p. length p.1 ≡ 4096) r) seen (pages_whole places are.whole)
