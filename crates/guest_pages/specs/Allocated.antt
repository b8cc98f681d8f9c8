-- Pages that take their memory. A page that was never written shows no bytes, and all of its bytes are zero.
use Rattle.std.specs.Prelude.{ℕ, ◌≡◌, ◌⊎◌, List, [], ◌∷◌, Option, option_map, map}
use Rattle.guest_pages.specs.declared.lazy_page.Lent.{Lent}
use Rattle.guest_pages.specs.PageBytes.{page_of}

-- a domain's pages as they are seen, each with all of its bytes
abbrev pub shown : List (Option (List ℕ)) → List (Option (List ℕ))
shown pages = map (option_map page_of) pages

-- a place whose page has its memory
abbrev pub allocated : Lent → Lent
allocated e = record { number = e.number; page = option_map page_of e.page }

-- a page is as it was, or took its memory
abbrev pub IsGrown : Option (List ℕ) → Option (List ℕ) → Type 0
IsGrown p q = (q ≡ p) ⊎ (q ≡ option_map page_of p)

-- a place has the number that it had, and its page is as it was, or took its memory
pub record IsGrownPlace (e f : Lent) : Type 0 where
  pub number : f.number ≡ e.number
  pub page : IsGrown e.page f.page

-- each of a list stands so to the one at its place in another list, which is as long
abbrev pub Each : {A : Type 0} → (A → A → Type 0) → List A → List A → Type 0
Each R [] [] = Unit {0}
Each R [] (y ∷ ys) = ⊥
Each R (x ∷ xs) [] = ⊥
Each R (x ∷ xs) (y ∷ ys) = R x y × Each R xs ys
