-- The bytes of a page.
use Rattle.std.specs.Prelude.{ℕ, ◌≡◌, List, ◌++◌, length, take, replicate, Option, Some, None}
use Rattle.argo_base.specs.Limits.{page_bytes}

-- a page of zeros
unfoldable pub zero_page : List ℕ
zero_page = replicate page_bytes 0

-- the page whose memory shows these bytes: they themselves, where they are 4,096, and a page of zeros, where there are none
unfoldable pub page_of : List ℕ → List ℕ
page_of xs = take page_bytes (xs ++ zero_page)

-- a place holds a page of 4,096 bytes
abbrev pub HoldsPage : Option (List ℕ) → Type 0
HoldsPage None = ⊥
HoldsPage (Some p) = length p ≡ page_bytes

-- a page that stands there has 4,096 bytes
abbrev pub IsWhole : Option (List ℕ) → Type 0
IsWhole None = Unit {0}
IsWhole (Some p) = length p ≡ page_bytes
