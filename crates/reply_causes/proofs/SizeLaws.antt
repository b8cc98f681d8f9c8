-- Laws of how many bytes are found.
use Rattle.std.proofs.Common.{◌≡◌, ℕ, zero, suc, ◌+◌, ◌-◌, ◌*◌, ◌/◌, ◌%◌, ◌<◌, ◌≤◌, min, Bool, true, false, cond, nat_lt, List, [], ◌∷◌, ◌++◌, length, take, drop, Option, Some, None, Ok, Err, refl, sym, ap, ◌∙◌, subst, arith, append_assoc, length-take, length-drop, length-append}
use Rattle.std.specs.Prelude.{option_and_then, option_map}
use Rattle.std.proofs.lemmas.Bool.Decides.{nat_tests}
use Rattle.argo_base.specs.declared.errno.Errno.TheVariants.{Inval, MsgSize}
use Rattle.argo_base.specs.declared.piece.Piece.{Piece}
use Rattle.argo_base.specs.Pieces.{pieces}
use Rattle.argo_base.specs.Limits.{longest_body}
use Rattle.argo_base.specs.Iovs.{Iov, is_bad_iov, judged, verdict_of, gathered_pieces}
use Rattle.argo_base.proofs.PieceLaws.{pieces-first}
use Rattle.argo_model.specs.Rules.State.{State, Live, live_of, has_page}
use Rattle.argo_model.specs.Laws.SendCauses.{piece_of, piece_in, found}
use Rattle.reply_causes.proofs.FetchLaws.{found_more}

-- what is found of a first piece, and of the others
pub record FoundBoth (d : ℕ) (p : Piece) (ps : List Piece) (s : State) (states : List State) (bs : List ℕ) : Type 0 where
  pub first : List ℕ
  pub others : List ℕ
  pub here : piece_in s d p ≡ Some first
  pub there : found d ps states ≡ Some others
  pub joined : bs ≡ first ++ others

pub found_both : (d : ℕ) (p : Piece) (ps : List Piece) (s : State) (states : List State) (bs : List ℕ) → found d (p ∷ ps) (s ∷ states) ≡ Some bs → FoundBoth d p ps s states bs
found_both d p ps s states bs h = by (piece_in s d p) refl (found d ps states) refl h where
  by : (a : Option (List ℕ)) → piece_in s d p ≡ a → (b : Option (List ℕ)) → found d ps states ≡ b
      → option_and_then (λ bs. option_map (λ more. bs ++ more) b) a ≡ Some bs → FoundBoth d p ps s states bs
  by None here b there h = absurd (let no : ⊥ = cc in no)
  by (Some first) here None there h = absurd (let no : ⊥ = cc in no)
  by (Some first) here (Some others) there h =
      let same : bs ≡ first ++ others = cc in
      record { first = first; others = others; here = here; there = there; joined = same }

-- a piece of a page that is there has all its bytes
piece_size : (p : Piece) (s : State) (d : ℕ) (bs : List ℕ) → p.off + p.n ≤ 4096 → piece_in s d p ≡ Some bs → length bs ≡ p.n
piece_size p s d bs within h = by (live_of s d) h where
  page : (live : Live) (b : Bool) → has_page live p.page ≡ b → cond b (Some (take p.n (drop (4096 * p.page + p.off) live.bytes))) None ≡ Some bs → length bs ≡ p.n
  page live true there h =
      let same : take p.n (drop (4096 * p.page + p.off) live.bytes) ≡ bs = cc in
      let has : p.page < length live.bytes / 4096 = grind (arith, nat_tests) in
      let long : p.n ≤ length live.bytes - (4096 * p.page + p.off) = omega arith in
      sym (ap length same) ∙ length-take p.n (drop (4096 * p.page + p.off) live.bytes) ∙ ap (min p.n) (length-drop (4096 * p.page + p.off) live.bytes) ∙ omega arith
  page live false there h = absurd (let no : ⊥ = cc in no)

  by : (life : Option Live) → option_and_then (piece_of p) life ≡ Some bs → length bs ≡ p.n
  by None h = absurd (let no : ⊥ = cc in no)
  by (Some live) h = page live (has_page live p.page) refl h

-- what is found of these pieces has n bytes
pub record IsSized (ps : List Piece) (n : ℕ) : Type 0 where
  pub size : (d : ℕ) (states : List State) (bs : List ℕ) → found d ps states ≡ Some bs → length bs ≡ n

sized_none : IsSized [] 0
sized_none = record { size = λ d states bs h. let same : [] ≡ bs = cc in sym (ap length same) }

sized_more : (p : Piece) (ps : List Piece) (n : ℕ) → p.off + p.n ≤ 4096 → IsSized ps n → IsSized (p ∷ ps) (p.n + n)
sized_more p ps n within rest = record { size = by } where
  by : (d : ℕ) (states : List State) (bs : List ℕ) → found d (p ∷ ps) states ≡ Some bs → length bs ≡ p.n + n
  by d [] bs h = absurd (let no : ⊥ = cc in no)
  by d (s ∷ states) bs h =
      let both = found_both d p ps s states bs h in
      let a = piece_size p s d both.first within both.here in
      let b = rest.size d states both.others both.there in
      ap length both.joined ∙ length-append both.first both.others ∙ omega (arith, a, b)

sized_range : (most page off n : ℕ) → off < 4096 → n ≤ most → IsSized (pieces (4096 * page + off) n) n
sized_range most page off zero below few = sized_none
sized_range zero page off (suc n) below few = absurd (omega arith)
sized_range (suc most) page off (suc n) below few =
    let k = min (suc n) (4096 - off) in
    let rest = sized_range most (page + 1) 0 (suc n - k) (omega arith) (omega arith) in
    let P : List Piece → Type 0 = λ ps. IsSized ps (k + (suc n - k)) in
    let Q : ℕ → Type 0 = λ m. IsSized (pieces (4096 * page + off) (suc n)) m in
    let whole : k + (suc n - k) ≡ suc n = omega arith in
    subst Q whole (subst P (sym (pieces-first page off (suc n) below (omega arith)))
    (sized_more (record { page = page; off = off; n = k }) (pieces (4096 * (page + 1) + 0) (suc n - k)) (suc n - k) (omega arith) rest))

-- a range is found with all its bytes
pub sized-pieces : (at n : ℕ) → IsSized (pieces at n) n
sized-pieces at n =
    let P : ℕ → Type 0 = λ x. IsSized (pieces x n) n in
    let split : 4096 * (at / 4096) + at % 4096 ≡ at = omega arith in
    subst P split (sized_range n (at / 4096) (at % 4096) n (omega arith) (omega arith))

-- what is found of the first of two rows of pieces, and of the second
record FoundParts (d : ℕ) (ps qs : List Piece) (states : List State) (bs : List ℕ) : Type 0 where
  first : List ℕ
  others : List ℕ
  here : found d ps states ≡ Some first
  there : found d qs (drop (length ps) states) ≡ Some others
  joined : bs ≡ first ++ others

found_parts : (d : ℕ) (ps qs : List Piece) (states : List State) (bs : List ℕ) → found d (ps ++ qs) states ≡ Some bs → FoundParts d ps qs states bs
found_parts d [] qs states bs h = record { first = []; others = bs; here = refl; there = h; joined = refl }
found_parts d (p ∷ ps) qs [] bs h = absurd (let no : ⊥ = cc in no)
found_parts d (p ∷ ps) qs (s ∷ states) bs h =
    let both = found_both d p (ps ++ qs) s states bs h in
    let rest = found_parts d ps qs states both.others both.there in
    record {
      first = both.first ++ rest.first;
      others = rest.others;
      here = found_more d p ps s states both.first both.here ∙ ap (option_map (λ more. both.first ++ more)) rest.here;
      there = rest.there;
      joined = both.joined ∙ ap (λ xs. both.first ++ xs) rest.joined ∙ sym (append_assoc both.first rest.first rest.others);
    }

-- and so are ranges that follow one another
sized-append : (ps qs : List Piece) (m n : ℕ) → IsSized ps m → IsSized qs n → IsSized (ps ++ qs) (m + n)
sized-append ps qs m n one other = record { size = by } where
  by : (d : ℕ) (states : List State) (bs : List ℕ) → found d (ps ++ qs) states ≡ Some bs → length bs ≡ m + n
  by d states bs h =
      let parts = found_parts d ps qs states bs h in
      let a = one.size d states parts.first parts.here in
      let b = other.size d (drop (length ps) states) parts.others parts.there in
      ap length parts.joined ∙ length-append parts.first parts.others ∙ omega (arith, a, b)

-- the bytes of iovs that are passed: those of the verdict, without those that it began with
sized_judged : (n m : ℕ) (vs : List Iov) → judged n vs ≡ Ok m → n ≤ m × IsSized (gathered_pieces vs) (m - n)
sized_judged n m [] h =
    let same : n ≡ m = cc in
    let Q : ℕ → Type 0 = λ k. IsSized [] k in
    (omega arith, subst Q (omega arith) sized_none)
sized_judged n m (v ∷ vs) h =
    by (is_bad_iov v) (nat_lt longest_body (n + v.len)) h (λ passed. sized_judged (n + v.len) m vs passed) where
      by : (bad long : Bool) → cond bad (Err Inval) (cond long (Err MsgSize) (judged (n + v.len) vs)) ≡ Ok m
          → (judged (n + v.len) vs ≡ Ok m → n + v.len ≤ m × IsSized (gathered_pieces vs) (m - (n + v.len))) → n ≤ m × IsSized (gathered_pieces (v ∷ vs)) (m - n)
      by true long h later = absurd (let no : ⊥ = cc in no)
      by false true h later = absurd (let no : ⊥ = cc in no)
      by false false h later =
          let rest = later h in
          let few = rest.0 in
          let Q : ℕ → Type 0 = λ k. IsSized (pieces v.hnd v.len ++ gathered_pieces vs) k in
          (omega (arith, few), subst Q (omega (arith, few)) (sized-append (pieces v.hnd v.len) (gathered_pieces vs) v.len (m - (n + v.len)) (sized-pieces v.hnd v.len) rest.1))

-- a body whose iovs were passed is found with all its bytes
pub sized-gathered : (vs : List Iov) (n : ℕ) → verdict_of vs ≡ Ok n → IsSized (gathered_pieces vs) n
sized-gathered vs n h = let P : ℕ → Type 0 = λ k. IsSized (gathered_pieces vs) k in subst P (omega arith) (sized_judged 0 n vs h).1
