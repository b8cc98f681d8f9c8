-- Laws of what always holds of a ring.
use Rattle.std.proofs.Common.{◌≡◌, ℕ, suc, ◌+◌, ◌*◌, ◌≤◌, Bool, true, false, ◌&&◌, ◌==◌, if◌then◌else◌, IsTrue, List, [], ◌∷◌, length, drop, Option, Some, None, refl, sym, ap, ◌∙◌, subst, arith}
use Rattle.std.specs.Prelude.{IsFalse}
use Rattle.std.specs.List.{All}
use Rattle.std.proofs.lemmas.Bool.{false≢true}
use Rattle.argo_base.specs.declared.message.Message.{Message}
use Rattle.argo_base.specs.Layout.{u32_at}
use Rattle.argo_base.specs.Notices.{Notices}
use Rattle.argo_base.specs.Slots.{is_legal, is_place, page_count}
use Rattle.argo_base.specs.Splice.{splice}
use Rattle.argo_base.proofs.SlotLaws.{legal, page_count_holds}
use Rattle.argo_model.specs.Rules.Puts.{touches, taken_by, moves, clean_after, ring_after_put}
use Rattle.argo_model.specs.Rules.RingBytes.{PagedRing, rx_word, tx_word, write_tx}
use Rattle.argo_model.specs.Rules.Starts.{start_place, starts_clean}
use Rattle.argo_model.specs.Rules.State.{Ring}
use Rattle.guest_pages.specs.Pages.{row_of}
use Rattle.guest_pages.specs.Rows.{numbers_of, row_bytes}
use Rattle.guest_pages.proofs.FlatLaws.{length-row_bytes}
use Rattle.ring_core.specs.Clean.{IsClean}
use Rattle.ring_core.specs.Puts.{clean_when, untaken_when}
use Rattle.ring_core.proofs.CleanLaws.{Fits, clean_spared, clean_moved, clean_started, start_place_is}
use Rattle.ring_core.proofs.TestLaws.{both, says_same}

-- the pages of a ring hold its header and its slots
pub fits_on : (len : ℕ) (own : List ℕ) (count : ℕ) → IsTrue (is_legal len) → length own ≡ 4096 * count → count ≡ page_count len → Fits len own
fits_on len own count test sized counted =
    let l = legal len test in
    let h = page_count_holds len in
    record { least = l.least; most = l.most; even = l.even; sized = omega arith }

pub fits_row : (len : ℕ) (row : List (ℕ × List ℕ)) → IsTrue (is_legal len) → length row ≡ page_count len → All (λ p. length p.1 ≡ 4096) row → Fits len (row_bytes row)
fits_row len row test counted whole = fits_on len (row_bytes row) (length row) test (length-row_bytes row whole) counted

-- ---- a put into a clean ring

chosen : (test : Bool) (x : Option ℕ) (k : ℕ) → (if test then x else None) ≡ Some k → (test ≡ true) × (x ≡ Some k)
chosen true x k is = (refl, is)
chosen false x k is = cc

pub put_leaves_clean : (len tx : ℕ) (untaken : List Message) (own bytes : List ℕ) (at : ℕ) (moved : Option ℕ) (touched : Bool)
    → Fits len own → at + length bytes ≤ length own
    → (if (at == 0) && (length bytes == 4) then taken_by len (rx_word own) untaken (u32_at bytes 0) else None) ≡ moved
    → touches len at (length bytes) ≡ touched → IsClean len tx untaken own → IsTrue (clean_when moved touched)
    → IsClean len tx (untaken_when moved touched untaken) (splice own at bytes)
put_leaves_clean len tx untaken own bytes at (Some k) touched f inside takes touch h clean =
    let c = chosen ((at == 0) && (length bytes == 4)) (taken_by len (rx_word own) untaken (u32_at bytes 0)) k takes in
    let tests = both (at == 0) (length bytes == 4) c.0 in
    let zero_at : at ≡ 0 = says_same at 0 tests.0 in
    subst (λ a. IsClean len tx (drop k untaken) (splice own a bytes)) (sym zero_at)
    (clean_moved len tx untaken own bytes k f (says_same (length bytes) 4 tests.1) c.1 h)
put_leaves_clean len tx untaken own bytes at None true f inside takes touch h clean = absurd (false≢true clean)
put_leaves_clean len tx untaken own bytes at None false f inside takes touch h clean = clean_spared len tx untaken own bytes at f inside touch h

pub put_leaves_dirty : (untaken : List Message) (moved : Option ℕ) (touched : Bool) → IsFalse (clean_when moved touched) → untaken_when moved touched untaken ≡ []
put_leaves_dirty untaken (Some k) touched dirty = absurd (false≢true (sym dirty))
put_leaves_dirty untaken None true dirty = refl
put_leaves_dirty untaken None false dirty = absurd (false≢true (sym dirty))

-- the rule for a put into a clean ring, by what it takes and what it touches
ring_when : (r : Ring) (at n : ℕ) (moved : Option ℕ) (touched : Bool) → r.clean ≡ true → touches r.len at n ≡ touched
    → clean_after r at n moved ≡ record r { clean = clean_when moved touched; untaken = untaken_when moved touched r.untaken }
ring_when r at n (Some k) touched clean touch = ap (λ c. record r { clean = c; untaken = drop k r.untaken }) clean
ring_when r at n None true clean touch = ap (λ t. if t then record r { clean = false; untaken = [] } else r) touch
ring_when r at n None false clean touch =
    ap (λ t. if t then record r { clean = false; untaken = [] } else r) touch ∙ ap (λ c. record r { clean = c }) clean

pub put_is : (p : PagedRing) (at : ℕ) (bytes : List ℕ) (moved : Option ℕ) (touched : Bool) → p.ring.clean ≡ true
    → (if (at == 0) && (length bytes == 4) then taken_by p.ring.len (rx_word p.own) p.ring.untaken (u32_at bytes 0) else None) ≡ moved
    → touches p.ring.len at (length bytes) ≡ touched
    → ring_after_put p at bytes ≡ record p.ring { clean = clean_when moved touched; untaken = untaken_when moved touched p.ring.untaken }
put_is p at bytes moved touched clean takes touch =
    let m : moves p at bytes ≡ moved =
    ap (λ c. if c && (at == 0) && (length bytes == 4) then taken_by p.ring.len (rx_word p.own) p.ring.untaken (u32_at bytes 0) else None) clean ∙ takes in
    ap (λ c. if c then clean_after p.ring at (length bytes) (moves p at bytes) else p.ring) clean
    ∙ ap (clean_after p.ring at (length bytes)) m
    ∙ ring_when p.ring at (length bytes) moved touched clean touch

-- ---- pages that are lent

pub numbers_of-row_of : (private : List (Option (List ℕ))) (numbers : List ℕ) → numbers_of (row_of private numbers) ≡ numbers
numbers_of-row_of private [] = refl
numbers_of-row_of private (n ∷ ns) = ap (λ xs. n ∷ xs) (numbers_of-row_of private ns)

pub length-row_of : (private : List (Option (List ℕ))) (numbers : List ℕ) → length (row_of private numbers) ≡ length numbers
length-row_of private [] = refl
length-row_of private (n ∷ ns) = ap (λ k. suc k) (length-row_of private ns)

-- ---- a ring by its parts

-- the ring of the rules with these parts
abbrev pub made : (serial len : ℕ) (pages : List ℕ) (tx : ℕ) (clean : Bool) (untaken : List Message) (notices : Notices) (own : List ℕ) → PagedRing
made serial len pages tx clean untaken notices own =
    record {
      ring = record {
        serial = serial;
        len = len;
        pages = pages;
        tx = tx;
        clean = clean;
        untaken = untaken;
        notices = notices;
      };
      own = own;
    }

pub same_made : (serial len : ℕ) {pages pages' own own' : List ℕ} {tx tx' : ℕ} {clean clean' : Bool} {untaken untaken' : List Message}
    {notices notices' : Notices} → pages ≡ pages' → tx ≡ tx' → clean ≡ clean' → untaken ≡ untaken' → notices ≡ notices' → own ≡ own'
    → made serial len pages tx clean untaken notices own ≡ made serial len pages' tx' clean' untaken' notices' own'
same_made serial len {pages} {pages'} {own} {own'} {tx} {tx'} {clean} {clean'} {untaken} {untaken'} {notices} {notices'} a b c d e f =
    ap (λ x. made serial len x tx clean untaken notices own) a
    ∙ ap (λ x. made serial len pages' x clean untaken notices own) b
    ∙ ap (λ x. made serial len pages' tx' x untaken notices own) c
    ∙ ap (λ x. made serial len pages' tx' clean' x notices own) d
    ∙ ap (λ x. made serial len pages' tx' clean' untaken' x own) e
    ∙ ap (λ x. made serial len pages' tx' clean' untaken' notices' x) f

-- equal parts are as clean
pub clean_like : (len : ℕ) {tx tx' : ℕ} {ms ms' : List Message} {own own' : List ℕ} → tx' ≡ tx → ms' ≡ ms → own' ≡ own
    → IsClean len tx ms own → IsClean len tx' ms' own'
clean_like len {tx} {tx'} {ms} {ms'} {own} {own'} a b c h =
    subst (λ t. IsClean len t ms' own') (sym a) (
    subst (λ m. IsClean len tx m own') (sym b) (
    subst (λ o. IsClean len tx ms o) (sym c) h))

-- ---- starts

-- the bytes that a start leaves
abbrev started_own : ℕ → ℕ → List ℕ → List ℕ
started_own len tx own = if is_place len (tx_word own) then own else write_tx tx own

pub start_bytes : (len tx : ℕ) (own new : List ℕ) → tx ≡ start_place len (rx_word own) (tx_word own)
    → new ≡ (if is_place len (tx_word own) then own else write_tx tx own)
    → new ≡ (if is_place len (tx_word own) then own else write_tx (start_place len (rx_word own) (tx_word own)) own)
start_bytes len tx own new at is = is ∙ ap (λ t. started_own len t own) at

-- a ring that started on these pages is clean where the start says so
pub start_leaves_clean : (len tx : ℕ) (row : List (ℕ × List ℕ)) (new : List ℕ) (clean : Bool) (ms : List Message) → IsTrue (is_legal len)
    → length row ≡ page_count len → All (λ p. length p.1 ≡ 4096) row → tx ≡ start_place len (rx_word (row_bytes row)) (tx_word (row_bytes row))
    → clean ≡ starts_clean len (rx_word (row_bytes row)) (tx_word (row_bytes row))
    → new ≡ (if is_place len (tx_word (row_bytes row)) then row_bytes row else write_tx tx (row_bytes row)) → ms ≡ []
    → IsTrue clean → IsClean len tx ms new
start_leaves_clean len tx row new clean ms is_legal_len counted whole at is bytes none h =
    clean_like len at none (start_bytes len tx (row_bytes row) new at bytes)
    (clean_started len (row_bytes row) (fits_row len row is_legal_len counted whole) (sym is ∙ h))

pub start_leaves_place : (len tx rx word : ℕ) → IsTrue (is_legal len) → tx ≡ start_place len rx word → IsTrue (is_place len tx)
start_leaves_place len tx rx word is_legal_len at =
    let least = (legal len is_legal_len).least in
    subst (λ t. IsTrue (is_place len t)) (sym at) (start_place_is len rx word (omega arith))
