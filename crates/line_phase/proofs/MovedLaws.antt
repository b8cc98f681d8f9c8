-- Laws of phases that an outcome moves on.
use Rattle.std.proofs.Common.{◌≡◌, ◌≢◌, ℕ, Vec, Global, Some, None, List, length, refl, subst, sym, ◌∙◌, arith}
use Rattle.line_phase.specs.declared.cursor.Cursor.{Cursor}
use Rattle.argo_model.specs.declared.line.Line.{Line}
use Rattle.argo_model.specs.declared.action.Outcome.{Outcome}
use Rattle.line_phase.specs.declared.ranges.Moved.{Moved}
use Rattle.line_phase.specs.declared.ranges.Moved.TheVariants.{More, Whole, Failed, Ended}
use Rattle.line_phase.specs.declared.phase.Phase.{Phase}
use Rattle.line_phase.specs.declared.phase.Phase.TheVariants.{Reading, Writing}
use Rattle.line_phase.specs.declared.phase.Followed.{Followed}
use Rattle.line_phase.specs.declared.phase.Text.{Text}
use Rattle.line_phase.specs.declared.phase.Reader.{Reader}
use Rattle.line_phase.specs.Ranges.{PutMoves, FetchMoves, IsNearer, IsCounted, CountsBytes, IsOver}
use Rattle.line_phase.specs.Text.{text_of, after_put, if_not_put, most_after_put}
use Rattle.line_phase.specs.Reader.{after_read, after_fault, HasSize, most_after}
use Rattle.line_phase.specs.Phase.{IsWriting, IsReading}
use Rattle.line_phase.specs.Followed.{Leads, Follows, ReadsTo, PutsTo}
use Rattle.line_phase.proofs.RangeLaws.{some_piece}

-- the last piece of a text is put
pub put_whole : (line : Line) (c d : Cursor) (text : Text) (o : Outcome) (on : Followed) (stays : Phase) → IsWriting line c text → PutMoves c o Whole d
    → Leads (after_put text) (most_after_put text) on → Follows line (Writing c text) o (Some on) stays
put_whole line c d text o on stays at moves h = record {
  rest = λ os. moves (text_of line text) (if_not_put text) (after_put text) os at.size ∙ h.rest line os;
  ready = h.ready line;
  nearer = let some = some_piece c at.some at.sound in let few = h.few in omega (arith, some);
}

-- a piece of a range is fetched, and others are to come
pub fetch_more : (line : Line) (c d : Cursor) (got : Vec ℕ Global) (new : Vec ℕ Global) (reader : Reader) (o : Outcome) → IsReading c (length got.items) reader
    → FetchMoves c got.items o More d new.items → IsNearer More c d → IsCounted More (length got.items) c.left (length new.items) d.left
    → Follows line (Reading c got reader) o None (Reading d new reader)
fetch_more line c d got new reader o at moves nearer counted = record {
  rest = λ os. moves (after_fault reader) (after_read reader) os;
  ready = record {
    some = nearer.0;
    sound = nearer.3;
    size = let P : ℕ → Type 0 = λ n. HasSize n reader in subst P (sym counted) at.size;
    ready = at.ready;
  };
  nearer = omega arith;
}

-- the last piece of a range is fetched
pub fetch_whole : (line : Line) (c d : Cursor) (got : Vec ℕ Global) (new : List ℕ) (reader : Reader) (o : Outcome) (on : Followed) (stays : Phase) → IsReading c (length got.items) reader
    → FetchMoves c got.items o Whole d new → Leads (after_read reader new) (most_after reader) on → Follows line (Reading c got reader) o (Some on) stays
fetch_whole line c d got new reader o on stays at moves h = record {
  rest = λ os. moves (after_fault reader) (after_read reader) os ∙ h.rest line os;
  ready = h.ready line;
  nearer = let some = some_piece c at.some at.sound in let few = h.few in omega (arith, some);
}

-- a piece of a range is not there
pub fetch_failed : (line : Line) (c d : Cursor) (got : Vec ℕ Global) (new : List ℕ) (reader : Reader) (o : Outcome) (on : Followed) (stays : Phase) → IsReading c (length got.items) reader
    → FetchMoves c got.items o Failed d new → Leads (after_fault reader) (most_after reader) on → Follows line (Reading c got reader) o (Some on) stays
fetch_failed line c d got new reader o on stays at moves h = record {
  rest = λ os. moves (after_fault reader) (after_read reader) os ∙ h.rest line os;
  ready = h.ready line;
  nearer = let some = some_piece c at.some at.sound in let few = h.few in omega (arith, some);
}

pub over_by : (moved : Moved) → moved ≢ More → IsOver moved
over_by More more = absurd (more refl)
over_by Whole more = tt
over_by Failed more = tt
over_by Ended more = tt

-- an outcome that moves a fetch on leaves its line there while more is to come
pub reads_more : (line : Line) (moved : Moved) (c d : Cursor) (got : Vec ℕ Global) (new : Vec ℕ Global) (reader : Reader) (o : Outcome) → moved ≡ More → IsReading c (length got.items) reader
    → FetchMoves c got.items o moved d new.items → IsNearer moved c d → CountsBytes moved c got.items d new.items → Follows line (Reading c got reader) o None (Reading d new reader)
reads_more line moved c d got new reader o more at moves nearer counted =
    fetch_more line c d got new reader o at (subst (λ m. FetchMoves c got.items o m d new.items) more moves) (subst (λ m. IsNearer m c d) more nearer)
    (subst (λ m. CountsBytes m c got.items d new.items) more counted)

-- and past the last piece it goes on with the reader
pub reads_on : (line : Line) (moved : Moved) (c d : Cursor) (got : Vec ℕ Global) (new : List ℕ) (reader : Reader) (o : Outcome) (on : Followed) (stays : Phase) → IsOver moved → IsReading c (length got.items) reader
    → FetchMoves c got.items o moved d new → ReadsTo moved new reader on → Follows line (Reading c got reader) o (Some on) stays
reads_on line More c d got new reader o on stays over at moves h = absurd over
reads_on line Whole c d got new reader o on stays over at moves h = fetch_whole line c d got new reader o on stays at moves h
reads_on line Failed c d got new reader o on stays over at moves h = fetch_failed line c d got new reader o on stays at moves h
reads_on line Ended c d got new reader o on stays over at moves h =
    subst (λ x. Follows line (Reading c got reader) o (Some x) stays) (sym h) (record {
      rest = λ os. moves (after_fault reader) (after_read reader) os;
      ready = tt;
      nearer = let some = some_piece c at.some at.sound in omega (arith, some);
    })

-- past its last piece a put goes on with what follows the text
pub puts_on : (line : Line) (moved : Moved) (c d : Cursor) (text : Text) (o : Outcome) (on : Followed) (stays : Phase) → IsOver moved → IsWriting line c text → PutMoves c o moved d
    → PutsTo moved text on → Follows line (Writing c text) o (Some on) stays
puts_on line More c d text o on stays over at moves h = absurd over
puts_on line Whole c d text o on stays over at moves h = put_whole line c d text o on stays at moves h
puts_on line Failed c d text o on stays over at moves h =
    subst (λ x. Follows line (Writing c text) o (Some x) stays) (sym h.1) (record {
      rest = λ os. moves (text_of line text) (if_not_put text) (after_put text) os at.size ∙ sym h.2;
      ready = tt;
      nearer = let some = some_piece c at.some at.sound in omega (arith, some);
    })
puts_on line Ended c d text o on stays over at moves h =
    subst (λ x. Follows line (Writing c text) o (Some x) stays) (sym h) (record {
      rest = λ os. moves (text_of line text) (if_not_put text) (after_put text) os at.size;
      ready = tt;
      nearer = let some = some_piece c at.some at.sound in omega (arith, some);
    })
