-- A board with one more entry.
use Rattle.std.proofs.Common.{◌≡◌, ℕ, ◌+◌, ◌-◌, ◌<◌, List, [], ◌∷◌, ◌++◌, Bool, false, slice_index_or, refl, arith}
use Rattle.std.proofs.lemmas.List.{length-append}
use Rattle.std.proofs.lemmas.List.Elements.{All-push}
use Rattle.std.proofs.lemmas.List.Sums.{sum_by-append}
use Rattle.argo_board.specs.Board.{IsBoard}
use Rattle.argo_board.specs.Books.{Amounts, Portion}
use Rattle.argo_board.specs.Journal.{IsFit, changed, replayed, accepted_in, bytes_in}
use Rattle.argo_board.specs.declared.entry.Entry.{Entry}

-- the last entry changes what those before it left
pub replay-more : (dom : ℕ) (set : Bool) (es : List Entry) (e : Entry) → replayed dom set (es ++ e ∷ []) ≡ changed dom (replayed dom set es) e.change
replay-more dom set [] e = refl
replay-more dom set (x ∷ xs) e = replay-more dom (changed dom set x.change) xs e

pub board-more : (parts : ℕ) (es : List Entry) (e : Entry) (flags after : List Bool) (books left : Amounts) (kept : Portion)
    → IsBoard parts es flags books kept
    → IsFit (parts - 1) e
    → ((dom : ℕ) → dom < 65536 → slice_index_or after dom false ≡ changed dom (slice_index_or flags dom false) e.change)
    → left.room + 1 ≡ books.room
    → left.sends ≡ books.sends + accepted_in e.short
    → left.loads ≡ books.loads + bytes_in e.short
    → IsBoard parts (es ++ e ∷ []) after left kept
board-more parts es e flags after books left kept is fit applied room sends loads =
    let more = length-append es (e ∷ []) in record {
      some = is.some;
      most = is.most;
      replay = λ dom at. rw (replay-more dom false es e, ← is.replay dom at) (applied dom at);
      room = omega (arith, is.room, room, more);
      few = omega (arith, is.room, room, more, is.most);
      sends = omega (arith, sends, is.sends, sum_by-append (λ (x : Entry). accepted_in x.short) es (e ∷ []));
      loads = omega (arith, loads, is.loads, sum_by-append (λ (x : Entry). bytes_in x.short) es (e ∷ []));
      fit = All-push (IsFit (parts - 1)) es e is.fit fit;
      rest = is.rest;
    }
