use Rattle.std.proofs.Common.{◌≡◌, length, position, unwrap_or, sym, ap, ◌∙◌}
use Rattle.script_text.specs.Lines.{is_blank}
use Rattle.script_text.proofs.FirstWord.{no_word, a_word}
use Rattle.script_text.proofs.words.next_word.Goals as goal

pub returns-in_err-start : goal.returns-in_err-start
returns-in_err-start c =
    rw c.from_residual.ensures (no_word c.args.line.now (sym c.first_in_word.ensures ∙ c.in_err-start.was))

pub returns : goal.returns
returns c =
    let text = c.split_at.result.1.now in
    let end : c.unwrap_or-end.result ≡ unwrap_or (position is_blank text) (length text) = c.unwrap_or-end.ensures ∙ ap (λ o. unwrap_or o (length text)) c.first_blank.ensures in
    rw (c.split_at-2.ensures.front, c.split_at-2.ensures.back, end) (a_word c.args.line.now text c.in_ok-start.start (sym c.first_in_word.ensures ∙ c.in_ok-start.was) c.split_at.ensures.back)
