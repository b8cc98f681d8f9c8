use Rattle.std.proofs.Common.{sym, ◌∙◌, length, arith}
use Rattle.std.proofs.lemmas.List.{take_all, drop_all}
use Rattle.script_text.proofs.FirstLine.{last_line, first_line}
use Rattle.script_text.proofs.lines.cut_line.Goals as goal

pub returns-in_default-clause-lines : goal.returns-in_default-clause-lines
returns-in_default-clause-lines c =
    let text = c.args.text.now in
    rw (c.split_at.ensures.front, c.split_at.ensures.back, take_all (length text) text (omega arith), drop_all (length text) text (omega arith))
    (last_line text c.requires (sym c.first_line_feed.ensures ∙ c.in_default.is))

pub returns-clause-lines : goal.returns-clause-lines
returns-clause-lines c =
    rw (c.split_at-2.ensures.front, c.split_at-3.ensures.back, c.split_at-2.ensures.back)
    (first_line c.args.text.now c.in-Some.end (sym c.first_line_feed.ensures ∙ c.in-Some.is))
