use Rattle.std.proofs.Common.{inl, inr, arith}
use Rattle.script_text.proofs.Adding.{adds, is_full}
use Rattle.script_text.proofs.reader.Reader.with_line.Goals as goal
use Rattle.script_text.proofs.reader.Reader.with_line.Goals.{then-self-ge-MOST_LINES-via-then-self-ge-MOST_LINES, then-self-ge-MOST_LINES-via-else-self-ge-MOST_LINES+then-turns-gt-MOST_TURNS}

pub returns-then-self-ge-MOST_LINES : goal.returns-then-self-ge-MOST_LINES
returns-then-self-ge-MOST_LINES c =
    is_full c.self.inside c.args.self c.self.view_is c.self.invariant c.args.line c.requires
    (elim c.then-self-ge-MOST_LINES.branch [
      | then-self-ge-MOST_LINES-via-then-self-ge-MOST_LINES w ↦ inl (omega arith)
      | then-self-ge-MOST_LINES-via-else-self-ge-MOST_LINES+then-turns-gt-MOST_TURNS w ↦ inr (omega arith)
    ])

pub returns : goal.returns
returns c = rw c.in_ok-push.ensures.ok (adds c.self.inside c.args.self c.self.view_is c.self.invariant c.args.line c.requires (omega arith) (omega arith))
