use Rattle.std.proofs.Common.{◌≡◌, ℕ, ◌+◌, List, ◌∷◌, Result, Ok, sym, ap, ◌∙◌, arith}
use Rattle.argo_model.specs.Runs.Script.{Script}
use Rattle.script_text.specs.declared.kind.ScriptFault.{ScriptFault}
use Rattle.script_text.specs.Lines.{lines_of, words_of, said_from}
use Rattle.script_text.specs.Reading.{line_read}
use Rattle.script_text.specs.Scripts.{then_on, read_on}
use Rattle.script_text.proofs.Lawful.{stays_lawful}
use Rattle.script_text.proofs.read.read_on.Goals as goal

-- what is left gives what all gave
goes_on : (ls rest : List (ℕ × List (List ℕ))) (n : ℕ) (ws : List (List ℕ)) (s t : Script) (given : Result Script ScriptFault)
    → ls ≡ (n, ws) ∷ rest → line_read s ws ≡ Ok t → read_on ls s ≡ given → read_on rest t ≡ given
goes_on ls rest n ws s t given is line so_far =
    sym (ap (λ (x : List (ℕ × List (List ℕ))). read_on x s) is ∙ ap (λ r. then_on n r (λ next. read_on rest next)) line) ∙ so_far

pub loop-line-preserved : goal.loop-line-preserved
loop-line-preserved c =
    let line = c.in-Some.line in
    let s = c.loop-line.reader in
    record {
      read = goes_on (said_from c.loop-line.number (lines_of c.loop-line.rest.now)) (said_from (line.number + 1) (lines_of line.rest.now)) line.number (words_of line.text.now) s c.in-Ok.reader
          (read_on (said_from c.args.number (lines_of c.args.text.now)) c.args.reader) c.in-Some.ensures.line c.in-Ok.ensures c.loop-line.invariant.read;
      lawful = stays_lawful s c.in-Ok.reader (words_of line.text.now) c.loop-line.invariant.lawful c.in-Ok.ensures;
      fits = omega (arith, c.in-Some.ensures.count);
    }
