use Rattle.std.proofs.Common.{◌≡◌, ℕ, ◌+◌, List, length, drop, get_or, refl, sym, ap, ◌∙◌, arith}
use Rattle.audit.specs.declared.rows.Row.{Row}
use Rattle.audit.specs.declared.rows.Row.TheVariants.{Texts}
use Rattle.audit.specs.First.{first_in}
use Rattle.audit.specs.Rows.{sides_in, all_rows}
use Rattle.audit.proofs.FirstLaws.{found_in, not_in, left_from}
use Rattle.audit.proofs.sides.sides_differ.Goals as goal

rows_count : (rows : List Row) → rows ≡ all_rows → length rows ≡ 15
unfolding all_rows
rows_count rows is = ap length is

pub returns-then-is_some : goal.returns-then-is_some
returns-then-is_some c =
    let F = sides_in c.args.step c.args.threads.now c.args.machine.now in
    let rows = c.all_rows-rows.result in
    let i = c.loop-row.row-index in
    let n = rows_count rows c.all_rows-rows.ensures in
    found_in F (get_or rows i Texts) (drop (i + 1) rows) _ c.in_ok-found.found
    (sym (ap (first_in F) (left_from rows i Texts (omega (arith, n)))) ∙ (c.loop-row.invariant ∙ ap (first_in F) c.all_rows-rows.ensures)) c.in_ok-found.ensures (cc)

pub loop-row-preserved : goal.loop-row-preserved
loop-row-preserved c =
    let F = sides_in c.args.step c.args.threads.now c.args.machine.now in
    let rows = c.all_rows-rows.result in
    let i = c.loop-row.row-index in
    let n = rows_count rows c.all_rows-rows.ensures in
    not_in F (get_or rows i Texts) (drop (i + 1) rows) _ c.in_ok-found.found
    (sym (ap (first_in F) (left_from rows i Texts (omega (arith, n)))) ∙ c.loop-row.invariant) c.in_ok-found.ensures (cc)
