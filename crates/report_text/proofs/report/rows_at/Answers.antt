use Rattle.std.proofs.lemmas.List.{take_min}
use Rattle.report_text.proofs.report.rows_at.Goals as goal

pub returns : goal.returns
returns c = let e = take_min c.args.n c.split_at.result.1.now in cc
