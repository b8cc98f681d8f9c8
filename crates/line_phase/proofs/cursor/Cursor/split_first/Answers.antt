use Rattle.argo_base.proofs.PieceLaws.{pieces-first}
use Rattle.line_phase.proofs.cursor.Cursor.split_first.Goals as goal

pub returns-clause-pieces : goal.returns-clause-pieces
returns-clause-pieces c = rw c.min-n.ensures (pieces-first c.args.self.page c.args.self.off c.args.self.left c.requires.sound.inside c.requires.some)
