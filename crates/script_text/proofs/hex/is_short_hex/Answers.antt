use Rattle.script_text.proofs.HexWords.{short_hex}
use Rattle.script_text.proofs.hex.is_short_hex.Goals as goal

pub returns : goal.returns
returns c = short_hex c.args.word.now c.requires
