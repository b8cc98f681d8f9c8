-- The text so far, and then the digits of the rest.
use Rattle.std.proofs.Common.{◌≡◌, ◌++◌, length}
use Rattle.std.specs.String.{string_bytes}
use Rattle.argo_model.specs.Runs.Report.{hex_of}
use Rattle.report_text.proofs.hex.push_hex.Given as goal

abbrev pub invariant-loop-rest : goal.invariant-loop-rest
invariant-loop-rest l = string_bytes l.text ++ hex_of l.rest ≡ string_bytes l.initial.text ++ hex_of l.bytes

abbrev pub decreases-loop-rest : goal.decreases-loop-rest
decreases-loop-rest l = length l.rest
