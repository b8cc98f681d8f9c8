-- The digits of the bytes so far.
use Rattle.std.proofs.Common.{◌≡◌, ◌*◌, length, take}
use Rattle.argo_model.specs.Runs.Report.{hex_of}
use Rattle.report_text.proofs.hex.digits_of.Given as goal

abbrev pub invariant-loop-i : goal.invariant-loop-i
invariant-loop-i l = record {
  whole : length l.digits ≡ 64;
  so_far : take (2 * l.i) l.digits ≡ hex_of (take l.i l.part);
}
