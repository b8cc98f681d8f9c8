use Rattle.std.proofs.Common.{◌≡◌, ◌∙◌, rules}
use Rattle.std.specs.Str.{IsUtf8}
use Rattle.std.proofs.lemmas.Str.{IsUtf8-from_ascii}
use Rattle.argo_model.specs.Runs.Report.{hex_of}
use Rattle.report_text.proofs.HexLemmas.{IsAscii-hex_of}
use Rattle.report_text.proofs.hex.push_part.Goals as goal

pub unwrap-requires : goal.unwrap-requires
unwrap-requires c =
    let text : c.split_at.result.0.now ≡ hex_of c.args.part.now = c.split_at.ensures.front ∙ c.digits_of-digits.ensures in
    let utf8 : IsUtf8 c.split_at.result.0.now = rw text (IsUtf8-from_ascii _ (IsAscii-hex_of c.args.part.now (λ i. (c.type_inv.part i).fits))) in
    search rules
