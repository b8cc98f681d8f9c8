use Rattle.std.proofs.Common.{false, slice_index_or, ◌∙◌, ap, List, Bool}
use Rattle.std.proofs.lemmas.List.{get_or-replicate}
use Rattle.argo_board.proofs.flags.Flags.clear.Goals as goal

pub returns : goal.returns
returns c = λ dom at.
    let all = c.in_ok-set.ensures.items_if_clones_equal (λ y h. h) in
    ap (λ (flags : List Bool). slice_index_or flags dom false) all ∙ get_or-replicate 65536 dom false false at
