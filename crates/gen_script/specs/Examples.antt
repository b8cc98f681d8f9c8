-- A worked example: the first lines of the scripts of 0.
use Rattle.std.specs.Prelude.{◌≡◌, [], ◌∷◌, take, replicate}
use Rattle.argo_model.specs.declared.line.Line.TheVariants.{Store, Op}
use Rattle.argo_base.specs.Generator.{drawn, next_number}
use Rattle.gen_script.specs.Made.{lines_from}

-- the first draw is 167951807
abbrev pub FirstDraw : Type 0
FirstDraw = drawn (next_number 0) ≡ 167951807

-- and so domain 1 sends first to domain 8
abbrev pub FirstLines : Type 0
FirstLines =
    take 5 (lines_from 0 1 1) ≡
    Store 0 (0x01 ∷ 0 ∷ 0 ∷ 0 ∷ 0xf4 ∷ 0x7f ∷ 0 ∷ 0 ∷ 0xc0 ∷ 0x0f ∷ 0 ∷ 0 ∷ [])
    ∷ Store 0x10 (1 ∷ replicate 7 0)
    ∷ Op 1 0 0x10 1 0
    ∷ Store 0x2000 (replicate 64 1)
    ∷ Store 0x20 (1 ∷ 0 ∷ 0 ∷ 0 ∷ 1 ∷ 0 ∷ 0 ∷ 0 ∷ 1 ∷ 0 ∷ 0 ∷ 0 ∷ 8 ∷ 0 ∷ 0 ∷ 0 ∷ [])
    ∷ []
