use Rattle.std.proofs.Common.{ap, ◌∙◌, arith}
use Rattle.argo_model.specs.Rules.Register.{resized}
use Rattle.flat_live.specs.Starts.{start_on, memory_with_start}
use Rattle.flat_live.proofs.RegisterLaws.{start_laid}
use Rattle.flat_live.proofs.ring.Ring.restart.Goals as goal

pub returns-clause-memory : goal.returns-clause-memory
returns-clause-memory c =
    let memory = c.args.memory.now in
    let pages = c.args.pages in
    let len = c.args.len in
    let counted = c.requires.counted in
    let start = c.on-start.ensures.is ∙ ap (λ m. start_on m len c.as_slice-2.result.now) c.as_slice.ensures ∙ ap (start_on memory len) c.as_slice-2.ensures in
    c.write.ensures.is ∙ ap (memory_with_start memory) start
    ∙ start_laid memory pages (resized c.args.self.now len pages) (omega (arith, counted)) c.requires.there c.requires.differ
