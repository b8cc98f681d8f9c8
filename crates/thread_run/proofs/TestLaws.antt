-- Laws of workers that make steps one at a time.
use Rattle.std.proofs.Common.{◌≡◌, ℕ, ◌+◌, ◌<◌, List, length, map, set, get_or, ◌∙◌}
use Rattle.std.proofs.Math.Seq.{map-set_same}
use Rattle.argo_model.specs.Runs.Script.{Section}
use Rattle.shared_steps.specs.Passes.{Carried, StandInOrder}
use Rattle.thread_run.specs.Worker.{Work}
use Rattle.thread_run.specs.Workers.{AreWorkersOf}
use Rattle.thread_run.proofs.WorkerLaws.{in_order, parts_of}

-- a worker that keeps its number takes its own place
pub same_numbers : (ws : List Work) (i : ℕ) (w d : Work) → w.number ≡ (get_or ws i d).number → map (λ x. x.number) (set ws i w) ≡ map (λ x. x.number) ws
same_numbers ws i w d same = map-set_same (λ x. x.number) ws i w d same

pub order_after : (ps : List Carried) (before after : List Work) (ss : List Section)
    → map (λ p. p.tally.vcpu) ps ≡ map (λ w. w.number) after → map (λ w. w.number) after ≡ map (λ w. w.number) before → AreWorkersOf before ss → StandInOrder ps
order_after ps before after ss numbers kept are = in_order ps before ss (numbers ∙ kept) are

pub parts_after : (parts : ℕ) (ps : List Carried) (before after : List Work) (ss : List Section)
    → map (λ p. p.tally.vcpu) ps ≡ map (λ w. w.number) after → map (λ w. w.number) after ≡ map (λ w. w.number) before → AreWorkersOf before ss
    → parts ≡ length ss + 1 → length ps + 1 ≡ parts
parts_after parts ps before after ss numbers kept are count = parts_of parts ps before ss (numbers ∙ kept) are count
