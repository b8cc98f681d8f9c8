use Rattle.std.proofs.Common.{◌≡◌, ◌≤◌, sum_by, take, drop}
use Rattle.argo_base.specs.Iovs.{Iov, judged, verdict_of, longest_body}
use Rattle.iov_plan.proofs.verdict.count.Given as goal

-- the buffers so far are passed, with so many bytes
abbrev pub invariant-loop-iov : goal.invariant-loop-iov
invariant-loop-iov l =
    record {
      judged_so_far : verdict_of l.iovs ≡ judged l.size (drop l.iov-index l.iovs);
      total_so_far : l.size ≡ sum_by (λ (v : Iov). v.len) (take l.iov-index l.iovs);
      within_so_far : l.size ≤ longest_body;
    }
