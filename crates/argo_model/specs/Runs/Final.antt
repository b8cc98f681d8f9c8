-- What a report shows of a run.
use Rattle.std.specs.Prelude.{ℕ, ◌+◌, Bool, true, false, ◌==◌, if◌then◌else◌, List, [], ◌∷◌, length, map, sum_by, count_by, flat_map, filter_map, replicate, Option, Some, None, option_map, fold}
use Rattle.std.specs.List.{range_with_len}
use Rattle.argo_base.specs.declared.ring_key.RingKey.{RingKey}
use Rattle.argo_model.specs.declared.action.Outcome.{Outcome}
use Rattle.argo_model.specs.declared.action.Outcome.TheVariants.{Accepted}
use Rattle.argo_model.specs.declared.reply.Reply.{Reply}
use Rattle.argo_model.specs.declared.closing.Run.{Run}
use Rattle.argo_model.specs.declared.closing.DoneLine.{DoneLine}
use Rattle.argo_model.specs.declared.closing.Totals.{Totals}
use Rattle.argo_model.specs.declared.closing.NoticeLine.{NoticeLine}
use Rattle.argo_model.specs.declared.closing.FinalRing.{FinalRing}
use Rattle.argo_model.specs.declared.closing.FinalDomain.{FinalDomain}
use Rattle.argo_model.specs.declared.closing.Final.{Final}
use Rattle.argo_model.specs.Rules.RingBytes.{slots_of}
use Rattle.argo_model.specs.Runs.Script.{Script}
use Rattle.argo_model.specs.Runs.Run.{Step, Course, run}
use Rattle.argo_model.specs.Rules.State.{Ring, Live, Domain}

-- one step more after the runs: the last of them grows, or a new one begins
abbrev pub one_run : ℕ → Run
one_run v = record { vcpu = v; count = 1 }

abbrev pub grown : List Run → ℕ → List Run
grown [] v = one_run v ∷ []
grown (r ∷ []) v = if r.vcpu == v then record { vcpu = v; count = r.count + 1 } ∷ [] else r ∷ (one_run v ∷ [])
grown (r ∷ r2 ∷ rs) v = r ∷ grown (r2 ∷ rs) v

-- the schedule in longest runs of equal numbers
abbrev pub runs_of : List ℕ → List Run
runs_of schedule = fold grown [] schedule

-- the schedule that the runs stand for
abbrev pub schedule_of : List Run → List ℕ
schedule_of rs = flat_map (λ r. replicate r.count r.vcpu) rs

-- the lines that are done, in order of completion
abbrev pub done_at : Step → Option DoneLine
done_at t = option_map (λ r. record { vcpu = t.vcpu; line = t.line; reply = r }) t.reply

abbrev pub done_of : List Step → List DoneLine
done_of steps = filter_map done_at steps

-- the line that is done with a step of a section, where its reply came
abbrev pub done_lines : ℕ → ℕ → Option Reply → List DoneLine
done_lines v line None = []
done_lines v line (Some r) = record { vcpu = v; line = line; reply = r } ∷ []

-- the size of a body that was accepted
abbrev pub accepted_size : Outcome → Option ℕ
accepted_size (Accepted n) = Some n
accepted_size o = None

abbrev pub is_accepted : Option ℕ → Bool
is_accepted None = false
is_accepted (Some n) = true

abbrev pub size_or_none : Option ℕ → ℕ
size_or_none None = 0
size_or_none (Some n) = n

-- a section's steps, its accepted sends and the sum of their sizes
abbrev pub totals_of : List Step → ℕ → Totals
totals_of steps v =
    record {
      steps = count_by (λ t. t.vcpu == v) steps;
      accepted = count_by (λ t. if t.vcpu == v then is_accepted (accepted_size t.outcome) else false) steps;
      bytes = sum_by (λ t. if t.vcpu == v then size_or_none (accepted_size t.outcome) else 0) steps;
    }

-- the totals before the first step
abbrev pub no_steps : Totals
no_steps = record { steps = 0; accepted = 0; bytes = 0 }

-- the totals after one step more, with this outcome
abbrev pub totals_after : Totals → Outcome → Totals
totals_after t o =
    record {
      steps = t.steps + 1;
      accepted = t.accepted + (if is_accepted (accepted_size o) then 1 else 0);
      bytes = t.bytes + size_or_none (accepted_size o);
    }

abbrev pub notice_line_of : ℕ × ℕ → NoticeLine
notice_line_of n = record { dom = n.0; size = n.1 }

abbrev pub final_ring : List ℕ → RingKey × Ring → FinalRing
final_ring memory e =
    record {
      key = e.0;
      len = e.1.len;
      tx = e.1.tx;
      clean = e.1.clean;
      untaken = e.1.untaken;
      notices = map notice_line_of e.1.notices;
      slots = slots_of memory e.1;
    }

-- a domain that is gone has a clear flag and no rings
abbrev pub final_life : ℕ → Domain → Option Live → FinalDomain
final_life d x None = record { id = d; on = x.on; alive = false; generation = x.generation; flag = false; rings = [] }
final_life d x (Some live) =
    record {
      id = d;
      on = x.on;
      alive = true;
      generation = x.generation;
      flag = live.flag;
      rings = map (final_ring live.bytes) live.rings;
    }

abbrev pub final_domain : ℕ × Domain → FinalDomain
final_domain e = final_life e.0 e.1 e.1.life

-- all that a report shows of the run of a script under a schedule
abbrev pub final_of_course : Script → List ℕ → Course → Final
final_of_course s schedule c =
    record {
      version = s.version;
      runs = runs_of schedule;
      done = done_of c.steps;
      domains = map final_domain c.state;
      totals = map (totals_of c.steps) (range_with_len 0 (length s.sections));
    }

abbrev pub final_of : Script → List ℕ → Final
final_of s schedule = final_of_course s schedule (run s schedule)
