use Rattle.std.proofs.Common.{map}
use Rattle.argo_model.specs.Rules.Possible.{facts_of}
use Rattle.thread_run.proofs.tests.by_schedule.first_difference.Given as goal

-- the ledgers are those of the blanks, and the first knows the script
abbrev pub ghosts-run_both-A-Ledger : goal.ghosts-run_both-A-Ledger
ghosts-run_both-A-Ledger g a = record { name = a.blanks.room.name; parts = a.blanks.room.parts }

abbrev pub ghosts-run_both-A-Plan : goal.ghosts-run_both-A-Plan
ghosts-run_both-A-Plan g a = record { facts = facts_of a.s.now; actors = map (λ x. x.actor) a.s.now.sections }

abbrev pub ghosts-run_both-B-Ledger : goal.ghosts-run_both-B-Ledger
ghosts-run_both-B-Ledger g a = record { name = a.blanks.sends.name; parts = a.blanks.sends.parts }

abbrev pub ghosts-run_both-C-Ledger : goal.ghosts-run_both-C-Ledger
ghosts-run_both-C-Ledger g a = record { name = a.blanks.loads.name; parts = a.blanks.loads.parts }
