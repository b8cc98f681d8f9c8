use Rattle.std.proofs.Common.{map}
use Rattle.argo_model.specs.Rules.Possible.{facts_of}
use Rattle.thread_run.proofs.run.run_threads_with.Given as goal

-- the ledgers are those of the blanks, and the first knows the script
abbrev pub ghosts-run_world-A-Ledger : goal.ghosts-run_world-A-Ledger
ghosts-run_world-A-Ledger g a = record { name = a.blanks.room.name; parts = a.blanks.room.parts }

abbrev pub ghosts-run_world-A-Plan : goal.ghosts-run_world-A-Plan
ghosts-run_world-A-Plan g a = record { facts = facts_of a.s.now; actors = map (λ x. x.actor) a.s.now.sections }

abbrev pub ghosts-run_world-B-Ledger : goal.ghosts-run_world-B-Ledger
ghosts-run_world-B-Ledger g a = record { name = a.blanks.sends.name; parts = a.blanks.sends.parts }

abbrev pub ghosts-run_world-C-Ledger : goal.ghosts-run_world-C-Ledger
ghosts-run_world-C-Ledger g a = record { name = a.blanks.loads.name; parts = a.blanks.loads.parts }
