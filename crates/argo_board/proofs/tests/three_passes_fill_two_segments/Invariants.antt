use Rattle.argo_board.proofs.tests.three_passes_fill_two_segments.Given as goal

abbrev pub ghosts-run_board-A-Ledger : goal.ghosts-run_board-A-Ledger
ghosts-run_board-A-Ledger g a = record { name = a.room.name; parts = a.room.parts }

abbrev pub ghosts-run_board-B-Ledger : goal.ghosts-run_board-B-Ledger
ghosts-run_board-B-Ledger g a = record { name = a.sends.name; parts = a.sends.parts }

abbrev pub ghosts-run_board-C-Ledger : goal.ghosts-run_board-C-Ledger
ghosts-run_board-C-Ledger g a = record { name = a.loads.name; parts = a.loads.parts }
