-- What a closed world shows of the flags of its domains.
use Rattle.std.specs.Prelude.{◌≡◌, List, All}
use Rattle.argo_model.specs.declared.closed.ClosedDomain.{ClosedDomain}
use Rattle.argo_board.specs.Journal.{is_raised}
use Rattle.argo_board.specs.declared.entry.Entry.{Entry}

-- a row with the flag that the entries leave
abbrev pub flagged : List Entry → ClosedDomain → ClosedDomain
flagged entries x = record x { flag = is_raised x.id entries }

-- each flag is the replay of the entries
abbrev pub AreFlagsOf : List Entry → List ClosedDomain → Type 0
AreFlagsOf entries rows = All (λ x. x.flag ≡ is_raised x.id entries) rows
