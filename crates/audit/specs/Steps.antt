-- What the machine has done while it was compared.
use Rattle.std.specs.Prelude.{◌≡◌, ℕ, ◌≤◌, List, [], ◌∷◌, ◌++◌, take, IsTrue, None}
use Rattle.std.specs.List.{list_all}
use Rattle.argo_model.specs.declared.short.Short.{Short}
use Rattle.argo_model.specs.Runs.Run.{run, is_finished}
use Rattle.argo_model.specs.Runs.Script.{Script}
use Rattle.argo_board.specs.declared.entry.Entry.{Entry}
use Rattle.argo_board.specs.Journal.{last_tag}
use Rattle.argo_machine.specs.Machine.{Standing}
use Rattle.audit.specs.Entries.{schedule_in, next_short}

-- an entry has the short of an outcome
abbrev pub HasOutcome : Entry → Type 0
HasOutcome e = e.short.tag ≤ last_tag

-- this is what the next step of a section comes to, and the machine made it, where there was one
pub record Next (old : Standing) (v : ℕ) (short : Short) (new : Standing) : Type 0 where
  pub short_is : short ≡ next_short (run old.script old.schedule) v
  pub script : new.script ≡ old.script
  pub goes : short.tag ≤ last_tag → new.schedule ≡ old.schedule ++ v ∷ []

-- it made the steps of so many entries
pub record Followed (s : Script) (entries : List Entry) (k : ℕ) (m : Standing) : Type 0 where
  pub script : m.script ≡ s
  pub schedule : m.schedule ≡ take k (schedule_in entries)

-- it made the steps of all of them
pub record FollowedAll (s : Script) (entries : List Entry) (m : Standing) : Type 0 where
  pub script : m.script ≡ s
  pub schedule : m.schedule ≡ schedule_in entries

abbrev pub AllFinished : Standing → Type 0
AllFinished m = IsTrue (list_all is_finished (run m.script m.schedule).sections)
