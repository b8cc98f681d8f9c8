-- Laws of the first difference.
use Rattle.std.proofs.Common.{◌≡◌, ℕ, ◌+◌, List, length, map, Option, Some, None, refl, sym, ap, ◌∙◌, subst}
use Rattle.std.specs.List.{range_with_len}
use Rattle.std.specs.Option.{option_or, option_map}
use Rattle.argo_model.specs.declared.closed.ClosedDomain.{ClosedDomain}
use Rattle.argo_model.specs.declared.closed.HeardLine.{HeardLine}
use Rattle.argo_model.specs.declared.closing.Final.{Final}
use Rattle.argo_model.specs.declared.short.Short.{Short}
use Rattle.argo_model.specs.Rules.Shorts.{no_step}
use Rattle.argo_model.specs.Runs.Closed.{closed_domains, heard_all}
use Rattle.argo_model.specs.Runs.Final.{final_of, totals_of}
use Rattle.argo_model.specs.Runs.Run.{run, IsComplete}
use Rattle.argo_model.specs.Runs.Script.{Script}
use Rattle.argo_machine.specs.Machine.{Standing}
use Rattle.argo_machine.proofs.RunLaws.{run-sections}
use Rattle.shared_world.specs.declared.closed.Closed.{Closed}
use Rattle.audit.specs.declared.split.Split.{Split}
use Rattle.audit.specs.declared.audited.Audited.TheVariants.{Agreed}
use Rattle.audit.specs.Audit.{threads_side, machine_side, first_difference, IsAuditOf}
use Rattle.audit.specs.Entries.{schedule_in, entries_differ, end_differs, first_open, next_short}
use Rattle.audit.specs.Rows.{SideAt, side, sides_differ, split}
use Rattle.audit.specs.Steps.{Next}

module _ (s : Script) (c : Closed) where
  -- an entry is the first that differs
  pub entries_split : (x : Split) → Some x ≡ entries_differ s c.entries → first_difference s c ≡ Some x
  entries_split x is =
      let machine = run s (schedule_in c.entries) in
      let end = length c.entries + 1 in
      ap (λ o. option_or o (option_or (end_differs end machine) (sides_differ end (threads_side c) (machine_side machine)))) (sym is)

  module _ (m : Standing) (same_script : m.script ≡ s) (followed : m.schedule ≡ schedule_in c.entries) (same : entries_differ m.script c.entries ≡ None) where
    no_entry : entries_differ s c.entries ≡ None
    no_entry = ap (λ t. entries_differ t c.entries) (sym same_script) ∙ same

    the_run : run m.script m.schedule ≡ run s (schedule_in c.entries)
    the_run = ap (λ t. run t m.schedule) same_script ∙ ap (run s) followed

    behind_entries : first_difference s c
        ≡ option_or (end_differs (length c.entries + 1) (run m.script m.schedule))
        (sides_differ (length c.entries + 1) (threads_side c) (machine_side (run m.script m.schedule)))
    behind_entries =
        let end = length c.entries + 1 in
        ap (λ o. option_or o (option_or (end_differs end (run s (schedule_in c.entries))) (sides_differ end (threads_side c) (machine_side (run s (schedule_in c.entries)))))) no_entry
        ∙ ap (λ r. option_or (end_differs end r) (sides_differ end (threads_side c) (machine_side r))) (sym the_run)

    -- a section goes on at the end
    pub end_split : (v : ℕ) (next : Short) (new : Standing) → Some v ≡ first_open (run m.script m.schedule) → Next m v next new
        → first_difference s c ≡ Some (split (length c.entries + 1) no_step next)
    end_split v next new first made =
        let end = length c.entries + 1 in
        let r = run m.script m.schedule in
        let e : end_differs end r ≡ Some (split end no_step next) =
        ap (option_map (λ w. split end no_step (next_short r w))) (sym first) ∙ ap (λ x. Some (split end no_step x)) (sym made.short_is) in
        behind_entries ∙ ap (λ o. option_or o (sides_differ end (threads_side c) (machine_side r))) e

    -- what differs of the closed world
    pub sides_split : (x : SideAt) → first_open (run m.script m.schedule) ≡ None → x ≡ machine_side (run m.script m.schedule)
        → first_difference s c ≡ sides_differ (length c.entries + 1) (threads_side c) x
    sides_split x none is =
        let end = length c.entries + 1 in
        let r = run m.script m.schedule in
        behind_entries ∙ ap (λ o. option_or o (sides_differ end (threads_side c) (machine_side r))) (ap (option_map (λ w. split end no_step (next_short r w))) none)
        ∙ ap (sides_differ end (threads_side c)) (sym is)

    -- what the machine has at the end, with what a report shows of it
    pub agreed : (shown : Final) → first_difference m.script c ≡ None → IsComplete m.script m.schedule → shown ≡ final_of m.script m.schedule
        → IsAuditOf m.script c (Agreed shown)
    agreed shown none complete is =
        let P : List ℕ → Type 0 = λ xs. IsComplete m.script xs in
        (none, subst P followed complete, is ∙ ap (final_of m.script) followed)

-- the totals of a report are those of the sections
pub totals_shown : (s : Script) (schedule : List ℕ) (f : Final) → f ≡ final_of s schedule
    → f.totals ≡ map (totals_of (run s schedule).steps) (range_with_len 0 (length (run s schedule).sections))
totals_shown s schedule f is =
    ap (λ x. x.totals) is ∙ ap (λ n. map (totals_of (run s schedule).steps) (range_with_len 0 n)) (sym (run-sections s schedule))

-- what the machine has at the end
pub side_is : (s : Script) (schedule : List ℕ) (heard : List (List HeardLine)) (domains : List ClosedDomain) (f : Final)
    → heard ≡ heard_all (run s schedule) → domains ≡ closed_domains (run s schedule).state → f ≡ final_of s schedule
    → side heard domains f.totals ≡ machine_side (run s schedule)
side_is s schedule heard domains f h d is =
    ap (λ x. side x domains f.totals) h ∙ ap (λ x. side (heard_all (run s schedule)) x f.totals) d
    ∙ ap (λ x. side (heard_all (run s schedule)) (closed_domains (run s schedule).state) x) (totals_shown s schedule f is)
