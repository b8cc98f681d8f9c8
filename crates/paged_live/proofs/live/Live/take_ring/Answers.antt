use Rattle.std.proofs.Common.{◌≡◌, ◌++◌, length, take, drop, sym, ap, ◌∙◌, subst}
use Rattle.argo_model.specs.Rules.Register.{has_ring, without_ring}
use Rattle.argo_model.specs.Rules.State.{Live}
use Rattle.guest_pages.specs.Rows.{numbers_of}
use Rattle.paged_live.specs.Homes.{cleared}
use Rattle.paged_live.specs.Parts.{Rows, Parts, seen, IsParts}
use Rattle.std.specs.Prelude.{is_some}
use Rattle.paged_live.proofs.EndLaws.{absent_rows, none_seen, without_none, found_seen, written_back, ended_is, ended_parts, ended_seen}
use Rattle.paged_live.proofs.HomeLaws.{AreWhole, length-cleared}
use Rattle.paged_live.proofs.NoticeLaws.{no_value}
use Rattle.paged_live.proofs.PartsLaws.{found_value}
use Rattle.paged_live.proofs.live.Live.take_ring.Goals as goal

pub invariant_of-self : goal.invariant_of-self
invariant_of-self c =
    let i = c.self.inside in
    let x : Parts = record { private = i.private; homes = i.homes.items; flag = i.flag; next_serial = i.next_serial; rows = i.rings } in
    let none = no_value x.rows c.args.key (sym c.remove.ensures.value ∙ c.in_default.is) in
    subst (λ (rs : Rows). IsParts (record x { rows = rs })) (sym (c.remove.ensures.rest ∙ absent_rows x.rows c.args.key none)) c.self.invariant

pub returns-in_default-clause-stood : goal.returns-in_default-clause-stood
returns-in_default-clause-stood c =
    let i = c.self.inside in
    let x : Parts = record { private = i.private; homes = i.homes.items; flag = i.flag; next_serial = i.next_serial; rows = i.rings } in
    let none = no_value x.rows c.args.key (sym c.remove.ensures.value ∙ c.in_default.is) in
    ap is_some (sym (none_seen x c.args.key none)) ∙ ap (λ (l : Live). has_ring l c.args.key) c.self.view_is

pub returns-in_default-clause-left : goal.returns-in_default-clause-left
returns-in_default-clause-left c =
    let i = c.self.inside in
    let x : Parts = record { private = i.private; homes = i.homes.items; flag = i.flag; next_serial = i.next_serial; rows = i.rings } in
    let none = no_value x.rows c.args.key (sym c.remove.ensures.value ∙ c.in_default.is) in
    ap (λ (rs : Rows). seen (record x { rows = rs })) (c.remove.ensures.rest ∙ absent_rows x.rows c.args.key none)
    ∙ sym (without_none (seen x) c.args.key (none_seen x c.args.key none))
    ∙ ap (λ (l : Live). without_ring l c.args.key) c.self.view_is

pub invariant_of-self-2 : goal.invariant_of-self-2
invariant_of-self-2 c =
    let i = c.self.inside in
    let x : Parts = record { private = i.private; homes = i.homes.items; flag = i.flag; next_serial = i.next_serial; rows = i.rings } in
    let a = c.in-Some.ring in
    let row = c.into_parts-row.result.0 in
    let f = found_value x.rows c.args.key a (sym c.remove.ensures.value ∙ c.in-Some.is) in
    let whole = subst AreWhole c.into_parts-row.ensures.row c.count.ensures.whole in
    let homes : c.clear.new.homes ≡ cleared (numbers_of row) x.homes = c.clear.ensures ∙ ap (cleared (numbers_of row)) c.as_mut_slice.ensures.value in
    let long : length c.clear.new.homes ≡ i.homes.len = ap length homes ∙ length-cleared (numbers_of row) x.homes ∙ sym i.homes.ok.0 in
    let back = written_back i.homes.len c.clear.new.homes i.homes.items long in
    let same = ended_is x c.args.key a row c.give_back.new.self (take i.homes.len (c.clear.new.homes ++ drop (length c.clear.new.homes) i.homes.items)) c.remove.new.self
    c.into_parts-row.ensures.row c.give_back.ensures (back ∙ homes) c.remove.ensures.rest in
    subst IsParts (sym same) (ended_parts x c.self.invariant c.args.key a f whole)

pub returns-clause-stood : goal.returns-clause-stood
returns-clause-stood c =
    let i = c.self.inside in
    let x : Parts = record { private = i.private; homes = i.homes.items; flag = i.flag; next_serial = i.next_serial; rows = i.rings } in
    let a = c.in-Some.ring in
    let f = found_value x.rows c.args.key a (sym c.remove.ensures.value ∙ c.in-Some.is) in
    sym (found_seen x c.args.key a f) ∙ ap (λ (l : Live). has_ring l c.args.key) c.self.view_is

pub returns-clause-left : goal.returns-clause-left
returns-clause-left c =
    let i = c.self.inside in
    let x : Parts = record { private = i.private; homes = i.homes.items; flag = i.flag; next_serial = i.next_serial; rows = i.rings } in
    let a = c.in-Some.ring in
    let row = c.into_parts-row.result.0 in
    let f = found_value x.rows c.args.key a (sym c.remove.ensures.value ∙ c.in-Some.is) in
    let whole = subst AreWhole c.into_parts-row.ensures.row c.count.ensures.whole in
    let homes : c.clear.new.homes ≡ cleared (numbers_of row) x.homes = c.clear.ensures ∙ ap (cleared (numbers_of row)) c.as_mut_slice.ensures.value in
    let long : length c.clear.new.homes ≡ i.homes.len = ap length homes ∙ length-cleared (numbers_of row) x.homes ∙ sym i.homes.ok.0 in
    let back = written_back i.homes.len c.clear.new.homes i.homes.items long in
    let same = ended_is x c.args.key a row c.give_back.new.self (take i.homes.len (c.clear.new.homes ++ drop (length c.clear.new.homes) i.homes.items)) c.remove.new.self
    c.into_parts-row.ensures.row c.give_back.ensures (back ∙ homes) c.remove.ensures.rest in
    ap seen same ∙ ended_seen x c.self.invariant c.args.key a f whole ∙ ap (λ (l : Live). without_ring l c.args.key) c.self.view_is
