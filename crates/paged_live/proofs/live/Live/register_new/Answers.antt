use Rattle.std.proofs.Common.{◌≡◌, ℕ, ◌<◌, ◌++◌, length, take, drop, Err, sym, ap, ◌∙◌, subst, arith}
use Rattle.argo_base.specs.Splice.{splice}
use Rattle.argo_base.proofs.SlotLaws.{page_count_holds}
use Rattle.argo_model.specs.Rules.Effects.{Change, after}
use Rattle.argo_model.specs.Rules.Register.{own_ring}
use Rattle.argo_model.specs.Rules.State.{Live}
use Rattle.guest_pages.specs.Pages.{row_of, without, with_row}
use Rattle.guest_pages.specs.Rows.{numbers_of, row_bytes}
use Rattle.ring_core.specs.Held.{Held, paged}
use Rattle.ring_core.specs.Restarts.{ring_on}
use Rattle.paged_live.specs.Homes.{settled}
use Rattle.paged_live.specs.Parts.{Parts, seen, IsParts}
use Rattle.paged_live.specs.Registers.{new_if_free}
use Rattle.paged_live.proofs.BackLaws.{unstarted_is, lent_back}
use Rattle.paged_live.proofs.EndLaws.{written_back}
use Rattle.paged_live.proofs.FreeLaws.{free_is, lent_whole, lent_length}
use Rattle.paged_live.proofs.HomeLaws.{AreWhole, length-settled}
use Rattle.paged_live.proofs.OwnLaws.{new_refused, new_free}
use Rattle.paged_live.proofs.RegisterLaws.{none_held, registered_is, registered_parts, registered_seen}
use Rattle.paged_live.proofs.live.Live.register_new.Goals as goal

pub returns-in-Err-Pages-clause-outcome : goal.returns-in-Err-Pages-clause-outcome
returns-in-Err-Pages-clause-outcome c =
    let i = c.self.inside in
    let x : Parts = record { private = i.private; homes = i.homes.items; flag = i.flag; next_serial = i.next_serial; rows = i.rings } in
    let parts = c.self.invariant in
    let key = c.args.key.now in
    let len = c.args.len in
    let ns = c.args.pages.now in
    let none = none_held x key (ap (λ (l : Live). own_ring l key) c.self.view_is ∙ c.requires.none) in
    let taken = c.lend.ensures.pages (c.in-Err-Pages.is ∙ ap Err c.in-Err-Pages.field-0-is) in
    let refusal = new_refused (seen x) key len ns (free_is x parts key none ns ∙ taken) in
    ap (λ (ch : Change Live). ch.outcome) (sym refusal) ∙ ap (λ (l : Live). (new_if_free l key len ns).outcome) c.self.view_is

pub returns-in-Err-Pages-clause-left : goal.returns-in-Err-Pages-clause-left
returns-in-Err-Pages-clause-left c =
    let i = c.self.inside in
    let x : Parts = record { private = i.private; homes = i.homes.items; flag = i.flag; next_serial = i.next_serial; rows = i.rings } in
    let parts = c.self.invariant in
    let key = c.args.key.now in
    let len = c.args.len in
    let ns = c.args.pages.now in
    let none = none_held x key (ap (λ (l : Live). own_ring l key) c.self.view_is ∙ c.requires.none) in
    let taken = c.lend.ensures.pages (c.in-Err-Pages.is ∙ ap Err c.in-Err-Pages.field-0-is) in
    let refusal = new_refused (seen x) key len ns (free_is x parts key none ns ∙ taken) in
    ap (λ ps. seen (record x { private = ps })) c.in-Err-Pages.ensures.err
    ∙ ap (λ (ch : Change Live). after (seen x) ch) (sym refusal)
    ∙ ap (λ (l : Live). after l (new_if_free l key len ns)) c.self.view_is

pub insert-requires : goal.insert-requires
insert-requires c =
    let i = c.self.inside in
    let x : Parts = record { private = i.private; homes = i.homes.items; flag = i.flag; next_serial = i.next_serial; rows = i.rings } in
    let parts = c.self.invariant in
    let key = c.args.key.now in
    let len = c.args.len in
    let ns = c.args.pages.now in
    let none = none_held x key (ap (λ (l : Live). own_ring l key) c.self.view_is ∙ c.requires.none) in
    record { none = none }

pub invariant_of-self-in-Err : goal.invariant_of-self-in-Err
invariant_of-self-in-Err c =
    let i = c.self.inside in
    let x : Parts = record { private = i.private; homes = i.homes.items; flag = i.flag; next_serial = i.next_serial; rows = i.rings } in
    let parts = c.self.invariant in
    let key = c.args.key.now in
    let len = c.args.len in
    let ns = c.args.pages.now in
    let row = c.in-Ok.row in
    let u = c.unstarted.result in
    let v = c.ring_on-ring.result in
    let word = c.tx_word-word.result in
    let is_row = c.in-Ok.ensures.row in
    let given = c.in-Err.ensures.given_back in
    let can = c.in-Ok.ensures.could in
    let whole : AreWhole row = subst AreWhole (sym is_row) (lent_whole x parts ns can) in
    let long : length row ≡ length ns = ap length is_row ∙ lent_length x parts ns can in
    let some : 0 < length row = omega (arith, long, c.requires.counted, page_count_holds len) in
    let same_row : u ≡ row =
    unstarted_is 0 len row u v word whole some c.unstarted.ensures.whole (c.ring_on-ring.ensures.new 0)
    (c.unstarted.ensures.numbers ∙ ap (λ (h : Held). numbers_of h.row) given)
    (c.unstarted.ensures.bytes ∙ ap (λ (h : Held). splice (row_bytes h.row) 4 word) given) c.tx_word-word.ensures in
    let private : c.give_back.new.self ≡ x.private =
    c.give_back.ensures ∙ ap (λ ps. with_row ps u) c.in-Ok.ensures.left ∙ ap (with_row (without x.private ns)) (same_row ∙ is_row) ∙ lent_back x parts ns can in
    let same : record x { private = c.give_back.new.self; rows = c.insert.new.rings } ≡ x =
    ap (λ ps. record x { private = ps; rows = c.insert.new.rings }) private ∙ ap (λ rs. record x { rows = rs }) c.in-Err.ensures.kept in
    subst IsParts (sym same) parts

pub returns-in-Err-clause-err : goal.returns-in-Err-clause-err
returns-in-Err-clause-err c =
    let i = c.self.inside in
    let x : Parts = record { private = i.private; homes = i.homes.items; flag = i.flag; next_serial = i.next_serial; rows = i.rings } in
    let parts = c.self.invariant in
    let key = c.args.key.now in
    let len = c.args.len in
    let ns = c.args.pages.now in
    let row = c.in-Ok.row in
    let u = c.unstarted.result in
    let v = c.ring_on-ring.result in
    let word = c.tx_word-word.result in
    let is_row = c.in-Ok.ensures.row in
    let given = c.in-Err.ensures.given_back in
    let can = c.in-Ok.ensures.could in
    let whole : AreWhole row = subst AreWhole (sym is_row) (lent_whole x parts ns can) in
    let long : length row ≡ length ns = ap length is_row ∙ lent_length x parts ns can in
    let some : 0 < length row = omega (arith, long, c.requires.counted, page_count_holds len) in
    let same_row : u ≡ row =
    unstarted_is 0 len row u v word whole some c.unstarted.ensures.whole (c.ring_on-ring.ensures.new 0)
    (c.unstarted.ensures.numbers ∙ ap (λ (h : Held). numbers_of h.row) given)
    (c.unstarted.ensures.bytes ∙ ap (λ (h : Held). splice (row_bytes h.row) 4 word) given) c.tx_word-word.ensures in
    let private : c.give_back.new.self ≡ x.private =
    c.give_back.ensures ∙ ap (λ ps. with_row ps u) c.in-Ok.ensures.left ∙ ap (with_row (without x.private ns)) (same_row ∙ is_row) ∙ lent_back x parts ns can in
    let same : record x { private = c.give_back.new.self; rows = c.insert.new.rings } ≡ x =
    ap (λ ps. record x { private = ps; rows = c.insert.new.rings }) private ∙ ap (λ rs. record x { rows = rs }) c.in-Err.ensures.kept in
    ap seen same ∙ c.self.view_is

pub invariant_of-self-2 : goal.invariant_of-self-2
invariant_of-self-2 c =
    let i = c.self.inside in
    let x : Parts = record { private = i.private; homes = i.homes.items; flag = i.flag; next_serial = i.next_serial; rows = i.rings } in
    let parts = c.self.invariant in
    let key = c.args.key.now in
    let len = c.args.len in
    let ns = c.args.pages.now in
    let none = none_held x key (ap (λ (l : Live). own_ring l key) c.self.view_is ∙ c.requires.none) in
    let v = c.ring_on-ring.result in
    let can = c.in-Ok.ensures.could in
    let new : (serial : ℕ) → paged serial v ≡ ring_on serial len (row_of x.private ns) = λ serial. c.ring_on-ring.ensures.new serial ∙ ap (ring_on serial len) c.in-Ok.ensures.row in
    let named = c.ring_on-ring.ensures.key in
    let sized = c.ring_on-ring.ensures.sized in
    let homes : c.settle.new.homes ≡ settled key 0 ns x.homes = c.settle.ensures ∙ ap (settled key 0 ns) c.as_mut_slice.ensures.value in
    let long : length c.settle.new.homes ≡ i.homes.len = ap length homes ∙ length-settled key 0 ns x.homes ∙ sym i.homes.ok.0 in
    let back = written_back i.homes.len c.settle.new.homes i.homes.items long in
    let same =
    registered_is x key v ns c.lend.new.self (take i.homes.len (c.settle.new.homes ++ drop (length c.settle.new.homes) i.homes.items)) c.insert.new.rings
    c.in-Ok.ensures.left (back ∙ homes) c.in_default.ensures.ok in
    subst IsParts (sym same) (registered_parts x parts key len v ns can none named new sized)

pub returns-clause-outcome : goal.returns-clause-outcome
returns-clause-outcome c =
    let i = c.self.inside in
    let x : Parts = record { private = i.private; homes = i.homes.items; flag = i.flag; next_serial = i.next_serial; rows = i.rings } in
    let parts = c.self.invariant in
    let key = c.args.key.now in
    let len = c.args.len in
    let ns = c.args.pages.now in
    let none = none_held x key (ap (λ (l : Live). own_ring l key) c.self.view_is ∙ c.requires.none) in
    let can = c.in-Ok.ensures.could in
    let free = new_free (seen x) key len ns (free_is x parts key none ns ∙ can) in
    ap (λ (ch : Change Live). ch.outcome) (sym free) ∙ ap (λ (l : Live). (new_if_free l key len ns).outcome) c.self.view_is

pub returns-clause-left : goal.returns-clause-left
returns-clause-left c =
    let i = c.self.inside in
    let x : Parts = record { private = i.private; homes = i.homes.items; flag = i.flag; next_serial = i.next_serial; rows = i.rings } in
    let parts = c.self.invariant in
    let key = c.args.key.now in
    let len = c.args.len in
    let ns = c.args.pages.now in
    let none = none_held x key (ap (λ (l : Live). own_ring l key) c.self.view_is ∙ c.requires.none) in
    let v = c.ring_on-ring.result in
    let can = c.in-Ok.ensures.could in
    let new : (serial : ℕ) → paged serial v ≡ ring_on serial len (row_of x.private ns) = λ serial. c.ring_on-ring.ensures.new serial ∙ ap (ring_on serial len) c.in-Ok.ensures.row in
    let named = c.ring_on-ring.ensures.key in
    let sized = c.ring_on-ring.ensures.sized in
    let homes : c.settle.new.homes ≡ settled key 0 ns x.homes = c.settle.ensures ∙ ap (settled key 0 ns) c.as_mut_slice.ensures.value in
    let long : length c.settle.new.homes ≡ i.homes.len = ap length homes ∙ length-settled key 0 ns x.homes ∙ sym i.homes.ok.0 in
    let back = written_back i.homes.len c.settle.new.homes i.homes.items long in
    let same =
    registered_is x key v ns c.lend.new.self (take i.homes.len (c.settle.new.homes ++ drop (length c.settle.new.homes) i.homes.items)) c.insert.new.rings
    c.in-Ok.ensures.left (back ∙ homes) c.in_default.ensures.ok in
    let free = new_free (seen x) key len ns (free_is x parts key none ns ∙ can) in
    ap seen same
    ∙ registered_seen x parts key len v ns can none named new sized
    ∙ ap (λ (ch : Change Live). after (seen x) ch) (sym free)
    ∙ ap (λ (l : Live). after l (new_if_free l key len ns)) c.self.view_is
