use Rattle.guest_pages.proofs.Lending.{has_row}
use Rattle.guest_pages.proofs.private.Private.give_back.Goals as goal

pub invariant_of-self : goal.invariant_of-self
invariant_of-self c =
    (has_row c.self.inside.slots.items c.args.self.now c.swap_in.new.pages.items c.row.inside.places.items c.args.row c.self.invariant c.row.invariant
    c.self.view_is c.row.view_is c.swap_in.ensures.pages).are_pages

pub returns : goal.returns
returns c =
    (has_row c.self.inside.slots.items c.args.self.now c.swap_in.new.pages.items c.row.inside.places.items c.args.row c.self.invariant c.row.invariant
    c.self.view_is c.row.view_is c.swap_in.ensures.pages).is
