use Rattle.std.proofs.Common.{[], ◌∙◌, ap, sym, refl, length}
use Rattle.std.specs.Prelude.{unwrap_or}
use Rattle.guest_pages.proofs.PageLaws.{held_from_length}
use Rattle.guest_pages.proofs.lazy_page.LazyPage.page_mut.Goals as goal

pub page_mut-requires : goal.page_mut-requires
page_mut-requires c = held_from_length c.self.inside.frame.page (ap length c.self.view_is ∙ c.requires)

pub returns : goal.returns
returns c = (
  (refl, λ w. refl),
  record {
    writes_back = tt;
    value = ap (λ o. unwrap_or o []) (sym c.page_mut.ensures.value) ∙ c.self.view_is;
  },
)
