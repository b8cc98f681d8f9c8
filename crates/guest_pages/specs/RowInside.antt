-- What always holds of a row.
use Rattle.std.specs.Prelude.{List, map, IsTrue}
use Rattle.std.specs.List.{All}
use Rattle.guest_pages.specs.declared.lazy_page.Lent.{Lent}
use Rattle.argo_base.specs.Numbers.{all_differ}
use Rattle.guest_pages.specs.PageBytes.{HoldsPage}

pub record IsRow (places : List Lent) : Type 0 where
  pub differ : IsTrue (all_differ (map (λ e. e.number) places))
  pub whole : All (λ e. HoldsPage e.page) places
