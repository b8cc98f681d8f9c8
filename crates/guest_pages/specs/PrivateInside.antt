-- What always holds of a domain's private pages.
use Rattle.std.specs.Prelude.{ℕ, ◌<◌, ◌^◌, List, length, Option}
use Rattle.std.specs.List.{All}
use Rattle.guest_pages.specs.PageBytes.{IsWhole}

pub record ArePages (pages : List (Option (List ℕ))) : Type 0 where
  pub few : length pages < 2 ^ 32
  pub whole : All IsWhole pages
