-- The worked examples of ranges and of buffers, each computed.
use Rattle.std.proofs.Common.{refl}
use Rattle.argo_model.specs.Examples.Iovs.{PiecesOfRanges, Verdicts, GatheredIovs}

pub pieces_of_ranges : PiecesOfRanges
pieces_of_ranges =
    record {
      empty = refl;
      inside = refl;
      to_page_end = refl;
      over_page_end = refl;
      three_pages = refl;
      past_64_bits = refl;
      largest_body = refl;
    }

pub verdicts : Verdicts
verdicts =
    record {
      none = refl;
      empty = refl;
      two = refl;
      pad = refl;
      largest = refl;
      too_long = refl;
      too_long_in_all = refl;
      sum_before_pad = refl;
      pad_before_sum = refl;
    }

pub gathered_iovs : GatheredIovs
gathered_iovs =
    record {
      read = refl;
      gathered = refl;
    }
