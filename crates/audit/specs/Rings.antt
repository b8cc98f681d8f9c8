-- How two rings of one key differ.
use Rattle.std.specs.Prelude.{ℕ, ◌+◌, Bool, if◌then◌else◌, List, [], slice_get, Option, Some, None}
use Rattle.std.specs.Option.{is_some}
use Rattle.std.specs.Ordering.{nat_cmp}
use Rattle.argo_base.specs.declared.message.Message.{Message}
use Rattle.argo_model.specs.declared.closed.ClosedRing.{ClosedRing}
use Rattle.argo_model.specs.declared.closing.NoticeLine.{NoticeLine}
use Rattle.argo_model.specs.Rules.Messages.{spell}
use Rattle.audit.specs.declared.rows.RingRow.{RingRow}
use Rattle.audit.specs.declared.rows.RingRow.TheVariants.{There, Serial, Length, Tx, Clean, Untaken, Notices, Pages}
use Rattle.audit.specs.declared.values.Values.{Values}
use Rattle.audit.specs.First.{differ, first_below, first_in, places, lists_differ, texts_differ, missing}
use Rattle.audit.specs.Names.{names_of, row_of}

abbrev pub number_of : Bool → ℕ
number_of b = if b then 1 else 0

-- the bytes of a message, as they stand in slots
abbrev pub spelled : Option Message → List ℕ
spelled None = []
spelled (Some m) = spell m

-- the messages that were not taken, place by place
abbrev pub untaken_at : List Message → List Message → ℕ → Option Values
untaken_at xs ys k = texts_differ (spelled (slice_get xs k)) (spelled (slice_get ys k))

abbrev pub untaken_differ : List Message → List Message → Option Values
untaken_differ xs ys = first_below (untaken_at xs ys) (places xs ys)

abbrev pub noted : NoticeLine → ℕ
noted n = n.dom

-- a size and one more, or 0 where there is no notice
abbrev pub notice_number : Option NoticeLine → ℕ
notice_number None = 0
notice_number (Some n) = n.size + 1

abbrev pub notice_at : List NoticeLine → ℕ → ℕ
notice_at xs d = notice_number (row_of nat_cmp noted xs d)

-- the notices, by rising domain
abbrev pub notices_of : List NoticeLine → List NoticeLine → ℕ → Option Values
notices_of xs ys d = differ (notice_at xs d) (notice_at ys d)

abbrev pub notices_differ : List NoticeLine → List NoticeLine → Option Values
notices_differ xs ys = first_in (notices_of xs ys) (names_of nat_cmp noted xs ys)

-- two rings, in one of their parts
abbrev pub both_differ : RingRow → ClosedRing → ClosedRing → Option Values
both_differ There x y = None
both_differ Serial x y = differ x.serial y.serial
both_differ Length x y = differ x.len y.len
both_differ Tx x y = differ x.tx y.tx
both_differ Clean x y = differ (number_of x.clean) (number_of y.clean)
both_differ Untaken x y = untaken_differ x.untaken y.untaken
both_differ Notices x y = notices_differ x.notices y.notices
both_differ Pages x y = lists_differ missing x.pages y.pages

-- a ring that one side has alone differs in this, that it is there, and in nothing else
abbrev pub one_differs : RingRow → ℕ → ℕ → Option Values
one_differs There x y = differ x y
one_differs Serial x y = None
one_differs Length x y = None
one_differs Tx x y = None
one_differs Clean x y = None
one_differs Untaken x y = None
one_differs Notices x y = None
one_differs Pages x y = None

abbrev pub ring_differs : RingRow → Option ClosedRing → Option ClosedRing → Option Values
ring_differs row (Some x) (Some y) = both_differ row x y
ring_differs row (Some x) None = one_differs row 1 0
ring_differs row None (Some y) = one_differs row 0 1
ring_differs row None None = None
