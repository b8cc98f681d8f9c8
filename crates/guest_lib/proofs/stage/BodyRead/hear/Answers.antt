use Rattle.std.proofs.Common.{◌++◌, if◌then◌else◌, refl, sym, ◌∙◌, ap, arith}
use Rattle.std.specs.Option.{is_some}
use Rattle.std.specs.Result.{is_ok}
use Rattle.guest_lib.proofs.FetchLaws.{none_left, some_left}
use Rattle.guest_lib.proofs.BodyLaws.{heard_sum, heard_more, heard_last}
use Rattle.guest_lib.proofs.stage.BodyRead.hear.Goals as goal

pub unwrap-requires : goal.unwrap-requires
unwrap-requires c =
    let b = c.args.self.now in
    let sum = heard_sum b c.args.bytes.now c.requires.ready c.requires.can in
    let room = c.requires.ready.room refl in
    c.extend_from_slice.ensures.succeeds (omega (arith, sum, room, b.got.ok.0, c.requires.ready.size))

pub returns-clause-more : goal.returns-clause-more
returns-clause-more c = λ more.
    let b = c.args.self.now in
    let new = record b { slots = c.drop_first.new.self; got = c.extend_from_slice.new.self } in
    let items = c.extend_from_slice.ensures.items ∙ ap (λ r. if is_ok r then b.got.items ++ c.args.bytes.now else b.got.items) c.unwrap.ensures in
    heard_more b new c.args.bytes.now c.requires.ready c.requires.can c.drop_first.ensures items refl refl
    (some_left c.drop_first.new.self (ap is_some (sym c.first.ensures.first) ∙ sym c.is_some.ensures ∙ more))

pub returns-clause-last : goal.returns-clause-last
returns-clause-last c = λ last.
    let b = c.args.self.now in
    let new = record b { slots = c.drop_first.new.self; got = c.extend_from_slice.new.self } in
    let items = c.extend_from_slice.ensures.items ∙ ap (λ r. if is_ok r then b.got.items ++ c.args.bytes.now else b.got.items) c.unwrap.ensures in
    heard_last b new c.args.bytes.now c.requires.ready c.requires.can c.drop_first.ensures items refl refl
    (none_left c.drop_first.new.self (ap is_some (sym c.first.ensures.first) ∙ sym c.is_some.ensures ∙ last))
