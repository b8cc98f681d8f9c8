use Rattle.std.proofs.Common.{◌≡◌, [], ◌∙◌, ap, sym, length, arith}
use Rattle.std.specs.Prelude.{unwrap_or}
use Rattle.argo_base.specs.Splice.{splice}
use Rattle.argo_base.proofs.SpliceLaws.{length-splice}
use Rattle.guest_pages.specs.Rows.{numbers_of, row_bytes, page_in}
use Rattle.guest_pages.proofs.FlatLaws.{length-row_bytes, numbers_of-with_bytes, row_bytes-with_bytes}
use Rattle.guest_pages.proofs.RowLaws.{page_in-numbered, row_whole, row_with_bytes, with_bytes, with_bytes-numbered}
use Rattle.guest_pages.proofs.page_row.PageRow.write.Goals as goal

-- the page that was there, as the row has it
was : (c : goal.After-self-1) → c.page_mut-2.result.now ≡ (page_in c.args.self.now c.args.place).1
was c =
    c.page_mut-2.ensures.value
    ∙ ap (λ p. unwrap_or p []) (sym c.page_mut.ensures.value)
    ∙ ap (λ p. p.1)
    (sym (page_in-numbered c.self.inside.places.items c.args.self.now c.args.place c.index_mut.result.now c.self.view_is c.requires.inside c.index_mut.ensures.value))

pub invariant_of-self : goal.invariant_of-self
invariant_of-self c =
    let long : length (page_in c.args.self.now c.args.place).1 ≡ 4096 =
    row_whole c.self.inside.places.items c.args.self.now c.self.invariant c.self.view_is c.args.place (0, []) c.requires.inside in
    let whole : length c.page_mut-2.result.now ≡ 4096 = ap length (was c) ∙ long in
    row_with_bytes c.self.inside.places.items c.args.place c.index_mut.result.now c.write.new.self c.self.invariant c.index_mut.ensures.value
    (ap length c.write.ensures.bytes
    ∙ length-splice c.page_mut-2.result.now c.args.bytes.now c.args.off (omega (arith, c.requires.in_page))
    ∙ whole
    )

pub returns-clause-numbers : goal.returns-clause-numbers
returns-clause-numbers c =
    ap numbers_of
    (with_bytes-numbered c.self.inside.places.items c.args.self.now c.args.place c.index_mut.result.now c.write.new.self c.self.view_is c.requires.inside
    c.index_mut.ensures.value)
    ∙ numbers_of-with_bytes c.args.self.now c.args.place c.write.new.self

pub returns-clause-bytes : goal.returns-clause-bytes
returns-clause-bytes c =
    let whole = row_whole c.self.inside.places.items c.args.self.now c.self.invariant c.self.view_is in
    ap row_bytes
    (with_bytes-numbered c.self.inside.places.items c.args.self.now c.args.place c.index_mut.result.now c.write.new.self c.self.view_is c.requires.inside
    c.index_mut.ensures.value)
    ∙ ap (λ b. row_bytes (with_bytes c.args.self.now c.args.place b)) (c.write.ensures.bytes ∙ ap (λ p. splice p c.args.off c.args.bytes.now) (was c))
    ∙ row_bytes-with_bytes c.args.self.now c.args.place c.args.off c.args.bytes.now whole c.requires.inside c.requires.in_page

pub returns-clause-whole : goal.returns-clause-whole
returns-clause-whole c =
    length-row_bytes c.args.self.now (row_whole c.self.inside.places.items c.args.self.now c.self.invariant c.self.view_is)
