use Rattle.std.proofs.Common.{◌≡◌, ◌+◌, ◌/◌, IsTrue, List, [], length, sym, ap, ◌∙◌, subst, arith}
use Rattle.std.specs.BTreeMap.{insert_entry}
use Rattle.argo_base.specs.Match.{key_cmp}
use Rattle.argo_base.specs.Notices.{Notices}
use Rattle.argo_base.specs.declared.message.Message.{Message}
use Rattle.argo_model.specs.Rules.State.{Ring, Live}
use Rattle.argo_model.specs.Rules.Register.{add_paged, new_ring}
use Rattle.argo_model.specs.Rules.RingBytes.{PagedRing, paged, laid}
use Rattle.argo_model.specs.Rules.Starts.{started}
use Rattle.flat_live.specs.declared.starts.Start.{Start}
use Rattle.flat_live.specs.Memory.{are_there, stand_in}
use Rattle.flat_live.specs.Starts.{start_on, memory_with_start}
use Rattle.flat_live.proofs.RegisterLaws.{start_laid, inserted_stands}
use Rattle.flat_live.proofs.live.Live.register_new.Goals as goal

pub invariant_of-self-2 : goal.invariant_of-self-2
invariant_of-self-2 c =
    let x = c.self.inside in
    let there = subst (λ (l : Live). IsTrue (are_there (length l.bytes / 4096) c.args.pages)) (sym c.self.view_is) c.requires.there in
    subst (λ n. IsTrue (stand_in (n / 4096) c.insert.new.self.entries)) (sym c.write.ensures.length)
    (subst (λ rs. IsTrue (stand_in (length x.bytes / 4096) rs)) (sym c.in_ok-insert.ensures.entries)
    (inserted_stands (length x.bytes / 4096) x.rings.entries c.args.key _ c.self.invariant there))

pub returns-clause-left : goal.returns-clause-left
returns-clause-left c =
    let i = c.self.inside in
    let x : Live = record { bytes = i.bytes; flag = i.flag; next_serial = i.next_serial; rings = i.rings.entries } in
    let pages = c.args.pages in
    let len = c.args.len in
    let key = c.args.key in
    let counted = c.requires.counted in
    let there = subst (λ (l : Live). IsTrue (are_there (length l.bytes / 4096) pages)) (sym c.self.view_is) c.requires.there in
    let fresh = new_ring x.next_serial len pages in
    let q : PagedRing = started (paged x.bytes fresh) in
    let start = c.on-start.ensures.is ∙ ap (λ m. start_on m len c.as_slice-2.result.now) c.as_slice.ensures ∙ ap (start_on x.bytes len) c.as_slice-2.ensures in
    let memory = c.write.ensures.is ∙ ap (memory_with_start x.bytes) start ∙ start_laid x.bytes pages fresh (omega (arith, counted)) there c.requires.differ in
    let make : Start → List Message → Notices → Ring = λ s ms ns. record { serial = x.next_serial; len = len; pages = pages; tx = s.tx; clean = s.clean; untaken = ms; notices = ns } in
    let ring : make c.on-start.result c.new.result.messages c.new-2.result ≡ q.ring =
    ap (λ s. make s c.new.result.messages c.new-2.result) start
    ∙ ap (λ ms. make (start_on x.bytes len pages) ms c.new-2.result) c.new.ensures
    ∙ ap (make (start_on x.bytes len pages) []) c.new-2.ensures in
    ap (λ b. record x { bytes = b; next_serial = x.next_serial + 1; rings = c.insert.new.self.entries }) memory
    ∙ ap (λ rs. record x { bytes = laid pages q.own x.bytes; next_serial = x.next_serial + 1; rings = rs })
    (c.in_ok-insert.ensures.entries ∙ ap (insert_entry key_cmp x.rings key) ring)
    ∙ ap (λ (l : Live). add_paged l key (started (paged l.bytes (new_ring l.next_serial len pages)))) c.self.view_is
