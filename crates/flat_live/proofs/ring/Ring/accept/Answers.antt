use Rattle.std.proofs.Common.{◌≡◌, ap, ◌∙◌, subst}
use Rattle.argo_model.specs.Rules.State.{Ring}
use Rattle.argo_model.specs.Rules.Deliver.{Offer, message_of, bytes_with}
use Rattle.argo_model.specs.Rules.RingBytes.{paged, laid}
use Rattle.argo_model.specs.declared.action.Load.TheVariants.{Body}
use Rattle.flat_live.proofs.ring.Ring.accept.Goals as goal

pub returns-clause-memory : goal.returns-clause-memory
returns-clause-memory c = λ body is.
    let memory = c.args.memory.now in
    let o = c.args.offer.now in
    let taken : c.offer.inside.load ≡ Body body = ap (λ (o : Offer). o.load) c.offer.view_is ∙ is in
    let same : c.in-Body.body ≡ body = cc in
    let message = ap (λ (o : Offer). message_of o c.in-Body.body) c.offer.view_is ∙ ap (message_of o) same in
    subst (λ (r : Ring). c.write-self-inside.new.memory ≡ laid r.pages (bytes_with (paged memory r) (message_of o body)) memory) c.self.view_is
    (c.write-self-inside.ensures.memory
    ∙ ap (λ m. laid c.self.inside.pages (bytes_with (paged memory (record { serial = c.self.inside.serial; len = c.self.inside.len; pages = c.self.inside.pages; tx = c.self.inside.tx; clean = c.self.inside.clean; untaken = c.self.inside.untaken.messages; notices = c.self.inside.notices })) m) memory) message)
