use Rattle.std.proofs.Common.{◌≡◌, ◌+◌, ◌≤◌, ℕ, List, [], Ok, length, take, ap, sym, ◌∙◌, subst, arith}
use Rattle.std.proofs.lemmas.List.FromFn.{length-map-range_with_len}
use Rattle.argo_base.specs.Iovs.{iov_at, iovs_at, verdict_of, gathered_pieces}
use Rattle.argo_base.specs.Limits.{longest_body}
use Rattle.argo_model.specs.Programs.Send.{gather}
use Rattle.line_phase.specs.Sending.{deliver_to, send_judged_to, bytes_of}
use Rattle.line_phase.specs.Followed.{Leads}
use Rattle.line_phase.proofs.LeadLaws.{leads_by, leads_within}
use Rattle.line_phase.proofs.SendLaws.{refused_verdict, few_gathered}
use Rattle.line_phase.proofs.send.judged.Goals as goal

pub deliver-requires : goal.deliver-requires
deliver-requires c =
    refused_verdict (take c.args.count c.read_iovs-iovs.result) c.in-Err.e (c.in-Err.ensures.verdict ∙ ap verdict_of c.split_at.ensures.front)

pub returns-in-Ok : goal.returns-in-Ok
returns-in-Ok c =
    let list = c.args.list.items in
    let a = c.args.address in
    let count = c.args.count in
    let n = c.in-Ok.size in
    let vs = iovs_at list count in
    let given = take count c.read_iovs-iovs.result in
    let is : given ≡ vs = c.read_iovs-iovs.ensures ∙ ap (λ l. iovs_at l count) c.as_slice.ensures.value in
    let said : Ok n ≡ verdict_of vs = c.in-Ok.ensures.verdict ∙ ap verdict_of (c.split_at.ensures.front ∙ is) in
    let total : n ≡ bytes_of vs = c.in-Ok.ensures.total ∙ ap bytes_of (c.split_at.ensures.front ∙ is) in
    let within : n ≤ longest_body = c.in-Ok.ensures.within in
    let long : length vs ≡ count = length-map-range_with_len (iov_at list) 0 count in
    let few = few_gathered vs (let few = c.requires.few in omega (arith, few, long)) (omega (arith, within, total)) in
    let P : List ℕ → Type 0 = λ got. Leads (gather (gathered_pieces vs) got n (deliver_to a)) (length (gathered_pieces vs) + 1) c.go_on.result in
    leads_within (send_judged_to a vs (verdict_of vs)) (length (gathered_pieces vs) + 1) 4112 c.go_on.result (omega (arith, few))
    (leads_by (send_judged_to a vs (verdict_of vs)) (gather (gathered_pieces vs) [] n (deliver_to a)) (length (gathered_pieces vs) + 1) c.go_on.result
    (λ os. ap (λ r. send_judged_to a vs r os) (sym said))
    (subst P c.new.ensures.items c.go_on.ensures))
