use Rattle.std.proofs.Common.{◌≡◌, ◌-◌, length, get_or, ap, ◌∙◌, arith}
use Rattle.argo_machine.proofs.BookLaws.{grown-same, grown-other, count-le-schedule}
use Rattle.argo_machine.proofs.books.note_run.Goals as goal

pub returns-then-last-v : goal.returns-then-last-v
returns-then-last-v c =
    let rs = c.args.runs.now.items in
    let last = c.index-last.result.now in
    let n : c.len-n.result ≡ length rs = c.len-n.ensures ∙ c.args.runs.now.ok.0 in
    rw n (grown-same rs c.args.v last (omega arith) (c.index-last.ensures ∙ ap (λ i. get_or rs (i - 1) last) n) c.if-last-v.true)

pub returns : goal.returns
returns c =
    let rs = c.args.runs.now.items in
    let last = c.index-last.result.now in
    let n : c.len-n.result ≡ length rs = c.len-n.ensures ∙ c.args.runs.now.ok.0 in
    c.push_reserved-2.ensures.items
    ∙ grown-other rs c.args.v last (omega arith) (c.index-last.ensures ∙ ap (λ i. get_or rs (i - 1) last) n) c.if-last-v.false

pub overflow_add-last : goal.overflow_add-last
overflow_add-last c =
    let rs = c.args.runs.now.items in
    let last = c.index-last.result.now in
    let n : c.len-n.result ≡ length rs = c.len-n.ensures ∙ c.args.runs.now.ok.0 in
    let less = count-le-schedule rs (length rs - 1) last (omega arith) (c.index-last.ensures ∙ ap (λ i. get_or rs (i - 1) last) n) in
    omega arith
