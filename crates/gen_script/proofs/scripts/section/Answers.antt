use Rattle.std.proofs.Common.{◌≡◌, ℕ, ◌+◌, ◌-◌, ◌*◌, ◌%◌, ◌≤◌, ◌++◌, List, sym, ap, ◌∙◌, arith}
use Rattle.argo_model.specs.declared.line.Line.{Line}
use Rattle.argo_model.specs.Examples.Words.{section}
use Rattle.argo_base.specs.Generator.{number_after, drawn}
use Rattle.gen_script.specs.Made.{round_lines, lines_from, round_count, domain_count}
use Rattle.gen_script.proofs.MadeLaws.{lines_from-more, first_draw, second_draw, rounds_are, domains_are}
use Rattle.gen_script.proofs.scripts.section.Goals as goal

all_rounds : (rounds : ℕ) → rounds ≤ 200 → 200 ≤ rounds → rounds ≡ round_count
all_rounds rounds most least = let e : rounds ≡ 200 = omega arith in e ∙ rounds_are

-- a round more, by what its parts are
round_more : (x d k to size round number : ℕ) (lines new : List Line) → lines ≡ lines_from x d k → number ≡ number_after x (2 * k) → to ≡ 1 + drawn (number_after number 1) % 8
    → size ≡ drawn (number_after number 2) % 1024 → round ≡ k + 1 → new ≡ lines ++ round_lines d to size round → new ≡ lines_from x d (k + 1)
round_more x d k to size round number lines new so_far at to_is size_is round_is pushed =
    let first : drawn (number_after number 1) ≡ drawn (number_after x (2 * (k + 1) - 1)) = ap (λ n. drawn (number_after n 1)) at ∙ sym (ap drawn (first_draw x k)) in
    let second : drawn (number_after number 2) ≡ drawn (number_after x (2 * (k + 1))) = ap (λ n. drawn (number_after n 2)) at ∙ sym (ap drawn (second_draw x k)) in
    pushed ∙ ap (λ ls. ls ++ round_lines d to size round) so_far
    ∙ ap (λ t. lines_from x d k ++ round_lines d t size round) (to_is ∙ ap (λ a. 1 + a % 8) first ∙ ap (λ m. 1 + drawn (number_after x (2 * (k + 1) - 1)) % m) domains_are)
    ∙ ap (λ s. lines_from x d k ++ round_lines d (1 + drawn (number_after x (2 * (k + 1) - 1)) % domain_count) s round) (size_is ∙ ap (λ b. b % 1024) second)
    ∙ ap (λ r. lines_from x d k ++ round_lines d (1 + drawn (number_after x (2 * (k + 1) - 1)) % domain_count) (drawn (number_after x (2 * (k + 1))) % 1024) r) round_is
    ∙ sym (lines_from-more x d k)

pub rounds-preserved : goal.rounds-preserved
rounds-preserved c =
    let x = c.args.draws.now.number in
    let round = c.next_round-round in
    let stood = c.rounds.invariant in
    record {
      lines = round_more x c.args.d c.rounds.before round.result.to round.result.size round.result.number c.rounds.draws.number c.rounds.lines c.push_round.new.lines
          stood.lines stood.turned round.ensures.to round.ensures.size round.ensures.number c.in_ok-push_round.ensures;
      turned = round.ensures.draws ∙ ap (λ n. number_after n 2) stood.turned ∙ sym (second_draw x c.rounds.before);
    }

pub returns-clause-part : goal.returns-clause-part
returns-clause-part c =
    let x = c.args.draws.now.number in
    let all = all_rounds c.rounds.before c.rounds.auto.before-end c.rounds-test.false in
    ap (section c.args.d) (c.rounds.invariant.lines ∙ ap (lines_from x c.args.d) all)

pub returns-clause-draws : goal.returns-clause-draws
returns-clause-draws c =
    let all = all_rounds c.rounds.before c.rounds.auto.before-end c.rounds-test.false in
    c.rounds.invariant.turned ∙ ap (λ k. number_after c.args.draws.now.number (2 * k)) all
