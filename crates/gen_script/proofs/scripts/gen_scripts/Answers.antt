use Rattle.std.proofs.Common.{◌≡◌, ℕ, ◌+◌, ◌-◌, ◌*◌, ◌≤◌, ◌∷◌, [], ◌++◌, List, map, true, sym, ap, subst, ◌∙◌, arith}
use Rattle.std.specs.List.{range_with_len}
use Rattle.std.proofs.lemmas.List.FromFn.{map-range_with_len_more}
use Rattle.argo_model.specs.declared.scripts.DomainLine.{DomainLine}
use Rattle.argo_model.specs.Runs.Script.{Section, Script, is_lawful}
use Rattle.argo_model.specs.Examples.Words.{domain, section}
use Rattle.argo_base.specs.Generator.{number_after}
use Rattle.gen_script.specs.Made.{lines_from, section_of, round_count, domain_count, made}
use Rattle.gen_script.proofs.MadeLaws.{number_after-sum, domains_are}
use Rattle.gen_script.proofs.Lawful.{made_lawful}
use Rattle.gen_script.proofs.scripts.gen_scripts.Goals as goal

all_sections : (count : ℕ) → count ≤ 8 → 8 ≤ count → count ≡ domain_count
all_sections count most least = let e : count ≡ 8 = omega arith in e ∙ domains_are

-- the script of all sections
whole : (n count : ℕ) (domains : List DomainLine) (sections : List Section) → domains ≡ map (λ d. domain d 3) (range_with_len 1 count)
    → sections ≡ map (section_of n) (range_with_len 1 count) → count ≡ domain_count → made n ≡ record { version = 1; domains = domains; sections = sections }
whole n count domains sections same_domains same_sections all =
    let ds = same_domains ∙ ap (λ k. map (λ d. domain d 3) (range_with_len 1 k)) all in
    let ss = same_sections ∙ ap (λ k. map (section_of n) (range_with_len 1 k)) all in
    let P : List DomainLine → List Section → Script = λ x y. record { version = 1; domains = x; sections = y } in
    sym (ap (λ x. P x sections) ds ∙ ap (λ y. P (map (λ d. domain d 3) (range_with_len 1 domain_count)) y) ss)

-- a section more
section_more : (n k number : ℕ) → number ≡ number_after n (2 * round_count * k) → section (k + 1) (lines_from number (k + 1) round_count) ≡ section_of n (k + 1)
section_more n k number at =
    let e : k ≡ k + 1 - 1 = omega arith in
    ap (λ x. section (k + 1) (lines_from x (k + 1) round_count)) (at ∙ ap (λ j. number_after n (2 * round_count * j)) e)

turned_more : (n k number new : ℕ) → number ≡ number_after n (2 * round_count * k) → new ≡ number_after number (2 * round_count) → new ≡ number_after n (2 * round_count * (k + 1))
turned_more n k number new at turns =
    let e : 2 * round_count * k + 2 * round_count ≡ 2 * round_count * (k + 1) = omega arith in
    turns ∙ ap (λ x. number_after x (2 * round_count)) at ∙ sym (number_after-sum n (2 * round_count * k) (2 * round_count)) ∙ ap (number_after n) e

pub sections-preserved : goal.sections-preserved
sections-preserved c =
    let n = c.args.n in
    let k = c.sections.before in
    let stood = c.sections.invariant in
    let next : 1 + k ≡ k + 1 = omega arith in
    record {
      domains = c.in_ok-push.ensures.ok ∙ ap (λ ds. ds ++ domain (k + 1) 3 ∷ []) stood.domains ∙ sym (map-range_with_len_more (λ d. domain d 3) 1 k (k + 1) next);
      sections = c.in_ok-push-2.ensures.ok ∙ ap (λ ss. ss ++ c.in_ok-section.field-0 ∷ []) stood.sections
          ∙ ap (λ s. map (section_of n) (range_with_len 1 k) ++ s ∷ []) (c.in_ok-section.ensures.part ∙ section_more n k c.sections.draws.number stood.turned)
          ∙ sym (map-range_with_len_more (section_of n) 1 k (k + 1) next);
      turned = turned_more n k c.sections.draws.number c.section.new.draws.number stood.turned c.in_ok-section.ensures.draws;
    }

pub invariant_of-result : goal.invariant_of-result
invariant_of-result c =
    let n = c.args.n in
    let stood = c.sections.invariant in
    let all = all_sections c.sections.before c.sections.auto.before-end c.sections-test.false in
    let P : Script → Type 0 = λ s. is_lawful s ≡ true in
    subst P (whole n c.sections.before c.sections.domains c.sections.parts stood.domains stood.sections all) (made_lawful n)

pub returns : goal.returns
returns c =
    let stood = c.sections.invariant in
    let all = all_sections c.sections.before c.sections.auto.before-end c.sections-test.false in
    sym (whole c.args.n c.sections.before c.sections.domains c.sections.parts stood.domains stood.sections all)
