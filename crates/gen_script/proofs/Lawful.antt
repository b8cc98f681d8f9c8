-- The scripts that a number makes keep the rules of scripts.
use Rattle.std.proofs.Common.{◌≡◌, ℕ, ◌+◌, ◌*◌, ◌≤◌, Bool, true, cond, List, [], ◌∷◌, length, map, sum_by, count_by, refl, sym, ap, ◌∙◌, arith, length-append}
use Rattle.std.specs.List.{range_with_len, flat_map, list_all}
use Rattle.std.proofs.lemmas.Bool.{and_parts, and_from, le-leb}
use Rattle.std.proofs.lemmas.List.Concat.{flat_map-cons}
use Rattle.std.proofs.lemmas.List.Folds.{list_all-append}
use Rattle.std.proofs.lemmas.List.FromFn.{length-range_with_len, length-map-range_with_len}
use Rattle.std.proofs.lemmas.List.Sums.{sum_by-cons, sum_by-append}
use Rattle.argo_model.specs.declared.scripts.DomainLine.{DomainLine}
use Rattle.argo_model.specs.Runs.Script.{Section, is_vcpu_line, is_line_of_one, names_known, turns_of, has_domain, is_control, is_known_section, is_section_of_one, is_lawful_section, are_lawful_domains, are_domains_within, are_sections_within, is_lawful}
use Rattle.argo_model.specs.Examples.Words.{domain, section}
use Rattle.gen_script.specs.Made.{opening_lines, round_from, lines_from, section_of, domain_count, round_count, made}

-- ---- lists of lists

all_flat : {X A : Type 0} (p : A → Bool) (f : X → List A) → ((x : X) → list_all p (f x) ≡ true) → (xs : List X) → list_all p (flat_map f xs) ≡ true
all_flat p f each [] = refl
all_flat p f each (x ∷ xs) =
    ap (list_all p) (flat_map-cons f x xs) ∙ list_all-append p (f x) (flat_map f xs) ∙ and_from _ _ (each x) (all_flat p f each xs)

none_flat : {X A : Type 0} (g : A → ℕ) (f : X → List A) → ((x : X) → sum_by g (f x) ≡ 0) → (xs : List X) → sum_by g (flat_map f xs) ≡ 0
none_flat g f each [] = refl
none_flat g f each (x ∷ xs) =
    let split = ap (sum_by g) (flat_map-cons f x xs) ∙ sum_by-append g (f x) (flat_map f xs) in
    omega (arith, split, each x, none_flat g f each xs)

five_each : {X A : Type 0} (f : X → List A) → ((x : X) → length (f x) ≡ 5) → (xs : List X) → length (flat_map f xs) ≡ 5 * length xs
five_each f each [] = refl
five_each f each (x ∷ xs) =
    let split = ap length (flat_map-cons f x xs) ∙ length-append (f x) (flat_map f xs) in
    omega (arith, split, each x, five_each f each xs)

all_map : {X A : Type 0} (p : A → Bool) (f : X → A) → ((x : X) → p (f x) ≡ true) → (xs : List X) → list_all p (map f xs) ≡ true
all_map p f each [] = refl
all_map p f each (x ∷ xs) = and_from _ _ (each x) (all_map p f each xs)

sum_map : {X A : Type 0} (g : A → ℕ) (f : X → A) (c : ℕ) → ((x : X) → g (f x) ≡ c) → (xs : List X) → sum_by g (map f xs) ≡ length xs * c
sum_map g f c each [] = let none : 0 ≡ 0 * c = omega arith in none
sum_map g f c each (x ∷ xs) =
    let split = sum_by-cons g (f x) (map f xs) in
    let rest = sum_map g f c each xs in
    split ∙ ap (λ n. n + sum_by g (map f xs)) (each x) ∙ ap (λ n. c + n) rest ∙ omega arith

-- ---- a section

pub vcpu_lines : (x d rounds : ℕ) → list_all is_vcpu_line (lines_from x d rounds) ≡ true
vcpu_lines x d rounds = list_all-append is_vcpu_line (opening_lines d) (flat_map (round_from x d) (range_with_len 1 rounds)) ∙ all_flat is_vcpu_line (round_from x d) (λ k. refl) (range_with_len 1 rounds)

lines_of_one : (x d rounds : ℕ) → list_all is_line_of_one (lines_from x d rounds) ≡ true
lines_of_one x d rounds = list_all-append is_line_of_one (opening_lines d) (flat_map (round_from x d) (range_with_len 1 rounds)) ∙ all_flat is_line_of_one (round_from x d) (λ k. refl) (range_with_len 1 rounds)

lines_known : (ds : List DomainLine) (x d rounds : ℕ) → list_all (names_known ds) (lines_from x d rounds) ≡ true
lines_known ds x d rounds = list_all-append (names_known ds) (opening_lines d) (flat_map (round_from x d) (range_with_len 1 rounds)) ∙ all_flat (names_known ds) (round_from x d) (λ k. refl) (range_with_len 1 rounds)

no_turns : (x d rounds : ℕ) → sum_by turns_of (lines_from x d rounds) ≡ 0
no_turns x d rounds =
    let first : sum_by turns_of (opening_lines d) ≡ 0 = refl in
    let rest = none_flat turns_of (round_from x d) (λ k. refl) (range_with_len 1 rounds) in
    omega (arith, first, rest, sum_by-append turns_of (opening_lines d) (flat_map (round_from x d) (range_with_len 1 rounds)))

line_count : (x d rounds : ℕ) → length (lines_from x d rounds) ≡ 4 + 5 * rounds
line_count x d rounds =
    let few : length (opening_lines d) ≡ 4 = refl in
    omega (
      arith,
      few,
      length-append (opening_lines d) (flat_map (round_from x d) (range_with_len 1 rounds)),
      five_each (round_from x d) (λ k. refl) (range_with_len 1 rounds),
      length-range_with_len 1 rounds,
    )

lines_in_all : (x d : ℕ) → length (lines_from x d round_count) ≡ 1004
unfolding round_count
lines_in_all x d = line_count x d 200

pub lawful_section : (x d rounds : ℕ) → is_lawful_section (section d (lines_from x d rounds)) ≡ true
lawful_section x d rounds = vcpu_lines x d rounds

-- ---- all sections

all_known : (ds : List DomainLine) (n : ℕ) (ids : List ℕ) → list_all (has_domain ds) ids ≡ true → list_all (is_known_section ds) (map (section_of n) ids) ≡ true
all_known ds n [] h = refl
all_known ds n (d ∷ ids) h =
    let parts = and_parts (has_domain ds d) (list_all (has_domain ds) ids) h in
    and_from _ _ (and_from _ _ parts.0 (lines_known ds _ d round_count)) (all_known ds n ids parts.1)

abbrev the_domains : List DomainLine
the_domains = map (λ d. domain d 3) (range_with_len 1 domain_count)

domains_lawful : are_lawful_domains the_domains ≡ true
unfolding domain_count
domains_lawful = refl

domains_within : are_domains_within the_domains ≡ true
unfolding domain_count
domains_within = refl

ids_known : list_all (has_domain the_domains) (range_with_len 1 domain_count) ≡ true
unfolding domain_count
ids_known = refl

eight : length (range_with_len 1 domain_count) ≡ 8
unfolding domain_count
eight = refl

sections_within : (n : ℕ) → are_sections_within (map (section_of n) (range_with_len 1 domain_count)) ≡ true
sections_within n =
    let xs = range_with_len 1 domain_count in
    let count : length (map (section_of n) xs) ≡ 8 = length-map-range_with_len (section_of n) 1 domain_count ∙ sym (length-range_with_len 1 domain_count) ∙ eight in
    let control : count_by (λ (s : Section). is_control s.actor) (map (section_of n) xs) ≡ 8 * 0 = sum_map (λ (s : Section). cond (is_control s.actor) 1 0) (section_of n) 0 (λ d. refl) xs ∙ ap (λ m. m * 0) eight in
    let lines : sum_by (λ (s : Section). length s.lines) (map (section_of n) xs) ≡ 8 * 1004 = sum_map (λ (s : Section). length s.lines) (section_of n) 1004 (λ d. lines_in_all _ d) xs ∙ ap (λ m. m * 1004) eight in
    let turns : sum_by (λ (s : Section). sum_by turns_of s.lines) (map (section_of n) xs) ≡ 8 * 0 = sum_map (λ (s : Section). sum_by turns_of s.lines) (section_of n) 0 (λ d. no_turns _ d round_count) xs ∙ ap (λ m. m * 0) eight in
    let few : length (map (section_of n) xs) ≤ 64 = omega arith in
    let one : count_by (λ (s : Section). is_control s.actor) (map (section_of n) xs) ≤ 1 = omega arith in
    let short : sum_by (λ (s : Section). length s.lines) (map (section_of n) xs) ≤ 8192 = omega arith in
    let quick : sum_by (λ (s : Section). sum_by turns_of s.lines) (map (section_of n) xs) ≤ 1048576 = omega arith in
    and_from _ _ (and_from _ _ (and_from _ _ (le-leb _ _ few) (le-leb _ _ one)) (le-leb _ _ short)) (le-leb _ _ quick)

pub made_lawful : (n : ℕ) → is_lawful (made n) ≡ true
made_lawful n =
    let xs = range_with_len 1 domain_count in
    let of_one = all_map is_section_of_one (section_of n) (λ d. lines_of_one _ d round_count) xs in
    let lawful = all_map is_lawful_section (section_of n) (λ d. vcpu_lines _ d round_count) xs in
    and_from _ _ (and_from _ _ (and_from _ _ (and_from _ _ (and_from _ _ of_one domains_lawful) domains_within) (sections_within n)) lawful) (all_known the_domains n xs ids_known)
