-- Laws of the words of a schedule.
use Rattle.std.proofs.Common.{◌≡◌, ◌≢◌, ℕ, ◌^◌, ◌<◌, ◌≤◌, List, [], ◌∷◌, ◌++◌, refl, sym, ap, ◌∙◌, subst, append_assoc, arith}
use Rattle.std.specs.Fmt.{decimal}
use Rattle.argo_model.specs.declared.closing.Run.{Run}
use Rattle.argo_model.specs.Runs.Report.{run_word}
use Rattle.report_read.specs.Schedule.{IsRun}
use Rattle.report_read.specs.Numbers.{NoDigitNext, IsNumberThen, HasNoNumber}
use Rattle.report_read.specs.Words.{IsWordThen, HasNoWord}
use Rattle.report_read.proofs.NumberLaws.{same_number}

star_stops : (rest : List ℕ) → NoDigitNext (42 ∷ rest)
star_stops rest = λ h. absurd (omega (arith, h))

word_text : (r : Run) (rest : List ℕ) → run_word r ++ rest ≡ decimal r.vcpu ++ (42 ∷ (decimal r.count ++ rest))
word_text r rest = append_assoc (decimal r.vcpu ++ (42 ∷ [])) (decimal r.count) rest ∙ append_assoc (decimal r.vcpu) (42 ∷ []) (decimal r.count ++ rest)

-- behind its space a word is a number, a star and a number
vcpu_first : (text a : List ℕ) (r : Run) (rest : List ℕ) → text ≡ 32 ∷ a → IsWordThen text r rest → IsNumberThen a r.vcpu (42 ∷ (decimal r.count ++ rest))
vcpu_first text a r rest here word = record {
  text_is =
      let e : 32 ∷ a ≡ 32 ∷ (run_word r ++ rest) = sym here ∙ word.text_is in
      let f : a ≡ run_word r ++ rest = cc in
      f ∙ word_text r rest;
  fits = let h = word.is_run.vcpu_fits in omega (arith, h);
  stops = star_stops (decimal r.count ++ rest);
}

count_then : (text a b d : List ℕ) (v : ℕ) (r : Run) (rest : List ℕ) → text ≡ 32 ∷ a → IsNumberThen a v b → b ≡ 42 ∷ d → IsWordThen text r rest
    → (r.vcpu ≡ v) × IsNumberThen d r.count rest
count_then text a b d v r rest here first star word =
    let s = same_number a r.vcpu v (42 ∷ (decimal r.count ++ rest)) b (vcpu_first text a r rest here word) first in
    let e : 42 ∷ (decimal r.count ++ rest) ≡ 42 ∷ d = s.1 ∙ star in
    let f : d ≡ decimal r.count ++ rest = cc in
    (s.0, record { text_is = f; fits = word.is_run.count_fits; stops = word.stops })

-- why a text begins with no word
pub no_space : (text : List ℕ) → ((rest : List ℕ) → text ≢ 32 ∷ rest) → HasNoWord text
no_space text none = λ r rest word. none (run_word r ++ rest) word.text_is

pub no_vcpu : (text a : List ℕ) → text ≡ 32 ∷ a → HasNoNumber a → HasNoWord text
no_vcpu text a here none = λ r rest word. none r.vcpu (42 ∷ (decimal r.count ++ rest)) (vcpu_first text a r rest here word)

pub no_star : (text a b : List ℕ) (v : ℕ) → text ≡ 32 ∷ a → IsNumberThen a v b → ((rest : List ℕ) → b ≢ 42 ∷ rest) → HasNoWord text
no_star text a b v here first none = λ r rest word.
    let s = same_number a r.vcpu v (42 ∷ (decimal r.count ++ rest)) b (vcpu_first text a r rest here word) first in
    none (decimal r.count ++ rest) (sym s.1)

pub no_count : (text a b d : List ℕ) (v : ℕ) → text ≡ 32 ∷ a → IsNumberThen a v b → b ≡ 42 ∷ d → HasNoNumber d → HasNoWord text
no_count text a b d v here first star none = λ r rest word. none r.count rest (count_then text a b d v r rest here first star word).1

pub unfit : (text a b d e : List ℕ) (v n : ℕ) → text ≡ 32 ∷ a → IsNumberThen a v b → b ≡ 42 ∷ d → IsNumberThen d n e → ¬ ((v < 2 ^ 32) × (1 ≤ n)) → HasNoWord text
unfit text a b d e v n here first star second bad = λ r rest word.
    let h = count_then text a b d v r rest here first star word in
    let s = same_number d r.count n rest e h.1 second in
    let vcpu : r.vcpu < 2 ^ 32 = word.is_run.vcpu_fits in
    let some : 1 ≤ r.count = word.is_run.some_steps in
    let at = h.0 in
    let counted = s.0 in
    bad (omega arith, omega arith)

-- a word
pub is_word : (text a b d e : List ℕ) (v n : ℕ) → text ≡ 32 ∷ a → IsNumberThen a v b → b ≡ 42 ∷ d → IsNumberThen d n e → v < 2 ^ 32 → 1 ≤ n
    → IsWordThen text (record { vcpu = v; count = n }) e
is_word text a b d e v n here first star second vcpu some =
    let r : Run = record { vcpu = v; count = n } in
    record {
      text_is =
          here ∙ ap (λ xs. 32 ∷ xs) (first.text_is ∙ ap (λ xs. decimal v ++ xs) (star ∙ ap (λ xs. 42 ∷ xs) second.text_is) ∙ sym (word_text r e));
      is_run = record { vcpu_fits = vcpu; some_steps = some; count_fits = second.fits };
      stops = second.stops;
    }

-- a text begins with one word
pub same_word : (text : List ℕ) (r q : Run) (xs ys : List ℕ) → IsWordThen text r xs → IsWordThen text q ys → (r ≡ q) × (xs ≡ ys)
same_word text r q xs ys one other =
    let a = run_word q ++ ys in
    let first = vcpu_first text a q ys other.text_is other in
    let h = count_then text a (42 ∷ (decimal q.count ++ ys)) (decimal q.count ++ ys) q.vcpu r xs other.text_is first refl one in
    let s = same_number (decimal q.count ++ ys) r.count q.count xs ys h.1 (record { text_is = refl; fits = other.is_run.count_fits; stops = other.stops }) in
    let e : r.vcpu ≡ q.vcpu = h.0 in
    let f : r.count ≡ q.count = s.0 in
    (ap (λ v. record { vcpu = v; count = r.count }) e ∙ ap (λ n. record { vcpu = q.vcpu; count = n }) f, s.1)
