-- Laws of a schedule that is read word by word.
use Rattle.std.proofs.Common.{◌≡◌, ◌≢◌, ℕ, List, [], ◌∷◌, ◌++◌, Option, Some, None, ◌⊎◌, inl, inr, refl, sym, ap, ◌∙◌, subst, append-nil, append_assoc, arith}
use Rattle.argo_model.specs.declared.closing.Run.{Run}
use Rattle.argo_model.specs.Runs.Report.{run_word}
use Rattle.report_read.specs.Schedule.{IsRun, IsOther, IsScheduleBehind, IsSchedule}
use Rattle.report_read.specs.Numbers.{NoDigitNext}
use Rattle.report_read.specs.Words.{IsWordThen, HasNoWord, words_of, IsScheduleThen, HasNoSchedule, IsOnlySchedule}
use Rattle.report_read.proofs.WordLaws.{same_word}

-- the section of the last run
abbrev pub section_behind : Option ℕ → List Run → Option ℕ
section_behind before [] = before
section_behind before (r ∷ rs) = section_behind (Some r.vcpu) rs

-- so many runs were read of a text
pub record IsReadTo (text rest : List ℕ) (runs : List Run) (last : Option ℕ) : Type 0 where
  pub text_is : text ≡ words_of runs ++ rest
  pub lawful : IsSchedule runs
  pub last_is : last ≡ section_behind None runs
  pub others : (rs : List Run) (end : List ℕ) → IsScheduleThen text rs end → (more : List Run) × (rs ≡ runs ++ more) × (rest ≡ words_of more ++ 10 ∷ end)

pub begins : (text : List ℕ) → IsReadTo text text [] None
begins text = record {
  text_is = refl;
  lawful = tt;
  last_is = refl;
  others = λ rs end h. (rs, refl, h.text_is);
}

words_of-push : (rs : List Run) (r : Run) (after : List ℕ) → words_of (rs ++ r ∷ []) ++ after ≡ words_of rs ++ (32 ∷ (run_word r ++ after))
words_of-push [] r after = ap (λ t. t ++ after) (append-nil (32 ∷ run_word r))
words_of-push (x ∷ xs) r after =
    append_assoc (32 ∷ run_word x) (words_of (xs ++ r ∷ [])) after ∙ ap (λ t. (32 ∷ run_word x) ++ t) (words_of-push xs r after)
    ∙ sym (append_assoc (32 ∷ run_word x) (words_of xs) (32 ∷ (run_word r ++ after)))

schedule-push : (before : Option ℕ) (rs : List Run) (r : Run) → IsScheduleBehind before rs → IsRun r → IsOther (section_behind before rs) r.vcpu → IsScheduleBehind before (rs ++ r ∷ [])
schedule-push before [] r lawful is other = (is, other, tt)
schedule-push before (x ∷ xs) r lawful is other = (lawful.0, lawful.1, schedule-push (Some x.vcpu) xs r lawful.2 is other)

schedule-at : (before : Option ℕ) (rs : List Run) (r : Run) (more : List Run) → IsScheduleBehind before (rs ++ r ∷ more) → IsRun r × IsOther (section_behind before rs) r.vcpu
schedule-at before [] r more lawful = (lawful.0, lawful.1)
schedule-at before (x ∷ xs) r more lawful = schedule-at (Some x.vcpu) xs r more lawful.2

section-push : (before : Option ℕ) (rs : List Run) (r : Run) → section_behind before (rs ++ r ∷ []) ≡ Some r.vcpu
section-push before [] r = refl
section-push before (x ∷ xs) r = section-push (Some x.vcpu) xs r

words_stop : (rs : List Run) (end : List ℕ) → NoDigitNext (words_of rs ++ 10 ∷ end)
words_stop [] end = λ h. absurd (omega (arith, h))
words_stop (r ∷ rs) end = λ h. absurd (omega (arith, h))

-- how a text that names a schedule goes on behind the runs so far
data GoesOn (rest : List ℕ) (runs rs : List Run) (end : List ℕ) (last : Option ℕ) : Type 0 where
  ends : rs ≡ runs → rest ≡ 10 ∷ end → GoesOn rest runs rs end last
  word : (r : Run) (more : List Run) → IsWordThen rest r (words_of more ++ 10 ∷ end) → rs ≡ runs ++ r ∷ more → IsOther last r.vcpu → GoesOn rest runs rs end last

goes_on-by : (text rest : List ℕ) (runs rs more : List Run) (end : List ℕ) (last : Option ℕ) → IsReadTo text rest runs last → IsSchedule rs
    → rs ≡ runs ++ more → rest ≡ words_of more ++ 10 ∷ end → GoesOn rest runs rs end last
goes_on-by text rest runs rs [] end last read lawful is here = ends (is ∙ append-nil runs) here
goes_on-by text rest runs rs (r ∷ more) end last read lawful is here =
    let P : List Run → Type 0 = λ xs. IsSchedule xs in
    let h = schedule-at None runs r more (subst P is lawful) in
    let Q : Option ℕ → Type 0 = λ o. IsOther o r.vcpu in
    word r more
    (record {
      text_is = here ∙ append_assoc (32 ∷ run_word r) (words_of more) (10 ∷ end);
      is_run = h.0;
      stops = words_stop more end;
    })
    is (subst Q (sym read.last_is) h.1)

goes_on : (text rest : List ℕ) (runs rs : List Run) (end : List ℕ) (last : Option ℕ) → IsReadTo text rest runs last → IsScheduleThen text rs end → GoesOn rest runs rs end last
goes_on text rest runs rs end last read h =
    let o = read.others rs end h in
    goes_on-by text rest runs rs o.0 end last read h.lawful o.1 o.2

other_from : (last : Option ℕ) (v : ℕ) → last ≢ Some v → IsOther last v
other_from None v differ = tt
other_from (Some u) v differ = λ e. differ (ap Some e)

not_feed : (rest xs ys : List ℕ) → rest ≡ 32 ∷ xs → rest ≡ 10 ∷ ys → ⊥
not_feed rest xs ys one other =
    let e : 32 ∷ xs ≡ 10 ∷ ys = sym one ∙ other in
    let f : ◌≡◌ {A = ℕ} 32 10 = cc in
    absurd (omega (arith, f))

-- one word more
module _ (text rest : List ℕ) (runs : List Run) (last : Option ℕ) (read : IsReadTo text rest runs last) where
  followed : (r : Run) (after : List ℕ) → IsWordThen rest r after → (rs : List Run) (end : List ℕ) → GoesOn rest runs rs end last
      → (more : List Run) × (rs ≡ (runs ++ r ∷ []) ++ more) × (after ≡ words_of more ++ 10 ∷ end)
  followed r after is rs end (ends same here) = absurd (not_feed rest (run_word r ++ after) end is.text_is here)
  followed r after is rs end (word q more here same other) =
      let s = same_word rest q r (words_of more ++ 10 ∷ end) after here is in
      (more, same ∙ ap (λ x. runs ++ x ∷ more) s.0 ∙ sym (append_assoc runs (r ∷ []) more), sym s.1)

  pub reads_on : (r : Run) (after : List ℕ) → IsWordThen rest r after → last ≢ Some r.vcpu → IsReadTo text after (runs ++ r ∷ []) (Some r.vcpu)
  reads_on r after is differ =
      let Q : Option ℕ → Type 0 = λ o. IsOther o r.vcpu in
      record {
        text_is = read.text_is ∙ ap (λ t. words_of runs ++ t) is.text_is ∙ sym (words_of-push runs r after);
        lawful = schedule-push None runs r read.lawful is.is_run (subst Q read.last_is (other_from last r.vcpu differ));
        last_is = sym (section-push None runs r);
        others = λ rs end h. followed r after is rs end (goes_on text rest runs rs end last read h);
      }

  repeats-in : (r : Run) (after : List ℕ) → IsWordThen rest r after → last ≡ Some r.vcpu → (rs : List Run) (end : List ℕ) → GoesOn rest runs rs end last → ⊥
  repeats-in r after is same rs end (ends at here) = not_feed rest (run_word r ++ after) end is.text_is here
  repeats-in r after is same rs end (word q more here at other) =
      let s = same_word rest q r (words_of more ++ 10 ∷ end) after here is in
      let Q : Option ℕ → Type 0 = λ o. IsOther o q.vcpu in
      let e : q.vcpu ≡ r.vcpu = ap (λ x. x.vcpu) s.0 in
      (subst Q same other) (sym e)

  -- a run of the section of the run before it
  pub repeats : (r : Run) (after : List ℕ) → IsWordThen rest r after → last ≡ Some r.vcpu → HasNoSchedule text
  repeats r after is same = λ rs end h. repeats-in r after is same rs end (goes_on text rest runs rs end last read h)

  only-in : HasNoWord rest → (rs : List Run) (end : List ℕ) → GoesOn rest runs rs end last → (rs ≡ runs) × (rest ≡ 10 ∷ end)
  only-in none rs end (ends same here) = (same, here)
  only-in none rs end (word q more here at other) = absurd (none q (words_of more ++ 10 ∷ end) here)

  -- no word more, and the line ends
  pub ends_here : (end : List ℕ) → HasNoWord rest → rest ≡ 10 ∷ end → IsOnlySchedule text runs
  ends_here end none here = record {
    rest = end;
    is = record { text_is = read.text_is ∙ ap (λ t. words_of runs ++ t) here; lawful = read.lawful };
    only = λ rs other h. (only-in none rs other (goes_on text rest runs rs other last read h)).0;
  }

  -- or it does not
  pub no_end : HasNoWord rest → ((end : List ℕ) → rest ≢ 10 ∷ end) → HasNoSchedule text
  no_end none further = λ rs end h. further end (only-in none rs end (goes_on text rest runs rs end last read h)).1
