-- Laws of texts that are compared byte by byte.
use Rattle.std.proofs.Common.{false, ◌≡◌, ◌≢◌, ℕ, zero, suc, ◌+◌, ◌<◌, ◌≤◌, List, [], ◌∷◌, ◌++◌, length, take, drop, slice_get, get_or, Option, Some, None, refl, sym, ap, ◌∙◌, subst, arith, append_assoc, count_by, unwrap_or, MatchOption}
use Rattle.std.specs.Option.{is_some, ForSome, ForNone}
use Rattle.std.proofs.lemmas.Bool.{false≢true}
use Rattle.std.proofs.lemmas.Option.{slice_get-get_or, slice_get_past}
use Rattle.argo_outside.specs.Sink.{appended, CutShort}
use Rattle.argo_check.specs.Comparing.{taken_of, told_of, IsWhole, IsOffIn}
use Rattle.argo_check.specs.Differences.{is_line_feed, DifferFirstIn}
use Rattle.std.proofs.Math.Seq.{take-add}
use Rattle.std.proofs.lemmas.List.{take_more, take_all, take_at, drop_at, length-take-le, append-nil, take-append-drop}

-- the bytes behind a part are those behind its end
pub get-behind : {A : Type 0} (xs : List A) (i k : ℕ) → slice_get (drop i xs) k ≡ slice_get xs (i + k)
get-behind [] zero k = refl
get-behind [] (suc i) k = refl
get-behind (x ∷ xs) zero k = ap (slice_get (x ∷ xs)) (omega arith)
get-behind (x ∷ xs) (suc i) k =
    let e : suc (i + k) ≡ suc i + k = omega arith in
    get-behind xs i k ∙ ap (slice_get (x ∷ xs)) e

-- a piece that goes on as the report does
pub took_more : (report piece : List ℕ) (same count : ℕ) → take count (drop same report) ≡ take count piece
    → take (same + count) report ≡ take same report ++ take count piece
took_more report piece same count e = take-add same count report ∙ ap (λ xs. take same report ++ xs) e

-- and then otherwise
pub took_other : (report piece : List ℕ) (same count d : ℕ) → take count (drop same report) ≡ take count piece → count < length piece
    → take (same + count) report ++ get_or piece count d ∷ [] ≡ take same report ++ take (count + 1) piece
took_other report piece same count d e inside =
    ap (λ xs. xs ++ get_or piece count d ∷ []) (took_more report piece same count e) ∙ append_assoc (take same report) (take count piece) (get_or piece count d ∷ [])
    ∙ ap (λ xs. take same report ++ xs) (sym (take_more piece count d inside))

-- a comparer tells of what it took
told_as : (report taken more piece : List ℕ) → more ≡ taken ++ piece
    → Some (length report ∷ (report ++ more)) ≡ Some ((length report ∷ (report ++ taken)) ++ piece)
told_as report taken more piece e = ap (λ xs. Some (length report ∷ xs)) (ap (λ xs. report ++ xs) e ∙ sym (append_assoc report taken piece))

-- after a piece that is all the report's
pub told_more : (report piece rest : List ℕ) (same count : ℕ) (other : Option ℕ) → false ≡ is_some other → rest ≡ drop same report → take count rest ≡ take count piece
    → Some (told_of report (same + count) other) ≡ Some (told_of report same other ++ take count piece)
told_more report piece rest same count None none is e =
    told_as report (take same report) (take (same + count) report) (take count piece) (took_more report piece same count (ap (take count) (sym is) ∙ e))
told_more report piece rest same count (Some b) none is e = absurd (false≢true none)

-- and after one with another byte
pub told_other : (report piece rest : List ℕ) (same count d : ℕ) (other : Option ℕ) → false ≡ is_some other → rest ≡ drop same report → take count rest ≡ take count piece
    → count < length piece → Some (told_of report (same + count) (Some (get_or piece count d))) ≡ Some (told_of report same other ++ take (count + 1) piece)
told_other report piece rest same count d None none is e inside =
    told_as report (take same report) (take (same + count) report ++ get_or piece count d ∷ []) (take (count + 1) piece)
    (took_other report piece same count d (ap (take count) (sym is) ∙ e) inside)
told_other report piece rest same count d (Some b) none is e inside = absurd (false≢true none)

-- the other byte is not the report's
pub other_differs : (report piece rest : List ℕ) (same count d : ℕ) → rest ≡ drop same report → count < length piece
    → ((byte : ℕ) → slice_get piece count ≡ Some byte → slice_get rest count ≢ Some byte) → slice_get report (same + count) ≢ Some (get_or piece count d)
other_differs report piece rest same count d is inside stops here =
    stops (get_or piece count d) (slice_get-get_or piece count d inside) (ap (λ xs. slice_get xs count) is ∙ get-behind report same count ∙ here)

get-at : {A : Type 0} (xs : List A) (b : A) (rest : List A) (k : ℕ) → length xs ≡ k → slice_get (xs ++ b ∷ rest) k ≡ Some b
get-at [] b rest zero here = refl
get-at [] b rest (suc k) here = absurd (omega (arith, here))
get-at (x ∷ xs) b rest zero here = absurd (omega (arith, here))
get-at (x ∷ xs) b rest (suc k) here = get-at xs b rest k (omega (arith, here))

module _ (report due : List ℕ) (same line : ℕ) (within : same ≤ length report) (line_is : line ≡ count_by is_line_feed (take same report) + 1) where
  -- the right report goes on with another byte
  other_byte : (b : ℕ) (rest : List ℕ) → slice_get report same ≢ Some b → due ≡ (take same report ++ b ∷ []) ++ rest → DifferFirstIn report due line
  other_byte b rest differs is =
      let n = length-take-le same report within in
      let e : due ≡ take same report ++ b ∷ rest = is ∙ append_assoc (take same report) (b ∷ []) rest in
      record {
        place = same;
        same = sym (ap (take same) e ∙ take_at (take same report) (b ∷ rest) same n);
        differ = λ alike. differs (alike ∙ ap (λ xs. slice_get xs same) e ∙ get-at (take same report) b rest same n);
        line_is = line_is;
      }

  -- the right report ends before the report
  ends_early : same < length report → due ≡ take same report → DifferFirstIn report due line
  ends_early more is =
      let n = length-take-le same report within in
      let m = ap length is in
      record {
        place = same;
        same = sym (ap (take same) is ∙ take_all same (take same report) (omega (arith, n)));
        differ = λ alike.
            let here = slice_get-get_or report same 0 more in
            let past = slice_get_past due same (omega (arith, n, m)) in
            let none : Some (get_or report same 0) ≡ None = sym here ∙ alike ∙ past in
            cc;
        line_is = line_is;
      }

  -- all of it was taken
  pub off_whole : (other : Option ℕ) → (other ≡ None → same < length report) → ForSome other (λ b. slice_get report same ≢ Some b) → taken_of report same other ≡ due
      → DifferFirstIn report due line
  off_whole None part differs all = ends_early (part refl) (sym all)
  off_whole (Some b) part differs all = other_byte b [] (differs b refl) (sym all ∙ sym (append-nil (take same report ++ b ∷ [])))

  -- a part of it was taken, and then a fault was counted
  pub off_cut : (other : Option ℕ) (faults count : ℕ) → ForSome other (λ b. slice_get report same ≢ Some b) → ForNone other (faults ≡ 0) → 1 ≤ faults
      → taken_of report same other ≡ take count due → DifferFirstIn report due line
  off_cut None faults count differs stuck rose part = let none = stuck refl in absurd (omega (arith, none, rose))
  off_cut (Some b) faults count differs stuck rose part =
      other_byte b (drop count due) (differs b refl) (sym (take-append-drop count due) ∙ ap (λ xs. xs ++ drop count due) (sym part))

-- the report was taken whole, and the right report is that
pub whole_same : (report due : List ℕ) (same : ℕ) (other : Option ℕ) → (other ≡ None) × (same ≡ length report) → taken_of report same other ≡ due → report ≡ due
whole_same report due same None whole all = sym (take_all same report (omega (arith, whole.1))) ∙ all
whole_same report due same (Some b) whole all = let none = whole.0 in cc

-- a comparer that counted a fault has taken another byte
pub not_whole : (same n : ℕ) (other : Option ℕ) (faults : ℕ) → ForNone other (faults ≡ 0) → 1 ≤ faults → (other ≡ None) × (same ≡ n) → ⊥
not_whole same n None faults stuck rose whole = let none = stuck refl in omega (arith, none, rose)
not_whole same n (Some b) faults stuck rose whole = let none = whole.0 in cc

-- what two comparers tell is the same only where their reports are
pub same_told : (report other taken more : List ℕ) → length report ∷ (report ++ taken) ≡ length other ∷ (other ++ more) → (report ≡ other) × (taken ≡ more)
same_told report other taken more e =
    let n : length report ≡ length other = cc in
    let t : report ++ taken ≡ other ++ more = cc in (
      sym (take_at report taken (length report) refl) ∙ ap (take (length report)) t ∙ take_at other more (length report) (sym n),
      sym (drop_at report taken (length report) refl) ∙ ap (drop (length report)) t ∙ drop_at other more (length report) (sym n),
    )

-- the report of a comparer that was handed out, and what it took
pub took_whole : (report new due : List ℕ) (same : ℕ) (other : Option ℕ)
    → Some (told_of new same other) ≡ appended (Some (told_of report 0 None)) due → (new ≡ report) × (taken_of new same other ≡ due)
took_whole report new due same other told =
    same_told new report (taken_of new same other) due
    (ap (λ o. unwrap_or o []) told ∙ ap (λ xs. length report ∷ xs) (append_assoc report [] due))

pub took_part : (report new due : List ℕ) (same : ℕ) (other : Option ℕ) (cut : CutShort (Some (told_of report 0 None)) (Some (told_of new same other)) due)
    → (new ≡ report) × (taken_of new same other ≡ take cut.count due)
took_part report new due same other cut = took_whole report new (take cut.count due) same other cut.part

whole_in : (report due : List ℕ) (same : ℕ) (other r : Option ℕ) → same ≤ length report → ForSome other (λ b. slice_get report same ≢ Some b) → taken_of report same other ≡ due
    → MatchOption r (IsWhole report same other) (λ line. IsOffIn line report same other) → MatchOption r (report ≡ due) (λ line. DifferFirstIn report due line)
whole_in report due same other None within differs all judged = whole_same report due same other judged all
whole_in report due same other (Some line) within differs all judged = off_whole report due same line within judged.line_is other judged.part differs all

cut_in : (report due : List ℕ) (same faults count : ℕ) (other r : Option ℕ) → same ≤ length report → ForSome other (λ b. slice_get report same ≢ Some b) → ForNone other (faults ≡ 0)
    → 1 ≤ faults → taken_of report same other ≡ take count due
    → MatchOption r (IsWhole report same other) (λ line. IsOffIn line report same other) → MatchOption r (report ≡ due) (λ line. DifferFirstIn report due line)
cut_in report due same faults count other None within differs stuck rose part judged = absurd (not_whole same (length report) other faults stuck rose judged)
cut_in report due same faults count other (Some line) within differs stuck rose part judged =
    off_cut report due same line within judged.line_is other faults count differs stuck rose part

-- the first difference, where the right report was written whole
pub whole_judged : (report new due old : List ℕ) (same same0 : ℕ) (other other0 : Option ℕ) (r : Option ℕ) → old ≡ report → same0 ≡ 0 → other0 ≡ None
    → Some (told_of new same other) ≡ appended (Some (told_of old same0 other0)) due
    → same ≤ length new → ForSome other (λ b. slice_get new same ≢ Some b)
    → MatchOption r (IsWhole new same other) (λ line. IsOffIn line new same other) → MatchOption r (report ≡ due) (λ line. DifferFirstIn report due line)
whole_judged report new due old same same0 other other0 r is start none told within differs judged =
    let e : told_of old same0 other0 ≡ told_of report 0 None = cc in
    let h = took_whole report new due same other (told ∙ ap (λ xs. appended (Some xs) due) e) in
    let P : List ℕ → Type 0 = λ xs. MatchOption r (xs ≡ due) (λ line. DifferFirstIn xs due line) in
    subst P h.0 (whole_in new due same other r within differs h.1 judged)

-- and where it was cut short by a fault
pub cut_judged : (report new due old : List ℕ) (same same0 faults : ℕ) (other other0 : Option ℕ) (r : Option ℕ) → old ≡ report → same0 ≡ 0 → other0 ≡ None
    → CutShort (Some (told_of old same0 other0)) (Some (told_of new same other)) due
    → same ≤ length new → ForSome other (λ b. slice_get new same ≢ Some b) → ForNone other (faults ≡ 0) → 1 ≤ faults
    → MatchOption r (IsWhole new same other) (λ line. IsOffIn line new same other) → MatchOption r (report ≡ due) (λ line. DifferFirstIn report due line)
cut_judged report new due old same same0 faults other other0 r is start none cut within differs stuck rose judged =
    let e : told_of old same0 other0 ≡ told_of report 0 None = cc in
    let Q : List ℕ → Type 0 = λ xs. CutShort (Some xs) (Some (told_of new same other)) due in
    let c = subst Q e cut in
    let h = took_part report new due same other c in
    let P : List ℕ → Type 0 = λ xs. MatchOption r (xs ≡ due) (λ line. DifferFirstIn xs due line) in
    subst P h.0 (cut_in new due same faults c.count other r within differs stuck rose h.1 judged)
