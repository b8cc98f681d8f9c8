-- Laws of the virtual CPUs that a machine keeps: each stands at its place in the run.
use Rattle.std.proofs.Common.{◌≡◌, ◌↔◌, get_or, ℕ, zero, suc, ◌+◌, ◌<◌, ◌≤◌, Bool, true, false, List, [], ◌∷◌, length, set, IsTrue, map, Some, None, slice_get, refl, sym, ap, ◌∙◌, subst, arith, ⊎_elim}
use Rattle.std.proofs.lemmas.Bool.{cases_lt}
use Rattle.std.proofs.lemmas.Bool.{false≢true}
use Rattle.std.proofs.lemmas.List.{length-drop, drop_all}
use Rattle.std.proofs.lemmas.Option.{slice_get_past}
use Rattle.std.proofs.lemmas.List.Sums.{sum_by-cons}
use Rattle.std.specs.Option.{option_map}
use Rattle.argo_model.specs.declared.line.Line.{Line}
use Rattle.argo_model.specs.Runs.Run.{Progress, has_lines, is_unfinished}
use Rattle.vcpu_machine.specs.Vcpu.{VcpuAt, StandsAt, GoesOn, lines_left, left_of}
use Rattle.argo_machine.specs.Kept.{AllStand, sections_of, actor_of, all_left}

-- the section of a virtual CPU stands at its place
pub stands_at : (xs : List VcpuAt) (ps : List Progress) (v : ℕ) (x : VcpuAt) → AllStand xs ps → slice_get xs v ≡ Some x
    → (p : Progress) × (slice_get ps v ≡ Some p) × StandsAt x p
stands_at [] [] v x all here = cc
stands_at [] (p ∷ ps) v x all here = absurd all
stands_at (y ∷ xs) [] v x all here = absurd all
stands_at (y ∷ xs) (p ∷ ps) zero x all here =
    let same : y ≡ x = cc in
    let P : VcpuAt → Type 0 = λ z. StandsAt z p in
    (p, refl, subst P same all.0)
stands_at (y ∷ xs) (p ∷ ps) (suc v) x all here = stands_at xs ps v x all.1 here

pub all_stand-set : (xs : List VcpuAt) (ps : List Progress) (v : ℕ) (x : VcpuAt) (p : Progress) → AllStand xs ps → StandsAt x p → AllStand (set xs v x) (set ps v p)
all_stand-set [] [] v x p all stands = tt
all_stand-set [] (q ∷ ps) v x p all stands = absurd all
all_stand-set (y ∷ xs) [] v x p all stands = absurd all
all_stand-set (y ∷ xs) (q ∷ ps) zero x p all stands = (stands, all.1)
all_stand-set (y ∷ xs) (q ∷ ps) (suc v) x p all stands = (all.0, all_stand-set xs ps v x p all.1 stands)

pub all_stand-length : (xs : List VcpuAt) (ps : List Progress) → AllStand xs ps → length xs ≡ length ps
all_stand-length [] [] all = refl
all_stand-length [] (p ∷ ps) all = absurd all
all_stand-length (x ∷ xs) [] all = absurd all
all_stand-length (x ∷ xs) (p ∷ ps) all = let n = all_stand-length xs ps all.1 in omega arith

-- one that is set anew with the same part leaves the sections, and so the actors
pub sections-set : (xs : List VcpuAt) (v : ℕ) (x new : VcpuAt) → slice_get xs v ≡ Some x → new.part ≡ x.part → sections_of (set xs v new) ≡ sections_of xs
sections-set [] v x new here same = refl
sections-set (y ∷ xs) zero x new here same =
    let e : x ≡ y = cc in
    ap (λ z. z ∷ sections_of xs) (same ∙ ap (λ z. z.part) e)
sections-set (y ∷ xs) (suc v) x new here same = ap (λ zs. y.part ∷ zs) (sections-set xs v x new here same)

pub actors-set : (xs : List VcpuAt) (v : ℕ) (x new : VcpuAt) → slice_get xs v ≡ Some x → new.part ≡ x.part → map actor_of (set xs v new) ≡ map actor_of xs
actors-set [] v x new here same = refl
actors-set (y ∷ xs) zero x new here same =
    let e : x ≡ y = cc in
    ap (λ z. z ∷ map actor_of xs) (ap (λ s. s.actor) (same ∙ ap (λ z. z.part) e))
actors-set (y ∷ xs) (suc v) x new here same = ap (λ zs. actor_of y ∷ zs) (actors-set xs v x new here same)

-- how the sum of the steps to come changes
pub left-set : (xs : List VcpuAt) (v : ℕ) (x new : VcpuAt) → slice_get xs v ≡ Some x → all_left (set xs v new) + left_of x ≡ all_left xs + left_of new
left-set [] v x new here = cc
left-set (y ∷ xs) zero x new here =
    let e : x ≡ y = cc in
    let l : left_of x ≡ left_of y = ap left_of e in
    rw (sum_by-cons, sum_by-cons) (omega arith)
left-set (y ∷ xs) (suc v) x new here =
    let h = left-set xs v x new here in
    rw (sum_by-cons, sum_by-cons) (omega arith)

pub left-less : (xs : List VcpuAt) (v : ℕ) (x new : VcpuAt) → slice_get xs v ≡ Some x → left_of new < left_of x → all_left (set xs v new) < all_left xs
left-less xs v x new here less = let h = left-set xs v x new here in omega arith

pub some_inside : {A : Type 0} (xs : List A) (i : ℕ) (x : A) → slice_get xs i ≡ Some x → i < length xs
some_inside [] i x here = cc
some_inside (y ∷ ys) zero x here = omega arith
some_inside (y ∷ ys) (suc i) x here = let h = some_inside ys i x here in omega arith

pub slice_get-read : {A : Type 0} (xs : List A) (i : ℕ) (x : A) → i < length xs → x ≡ get_or xs i x → slice_get xs i ≡ Some x
slice_get-read [] i x inside here = absurd (omega arith)
slice_get-read (z ∷ zs) zero x inside here = ap (λ y. Some y) (sym here)
slice_get-read (z ∷ zs) (suc i) x inside here = slice_get-read zs i x (omega arith) here

set-own : {A : Type 0} (xs : List A) (v : ℕ) (x : A) → slice_get xs v ≡ Some x → set xs v x ≡ xs
set-own [] v x here = refl
set-own (y ∷ ys) zero x here = let e : y ≡ x = cc in ap (λ z. z ∷ ys) (sym e)
set-own (y ∷ ys) (suc v) x here = ap (λ zs. y ∷ zs) (set-own ys v x here)

pub all_stand-same : (xs : List VcpuAt) (ps : List Progress) (v : ℕ) (x new : VcpuAt) → AllStand xs ps → slice_get xs v ≡ Some x → GoesOn x new → AllStand (set xs v new) ps
all_stand-same xs ps v x new all here same =
    let st = stands_at xs ps v x all here in
    let P : List Progress → Type 0 = λ qs. AllStand (set xs v new) qs in
    subst P (set-own ps v st.0 st.1) (all_stand-set xs ps v new st.0 all (same.stands st.0 st.2))

pub left-same : (xs : List VcpuAt) (v : ℕ) (x new : VcpuAt) → slice_get xs v ≡ Some x → left_of new ≡ left_of x → all_left (set xs v new) ≡ all_left xs
left-same xs v x new here same = let h = left-set xs v x new here in omega arith

pub slice_get-map : {A B : Type 0} (xs : List A) (f : A → B) (i : ℕ) → slice_get (map f xs) i ≡ option_map f (slice_get xs i)
slice_get-map [] f i = refl
slice_get-map (x ∷ xs) f zero = refl
slice_get-map (x ∷ xs) f (suc i) = slice_get-map xs f i

-- a section has a line left exactly where not all of its lines are done
some_left : (ls : List Line) → 0 < length ls → has_lines ls ≡ true
some_left [] some = absurd (omega arith)
some_left (l ∷ ls) some = refl

left_some : (ls : List Line) → IsTrue (has_lines ls) → 0 < length ls
left_some [] some = absurd (false≢true some)
left_some (l ∷ ls) some = omega arith

more_left : (x : VcpuAt) → IsTrue (has_lines (lines_left x)) → x.done < length x.part.lines
more_left x some = let h = left_some (lines_left x) some in let n = length-drop x.done x.part.lines in omega arith

no_more_left : (x : VcpuAt) → length x.part.lines ≤ x.done → has_lines (lines_left x) ≡ false
no_more_left x none = ap has_lines (drop_all x.done x.part.lines none)

unfinished_at : (xs : List VcpuAt) (ps : List Progress) (v : ℕ) (x : VcpuAt) → AllStand xs ps → slice_get xs v ≡ Some x → is_unfinished (slice_get ps v) ≡ has_lines (lines_left x)
unfinished_at xs ps v x all here =
    let st = stands_at xs ps v x all here in
    ap is_unfinished st.1 ∙ ap has_lines st.2.left

-- the virtual CPU of a section that has a line left
pub record OpenAt (xs : List VcpuAt) (v : ℕ) : Type 0 where
  pub vcpu : VcpuAt
  pub here : slice_get xs v ≡ Some vcpu
  pub more : vcpu.done < length vcpu.part.lines

pub open_at : (xs : List VcpuAt) (ps : List Progress) (v : ℕ) → AllStand xs ps → IsTrue (is_unfinished (slice_get ps v)) → OpenAt xs v
open_at [] [] v all some = absurd (false≢true some)
open_at [] (p ∷ ps) v all some = absurd all
open_at (x ∷ xs) [] v all some = absurd all
open_at (x ∷ xs) (p ∷ ps) zero all some = record { vcpu = x; here = refl; more = more_left x (sym (ap has_lines all.0.left) ∙ some) }
open_at (x ∷ xs) (p ∷ ps) (suc v) all some =
    let h = open_at xs ps v all.1 some in
    record { vcpu = h.vcpu; here = h.here; more = h.more }

-- a number that is no section's
pub none_open : (xs : List VcpuAt) (ps : List Progress) (v : ℕ) → AllStand xs ps → length xs ≤ v → is_unfinished (slice_get ps v) ≡ false
none_open [] [] v all none = refl
none_open [] (p ∷ ps) v all none = absurd all
none_open (x ∷ xs) [] v all none = absurd all
none_open (x ∷ xs) (p ∷ ps) zero all none = absurd (omega arith)
none_open (x ∷ xs) (p ∷ ps) (suc v) all none = none_open xs ps v all.1 (omega arith)

-- how many lines of a section are done
pub done_in : (xs : List VcpuAt) (ps : List Progress) (v : ℕ) (x : VcpuAt) → AllStand xs ps → v < length xs → x ≡ get_or xs v x
    → Some x.done ≡ option_map (λ p. p.done) (slice_get ps v)
done_in xs ps v x all inside read =
    let st = stands_at xs ps v x all (slice_get-read xs v x inside read) in
    sym (ap (option_map (λ p. p.done)) st.1 ∙ ap (λ n. Some n) st.2.done)

pub done_past : (xs : List VcpuAt) (ps : List Progress) (v : ℕ) → AllStand xs ps → length xs ≤ v → None ≡ option_map (λ p. p.done) (slice_get ps v)
done_past xs ps v all past =
    let n = all_stand-length xs ps all in
    sym (ap (option_map (λ p. p.done)) (slice_get_past ps v (omega (arith, n, past))))

not_less : (x : VcpuAt) → has_lines (lines_left x) ≡ false → length x.part.lines ≤ x.done
not_less x none = ⊎_elim (λ less. let n = length-drop x.done x.part.lines in absurd (false≢true (sym none ∙ some_left (lines_left x) (omega arith)))) (λ done. done) (cases_lt x.done (length x.part.lines))

-- whether all lines of a virtual CPU are done tells whether its section is finished
pub finished_iff : (xs : List VcpuAt) (ps : List Progress) (v : ℕ) (x : VcpuAt) (r : Bool) → AllStand xs ps → v < length xs → x ≡ get_or xs v x
    → (IsTrue r ↔ (length x.part.lines ≤ x.done)) → IsTrue r ↔ (is_unfinished (slice_get ps v) ≡ false)
finished_iff xs ps v x r all inside read iff =
    let here = slice_get-read xs v x inside read in
    let at = unfinished_at xs ps v x all here in
    (λ done. at ∙ no_more_left x (iff.0 done), λ none. iff.1 (not_less x (sym at ∙ none)))

pub map-actors : (xs : List VcpuAt) → map (λ s. s.actor) (sections_of xs) ≡ map actor_of xs
map-actors [] = refl
map-actors (x ∷ xs) = ap (λ ys. x.part.actor ∷ ys) (map-actors xs)
