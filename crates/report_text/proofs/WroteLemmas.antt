-- What writes of texts leave, one after another.
use Rattle.std.proofs.Common.{◌≡◌, ℕ, ◌+◌, ◌<◌, ◌≤◌, List, [], ◌∷◌, ◌++◌, length, take, drop, get_or, Option, Result, Ok, Err, refl, sym, ap, ◌∙◌, subst, take-append-drop, zero-add, arith}
use Rattle.std.specs.List.{flat_map, enumerate_from}
use Rattle.std.proofs.lemmas.List.{take_more, take_all, append-nil, get_or_default}
use Rattle.std.proofs.lemmas.List.FromFn.{get_or-enumerate_from}
use Rattle.std.proofs.lemmas.List.Concat.{flat_map-append}
use Rattle.argo_outside.specs.Faults.{Rose}
use Rattle.argo_outside.specs.Sink.{appended}
use Rattle.argo_outside.proofs.OutsideLemmas.{appended_again, appended-nil, CutShort-before, CutShort-after}
use Rattle.report_text.specs.declared.fault.WriteFault.{WriteFault}
use Rattle.report_text.specs.Wrote.{Wrote}

Rose-after : (a b c : ℕ) → a ≤ b → Rose b c → Rose a c
Rose-after a b c more rose = omega arith

-- the texts of the first elements, and of one more
flat_map-take_more : {X : Type 0} (f : X → List ℕ) (xs : List X) (i : ℕ) (x : X) → i < length xs → x ≡ get_or xs i x → flat_map f (take (i + 1) xs) ≡ flat_map f (take i xs) ++ f x
flat_map-take_more f xs i x below item =
    ap (flat_map f) (take_more xs i x below) ∙ flat_map-append f (take i xs) (get_or xs i x ∷ [])
    ∙ ap (λ text. flat_map f (take i xs) ++ text) (append-nil (f (get_or xs i x)) ∙ ap f (sym item))

-- an element and its place
pub enumerate_from-item : {X : Type 0} (xs : List X) (i : ℕ) (d : X) → i < length xs → (i, get_or xs i d) ≡ get_or (enumerate_from 0 xs) i (i, get_or xs i d)
enumerate_from-item xs i d below =
    let e = get_or-enumerate_from 0 xs i (i, get_or xs i d) below in
    ap (λ n. (n, get_or xs i d)) (sym (zero-add i)) ∙ ap (λ x. (0 + i, x)) (get_or_default xs i d (get_or xs i d) below) ∙ sym e

-- nothing is written of an empty text
pub Wrote-nothing : {K : Type 0} {written : K → Option (List ℕ)} {faults : K → ℕ} (s : K) → Wrote written faults s s [] (Ok tt)
Wrote-nothing {written = written} s = record {
  count = omega arith;
  whole = sym (appended-nil (written s));
  cut_short = tt;
  failed = λ e. cc;
}

module _ {K : Type 0} {written : K → Option (List ℕ)} {faults : K → ℕ} {s t u : K} {a b : List ℕ} (first : Wrote written faults s t a (Ok tt)) where
  -- one text after another
  pub Wrote-then : {r : Result (Unit {0}) WriteFault} → Wrote written faults t u b r → Wrote written faults s u (a ++ b) r
  Wrote-then {r = Ok tt} second = record {
    count = omega (arith, first.count, second.count);
    whole = second.whole ∙ ap (λ w. appended w b) first.whole ∙ appended_again (written s) a b;
    cut_short = tt;
    failed = λ e. cc;
  }
  Wrote-then {r = Err e} second = record {
    count = omega (arith, first.count, second.count);
    whole = tt;
    cut_short = CutShort-after (written s) (written t) (written u) a b first.whole second.cut_short;
    failed = λ is. Rose-after _ _ _ first.count (second.failed is);
  }

-- the fault of a call is handed on
Wrote-same : {K : Type 0} {written : K → Option (List ℕ)} {faults : K → ℕ} {s t : K} {text : List ℕ} {r result : Result (Unit {0}) WriteFault} (e : WriteFault) → r ≡ Err e → result ≡ Err e → Wrote written faults s t text r → Wrote written faults s t text result
Wrote-same {written = written} {faults = faults} {s = s} {t = t} {text = text} e was is wrote = subst (Wrote written faults s t text) (was ∙ sym is) wrote

-- a fault in the first of two texts
pub Wrote-stop : {K : Type 0} {written : K → Option (List ℕ)} {faults : K → ℕ} {s t : K} {a : List ℕ} {r : Result (Unit {0}) WriteFault} (result : Result (Unit {0}) WriteFault) (b : List ℕ) (e : WriteFault) → r ≡ Err e → result ≡ Err e → Wrote written faults s t a r → Wrote written faults s t (a ++ b) result
Wrote-stop {a = a} result b e was is wrote =
    let first = Wrote-same e was refl wrote in
    Wrote-same e refl is (record {
      count = first.count;
      whole = tt;
      cut_short = CutShort-before a b first.cut_short;
      failed = first.failed;
    })

module _ {K : Type 0} {written : K → Option (List ℕ)} {faults : K → ℕ} {X : Type 0} (f : X → List ℕ) (xs : List X) {i : ℕ} {x : X} {s t u : K} (below : i < length xs) (item : x ≡ get_or xs i x) (before : Wrote written faults s t (flat_map f (take i xs)) (Ok tt)) where
  -- the text of one more element of a list
  pub Wrote-one_more : Wrote written faults t u (f x) (Ok tt) → Wrote written faults s u (flat_map f (take (i + 1) xs)) (Ok tt)
  Wrote-one_more more =
      let e = flat_map-take_more f xs i x below item in
      subst (λ text. Wrote written faults s u text (Ok tt)) (sym e) (Wrote-then before more)

  -- a fault at an element of a list
  pub Wrote-stop_in : {r : Result (Unit {0}) WriteFault} (result : Result (Unit {0}) WriteFault) (e : WriteFault) → r ≡ Err e → result ≡ Err e → Wrote written faults t u (f x) r → Wrote written faults s u (flat_map f xs) result
  Wrote-stop_in result e was is stop =
      let whole : (flat_map f (take i xs) ++ f x) ++ flat_map f (drop (i + 1) xs) ≡ flat_map f xs =
      ap (λ text. text ++ flat_map f (drop (i + 1) xs)) (sym (flat_map-take_more f xs i x below item))
      ∙ sym (flat_map-append f (take (i + 1) xs) (drop (i + 1) xs)) ∙ ap (flat_map f) (take-append-drop (i + 1) xs) in
      subst (λ text. Wrote written faults s u text result) whole
      (Wrote-stop result (flat_map f (drop (i + 1) xs)) e was is (Wrote-then before stop))

-- the texts of all elements
pub Wrote-all : {K : Type 0} {written : K → Option (List ℕ)} {faults : K → ℕ} {X : Type 0} (f : X → List ℕ) (xs : List X) {i : ℕ} {s t : K} → length xs ≤ i → Wrote written faults s t (flat_map f (take i xs)) (Ok tt) → Wrote written faults s t (flat_map f xs) (Ok tt)
Wrote-all {written = written} {faults = faults} f xs {i = i} {s = s} {t = t} past wrote =
    subst (λ ys. Wrote written faults s t (flat_map f ys) (Ok tt)) (take_all i xs past) wrote
