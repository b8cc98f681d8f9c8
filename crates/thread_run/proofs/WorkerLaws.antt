-- Laws of the workers of all sections.
use Rattle.std.proofs.Common.{◌≡◌, ℕ, suc, zero, ◌+◌, ◌<◌, List, [], ◌∷◌, ◌++◌, length, take, get_or, map, sum_by, All, slice_index_or, refl, sym, ap, subst, ◌∙◌, arith}
use Rattle.std.proofs.lemmas.List.{length_push, take_more, map-append}
use Rattle.argo_model.specs.declared.closed.HeardLine.{HeardLine}
use Rattle.argo_model.specs.declared.closing.Totals.{Totals}
use Rattle.argo_model.specs.Runs.Script.{Script, Section}
use Rattle.argo_board.specs.Board.{totals_of}
use Rattle.argo_board.specs.Journal.{IsFit, accepted_of, bytes_of}
use Rattle.shared_steps.specs.Passes.{Carried, StandInOrder}
use Rattle.shared_world.specs.declared.closed.Closed.{Closed}
use Rattle.shared_world.specs.Whole.{IsHeardOut, AreHeardOut, IsWhole}
use Rattle.thread_run.specs.Worker.{Work}
use Rattle.thread_run.specs.Workers.{AreWorkersFrom, AreWorkersOf, AreOfTheSame}

-- one worker more
pub worker_more : (n : ℕ) (ws : List Work) (ss : List Section) (w : Work) (s : Section) → AreWorkersFrom n ws ss → w.vcpu.part ≡ s → w.number ≡ n + length ws
    → AreWorkersFrom n (ws ++ w ∷ []) (ss ++ s ∷ [])
worker_more n [] [] w s are part number = ((part, number ∙ (let e : n + 0 ≡ n = omega arith in e)), tt)
worker_more n [] (x ∷ ss) w s are part number = absurd are
worker_more n (x ∷ ws) [] w s are part number = absurd are
worker_more n (x ∷ ws) (y ∷ ss) w s are part number =
    let moved : n + suc (length ws) ≡ n + 1 + length ws = omega arith in
    (are.0, worker_more (n + 1) ws ss w s are.1 part (number ∙ moved))

pub as_many : (n : ℕ) (ws : List Work) (ss : List Section) → AreWorkersFrom n ws ss → length ws ≡ length ss
as_many n [] [] are = refl
as_many n [] (x ∷ ss) are = absurd are
as_many n (x ∷ ws) [] are = absurd are
as_many n (x ∷ ws) (y ∷ ss) are = ap suc (as_many (n + 1) ws ss are.1)

-- they are the workers of the same sections when each is of the same one
pub same_workers : (n : ℕ) (olds news : List Work) (ss : List Section) → length news ≡ length olds → AreOfTheSame olds news → AreWorkersFrom n olds ss → AreWorkersFrom n news ss
same_workers n [] [] ss count same are = are
same_workers n [] (w ∷ news) ss count same are = absurd (omega (arith, count))
same_workers n (v ∷ olds) [] ss count same are = absurd (omega (arith, count))
same_workers n (v ∷ olds) (w ∷ news) [] count same are = absurd are
same_workers n (v ∷ olds) (w ∷ news) (s ∷ ss) count same are =
    let first = same 0 v (omega arith) in (
      (first.part ∙ are.0.0, first.number ∙ are.0.1),
      same_workers (n + 1) olds news ss (omega (arith, count)) (λ k d below. same (suc k) d (omega (arith, below))) are.1,
    )

pub parts_are : (n : ℕ) (ws : List Work) (ss : List Section) → AreWorkersFrom n ws ss → map (λ w. w.vcpu.part) ws ≡ ss
parts_are n [] [] are = refl
parts_are n [] (x ∷ ss) are = absurd are
parts_are n (x ∷ ws) [] are = absurd are
parts_are n (x ∷ ws) (y ∷ ss) are =
    ap (λ s. s ∷ map (λ w. w.vcpu.part) ws) are.0.0 ∙ ap (λ rest. y ∷ rest) (parts_are (n + 1) ws ss are.1)

-- their passes stand in order
order_from : (n : ℕ) (ps : List Carried) (ws : List Work) (ss : List Section) → map (λ p. p.tally.vcpu) ps ≡ map (λ w. w.number) ws → AreWorkersFrom n ws ss
    → (k : ℕ) (d : Carried) → k < length ps → (slice_index_or ps k d).tally.vcpu ≡ n + k
order_from n [] ws ss same are k d below = absurd (omega (arith, below))
order_from n (p ∷ ps) [] ss same are k d below = cc
order_from n (p ∷ ps) (w ∷ ws) [] same are k d below = absurd are
order_from n (p ∷ ps) (w ∷ ws) (s ∷ ss) same are zero d below =
    let first : p.tally.vcpu ≡ w.number = cc in
    let is = are.0.1 in omega (arith, first, is)
order_from n (p ∷ ps) (w ∷ ws) (s ∷ ss) same are (suc k) d below =
    let rest : map (λ q. q.tally.vcpu) ps ≡ map (λ x. x.number) ws = cc in
    let at = order_from (n + 1) ps ws ss rest are.1 k d (omega (arith, below)) in
    omega (arith, at)

pub in_order : (ps : List Carried) (ws : List Work) (ss : List Section) → map (λ p. p.tally.vcpu) ps ≡ map (λ w. w.number) ws → AreWorkersOf ws ss → StandInOrder ps
in_order ps ws ss same are = λ k d below.
    let moved : 0 + k ≡ k = omega arith in order_from 0 ps ws ss same are k d below ∙ moved

pub as_many_passes : (ps : List Carried) (ws : List Work) → map (λ p. p.tally.vcpu) ps ≡ map (λ w. w.number) ws → length ps ≡ length ws
as_many_passes [] [] same = refl
as_many_passes [] (w ∷ ws) same = cc
as_many_passes (p ∷ ps) [] same = cc
as_many_passes (p ∷ ps) (w ∷ ws) same =
    let rest : map (λ q. q.tally.vcpu) ps ≡ map (λ x. x.number) ws = cc in
    ap suc (as_many_passes ps ws rest)

-- the ledger has a part for each of them and one more
pub parts_of : (parts : ℕ) (ps : List Carried) (ws : List Work) (ss : List Section) → map (λ p. p.tally.vcpu) ps ≡ map (λ w. w.number) ws → AreWorkersOf ws ss
    → parts ≡ length ss + 1 → length ps + 1 ≡ parts
parts_of parts ps ws ss same are is =
    let passes = as_many_passes ps ws same in let workers = as_many 0 ws ss are in omega (arith, passes, workers, is)

-- ---- before the first step

-- the worker of the pass that follows these
pub worker_next : (sections : List Section) (taken : List Carried) (p : Carried) (ws : List Work) (w : Work) (s : Section)
    → length ws ≡ length taken → AreWorkersOf ws (take (length taken) sections) → length taken < length sections → p.tally.vcpu ≡ length taken
    → s ≡ get_or sections p.tally.vcpu s → w.vcpu.part ≡ s → w.number ≡ p.tally.vcpu
    → (length (ws ++ w ∷ []) ≡ length (taken ++ p ∷ [])) × AreWorkersOf (ws ++ w ∷ []) (take (length (taken ++ p ∷ [])) sections)
worker_next sections taken p ws w s count are below number here part is =
    let one = length_push ws w in
    let other = length_push taken p in
    let at : s ≡ get_or sections (length taken) s = here ∙ ap (λ n. get_or sections n s) number in
    let longer : take (length taken) sections ++ s ∷ [] ≡ take (length (taken ++ p ∷ [])) sections =
    ap (λ x. take (length taken) sections ++ x ∷ []) at ∙ sym (take_more sections (length taken) s below) ∙ ap (λ n. take n sections) (sym other) in
    let all : w.number ≡ 0 + length ws = omega (arith, is, number, count) in (
      omega (arith, one, other, count),
      subst (λ (ss : List Section). AreWorkersOf (ws ++ w ∷ []) ss) longer (worker_more 0 ws (take (length taken) sections) w s are part all),
    )

-- ---- after the last step

-- one section more is heard out
pub heard_more : (ss : List Section) (ts : List Totals) (hs : List (List HeardLine)) (s : Section) (t : Totals) (h : List HeardLine)
    → AreHeardOut ss ts hs → IsHeardOut s t h → AreHeardOut (ss ++ s ∷ []) (ts ++ t ∷ []) (hs ++ h ∷ [])
heard_more [] [] [] s t h all out = (out, tt)
heard_more [] [] (z ∷ hs) s t h all out = absurd all
heard_more [] (y ∷ ts) hs s t h all out = absurd all
heard_more (x ∷ ss) [] hs s t h all out = absurd all
heard_more (x ∷ ss) (y ∷ ts) [] s t h all out = absurd all
heard_more (x ∷ ss) (y ∷ ts) (z ∷ hs) s t h all out = (all.0, heard_more ss ts hs s t h all.1 out)

-- one worker more is taken apart
pub part_next : (ps : List Carried) (ws : List Work) (hs : List (List HeardLine)) (p : Carried) (w : Work) (h : List HeardLine)
    → map (λ q. q.tally.vcpu) ps ≡ map (λ x. x.number) ws → AreHeardOut (map (λ x. x.vcpu.part) ws) (map (λ q. totals_of q.tally) ps) hs
    → p.tally.vcpu ≡ w.number → IsHeardOut w.vcpu.part (totals_of p.tally) h
    → (map (λ q. q.tally.vcpu) (ps ++ p ∷ []) ≡ map (λ x. x.number) (ws ++ w ∷ []))
    × AreHeardOut (map (λ x. x.vcpu.part) (ws ++ w ∷ [])) (map (λ q. totals_of q.tally) (ps ++ p ∷ [])) (hs ++ h ∷ [])
part_next ps ws hs p w h numbers all number out = (
  map-append (λ (q : Carried). q.tally.vcpu) ps (p ∷ []) ∙ ap (λ ns. ns ++ p.tally.vcpu ∷ []) numbers
      ∙ ap (λ n. map (λ (x : Work). x.number) ws ++ n ∷ []) number ∙ sym (map-append (λ (x : Work). x.number) ws (w ∷ [])),
  subst (λ (ss : List Section). AreHeardOut ss (map (λ q. totals_of q.tally) (ps ++ p ∷ [])) (hs ++ h ∷ []))
      (sym (map-append (λ (x : Work). x.vcpu.part) ws (w ∷ [])))
      (subst (λ (ts : List Totals). AreHeardOut (map (λ x. x.vcpu.part) ws ++ w.vcpu.part ∷ []) ts (hs ++ h ∷ []))
      (sym (map-append (λ (q : Carried). totals_of q.tally) ps (p ∷ [])))
      (heard_more (map (λ x. x.vcpu.part) ws) (map (λ q. totals_of q.tally) ps) hs w.vcpu.part (totals_of p.tally) h all out)),
)

-- the closed world is whole
pub whole : (s : Script) (c : Closed) (ps : List Carried) (ws : List Work)
    → map (λ p. p.tally.vcpu) ps ≡ map (λ w. w.number) ws → AreWorkersOf ws s.sections
    → All (IsFit (length ps)) c.entries → c.totals ≡ map (λ p. totals_of p.tally) ps
    → sum_by (λ t. t.steps) c.totals ≡ length c.entries → sum_by (λ t. t.accepted) c.totals ≡ accepted_of c.entries
    → sum_by (λ t. t.bytes) c.totals ≡ bytes_of c.entries
    → (heard : List (List HeardLine)) → AreHeardOut (map (λ w. w.vcpu.part) ws) (map (λ p. totals_of p.tally) ps) heard → c.heard ≡ heard → IsWhole s c
whole s c ps ws numbers are fit totals steps accepted bytes heard out same =
    let count : length ps ≡ length s.sections = as_many_passes ps ws numbers ∙ as_many 0 ws s.sections are in
    record {
      entries = subst (λ (n : ℕ). All (IsFit n) c.entries) count fit;
      steps = steps;
      accepted = accepted;
      bytes = bytes;
      heard =
          subst (λ (hs : List (List HeardLine)). AreHeardOut s.sections c.totals hs) (sym same)
          (subst (λ (ts : List Totals). AreHeardOut s.sections ts heard) (sym totals)
          (subst (λ (ss : List Section). AreHeardOut ss (map (λ p. totals_of p.tally) ps) heard) (parts_are 0 ws s.sections are) out));
    }
