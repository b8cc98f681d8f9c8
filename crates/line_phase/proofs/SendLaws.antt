-- Laws of sendv.
use Rattle.std.proofs.Common.{◌≡◌, ℕ, zero, suc, map, Vec, Global, ◌+◌, ◌-◌, ◌*◌, ◌<◌, ◌≤◌, true, false, cond, nat_lt, List, [], ◌∷◌, ◌++◌, IsTrue, length, drop, Result, Ok, Err, refl, sym, ap, ◌∙◌, subst, arith, length-append}
use Rattle.std.specs.List.{range_with_len}
use Rattle.std.proofs.lemmas.List.FromFn.{length-map-range_with_len}
use Rattle.std.proofs.lemmas.List.Sums.{sum_by-cons}
use Rattle.argo_base.specs.declared.errno.Errno.{Errno}
use Rattle.argo_base.specs.declared.errno.Errno.TheVariants.{Inval, MsgSize}
use Rattle.argo_base.specs.Pieces.{pieces}
use Rattle.argo_base.specs.Layout.{u16_at, u32_at}
use Rattle.argo_base.specs.Iovs.{Iov, iov_at, iovs_at, is_bad_iov, judged, verdict_of, gathered_pieces}
use Rattle.argo_base.specs.Limits.{longest_body}
use Rattle.line_phase.specs.declared.cursor.Cursor.{Cursor}
use Rattle.argo_model.specs.declared.action.Load.TheVariants.{Body as BodyLoad, Faulted}
use Rattle.argo_model.specs.declared.action.Outcome.{Outcome}
use Rattle.line_phase.specs.declared.phase.Phase.TheVariants.{Reading}
use Rattle.line_phase.specs.declared.phase.Followed.TheVariants.{To}
use Rattle.line_phase.specs.declared.phase.Reader.TheVariants.{Send}
use Rattle.argo_model.specs.declared.action.Address.{Address}
use Rattle.line_phase.specs.declared.reads.Gather.{Gather}
use Rattle.line_phase.specs.declared.reads.SendRead.TheVariants.{Body}
use Rattle.argo_model.specs.Programs.Send.{gather, send_judged}
use Rattle.line_phase.specs.Cursor.{pieces_left, IsSound}
use Rattle.argo_model.specs.Rules.Fit.{is_verdict}
use Rattle.argo_model.specs.Programs.Asks.{collect}
use Rattle.line_phase.specs.Reader.{after_read}
use Rattle.line_phase.specs.Sending.{deliver_to, send_judged_to, iovs_left, bytes_of, IsFirstBuffer, SkipsTo, IsGather}
use Rattle.line_phase.specs.Followed.{Leads}
use Rattle.line_phase.proofs.ListLaws.{none_left}
use Rattle.line_phase.proofs.RangeLaws.{collect-append, collect-same, pieces-within}

-- the verdict is one of two refusals
refused_judged : (n : ℕ) (vs : List Iov) (e : Errno) → judged n vs ≡ Err e → IsTrue (is_verdict e)
refused_judged n [] e h = absurd (let clash : ⊥ = cc in clash)
refused_judged n (v ∷ vs) e h =
    elim (is_bad_iov v) as (λ b. cond b (Err Inval) (cond (nat_lt longest_body (n + v.len)) (Err MsgSize) (judged (n + v.len) vs)) ≡ Err e → IsTrue (is_verdict e)) [
      | true ↦ (λ bad. let same : Inval ≡ e = cc in subst (λ x. IsTrue (is_verdict x)) same refl)
      | false ↦ (λ good. elim (nat_lt longest_body (n + v.len)) as (λ b. cond b (Err MsgSize) (judged (n + v.len) vs) ≡ Err e → IsTrue (is_verdict e)) [
        | true ↦ (λ long. let same : MsgSize ≡ e = cc in subst (λ x. IsTrue (is_verdict x)) same refl)
        | false ↦ (λ short. refused_judged (n + v.len) vs e short)
      ] good)
    ] h

pub refused_verdict : (iovs : List Iov) (e : Errno) → Err e ≡ verdict_of iovs → IsTrue (is_verdict e)
refused_verdict iovs e h = refused_judged 0 iovs e (sym h)

-- a gather has at most two pieces for each iov more than it has whole pages
gathered_within : (vs : List Iov) → 4096 * length (gathered_pieces vs) ≤ bytes_of vs + 8192 * length vs
gathered_within [] = omega arith
gathered_within (v ∷ vs) =
    let more = sum_by-cons (λ (w : Iov). w.len) v vs in
    let long = length-append (pieces v.hnd v.len) (gathered_pieces vs) in
    let few = pieces-within v.hnd v.len in
    let rest = gathered_within vs in
    omega (arith, more, long, few, rest)

-- at most 8 iovs of a body that is not too long have at most 4,111
pub few_gathered : (vs : List Iov) → length vs ≤ 8 → bytes_of vs ≤ longest_body → length (gathered_pieces vs) ≤ 4111
few_gathered vs few within = let bound = gathered_within vs in omega (arith, within, bound, few)

-- the address that a caller names
abbrev pub address_in : List ℕ → ℕ → Address
address_in addr kind = record { port = u32_at addr 0; to = u16_at addr 12; to_port = u32_at addr 8; kind = kind }

pub address_is : (port to to_port kind : ℕ) (addr : List ℕ) → port ≡ u32_at addr 0 → to ≡ u16_at addr 12 → to_port ≡ u32_at addr 8
    → ◌≡◌ {A = Address} (record { port = port; to = to; to_port = to_port; kind = kind }) (address_in addr kind)
address_is port to to_port kind addr p t q = rw (p, t, q) refl

pub judged_to : (kind : ℕ) (addr : List ℕ) (vs : List Iov) (r : Result ℕ Errno) (os : List Outcome) → send_judged kind addr vs r os ≡ send_judged_to (address_in addr kind) vs r os
judged_to kind addr vs (Ok n) os = refl
judged_to kind addr vs (Err e) os = refl

-- the first of the buffers is fetched, and then the others
pub buffer_leads : (g : Gather) (c : Cursor) (place : ℕ) (v : Iov) (got : Vec ℕ Global) → IsGather g → IsFirstBuffer (iovs_at g.list.items g.count) g.next place v
    → pieces_left c ≡ pieces v.hnd v.len → c.left ≡ v.len → IsSound c → length got.items + g.later ≡ g.size
    → Leads (gather (gathered_pieces (iovs_left g)) got.items g.size (deliver_to g.address)) (length (gathered_pieces (iovs_left g)) + 1)
    (To (Reading c got (Send (Body (record { list = g.list; count = g.count; next = place + 1; later = g.later - v.len; size = g.size; address = g.address })))))
buffer_leads g c place v got ready first same left sound size =
    let later : Gather = record { list = g.list; count = g.count; next = place + 1; later = g.later - v.len; size = g.size; address = g.address } in
    let ps = pieces_left c in
    let qs = gathered_pieces (iovs_left later) in
    let k = deliver_to g.address in
    let parts : gathered_pieces (iovs_left g) ≡ ps ++ qs = first.pieces_are ∙ ap (λ xs. xs ++ qs) (sym same) in
    let bytes = ready.later_is ∙ first.bytes_are in
    record {
      rest = λ line os.
          ap (λ xs. gather xs got.items g.size k os) parts
          ∙ collect-append ps qs got.items (k (Faulted g.size)) (λ bs. k (BodyLoad bs)) os
          ∙ collect-same ps got.items (k (Faulted g.size)) (k (Faulted g.size)) (λ bs os. collect qs bs (k (Faulted g.size)) (λ bs. k (BodyLoad bs)) os) (after_read (Send (Body later)))
          (λ os. refl) (λ bs os. refl) os;
      ready = λ line. record {
        some = let some = first.some in omega arith;
        sound = sound;
        size = omega arith;
        ready = record {
          listed = ready.listed;
          count_within = ready.count_within;
          next_within = let within = first.within in let long = length-map-range_with_len (iov_at g.list.items) 0 g.count in omega (arith, within, long);
          size_within = ready.size_within;
          later_is = omega (arith, bytes);
          later_within = let within = ready.later_within in omega arith;
        };
      };
      few = let long = ap length parts ∙ length-append ps qs in omega (arith, long);
    }

-- from a place on, the values at some numbers are that at the place and then the rest
drop_mapped : {X : Type 0} (f : ℕ → X) (a n i : ℕ) → i < n → drop i (map f (range_with_len a n)) ≡ f (a + i) ∷ drop (i + 1) (map f (range_with_len a n))
drop_mapped f a zero i within = absurd (omega arith)
drop_mapped f a (suc m) zero within = let first : a ≡ a + 0 = omega arith in ap (λ b. f b ∷ map f (range_with_len (a + 1) m)) first
drop_mapped f a (suc m) (suc i) within =
    let later : a + 1 + i ≡ a + suc i = omega arith in
    let next : suc (i + 1) ≡ suc i + 1 = omega arith in
    drop_mapped f (a + 1) m i (omega arith)
    ∙ ap (λ b. f b ∷ drop (i + 1) (map f (range_with_len (a + 1) m))) later
    ∙ ap (λ j. f (a + suc i) ∷ drop j (map f (range_with_len a (suc m)))) next

module _ (list : List ℕ) (count from place : ℕ) (within : place < count) (skips : SkipsTo (iovs_at list count) from place) where
  abbrev here : Iov
  here = iov_at list place

  abbrev later : List Iov
  later = drop (place + 1) (iovs_at list count)

  from_here : drop place (iovs_at list count) ≡ here ∷ later
  from_here = let none : 0 + place ≡ place = omega arith in drop_mapped (iov_at list) 0 count place within ∙ ap (λ n. iov_at list n ∷ later) none

  bytes_here : bytes_of (drop from (iovs_at list count)) ≡ here.len + bytes_of later
  bytes_here = skips.bytes_are ∙ ap bytes_of from_here ∙ sum_by-cons (λ (w : Iov). w.len) here later

  pieces_here : gathered_pieces (drop from (iovs_at list count)) ≡ pieces here.hnd here.len ++ gathered_pieces later
  pieces_here = skips.pieces_are ∙ ap gathered_pieces from_here

  -- a buffer without bytes is passed over
  pub skips_more : here.len ≡ 0 → SkipsTo (iovs_at list count) from (place + 1)
  skips_more none = record {
    pieces_are = pieces_here ∙ ap (λ n. pieces here.hnd n ++ gathered_pieces later) none;
    bytes_are = let bytes = bytes_here in omega (arith, bytes, none);
  }

  -- one with bytes is the first
  pub first_here : 0 < here.len → IsFirstBuffer (iovs_at list count) from place here
  first_here some = record {
    within = let long = length-map-range_with_len (iov_at list) 0 count in omega (arith, within, long);
    some = some;
    pieces_are = pieces_here;
    bytes_are = bytes_here;
  }

-- where all are passed over, none has bytes
pub skipped_all : (list : List ℕ) (count from place : ℕ) → SkipsTo (iovs_at list count) from place → count ≤ place
    → (gathered_pieces (drop from (iovs_at list count)) ≡ []) × (bytes_of (drop from (iovs_at list count)) ≡ 0)
skipped_all list count from place skips past =
    let long = length-map-range_with_len (iov_at list) 0 count in
    let none = none_left (iovs_at list count) place (omega (arith, past, long)) in
    (skips.pieces_are ∙ ap gathered_pieces none, skips.bytes_are ∙ ap bytes_of none)
