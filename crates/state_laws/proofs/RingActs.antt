-- Laws of acts on a ring with its own bytes: each leaves it as a ring should be.
use Rattle.std.proofs.Common.{◌≡◌, ℕ, ◌+◌, ◌*◌, ◌<◌, ◌≤◌, max, Bool, true, false, ◌||◌, ◌==◌, not, cond, if◌then◌else◌, IsTrue, [], ◌∷◌, ◌++◌, length, filter, Some, unwrap_or, refl, sym, ap, ◌∙◌, subst, arith}
use Rattle.std.specs.Prelude.{IfSome}
use Rattle.std.specs.Ordering.{nat_cmp}
use Rattle.std.specs.BTreeMap.{is_at}
use Rattle.std.proofs.lemmas.Bool.Decides.{nat_tests}
use Rattle.argo_base.specs.declared.errno.Errno.{Errno}
use Rattle.argo_base.specs.declared.errno.Errno.TheVariants.{Again, Busy, MsgSize, Fault}
use Rattle.argo_base.specs.declared.message.Message.{Message}
use Rattle.argo_base.specs.declared.ring_key.RingKey.{RingKey}
use Rattle.argo_base.specs.Limits.{most_notices}
use Rattle.argo_base.specs.Match.{is_wildcard}
use Rattle.argo_base.specs.Notices.{Notices, size_of, is_busy, noted, withdrawn}
use Rattle.argo_base.specs.Slots.{is_legal, is_place, page_count, fits, is_too_big}
use Rattle.argo_base.proofs.SlotLaws.{IsLegal, legal, IsPlace, place, is_place_from, fits_below, span_is, page_count_holds}
use Rattle.argo_model.specs.declared.action.Load.{Load}
use Rattle.argo_model.specs.declared.action.Load.TheVariants.{Body, Faulted, Refused as RefusedLoad}
use Rattle.argo_model.specs.declared.action.Outcome.TheVariants.{Refused}
use Rattle.argo_model.specs.Rules.Deliver.{Offer, message_of, ring_with, bytes_with, with_message, with_notice, accepted, wait_for_room, if_it_fits, offer_load}
use Rattle.argo_model.specs.Rules.Effects.{Change, refuse_if, refused, leaving}
use Rattle.argo_model.specs.Rules.Messages.{room_of}
use Rattle.argo_model.specs.Rules.Query.{Request, request, query_ring, msgsize_flag, sufficient_flag, busy_flag}
use Rattle.argo_model.specs.Rules.Register.{can_fit}
use Rattle.argo_model.specs.Rules.RingBytes.{PagedRing, free, with_notices, rx_word}
use Rattle.argo_model.specs.Rules.Starts.{started}
use Rattle.argo_model.specs.Rules.Sweep.{sweep_ring, waits_on}
use Rattle.state_laws.specs.Each.{Each}
use Rattle.state_laws.specs.Valid.{KeepsUntaken, IsNotice}
use Rattle.state_laws.proofs.Lists.{each_filter, each_kept, two_filter}
use Rattle.state_laws.proofs.Rising.{IsRising, each_rising, rising_insert, each_remove, rising_remove, length-kept, few_noted, few_withdrawn}
use Rattle.state_laws.proofs.Own.{length-bytes_with, next_place, held_with}
use Rattle.state_laws.proofs.OwnPuts.{start_is_place, length-bytes_after_start, kept_start}

module _ (alive : ℕ → Bool) (key : RingKey) where
  -- the notices of a ring of this length are as they should be
  pub record AreNotices (len : ℕ) (ns : Notices) : Type 0 where
    pub rising : IsRising ns
    pub few : length ns ≤ most_notices
    pub each : Each (IsNotice alive key len) ns

  -- a ring with its own bytes is as it should be
  pub record IsFine (p : PagedRing) : Type 0 where
    pub legal : IsTrue (is_legal p.ring.len)
    pub paged : length p.ring.pages ≡ page_count p.ring.len
    pub sized : length p.own ≡ 4096 * length p.ring.pages
    pub tx_is_place : IsTrue (is_place p.ring.len p.ring.tx)
    pub untaken : KeepsUntaken p.ring.clean p.own p.ring
    pub notices : AreNotices p.ring.len p.ring.notices

  -- so is what an act leaves, on the same pages and with the same serial
  pub record IsStill (p q : PagedRing) : Type 0 where
    pub fine : IsFine q
    pub pages : q.ring.pages ≡ p.ring.pages
    pub serial : q.ring.serial ≡ p.ring.serial

  -- where an act leaves it otherwise at all
  pub record Keeps (p : PagedRing) (c : Change PagedRing) : Type 0 where
    pub still : IfSome c.left (IsStill p)

  holds_slots : (p : PagedRing) → IsFine p → 64 + p.ring.len ≤ length p.own
  holds_slots p f = let a = f.paged in let b = f.sized in let c = page_count_holds p.ring.len in omega arith

  -- ---- notices

  kept_notices : (len : ℕ) (kept : ℕ × ℕ → Bool) (ns : Notices) → AreNotices len ns → AreNotices len (filter kept ns)
  kept_notices len kept ns n =
      record {
        rising = two_filter (λ (a b : ℕ × ℕ). a.0 < b.0) kept ns n.rising;
        few = let l = length-kept kept ns in let f = n.few in omega arith;
        each = each_filter (IsNotice alive key len) kept ns n.each;
      }

  -- a size that is not too big can fit
  fit_size : (len n : ℕ) (d : ℕ) → is_too_big len n ≡ false → IsTrue (can_fit len (d, n))
  fit_size len n d small = ap not small

  greater_fits : (len d n m : ℕ) → is_too_big len n ≡ false → IsTrue (can_fit len (d, m)) → IsTrue (can_fit len (d, max n m))
  greater_fits len d n m small old = grind (arith, nat_tests)

  -- who may wait on the ring
  pub record MayWait (d : ℕ) : Type 0 where
    pub lives : IsTrue (alive d)
    pub allowed : IsTrue (is_wildcard key.partner || (key.partner == d))

  noted_notices : (len : ℕ) (ns : Notices) (d n : ℕ) → MayWait d → is_too_big len n ≡ false → is_busy ns d ≡ false → AreNotices len ns → AreNotices len (noted ns d n)
  noted_notices len ns d n may small busy h =
      record {
        rising = rising_insert ns d (max n (unwrap_or (size_of ns d) 0)) h.rising;
        few = few_noted ns d n h.rising busy h.few;
        each = each_rising (IsNotice alive key len) ns d (max n (unwrap_or (size_of ns d) 0)) h.each
            (record { size_can_fit = by ns h.each; is_alive = may.lives; may_wait = may.allowed });
      } where
        alone : IsTrue (can_fit len (d, max n 0))
        alone = grind (arith, nat_tests)

        by : (ns : Notices) → Each (IsNotice alive key len) ns → IsTrue (can_fit len (d, max n (unwrap_or (size_of ns d) 0)))
        by [] all = alone
        by (e ∷ es) all = found (is_at (nat_cmp d) e.0) (by es all.1) where
          found : (b : Bool) → IsTrue (can_fit len (d, max n (unwrap_or (size_of es d) 0))) → IsTrue (can_fit len (d, max n (unwrap_or (cond b (Some e.1) (size_of es d)) 0)))
          found true rest = greater_fits len d n e.1 small all.0.size_can_fit
          found false rest = rest

  withdrawn_notices : (len : ℕ) (ns : Notices) (d : ℕ) → AreNotices len ns → AreNotices len (withdrawn ns d)
  withdrawn_notices len ns d h =
      record {
        rising = rising_remove (is_at (nat_cmp d)) ns h.rising;
        few = few_withdrawn ns d h.few;
        each = each_remove (IsNotice alive key len) (is_at (nat_cmp d)) ns h.each;
      }

  -- ---- acts

  module _ (p : PagedRing) (f : IsFine p) where
    noticed : (ns : Notices) → AreNotices p.ring.len ns → IsStill p (with_notices p ns)
    noticed ns h = record { fine = record { legal = f.legal; paged = f.paged; sized = f.sized; tx_is_place = f.tx_is_place; untaken = by p.ring.clean f.untaken; notices = h }; pages = refl; serial = refl } where
      by : (b : Bool) → KeepsUntaken b p.own p.ring → KeepsUntaken b p.own (record p.ring { notices = ns })
      by true k = record { rx_is_place = k.rx_is_place; tx_is_word = k.tx_is_word; holds = k.holds }
      by false k = k

    keeps_refused : (e : Errno) → Keeps p (refused e)
    keeps_refused e = record { still = tt }

    keeps_if : (test : Bool) (e : Errno) (rest : Change PagedRing) → (test ≡ false → Keeps p rest) → Keeps p (refuse_if test e rest)
    keeps_if true e rest h = record { still = tt }
    keeps_if false e rest h = h refl

    keeps_leaving : (q : PagedRing) → IsStill p q → IfSome (Some q) (IsStill p)
    keeps_leaving q h = h

    -- a sweep
    pub keeps_sweep : Keeps p (sweep_ring p)
    keeps_sweep = record { still = noticed (filter (waits_on (free p)) p.ring.notices) (kept_notices p.ring.len (waits_on (free p)) p.ring.notices f.notices) }

    -- a question
    abbrev Asked : Request → Type 0
    Asked r = AreNotices p.ring.len r.notices

    pub keeps_query : (d need : ℕ) → MayWait d → Keeps p (query_ring p key d need)
    keeps_query d need may = record { still = noticed (request p d need).notices (big (is_too_big p.ring.len need) refl) } where
      ns : Notices
      ns = p.ring.notices

      busy : is_too_big p.ring.len need ≡ false → (b : Bool) → is_busy ns d ≡ b
          → Asked (if b then record { flag = busy_flag; notices = ns } else record { flag = 0; notices = noted ns d need })
      busy small true h = f.notices
      busy small false h = noted_notices p.ring.len ns d need may small h f.notices

      room : is_too_big p.ring.len need ≡ false → (b : Bool)
          → Asked (if b then record { flag = sufficient_flag; notices = withdrawn ns d }
          else if is_busy ns d then record { flag = busy_flag; notices = ns }
          else record { flag = 0; notices = noted ns d need })
      room small true = withdrawn_notices p.ring.len ns d f.notices
      room small false = busy small (is_busy ns d) refl

      big : (b : Bool) → is_too_big p.ring.len need ≡ b
          → Asked (if b then record { flag = msgsize_flag; notices = ns }
          else if fits (free p) need then record { flag = sufficient_flag; notices = withdrawn ns d }
          else if is_busy ns d then record { flag = busy_flag; notices = ns }
          else record { flag = 0; notices = noted ns d need })
      big true is = f.notices
      big false is = room is (fits (free p) need)

    -- an offer
    keeps_wait : (d n : ℕ) → MayWait d → is_too_big p.ring.len n ≡ false → Keeps p (wait_for_room p d n)
    keeps_wait d n may small =
        keeps_if (is_busy p.ring.notices d) Busy (leaving (Refused Again) (with_notice d n p))
        (λ busy. record { still = noticed (noted p.ring.notices d n) (noted_notices p.ring.len p.ring.notices d n may small busy f.notices) })

    keeps_fit : (d n : ℕ) (rest : Change PagedRing) → MayWait d → (fits (free p) n ≡ true → Keeps p rest) → Keeps p (if_it_fits p d n rest)
    keeps_fit d n rest may h =
        keeps_if (is_too_big p.ring.len n) MsgSize (if fits (free p) n then rest else wait_for_room p d n) (λ small. room (fits (free p) n) refl small) where
          room : (b : Bool) → fits (free p) n ≡ b → is_too_big p.ring.len n ≡ false → Keeps p (if b then rest else wait_for_room p d n)
          room true is small = h is
          room false is small = keeps_wait d n may small

    with_new : (m : Message) → IsTrue (fits (free p) (length m.body)) → IsStill p (with_message p m)
    with_new m fit =
        record {
          fine = record {
            legal = f.legal;
            paged = f.paged;
            sized = length-bytes_with p.ring p.own m l sized tx short ∙ f.sized;
            tx_is_place = is_place_from p.ring.len (ring_with p.ring m).tx (next_place p.ring p.own m l sized tx short);
            untaken = by p.ring.clean refl f.untaken;
            notices = f.notices;
          };
          pages = refl;
          serial = refl;
        } where
          l : IsLegal p.ring.len
          l = legal p.ring.len f.legal

          sized : 64 + p.ring.len ≤ length p.own
          sized = holds_slots p f

          tx : IsPlace p.ring.len p.ring.tx
          tx = place p.ring.len p.ring.tx f.tx_is_place

          less : room_of m < free p
          less = fits_below (free p) (length m.body) fit

          short : room_of m < p.ring.len
          short = let s = (span_is p.ring.len (rx_word p.own) p.ring.tx (let g = l.least in omega arith) l.even tx).most in omega (arith, less)

          by : (b : Bool) → p.ring.clean ≡ b → KeepsUntaken b p.own p.ring → KeepsUntaken p.ring.clean (bytes_with p m) (ring_with p.ring m)
          by true is k = subst (λ b. KeepsUntaken b (bytes_with p m) (ring_with p.ring m)) (sym is) (held_with p.ring p.own m l sized tx less is k)
          by false is k = subst (λ b. KeepsUntaken b (bytes_with p m) (ring_with p.ring m)) (sym is) (ap (λ (b : Bool). if b then p.ring.untaken ++ m ∷ [] else p.ring.untaken) is ∙ k)

    pub keeps_load : (owner : ℕ) (o : Offer) (load : Load) → MayWait o.sender → Keeps p (offer_load p owner o load)
    keeps_load owner o (RefusedLoad e) may = keeps_refused e
    keeps_load owner o (Faulted n) may = keeps_fit o.sender n (refused Fault) may (λ fit. keeps_refused Fault)
    keeps_load owner o (Body bytes) may =
        keeps_fit o.sender (length bytes) (accepted p owner (message_of o bytes)) may (λ fit. record { still = with_new (message_of o bytes) fit })

  -- ---- a start

  -- a ring that is about to start: it needs no words, no slots and no place yet
  pub record CanStart (p : PagedRing) : Type 0 where
    pub legal : IsTrue (is_legal p.ring.len)
    pub paged : length p.ring.pages ≡ page_count p.ring.len
    pub sized : length p.own ≡ 4096 * length p.ring.pages
    pub notices : AreNotices p.ring.len p.ring.notices

  pub fine_started : (p : PagedRing) → CanStart p → IsFine (started p)
  fine_started p s =
      let l = legal p.ring.len s.legal in
      let sized : 64 + p.ring.len ≤ length p.own = (let a = s.paged in let b = s.sized in let c = page_count_holds p.ring.len in omega arith) in
      record {
        legal = s.legal;
        paged = s.paged;
        sized = length-bytes_after_start p.ring p.own l sized ∙ s.sized;
        tx_is_place = start_is_place p.ring p.own l sized;
        untaken = kept_start p.ring p.own l sized;
        notices = s.notices;
      }

  -- the notices that can still fit are notices of a ring of another length
  pub resized_notices : (old len : ℕ) (ns : Notices) → AreNotices old ns → AreNotices len (filter (can_fit len) ns)
  resized_notices old len ns n =
      record {
        rising = two_filter (λ (a b : ℕ × ℕ). a.0 < b.0) (can_fit len) ns n.rising;
        few = let l = length-kept (can_fit len) ns in let f = n.few in omega arith;
        each = each_kept (IsNotice alive key old) (IsNotice alive key len) (can_fit len)
            (λ x fit h. record { size_can_fit = fit; is_alive = h.is_alive; may_wait = h.may_wait }) ns n.each;
      }

  pub no_notices : (len : ℕ) → AreNotices len []
  no_notices len = record { rising = tt; few = omega arith; each = tt }
