-- Laws of what an act leaves of a domain's rings: each that stands after it stood before under its key, or has a serial that was not
-- made before.
use Rattle.std.proofs.Common.{◌≡◌, ℕ, ◌≤◌, Bool, true, false, not, ◌&&◌, ◌==◌, if◌then◌else◌, nat_le, ◌⊎◌, List, [], ◌∷◌, length, map, filter, is_some, Option, Some, None, option_map, ⊎_elim, inl, inr, refl, sym, ◌∙◌, subst, arith}
use Rattle.std.specs.Prelude.{IfSome}
use Rattle.std.specs.BTreeMap.{is_at}
use Rattle.argo_base.specs.declared.errno.Errno.{Errno}
use Rattle.argo_base.specs.declared.errno.Errno.TheVariants.{NoDev, NoEnt, Exist, NoSpc, Inval, MsgSize, Busy, Again, Fault as efault}
use Rattle.argo_base.specs.declared.ring_key.RingKey.{RingKey}
use Rattle.argo_base.specs.Match.{key_cmp, match_of}
use Rattle.argo_base.specs.Notices.{is_busy}
use Rattle.argo_base.specs.Slots.{fits, is_too_big}
use Rattle.argo_model.specs.declared.action.Load.{Load}
use Rattle.argo_model.specs.declared.action.Load.TheVariants.{Body, Faulted, Refused as RefusedLoad}
use Rattle.argo_model.specs.declared.action.Outcome.TheVariants.{Done, Fault, Refused}
use Rattle.argo_model.specs.Rules.Act.{put, look}
use Rattle.argo_model.specs.Rules.Deliver.{Offer, message_of, with_notice, accepted, wait_for_room, if_it_fits, offer_load, offer, offer_to_match}
use Rattle.argo_model.specs.Rules.Destroy.{ring_without, live_without}
use Rattle.argo_model.specs.Rules.Effects.{Change, answered, refused, leaving, refuse_if, lifted}
use Rattle.argo_model.specs.Rules.Limits.{most_rings}
use Rattle.argo_model.specs.Rules.Puts.{after_put, put_into}
use Rattle.argo_model.specs.Rules.Query.{query_match, query_ring}
use Rattle.argo_model.specs.Rules.Register.{own_ring, has_ring, are_free_for, resized, register_anew, new_ring, register_new, stands_so, register_allowed, register_own, without_ring, unregister_own}
use Rattle.argo_model.specs.Rules.RingBytes.{PagedRing, paged, free, set_paged}
use Rattle.argo_model.specs.Rules.Starts.{started}
use Rattle.argo_model.specs.Rules.State.{Domain, Live, Ring, has_page}
use Rattle.argo_model.specs.Rules.Sweep.{sweep_ring, sweep_found, next_ring}
use Rattle.state_laws.specs.Each.{Each, EachTwo}
use Rattle.state_laws.specs.Valid.{AreApart}
use Rattle.state_laws.proofs.LiveActs.{same_put}
use Rattle.state_laws.proofs.Lists.{each_map, each_filter, each_mid, each_put, found, added}
use Rattle.state_laws.proofs.Lives.{In, lookup_in, next_in, matched}

-- a ring of this key and serial is among these
pub record Was (old : List (RingKey × Ring)) (e : RingKey × Ring) : Type 0 where
  pub ring : RingKey × Ring
  pub key : ring.0 ≡ e.0
  pub serial : ring.1.serial ≡ e.1.serial
  pub is_in : In ring old

-- it was there, or its serial was not made before
abbrev pub From : ℕ → List (RingKey × Ring) → RingKey × Ring → Type 0
From next old e = Was old e ⊎ (next ≤ e.1.serial)

pub record Grown (old new : Live) : Type 0 where
  pub serials : old.next_serial ≤ new.next_serial
  pub rings : Each (From old.next_serial old.rings) new.rings

each_of : {X : Type 0} (P : X → Type 0) (xs : List X) → ((x : X) → In x xs → P x) → Each P xs
each_of P [] all = tt
each_of P (x ∷ xs) all = (all x (inl refl), each_of P xs (λ y i. all y (inr i)))

-- a ring of the same key and serial
from_same : (next : ℕ) (old : List (RingKey × Ring)) (e f : RingKey × Ring) → e.0 ≡ f.0 → e.1.serial ≡ f.1.serial → From next old e → From next old f
from_same next old e f key serial h =
    ⊎_elim (λ w. inl (record { ring = w.ring; key = w.key ∙ key; serial = w.serial ∙ serial; is_in = w.is_in }))
    (λ new. inr (subst (λ n. next ≤ n) serial new)) h

from_self : (next : ℕ) (old : List (RingKey × Ring)) → Each (From next old) old
from_self next old = each_of (From next old) old (λ e i. inl (record { ring = e; key = refl; serial = refl; is_in = i }))

-- rings that change and keep their serials
from_map : (next : ℕ) (old rings : List (RingKey × Ring)) (f : Ring → Ring) → ((r : Ring) → (f r).serial ≡ r.serial) → Each (From next old) rings
    → Each (From next old) (map (λ (e : RingKey × Ring). (e.0, f e.1)) rings)
from_map next old rings f keeps all =
    each_map (From next old) (From next old) (λ (e : RingKey × Ring). (e.0, f e.1)) (λ e h. from_same next old e (e.0, f e.1) refl (sym (keeps e.1)) h) rings all

pub grown_self : (live : Live) → Grown live live
grown_self live = record { serials = omega arith; rings = from_self live.next_serial live.rings }

pub grown_without : (d : ℕ) (live : Live) → Grown live (live_without d live)
grown_without d live =
    record {
      serials = omega arith;
      rings = from_map live.next_serial live.rings (filter (λ (e : RingKey × Ring). not (e.0.partner == d)) live.rings) (ring_without d) (λ r. refl)
          (each_filter (From live.next_serial live.rings) (λ (e : RingKey × Ring). not (e.0.partner == d)) live.rings (from_self live.next_serial live.rings));
    }

-- ---- acts

-- where an act changes what a domain has, its rings are those that stood, or new ones
pub record Grows (live : Live) (c : Change Live) : Type 0 where
  pub left : IfSome c.left (Grown live)

pub grows_if : (live : Live) (test : Bool) (e : Errno) (rest : Change Live) → (test ≡ false → Grows live rest) → Grows live (refuse_if test e rest)
grows_if live true e rest h = record { left = tt }
grows_if live false e rest h = h refl

-- a ring that an act changes keeps its serial
record SameSerial (p : PagedRing) (c : Change PagedRing) : Type 0 where
  left : IfSome c.left (λ (q : PagedRing). q.ring.serial ≡ p.ring.serial)

same_if : (p : PagedRing) (test : Bool) (e : Errno) (rest : Change PagedRing) → SameSerial p rest → SameSerial p (refuse_if test e rest)
same_if p true e rest h = record { left = tt }
same_if p false e rest h = h

module _ (live : Live) where
  set_one : (key : RingKey) (r : Ring) (q : PagedRing) → own_ring live key ≡ Some r → q.ring.serial ≡ r.serial → Grown live (set_paged live key q)
  set_one key r q here same =
      let f = found (is_at (key_cmp key)) live.rings r here in
      let P = From live.next_serial live.rings in
      let all = each_mid P (f.key, r) f.before f.after (subst (Each P) f.whole (from_self live.next_serial live.rings)) in
      let one = from_same live.next_serial live.rings (f.key, r) (f.key, q.ring) refl (sym same) all.0 in
      record { serials = omega arith; rings = subst (Each P) (sym (f.changed q.ring)) (each_put P (f.key, q.ring) f.before f.after one all.1) }

  lift_one : (key : RingKey) (r : Ring) (c : Change PagedRing) → own_ring live key ≡ Some r → SameSerial (paged live.bytes r) c → Grows live (lifted (set_paged live key) c)
  lift_one key r c here k = record { left = by c.left k.left } where
    by : (o : Option PagedRing) → IfSome o (λ (q : PagedRing). q.ring.serial ≡ r.serial) → IfSome (option_map (set_paged live key) o) (Grown live)
    by None s = tt
    by (Some q) s = set_one key r q here s

  pub grows_look : Grows live (look live)
  grows_look = record { left = record { serials = omega arith; rings = from_self live.next_serial live.rings } }

  pub grows_put : (page off : ℕ) (bytes : List ℕ) → Grows live (put live page off bytes)
  grows_put page off bytes = by (has_page live page) where
    by : (b : Bool) → Grows live (if b then leaving Done (put_into live page off bytes) else answered Fault)
    by true =
        record {
          left = record {
            serials = omega arith;
            rings = from_map live.next_serial live.rings live.rings (after_put live.bytes page off bytes) (λ r. (same_put live.bytes page off bytes r).serial) (from_self live.next_serial live.rings);
          };
        }
    by false = record { left = tt }

  pub grows_unregister : (x : Domain) (key : RingKey) → Grows live (unregister_own x live key)
  grows_unregister x key =
      grows_if live (not x.on) NoDev (refuse_if (not (has_ring live key)) NoEnt (leaving Done (without_ring live key)))
      (λ on. grows_if live (not (has_ring live key)) NoEnt (leaving Done (without_ring live key)) (λ there. gone (own_ring live key) refl there)) where
        gone : (o : Option Ring) → own_ring live key ≡ o → not (is_some o) ≡ false → Grows live (leaving Done (without_ring live key))
        gone None is there = cc
        gone (Some r) is there =
            let f = found (is_at (key_cmp key)) live.rings r is in
            let P = From live.next_serial live.rings in
            let all = each_mid P (f.key, r) f.before f.after (subst (Each P) f.whole (from_self live.next_serial live.rings)) in
            record { left = record { serials = omega arith; rings = subst (Each P) (sym f.without) all.1 } }

  -- ---- a registration

  new_one : (key : RingKey) (len : ℕ) (pages : List ℕ) → own_ring live key ≡ None → Grows live (register_new live key len pages)
  new_one key len pages none =
      let ring = (started (paged live.bytes (new_ring live.next_serial len pages))).ring in
      let a = added key_cmp live.rings key ring none in
      let P = From live.next_serial live.rings in
      let made : P (key, ring) = inr (omega arith) in
      record {
        left = record {
          serials = omega arith;
          rings = subst (Each P) (sym a.whole) (each_put P (key, ring) a.before a.after made (subst (Each P) a.parts (from_self live.next_serial live.rings)));
        };
      }

  allowed_one : (key : RingKey) (len : ℕ) (pages : List ℕ) (o : Option Ring) → own_ring live key ≡ o → Grows live (register_allowed live key len pages o)
  allowed_one key len pages None none = new_one key len pages none
  allowed_one key len pages (Some r) here = by (stands_so r len pages) where
    by : (b : Bool) → Grows live (if b then answered Done else register_anew live key r len pages)
    by true = record { left = tt }
    by false = record { left = set_one key r (started (paged live.bytes (resized r len pages))) here refl }

  pub grows_register : (key : RingKey) (len : ℕ) (pages : List ℕ) (fail_exist : Bool) → Grows live (register_own live key len pages fail_exist)
  grows_register key len pages fail_exist =
      let rest = register_allowed live key len pages (own_ring live key) in
      let free = refuse_if (not (are_free_for live key pages)) Inval rest in
      let room = refuse_if (not (has_ring live key) && nat_le most_rings (length live.rings)) NoSpc free in
      grows_if live (has_ring live key && fail_exist) Exist room
      (λ a. grows_if live (not (has_ring live key) && nat_le most_rings (length live.rings)) NoSpc free
      (λ b. grows_if live (not (are_free_for live key pages)) Inval rest (λ c. allowed_one key len pages (own_ring live key) refl)))

  -- ---- a sweep, a question and an offer

  pub grows_sweep : (apart : EachTwo AreApart live.rings) (after : ℕ) → Grows live (sweep_found live (next_ring after live.rings))
  grows_sweep apart after = by (next_ring after live.rings) refl where
    by : (o : Option (RingKey × Ring)) → next_ring after live.rings ≡ o → Grows live (sweep_found live o)
    by None is = record { left = tt }
    by (Some e) is = lift_one e.0 e.1 (sweep_ring (paged live.bytes e.1)) (lookup_in live.rings e apart (next_in after live.rings e is)) (record { left = refl })

  pub grows_query : (port d need : ℕ) → Grows live (query_match live d need (match_of live.rings port d))
  grows_query port d need = by (match_of live.rings port d) refl where
    by : (o : Option (RingKey × Ring)) → match_of live.rings port d ≡ o → Grows live (query_match live d need o)
    by None is = record { left = tt }
    by (Some e) is = lift_one e.0 e.1 (query_ring (paged live.bytes e.1) e.0 d need) (matched live.rings port d e is).found (record { left = refl })

  same_load : (p : PagedRing) (owner : ℕ) (o : Offer) (load : Load) → SameSerial p (offer_load p owner o load)
  same_load p owner o load = by load where
    fit : (n : ℕ) (rest : Change PagedRing) → SameSerial p rest → SameSerial p (if_it_fits p o.sender n rest)
    fit n rest h = same_if p (is_too_big p.ring.len n) MsgSize (if fits (free p) n then rest else wait_for_room p o.sender n) (now (fits (free p) n)) where
      now : (b : Bool) → SameSerial p (if b then rest else wait_for_room p o.sender n)
      now true = h
      now false = same_if p (is_busy p.ring.notices o.sender) Busy (leaving (Refused Again) (with_notice o.sender n p)) (record { left = refl })

    by : (load : Load) → SameSerial p (offer_load p owner o load)
    by (RefusedLoad e) = record { left = tt }
    by (Faulted n) = fit n (refused efault) (record { left = tt })
    by (Body bytes) = fit (length bytes) (accepted p owner (message_of o bytes)) (record { left = refl })

  pub grows_offer : (to port : ℕ) (o : Offer) → Grows live (offer_to_match live to o (match_of live.rings port o.sender))
  grows_offer to port o = by (match_of live.rings port o.sender) refl where
    by : (m : Option (RingKey × Ring)) → match_of live.rings port o.sender ≡ m → Grows live (offer_to_match live to o m)
    by None is = record { left = tt }
    by (Some e) is = lift_one e.0 e.1 (offer (paged live.bytes e.1) to o) (matched live.rings port o.sender e is).found (same_load (paged live.bytes e.1) to o o.load)
