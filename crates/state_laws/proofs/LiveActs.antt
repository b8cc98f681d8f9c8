-- Laws of acts on what a domain has: each leaves it as it should be.
use Rattle.std.proofs.Common.{◌≡◌, ℕ, ◌+◌, ◌*◌, ◌/◌, ◌<◌, ◌≤◌, Bool, true, false, not, if◌then◌else◌, IsTrue, List, length, is_some, Option, Some, None, option_map, unwrap_or, refl, sym, ap, ◌∙◌, subst, arith}
use Rattle.std.specs.Prelude.{IfSome}
use Rattle.std.proofs.lemmas.List.{length-map}
use Rattle.std.proofs.lemmas.Bool.Decides.{nat_tests}
use Rattle.argo_base.specs.declared.errno.Errno.{Errno}
use Rattle.argo_base.specs.declared.errno.Errno.TheVariants.{NoDev, NoEnt}
use Rattle.argo_base.specs.declared.ring_key.RingKey.{RingKey}
use Rattle.argo_base.specs.Match.{match_of}
use Rattle.argo_base.specs.Limits.{most_notices}
use Rattle.argo_base.specs.Notices.{Notices}
use Rattle.argo_base.specs.Slots.{is_legal, is_place, page_count}
use Rattle.argo_base.specs.Splice.{splice}
use Rattle.argo_base.proofs.SlotLaws.{legal, page_count_holds}
use Rattle.argo_model.specs.declared.action.Outcome.{Outcome}
use Rattle.argo_model.specs.declared.action.Outcome.TheVariants.{Done, Fault}
use Rattle.argo_model.specs.Rules.Act.{put, look}
use Rattle.argo_model.specs.Rules.Deliver.{Offer, offer, offer_to_match}
use Rattle.argo_model.specs.Rules.Effects.{Change, answered, refused, leaving, refuse_if, lifted}
use Rattle.argo_model.specs.Rules.Limits.{most_rings}
use Rattle.argo_model.specs.Rules.Puts.{byte_at, moves, touches, clean_after, dirtied, ring_after_put, after_put, put_into}
use Rattle.argo_model.specs.Rules.Query.{query_match, query_ring}
use Rattle.argo_model.specs.Rules.Register.{own_ring, has_ring, all_differ, without_ring, unregister_own}
use Rattle.argo_model.specs.Rules.RingBytes.{PagedRing, paged, ring_bytes, set_paged}
use Rattle.argo_model.specs.Rules.State.{Domain, Live, Ring, has_page}
use Rattle.argo_model.specs.Rules.Sweep.{sweep_ring, sweep_found, next_ring}
use Rattle.state_laws.specs.Each.{Each, EachTwo}
use Rattle.state_laws.specs.Valid.{IsRing, IsLive, IsNotice, AreApart, ShareNone, KeepsUntaken}
use Rattle.state_laws.proofs.Lists.{each_map, two_map}
use Rattle.state_laws.proofs.Pages.{AreThere, length-ring_bytes, length-write, still_there, byte_found, byte_missed}
use Rattle.state_laws.proofs.OwnPuts.{kept_put}
use Rattle.state_laws.proofs.RingActs.{IsFine, IsStill, Keeps, keeps_sweep, keeps_query, keeps_load}
use Rattle.state_laws.proofs.Lives.{lookup_in, next_in, matched, fine_of, length-mid, chosen, still_live}

-- where an act changes what a domain has, it is as it should be
pub record KeepsLive (alive : ℕ → Bool) (c : Change Live) : Type 0 where
  pub left : IfSome c.left (IsLive alive)

pub live_refused : (alive : ℕ → Bool) (e : Errno) → KeepsLive alive (refused e)
live_refused alive e = record { left = tt }

pub live_answered : (alive : ℕ → Bool) (o : Outcome) → KeepsLive alive (answered o)
live_answered alive o = record { left = tt }

pub live_if : (alive : ℕ → Bool) (test : Bool) (e : Errno) (rest : Change Live) → (test ≡ false → KeepsLive alive rest) → KeepsLive alive (refuse_if test e rest)
live_if alive true e rest h = record { left = tt }
live_if alive false e rest h = h refl

-- a ring after a put is the same ring, but for what it holds
pub record SameRing (r q : Ring) : Type 0 where
  pub serial : q.serial ≡ r.serial
  pub len : q.len ≡ r.len
  pub pages : q.pages ≡ r.pages
  pub tx : q.tx ≡ r.tx
  pub notices : q.notices ≡ r.notices

same_self : (r : Ring) → SameRing r r
same_self r = record { serial = refl; len = refl; pages = refl; tx = refl; notices = refl }

same_moved : (r : Ring) (at n : ℕ) (o : Option ℕ) → SameRing r (clean_after r at n o)
same_moved r at n (Some k) = record { serial = refl; len = refl; pages = refl; tx = refl; notices = refl }
same_moved r at n None = by (touches r.len at n) where
  by : (b : Bool) → SameRing r (if b then dirtied r else r)
  by true = record { serial = refl; len = refl; pages = refl; tx = refl; notices = refl }
  by false = same_self r

same_after : (p : PagedRing) (at : ℕ) (bytes : List ℕ) → SameRing p.ring (ring_after_put p at bytes)
same_after p at bytes = by p.ring.clean where
  by : (b : Bool) → SameRing p.ring (if b then clean_after p.ring at (length bytes) (moves p at bytes) else p.ring)
  by true = same_moved p.ring at (length bytes) (moves p at bytes)
  by false = same_self p.ring

pub same_put : (memory : List ℕ) (page off : ℕ) (bytes : List ℕ) (r : Ring) → SameRing r (after_put memory page off bytes r)
same_put memory page off bytes r = by (byte_at page off r) where
  by : (o : Option ℕ) → SameRing r (unwrap_or (option_map (λ at. ring_after_put (paged memory r) at bytes) o) r)
  by None = same_self r
  by (Some at) = same_after (paged memory r) at bytes

module _ (alive : ℕ → Bool) (live : Live) (h : IsLive alive live) where
  live_lifted : (key : RingKey) (r : Ring) (c : Change PagedRing) → own_ring live key ≡ Some r → Keeps alive key (paged live.bytes r) c → KeepsLive alive (lifted (set_paged live key) c)
  live_lifted key r c here k = record { left = by c.left k.still } where
    by : (o : Option PagedRing) → IfSome o (IsStill alive key (paged live.bytes r)) → IfSome (option_map (set_paged live key) o) (IsLive alive)
    by None s = tt
    by (Some q) s = still_live alive live key r q h here s

  fine_at : (key : RingKey) (r : Ring) → own_ring live key ≡ Some r → IsFine alive key (paged live.bytes r)
  fine_at key r here = let c = chosen alive live key r h here in fine_of alive live.bytes key r c.ring

  -- ---- a sweep, a question and an offer

  pub live_sweep : (after : ℕ) → KeepsLive alive (sweep_found live (next_ring after live.rings))
  live_sweep after = by (next_ring after live.rings) refl where
    by : (o : Option (RingKey × Ring)) → next_ring after live.rings ≡ o → KeepsLive alive (sweep_found live o)
    by None is = record { left = tt }
    by (Some e) is =
        let here = lookup_in live.rings e h.apart (next_in after live.rings e is) in
        live_lifted e.0 e.1 (sweep_ring (paged live.bytes e.1)) here (keeps_sweep alive e.0 (paged live.bytes e.1) (fine_at e.0 e.1 here))

  pub live_query : (port d need : ℕ) → IsTrue (alive d) → KeepsLive alive (query_match live d need (match_of live.rings port d))
  live_query port d need lives = by (match_of live.rings port d) refl where
    by : (o : Option (RingKey × Ring)) → match_of live.rings port d ≡ o → KeepsLive alive (query_match live d need o)
    by None is = record { left = tt }
    by (Some e) is =
        let m = matched live.rings port d e is in
        live_lifted e.0 e.1 (query_ring (paged live.bytes e.1) e.0 d need) m.found
        (keeps_query alive e.0 (paged live.bytes e.1) (fine_at e.0 e.1 m.found) d need (record { lives = lives; allowed = m.allowed }))

  pub live_offer : (to port : ℕ) (o : Offer) → IsTrue (alive o.sender) → KeepsLive alive (offer_to_match live to o (match_of live.rings port o.sender))
  live_offer to port o lives = by (match_of live.rings port o.sender) refl where
    by : (m : Option (RingKey × Ring)) → match_of live.rings port o.sender ≡ m → KeepsLive alive (offer_to_match live to o m)
    by None is = record { left = tt }
    by (Some e) is =
        let m = matched live.rings port o.sender e is in
        live_lifted e.0 e.1 (offer (paged live.bytes e.1) to o) m.found
        (keeps_load alive e.0 (paged live.bytes e.1) (fine_at e.0 e.1 m.found) to o o.load (record { lives = lives; allowed = m.allowed }))

  pub live_look : KeepsLive alive (look live)
  live_look = record { left = record { few_rings = h.few_rings; serials_are_made = h.serials_are_made; rings = h.rings; apart = h.apart } }

  -- ---- a ring is taken away

  pub live_unregister : (x : Domain) (key : RingKey) → KeepsLive alive (unregister_own x live key)
  live_unregister x key =
      live_if alive (not x.on) NoDev (refuse_if (not (has_ring live key)) NoEnt (leaving Done (without_ring live key)))
      (λ on. live_if alive (not (has_ring live key)) NoEnt (leaving Done (without_ring live key)) (λ there. gone (own_ring live key) refl there)) where
        gone : (o : Option Ring) → own_ring live key ≡ o → not (is_some o) ≡ false → KeepsLive alive (leaving Done (without_ring live key))
        gone None is there = cc
        gone (Some r) is there =
            let c = chosen alive live key r h is in
            let n = length-mid (key, r) c.before c.after in
            let few = c.few in
            record {
              left = subst (λ (rs : List (RingKey × Ring)). IsLive alive (record live { rings = rs })) (sym c.without)
                  (record { few_rings = omega arith; serials_are_made = c.serials; rings = c.rings; apart = c.two });
            }

  -- ---- a put

  -- a ring that is the same but for what it holds
  ring_again : (new : List ℕ) (k : RingKey) (r q : Ring) → length new ≡ length live.bytes → SameRing r q → IsRing alive live.bytes (k, r)
      → KeepsUntaken q.clean (ring_bytes new r.pages) q → IsRing alive new (k, q)
  ring_again new k r q sized s g untaken =
      record {
        legal = subst (λ n. IsTrue (is_legal n)) (sym s.len) g.legal;
        paged = ap length s.pages ∙ g.paged ∙ ap page_count (sym s.len);
        pages_are_there = subst (AreThere new) (sym s.pages) (still_there live.bytes new r.pages sized g.pages_are_there);
        pages_differ = subst (λ pages. IsTrue (all_differ pages)) (sym s.pages) g.pages_differ;
        tx_is_place = subst (λ n. IsTrue (is_place n q.tx)) (sym s.len) (subst (λ t. IsTrue (is_place r.len t)) (sym s.tx) g.tx_is_place);
        untaken = subst (λ pages. KeepsUntaken q.clean (ring_bytes new pages) q) (sym s.pages) untaken;
        one_notice_each = subst (EachTwo (λ (a b : ℕ × ℕ). a.0 < b.0)) (sym s.notices) g.one_notice_each;
        few_notices = subst (λ (ns : Notices). length ns ≤ most_notices) (sym s.notices) g.few_notices;
        notices = subst (λ n. Each (IsNotice alive k n) q.notices) (sym s.len) (subst (Each (IsNotice alive k r.len)) (sym s.notices) g.notices);
      }

  put_ring : (page off : ℕ) (bytes : List ℕ) → page < length live.bytes / 4096 → off + length bytes ≤ 4096 → (e : RingKey × Ring) → IsRing alive live.bytes e
      → IsRing alive (splice live.bytes (4096 * page + off) bytes) (e.0, after_put live.bytes page off bytes e.1)
  put_ring page off bytes here fit e g =
      ring_again (splice live.bytes (4096 * page + off) bytes) e.0 e.1 (after_put live.bytes page off bytes e.1)
      (length-write live.bytes bytes page off here fit) (same_put live.bytes page off bytes e.1) g (by (byte_at page off e.1) refl) where
        new : List ℕ
        new = splice live.bytes (4096 * page + off) bytes

        by : (o : Option ℕ) → byte_at page off e.1 ≡ o
            → KeepsUntaken (unwrap_or (option_map (λ at. ring_after_put (paged live.bytes e.1) at bytes) o) e.1).clean (ring_bytes (splice live.bytes (4096 * page + off) bytes) e.1.pages)
            (unwrap_or (option_map (λ at. ring_after_put (paged live.bytes e.1) at bytes) o) e.1)
        by None is = subst (λ own. KeepsUntaken e.1.clean own e.1) (sym (byte_missed live.bytes bytes page off e.1 here fit is)) g.untaken
        by (Some at) is =
            let w = byte_found live.bytes bytes page off e.1 at g.pages_are_there g.pages_differ fit is in
            let own = ring_bytes live.bytes e.1.pages in
            let q = ring_after_put (paged live.bytes e.1) at bytes in
            let l = length-ring_bytes live.bytes e.1.pages g.pages_are_there in
            let n = g.paged in
            let c = page_count_holds e.1.len in
            let i = w.within in
            subst (λ o. KeepsUntaken q.clean o q) (sym w.bytes) (kept_put e.1 own at bytes (legal e.1.len g.legal) (omega arith) (omega arith) g.untaken)

  pub live_put : (page off : ℕ) (bytes : List ℕ) → off + length bytes ≤ 4096 → KeepsLive alive (put live page off bytes)
  live_put page off bytes fit = by (has_page live page) refl where
    into : page < length live.bytes / 4096 → IsLive alive (put_into live page off bytes)
    into here =
        record {
          few_rings = subst (λ (n : ℕ). n ≤ most_rings) (sym (length-map live.rings (λ (e : RingKey × Ring). (e.0, after_put live.bytes page off bytes e.1)))) h.few_rings;
          serials_are_made = each_map (λ (e : RingKey × Ring). e.1.serial < live.next_serial) (λ (e : RingKey × Ring). e.1.serial < live.next_serial) (λ (e : RingKey × Ring). (e.0, after_put live.bytes page off bytes e.1))
              (λ e less. subst (λ n. n < live.next_serial) (sym (same_put live.bytes page off bytes e.1).serial) less) live.rings h.serials_are_made;
          rings = each_map (IsRing alive live.bytes) (IsRing alive (splice live.bytes (4096 * page + off) bytes)) (λ (e : RingKey × Ring). (e.0, after_put live.bytes page off bytes e.1))
              (put_ring page off bytes here fit) live.rings h.rings;
          apart = two_map AreApart AreApart (λ (e : RingKey × Ring). (e.0, after_put live.bytes page off bytes e.1)) (apart_again page off bytes) live.rings h.apart;
        } where
          apart_again : (page off : ℕ) (bytes : List ℕ) (a b : RingKey × Ring) → AreApart a b → AreApart (a.0, after_put live.bytes page off bytes a.1) (b.0, after_put live.bytes page off bytes b.1)
          apart_again page off bytes a b g =
              let s = same_put live.bytes page off bytes a.1 in
              let t = same_put live.bytes page off bytes b.1 in
              record {
                keys = g.keys;
                serials = λ e. g.serials (sym s.serial ∙ e ∙ t.serial);
                pages = subst (λ pages. ShareNone pages (after_put live.bytes page off bytes b.1).pages) (sym s.pages) (subst (ShareNone a.1.pages) (sym t.pages) g.pages);
              }

    by : (b : Bool) → has_page live page ≡ b → KeepsLive alive (if b then leaving Done (put_into live page off bytes) else answered Fault)
    by true is = record { left = into (grind (arith, nat_tests)) }
    by false is = record { left = tt }
