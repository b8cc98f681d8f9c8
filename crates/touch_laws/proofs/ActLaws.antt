-- Laws of acts, as the lists see them: which rings come and go, and whose notices.
use Rattle.std.proofs.Common.{◌≡◌, ℕ, Bool, true, false, cond, ◌==◌, ◌&&◌, not, IsTrue, IfSome, List, [], ◌∷◌, length, max, is_some, is_none, unwrap_or, if◌then◌else◌, Option, Some, None, option_map, refl, sym, ap, ◌∙◌, subst}
use Rattle.std.specs.Option.{option_or}
use Rattle.std.specs.Map.{lookup}
use Rattle.std.specs.BTreeMap.{is_at}
use Rattle.std.proofs.lemmas.Bool.{false≢true}
use Rattle.touch_laws.proofs.NumberLaws.{eq_same}
use Rattle.std.proofs.Math.Bool.{and-true, or-false}
use Rattle.argo_base.specs.Match.{key_cmp, id_cmp, key_in, key_of, match_of, wildcard}
use Rattle.argo_base.specs.Notices.{Notices, is_busy, noted, withdrawn, size_of}
use Rattle.argo_base.specs.Slots.{fits, is_too_big}
use Rattle.argo_base.specs.declared.errno.Errno.{Errno}
use Rattle.argo_base.specs.declared.errno.Errno.TheVariants.{Srch, Exist, NoDev, ConnRefused, MsgSize, Again, Busy, Fault as EFault}
use Rattle.argo_base.specs.declared.ring_key.RingId.{RingId}
use Rattle.argo_base.specs.declared.ring_key.RingKey.{RingKey}
use Rattle.argo_model.specs.declared.action.Action.{Action}
use Rattle.argo_model.specs.declared.action.Action.TheVariants.{Rest, Fetch, Put, Register, Unregister, Deliver, Sweep, Query, Look, Destroy, Reset, Create}
use Rattle.argo_model.specs.declared.action.Load.{Load}
use Rattle.argo_model.specs.declared.action.Load.TheVariants.{Body, Faulted, Refused as RefusedLoad}
use Rattle.argo_model.specs.declared.action.Outcome.TheVariants.{Done, Fault, Refused, Answer as Answered}
use Rattle.argo_model.specs.declared.scripts.Actor.TheVariants.{Vcpu}
use Rattle.argo_model.specs.Rules.Act.{act, act_of, act_if_there, act_if_live, put, look}
use Rattle.argo_model.specs.Rules.Deliver.{Offer, offer, offer_load, offer_to_match, offer_to_life, offer_to_domain, if_it_fits, accepted, message_of, with_notice}
use Rattle.argo_model.specs.Rules.Destroy.{create, change_all, next_domain}
use Rattle.argo_model.specs.Rules.Effects.{Change, change_in, refuse_if, refused, answered, leaving, lifted, after}
use Rattle.argo_model.specs.Rules.Puts.{put_into, after_put}
use Rattle.argo_model.specs.Rules.Query.{query_match, query_life, query_domain, query_ring, Request, no_answer}
use Rattle.argo_model.specs.Rules.Register.{own_ring}
use Rattle.argo_model.specs.Rules.RingBytes.{PagedRing, paged, set_paged, free}
use Rattle.argo_model.specs.Rules.State.{State, Domain, Live, Ring, domain_of, set_domain, life_in, live_of, is_alive, change_found, has_page}
use Rattle.touch_laws.specs.Touches.{is_touched, Same, Notes}
use Rattle.touch_laws.proofs.NoticeLaws.{noted_other, withdrawn_other, key_set_other, key_set_same, key_map}
use Rattle.touch_laws.proofs.RingLaws.{ring_in_change, ring_quiet, ring_set, live_found, id_here}
use Rattle.state_laws.proofs.LiveActs.{same_put}
use Rattle.state_laws.proofs.Lives.{key_same, matched}
use Rattle.live_domain.specs.Keyed.{has_notice}
use Rattle.domains.specs.ById.{id_in, ring_in, ring_at, stands, met_id}
use Rattle.section_world.specs.Acts.{keeps_rings}

-- what is seen of a ring stays where a domain's change keeps it
pub seen : {A : Type 0} (f : Option Ring → A) (s : State) (d : ℕ) (x : Domain) (live : Live) (c : Change Live) (y : RingId) → domain_of s d ≡ Some x → x.life ≡ Some live
    → ((d == y.owner) ≡ true → f (own_ring (after live c) (key_in y)) ≡ f (own_ring live (key_in y))) → f (ring_at (change_in s d c).state y) ≡ f (ring_at s y)
seen f s d x live c y here lives same = ap f (ring_in_change s d x live c y here lives) ∙ by (d == y.owner) refl where
  by : (b : Bool) → (d == y.owner) ≡ b → f (cond b (own_ring (after live c) (key_in y)) (ring_at s y)) ≡ f (ring_at s y)
  by true is = same is ∙ sym (ap (λ q. f (ring_in (live_of s q) (key_in y))) (sym (eq_same d y.owner is)) ∙ ap (λ l. f (ring_in l (key_in y))) (live_found s d x here ∙ lives))
  by false is = refl

-- who lives in a generation is alive
pub lives_in : (g : ℕ) (x : Domain) (live : Live) → life_in g x ≡ Some live → x.life ≡ Some live
lives_in g x live h = by (x.generation == g) h where
  by : (b : Bool) → (if b then x.life else None) ≡ Some live → x.life ≡ Some live
  by true h = h
  by false h = cc

-- an act of a domain that lives, or nothing
pub acts_by : (P : State → Type 0) (s : State) (d g : ℕ) (a : Action) → P s → ((x : Domain) (live : Live) → domain_of s d ≡ Some x → x.life ≡ Some live → P (act_of s d x live a).state)
    → P (act (Vcpu d g) a s).state
acts_by P s d g a none acts = there (domain_of s d) refl where
  life : (x : Domain) → domain_of s d ≡ Some x → (l : Option Live) → life_in g x ≡ l → P (act_if_live s d x l a).state
  life x here None is = none
  life x here (Some live) is = acts x live here (lives_in g x live is)

  there : (o : Option Domain) → domain_of s d ≡ o → P (act_if_there s d g o a).state
  there None here = none
  there (Some x) here = life x here (life_in g x) refl

-- ---- acts that leave all as it is

pub same_self : (s : State) → Same s s
same_self s = record { stands = λ x. refl; notices = λ x d. refl }

some_map : (f : Ring → Ring) (o : Option Ring) → is_some (option_map f o) ≡ is_some o
some_map f None = refl
some_map f (Some r) = refl

notice_map : (f : Ring → Ring) → ((r : Ring) → (f r).notices ≡ r.notices) → (o : Option Ring) (d : ℕ) → has_notice (option_map f o) d ≡ has_notice o d
notice_map f same None d = refl
notice_map f same (Some r) d = ap (λ ns. is_some (size_of ns d)) (same r)

module _ (s : State) (d : ℕ) (x : Domain) (live : Live) (here : domain_of s d ≡ Some x) (lives : x.life ≡ Some live) where
  put_same : (page off : ℕ) (bytes : List ℕ) → Same s (change_in s d (put live page off bytes)).state
  put_same page off bytes = by (has_page live page) where
    f : Ring → Ring
    f = after_put live.bytes page off bytes

    by : (b : Bool) → Same s (change_in s d (if b then leaving Done (put_into live page off bytes) else answered Fault)).state
    by false = same_self s
    by true =
        let c : Change Live = leaving Done (put_into live page off bytes) in
        record {
          stands = λ y. seen is_some s d x live c y here lives (λ is. ap is_some (key_map (after_put live.bytes page off bytes) (key_in y) live.rings) ∙ some_map (after_put live.bytes page off bytes) (own_ring live (key_in y)));
          notices = λ y q. seen (λ r. has_notice r q) s d x live c y here lives
              (λ is. ap (λ r. has_notice r q) (key_map (after_put live.bytes page off bytes) (key_in y) live.rings)
              ∙ notice_map (after_put live.bytes page off bytes) (λ r. (same_put live.bytes page off bytes r).notices) (own_ring live (key_in y)) q);
        }

  look_same : Same s (change_in s d (look live)).state
  look_same = record {
    stands = λ y. seen is_some s d x live (look live) y here lives (λ is. refl);
    notices = λ y q. seen (λ r. has_notice r q) s d x live (look live) y here lives (λ is. refl);
  }

  own_lives : (a : Action) → IsTrue (keeps_rings a) → Same s (act_of s d x live a).state
  own_lives Rest own = same_self s
  own_lives (Fetch page off n) own = same_self s
  own_lives (Put page off bytes) own = put_same page off bytes
  own_lives (Register port partner len pages fail_exist) own = absurd (false≢true own)
  own_lives (Unregister port partner) own = absurd (false≢true own)
  own_lives (Deliver port to to_port kind load) own = absurd (false≢true own)
  own_lives (Sweep serial) own = absurd (false≢true own)
  own_lives (Query to to_port need) own = absurd (false≢true own)
  own_lives Look own = look_same
  own_lives (Destroy dom) own = absurd (false≢true own)
  own_lives (Reset dom) own = absurd (false≢true own)
  own_lives (Create dom) own = absurd (false≢true own)

pub own_same : (s : State) (d g : ℕ) (a : Action) → IsTrue (keeps_rings a) → Same s (act (Vcpu d g) a s).state
own_same s d g a own = acts_by (Same s) s d g a (same_self s) (λ x live here lives. own_lives s d x live here lives a own)

-- a domain that was gone comes back without rings
pub create_same : (s : State) (d : ℕ) → Same s (create s d).state
create_same s d = by (domain_of s d) refl where
  back : (x : Domain) → domain_of s d ≡ Some x → x.life ≡ None → (y : RingId) → ring_at (set_domain s d (next_domain x)) y ≡ ring_at s y
  back x here gone y = ring_set s d (next_domain x) x y here ∙ at (d == y.owner) refl where
    at : (b : Bool) → (d == y.owner) ≡ b → cond b None (ring_at s y) ≡ ring_at s y
    at true is = sym (ap (λ q. ring_in (live_of s q) (key_in y)) (sym (eq_same d y.owner is)) ∙ ap (λ l. ring_in l (key_in y)) (live_found s d x here ∙ gone))
    at false is = refl

  life : (x : Domain) → domain_of s d ≡ Some x → (l : Option Live) → x.life ≡ l → Same s (change_all s (refuse_if (is_some l) Exist (leaving Done (set_domain s d (next_domain x))))).state
  life x here (Some live) is = same_self s
  life x here None is = record { stands = λ y. ap is_some (back x here is y); notices = λ y q. ap (λ r. has_notice r q) (back x here is y) }

  by : (o : Option Domain) → domain_of s d ≡ o → Same s (create s d).state
  by None here =
      subst (Same s) (sym (ap (λ o. (change_all s (refuse_if (is_none o) Srch (refuse_if (is_alive s d) Exist (leaving Done (change_found s d next_domain o))))).state) here)) (same_self s)
  by (Some x) here =
      subst (Same s)
      (sym (ap (λ o. (change_all s (refuse_if (is_none o) Srch (refuse_if (is_alive s d) Exist (leaving Done (change_found s d next_domain o))))).state) here
      ∙ ap (λ l. (change_all s (refuse_if (is_some l) Exist (leaving Done (set_domain s d (next_domain x))))).state) (live_found s d x here)))
      (life x here x.life refl)

-- ---- acts after which one domain may wait on one ring, or not

pub notes_self : (s : State) (id : RingId) (dom : ℕ) → Notes s s id dom
notes_self s id dom = record { stands = λ x. refl; notices = λ x d h. refl }

-- a change of a ring that leaves the notices of all others
abbrev NotesRing : ℕ → Ring → Change PagedRing → Type 0
NotesRing dom r c = IfSome c.left (λ p. (q : ℕ) → (dom == q) ≡ false → size_of p.ring.notices q ≡ size_of r.notices q)

module _ (s : State) (to : ℕ) (dom : ℕ) (id : RingId) where
  notes_if : (test : Bool) (e : Errno) (rest : Change Live) → Notes s (change_in s to rest).state id dom → Notes s (change_in s to (refuse_if test e rest)).state id dom
  notes_if true e rest h = notes_self s id dom
  notes_if false e rest h = h

  ring_notes : (y : Domain) (other : Live) (key : RingKey) (r : Ring) (c : Change PagedRing) → domain_of s to ≡ Some y → y.life ≡ Some other
      → lookup (is_at (key_cmp key)) other.rings ≡ Some r → id ≡ id_in to key → NotesRing dom r c → Notes s (change_in s to (lifted (set_paged other key) c)).state id dom
  ring_notes y other key r c here lives found is notes = by c.left refl notes where
    by : (l : Option PagedRing) → c.left ≡ l → IfSome l (λ p. (q : ℕ) → (dom == q) ≡ false → size_of p.ring.notices q ≡ size_of r.notices q)
        → Notes s (change_in s to (lifted (set_paged other key) c)).state id dom
    by None left notes =
        let quiet : (z : RingId) → ring_at (change_in s to (lifted (set_paged other key) c)).state z ≡ ring_at s z = λ z. ring_quiet s to (lifted (set_paged other key) c) z (ap (option_map (set_paged other key)) left) in
        record { stands = λ z. ap is_some (quiet z); notices = λ z q h. ap (λ r. has_notice r q) (quiet z) }
    by (Some p) left notes =
        record {
          stands = λ z. seen is_some s to y other (lifted (set_paged other key) c) z here lives (λ own. ap (λ l. is_some (own_ring l (key_in z))) now ∙ stand (key_in z) (is_at (key_cmp key) (key_in z)) refl);
          notices = λ z q h. seen (λ r. has_notice r q) s to y other (lifted (set_paged other key) c) z here lives
              (λ own. ap (λ l. has_notice (own_ring l (key_in z)) q) now ∙ note z q (is_at (key_cmp key) (key_in z)) refl (away z q own h));
        } where
          now : after other (lifted (set_paged other key) c) ≡ set_paged other key p
          now = ap (λ l. unwrap_or (option_map (set_paged other key) l) other) left

          stand : (k : RingKey) (b : Bool) → is_at (key_cmp key) k ≡ b → is_some (own_ring (set_paged other key p) k) ≡ is_some (own_ring other k)
          stand k true hit =
              let same = key_same key k hit in
              ap (λ k. is_some (own_ring (set_paged other key p) k)) (sym same) ∙ ap is_some (key_set_same key other.rings p.ring r found) ∙ ap is_some (sym found) ∙ ap (λ k. is_some (own_ring other k)) same
          stand k false apart = ap is_some (key_set_other key other.rings p.ring k apart)

          away : (z : RingId) (q : ℕ) → (to == z.owner) ≡ true → is_touched id (dom ∷ []) z q ≡ false → ((dom == q) && is_at (key_cmp key) (key_in z)) ≡ false
          away z q own h = ap (λ b. (dom == q) && b) (sym (ap (λ i. is_at (id_cmp i) z) is ∙ id_here to key z own)) ∙ ap (λ b. b && is_at (id_cmp id) z) (sym (or-false (dom == q))) ∙ h

          note : (z : RingId) (q : ℕ) (b : Bool) → is_at (key_cmp key) (key_in z) ≡ b → ((dom == q) && is_at (key_cmp key) (key_in z)) ≡ false
              → has_notice (own_ring (set_paged other key p) (key_in z)) q ≡ has_notice (own_ring other (key_in z)) q
          note z q false apart h = ap (λ r. has_notice r q) (key_set_other key other.rings p.ring (key_in z) apart)
          note z q true hit h =
              let same = key_same key (key_in z) hit in
              let n : (dom == q) ≡ false = sym (and-true (dom == q)) ∙ ap (λ b. (dom == q) && b) (sym hit) ∙ h in
              ap (λ k. has_notice (own_ring (set_paged other key p) k) q) (sym same) ∙ ap (λ r. has_notice r q) (key_set_same key other.rings p.ring r found)
              ∙ ap is_some (notes q n) ∙ ap (λ r. has_notice r q) (sym found) ∙ ap (λ k. has_notice (own_ring other k) q) same

-- the ring that is met has the id that was said
met_is : (s : State) (to port sender : ℕ) (y : Domain) (other : Live) (e : RingKey × Ring) → domain_of s to ≡ Some y → y.life ≡ Some other → match_of other.rings port sender ≡ Some e
    → met_id s to port sender ≡ id_in to e.0
met_is s to port sender y other e here lives met = by (own_ring other (key_of port sender)) refl (own_ring other (key_of port wildcard)) met where
  at : (o : Option Ring) → own_ring other (key_of port sender) ≡ o → stands s (id_in to (key_of port sender)) ≡ is_some o
  at o is = ap (λ l. is_some (ring_in l (key_of port sender))) (live_found s to y here ∙ lives) ∙ ap is_some is

  pick : (b : Bool) → stands s (id_in to (key_of port sender)) ≡ b → met_id s to port sender ≡ (if b then id_in to (key_of port sender) else id_in to (key_of port wildcard))
  pick b is = ap (λ b. if b then id_in to (key_of port sender) else id_in to (key_of port wildcard)) is

  key_is : (k : RingKey) (r : Ring) → Some (k, r) ≡ Some e → k ≡ e.0
  key_is k r h = cc

  by : (o : Option Ring) → own_ring other (key_of port sender) ≡ o → (w : Option Ring)
      → option_or (option_map (λ (r : Ring). (key_of port sender, r)) o) (option_map (λ (r : Ring). (key_of port wildcard, r)) w) ≡ Some e
      → met_id s to port sender ≡ id_in to e.0
  by (Some r) is w met = pick true (at (Some r) is) ∙ ap (id_in to) (key_is (key_of port sender) r met)
  by None is (Some r) met = pick false (at None is) ∙ ap (id_in to) (key_is (key_of port wildcard) r met)
  by None is None met = cc

-- ---- messages

fits_notes : (p : PagedRing) (sender n : ℕ) (rest : Change PagedRing) → NotesRing sender p.ring rest → NotesRing sender p.ring (if_it_fits p sender n rest)
fits_notes p sender n rest h = by (is_too_big p.ring.len n) (fits (free p) n) (is_busy p.ring.notices sender) where
  by : (big fit busy : Bool) → NotesRing sender p.ring (refuse_if big MsgSize (if fit then rest else refuse_if busy Busy (leaving (Refused Again) (with_notice sender n p))))
  by true fit busy = tt
  by false true busy = h
  by false false true = tt
  by false false false = λ q apart. noted_other sender p.ring.notices (max n (unwrap_or (size_of p.ring.notices sender) 0)) q apart

load_notes : (p : PagedRing) (owner : ℕ) (o : Offer) (load : Load) → NotesRing o.sender p.ring (offer_load p owner o load)
load_notes p owner o (Body bytes) = fits_notes p o.sender (length bytes) (accepted p owner (message_of o bytes)) (λ q apart. refl)
load_notes p owner o (Faulted n) = fits_notes p o.sender n (refused EFault) tt
load_notes p owner o (RefusedLoad e) = tt

pub deliver_notes : (s : State) (d g port to to_port kind : ℕ) (load : Load) → Notes s (act (Vcpu d g) (Deliver port to to_port kind load) s).state (met_id s to to_port d) d
deliver_notes s d g port to to_port kind load =
    acts_by (λ t. Notes s t (met_id s to to_port d) d) s d g (Deliver port to to_port kind load) (notes_self s (met_id s to to_port d) d)
    (λ x live here lives. notes_if s to d (met_id s to to_port d) (not (is_alive s to)) Srch (refuse_if (not x.on) NoDev (offer_to_domain to to_port o (domain_of s to)))
    (notes_if s to d (met_id s to to_port d) (not x.on) NoDev (offer_to_domain to to_port o (domain_of s to)) (domain (domain_of s to) refl))) where
      o : Offer
      o = record { sender = d; port = port; kind = kind; load = load }

      matched_by : (y : Domain) (other : Live) → domain_of s to ≡ Some y → y.life ≡ Some other → (m : Option (RingKey × Ring)) → match_of other.rings to_port d ≡ m
          → Notes s (change_in s to (offer_to_match other to o m)).state (met_id s to to_port d) d
      matched_by y other here lives None met = notes_self s (met_id s to to_port d) d
      matched_by y other here lives (Some e) met =
          ring_notes s to d (met_id s to to_port d) y other e.0 e.1 (offer (paged other.bytes e.1) to o) here lives (matched other.rings to_port d e met).found
          (met_is s to to_port d y other e here lives met) (load_notes (paged other.bytes e.1) to o load)

      life : (y : Domain) → domain_of s to ≡ Some y → (l : Option Live) → y.life ≡ l → Notes s (change_in s to (offer_to_life to to_port o l)).state (met_id s to to_port d) d
      life y here None is = notes_self s (met_id s to to_port d) d
      life y here (Some other) is = matched_by y other here is (match_of other.rings to_port d) refl

      domain : (y : Option Domain) → domain_of s to ≡ y → Notes s (change_in s to (offer_to_domain to to_port o y)).state (met_id s to to_port d) d
      domain None here = notes_self s (met_id s to to_port d) d
      domain (Some y) here = notes_if s to d (met_id s to to_port d) (not y.on) ConnRefused (offer_to_life to to_port o y.life) (life y here y.life refl)

-- ---- questions

abbrev asked_of : Request → Notices
asked_of r = r.notices

query_notes_ring : (p : PagedRing) (key : RingKey) (d need : ℕ) → NotesRing d p.ring (query_ring p key d need)
query_notes_ring p key d need q apart = by (is_too_big p.ring.len need) (fits (free p) need) (is_busy p.ring.notices d) where
  by : (big fit busy : Bool)
      → size_of (asked_of (if big then record { flag = 16; notices = p.ring.notices } else if fit then record { flag = 8; notices = withdrawn p.ring.notices d }
      else if busy then record { flag = 32; notices = p.ring.notices } else record { flag = 0; notices = noted p.ring.notices d need })) q ≡ size_of p.ring.notices q
  by true fit busy = refl
  by false true busy = withdrawn_other d p.ring.notices q apart
  by false false true = refl
  by false false false = noted_other d p.ring.notices (max need (unwrap_or (size_of p.ring.notices d) 0)) q apart

pub query_notes : (s : State) (d g to to_port need : ℕ) → Notes s (act (Vcpu d g) (Query to to_port need) s).state (met_id s to to_port d) d
query_notes s d g to to_port need =
    acts_by (λ t. Notes s t (met_id s to to_port d) d) s d g (Query to to_port need) (notes_self s (met_id s to to_port d) d)
    (λ x live here lives. notes_if s to d (met_id s to to_port d) (not x.on) NoDev (query_domain d to_port need (domain_of s to)) (domain (domain_of s to) refl)) where
      matched_by : (y : Domain) (other : Live) → domain_of s to ≡ Some y → y.life ≡ Some other → (m : Option (RingKey × Ring)) → match_of other.rings to_port d ≡ m
          → Notes s (change_in s to (query_match other d need m)).state (met_id s to to_port d) d
      matched_by y other here lives None met = notes_self s (met_id s to to_port d) d
      matched_by y other here lives (Some e) met =
          ring_notes s to d (met_id s to to_port d) y other e.0 e.1 (query_ring (paged other.bytes e.1) e.0 d need) here lives (matched other.rings to_port d e met).found
          (met_is s to to_port d y other e here lives met) (query_notes_ring (paged other.bytes e.1) e.0 d need)

      life : (y : Domain) → domain_of s to ≡ Some y → (l : Option Live) → y.life ≡ l → Notes s (change_in s to (query_life d to_port need l)).state (met_id s to to_port d) d
      life y here None is = notes_self s (met_id s to to_port d) d
      life y here (Some other) is = matched_by y other here is (match_of other.rings to_port d) refl

      on : (b : Bool) (c : Change Live) → Notes s (change_in s to c).state (met_id s to to_port d) d → Notes s (change_in s to (if b then c else answered (Answered no_answer))).state (met_id s to to_port d) d
      on true c h = h
      on false c h = notes_self s (met_id s to to_port d) d

      domain : (y : Option Domain) → domain_of s to ≡ y → Notes s (change_in s to (query_domain d to_port need y)).state (met_id s to to_port d) d
      domain None here = notes_self s (met_id s to to_port d) d
      domain (Some y) here = on y.on (query_life d to_port need y.life) (life y here y.life refl)
