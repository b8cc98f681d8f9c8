-- Laws of the ring that a sender meets, and of its notices.
use Rattle.std.proofs.Common.{◌≡◌, ℕ, max, nat_le, Bool, true, false, cond, List, [], ◌∷◌, Option, Some, None, IsTrue, refl, sym, ap, ◌∙◌, subst, arith}
use Rattle.std.specs.Prelude.{option_and_then, option_map, unwrap_or}
use Rattle.std.specs.Option.{option_or}
use Rattle.std.specs.Map.{lookup, set_value}
use Rattle.std.specs.BTreeMap.{is_at, insert_entry}
use Rattle.std.specs.Ordering.{nat_cmp, match_ordering, is_eq}
use Rattle.std.specs.Cmp.{nat_cmp_is}
use Rattle.std.specs.declared.cmp.Ordering.{Ordering}
use Rattle.std.specs.declared.cmp.Ordering.TheVariants.{Less, Equal, Greater}
use Rattle.std.proofs.lemmas.Bool.Decides.{nat_tests}
use Rattle.argo_base.specs.declared.ring_key.RingKey.{RingKey}
use Rattle.argo_base.specs.Match.{key_cmp, key_of, match_of, wildcard}
use Rattle.argo_base.specs.Notices.{Notices, size_of, noted}
use Rattle.argo_model.specs.Rules.State.{State, Domain, Live, Ring, domain_of, change_domain, change_found}
use Rattle.argo_model.specs.Rules.Effects.{with_life}
use Rattle.argo_model.specs.Rules.Matches.{RingAt, match_at, match_of_domain, match_in}

-- one that is found, is found as it was written
lookup-written : {K X : Type 0} (at : K → Bool) (es : List (K × X)) (v w : X) → lookup at es ≡ Some v → lookup at (set_value at es w) ≡ Some w
lookup-written at [] v w h = cc
lookup-written {K} {X} at (e ∷ es) v w h = by (at e.0) refl h (λ later. lookup-written at es v w later) where
  by : (b : Bool) → at e.0 ≡ b → cond b (Some e.1) (lookup at es) ≡ Some v → (lookup at es ≡ Some v → lookup at (set_value at es w) ≡ Some w)
      → lookup at (cond b ((e.0, w) ∷ es) (e ∷ set_value at es w)) ≡ Some w
  by true here h rest = ap (λ b. cond b (Some w) (lookup at es)) here
  by false here h rest = ap (λ b. cond b (Some e.1) (lookup at (set_value at es w))) here ∙ rest h

-- and one that is not found is not found in a list of the same keys
lookup-none_still : {K X : Type 0} (at other : K → Bool) (es : List (K × X)) (w : X) → lookup at es ≡ None → lookup at (set_value other es w) ≡ None
lookup-none_still at other [] w h = refl
lookup-none_still {K} {X} at other (e ∷ es) w h = by (at e.0) refl (other e.0) h (λ later. lookup-none_still at other es w later) where
  by : (b : Bool) → at e.0 ≡ b → (c : Bool) → cond b (Some e.1) (lookup at es) ≡ None → (lookup at es ≡ None → lookup at (set_value other es w) ≡ None)
      → lookup at (cond c ((e.0, w) ∷ es) (e ∷ set_value other es w)) ≡ None
  by true here c h rest = absurd (let no : ⊥ = cc in no)
  by false here true h rest = ap (λ b. cond b (Some w) (lookup at es)) here ∙ h
  by false here false h rest = ap (λ b. cond b (Some e.1) (lookup at (set_value other es w))) here ∙ rest h

-- the ring under the one key, or else that under the other
abbrev either : RingKey → RingKey → Option Ring → Option Ring → Option (RingKey × Ring)
either exact wild a b = option_or (option_map (λ ring. (exact, ring)) a) (option_map (λ ring. (wild, ring)) b)

either-written : (exact wild key : RingKey) (rings : List (RingKey × Ring)) (r w : Ring)
    → either exact wild (lookup (is_at (key_cmp exact)) rings) (lookup (is_at (key_cmp wild)) rings) ≡ Some (key, r)
    → either exact wild (lookup (is_at (key_cmp exact)) (set_value (is_at (key_cmp key)) rings w)) (lookup (is_at (key_cmp wild)) (set_value (is_at (key_cmp key)) rings w))
    ≡ Some (key, w)
either-written exact wild key rings r w h = by (lookup (is_at (key_cmp exact)) rings) refl (lookup (is_at (key_cmp wild)) rings) refl h where
  after : RingKey → RingKey → Option Ring
  after asked written = lookup (is_at (key_cmp asked)) (set_value (is_at (key_cmp written)) rings w)

  is_written : RingKey → Type 0
  is_written k = either exact wild (after exact k) (after wild k) ≡ Some (k, w)

  by : (a : Option Ring) → lookup (is_at (key_cmp exact)) rings ≡ a → (b : Option Ring) → lookup (is_at (key_cmp wild)) rings ≡ b
      → either exact wild a b ≡ Some (key, r) → is_written key
  by (Some x) here b there h =
      let pair : ◌≡◌ {A = RingKey × Ring} (exact, x) (key, r) = cc in
      let same : exact ≡ key = ap (λ (e : RingKey × Ring). e.0) pair in
      subst is_written same (ap (λ o. either exact wild o (after wild exact)) (lookup-written (is_at (key_cmp exact)) rings x w here))
  by None here (Some x) there h =
      let pair : ◌≡◌ {A = RingKey × Ring} (wild, x) (key, r) = cc in
      let same : wild ≡ key = ap (λ (e : RingKey × Ring). e.0) pair in
      subst is_written same (
      ap (λ o. either exact wild o (after wild wild)) (lookup-none_still (is_at (key_cmp exact)) (is_at (key_cmp wild)) rings w here)
      ∙ ap (λ o. either exact wild None o) (lookup-written (is_at (key_cmp wild)) rings x w there))
  by None here None there h = absurd (let no : ⊥ = cc in no)

-- a ring that is met is met as it is written
pub match_of-written : (rings : List (RingKey × Ring)) (port sender : ℕ) (key : RingKey) (r w : Ring) → match_of rings port sender ≡ Some (key, r)
    → match_of (set_value (is_at (key_cmp key)) rings w) port sender ≡ Some (key, w)
match_of-written rings port sender key r w h = either-written (key_of port sender) (key_of port wildcard) key rings r w h

-- the ring that a sender meets, and where
pub record IsMet (s : State) (to port sender : ℕ) (m : RingAt) : Type 0 where
  pub owner : m.owner ≡ to
  pub domain : domain_of s to ≡ Some m.domain
  pub on : m.domain.on ≡ true
  pub life : m.domain.life ≡ Some m.live
  pub ring : match_of m.live.rings port sender ≡ Some (m.key, m.ring)

pub met : (s : State) (to port sender : ℕ) (m : RingAt) → match_at s to port sender ≡ Some m → IsMet s to port sender m
met s to port sender m h = by (domain_of s to) refl h where
  ring : (x : Domain) → domain_of s to ≡ Some x → x.on ≡ true → (live : Live) → x.life ≡ Some live → (e : Option (RingKey × Ring)) → match_of live.rings port sender ≡ e
      → option_map (λ (e : RingKey × Ring). record { owner = to; domain = x; live = live; key = e.0; ring = e.1 }) e ≡ Some m → IsMet s to port sender m
  ring x here on live alive None none h = absurd (let no : ⊥ = cc in no)
  ring x here on live alive (Some e) some h =
      let at : RingAt = record { owner = to; domain = x; live = live; key = e.0; ring = e.1 } in
      let same : at ≡ m = cc in
      let P : RingAt → Type 0 = λ m. IsMet s to port sender m in
      subst P same (record { owner = refl; domain = here; on = on; life = alive; ring = some })

  life : (x : Domain) → domain_of s to ≡ Some x → x.on ≡ true → (l : Option Live) → x.life ≡ l → option_and_then (λ live. match_in to x live port sender) l ≡ Some m → IsMet s to port sender m
  life x here on None gone h = absurd (let no : ⊥ = cc in no)
  life x here on (Some live) alive h = ring x here on live alive (match_of live.rings port sender) refl h

  is_on : (x : Domain) → domain_of s to ≡ Some x → (b : Bool) → x.on ≡ b → cond b (option_and_then (λ live. match_in to x live port sender) x.life) None ≡ Some m → IsMet s to port sender m
  is_on x here true on h = life x here on x.life refl h
  is_on x here false off h = absurd (let no : ⊥ = cc in no)

  by : (o : Option Domain) → domain_of s to ≡ o → option_and_then (match_of_domain to port sender) o ≡ Some m → IsMet s to port sender m
  by None none h = absurd (let no : ⊥ = cc in no)
  by (Some x) here h = is_on x here x.on refl h

-- what the owner of a ring has after the ring was written is what its senders meet
pub met-after : (s : State) (to port sender : ℕ) (m : RingAt) (w : Ring) (live : Live) → match_at s to port sender ≡ Some m
    → live.rings ≡ set_value (is_at (key_cmp m.key)) m.live.rings w
    → match_at (change_domain s to (with_life live)) to port sender ≡ Some (record { owner = to; domain = with_life live m.domain; live = live; key = m.key; ring = w })
met-after s to port sender m w live h rings =
    let is = met s to port sender m h in
    ap (λ o. match_at (change_found s to (with_life live) o) to port sender) is.domain
    ∙ ap (λ o. option_and_then (match_of_domain to port sender) o) (lookup-written (is_at (nat_cmp to)) s m.domain (with_life live m.domain) is.domain)
    ∙ ap (λ b. cond b (match_in to (with_life live m.domain) live port sender) None) is.on
    ∙ ap (λ e. option_map (λ (e : RingKey × Ring). record { owner = to; domain = with_life live m.domain; live = live; key = e.0; ring = e.1 }) e)
    (ap (λ rs. match_of rs port sender) rings ∙ match_of-written m.live.rings port sender m.key m.ring w is.ring)

nat_cmp-same : (n : ℕ) → nat_cmp n n ≡ Equal
nat_cmp-same n = sym (nat_cmp_is n n Equal refl)

-- a notice that is set stands
lookup-noted : (d v : ℕ) (ns : Notices) → lookup (is_at (nat_cmp d)) (insert_entry nat_cmp ns d v) ≡ Some v
lookup-noted d v [] = ap (λ o. cond (is_eq o) (Some v) None) (nat_cmp-same d)
lookup-noted d v (e ∷ es) = by (nat_cmp d e.0) refl (lookup-noted d v es) where
  by : (o : Ordering) → nat_cmp d e.0 ≡ o → lookup (is_at (nat_cmp d)) (insert_entry nat_cmp es d v) ≡ Some v
      → lookup (is_at (nat_cmp d)) (match_ordering o ((d, v) ∷ e ∷ es) ((e.0, v) ∷ es) (e ∷ insert_entry nat_cmp es d v)) ≡ Some v
  by Less is rest = ap (λ o. cond (is_eq o) (Some v) (lookup (is_at (nat_cmp d)) (e ∷ es))) (nat_cmp-same d)
  by Equal is rest = ap (λ o. cond (is_eq o) (Some v) (lookup (is_at (nat_cmp d)) es)) is
  by Greater is rest = ap (λ o. cond (is_eq o) (Some e.1) (lookup (is_at (nat_cmp d)) (insert_entry nat_cmp es d v))) is ∙ rest

-- with no smaller size
pub noted-size : (ns : Notices) (d n : ℕ) → IsTrue (unwrap_or (option_map (nat_le n) (size_of (noted ns d n) d)) false)
noted-size ns d n =
    let v = max n (unwrap_or (size_of ns d) 0) in
    let P : Option ℕ → Type 0 = λ o. IsTrue (unwrap_or (option_map (nat_le n) o) false) in
    let enough : nat_le n v ≡ true = grind (arith, nat_tests) in
    subst P (sym (lookup-noted d v ns)) enough
