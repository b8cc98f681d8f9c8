-- Laws of the steps in which a domain is destroyed, reset or created anew.
use Rattle.std.proofs.Common.{◌≡◌, ◌≢◌, ℕ, ◌+◌, Bool, true, false, cond, if◌then◌else◌, ◌==◌, ◌⊎◌, not, List, [], ◌∷◌, filter, is_some, is_none, Option, Some, None, option_map, option_and_then, unwrap_or, ⊎_elim, inl, inr, refl, sym, ap, ◌∙◌, subst}
use Rattle.std.specs.Prelude.{IfSome}
use Rattle.std.proofs.lemmas.Bool.{cases_eq, false≢true}
use Rattle.argo_base.specs.declared.errno.Errno.TheVariants.{Srch, Exist}
use Rattle.argo_base.specs.declared.ring_key.RingKey.{RingKey}
use Rattle.argo_base.specs.Notices.{size_of, withdrawn}
use Rattle.argo_model.specs.declared.action.Action.TheVariants.{Destroy, Reset, Create}
use Rattle.argo_model.specs.declared.action.Outcome.TheVariants.{Done}
use Rattle.argo_model.specs.declared.reply.Reply.{Reply}
use Rattle.argo_model.specs.declared.scripts.Actor.{Actor}
use Rattle.argo_model.specs.Laws.NoticeEnds.{has_flag, EndsLegally, RingEnds}
use Rattle.argo_model.specs.Laws.Flags.{ClearsFlag}
use Rattle.argo_model.specs.Laws.RingNames.{RingName, name_of, standing}
use Rattle.argo_model.specs.Laws.Transitions.{Transition}
use Rattle.argo_model.specs.Rules.Destroy.{ring_without, rings_without, live_without, forget, gone_domain, reset_live, next_domain, change_all, destroy, reset, create}
use Rattle.argo_model.specs.Rules.Effects.{refused, leaving, refuse_if}
use Rattle.argo_model.specs.Rules.Matches.{RingAt}
use Rattle.argo_model.specs.Rules.State.{State, Domain, Live, Ring, domain_of, life_in, is_alive, change_domain, change_life, fresh_live}
use Rattle.argo_laws.specs.Steps.{StandsWith}
use Rattle.state_laws.specs.Each.{Each}
use Rattle.state_laws.specs.Valid.{IsLive, IsRing, IsValid}
use Rattle.state_laws.proofs.Domains.{found_alive, get_map, fit_found}
use Rattle.state_laws.proofs.Rising.{IsRising}
use Rattle.argo_laws.proofs.Names.{entry, entry_of, entry_map, entry_filter, kept_entry, Stands, stands_not}
use Rattle.argo_laws.proofs.Changes.{domain_else, domain_here, flag_of}
use Rattle.argo_laws.proofs.Sizes.{still, withdrawn_same, withdrawn_other}
use Rattle.argo_laws.proofs.Rings.{Lawful, RingEnded, RingGoes, Does, does_same, notices_by, lawful_same, moves_to, made_name}

-- a ring that stands under no name ended
pub ring_ends : (t : Transition) (n : RingName) (at : RingAt) → Stands t.before n at → entry_of t.after n ≡ None → RingEnds t at
ring_ends t n at st none =
    let e : name_of at ≡ n = ap (λ o. made_name o at.domain.generation at.ring.serial) st.owner ∙ ap (λ z. made_name n.owner z at.ring.serial) st.generation ∙ ap (made_name n.owner n.generation) st.serial in
    subst (λ m. standing t.after m ≡ None) (sym e) (stands_not t.after n none)

-- what holds of every ring holds of the one of a serial
pub entry_each : (P : RingKey × Ring → Type 0) (rings : List (RingKey × Ring)) (n : ℕ) (e : RingKey × Ring) → entry rings n ≡ Some e → Each P rings → P e
entry_each P [] n e h all = cc
entry_each P (f ∷ fs) n e h all = by (f.1.serial == n) h (entry_each P fs n e) where
  by : (b : Bool) → cond b (Some f) (entry fs n) ≡ Some e → (entry fs n ≡ Some e → Each P fs → P e) → P e
  by true h rest = subst P (first f e h) all.0 where
    first : (a b : RingKey × Ring) → Some a ≡ Some b → a ≡ b
    first a b h = cc
  by false h rest = rest h all.1

-- the rings of a domain's life, where it has one in that generation
abbrev pub entry_at : ℕ → ℕ → Option Domain → Option (RingKey × Ring)
entry_at g n o = option_and_then (λ (live : Live). entry live.rings n) (option_and_then (life_in g) o)

-- a ring without a domain's notice, under its key
abbrev pub cleared : ℕ → RingKey × Ring → RingKey × Ring
cleared d e = (e.0, ring_without d e.1)

abbrev pub is_other : ℕ → RingKey × Ring → Bool
is_other d e = not (e.0.partner == d)

-- what is left of a ring where a domain is forgotten
pub entry_forgot : (s : State) (valid : IsValid s) (d g n q : ℕ) → entry_at g n (domain_of (forget s d) q) ≡ option_map (cleared d) (kept_entry (is_other d) (entry_at g n (domain_of s q)))
entry_forgot s valid d g n q = ap (entry_at g n) (get_map (change_life (live_without d)) q s) ∙ there (domain_of s q) refl where
  rings : (live : Live) → IsLive (is_alive s) live → entry (rings_without d live.rings) n ≡ option_map (cleared d) (kept_entry (is_other d) (entry live.rings n))
  rings live h = entry_map (ring_without d) (λ r. refl) (filter (is_other d) live.rings) n ∙ ap (option_map (cleared d)) (entry_filter (is_other d) live.rings n h.apart)

  there : (o : Option Domain) → domain_of s q ≡ o → entry_at g n (option_map (change_life (live_without d)) o) ≡ option_map (cleared d) (kept_entry (is_other d) (entry_at g n o))
  there None here = refl
  there (Some x) here = by (x.generation == g) x.life (fit_found (is_alive s) s q x here valid.lives) where
    by : (b : Bool) (l : Option Live) → IfSome l (IsLive (is_alive s))
        → option_and_then (λ (live : Live). entry live.rings n) (if b then option_map (live_without d) l else None)
        ≡ option_map (cleared d) (kept_entry (is_other d) (option_and_then (λ (live : Live). entry live.rings n) (if b then l else None)))
    by false l h = refl
    by true None h = refl
    by true (Some live) h = rings live h

flag_forgot : (s : State) (d q : ℕ) → has_flag (forget s d) q ≡ has_flag s q
flag_forgot s d q = ap flag_of (get_map (change_life (live_without d)) q s) ∙ there (domain_of s q) where
  there : (o : Option Domain) → flag_of (option_map (change_life (live_without d)) o) ≡ flag_of o
  there None = refl
  there (Some x) = by x.life where
    by : (l : Option Live) → unwrap_or (option_map (λ (live : Live). live.flag) (option_map (live_without d) l)) false ≡ unwrap_or (option_map (λ (live : Live). live.flag) l) false
    by None = refl
    by (Some live) = refl

rising_of : (s : State) (valid : IsValid s) (g n q : ℕ) (e : RingKey × Ring) → entry_at g n (domain_of s q) ≡ Some e → IsRising e.1.notices
rising_of s valid g n q e h = there (domain_of s q) refl h where
  there : (o : Option Domain) → domain_of s q ≡ o → entry_at g n o ≡ Some e → IsRising e.1.notices
  there None here h = cc
  there (Some x) here h = by (x.generation == g) x.life (fit_found (is_alive s) s q x here valid.lives) h where
    by : (b : Bool) (l : Option Live) → IfSome l (IsLive (is_alive s)) → option_and_then (λ (live : Live). entry live.rings n) (if b then l else None) ≡ Some e → IsRising e.1.notices
    by false l fit h = cc
    by true None fit h = cc
    by true (Some live) fit h = (entry_each (IsRing (is_alive s) live.bytes) live.rings n e h fit.rings).one_notice_each

not_both : (o : Option ℕ) (n : ℕ) → o ≡ None → o ≡ Some n → ⊥
not_both o n none some = cc

-- a domain is forgotten, and what it has itself goes
module _ (t : Transition) (valid : IsValid t.before) (d : ℕ) (last : Domain → Domain) (is : t.after ≡ change_domain (forget t.before d) d last)
    (empty : (g n : ℕ) (x : Domain) → entry_at g n (Some (last x)) ≡ None) where
  pub entry_gone : (name : RingName) → d ≡ name.owner → entry_of t.after name ≡ None
  entry_gone name owner =
      ap (λ u. entry_of u name) is
      ∙ ap (entry_at name.generation name.serial) (subst (λ q. domain_of (change_domain (forget t.before d) d last) q ≡ option_map last (domain_of (forget t.before d) d)) owner (domain_here (forget t.before d) d last))
      ∙ by (domain_of (forget t.before d) d) where
        by : (o : Option Domain) → entry_at name.generation name.serial (option_map last o) ≡ None
        by None = refl
        by (Some x) = empty name.generation name.serial x

  pub entry_left : (name : RingName) → d ≢ name.owner → entry_of t.after name ≡ option_map (cleared d) (kept_entry (is_other d) (entry_of t.before name))
  entry_left name apart =
      ap (λ u. entry_of u name) is ∙ ap (entry_at name.generation name.serial) (domain_else (forget t.before d) d name.owner last apart)
      ∙ entry_forgot t.before valid d name.generation name.serial name.owner

-- so notices and flags end with it
module _ (t : Transition) (valid : IsValid t.before) (d : ℕ) (last : Domain → Domain) (is : t.after ≡ change_domain (forget t.before d) d last)
    (empty : (g n : ℕ) (x : Domain) → entry_at g n (Some (last x)) ≡ None) (clear : (x : Domain) → flag_of (Some (last x)) ≡ false)
    (legal : (at : RingAt) (q size : ℕ) → RingEnds t at ⊎ (d ≡ q) → EndsLegally t at q size) (clears : (q : ℕ) → d ≡ q → ClearsFlag t q) where
  ended : (name : RingName) (e : RingKey × Ring) → entry_of t.after name ≡ None → RingEnded t name e
  ended name e none = record { ends = λ at st q size stood. legal at q size (inl (ring_ends t name at st none)) }

  goes : (name : RingName) (e : RingKey × Ring) → IsRising e.1.notices → RingGoes t name e (cleared d e)
  goes name e rising =
      record {
        ends = λ at st q size stood. ⊎_elim
            (λ same. inr (subst (λ n. size_of (withdrawn e.1.notices d) n ≡ None) (sym same) (withdrawn_same e.1.notices d rising), legal at q size (inr (sym same))))
            (λ apart. inl (subst (StandsWith size) (sym (withdrawn_other e.1.notices d q apart)) (still e.1.notices q size stood))) (cases_eq q d);
        made = λ q size stands. ⊎_elim
            (λ same. absurd (not_both (size_of (withdrawn e.1.notices d) q) size (subst (λ n. size_of (withdrawn e.1.notices d) n ≡ None) (sym same) (withdrawn_same e.1.notices d rising)) stands))
            (λ apart. inl (sym (withdrawn_other e.1.notices d q apart) ∙ stands)) (cases_eq q d);
      }

  does : (name : RingName) → Does t name (entry_of t.before name) (entry_of t.after name)
  does name = ⊎_elim (λ owner. here (entry_gone t valid d last is empty name owner) (entry_of t.before name)) (λ apart. left (entry_left t valid d last is empty name apart)) (cases_eq d name.owner) where
    here : entry_of t.after name ≡ None → (o : Option (RingKey × Ring)) → Does t name o (entry_of t.after name)
    here none None = subst (Does t name None) (sym none) tt
    here none (Some e) = subst (Does t name (Some e)) (sym none) (ended name e none)

    left : entry_of t.after name ≡ option_map (cleared d) (kept_entry (is_other d) (entry_of t.before name)) → Does t name (entry_of t.before name) (entry_of t.after name)
    left h = by (entry_of t.before name) refl h where
      by : (o : Option (RingKey × Ring)) → entry_of t.before name ≡ o → entry_of t.after name ≡ option_map (cleared d) (kept_entry (is_other d) o) → Does t name o (entry_of t.after name)
      by None was h = subst (Does t name None) (sym h) tt
      by (Some e) was h = kept (is_other d e) h where
        kept : (b : Bool) → entry_of t.after name ≡ option_map (cleared d) (if b then Some e else None) → Does t name (Some e) (entry_of t.after name)
        kept true h = subst (Does t name (Some e)) (sym h) (goes name e (rising_of t.before valid name.generation name.serial name.owner e was))
        kept false h = subst (Does t name (Some e)) (sym h) (ended name e h)

  flag_gone : (q : ℕ) → d ≡ q → has_flag t.after q ≡ false
  flag_gone q same =
      subst (λ n. has_flag t.after n ≡ false) same (ap (λ u. has_flag u d) is ∙ ap flag_of (domain_here (forget t.before d) d last) ∙ by (domain_of (forget t.before d) d)) where
        by : (o : Option Domain) → flag_of (option_map last o) ≡ false
        by None = refl
        by (Some x) = clear x

  flag_left : (q : ℕ) → d ≢ q → has_flag t.after q ≡ has_flag t.before q
  flag_left q apart = ap (λ u. has_flag u q) is ∙ ap flag_of (domain_else (forget t.before d) d q last apart) ∙ flag_forgot t.before d q

  pub lawful_forgot : Lawful t
  lawful_forgot =
      record {
        flags = record {
          set = λ q was now. ⊎_elim (λ same. absurd (false≢true (sym (flag_gone q same) ∙ now))) (λ apart. absurd (false≢true (sym was ∙ sym (flag_left q apart) ∙ now))) (cases_eq d q);
          cleared = λ q was now. ⊎_elim (λ same. clears q same) (λ apart. absurd (false≢true (sym now ∙ flag_left q apart ∙ was))) (cases_eq d q);
        };
        notices = notices_by t does;
      }

pub none_gone : (g n : ℕ) (x : Domain) → entry_at g n (Some (gone_domain x)) ≡ None
none_gone g n x = by (x.generation == g) where
  by : (b : Bool) → option_and_then (λ (live : Live). entry live.rings n) (if b then None else None) ≡ None
  by true = refl
  by false = refl

pub none_reset : (g n : ℕ) (x : Domain) → entry_at g n (Some (change_life reset_live x)) ≡ None
none_reset g n x = by (x.generation == g) x.life where
  by : (b : Bool) (l : Option Live) → option_and_then (λ (live : Live). entry live.rings n) (if b then option_map reset_live l else None) ≡ None
  by true None = refl
  by true (Some live) = refl
  by false l = refl

clear_reset : (x : Domain) → flag_of (Some (change_life reset_live x)) ≡ false
clear_reset x = by x.life where
  by : (l : Option Live) → unwrap_or (option_map (λ (live : Live). live.flag) (option_map reset_live l)) false ≡ false
  by None = refl
  by (Some live) = refl

none_next : (g n : ℕ) (o : Option Domain) → entry_at g n (option_map next_domain o) ≡ None
none_next g n None = refl
none_next g n (Some x) = by (x.generation + 1 == g) where
  by : (b : Bool) → option_and_then (λ (live : Live). entry live.rings n) (if b then Some (fresh_live x.pages) else None) ≡ None
  by true = refl
  by false = refl

-- a domain that is not alive has no ring and no flag
none_dead : (g n : ℕ) (o : Option Domain) → found_alive o ≡ false → entry_at g n o ≡ None
none_dead g n None dead = refl
none_dead g n (Some x) dead = by (x.generation == g) x.life dead where
  by : (b : Bool) (l : Option Live) → is_some l ≡ false → option_and_then (λ (live : Live). entry live.rings n) (if b then l else None) ≡ None
  by true None dead = refl
  by true (Some live) dead = cc
  by false l dead = refl

clear_dead : (o : Option Domain) → found_alive o ≡ false → flag_of o ≡ false
clear_dead None dead = refl
clear_dead (Some x) dead = by x.life dead where
  by : (l : Option Live) → is_some l ≡ false → unwrap_or (option_map (λ (live : Live). live.flag) l) false ≡ false
  by None dead = refl
  by (Some live) dead = cc

clear_next : (o : Option Domain) → flag_of (option_map next_domain o) ≡ false
clear_next None = refl
clear_next (Some x) = refl

-- a domain that is gone is made anew
module _ (t : Transition) (d : ℕ) (is : t.after ≡ change_domain t.before d next_domain) (dead : is_alive t.before d ≡ false) where
  pub entry_made : (name : RingName) → entry_of t.after name ≡ entry_of t.before name
  entry_made name =
      ⊎_elim (λ owner.
      ap (λ u. entry_of u name) is
      ∙ ap (entry_at name.generation name.serial) (subst (λ q. domain_of (change_domain t.before d next_domain) q ≡ option_map next_domain (domain_of t.before d)) owner (domain_here t.before d next_domain))
      ∙ none_next name.generation name.serial (domain_of t.before d)
      ∙ sym (none_dead name.generation name.serial (domain_of t.before name.owner) (subst (λ q. is_alive t.before q ≡ false) owner dead)))
      (λ apart. ap (λ u. entry_of u name) is ∙ ap (entry_at name.generation name.serial) (domain_else t.before d name.owner next_domain apart))
      (cases_eq d name.owner)

  flag_made : (q : ℕ) → has_flag t.after q ≡ has_flag t.before q
  flag_made q =
      ⊎_elim (λ same. subst (λ n. has_flag t.after n ≡ has_flag t.before n) same
      (ap (λ u. has_flag u d) is ∙ ap flag_of (domain_here t.before d next_domain) ∙ clear_next (domain_of t.before d) ∙ sym (clear_dead (domain_of t.before d) dead)))
      (λ apart. ap (λ u. has_flag u q) is ∙ ap flag_of (domain_else t.before d q next_domain apart)) (cases_eq d q)

  pub lawful_made : Lawful t
  lawful_made =
      record {
        flags = record {
          set = λ q was now. absurd (false≢true (sym was ∙ sym (flag_made q) ∙ now));
          cleared = λ q was now. absurd (false≢true (sym now ∙ flag_made q ∙ was));
        };
        notices = notices_by t (λ name. does_same t name (entry_of t.before name) (entry_of t.after name) (entry_made name));
      }

module _ (actor : Actor) (v k : ℕ) (r : Option Reply) (s : State) (valid : IsValid s) where
  pub lawful_destroy : (d : ℕ) → Lawful (moves_to actor v k r s (Destroy d) (destroy s d))
  lawful_destroy d = by (not (is_alive s d)) where
    by : (b : Bool) → Lawful (moves_to actor v k r s (Destroy d) (change_all s (refuse_if b Srch (leaving Done (change_domain (forget s d) d gone_domain)))))
    by true = lawful_same (moves_to actor v k r s (Destroy d) (change_all s (refused Srch))) refl
    by false =
        lawful_forgot (moves_to actor v k r s (Destroy d) (change_all s (leaving Done (change_domain (forget s d) d gone_domain)))) valid d gone_domain refl none_gone (λ x. refl)
        (λ at q size ends. ⊎_elim (λ e. inl e) (λ same. inr (record { of_domain = same; done = refl })) ends) (λ q same. same)

  pub lawful_reset : (d : ℕ) → Lawful (moves_to actor v k r s (Reset d) (reset s d))
  lawful_reset d = by (not (is_alive s d)) where
    by : (b : Bool) → Lawful (moves_to actor v k r s (Reset d) (change_all s (refuse_if b Srch (leaving Done (change_domain (forget s d) d (change_life reset_live))))))
    by true = lawful_same (moves_to actor v k r s (Reset d) (change_all s (refused Srch))) refl
    by false =
        lawful_forgot (moves_to actor v k r s (Reset d) (change_all s (leaving Done (change_domain (forget s d) d (change_life reset_live))))) valid d (change_life reset_live) refl none_reset clear_reset
        (λ at q size ends. ⊎_elim (λ e. inl e) (λ same. inr (record { of_domain = same; done = refl })) ends) (λ q same. same)

  pub lawful_create : (d : ℕ) → Lawful (moves_to actor v k r s (Create d) (create s d))
  lawful_create d = by (is_none (domain_of s d)) (is_alive s d) refl where
    by : (a b : Bool) → is_alive s d ≡ b → Lawful (moves_to actor v k r s (Create d) (change_all s (refuse_if a Srch (refuse_if b Exist (leaving Done (change_domain s d next_domain))))))
    by true b is = lawful_same (moves_to actor v k r s (Create d) (change_all s (refused Srch))) refl
    by false true is = lawful_same (moves_to actor v k r s (Create d) (change_all s (refused Exist))) refl
    by false false is = lawful_made (moves_to actor v k r s (Create d) (change_all s (leaving Done (change_domain s d next_domain)))) d refl is
