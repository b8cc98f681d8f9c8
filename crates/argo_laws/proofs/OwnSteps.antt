-- Laws of the steps of a domain on what it has itself: puts, registrations, sweeps and looks.
use Rattle.std.proofs.Common.{◌≡◌, ◌≢◌, ℕ, ◌<◌, Bool, true, false, if◌then◌else◌, ◌==◌, ◌&&◌, ◌⊎◌, not, is_some, is_none, nat_le, IsTrue, List, [], ◌∷◌, ◌++◌, length, filter, Option, Some, None, option_map, option_and_then, ⊎_elim, inl, inr, refl, sym, ap, ◌∙◌, subst, arith}
use Rattle.std.specs.BTreeMap.{is_at, insert_entry}
use Rattle.std.specs.Ordering.{nat_cmp}
use Rattle.std.proofs.lemmas.Bool.{cases_eq, cases_Bool, false≢true, and_from}
use Rattle.argo_base.specs.declared.errno.Errno.TheVariants.{Srch, NoDev, NoEnt, ConnRefused, Exist, NoSpc, Inval}
use Rattle.argo_base.specs.declared.ring_key.RingKey.{RingKey}
use Rattle.argo_base.specs.Match.{key_cmp, key_of}
use Rattle.argo_base.specs.Notices.{size_of, doms_of, fits_now, never_fits}
use Rattle.argo_model.specs.declared.action.Action.{Action}
use Rattle.argo_model.specs.declared.action.Action.TheVariants.{Put, Register, Unregister, Sweep, Look}
use Rattle.argo_model.specs.declared.action.Outcome.{Outcome}
use Rattle.argo_model.specs.declared.action.Outcome.TheVariants.{Done, Fault, Swept, Flag}
use Rattle.argo_model.specs.declared.reply.Reply.{Reply}
use Rattle.argo_model.specs.declared.scripts.Actor.TheVariants.{Vcpu}
use Rattle.argo_model.specs.Laws.Flags.{SetsFlag, EndsNotice}
use Rattle.argo_model.specs.Laws.NoticeEnds.{has_flag, EndsLegally, RingEnds}
use Rattle.argo_model.specs.Laws.RingNames.{RingName, name_of, is_owner, notice_on, standing}
use Rattle.argo_model.specs.Laws.Transitions.{Transition}
use Rattle.argo_model.specs.Rules.Act.{put, look}
use Rattle.argo_model.specs.Rules.Effects.{Change, answered, leaving, refuse_if, change_in, with_life}
use Rattle.argo_model.specs.Rules.Limits.{most_rings}
use Rattle.argo_model.specs.Rules.Matches.{RingAt}
use Rattle.argo_model.specs.Rules.Puts.{after_put, put_into}
use Rattle.argo_model.specs.Rules.Register.{own_ring, has_ring, are_free_for, resized, register_anew, new_ring, add_paged, register_new, stands_so, register_allowed, register_own, is_single, without_ring, unregister_own}
use Rattle.argo_model.specs.Rules.RingBytes.{PagedRing, paged, free, set_paged, with_notices}
use Rattle.argo_model.specs.Rules.Starts.{started}
use Rattle.argo_model.specs.Rules.State.{State, Domain, Live, Ring, is_alive, is_on, has_page, change_domain}
use Rattle.argo_model.specs.Rules.Sweep.{waits_on, sweep_found, next_ring}
use Rattle.argo_laws.specs.Steps.{StandsWith}
use Rattle.state_laws.specs.Each.{Each}
use Rattle.state_laws.specs.Valid.{IsLive, IsNotice}
use Rattle.state_laws.proofs.Lists.{each_found, each_weak, added}
use Rattle.state_laws.proofs.LiveActs.{same_put}
use Rattle.state_laws.proofs.Lives.{In, next_in, lookup_in}
use Rattle.state_laws.proofs.Rising.{is_at_same, IsRising}
use Rattle.argo_laws.proofs.Names.{entry, entry_of, entry_none, entry_other, entry_mid, entry_map, eqb_self, Stands, notice_is, stands_not}
use Rattle.argo_laws.proofs.Changes.{Found, entry_before, entry_after, signal_reaches, alive_same, flag_else, flag_here}
use Rattle.argo_laws.proofs.Sizes.{size_kept, size_gone, size_was, dom_in, in_doms}
use Rattle.argo_laws.proofs.Rings.{Lawful, RingGoes, Does, goes_same, does_same, lawful_same, moves_to, lawful_if, replaced, flags_by, rings_by, made_name, place, choice, alone, entry_old, stands_here, goes_here, ends_here}

owner_is : (d g n : ℕ) (x : ℕ) → x ≡ g → IsTrue (is_owner (Vcpu d g) (made_name d x n))
owner_is d g n x same = and_from (d == d) (g == x) (eqb_self d) (subst (λ k. (g == k) ≡ true) (sym same) (eqb_self g))

-- a step of a domain that lives in the generation of its section
module _ (d g v k : ℕ) (r : Option Reply) (s : State) (x : Domain) (live : Live) (f : Found s d x live) (gen : x.generation ≡ g) (h : IsLive (is_alive s) live) where
  -- ---- notices that end in a ring, and whose domains are signalled

  module _ (key : RingKey) (ring : Ring) (here : own_ring live key ≡ Some ring) (a : Action) (o : Outcome) (q : PagedRing) (serial : q.ring.serial ≡ ring.serial)
      (out : ℕ × ℕ → Bool) (kept : q.ring.notices ≡ filter (λ n. not (out n)) ring.notices) where
    abbrev signals : List ℕ
    signals = doms_of (filter out ring.notices)

    abbrev t : Transition
    t = replaced (Vcpu d g) v k r s d x live f a o (set_paged live key q) signals

    there : RingAt
    there = place s d x live f key ring h here

    abbrev name : RingName
    name = made_name d x.generation ring.serial

    rising : IsRising ring.notices
    rising = (choice s d x live f key ring h here).ring.one_notice_each

    -- a domain whose notice is out has its flag set
    flag_set : (e size : ℕ) → size_of ring.notices e ≡ Some size → out (e, size) ≡ true → has_flag t.after e ≡ true
    flag_set e size stood is =
        let c = (choice s d x live f key ring h here).ring in
        let n = each_found (IsNotice (is_alive s) key ring.len) (is_at (nat_cmp e)) ring.notices size stood c.notices in
        let same = is_at_same e n.0 n.1 in
        let lives : is_alive s e ≡ true = subst (λ z. is_alive s z ≡ true) (sym same) n.2.is_alive in
        signal_reaches signals (change_domain s d (with_life (set_paged live key q))) e (dom_in out ring.notices e size stood is)
        (alive_same s d x live f (set_paged live key q) e ∙ lives)

    gone_now : (e size : ℕ) → size_of ring.notices e ≡ Some size → out (e, size) ≡ true → size_of q.ring.notices e ≡ None
    gone_now e size stood is = ap (λ ns. size_of ns e) kept ∙ size_gone (λ n. not (out n)) ring.notices e size rising stood (ap not is)

    -- it ended a notice of a domain that it signals
    ended : (e : ℕ) → In e signals → EndsNotice t e
    ended e i =
        let p = in_doms out ring.notices e rising i in
        let old : entry_of s name ≡ Some (key, ring) = entry_before s d x live f (set_paged live key q) signals name refl refl ∙ entry_old s d x live f key ring h here in
        let new : entry_of t.after name ≡ Some (key, q.ring) =
        entry_after s d x live f (set_paged live key q) signals name refl refl
        ∙ ap (λ (rs : List (RingKey × Ring)). entry rs ring.serial) ((choice s d x live f key ring h here).changed q.ring)
        ∙ subst (λ n. entry ((choice s d x live f key ring h here).before ++ (key, q.ring) ∷ (choice s d x live f key ring h here).after) n ≡ Some (key, q.ring)) serial
        (entry_mid (key, q.ring) (choice s d x live f key ring h here).before (choice s d x live f key ring h here).after (alone s d x live f key ring h here (key, q.ring) serial)) in
        let before : notice_on s name e ≡ Some p.size = notice_is s name e ∙ ap (option_and_then (λ (z : RingKey × Ring). size_of z.1.notices e)) old ∙ p.stood in
        let after : notice_on t.after name e ≡ None = notice_is t.after name e ∙ ap (option_and_then (λ (z : RingKey × Ring). size_of z.1.notices e)) new ∙ gone_now e p.size p.stood p.passes in
        record {
          name = name;
          by_owner = owner_is d g ring.serial x.generation gen;
          ended = and_from (is_some (notice_on s name e)) (is_none (notice_on t.after name e)) (ap (λ (o : Option ℕ). is_some o) before) (ap (λ (o : Option ℕ). is_none o) after);
        }

    ring_goes : ((e size : ℕ) → out (e, size) ≡ true → IsTrue (has_flag t.after e) → EndsLegally t (place s d x live f key ring h here) e size) → RingGoes t name (key, ring) (key, q.ring)
    ring_goes legal =
        record {
          ends = λ at st e size stood.
              ⊎_elim (λ is. inr (gone_now e size stood is, subst (λ z. EndsLegally t z e size) (sym (stands_here s d x live f key ring h here at st)) (legal e size is (flag_set e size stood is))))
              (λ not_out. inl (subst (λ ns. StandsWith size (size_of ns e)) (sym kept)
              (subst (StandsWith size) (sym (size_kept (λ n. not (out n)) ring.notices e size stood (ap not not_out))) (omega arith)))) (cases_Bool (out (e, size)));
          made = λ e size stood. inl (size_was (λ n. not (out n)) ring.notices e size rising (ap (λ ns. size_of ns e) (sym kept) ∙ stood));
        }

    lawful_out : ((e size : ℕ) → out (e, size) ≡ true → IsTrue (has_flag t.after e) → EndsLegally t (place s d x live f key ring h here) e size)
        → ((e : ℕ) → EndsNotice t e → SetsFlag t e) → Lawful t
    lawful_out legal sets =
        record {
          flags = flags_by (Vcpu d g) v k r s d x live f a o (set_paged live key q) signals refl (λ e i. sets e (ended e i));
          notices = rings_by (Vcpu d g) v k r s d x live f a o (set_paged live key q) signals (goes_here s d x live f key ring h here t q.ring serial (ring_goes legal));
        }

  abbrev to : Action → Change Live → Transition
  to a c = moves_to (Vcpu d g) v k r s a (change_in s d c)

  -- ---- a sweep

  pub lawful_sweep : (after : ℕ) → Lawful (to (Sweep after) (sweep_found live (next_ring after live.rings)))
  lawful_sweep after = by (next_ring after live.rings) refl where
    by : (o : Option (RingKey × Ring)) → next_ring after live.rings ≡ o → Lawful (to (Sweep after) (sweep_found live o))
    by None is = lawful_same (to (Sweep after) (sweep_found live None)) refl
    by (Some e) is =
        let here = lookup_in live.rings e h.apart (next_in after live.rings e is) in
        let p = paged live.bytes e.1 in
        lawful_out e.0 e.1 here (Sweep after) (Swept e.1.serial) (with_notices p (filter (waits_on (free p)) e.1.notices)) refl (fits_now (free p)) refl
        (λ q size fit flag. record { by_owner = owner_is d g e.1.serial x.generation gen; of_ring = refl; fits = fit; signalled = flag })
        (λ q ends. ends)

  -- ---- a registration

  pub lawful_anew : (port partner len : ℕ) (pages : List ℕ) (fail_exist : Bool) (ring : Ring) → own_ring live (key_of port partner) ≡ Some ring
      → Lawful (to (Register port partner len pages fail_exist) (register_anew live (key_of port partner) ring len pages))
  lawful_anew port partner len pages fail_exist ring here =
      lawful_out (key_of port partner) ring here (Register port partner len pages fail_exist) Done (started (paged live.bytes (resized ring len pages))) refl (never_fits len) refl
      (λ q size big flag. record { by_owner = owner_is d g ring.serial x.generation gen; of_ring = refl; done = refl; too_big = big; signalled = flag })
      (λ q ends. ends)

  -- the rings that stood have other serials than a new one
  stood_so : (before after : List (RingKey × Ring)) → live.rings ≡ before ++ after → Each (λ (e : RingKey × Ring). e.1.serial ≢ live.next_serial) (before ++ after)
  stood_so before after parts =
      subst (Each (λ (e : RingKey × Ring). e.1.serial ≢ live.next_serial)) parts
      (each_weak (λ (e : RingKey × Ring). e.1.serial < live.next_serial) (λ (e : RingKey × Ring). e.1.serial ≢ live.next_serial) (λ e less same. omega arith) live.rings h.serials_are_made)

  pub does_new : (t : Transition) (key : RingKey) (ring : Ring) → ring.serial ≡ live.next_serial → ring.notices ≡ [] → own_ring live key ≡ None
      → (n : RingName) → Does t n (entry live.rings n.serial) (entry (insert_entry key_cmp live.rings key ring) n.serial)
  does_new t key ring serial quiet none n =
      let add = added key_cmp live.rings key ring none in
      subst (λ (rs : List (RingKey × Ring)). Does t n (entry live.rings n.serial) (entry rs n.serial)) (sym add.whole)
      (subst (λ (rs : List (RingKey × Ring)). Does t n (entry rs n.serial) (entry (add.before ++ (key, ring) ∷ add.after) n.serial)) (sym add.parts)
      (each add.before add.after add.parts (cases_eq ring.serial n.serial))) where
        each : (before after : List (RingKey × Ring)) → live.rings ≡ before ++ after → (ring.serial ≡ n.serial) ⊎ (ring.serial ≡ n.serial → ⊥)
            → Does t n (entry (before ++ after) n.serial) (entry (before ++ (key, ring) ∷ after) n.serial)
        each before after parts c =
            ⊎_elim (λ same.
            let all = stood_so before after parts in
            let old : entry (before ++ after) n.serial ≡ None = entry_none (before ++ after) n.serial (subst (λ z. Each (λ (e : RingKey × Ring). e.1.serial ≢ z) (before ++ after)) (sym serial ∙ same) all) in
            let now : entry (before ++ (key, ring) ∷ after) n.serial ≡ Some (key, ring) =
            subst (λ z. entry (before ++ (key, ring) ∷ after) z ≡ Some (key, ring)) same
            (entry_mid (key, ring) before after (subst (λ z. Each (λ (e : RingKey × Ring). e.1.serial ≢ z) (before ++ after)) (sym serial) all)) in
            subst (λ (o : Option (RingKey × Ring)). Does t n o (entry (before ++ (key, ring) ∷ after) n.serial)) (sym old) (subst (Does t n None) (sym now) quiet))
            (λ other. does_same t n (entry (before ++ after) n.serial) (entry (before ++ (key, ring) ∷ after) n.serial) (entry_other (key, ring) before after n.serial other)) c

  lawful_new : (port partner len : ℕ) (pages : List ℕ) (fail_exist : Bool) → own_ring live (key_of port partner) ≡ None
      → Lawful (to (Register port partner len pages fail_exist) (register_new live (key_of port partner) len pages))
  lawful_new port partner len pages fail_exist none =
      let a = Register port partner len pages fail_exist in
      let p = started (paged live.bytes (new_ring live.next_serial len pages)) in
      let new = add_paged live (key_of port partner) p in
      record {
        flags = flags_by (Vcpu d g) v k r s d x live f a Done new [] refl (λ e i. absurd i);
        notices = rings_by (Vcpu d g) v k r s d x live f a Done new [] (λ n owner same. does_new (replaced (Vcpu d g) v k r s d x live f a Done new []) (key_of port partner) p.ring refl refl none n);
      }

  pub lawful_register : (port partner len : ℕ) (pages : List ℕ) (fail_exist : Bool)
      → Lawful (to (Register port partner len pages fail_exist) (
      refuse_if (is_single partner && not (is_alive s partner)) Srch (
      refuse_if (not x.on) NoDev (
      refuse_if (is_single partner && not (is_on s partner)) ConnRefused (
      register_own live (key_of port partner) len pages fail_exist)))))
  lawful_register port partner len pages fail_exist =
      let a = Register port partner len pages fail_exist in
      let key = key_of port partner in
      let rest = register_allowed live key len pages (own_ring live key) in
      let free = refuse_if (not (are_free_for live key pages)) Inval rest in
      let room = refuse_if (not (has_ring live key) && nat_le most_rings (length live.rings)) NoSpc free in
      let own = refuse_if (has_ring live key && fail_exist) Exist room in
      let off = refuse_if (is_single partner && not (is_on s partner)) ConnRefused own in
      let on = refuse_if (not x.on) NoDev off in
      lawful_if (Vcpu d g) v k r s a d (is_single partner && not (is_alive s partner)) Srch on (λ e.
      lawful_if (Vcpu d g) v k r s a d (not x.on) NoDev off (λ e.
      lawful_if (Vcpu d g) v k r s a d (is_single partner && not (is_on s partner)) ConnRefused own (λ e.
      lawful_if (Vcpu d g) v k r s a d (has_ring live key && fail_exist) Exist room (λ e.
      lawful_if (Vcpu d g) v k r s a d (not (has_ring live key) && nat_le most_rings (length live.rings)) NoSpc free (λ e.
      lawful_if (Vcpu d g) v k r s a d (not (are_free_for live key pages)) Inval rest (λ e. allowed (own_ring live key) refl)))))) where
        allowed : (o : Option Ring) → own_ring live (key_of port partner) ≡ o → Lawful (to (Register port partner len pages fail_exist) (register_allowed live (key_of port partner) len pages o))
        allowed None none = lawful_new port partner len pages fail_exist none
        allowed (Some ring) here = by (stands_so ring len pages) where
          by : (b : Bool) → Lawful (to (Register port partner len pages fail_exist) (if b then answered Done else register_anew live (key_of port partner) ring len pages))
          by true = lawful_same (to (Register port partner len pages fail_exist) (answered Done)) refl
          by false = lawful_anew port partner len pages fail_exist ring here

  -- ---- a ring is taken away

  -- a ring that stands under no name ended
  ring_ends : (t : Transition) (n : RingName) (at : RingAt) → Stands t.before n at → entry_of t.after n ≡ None → RingEnds t at
  ring_ends t n at st none =
      let e : name_of at ≡ n = ap (λ o. made_name o at.domain.generation at.ring.serial) st.owner ∙ ap (λ z. made_name n.owner z at.ring.serial) st.generation ∙ ap (made_name n.owner n.generation) st.serial in
      subst (λ m. standing t.after m ≡ None) (sym e) (stands_not t.after n none)

  pub lawful_unregister : (port partner : ℕ) → Lawful (to (Unregister port partner) (unregister_own x live (key_of port partner)))
  lawful_unregister port partner =
      let a = Unregister port partner in
      let key = key_of port partner in
      let gone : Change Live = leaving Done (without_ring live key) in
      let rest = refuse_if (not (has_ring live key)) NoEnt gone in
      lawful_if (Vcpu d g) v k r s a d (not x.on) NoDev rest (λ e.
      lawful_if (Vcpu d g) v k r s a d (not (has_ring live key)) NoEnt gone (λ there. by (own_ring live key) refl there)) where
        by : (o : Option Ring) → own_ring live (key_of port partner) ≡ o → not (is_some o) ≡ false → Lawful (to (Unregister port partner) (leaving Done (without_ring live (key_of port partner))))
        by None is there = cc
        by (Some ring) here there =
            let a = Unregister port partner in
            let key = key_of port partner in
            let new = without_ring live key in
            let c = choice s d x live f key ring h here in
            let t = replaced (Vcpu d g) v k r s d x live f a Done new [] in
            let n = made_name d x.generation ring.serial in
            let none : entry_of t.after n ≡ None =
            entry_after s d x live f new [] n refl refl ∙ ap (λ (rs : List (RingKey × Ring)). entry rs ring.serial) c.without
            ∙ entry_none (c.before ++ c.after) ring.serial (alone s d x live f key ring h here (key, ring) refl) in
            record {
              flags = flags_by (Vcpu d g) v k r s d x live f a Done new [] refl (λ e i. absurd i);
              notices = rings_by (Vcpu d g) v k r s d x live f a Done new [] (λ m owner same.
                  subst (λ (rs : List (RingKey × Ring)). Does t m (entry live.rings m.serial) (entry rs m.serial)) (sym c.without)
                  (ends_here s d x live f key ring h here t (record { ends = λ at st e size stood. ring_ends t n at st none }) m owner same));
            }

  -- ---- a put, and a look

  pub lawful_put : (page off : ℕ) (bytes : List ℕ) → Lawful (to (Put page off bytes) (put live page off bytes))
  lawful_put page off bytes = by (has_page live page) where
    by : (b : Bool) → Lawful (to (Put page off bytes) (if b then leaving Done (put_into live page off bytes) else answered Fault))
    by false = lawful_same (to (Put page off bytes) (answered Fault)) refl
    by true =
        let a = Put page off bytes in
        let new = put_into live page off bytes in
        let t = replaced (Vcpu d g) v k r s d x live f a Done new [] in
        record {
          flags = flags_by (Vcpu d g) v k r s d x live f a Done new [] refl (λ e i. absurd i);
          notices = rings_by (Vcpu d g) v k r s d x live f a Done new [] (λ m owner same.
              subst (Does t m (entry live.rings m.serial)) (sym (entry_map (after_put live.bytes page off bytes) (λ q. (same_put live.bytes page off bytes q).serial) live.rings m.serial))
              (each t m (entry live.rings m.serial)));
        } where
          each : (t : Transition) (m : RingName) (o : Option (RingKey × Ring)) → Does t m o (option_map (λ (e : RingKey × Ring). (e.0, after_put live.bytes page off bytes e.1)) o)
          each t m None = tt
          each t m (Some e) = goes_same t m e (e.0, after_put live.bytes page off bytes e.1) (same_put live.bytes page off bytes e.1).notices

  pub lawful_look : Lawful (to Look (look live))
  lawful_look =
      let new = record live { flag = false } in
      let t = replaced (Vcpu d g) v k r s d x live f Look (Flag live.flag) new [] in
      record {
        flags = record {
          set = λ q was is. ⊎_elim (λ same. absurd (false≢true (sym (subst (λ z. has_flag t.after z ≡ false) same (flag_here s d x live f new)) ∙ is)))
              (λ apart. absurd (false≢true (sym was ∙ sym (flag_else s d x live f new q apart) ∙ is))) (cases_eq d q);
          cleared = λ q was is. ⊎_elim (λ same. same) (λ apart. absurd (false≢true (sym is ∙ flag_else s d x live f new q apart ∙ was))) (cases_eq d q);
        };
        notices = rings_by (Vcpu d g) v k r s d x live f Look (Flag live.flag) new [] (λ m owner same. does_same t m (entry live.rings m.serial) (entry live.rings m.serial) refl);
      }
