-- The laws beside: rings that stand, and rings that start.
use Rattle.std.proofs.Common.{◌≡◌, ℕ, true, ◌==◌, IsTrue, List, take, Option, Some, sym, ◌∙◌, subst, arith}
use Rattle.std.specs.Prelude.{IfSome}
use Rattle.std.proofs.lemmas.Bool.{and_parts, and_from}
use Rattle.std.proofs.lemmas.Bool.Decides.{nat_tests}
use Rattle.argo_base.specs.Slots.{is_place}
use Rattle.argo_base.proofs.SlotLaws.{legal}
use Rattle.argo_model.specs.Laws.RingNames.{RingName, standing}
use Rattle.argo_model.specs.Rules.Matches.{RingAt}
use Rattle.argo_model.specs.Rules.RingBytes.{rx_word, tx_word}
use Rattle.argo_model.specs.Rules.Starts.{start_place, started}
use Rattle.argo_model.specs.Rules.State.{Live, is_alive}
use Rattle.argo_model.specs.Runs.Run.{run}
use Rattle.argo_model.specs.Runs.Script.{Script}
use Rattle.argo_laws.specs.Beside.{StandsWell, StartsCleanWhereEqual}
use Rattle.argo_laws.specs.Headline.{Headline}
use Rattle.state_laws.specs.Valid.{IsLive, IsRing}
use Rattle.state_laws.proofs.Courses.{valid_run}
use Rattle.state_laws.proofs.Domains.{fit_found}
use Rattle.state_laws.proofs.OwnPuts.{start_is_place, start_rx, start_tx}
use Rattle.argo_laws.proofs.Names.{stands}
use Rattle.argo_laws.proofs.EndSteps.{entry_each}
use Rattle.reply_causes.proofs.LineLaws.{all_replies_have_causes}
use Rattle.argo_laws.proofs.AllSteps as steps
use Rattle.argo_laws.proofs.Accounts as accounts

pub stands_well : (s : Script) (schedule : List ℕ) (name : RingName) (at : RingAt) → standing (run s schedule).state name ≡ Some at → StandsWell (run s schedule).state at
stands_well s schedule name at stood =
    let u = (run s schedule).state in
    let st = stands u name at stood in
    let fit : IfSome (Some at.live) (IsLive (is_alive u)) = subst (λ (o : Option Live). IfSome o (IsLive (is_alive u))) st.life (fit_found (is_alive u) u name.owner at.domain st.domain (valid_run s schedule).lives) in
    record { owner = fit; ring = entry_each (IsRing (is_alive u) at.live.bytes) at.live.rings name.serial (at.key, at.ring) st.entry fit.rings }

eqb_is : (a b : ℕ) → (a == b) ≡ true → a ≡ b
eqb_is a b h = grind (arith, nat_tests)

eqb_from : (a b : ℕ) → a ≡ b → (a == b) ≡ true
eqb_from a b h = grind (arith, nat_tests)

pub starts_clean_where_equal : StartsCleanWhereEqual
starts_clean_where_equal p is_fit sized = (forth, back) where
  start : ℕ
  start = start_place p.ring.len (rx_word p.own) (tx_word p.own)

  rx : rx_word (started p).own ≡ rx_word p.own
  rx = start_rx p.ring p.own (legal p.ring.len is_fit) sized

  tx : tx_word (started p).own ≡ start_place p.ring.len (rx_word p.own) (tx_word p.own)
  tx = start_tx p.ring p.own (legal p.ring.len is_fit) sized

  forth : (started p).ring.clean ≡ true → rx_word (started p).own ≡ tx_word (started p).own
  forth clean =
      rx ∙ eqb_is (rx_word p.own) (start_place p.ring.len (rx_word p.own) (tx_word p.own)) (and_parts (is_place p.ring.len (rx_word p.own)) (rx_word p.own == start_place p.ring.len (rx_word p.own) (tx_word p.own)) clean).1
      ∙ sym tx

  back : rx_word (started p).own ≡ tx_word (started p).own → (started p).ring.clean ≡ true
  back same =
      let e : rx_word p.own ≡ start_place p.ring.len (rx_word p.own) (tx_word p.own) = sym rx ∙ same ∙ tx in
      and_from (is_place p.ring.len (rx_word p.own)) (rx_word p.own == start_place p.ring.len (rx_word p.own) (tx_word p.own))
      (subst (λ n. IsTrue (is_place p.ring.len n)) (sym e) (start_is_place p.ring p.own (legal p.ring.len is_fit) sized))
      (eqb_from (rx_word p.own) (start_place p.ring.len (rx_word p.own) (tx_word p.own)) e)

pub headline : (s : Script) (schedule : List ℕ) → Headline s schedule
headline s schedule =
    record {
      clean_rings_hold = λ k. accounts.holding s (take k schedule);
      replies_have_causes = λ k. all_replies_have_causes s (take k schedule);
      notices_stand = λ k. steps.notices s (take k schedule);
      flags_stay = λ k. steps.flags s (take k schedule);
    }
