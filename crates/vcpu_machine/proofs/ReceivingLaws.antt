-- Laws of lines that the guest's library works through.
use Rattle.std.proofs.Common.{◌≡◌, ◌<◌, ◌∷◌, Bool, true, Option, Result, Ok, Err, OnOk, OnErr, IfNone, sym, ap, subst, ◌∙◌}
use Rattle.argo_model.specs.declared.action.Outcome.{Outcome}
use Rattle.argo_model.specs.Programs.Recv.{say_found}
use Rattle.argo_model.specs.declared.line.Line.{Line}
use Rattle.guest_lib.specs.Receiving.{Receiving, ahead, left_of, IsUnderWay}
use Rattle.line_phase.specs.declared.phase.Phase.TheVariants.{Receiving as Library}
use Rattle.argo_model.specs.declared.reply.Reply.{Reply}
use Rattle.vcpu_machine.specs.Going.{ReceiveMoves, ReceivesAlike}
use Rattle.vcpu_machine.specs.Line.{GoesOnAlike}

module _ (line : Line) (old new : Receiving) (h : IsUnderWay old) where
  -- that memory for the next outcome is there changes nothing of what is to come
  alike_by : (ready : Bool) → new ≡ record old { ready = ready } → GoesOnAlike line (Library old) (Library new)
  alike_by ready same = record {
    rest = λ os. ap (λ r. ahead say_found r os) same;
    at_phase = subst IsUnderWay (sym same) (record { left = h.left; next = h.next });
    left = ap left_of same;
  }

  pub recv_alike : {T E : Type 0} (r : Result T E) → OnOk r (new ≡ record old { ready = true }) → OnErr r (new ≡ old)
      → GoesOnAlike line (Library old) (Library new)
  recv_alike (Ok x) ok err = alike_by true ok
  recv_alike (Err e) ok err = alike_by old.ready err

module _ (old new : Receiving) (same : new ≡ record old { ready = true }) where
  pub still_under_way : IsUnderWay old → IsUnderWay new
  still_under_way h = subst IsUnderWay (sym same) (record { left = h.left; next = h.next })

  pub receives_alike : IsUnderWay old → ReceivesAlike old new
  receives_alike h = λ line. alike_by line old new h true same

  pub moves_from : (o : Outcome) (reply : Option Reply) (later : Receiving) → ReceiveMoves new o reply later → ReceiveMoves old o reply later
  moves_from o reply later moves = λ line.
      let m = moves line in
      let P : Receiving → Type 0 = λ r. IfNone reply (left_of later < left_of r) in
      record {
        feeds = λ os. ap (λ r. ahead say_found r (o ∷ os)) (sym same) ∙ m.feeds os;
        at_phase = m.at_phase;
        nearer = subst P same m.nearer;
      }

pub on_err : {T E : Type 0} (r : Result T E) (P : Type 0) → P → OnErr r P
on_err (Ok x) P h = tt
on_err (Err e) P h = h
