-- A recv has its cause.
use Rattle.std.proofs.Common.{ℕ, ◌-◌, ◌*◌, ◌==◌, not, ◌&&◌, List, [], length, drop, sym, subst}
use Rattle.std.specs.Prelude.{unwrap_or, is_none}
use Rattle.std.proofs.lemmas.List.{drop-map}
use Rattle.argo_base.specs.Layout.{u32_at, u32_bytes}
use Rattle.argo_base.specs.Slots.{up, is_place, place_after}
use Rattle.argo_model.specs.declared.scripts.Actor.{Actor}
use Rattle.argo_model.specs.declared.scripts.Actor.TheVariants.{Vcpu}
use Rattle.argo_model.specs.declared.reply.Reply.{Reply}
use Rattle.argo_model.specs.declared.reply.Reply.TheVariants.{Empty, Bad, Fault}
use Rattle.argo_model.specs.Rules.State.{State}
use Rattle.argo_model.specs.Programs.Asks.{Say, fetch_all}
use Rattle.argo_model.specs.Programs.Recv.{Found, FoundMessage, FoundEmpty, recv, recv_at, recv_tx, end_if, recv_words, recv_head, recv_body, is_message_size, message_of, say_found, take_slots}
use Rattle.argo_model.specs.Laws.Transitions.{Transition}
use Rattle.argo_model.specs.Laws.SendCauses.{found}
use Rattle.reply_causes.specs.Tables.{case}
use Rattle.reply_causes.specs.RecvCauses.{received, Looked, rx_of, tx_of, head_of, cause_of_recv, rx_pieces, tx_pieces, head_pieces, body_pieces, word_steps, head_steps, body_steps, recv_looked}
use Rattle.reply_causes.specs.Causes.{RecvsHaveCauses}
use Rattle.reply_causes.proofs.StepLaws.{Ends, ends, befores, Over}
use Rattle.reply_causes.proofs.TableLaws.{over-cause, says-over, replies-over, fetch-over, fetch-later}
use Rattle.reply_causes.proofs.MemoryLaws.{puts-over}

recv-over : (d generation ring len : ℕ) (ts : List Transition) (r : Reply) → Ends (Vcpu d generation) (λ os. recv_at say_found ring len os) ts r
    → Over (cause_of_recv len (recv_looked d ring len (befores ts))) ts r
recv-over d generation ring len ts r h =
    fetch-over d generation (rx_pieces ring) Fault _ (λ rx os. recv_tx say_found ring len (u32_at rx 0) os) ts r h (λ h.
    fetch-later d generation (tx_pieces ring) Fault _ (λ tx os. recv_words say_found ring len (rx_of l) (u32_at tx 0) os) (length (rx_pieces ring)) ts r h (λ h.
    replies-over actor (not (is_place len (rx_of l) && is_place len (tx_of l))) Bad _
    (λ os. end_if (rx_of l == tx_of l) (say_found FoundEmpty) (λ os. take_slots say_found ring len (rx_of l) 16 (recv_head say_found ring len (rx_of l) (tx_of l)) os) os) (drop (word_steps ring) ts) r h (λ h.
    replies-over actor (rx_of l == tx_of l) Empty _ (λ os. take_slots say_found ring len (rx_of l) 16 (recv_head say_found ring len (rx_of l) (tx_of l)) os) (drop (word_steps ring) ts) r h (λ h.
    fetch-later d generation (head_pieces ring len (rx_of l)) Fault _ (recv_head say_found ring len (rx_of l) (tx_of l)) (word_steps ring) ts r h (λ h.
    replies-over actor (not (is_message_size len (rx_of l) (tx_of l) (u32_at (head_of l) 0))) Bad _
    (λ os. take_slots say_found ring len (place_after len (rx_of l) 16) (u32_at (head_of l) 0 - 16) (recv_body say_found ring len (rx_of l) (head_of l)) os) (drop (head_steps ring len (rx_of l)) ts) r h (λ h.
    fetch-later d generation (body_pieces ring len (rx_of l) (head_of l)) Fault _ (recv_body say_found ring len (rx_of l) (head_of l)) (head_steps ring len (rx_of l)) ts r h moves)))))) where
      actor : Actor
      actor = Vcpu d generation

      l : Looked
      l = recv_looked d ring len (befores ts)

      n : ℕ
      n = body_steps ring len (rx_of l) (head_of l)

      body : List ℕ
      body = unwrap_or l.body []

      moves : Ends actor (λ os. recv_body say_found ring len (rx_of l) (head_of l) body os) (drop n ts) r → Over (case (is_none l.moved) Fault (received (head_of l) body)) (drop n ts) r
      moves h =
          let P : List State → Type 0 = λ states. Over (case (is_none (found d (rx_pieces ring) states)) Fault (received (head_of l) body)) (drop n ts) r in
          subst P (sym (drop-map (λ (t : Transition). t.before) n ts)) (
          puts-over d generation (rx_pieces ring) (u32_bytes (place_after len (rx_of l) (up (u32_at (head_of l) 0)))) Fault (received (head_of l) body)
          (λ os. say_found (FoundMessage (u32_at (head_of l) 0 - 16) (message_of (head_of l) body))) (drop n ts) r h (λ h. says-over actor (received (head_of l) body) (drop (length (rx_pieces ring)) (drop n ts)) r h))

pub recvs_have_causes : RecvsHaveCauses
recvs_have_causes d generation page len ts r h =
    over-cause (cause_of_recv len (recv_looked d (page * 4096) len (befores ts))) ts r (
    recv-over d generation (page * 4096) len ts r (ends (Vcpu d generation) (λ os. recv page len os) ts r h))
