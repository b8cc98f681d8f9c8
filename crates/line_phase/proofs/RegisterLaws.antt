-- Laws of register_ring.
use Rattle.std.proofs.Common.{◌≡◌, ℕ, ◌*◌, ◌≤◌, true, not, ◌==◌, List, refl, ap, arith}
use Rattle.std.proofs.lemmas.Bool.Decides.{nat_tests}
use Rattle.argo_base.specs.declared.errno.Errno.TheVariants.{Inval, Fault}
use Rattle.argo_base.specs.declared.piece.Piece.{Piece}
use Rattle.argo_base.specs.Pieces.{pieces}
use Rattle.argo_base.specs.Slots.{page_count}
use Rattle.argo_base.specs.Layout.{u16_at, u32_at, numbers_at}
use Rattle.argo_model.specs.declared.action.Action.TheVariants.{Register as RegisterNow}
use Rattle.line_phase.specs.declared.phase.Phase.{Phase}
use Rattle.line_phase.specs.declared.phase.Followed.TheVariants.{To}
use Rattle.line_phase.specs.declared.phase.Reader.TheVariants.{Register}
use Rattle.line_phase.specs.declared.reads.NewRing.{NewRing}
use Rattle.line_phase.specs.declared.reads.RegisterRead.TheVariants.{Pages}
use Rattle.argo_model.specs.Programs.Asks.{ask, read, refusal, say_done}
use Rattle.argo_model.specs.Programs.Register.{register_head, register_pages, is_register_head}
use Rattle.line_phase.specs.Followed.{Leads, Reads}
use Rattle.line_phase.proofs.LeadLaws.{leads_passed, reads_lead}

-- a lawful structure counts the pages of its ring, at most 4,097
pub head_counts : (count : ℕ) (head : List ℕ) → is_register_head count head ≡ true → count ≡ page_count (u32_at head 8)
head_counts count head fits = grind (arith, nat_tests)

pub head_within : (count : ℕ) (head : List ℕ) → is_register_head count head ≡ true → count ≤ 4097
head_within count head fits = grind (arith, nat_tests)

-- after a lawful structure the page list is read
pub pages_lead : (ps : List Piece) (a2 a3 a4 : ℕ) (head : List ℕ) (ring : NewRing) (phase : Phase)
    → is_register_head a3 head ≡ true → ring.port ≡ u32_at head 0 → ring.partner ≡ u16_at head 4 → ring.len ≡ u32_at head 8 → ring.fail_exist ≡ (a4 == 1)
    → ps ≡ pieces a2 (8 * a3) → Reads ps (Register (Pages ring)) phase → Leads (register_head a2 a3 a4 head) 11 (To phase)
pages_lead ps a2 a3 a4 head ring phase fits p q l f same reads =
    let count = head_counts a3 head fits in
    let few = head_within a3 head fits in
    leads_passed (not (is_register_head a3 head)) Inval (read a2 (8 * a3) (register_pages a3 a4 head)) 11 (To phase) (ap not fits)
    (reads_lead ps a2 (8 * a3) (Register (Pages ring)) phase (refusal Fault) (register_pages a3 a4 head) 11 same (λ os. refl)
    (λ bs os. rw (p, q, l, f) (ap (λ n. ask (RegisterNow (u32_at head 0) (u16_at head 4) (u32_at head 8) (numbers_at bs n) (a4 == 1)) say_done os) count))
    (omega arith) reads)
