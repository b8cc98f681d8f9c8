-- What is kept where a section has a line left: its virtual CPU is there, and is not past its last line.
use Rattle.std.proofs.Common.{◌≡◌, ℕ, ◌<◌, List, sym, ◌∙◌, subst, Some, slice_get, length, get_or}
use Rattle.argo_model.specs.declared.closing.DoneLine.{DoneLine}
use Rattle.argo_model.specs.declared.closing.Run.{Run}
use Rattle.vcpu_machine.specs.Vcpu.{VcpuAt}
use Rattle.argo_machine.specs.Kept.{WorldAt, KeptAt, IsOpenIn}
use Rattle.argo_machine.proofs.StandLaws.{open_at, slice_get-read, some_inside}

abbrev pub kept_with : List VcpuAt → WorldAt → List Run → List DoneLine → List ℕ → KeptAt
kept_with xs w runs done ns = record { vcpus = xs; world = w; runs = runs; done = done; reply_steps = ns }

pub inside : (k : KeptAt) (v : ℕ) → IsOpenIn k v → v < length k.vcpus
inside k v open_in =
    let at = open_at k.vcpus open_in.course.sections v open_in.keeps.stand open_in.unfinished in
    some_inside k.vcpus v at.vcpu at.here

pub here : (k : KeptAt) (v : ℕ) (x : VcpuAt) → IsOpenIn k v → x ≡ get_or k.vcpus v x → slice_get k.vcpus v ≡ Some x
here k v x open_in read = slice_get-read k.vcpus v x (inside k v open_in) read

pub more : (k : KeptAt) (v : ℕ) (x : VcpuAt) → IsOpenIn k v → x ≡ get_or k.vcpus v x → x.done < length x.part.lines
more k v x open_in read =
    let at = open_at k.vcpus open_in.course.sections v open_in.keeps.stand open_in.unfinished in
    let same : at.vcpu ≡ x = same_some at.vcpu x (sym at.here ∙ here k v x open_in read) in
    let P : VcpuAt → Type 0 = λ y. y.done < length y.part.lines in
    subst P same at.more
  where
    same_some : (x y : VcpuAt) → Some x ≡ Some y → x ≡ y
    same_some x y e = cc
