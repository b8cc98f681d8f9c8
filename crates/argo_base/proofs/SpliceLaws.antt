-- Laws of writes over a part of a list.
use Rattle.std.proofs.Common.{◌≡◌, ℕ, ◌+◌, ◌-◌, ◌≤◌, List, [], ◌++◌, length, take, drop, sym, ap, ◌∙◌, subst, add_assoc, add-zero, append_assoc, arith, length-append, length-take, length-drop}
use Rattle.std.proofs.Math.Seq.{take-append-add, drop-append-add, take-append_seam}
use Rattle.std.proofs.lemmas.List.{append-nil, take-append-le, drop-append-le, drop_all, take_at, drop_at, length-take-le, drop-drop, drop-take, take-take, take-append-drop}
use Rattle.argo_base.specs.Splice.{splice}

module _ {A : Type 0} where
  -- a write of nothing
  pub splice-nil : (xs : List A) (at : ℕ) → splice xs at [] ≡ xs
  splice-nil xs at = rw (add-zero at) (take-append-drop at xs)

  -- a write past the first of two lists
  pub splice-append_right : (xs ys zs : List A) (at : ℕ) → splice (xs ++ ys) (length xs + at) zs ≡ xs ++ splice ys at zs
  splice-append_right xs ys zs at =
      rw (take-append-add xs ys at, add_assoc (length xs) at (length zs), drop-append-add xs ys (at + length zs))
      (append_assoc xs (take at ys) (zs ++ drop (at + length zs) ys))

  -- a write inside the first of two lists
  pub splice-append_left : (xs ys zs : List A) (at : ℕ) → at + length zs ≤ length xs → splice (xs ++ ys) at zs ≡ splice xs at zs ++ ys
  splice-append_left xs ys zs at inside =
      let a : take at (xs ++ ys) ≡ take at xs = take-append-le at xs ys (omega arith) in
      let b : drop (at + length zs) (xs ++ ys) ≡ drop (at + length zs) xs ++ ys = drop-append-le (at + length zs) xs ys inside in
      rw (a, b) (simp append_assoc)

  -- a write over the seam of two lists is a write at the end of the first, and one at the start of the second
  pub splice-append_seam : (xs ys zs ws : List A) (at : ℕ) → at + length zs ≡ length xs
      → splice (xs ++ ys) at (zs ++ ws) ≡ splice xs at zs ++ splice ys 0 ws
  splice-append_seam xs ys zs ws at meets =
      let a : take at (xs ++ ys) ≡ take at xs = take-append-le at xs ys (omega arith) in
      let n : at + length (zs ++ ws) ≡ length xs + length ws = omega (arith, length-append zs ws) in
      let b : drop (length xs + length ws) (xs ++ ys) ≡ drop (length ws) ys = drop-append-add xs ys (length ws) in
      let c : drop (at + length zs) xs ≡ [] = drop_all (at + length zs) xs (omega arith) in
      let e : 0 + length ws ≡ length ws = omega arith in
      rw (a, n, b, c, e) (simp (append_assoc, append-nil))

  -- a write inside a list keeps its length
  pub length-splice : (xs zs : List A) (at : ℕ) → at + length zs ≤ length xs → length (splice xs at zs) ≡ length xs
  length-splice xs zs at inside = simp (length-append, length-take, length-drop) (omega arith)

  -- what was written is there
  pub take-splice : (xs zs : List A) (at : ℕ) → at ≤ length xs → take (length zs) (drop at (splice xs at zs)) ≡ zs
  take-splice xs zs at inside =
      let a : drop at (splice xs at zs) ≡ zs ++ drop (at + length zs) xs = drop_at (take at xs) (zs ++ drop (at + length zs) xs) at (length-take-le at xs inside) in
      rw a (take-append_seam zs (drop (at + length zs) xs))

  -- what stands before it stays
  pub take-splice_before : (xs zs : List A) (at from n : ℕ) → from + n ≤ at → at ≤ length xs → take n (drop from (splice xs at zs)) ≡ take n (drop from xs)
  take-splice_before xs zs at from n before inside =
      let m : from + (at - from) ≡ at = omega arith in
      let t : length (take at xs) ≡ at = length-take-le at xs inside in
      let rest = zs ++ drop (at + length zs) xs in
      let a : drop from (take at xs ++ rest) ≡ drop from (take at xs) ++ rest = drop-append-le from (take at xs) rest (omega arith) in
      let b : take n (drop from (take at xs) ++ rest) ≡ take n (drop from (take at xs)) =
      take-append-le n (drop from (take at xs)) rest (omega (arith, length-drop from (take at xs))) in
      let c : drop from (take at xs) ≡ take (at - from) (drop from xs) =
      subst (λ k. drop from (take k xs) ≡ take (at - from) (drop from xs)) m (drop-take from (at - from) xs) in
      rw (a, b, c) (take-take n (at - from) (drop from xs) (omega arith))

  -- what stands behind it stays
  pub drop-splice_after : (xs zs : List A) (at from : ℕ) → at + length zs ≤ from → at ≤ length xs → drop from (splice xs at zs) ≡ drop from xs
  drop-splice_after xs zs at from behind inside =
      let k = at + length zs in
      let l : length (take at xs ++ zs) ≡ k = length-append (take at xs) zs ∙ ap (λ n. n + length zs) (length-take-le at xs inside) in
      let m : k + (from - k) ≡ from = omega arith in
      let a : splice xs at zs ≡ (take at xs ++ zs) ++ drop k xs = sym (append_assoc (take at xs) zs (drop k xs)) in
      let b : drop (length (take at xs ++ zs) + (from - k)) ((take at xs ++ zs) ++ drop k xs) ≡ drop (from - k) (drop k xs) =
      drop-append-add (take at xs ++ zs) (drop k xs) (from - k) in
      let c : drop (from - k) (drop k xs) ≡ drop (k + (from - k)) xs = drop-drop (from - k) k xs in
      ap (drop from) a ∙ ap (λ n. drop n ((take at xs ++ zs) ++ drop k xs)) (sym m ∙ ap (λ n. n + (from - k)) (sym l)) ∙ b ∙ c ∙ ap (λ n. drop n xs) m

  -- a write into a part of a list, as the part has it
  pub part-splice : (xs zs : List A) (base size off : ℕ) → off + length zs ≤ size → base + size ≤ length xs
      → take size (drop base (splice xs (base + off) zs)) ≡ splice (take size (drop base xs)) off zs
  part-splice xs zs base size off fit inside =
      let ys = drop base xs in
      let n : length (take base xs) ≡ base = length-take-le base xs (omega arith) in
      let y : length ys ≡ length xs - base = length-drop base xs in
      let t : length (take size ys) ≡ size = length-take-le size ys (omega arith) in
      let a : splice (take base xs ++ ys) (base + off) zs ≡ take base xs ++ splice ys off zs = rw n at (splice-append_right (take base xs) ys zs off) in
      let b : splice xs (base + off) zs ≡ take base xs ++ splice ys off zs = rw (take-append-drop base xs) at a in
      let c : drop base (take base xs ++ splice ys off zs) ≡ splice ys off zs = drop_at (take base xs) (splice ys off zs) base n in
      let d : splice (take size ys ++ drop size ys) off zs ≡ splice (take size ys) off zs ++ drop size ys =
      splice-append_left (take size ys) (drop size ys) zs off (omega arith) in
      let e : splice ys off zs ≡ splice (take size ys) off zs ++ drop size ys = rw (take-append-drop size ys) at d in
      let f : length (splice (take size ys) off zs) ≡ size = length-splice (take size ys) zs off (omega arith) ∙ t in
      ap (λ x. take size (drop base x)) b ∙ ap (take size) (c ∙ e) ∙ take_at (splice (take size ys) off zs) (drop size ys) size f

  -- a write that goes on where another ended
  pub splice-splice : (xs ys zs : List A) (at : ℕ) → at + length ys ≤ length xs → splice (splice xs at ys) (at + length ys) zs ≡ splice xs at (ys ++ zs)
  splice-splice xs ys zs at inside =
      let k = at + length ys in
      let l : length (take at xs ++ ys) ≡ k = length-append (take at xs) ys ∙ ap (λ n. n + length ys) (length-take-le at xs (omega arith)) in
      let a : splice xs at ys ≡ (take at xs ++ ys) ++ drop k xs = sym (append_assoc (take at xs) ys (drop k xs)) in
      let b : splice ((take at xs ++ ys) ++ drop k xs) (k + 0) zs ≡ (take at xs ++ ys) ++ splice (drop k xs) 0 zs =
      rw l at (splice-append_right (take at xs ++ ys) (drop k xs) zs 0) in
      let c : drop (0 + length zs) (drop k xs) ≡ drop (at + length (ys ++ zs)) xs =
      drop-drop (0 + length zs) k xs ∙ ap (λ n. drop n xs) (omega (arith, length-append ys zs)) in
      ap (λ x. splice x k zs) a ∙ ap (λ n. splice ((take at xs ++ ys) ++ drop k xs) n zs) (sym (add-zero k)) ∙ b ∙ rw c (simp append_assoc)
