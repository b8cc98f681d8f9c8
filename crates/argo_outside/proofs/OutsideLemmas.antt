-- Laws of what sources tell and sinks hold, for loops over calls.
use Rattle.std.proofs.Common.{◌≡◌, ℕ, ◌+◌, ◌≤◌, List, [], ◌++◌, length, take, drop, Option, Some, None, refl, sym, ap, ◌∙◌, append_assoc, length-append, arith}
use Rattle.std.proofs.lemmas.List.{append-nil, take-append-drop, drop-drop, take_at, drop_at, take-append-le}
use Rattle.std.proofs.Math.Seq.{take-add, take-append-add}
use Rattle.argo_outside.specs.Source.{behind, IsAtEnd, LostUpTo}
use Rattle.argo_outside.specs.Sink.{appended, CutShort}

pub appended_again : (old : Option (List ℕ)) (xs ys : List ℕ) → appended (appended old xs) ys ≡ appended old (xs ++ ys)
appended_again None xs ys = refl
appended_again (Some written) xs ys = ap Some (append_assoc written xs ys)

pub appended-nil : (old : Option (List ℕ)) → appended old [] ≡ old
appended-nil None = refl
appended-nil (Some written) = ap Some (append-nil written)

-- one more write from a place of a piece on
pub appended_more : (old : Option (List ℕ)) (piece : List ℕ) (at k : ℕ) → appended (appended old (take at piece)) (take k (drop at piece)) ≡ appended old (take (at + k) piece)
appended_more old piece at k = appended_again old (take at piece) (take k (drop at piece)) ∙ ap (appended old) (sym (take-add at k piece))

pub behind_again : (xs ys : List ℕ) (rest : Option (List ℕ)) → behind xs (behind ys rest) ≡ behind (xs ++ ys) rest
behind_again xs ys None = refl
behind_again xs ys (Some rest) = ap Some (sym (append_assoc xs ys rest))

pub behind-nil : (rest : Option (List ℕ)) → behind [] rest ≡ rest
behind-nil None = refl
behind-nil (Some rest) = refl

-- what was taken up to the end is all that was left
pub all_at_end : (bs xs : List ℕ) (rest : Option (List ℕ)) → Some xs ≡ behind bs rest → IsAtEnd rest → xs ≡ bs
all_at_end bs xs None told end = cc
all_at_end bs xs (Some rest) told end = let e = append-nil bs in cc

-- what is behind a place is so many, and what is behind those
pub drop_in_two : (place count : ℕ) (bs : List ℕ) → take count (drop place bs) ++ drop (place + count) bs ≡ drop place bs
drop_in_two place count bs = ap (λ rest. take count (drop place bs) ++ rest) (sym (drop-drop count place bs)) ∙ take-append-drop count (drop place bs)

-- what was taken and what is left are the two parts of what was left
pub parts_of_left : (bs xs : List ℕ) (rest : Option (List ℕ)) → Some xs ≡ behind bs rest → (bs ≡ take (length bs) xs) × (rest ≡ Some (drop (length bs) xs))
parts_of_left bs xs None told = cc
parts_of_left bs xs (Some rest) told =
    let front = take_at bs rest (length bs) refl in
    let back = drop_at bs rest (length bs) refl in
    (cc, cc)

-- what was taken before is lost too
pub LostUpTo-after : (most want : ℕ) (bs : List ℕ) (old mid new : Option (List ℕ)) → length bs + want ≤ most → old ≡ behind bs mid → LostUpTo want mid new → LostUpTo most old new
LostUpTo-after most want bs old mid new fit told later = record {
  lost = bs ++ later.lost;
  few = omega (arith, later.few, length-append bs later.lost);
  told = told ∙ ap (behind bs) later.told ∙ behind_again bs later.lost new;
}

-- a piece that is cut short is cut short before what would follow it
pub CutShort-before : {old new : Option (List ℕ)} (xs ys : List ℕ) → CutShort old new xs → CutShort old new (xs ++ ys)
CutShort-before {old = old} xs ys cut = record {
  count = cut.count;
  not_all = let more = cut.not_all in omega (arith, length-append xs ys);
  part = let e = take-append-le cut.count xs ys (omega (arith, cut.not_all)) in cut.part ∙ ap (appended old) (sym e);
}

-- and what went before it is a part too
pub CutShort-after : (old mid new : Option (List ℕ)) (xs ys : List ℕ) → mid ≡ appended old xs → CutShort mid new ys → CutShort old new (xs ++ ys)
CutShort-after old mid new xs ys before cut = record {
  count = length xs + cut.count;
  not_all = let more = cut.not_all in omega (arith, length-append xs ys);
  part =
      let rest = take cut.count ys in
      cut.part ∙ ap (λ written. appended written rest) before ∙ appended_again old xs rest ∙ ap (appended old) (sym (take-append-add xs ys cut.count));
}
