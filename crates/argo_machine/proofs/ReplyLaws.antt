-- Laws of the replies and the numbers of their steps.
use Rattle.std.proofs.Common.{◌≡◌, ◌≢◌, ℕ, ◌+◌, ◌<◌, cond, eqb, List, [], ◌∷◌, ◌++◌, length, take, get_or, map, count_by, Option, Some, None, refl, sym, ap, ◌∙◌, append_assoc, arith, add-zero, ⊎_elim}
use Rattle.std.proofs.lemmas.Bool.{cases_eq}
use Rattle.std.proofs.lemmas.List.{append-nil, length-append, length-take-le, take_more}
use Rattle.std.proofs.lemmas.List.Elements.{filter-append}
use Rattle.std.proofs.lemmas.List.Sums.{length-filter}
use Rattle.std.specs.List.{range_with_len}
use Rattle.argo_model.specs.declared.closing.DoneLine.{DoneLine}
use Rattle.argo_model.specs.declared.reply.Reply.{Reply}
use Rattle.argo_model.specs.Runs.Run.{Step, Course}
use Rattle.argo_model.specs.Runs.Final.{done_lines}
use Rattle.argo_model.specs.Runs.Closed.{heard_at, heard_from, steps_by, heard_of, heard_all}
use Rattle.argo_machine.specs.Replies.{reply_steps, heard_line_by, heard_among, KeepsSteps}
use Rattle.argo_machine.proofs.TestLaws.{same_number, other_number}

-- one step more of a section
heard_from-push : (n : ℕ) (ts : List Step) (t : Step) → heard_from n (ts ++ t ∷ []) ≡ heard_from n ts ++ heard_at (n + length ts) t.reply
heard_from-push n [] t = append-nil (heard_at n t.reply) ∙ ap (λ k. heard_at k t.reply) (sym (add-zero n))
heard_from-push n (x ∷ ts) t =
    let at : n + 1 + length ts ≡ n + length (x ∷ ts) = omega arith in
    ap (λ hs. heard_at n x.reply ++ hs) (heard_from-push (n + 1) ts t)
    ∙ sym (append_assoc (heard_at n x.reply) (heard_from (n + 1) ts) (heard_at (n + 1 + length ts) t.reply))
    ∙ ap (λ k. (heard_at n x.reply ++ heard_from (n + 1) ts) ++ heard_at k t.reply) at

heard_of-same : (steps : List Step) (x : Step) (v n : ℕ) → x.vcpu ≡ v → n ≡ count_by (λ t. eqb t.vcpu v) steps + 1
    → heard_of (steps ++ x ∷ []) v ≡ heard_of steps v ++ heard_at n x.reply
heard_of-same steps x v n e at =
    let many = length-filter (λ t. eqb t.vcpu v) steps in
    let k : 1 + length (steps_by v steps) ≡ n = omega arith in
    ap (heard_from 1) (filter-append (λ t. eqb t.vcpu v) steps (x ∷ []) ∙ ap (λ b. steps_by v steps ++ cond b (x ∷ []) []) (same_number x.vcpu v e))
    ∙ heard_from-push 1 (steps_by v steps) x
    ∙ ap (λ m. heard_of steps v ++ heard_at m x.reply) k

-- a step of another section is nothing to it
heard_of-other : (steps : List Step) (x : Step) (v : ℕ) → x.vcpu ≢ v → heard_of (steps ++ x ∷ []) v ≡ heard_of steps v
heard_of-other steps x v e =
    ap (heard_from 1) (filter-append (λ t. eqb t.vcpu v) steps (x ∷ []) ∙ ap (λ b. steps_by v steps ++ cond b (x ∷ []) []) (other_number x.vcpu v e)
    ∙ append-nil (steps_by v steps))

-- one line more
heard_among-push : (ds : List DoneLine) (ns : List ℕ) (d : DoneLine) (n v : ℕ) → length ns ≡ length ds
    → heard_among (ds ++ d ∷ []) (ns ++ n ∷ []) v ≡ heard_among ds ns v ++ heard_line_by v d n
heard_among-push [] [] d n v many = append-nil (heard_line_by v d n)
heard_among-push [] (m ∷ ns) d n v many = absurd (omega arith)
heard_among-push (x ∷ ds) [] d n v many = absurd (omega arith)
heard_among-push (x ∷ ds) (m ∷ ns) d n v many =
    ap (λ hs. heard_line_by v x m ++ hs) (heard_among-push ds ns d n v (omega arith))
    ∙ sym (append_assoc (heard_line_by v x m) (heard_among ds ns v) (heard_line_by v d n))

-- one line more of those that there are
pub heard_among-more : (ds : List DoneLine) (ns : List ℕ) (i : ℕ) (d : DoneLine) (v : ℕ) → length ns ≡ length ds → i < length ds → d ≡ get_or ds i d
    → heard_among (take (i + 1) ds) (take (i + 1) ns) v ≡ heard_among (take i ds) (take i ns) v ++ heard_line_by v d (get_or ns i 0)
heard_among-more ds ns i d v many inside read =
    let first : take (i + 1) ds ≡ take i ds ++ d ∷ [] = take_more ds i d inside ∙ ap (λ x. take i ds ++ x ∷ []) (sym read) in
    let second : take (i + 1) ns ≡ take i ns ++ get_or ns i 0 ∷ [] = take_more ns i 0 (omega arith) in
    ap (λ xs. heard_among xs (take (i + 1) ns) v) first ∙ ap (λ ks. heard_among (take i ds ++ d ∷ []) ks v) second
    ∙ heard_among-push (take i ds) (take i ns) d (get_or ns i 0) v (length-take-le i ns (omega arith) ∙ sym (length-take-le i ds (omega arith)))

line_of-same : (v line n w : ℕ) (r : Reply) → v ≡ w → heard_line_by w (record { vcpu = v; line = line; reply = r }) n ≡ heard_at n (Some r)
line_of-same v line n w r e = ap (λ b. cond b (record { reply = r; step = n } ∷ []) []) (same_number v w e)

line_of-other : (v line n w : ℕ) (r : Reply) → v ≢ w → heard_line_by w (record { vcpu = v; line = line; reply = r }) n ≡ []
line_of-other v line n w r e = ap (λ b. cond b (record { reply = r; step = n } ∷ []) []) (other_number v w e)

-- one step more of section v, for section w
heard_step : (ds : List DoneLine) (ns : List ℕ) (steps : List Step) (x : Step) (v line n : ℕ) (reply : Option Reply) (w : ℕ)
    → KeepsSteps ds ns steps → x.vcpu ≡ v → x.reply ≡ reply → n ≡ count_by (λ t. eqb t.vcpu v) steps + 1
    → heard_among (ds ++ done_lines v line reply) (ns ++ reply_steps n reply) w ≡ heard_of (steps ++ x ∷ []) w
heard_step ds ns steps x v line n None w keeps e is at =
    ap (λ ys. heard_among ys (ns ++ []) w) (append-nil ds) ∙ ap (λ ys. heard_among ds ys w) (append-nil ns) ∙ keeps.heard_is w
    ∙ ⊎_elim
    (λ same. sym (heard_of-same steps x w (count_by (λ t. eqb t.vcpu w) steps + 1) (e ∙ same) refl ∙ ap (λ y. heard_of steps w ++ heard_at (count_by (λ t. eqb t.vcpu w) steps + 1) y) is ∙ append-nil (heard_of steps w)))
    (λ other. sym (heard_of-other steps x w (λ s. other (sym e ∙ s))))
    (cases_eq v w)
heard_step ds ns steps x v line n (Some r) w keeps e is at =
    let d : DoneLine = record { vcpu = v; line = line; reply = r } in
    heard_among-push ds ns d n w keeps.as_many ∙ ap (λ hs. hs ++ heard_line_by w d n) (keeps.heard_is w)
    ∙ ⊎_elim
    (λ same. ap (λ hs. heard_of steps w ++ hs) (line_of-same v line n w r same ∙ ap (heard_at n) (sym is))
    ∙ sym (heard_of-same steps x w n (e ∙ same) (at ∙ ap (λ k. count_by (λ t. eqb t.vcpu k) steps + 1) same)))
    (λ other. ap (λ hs. heard_of steps w ++ hs) (line_of-other v line n w r other) ∙ append-nil (heard_of steps w)
    ∙ sym (heard_of-other steps x w (λ s. other (sym e ∙ s))))
    (cases_eq v w)

as_many_more : (ds : List DoneLine) (ns : List ℕ) (v line n : ℕ) (reply : Option Reply) → length ns ≡ length ds
    → length (ns ++ reply_steps n reply) ≡ length (ds ++ done_lines v line reply)
as_many_more ds ns v line n None many = ap length (append-nil ns) ∙ many ∙ sym (ap length (append-nil ds))
as_many_more ds ns v line n (Some r) many = length-append ns (n ∷ []) ∙ ap (λ k. k + 1) many ∙ sym (length-append ds (record { vcpu = v; line = line; reply = r } ∷ []))

-- the steps of the replies are kept along with a step of section v
pub keeps_step : (ds : List DoneLine) (ns : List ℕ) (steps : List Step) (x : Step) (v line n : ℕ) (reply : Option Reply)
    → KeepsSteps ds ns steps → x.vcpu ≡ v → x.reply ≡ reply → n ≡ count_by (λ t. eqb t.vcpu v) steps + 1
    → KeepsSteps (ds ++ done_lines v line reply) (ns ++ reply_steps n reply) (steps ++ x ∷ [])
keeps_step ds ns steps x v line n reply keeps e is at =
    record {
      as_many = as_many_more ds ns v line n reply keeps.as_many;
      heard_is = λ w. heard_step ds ns steps x v line n reply w keeps e is at;
    }

map_alike : {A : Type 0} (f g : ℕ → A) → ((k : ℕ) → f k ≡ g k) → (ks : List ℕ) → map f ks ≡ map g ks
map_alike f g same [] = refl
map_alike f g same (k ∷ ks) = ap (λ y. y ∷ map f ks) (same k) ∙ ap (λ ys. g k ∷ ys) (map_alike f g same ks)

-- what is heard of the lines that are kept is what is heard of the run
pub heard_all-kept : (n : ℕ) (ds : List DoneLine) (ns : List ℕ) (c : Course) → n ≡ length c.sections → KeepsSteps ds ns c.steps
    → map (heard_among ds ns) (range_with_len 0 n) ≡ heard_all c
heard_all-kept n ds ns c many keeps =
    map_alike (heard_among ds ns) (heard_of c.steps) keeps.heard_is (range_with_len 0 n)
    ∙ ap (λ k. map (heard_of c.steps) (range_with_len 0 k)) many
