-- What a line adds has passed the checks of its kind.
use Rattle.std.proofs.Common.{◌≡◌, ℕ, Bool, true, false, not, ◌&&◌, ◌==◌, cond, List, length, Option, Some, None, IsSome, Result, Ok, Err, refl, sym, ap, subst, ◌∙◌}
use Rattle.std.specs.Prelude.{codes}
use Rattle.std.specs.List.{list_any}
use Rattle.std.specs.Str.{bytes_eq}
use Rattle.std.proofs.lemmas.Bool.{not-true, eqb-true}
use Rattle.argo_model.specs.declared.scripts.DomainLine.{DomainLine}
use Rattle.argo_model.specs.declared.scripts.Actor.{Actor}
use Rattle.argo_model.specs.declared.scripts.Actor.TheVariants as actors
use Rattle.argo_model.specs.declared.line.Line.{Line}
use Rattle.argo_model.specs.declared.line.Line.TheVariants as lines
use Rattle.argo_model.specs.Runs.Script.{Script, is_domain_id, is_page_count, is_vcpu_line, is_control_line, is_known_actor, has_domain, names_known, is_control, is_actor_of_one, is_line_of_one}
use Rattle.script_text.specs.declared.kind.ScriptKind.{ScriptKind}
use Rattle.script_text.specs.declared.kind.ScriptKind.TheVariants.{Count, Word, Range, Domain}
use Rattle.script_text.specs.declared.verb.Verb.{Verb}
use Rattle.script_text.specs.declared.verb.Verb.TheVariants as verbs
use Rattle.script_text.specs.declared.entry.Entry.{Entry}
use Rattle.script_text.specs.declared.entry.Entry.TheVariants as entries
use Rattle.script_text.specs.Verbs.{verb_of_one, verb_of}
use Rattle.script_text.specs.Entries.{◌>>=◌, unless, number, no_words, one_word, vcpu_words, domain_line, vcpu_of, vcpu_line, store_line, load_line, op_line, await_line, recv_line, vcpu_entry, named_domain, control_entry, is_actor_in_range, domain_entry, section_entry, control_section, entry_of}
use Rattle.script_text.specs.Reading.{last_actor, is_vcpu, is_controller, is_in_place, HasRoom}

-- the value of a step that did not fail
pub bind_ok : {A B : Type 0} (r : Result A ScriptKind) (f : A → Result B ScriptKind) (y : B) → (r >>= f) ≡ Ok y → (x : A) × (r ≡ Ok x) × (f x ≡ Ok y)
bind_ok (Ok x) f y e = (x, refl, e)
bind_ok (Err k) f y e = absurd cc

-- a test that did not fail
pub unless_ok : {A : Type 0} (b : Bool) (k : ScriptKind) (r : Result A ScriptKind) (y : A) → unless b k r ≡ Ok y → (b ≡ true) × (r ≡ Ok y)
unless_ok true k r y e = (refl, e)
unless_ok false k r y e = absurd cc

abbrev done : {A : Type 0} → A → Result A ScriptKind
done x = Ok x

ok_is : {A : Type 0} (x y : A) → done x ≡ done y → x ≡ y
ok_is x y e = cc

-- a line may stand in a section of the actor, within its range
abbrev pub is_line_for : Option Actor → Line → Bool
is_line_for None l = false
is_line_for (Some (actors.Vcpu d generation)) l = is_vcpu_line l
is_line_for (Some actors.Control) l = is_control_line l

pub record IsSoundDomain (s : Script) (d : DomainLine) : Type 0 where
  pub first : length s.sections ≡ 0
  pub ranges : (is_domain_id d.id && is_page_count d.pages) ≡ true
  pub new : has_domain s.domains d.id ≡ false

pub record IsSoundSection (s : Script) (a : Actor) : Type 0 where
  pub ranges : is_actor_in_range a ≡ true
  pub known : is_known_actor s.domains a ≡ true
  pub once : is_control a ≡ true → list_any (λ x. is_control x.actor) s.sections ≡ false
  pub format : (s.version == 2) ≡ false → is_actor_of_one a ≡ true

pub record IsSoundLine (s : Script) (l : Line) : Type 0 where
  pub place : is_line_for (last_actor s.sections) l ≡ true
  pub known : names_known s.domains l ≡ true
  pub format : (s.version == 2) ≡ false → is_line_of_one l ≡ true

abbrev pub IsSound : Script → Entry → Type 0
IsSound s (entries.Domain d) = IsSoundDomain s d
IsSound s (entries.Section a) = IsSoundSection s a
IsSound s (entries.Line l) = IsSoundLine s l

-- ---- lines of virtual CPUs

vcpu_known : (ds : List DomainLine) (l : Line) → is_vcpu_line l ≡ true → (names_known ds l ≡ true) × (is_line_of_one l ≡ true)
vcpu_known ds (lines.Store at bytes) h = (refl, refl)
vcpu_known ds (lines.Load at n) h = (refl, refl)
vcpu_known ds (lines.Op c a1 a2 a3 a4) h = (refl, refl)
vcpu_known ds (lines.Await turns) h = (refl, refl)
vcpu_known ds (lines.Recv page len) h = (refl, refl)
vcpu_known ds (lines.Destroy d) h = absurd cc
vcpu_known ds (lines.Reset d) h = absurd cc
vcpu_known ds (lines.Create d) h = absurd cc

vcpu_place : (a : Option Actor) (l : Line) → is_vcpu a ≡ true → is_vcpu_line l ≡ true → is_line_for a l ≡ true
vcpu_place None l p h = absurd cc
vcpu_place (Some (actors.Vcpu d generation)) l p h = h
vcpu_place (Some actors.Control) l p h = absurd cc

vcpu_sound : (s : Script) (read : Result Line ScriptKind) (e : Entry) → is_vcpu (last_actor s.sections) ≡ true → vcpu_entry read ≡ Ok e → IsSound s e
vcpu_sound s read e p h =
    let a = bind_ok read (λ l. unless (is_vcpu_line l) Range (Ok (entries.Line l))) e h in
    let b = unless_ok (is_vcpu_line a.0) Range (Ok (entries.Line a.0)) e a.2 in
    let known = vcpu_known s.domains a.0 b.0 in
    subst (λ (x : Entry). IsSound s x) (ok_is (entries.Line a.0) e b.1) (record { place = vcpu_place (last_actor s.sections) a.0 p b.0; known = known.0; format = λ _. known.1 })

-- ---- lines of the control section

control_place : (a : Option Actor) (l : Line) → is_controller a ≡ true → is_control_line l ≡ true → is_line_for a l ≡ true
control_place None l p h = absurd cc
control_place (Some (actors.Vcpu d generation)) l p h = absurd cc
control_place (Some actors.Control) l p h = h

named_known : (ds : List DomainLine) (ws : List (List ℕ)) (d : ℕ) → named_domain ds ws ≡ Ok d → has_domain ds d ≡ true
named_known ds ws d h =
    let w = bind_ok (one_word ws) (λ w. number w >>= λ n. unless (is_domain_id n) Range (unless (has_domain ds n) Domain (Ok n))) d h in
    let n = bind_ok (number w.0) (λ n. unless (is_domain_id n) Range (unless (has_domain ds n) Domain (Ok n))) d w.2 in
    let range = unless_ok (is_domain_id n.0) Range (unless (has_domain ds n.0) Domain (Ok n.0)) d n.2 in
    let known = unless_ok (has_domain ds n.0) Domain (Ok n.0) d range.1 in
    subst (λ (k : ℕ). has_domain ds k ≡ true) (ok_is n.0 d known.1) known.0

control_sound : (s : Script) (line : ℕ → Line) (ws : List (List ℕ)) (e : Entry) → is_controller (last_actor s.sections) ≡ true
    → ((d : ℕ) → is_control_line (line d) ≡ true) → ((d : ℕ) → names_known s.domains (line d) ≡ has_domain s.domains d) → ((d : ℕ) → (s.version == 2) ≡ false → is_line_of_one (line d) ≡ true)
    → control_entry line (named_domain s.domains ws) ≡ Ok e → IsSound s e
control_sound s line ws e p is names format h =
    let d = bind_ok (named_domain s.domains ws) (λ d. Ok (entries.Line (line d))) e h in
    subst (λ (x : Entry). IsSound s x) (ok_is (entries.Line (line d.0)) e d.2)
    (record { place = control_place (last_actor s.sections) (line d.0) p (is d.0); known = names d.0 ∙ named_known s.domains ws d.0 d.1; format = format d.0 })

-- ---- sections and domains

vcpu_of_is : (version : ℕ) (w : List ℕ × Option (List ℕ × List ℕ)) (a : Actor) → vcpu_of version w ≡ Ok a → (is_control a ≡ false) × ((version == 2) ≡ false → is_actor_of_one a ≡ true)
vcpu_of_is version (d, None) a h =
    let n = bind_ok (number d) (λ n. Ok (actors.Vcpu n 1)) a h in
    subst (λ (x : Actor). (is_control x ≡ false) × ((version == 2) ≡ false → is_actor_of_one x ≡ true)) (ok_is (actors.Vcpu n.0 1) a n.2) (refl, λ _. refl)
vcpu_of_is version (d, Some (gen, g)) a h =
    let two = unless_ok (version == 2) Count (unless (bytes_eq gen (codes "gen")) Word (number d >>= λ id. number g >>= λ m. Ok (actors.Vcpu id m))) a h in
    let named = unless_ok (bytes_eq gen (codes "gen")) Word (number d >>= λ id. number g >>= λ m. Ok (actors.Vcpu id m)) a two.1 in
    let n = bind_ok (number d) (λ id. number g >>= λ m. Ok (actors.Vcpu id m)) a named.1 in
    let m = bind_ok (number g) (λ m. Ok (actors.Vcpu n.0 m)) a n.2 in
    subst (λ (x : Actor). (is_control x ≡ false) × ((version == 2) ≡ false → is_actor_of_one x ≡ true)) (ok_is (actors.Vcpu n.0 m.0) a m.2) (refl, λ f. absurd cc)

section_sound : (s : Script) (ws : List (List ℕ)) (e : Entry) → section_entry s.version s.domains ws ≡ Ok e → IsSound s e
section_sound s ws e h =
    let a = bind_ok (vcpu_line s.version ws) (λ a. unless (is_actor_in_range a) Range (unless (is_known_actor s.domains a) Domain (Ok (entries.Section a)))) e h in
    let ranges = unless_ok (is_actor_in_range a.0) Range (unless (is_known_actor s.domains a.0) Domain (Ok (entries.Section a.0))) e a.2 in
    let known = unless_ok (is_known_actor s.domains a.0) Domain (Ok (entries.Section a.0)) e ranges.1 in
    let w = bind_ok (vcpu_words ws) (λ w. vcpu_of s.version w) a.0 a.1 in
    let of = vcpu_of_is s.version w.0 a.0 w.2 in
    subst (λ (x : Entry). IsSound s x) (ok_is (entries.Section a.0) e known.1) (record { ranges = ranges.0; known = known.0; once = λ c. absurd cc; format = of.1 })

control_section_sound : (s : Script) (ws : List (List ℕ)) (e : Entry) → not (list_any (λ x. is_control x.actor) s.sections) ≡ true → control_section ws ≡ Ok e → IsSound s e
control_section_sound s ws e p h =
    let u = bind_ok (no_words ws) (λ _. Ok (entries.Section actors.Control)) e h in
    subst (λ (x : Entry). IsSound s x) (ok_is (entries.Section actors.Control) e u.2) (record { ranges = refl; known = refl; once = λ _. not-true _ p; format = λ _. refl })

domain_sound : (s : Script) (ws : List (List ℕ)) (e : Entry) → (length s.sections == 0) ≡ true → domain_entry s.domains ws ≡ Ok e → IsSound s e
domain_sound s ws e p h =
    let d = bind_ok (domain_line ws) (λ d. unless (is_domain_id d.id && is_page_count d.pages) Range (unless (not (has_domain s.domains d.id)) Domain (Ok (entries.Domain d)))) e h in
    let ranges = unless_ok (is_domain_id d.0.id && is_page_count d.0.pages) Range (unless (not (has_domain s.domains d.0.id)) Domain (Ok (entries.Domain d.0))) e d.2 in
    let new = unless_ok (not (has_domain s.domains d.0.id)) Domain (Ok (entries.Domain d.0)) e ranges.1 in
    subst (λ (x : Entry). IsSound s x) (ok_is (entries.Domain d.0) e new.1) (record { first = eqb-true _ _ p; ranges = ranges.0; new = not-true _ new.0 })

-- ---- resets and creations are of format 2

abbrev is_of_two : Option Verb → Bool
is_of_two (Some verbs.Reset) = true
is_of_two (Some verbs.Create) = true
is_of_two _ = false

nine : (b1 b2 b3 b4 b5 b6 b7 b8 b9 : Bool) → is_of_two (cond b1 (Some verbs.Domain) (cond b2 (Some verbs.Vcpu) (cond b3 (Some verbs.Control) (cond b4 (Some verbs.Store) (cond b5 (Some verbs.Load) (cond b6 (Some verbs.Op) (cond b7 (Some verbs.Await) (cond b8 (Some verbs.Recv) (cond b9 (Some verbs.Destroy) None))))))))) ≡ false
nine true b2 b3 b4 b5 b6 b7 b8 b9 = refl
nine false true b3 b4 b5 b6 b7 b8 b9 = refl
nine false false true b4 b5 b6 b7 b8 b9 = refl
nine false false false true b5 b6 b7 b8 b9 = refl
nine false false false false true b6 b7 b8 b9 = refl
nine false false false false false true b7 b8 b9 = refl
nine false false false false false false true b8 b9 = refl
nine false false false false false false false true b9 = refl
nine false false false false false false false false true = refl
nine false false false false false false false false false = refl

of_one : (w : List ℕ) → is_of_two (verb_of_one w) ≡ false
of_one w =
    nine (bytes_eq w (codes "domain")) (bytes_eq w (codes "vcpu")) (bytes_eq w (codes "control")) (bytes_eq w (codes "store")) (bytes_eq w (codes "load"))
    (bytes_eq w (codes "op")) (bytes_eq w (codes "await")) (bytes_eq w (codes "recv")) (bytes_eq w (codes "destroy"))

of_format : (version : ℕ) (w : List ℕ) → (version == 2) ≡ false → is_of_two (verb_of version w) ≡ false
of_format version w f = rw f (of_one w)

not_of_one : {P : Type 0} (version : ℕ) (w : List ℕ) (v : Verb) → verb_of version w ≡ Some v → is_of_two (Some v) ≡ true → (version == 2) ≡ false → P
not_of_one version w v e t f = absurd (let two : is_of_two (Some v) ≡ false = ap is_of_two (sym e) ∙ of_format version w f in cc)

-- ---- all of them

pub sound : (s : Script) (w : List ℕ) (ws : List (List ℕ)) (v : Verb) (e : Entry) → verb_of s.version w ≡ Some v → is_in_place s v ≡ true → entry_of s v ws ≡ Ok e → IsSound s e
sound s w ws verbs.Domain e is p h = domain_sound s ws e p h
sound s w ws verbs.Vcpu e is p h = section_sound s ws e h
sound s w ws verbs.Control e is p h = control_section_sound s ws e p h
sound s w ws verbs.Store e is p h = vcpu_sound s (store_line ws) e p h
sound s w ws verbs.Load e is p h = vcpu_sound s (load_line ws) e p h
sound s w ws verbs.Op e is p h = vcpu_sound s (op_line ws) e p h
sound s w ws verbs.Await e is p h = vcpu_sound s (await_line ws) e p h
sound s w ws verbs.Recv e is p h = vcpu_sound s (recv_line ws) e p h
sound s w ws verbs.Destroy e is p h = control_sound s (λ d. lines.Destroy d) ws e p (λ _. refl) (λ _. refl) (λ _ _. refl) h
sound s w ws verbs.Reset e is p h = control_sound s (λ d. lines.Reset d) ws e p (λ _. refl) (λ _. refl) (λ d f. not_of_one s.version w verbs.Reset is refl f) h
sound s w ws verbs.Create e is p h = control_sound s (λ d. lines.Create d) ws e p (λ _. refl) (λ _. refl) (λ d f. not_of_one s.version w verbs.Create is refl f) h

line_has_room : (a : Option Actor) (l : Line) → is_line_for a l ≡ true → IsSome a
line_has_room None l h = absurd cc
line_has_room (Some a) l h = refl

-- a line has its section
pub has_room : (s : Script) (e : Entry) → IsSound s e → HasRoom e s
has_room s (entries.Domain d) h = tt
has_room s (entries.Section a) h = tt
has_room s (entries.Line l) h = line_has_room (last_actor s.sections) l h.place
