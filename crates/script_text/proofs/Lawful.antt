-- A lawful script stays lawful with each line that is read.
use Rattle.std.proofs.Common.{◌≡◌, ℕ, suc, ◌+◌, ◌≤◌, Bool, true, false, not, ◌&&◌, ◌||◌, ◌⊎◌, ◌==◌, eqb, leb, cond, List, [], ◌∷◌, ◌++◌, length, sum_by, count_by, Option, Some, None, Result, Ok, refl, sym, ap, subst, ◌∙◌, inl, inr, arith}
use Rattle.std.specs.List.{list_all, list_any}
use Rattle.std.proofs.lemmas.Bool.{and_parts, and_from, or_parts, or_right, not-true, cases_Bool, eqb-false, ne_eqb, leb-true, le-leb}
use Rattle.std.proofs.lemmas.List.{nil_from_length}
use Rattle.std.proofs.lemmas.List.Folds.{list_all-append, list_any-append}
use Rattle.std.proofs.lemmas.List.Sums.{sum_by_push, sum_by-cons}
use Rattle.argo_model.specs.declared.scripts.DomainLine.{DomainLine}
use Rattle.argo_model.specs.declared.scripts.Actor.{Actor}
use Rattle.argo_model.specs.declared.scripts.Actor.TheVariants as actors
use Rattle.argo_model.specs.declared.line.Line.{Line}
use Rattle.argo_model.specs.Runs.Script.{Section, Script, is_domain_id, is_page_count, is_generation, is_vcpu_line, is_control_line, is_lawful_for, is_lawful_section, has_domain, are_distinct, names_known, is_known_actor, is_known_section, is_control, is_line_of_one, is_actor_of_one, is_section_of_one, is_version, turns_of, are_domains_within, are_sections_within, are_lawful_domains, is_lawful}
use Rattle.script_text.specs.declared.entry.Entry.{Entry}
use Rattle.script_text.specs.declared.entry.Entry.TheVariants as entries
use Rattle.script_text.specs.declared.kind.ScriptKind.{ScriptKind}
use Rattle.script_text.specs.declared.kind.ScriptKind.TheVariants.{Word, Place, Limit}
use Rattle.script_text.specs.Verbs.{verb_of}
use Rattle.script_text.specs.Entries.{◌>>=◌, or_fault, unless, entry_of, is_actor_in_range}
use Rattle.script_text.specs.Reading.{last_actor, add_line, line_count, turn_count, is_in_place, is_within, with_entry, added, line_read}
use Rattle.script_text.proofs.Sound.{bind_ok, unless_ok, sound, is_line_for, IsSoundDomain, IsSoundSection, IsSoundLine, IsSound}

-- the rules, one by one
pub record IsLawful (s : Script) : Type 0 where
  pub version : is_version s ≡ true
  pub domains : are_lawful_domains s.domains ≡ true
  pub domains_within : are_domains_within s.domains ≡ true
  pub sections_within : are_sections_within s.sections ≡ true
  pub sections : list_all is_lawful_section s.sections ≡ true
  pub known : list_all (is_known_section s.domains) s.sections ≡ true

pub lawful_parts : (s : Script) → is_lawful s ≡ true → IsLawful s
lawful_parts s h =
    let f = and_parts _ _ h in
    let e = and_parts _ _ f.0 in
    let d = and_parts _ _ e.0 in
    let c = and_parts _ _ d.0 in
    let b = and_parts _ _ c.0 in
    record { version = b.0; domains = b.1; domains_within = c.1; sections_within = d.1; sections = e.1; known = f.1 }

pub lawful_whole : (s : Script) → IsLawful s → is_lawful s ≡ true
lawful_whole s h = rw (h.version, h.domains, h.domains_within, h.sections_within, h.sections, h.known) refl

-- ---- a domain more

eqb_sym : (a b : ℕ) → eqb a b ≡ false → eqb b a ≡ false
eqb_sym a b h = ne_eqb b a (λ e. eqb-false a b h (sym e))

has_push : (ds : List DomainLine) (d : DomainLine) (id : ℕ) → has_domain (ds ++ d ∷ []) id ≡ (has_domain ds id || (eqb d.id id || false))
has_push ds d id = list_any-append (λ (l : DomainLine). l.id == id) ds (d ∷ [])

distinct_push : (ds : List DomainLine) (d : DomainLine) → are_distinct ds ≡ true → has_domain ds d.id ≡ false → are_distinct (ds ++ d ∷ []) ≡ true
distinct_push [] d h new = refl
distinct_push (l ∷ ls) d h new =
    let parts = and_parts (not (has_domain ls l.id)) (are_distinct ls) h in
    let apart = or_parts (eqb l.id d.id) (has_domain ls d.id) new in
    let none : has_domain (ls ++ d ∷ []) l.id ≡ false = has_push ls d l.id ∙ rw (not-true _ parts.0, eqb_sym _ _ apart.0) refl in
    rw (none, distinct_push ls d parts.1 apart.1) refl

all_push : {X : Type 0} (p : X → Bool) (xs : List X) (x : X) → list_all p xs ≡ true → p x ≡ true → list_all p (xs ++ x ∷ []) ≡ true
all_push p xs x h e = list_all-append p xs (x ∷ []) ∙ rw (h, e) refl

lawful_domain : (s : Script) (d : DomainLine) → IsLawful s → IsSoundDomain s d → are_domains_within (s.domains ++ d ∷ []) ≡ true → IsLawful (with_entry s (entries.Domain d))
lawful_domain s d h sound within =
    let parts = and_parts (list_all (λ (l : DomainLine). is_domain_id l.id && is_page_count l.pages) s.domains) (are_distinct s.domains) h.domains in
    record {
      version = h.version;
      domains = and_from _ _ (all_push (λ (l : DomainLine). is_domain_id l.id && is_page_count l.pages) s.domains d parts.0 sound.ranges) (distinct_push s.domains d parts.1 sound.new);
      domains_within = within;
      sections_within = h.sections_within;
      sections = h.sections;
      known = rw (nil_from_length s.sections sound.first) refl;
    }

-- ---- a section more

none_counted : {X : Type 0} (p : X → Bool) (xs : List X) → list_any p xs ≡ false → count_by p xs ≡ 0
none_counted p [] h = refl
none_counted p (x ∷ xs) h =
    let parts = or_parts (p x) (list_any p xs) h in
    sum_by-cons (λ y. cond (p y) 1 0) x xs ∙ rw (parts.0, none_counted p xs parts.1) refl

one_control : (xs : List Section) (a : Actor) → (is_control a ≡ true → list_any (λ (x : Section). is_control x.actor) xs ≡ false) → count_by (λ (x : Section). is_control x.actor) xs ≤ 1
    → count_by (λ (x : Section). is_control x.actor) (xs ++ record { actor = a; lines = [] } ∷ []) ≤ 1
one_control xs a once h =
    let more = sum_by_push (λ (x : Section). cond (is_control x.actor) 1 0) xs (record { actor = a; lines = [] }) in
    elim (cases_Bool (is_control a)) [
      | inl t ↦ let one : ◌≡◌ {A = ℕ} (cond (is_control a) 1 0) 1 = rw t refl in omega (arith, more, one, none_counted (λ (x : Section). is_control x.actor) xs (once t))
      | inr f ↦ let zero : ◌≡◌ {A = ℕ} (cond (is_control a) 1 0) 0 = rw f refl in omega (arith, more, zero)
    ]

record AreWithin (xs : List Section) : Type 0 where
  sections : length xs ≤ 64
  control : count_by (λ (x : Section). is_control x.actor) xs ≤ 1
  lines : line_count xs ≤ 8192
  turns : turn_count xs ≤ 1048576

within_parts : (xs : List Section) → are_sections_within xs ≡ true → AreWithin xs
within_parts xs h =
    let d = and_parts _ _ h in
    let c = and_parts _ _ d.0 in
    let b = and_parts _ _ c.0 in
    record { sections = leb-true _ _ b.0; control = leb-true _ _ b.1; lines = leb-true _ _ c.1; turns = leb-true _ _ d.1 }

within_whole : (xs : List Section) → AreWithin xs → are_sections_within xs ≡ true
within_whole xs h = rw (le-leb _ _ h.sections, le-leb _ _ h.control, le-leb _ _ h.lines, le-leb _ _ h.turns) refl

new_lawful : (a : Actor) → is_actor_in_range a ≡ true → is_lawful_for a [] ≡ true
new_lawful (actors.Vcpu d generation) h = let parts = and_parts (is_domain_id d) (is_generation generation) h in rw parts.1 refl
new_lawful actors.Control h = refl

-- the format, where what is of format 1 is added to what is
version_with : (s : Script) (xs : List Section) → is_version s ≡ true
    → ((s.version == 2) ≡ false → list_all is_section_of_one s.sections ≡ true → list_all is_section_of_one xs ≡ true)
    → is_version (record { version = s.version; domains = s.domains; sections = xs }) ≡ true
version_with s xs h keeps =
    elim (cases_Bool (s.version == 2)) [
      | inl t ↦ rw t refl
      | inr f ↦
          let of_one : ((s.version == 1) && list_all is_section_of_one s.sections) ≡ true = rw f at h in
          let parts = and_parts (s.version == 1) (list_all is_section_of_one s.sections) of_one in
          or_right (s.version == 2) _ (and_from _ _ parts.0 (keeps f parts.1))
    ]

lawful_new : (s : Script) (a : Actor) → IsLawful s → IsSoundSection s a → length (s.sections ++ record { actor = a; lines = [] } ∷ []) ≤ 64 → IsLawful (with_entry s (entries.Section a))
lawful_new s a h sound few =
    let new : Section = record { actor = a; lines = [] } in
    let within = within_parts s.sections h.sections_within in
    record {
      version = version_with s (s.sections ++ new ∷ []) h.version (λ f all. all_push is_section_of_one s.sections new all (rw (sound.format f) refl));
      domains = h.domains;
      domains_within = h.domains_within;
      sections_within = within_whole (s.sections ++ new ∷ []) (record {
        sections = few;
        control = one_control s.sections a sound.once within.control;
        lines = omega (arith, within.lines, sum_by_push (λ (x : Section). length x.lines) s.sections new);
        turns = omega (arith, within.turns, sum_by_push (λ (x : Section). sum_by turns_of x.lines) s.sections new);
      });
      sections = all_push is_lawful_section s.sections new h.sections (new_lawful a sound.ranges);
      known = all_push (is_known_section s.domains) s.sections new h.known (rw sound.known refl);
    }

-- ---- a line more

-- what holds of each section still does, if it holds of the last one with the line
all_add : (p : Section → Bool) (l : Line) (xs : List Section) → list_all p xs ≡ true
    → ((x : Section) → last_actor xs ≡ Some x.actor → p x ≡ true → p (record { actor = x.actor; lines = x.lines ++ l ∷ [] }) ≡ true)
    → list_all p (add_line l xs) ≡ true
all_add p l [] h keeps = refl
all_add p l (x ∷ []) h keeps =
    let parts = and_parts (p x) true h in
    rw (keeps x refl parts.0) refl
all_add p l (x ∷ y ∷ ys) h keeps =
    let parts = and_parts (p x) (list_all p (y ∷ ys)) h in
    rw (parts.0, all_add p l (y ∷ ys) parts.1 keeps) refl

length_add : (l : Line) (xs : List Section) → length (add_line l xs) ≡ length xs
length_add l [] = refl
length_add l (x ∷ []) = refl
length_add l (x ∷ y ∷ ys) = ap suc (length_add l (y ∷ ys))

-- a count of actors does not change
count_add : (f : Actor → ℕ) (l : Line) (xs : List Section) → sum_by (λ (x : Section). f x.actor) (add_line l xs) ≡ sum_by (λ (x : Section). f x.actor) xs
count_add f l [] = refl
count_add f l (x ∷ []) = refl
count_add f l (x ∷ y ∷ ys) =
    sum_by-cons (λ (z : Section). f z.actor) x (add_line l (y ∷ ys)) ∙ ap (λ (n : ℕ). f x.actor + n) (count_add f l (y ∷ ys)) ∙ sym (sum_by-cons (λ (z : Section). f z.actor) x (y ∷ ys))

lawful_more : (a : Actor) (ls : List Line) (l : Line) → is_lawful_for a ls ≡ true → is_line_for (Some a) l ≡ true → is_lawful_for a (ls ++ l ∷ []) ≡ true
lawful_more (actors.Vcpu d generation) ls l h e =
    let parts = and_parts (is_generation generation) (list_all is_vcpu_line ls) h in
    and_from _ _ parts.0 (all_push is_vcpu_line ls l parts.1 e)
lawful_more actors.Control ls l h e = all_push is_control_line ls l h e

lawful_line : (s : Script) (l : Line) → IsLawful s → IsSoundLine s l → line_count (add_line l s.sections) ≤ 8192 → turn_count (add_line l s.sections) ≤ 1048576 → IsLawful (with_entry s (entries.Line l))
lawful_line s l h sound few short =
    let within = within_parts s.sections h.sections_within in
    record {
      version = version_with s (add_line l s.sections) h.version (λ f all. all_add is_section_of_one l s.sections all (λ x last p.
          let parts = and_parts (is_actor_of_one x.actor) (list_all is_line_of_one x.lines) p in
          and_from _ _ parts.0 (all_push is_line_of_one x.lines l parts.1 (sound.format f))));
      domains = h.domains;
      domains_within = h.domains_within;
      sections_within = within_whole (add_line l s.sections) (record {
        sections = omega (arith, length_add l s.sections, within.sections);
        control = omega (arith, count_add (λ a. cond (is_control a) 1 0) l s.sections, within.control);
        lines = few;
        turns = short;
      });
      sections = all_add is_lawful_section l s.sections h.sections (λ x last p. lawful_more x.actor x.lines l p (ap (λ (a : Option Actor). is_line_for a l) (sym last) ∙ sound.place));
      known = all_add (is_known_section s.domains) l s.sections h.known (λ x last p.
          let parts = and_parts (is_known_actor s.domains x.actor) (list_all (names_known s.domains) x.lines) p in
          and_from _ _ parts.0 (all_push (names_known s.domains) x.lines l parts.1 sound.known));
    }

-- ---- any of them

abbrev done : {A : Type 0} → A → Result A ScriptKind
done x = Ok x

same : (x y : Script) → done x ≡ done y → x ≡ y
same x y e = cc

keeps : (s : Script) (e : Entry) → IsLawful s → IsSound s e → is_within e (with_entry s e) ≡ true → IsLawful (with_entry s e)
keeps s (entries.Domain d) h sound within = lawful_domain s d h sound within
keeps s (entries.Section a) h sound within = lawful_new s a h sound (leb-true _ _ within)
keeps s (entries.Line l) h sound within =
    let parts = and_parts (leb (line_count (add_line l s.sections)) 8192) (leb (turn_count (add_line l s.sections)) 1048576) within in
    lawful_line s l h sound (leb-true _ _ parts.0) (leb-true _ _ parts.1)

added_keeps : (s t : Script) (e : Entry) → IsLawful s → IsSound s e → added s e ≡ Ok t → IsLawful t
added_keeps s t e h sound is =
    let w = unless_ok (is_within e (with_entry s e)) Limit (Ok (with_entry s e)) t is in
    subst (λ (x : Script). IsLawful x) (same (with_entry s e) t w.1) (keeps s e h sound w.0)

or_fault_ok : {A : Type 0} (k : ScriptKind) (o : Option A) (x : A) → or_fault k o ≡ Ok x → o ≡ Some x
or_fault_ok k None x e = absurd cc
or_fault_ok k (Some y) x e = cc

line_keeps : (s t : Script) (ws : List (List ℕ)) → IsLawful s → line_read s ws ≡ Ok t → IsLawful t
line_keeps s t [] h is = subst (λ (x : Script). IsLawful x) (same s t is) h
line_keeps s t (w ∷ ws) h is =
    let v = bind_ok (or_fault Word (verb_of s.version w)) (λ v. unless (is_in_place s v) Place (entry_of s v ws >>= λ e. added s e)) t is in
    let place = unless_ok (is_in_place s v.0) Place (entry_of s v.0 ws >>= λ e. added s e) t v.2 in
    let e = bind_ok (entry_of s v.0 ws) (λ e. added s e) t place.1 in
    added_keeps s t e.0 h (sound s w ws v.0 e.0 (or_fault_ok Word (verb_of s.version w) v.0 v.1) place.0 e.1) e.2

-- what the reader's loop needs
pub stays_lawful : (s t : Script) (ws : List (List ℕ)) → is_lawful s ≡ true → line_read s ws ≡ Ok t → is_lawful t ≡ true
stays_lawful s t ws h is = lawful_whole t (line_keeps s t ws (lawful_parts s h) is)

pub sections_lawful : (s : Script) → is_lawful s ≡ true → list_all is_lawful_section s.sections ≡ true
sections_lawful s h = (lawful_parts s h).sections

-- an empty script is lawful in both formats
pub begins_lawful : (version : ℕ) → ((version ≡ 1) ⊎ (version ≡ 2)) → is_lawful (record { version = version; domains = []; sections = [] }) ≡ true
begins_lawful version (inl e) = rw e refl
begins_lawful version (inr e) = rw e refl
