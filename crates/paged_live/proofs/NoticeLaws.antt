-- Laws of a notice that ends on one ring of a domain.
use Rattle.std.proofs.Common.{◌≡◌, ℕ, ◌≤◌, Bool, true, false, cond, [], ◌∷◌, length, filter, arith, Option, Some, None, option_map, refl, sym, ap, ◌∙◌}
use Rattle.std.specs.Map.{set_value}
use Rattle.std.specs.BTreeMap.{is_at}
use Rattle.std.proofs.lemmas.Map.Made.{lookup-map_values}
use Rattle.argo_base.specs.declared.ring_key.RingKey.{RingKey}
use Rattle.argo_base.specs.Match.{key_cmp}
use Rattle.argo_base.specs.Notices.{Notices, doms_of}
use Rattle.argo_model.specs.Rules.Destroy.{ring_without}
use Rattle.argo_model.specs.Rules.RingBytes.{set_paged, laid}
use Rattle.ring_core.specs.Held.{Held, paged, Becomes}
use Rattle.ring_table.specs.Rows.{Held as Row, held_at, value_at}
use Rattle.live_domain.specs.Keyed.{without_notice, without_notice_of}
use Rattle.paged_live.specs.Ends.{forgotten}
use Rattle.paged_live.specs.Parts.{Rows, Parts, store_of, ring_of, seen, IsParts, StandsStill}
use Rattle.paged_live.proofs.StoreLaws.{Wrote, wrote_memory}
use Rattle.paged_live.proofs.PartsLaws.{Found, found_stood, ring_seen, with_ring, changed_seen}

-- a ring that is laid back as it is leaves the memory
pub same_bytes : (x : Parts) → IsParts x → (key : RingKey) (a : Held) (f : Found x.rows key a) → laid (paged f.serial a).ring.pages (paged f.serial a).own (seen x).bytes ≡ (seen x).bytes
same_bytes x is key a f =
    let p = paged f.serial a in
    let found = found_stood x.rows key a f in
    let w : Wrote (store_of x) (store_of x) key p p =
    record {
      count = refl;
      page = λ n. refl;
      home = λ n. refl;
      was = found;
      now = found;
      others = λ q other. refl;
      pages = refl;
      sized = is.store.sized key p found;
    } in
    sym (wrote_memory (store_of x) (store_of x) key p p is.store w)

pub notice_seen : (x : Parts) → IsParts x → (key : RingKey) (a b : Held) (f : Found x.rows key a) (d : ℕ) → StandsStill a b → Becomes a b (forgotten d)
    → seen (with_ring x key b) ≡ without_notice (seen x) key d
notice_seen x is key a b f d still becomes =
    let p = paged f.serial a in
    changed_seen x is key a b f still
    ∙ ap (set_paged (seen x) key) (becomes f.serial)
    ∙ ap (λ bs. record (seen x) { bytes = bs; rings = set_value (is_at (key_cmp key)) (seen x).rings (ring_without d p.ring) }) (same_bytes x is key a f)
    ∙ ap (without_notice_of (seen x) key d) (sym (ring_seen x.rows key a f))

-- where no ring stands
pub no_notice : (x : Parts) (key : RingKey) (d : ℕ) → held_at x.rows key ≡ None → seen x ≡ without_notice (seen x) key d
no_notice x key d none = ap (without_notice_of (seen x) key d) (sym (lookup-map_values ring_of (is_at (key_cmp key)) x.rows ∙ ap (option_map ring_of) none))

pub no_value : (rows : Rows) (key : RingKey) → value_at rows key ≡ None → held_at rows key ≡ None
no_value rows key none = by (held_at rows key) none where
  by : (o : Option (Row Held)) → option_map (λ (r : Row Held). r.value) o ≡ None → o ≡ None
  by None h = refl
  by (Some r) h = cc

-- no more notices end than there are
pub no_more : (p : ℕ × ℕ → Bool) (ns : Notices) → length (doms_of (filter p ns)) ≤ length ns
no_more p [] = omega arith
no_more p (n ∷ ns) = by (p n) (no_more p ns) where
  by : (b : Bool) → length (doms_of (filter p ns)) ≤ length ns → length (doms_of (cond b (n ∷ filter p ns) (filter p ns))) ≤ length (n ∷ ns)
  by true rest = omega (arith, rest)
  by false rest = omega (arith, rest)
