use Rattle.std.proofs.Common.{◌≡◌, true, false, Option, Some, None, is_some, option_map, refl, sym, ◌∙◌}
use Rattle.std.specs.Option.{option_or}
use Rattle.std.specs.Map.{lookup}
use Rattle.std.specs.BTreeMap.{is_at}
use Rattle.argo_base.specs.declared.ring_key.RingKey.{RingKey}
use Rattle.argo_base.specs.Match.{key_cmp, key_of, wildcard, at_key}
use Rattle.flat_live.proofs.matches.match_key.Goals as goal

first : {X : Type 0} (key : RingKey) (a : Option X) (rest : Option (RingKey × X)) → is_some a ≡ true
    → option_or (option_map (λ x. (key, x)) a) rest ≡ option_map (λ x. (key, x)) a
first key (Some x) rest there = refl
first key None rest there = cc

second : {X : Type 0} (key : RingKey) (a : Option X) (rest : Option (RingKey × X)) → is_some a ≡ false
    → option_or (option_map (λ x. (key, x)) a) rest ≡ rest
second key (Some x) rest none = cc
second key None rest none = refl

pub returns-then-contains_key : goal.returns-then-contains_key
returns-then-contains_key c =
    let rings = c.args.rings.now.entries in
    let key = key_of c.args.port c.args.sender in
    first key (lookup (is_at (key_cmp key)) rings) (at_key rings (key_of c.args.port wildcard)) (sym c.contains_key.ensures ∙ c.if-contains_key.true)

pub returns : goal.returns
returns c =
    let rings = c.args.rings.now.entries in
    let key = key_of c.args.port c.args.sender in
    second key (lookup (is_at (key_cmp key)) rings) (at_key rings (key_of c.args.port wildcard)) (sym c.contains_key.ensures ∙ c.if-contains_key.false)
