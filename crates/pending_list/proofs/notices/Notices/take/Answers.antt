use Rattle.std.proofs.Common.{◌≡◌, rules, not, filter, ap, sym, ◌∙◌, subst}
use Rattle.std.specs.Prelude.{IsTrue}
use Rattle.std.specs.List.Sorted.{IsStrictlyIncreasing}
use Rattle.arrayvec.proofs.ArrayVecLemmas.{filter-from_retain}
use Rattle.argo_base.specs.Notices.{Notices, doms_of}
use Rattle.pending_list.specs.Ending.{ends}
use Rattle.pending_list.specs.Search.{rises_from}
use Rattle.pending_list.proofs.RiseLaws.{rises_filter, keys_increase}
use Rattle.pending_list.proofs.notices.Notices.take.Goals as goal

kept : (c : goal.After-retain) → c.retain.new.self.items ≡ filter (λ n. not (ends c.args.ending n)) c.self.inside.rows.items
kept c = filter-from_retain _ _ _ (λ x b f' y called. search rules) _ _ c.retain.ensures.filtered

pub invariant_of-self : goal.invariant_of-self
invariant_of-self c =
    subst (λ rows. IsTrue (rises_from 0 rows)) (sym (kept c)) (rises_filter (λ n. not (ends c.args.ending n)) 0 c.self.inside.rows.items c.self.invariant)

pub returns-clause-left : goal.returns-clause-left
returns-clause-left c = rw (← c.self.view_is) (kept c)

pub returns-clause-rising : goal.returns-clause-rising
returns-clause-rising c =
    subst IsStrictlyIncreasing (sym (c.doms-ended.ensures ∙ ap (λ (rows : Notices). doms_of (filter (ends c.args.ending) rows)) c.as_slice.ensures.value))
    (keys_increase 0 (filter (ends c.args.ending) c.self.inside.rows.items) (rises_filter (ends c.args.ending) 0 c.self.inside.rows.items c.self.invariant))
