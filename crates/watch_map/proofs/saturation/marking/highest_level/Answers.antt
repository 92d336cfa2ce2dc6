use Rattle.std.proofs.Common.{◌≡◌, ◌<◌, ◌≤◌, length, take, sym, ap, subst, ◌∙◌, arith}
use Rattle.std.proofs.lemmas.Option.{get_or_from_slice_get}
use Rattle.watch_map.proofs.Words.{level_of}
use Rattle.watch_map.proofs.MarkLaws.{levels_more, levels_split}
use Rattle.watch_map.proofs.RoundLaws.{has_entry, decision_at, as_many_decisions}
use Rattle.watch_map.proofs.saturation.marking.highest_level.Goals as goal

pub loop-index-preserved : goal.loop-index-preserved
loop-index-preserved g c =
    let es = c.args.trail.now.entries in
    let ds = c.assignments-decisions.result.now in
    let index = c.loop-index.index in
    let old = c.loop-index.level in
    let own = c.level-own.result in
    let highest = c.max-level.result in
    let many = as_many_decisions ds es c.assignments-decisions.ensures.decisions in
    let test = c.loop-index-test.true in
    let before = c.requires.before.1 in
    let within : index < length es = omega (arith, before, test) in
    let has = has_entry es index within in
    let e = has.0 in
    let same = decision_at es ds index e c.index-decisions-index.result c.assignments-decisions.ensures.decisions has.1
    c.index-decisions-index.is in
    let max = c.max-level.ensures in
    let read : own ≡ level_of es e.decision.variable =
    c.level-own.ensures ∙ ap (λ d. level_of es d.variable) (sym c.index-decisions-index.is ∙ same) in
    record {
      highest = levels_more es index e old highest within (get_or_from_slice_get es index e e has.1)
          c.loop-index.invariant.highest (omega (arith, max)) (omega (arith, max, read));
      behind = (let behind = c.loop-index.invariant.behind in omega (arith, max, behind));
    }

pub returns-then-before-decisions-clause-highest : goal.returns-then-before-decisions-clause-highest
returns-then-before-decisions-clause-highest g c x =
    let es = c.args.trail.now.entries in
    let before = c.args.before in
    let highest = c.max-level-then-before-decisions.result in
    let max = c.max-level-then-before-decisions.ensures in
    let from = c.requires.before.0 in
    let ended = c.loop-index-test.false in
    let index = c.loop-index.auto.index in
    let end = c.loop-index.auto.index-end in
    let at_end : c.loop-index.index ≡ before = omega (arith, from, ended, index, end) in
    let first : level_of (take before es) x ≤ c.loop-index.level =
    subst (λ n. level_of (take n es) x ≤ c.loop-index.level) at_end (c.loop-index.invariant.highest x) in
    let others = c.requires.added x in
    levels_split es before x highest (omega (arith, first, max)) (omega (arith, others, max))
