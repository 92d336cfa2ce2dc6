use Rattle.std.proofs.Common.{◌≡◌, ◌-◌, ◌<◌, ◌≤◌, ◌∙◌, ap, subst, sym, length, map, arith, Some}
use Rattle.std.specs.Prelude.{slice_get}
use Rattle.std.proofs.lemmas.Bool.{ltb-false}
use Rattle.std.proofs.lemmas.List.{length-map}
use Rattle.std.proofs.lemmas.Option.{slice_get_read}
use Rattle.resolvo_store.proofs.Words.{Counting}
use Rattle.resolvo_store.proofs.CountedLemmas.{decision_level, stays_below}
use Rattle.resolvo_store.proofs.store.counting.TrailCounters.is_above.Goals as goal

pub returns-clause-kept : goal.returns-clause-kept
returns-clause-kept g c low =
    let es = c.args.trail.now.entries in
    let i = c.self.inside.counted - 1 in
    let d = c.index-assignments-self.result in
    let same = ap (λ (k : Counting). k.counted) c.self.view_is in
    let many : length c.assignments.result.now ≡ length es = ap length c.assignments.ensures.decisions
    ∙ length-map es (λ e. e.decision) in
    let some = c.if-self-eq0.false in
    let few = c.requires in
    let within : i < length es = omega (arith, same, some, few) in
    let at : slice_get (map (λ e. e.decision) es) i ≡ Some d =
    ap (λ ds. slice_get ds i) (sym c.assignments.ensures.decisions)
    ∙ slice_get_read c.assignments.result.now (length es) i d (sym many) within c.index-assignments-self.is in
    let entry = decision_level es i d c.assignments.ensures.trail.once within at in
    let below : entry.0.level ≤ c.args.level =
    subst (λ n. n ≤ c.args.level) (c.level.ensures ∙ entry.2) (ltb-false c.args.level c.level.result low) in
    let left = stays_below c.args.level es i entry.0 entry.1 below in
    omega (arith, same, some, left)
