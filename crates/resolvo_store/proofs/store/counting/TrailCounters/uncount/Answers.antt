use Rattle.std.proofs.Common.{◌≡◌, ◌+◌, ◌-◌, ◌<◌, ◌∙◌, ap, subst, sym, length, map, take, arith, Some}
use Rattle.std.specs.Prelude.{slice_get}
use Rattle.std.proofs.lemmas.List.{length-map}
use Rattle.std.proofs.lemmas.Option.{slice_get_read}
use Rattle.resolvo_store.proofs.Words.{Counting, Counts, false_by, Follows, with_undecided}
use Rattle.resolvo_store.proofs.CountedLemmas.{counts_before}
use Rattle.resolvo_store.proofs.store.counting.TrailCounters.uncount.Goals as goal

pub returns-clause-follows : goal.returns-clause-follows
returns-clause-follows g c s h =
    let es = c.args.trail.now.entries in
    let i = c.self.inside.counted - 1 in
    let d = c.index-assignments-index.result in
    let kept = c.make_undecided.new.self in
    let same = ap (λ (k : Counting). k.counted) c.self.view_is in
    let many : length c.assignments.result.now ≡ length es = ap length c.assignments.ensures.decisions
    ∙ length-map es (λ e. e.decision) in
    let some = c.requires.some in
    let few = c.requires.within in
    let within : i < length es = omega (arith, same, some, few) in
    let at : slice_get (map (λ e. e.decision) es) i ≡ Some d =
    ap (λ ds. slice_get ds i) (sym c.assignments.ensures.decisions)
    ∙ slice_get_read c.assignments.result.now (length es) i d (sym many) within c.index-assignments-index.is in
    let was = subst (λ (k : Counting). Follows k es s) (sym c.self.view_is) h in
    let next : c.self.inside.counted ≡ i + 1 = omega (arith, same, some) in
    let counts = c.make_undecided.ensures (record s { is_false = false_by (take (i + 1) es) })
    (subst (λ n. Counts c.self.inside.clauses (record s { is_false = false_by (take n es) })) next was.counts) in
    record {
      within = omega (arith, within);
      counts = counts_before es i d kept s c.assignments.ensures.trail.once within at
          (subst (λ l. Counts kept (with_undecided l (record s { is_false = false_by (take (i + 1) es) })))
          c.false_literal.ensures counts);
    }
