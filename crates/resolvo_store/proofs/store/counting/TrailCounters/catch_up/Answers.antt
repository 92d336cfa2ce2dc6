use Rattle.std.proofs.Common.{◌≡◌, ◌+◌, ◌<◌, ◌∙◌, ap, subst, sym, length, take, map, arith, Some}
use Rattle.std.specs.Prelude.{slice_get}
use Rattle.std.proofs.lemmas.List.{length-map}
use Rattle.std.proofs.lemmas.Option.{slice_get_read}
use Rattle.resolvo_store.proofs.Words.{Counted, Counts, false_by, Follows, with_false}
use Rattle.resolvo_store.specs.contracts.store.counting.TrailCounters.catch_up.{A-type}
use Rattle.resolvo_store.proofs.CountedLemmas.{counts_next}
use Rattle.resolvo_store.proofs.store.counting.TrailCounters.catch_up.Goals as goal

pub loop-index-preserved : goal.loop-index-preserved
loop-index-preserved g c = record { known = c.loop-index.invariant.known; counts = next }
  where
    next : (s : Counted (A-type g.row.A)) → Follows c.args.self.now c.args.trail.now.entries s
        → Counts c.make_false.new.self (record s {
          is_false =
              false_by (take (c.loop-index.index + 1) c.args.trail.now.entries);
        })
    next s h =
        let es = c.args.trail.now.entries in
        let i = c.loop-index.index in
        let d = c.index-decisions-index.result in
        let many : length c.assignments-decisions.result.now ≡ length es =
        ap length c.assignments-decisions.ensures.decisions ∙ length-map es (λ e. e.decision) in
        let within : i < length es = omega (arith, many) in
        let at : slice_get (map (λ e. e.decision) es) i ≡ Some d =
        ap (λ ds. slice_get ds i) (sym c.assignments-decisions.ensures.decisions)
        ∙ slice_get_read c.assignments-decisions.result.now (length es) i d
        (sym many) within c.index-decisions-index.is in
        counts_next es i d c.make_false.new.self s c.assignments-decisions.ensures.trail.once within at
        (subst (λ l. Counts c.make_false.new.self (with_false l (record s { is_false = false_by (take i es) })))
        c.false_literal.ensures
        (c.make_false.ensures (record s { is_false = false_by (take i es) }) (c.loop-index.invariant.counts s h)))
