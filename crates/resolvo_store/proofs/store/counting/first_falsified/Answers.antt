use Rattle.std.proofs.Common.{◌≡◌, ◌∙◌, ap, refl, subst, sym, length, arith}
use Rattle.std.proofs.lemmas.Bool.Decides.{nat_tests}
use Rattle.resolvo_store.proofs.Words.{AreCounted, counted, Counting, false_by, no_false, placed}
use Rattle.resolvo_store.proofs.CountedLemmas.{all_counted, counts_all, keeps_counted}
use Rattle.resolvo_store.proofs.store.counting.first_falsified.Goals as goal

pub loop-counters-init : goal.loop-counters-init
loop-counters-init g c = record {
  counted = keeps_counted c.catch_up.ensures.known (c.catch_up.ensures.follows _) c.requires.counted;
  all = c.catch_up.ensures.all;
}

pub returns-clause-counted : goal.returns-clause-counted
returns-clause-counted g c =
    let es = c.args.trail.now.entries in
    let was = subst (λ (k : Counting). AreCounted k c.args.queue.now.clauses es c.args.lists.now
    c.args.disjunctions.now) (sym c.counters.view_is) c.loop-counters.invariant.counted in
    keeps_counted refl (λ h. record { within = h.within; counts = c.first.ensures.same _ h.counts }) was

pub returns-clause-first : goal.returns-clause-first
returns-clause-first g c =
    let cs = c.args.queue.now.clauses in
    let es = c.args.trail.now.entries in
    let lists = c.args.lists.now in
    let ds = c.args.disjunctions.now in
    let kept : Counting = record {
      clauses = c.counters.inside.clauses;
      known = c.counters.inside.known;
      counted =
          c.counters.inside.counted;
    } in
    let was = subst (λ (k : Counting). AreCounted k cs es lists ds)
    (sym c.counters.view_is) c.loop-counters.invariant.counted in
    let few = was.known in
    let behind = c.is_behind.ensures in
    let test = c.loop-counters-test.false in
    let many = c.len.ensures.value in
    let all : c.counters.inside.known ≡ length cs = grind (arith, nat_tests, few, behind, test, many) in
    c.first.ensures.first (counted lists ds (placed cs) (false_by es))
    (counts_all kept (counted lists ds (placed cs) no_false) es (ap (λ (k : Counting). k.counted) c.counters.view_is
    ∙ c.loop-counters.invariant.all) (all_counted all was))
