use Rattle.std.proofs.Common.{◌≡◌, ℕ, ◌+◌, ◌-◌, ◌<◌, Some, length, slice_get, sym, ap, subst, ◌∙◌, arith}
use Rattle.resolvo_queue.proofs.Words.{GrowsBy, IsOfClause, IsWoken, values_in}
use Rattle.resolvo_queue.proofs.Clauses.Chained.{IsGoneTo, walk_begins, walk_ends, walk_falls, walk_steps}
use Rattle.resolvo_queue.proofs.Syncs.Queued.{grows_both, grows_none, read_at}
use Rattle.resolvo_queue.proofs.waking.wake_under.Goals as goal

pub wake_number-requires : goal.wake_number-requires
wake_number-requires g c =
    λ n d e. c.requires.numbers n d (ap (λ cs. slice_get cs n) (sym c.as_slice.ensures.value) ∙ e)

pub index-requires : goal.index-requires
index-requires g c =
    let positive = c.loop-next-test.true in
    let within : c.loop-next.next - 1 < length c.args.index.now.clauses.items =
    c.loop-next.invariant.gone.within (c.loop-next.next - 1) (omega (arith, positive)) in
    let same = ap length c.as_slice.ensures.value in
    let long = c.as_slice.ensures.len in omega (arith, within, same, long)

pub loop-next-init : goal.loop-next-init
loop-next-init g c =
    let clauses = c.args.index.now.clauses.items in
    let val = values_in c.args.map.now in
    record {
      grows = grows_none (IsOfClause clauses) c.args.queued.now;
      gone = subst (λ n. IsGoneTo clauses c.args.disjunction val n c.args.queued.now) (sym c.newest-next.ensures)
          (walk_begins clauses c.args.index.now.newest_under.items c.requires.chained c.args.disjunction val
          c.args.queued.now);
    }

pub loop-next-preserved : goal.loop-next-preserved
loop-next-preserved g c =
    let clauses = c.args.index.now.clauses.items in
    let val = values_in c.args.map.now in
    let number : ℕ = c.loop-next.next - 1 in
    let is : c.loop-next.next ≡ number + 1 = omega arith in
    let within : number < length clauses = c.loop-next.invariant.gone.within number is in
    let at : slice_get clauses number ≡ Some c.index.result.now =
    read_at clauses number c.index.result.now within c.index.ensures in
    let grows : GrowsBy (IsOfClause clauses) c.loop-next.queued c.wake_number.new.queued =
    subst (λ cs. GrowsBy (IsOfClause cs) c.loop-next.queued c.wake_number.new.queued) c.as_slice.ensures.value
    c.wake_number.ensures.grows in
    record {
      grows = grows_both (IsOfClause clauses) c.args.queued.now c.loop-next.queued c.wake_number.new.queued
          c.loop-next.invariant.grows grows;
      gone = walk_steps clauses c.args.index.now.newest_under.items c.requires.chained c.args.disjunction val
          c.loop-next.next number c.index.result.now c.loop-next.queued is at c.loop-next.invariant.gone
          c.wake_number.new.queued grows
          (subst (λ cs. IsWoken cs val number c.wake_number.new.queued) c.as_slice.ensures.value
          c.in_ok-wake_number.ensures.woken);
    }

pub loop-next-smaller : goal.loop-next-smaller
loop-next-smaller g c =
    let clauses = c.args.index.now.clauses.items in
    let number : ℕ = c.loop-next.next - 1 in
    let is : c.loop-next.next ≡ number + 1 = omega arith in
    walk_falls clauses c.args.index.now.newest_under.items c.requires.chained c.args.disjunction
    (values_in c.args.map.now) c.loop-next.next number c.index.result.now c.loop-next.queued is
    (read_at clauses number c.index.result.now (c.loop-next.invariant.gone.within number is) c.index.ensures)
    c.loop-next.invariant.gone

pub returns-in_err-wake_number-clause-grows : goal.returns-in_err-wake_number-clause-grows
returns-in_err-wake_number-clause-grows g c =
    let clauses = c.args.index.now.clauses.items in
    grows_both (IsOfClause clauses) c.args.queued.now c.loop-next.queued c.wake_number.new.queued
    c.loop-next.invariant.grows
    (subst (λ cs. GrowsBy (IsOfClause cs) c.loop-next.queued c.wake_number.new.queued) c.as_slice.ensures.value
    c.wake_number.ensures.grows)

pub returns-clause-woken : goal.returns-clause-woken
returns-clause-woken g c =
    let next = c.loop-next.next in
    walk_ends c.args.index.now.clauses.items c.args.index.now.newest_under.items c.requires.chained c.args.disjunction
    (values_in c.args.map.now) next c.loop-next.queued (omega arith) c.loop-next.invariant.gone
