use Rattle.std.proofs.Common.{true, sym, subst}
use Rattle.resolvo_queue.proofs.Words.{AllWokenFrom, listing, SyncsTo, values_in, values_of}
use Rattle.resolvo_queue.proofs.Syncs.Forgetting.{always_ok}
use Rattle.resolvo_queue.proofs.Syncs.Routes.{anew_sync}
use Rattle.resolvo_queue.proofs.tracked_clauses.TrackedClauses.start_anew.Goals as goal

pub returns-clause-synced : goal.returns-clause-synced
returns-clause-synced g c =
    let ix = c.args.self.now.index in
    let now = values_in c.args.map.now in
    always_ok _ c.copy_behind.result (λ woken routed. subst (λ ts. SyncsTo ix.clauses.items ix.by_parent ix.conditions
    (listing c.args.self.now.occurrences) woken true
    (values_of c.args.self.now.trail.items) now routed c.args.self.now.requirements ts c.args.self.now.queued
    c.wake_from.new.queued c.args.self.now.noted c.args.self.now.noted) (sym c.forget_everything.ensures)
    (anew_sync ix.clauses.items ix.by_parent ix.conditions (listing c.args.self.now.occurrences)
    woken (values_of c.args.self.now.trail.items) now routed c.args.self.now.requirements c.args.self.now.queued
    c.wake_from.new.queued c.args.self.now.noted
    (subst (λ cs. AllWokenFrom 0 cs now c.wake_from.new.queued) c.as_slice.ensures.value
    c.in_ok-wake_from.ensures.woken)))
