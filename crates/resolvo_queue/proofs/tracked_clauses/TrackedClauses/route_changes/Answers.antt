use Rattle.std.proofs.Common.{◌≡◌, ℕ, List, [], drop, take, ◌++◌, false, ap, refl, sym, subst, ◌∙◌}
use Rattle.resolvo_queue.proofs.Words.{IsOfClause, listing, NotesConditions, Routes, SyncsTo, Unrouted, values_in}
use Rattle.resolvo_queue.proofs.Words.{values_of, variables_of, ways_of}
use Rattle.resolvo_queue.proofs.Syncs.Forgetting.{always_ok, none_from, notes_both, routes_both, routes_none, take_rest}
use Rattle.resolvo_queue.proofs.Syncs.Forgetting.{whole_at, unrouted_along, unrouted_more}
use Rattle.resolvo_queue.proofs.Syncs.Queued.{grows_below, grows_both, numbers_below}
use Rattle.resolvo_queue.proofs.Syncs.Routes.{changes_sync}
use Rattle.resolvo_queue.proofs.tracked_clauses.TrackedClauses.route_changes.Goals as goal
use Rattle.resolvo_queue.proofs.Lists.{append_left, append_right}

pub returns-then-is_whole_at-clause-synced : goal.returns-then-is_whole_at-clause-synced
returns-then-is_whole_at-clause-synced g c =
    let clauses = c.args.self.now.index.clauses.items in
    let w = ways_of (take c.args.woken clauses) c.args.self.now.index c.args.self.now.occurrences
    (values_in c.args.map.now) in
    let before = c.args.self.now.trail.items in
    let ends = c.is_whole_at.ensures.0 c.if-is_whole_at.true in
    let none : ◌≡◌ {A = List ℕ} []
    (variables_of (drop c.args.floor before) ++ variables_of (drop c.args.floor c.args.trail.now)) =
    sym (ap (λ ds. variables_of ds ++ variables_of (drop c.args.floor c.args.trail.now))
    (none_from c.args.floor before ends.0) ∙ ap variables_of (none_from c.args.floor c.args.trail.now ends.1)) in
    subst (λ vs. SyncsTo clauses w.by_parent w.conditions w.requirements c.args.woken false (values_of before) w.val
    vs c.args.self.now.requirements c.args.self.now.requirements c.args.self.now.queued c.args.self.now.queued
    c.args.self.now.noted c.args.self.now.noted) none
    (changes_sync w clauses c.requires.numbers c.args.woken refl (values_of before) []
    c.args.self.now.requirements c.args.self.now.requirements c.args.self.now.queued c.args.self.now.queued
    c.args.self.now.noted c.args.self.now.noted
    (routes_none w c.args.self.now.requirements c.args.self.now.queued) (λ d h. h) (λ v s. elim s [ ]))

pub returns-then-is_whole_at-clause-trail : goal.returns-then-is_whole_at-clause-trail
returns-then-is_whole_at-clause-trail g c =
    let ends = c.is_whole_at.ensures.0 c.if-is_whole_at.true in
    whole_at c.args.floor c.args.self.now.trail.items c.args.trail.now ends.0 ends.1

pub returns-clause-synced : goal.returns-clause-synced
returns-clause-synced g c =
    let clauses = c.args.self.now.index.clauses.items in
    let part = take c.args.woken c.deref.result.now in
    let w = ways_of part c.args.self.now.index c.args.self.now.occurrences (values_in c.args.map.now) in
    let before = drop c.args.floor c.args.self.now.trail.items in
    let new = drop c.args.floor c.args.trail.now in
    let first : Routes w (variables_of before) c.args.self.now.requirements c.route_all.new.requirements
    c.args.self.now.queued c.route_all.new.queued =
    subst (λ ds. Routes w (variables_of ds) c.args.self.now.requirements c.route_all.new.requirements
    c.args.self.now.queued c.route_all.new.queued)
    (take_rest c.args.floor c.deref-2.result.now ∙ ap (drop c.args.floor) c.deref-2.ensures.value)
    c.in_ok-route_all.ensures.ok in
    let second : Routes w (variables_of new) c.route_all.new.requirements c.route_all-2.new.requirements
    c.route_all.new.queued c.route_all-2.new.queued =
    subst (λ ds. Routes w (variables_of ds) c.route_all.new.requirements c.route_all-2.new.requirements
    c.route_all.new.queued c.route_all-2.new.queued)
    (take_rest c.args.floor c.args.trail.now) c.in_ok-route_all-2.ensures.ok in
    let first_noted : NotesConditions w (variables_of before) c.route_all.new.noted =
    subst (λ ds. NotesConditions w (variables_of ds) c.route_all.new.noted)
    (take_rest c.args.floor c.deref-2.result.now ∙ ap (drop c.args.floor) c.deref-2.ensures.value)
    c.in_ok-route_all.ensures.noted in
    let second_noted : NotesConditions w (variables_of new) c.route_all-2.new.noted =
    subst (λ ds. NotesConditions w (variables_of ds) c.route_all-2.new.noted)
    (take_rest c.args.floor c.args.trail.now) c.in_ok-route_all-2.ensures.noted in
    always_ok _ c.copy_behind.result
    (changes_sync w clauses c.requires.numbers c.args.woken (ap (take c.args.woken) c.deref.ensures.value)
    (values_of c.args.self.now.trail.items) (variables_of before ++ variables_of new)
    c.args.self.now.requirements c.route_all-2.new.requirements c.args.self.now.queued c.route_all-2.new.queued
    c.args.self.now.noted c.route_all-2.new.noted
    (routes_both w (variables_of before) (variables_of new) c.args.self.now.requirements c.route_all.new.requirements
    c.route_all-2.new.requirements c.args.self.now.queued c.route_all.new.queued c.route_all-2.new.queued first second)
    (λ d h. c.route_all-2.ensures.kept d (c.route_all.ensures.kept d h))
    (notes_both w (variables_of before) (variables_of new) c.route_all.new.noted c.route_all-2.new.noted
    first_noted c.route_all-2.ensures.kept second_noted))

pub returns-in_err-route_all-clause-others : goal.returns-in_err-route_all-clause-others
returns-in_err-route_all-clause-others g c =
    let lists = listing c.args.self.now.occurrences in
    let before = variables_of (drop c.args.floor c.args.self.now.trail.items) in
    let new = variables_of (drop c.args.floor c.args.trail.now) in
    unrouted_along lists before (before ++ new)
    (append_left before new) c.args.self.now.requirements c.route_all.new.requirements
    (subst (λ ds. Unrouted lists (variables_of ds) c.args.self.now.requirements c.route_all.new.requirements)
    (take_rest c.args.floor c.deref-2.result.now ∙ ap (drop c.args.floor) c.deref-2.ensures.value)
    c.route_all.ensures.others)

pub returns-in_err-route_all-2-clause-others : goal.returns-in_err-route_all-2-clause-others
returns-in_err-route_all-2-clause-others g c =
    let lists = listing c.args.self.now.occurrences in
    let before = variables_of (drop c.args.floor c.args.self.now.trail.items) in
    let new = variables_of (drop c.args.floor c.args.trail.now) in
    unrouted_more lists (before ++ new) new (append_right before new) c.args.self.now.requirements
    c.route_all.new.requirements c.route_all-2.new.requirements (unrouted_along lists before (before ++ new)
    (append_left before new) c.args.self.now.requirements c.route_all.new.requirements
    (subst (λ ds. Unrouted lists (variables_of ds) c.args.self.now.requirements c.route_all.new.requirements)
    (take_rest c.args.floor c.deref-2.result.now ∙ ap (drop c.args.floor) c.deref-2.ensures.value)
    c.route_all.ensures.others))
    (subst (λ ds. Unrouted lists (variables_of ds) c.route_all.new.requirements c.route_all-2.new.requirements)
    (take_rest c.args.floor c.args.trail.now) c.route_all-2.ensures.others)

pub returns-clause-others : goal.returns-clause-others
returns-clause-others g c =
    let lists = listing c.args.self.now.occurrences in
    let before = variables_of (drop c.args.floor c.args.self.now.trail.items) in
    let new = variables_of (drop c.args.floor c.args.trail.now) in
    unrouted_more lists (before ++ new) new (append_right before new) c.args.self.now.requirements
    c.route_all.new.requirements c.route_all-2.new.requirements (unrouted_along lists before (before ++ new)
    (append_left before new) c.args.self.now.requirements c.route_all.new.requirements
    (subst (λ ds. Unrouted lists (variables_of ds) c.args.self.now.requirements c.route_all.new.requirements)
    (take_rest c.args.floor c.deref-2.result.now ∙ ap (drop c.args.floor) c.deref-2.ensures.value)
    c.route_all.ensures.others))
    (subst (λ ds. Unrouted lists (variables_of ds) c.route_all.new.requirements c.route_all-2.new.requirements)
    (take_rest c.args.floor c.args.trail.now) c.route_all-2.ensures.others)

-- ---- the woken clauses are some of all

pub route_all-requires : goal.route_all-requires
route_all-requires g c = numbers_below c.args.self.now.index.clauses.items _ c.args.woken
    (ap (take c.args.woken) c.deref.ensures.value) c.requires.numbers

pub route_all-requires-2 : goal.route_all-requires-2
route_all-requires-2 g c = numbers_below c.args.self.now.index.clauses.items _ c.args.woken
    (ap (take c.args.woken) c.deref.ensures.value) c.requires.numbers

pub returns-in_err-route_all-clause-grows : goal.returns-in_err-route_all-clause-grows
returns-in_err-route_all-clause-grows g c = grows_below c.args.self.now.index.clauses.items _ c.args.woken
    (ap (take c.args.woken) c.deref.ensures.value) c.args.self.now.queued c.route_all.new.queued
    c.route_all.ensures.grows

pub returns-in_err-route_all-2-clause-grows : goal.returns-in_err-route_all-2-clause-grows
returns-in_err-route_all-2-clause-grows g c = grows_below c.args.self.now.index.clauses.items _ c.args.woken
    (ap (take c.args.woken) c.deref.ensures.value) c.args.self.now.queued c.route_all-2.new.queued
    (grows_both (IsOfClause (take c.args.woken c.deref.result.now)) c.args.self.now.queued c.route_all.new.queued
    c.route_all-2.new.queued c.route_all.ensures.grows c.route_all-2.ensures.grows)

pub returns-clause-grows : goal.returns-clause-grows
returns-clause-grows g c = grows_below c.args.self.now.index.clauses.items _ c.args.woken
    (ap (take c.args.woken) c.deref.ensures.value) c.args.self.now.queued c.route_all-2.new.queued
    (grows_both (IsOfClause (take c.args.woken c.deref.result.now)) c.args.self.now.queued c.route_all.new.queued
    c.route_all-2.new.queued c.route_all.ensures.grows c.route_all-2.ensures.grows)
