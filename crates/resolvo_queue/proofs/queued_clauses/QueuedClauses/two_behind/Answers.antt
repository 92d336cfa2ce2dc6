use Rattle.std.proofs.Common.{◌≡◌, true, false, sym, ap, subst, ◌∙◌, IfSome}
use Rattle.resolvo_queue.proofs.Words.{has_of, is_after, IsBefore, Position, Queued, set_of}
use Rattle.resolvo_queue.proofs.Picks.Groups.{only_least, only_next}
use Rattle.resolvo_queue.proofs.queued_clauses.QueuedClauses.two_behind.Goals as goal

pub returns-then-only_hot-clause-least : goal.returns-then-only_hot-clause-least
returns-then-only_hot-clause-least g c = subst (λ h. IfSome c.only_both.result.0 (λ f. (p : Position) →
    has_of c.args.group (set_of h c.args.self.now) p ≡ true → IsBefore c.args.position p → is_after f p ≡ false))
    (sym c.if-only_hot.true)
    (subst (λ (q : Queued). IfSome c.only_both.result.0 (λ f. (p : Position) → has_of c.args.group q.hot p ≡ true →
    IsBefore c.args.position p → is_after f p ≡ false)) c.self.view_is
    (subst (λ o. IfSome o (λ f. (p : Position) → has_of c.args.group c.self.inside.hot p ≡ true →
    IsBefore c.args.position p → is_after f p ≡ false))
    (sym c.only_both.ensures.first) (only_least c.args.group c.self.inside.hot
    (IsBefore c.args.position) c.two_behind.result.0 c.two_behind.ensures.least)))

pub returns-then-only_hot-clause-next : goal.returns-then-only_hot-clause-next
returns-then-only_hot-clause-next g c =
    only_next c.args.group c.self.inside.hot (set_of c.args.only_hot c.args.self.now)
    (ap (λ (q : Queued). q.hot) c.self.view_is ∙ sym (ap (λ h. set_of h c.args.self.now) c.if-only_hot.true))
    c.two_behind.result.0 c.two_behind.result.1 c.two_behind.ensures.next
    c.only_both.result c.only_both.ensures.first c.only_both.ensures.second

pub returns-else-only_hot-clause-next : goal.returns-else-only_hot-clause-next
returns-else-only_hot-clause-next g c =
    only_next c.args.group c.self.inside.all (set_of c.args.only_hot c.args.self.now)
    (ap (λ (q : Queued). q.all) c.self.view_is ∙ sym (ap (λ h. set_of h c.args.self.now) c.if-only_hot.false))
    c.two_behind-else-only_hot.result.0 c.two_behind-else-only_hot.result.1 c.two_behind-else-only_hot.ensures.next
    c.only_both-else-only_hot.result c.only_both-else-only_hot.ensures.first c.only_both-else-only_hot.ensures.second
