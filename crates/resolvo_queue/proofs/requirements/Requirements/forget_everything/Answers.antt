use Rattle.std.proofs.Common.{map, length, take_at, drop, subst, sym, ap, ◌∙◌}
use Rattle.resolvo_queue.proofs.Words.{ArePlaced, forgotten, record_seen}
use Rattle.resolvo_queue.proofs.Clauses.Records.{placed_all}
use Rattle.resolvo_queue.proofs.requirements.Requirements.forget_everything.Goals as goal

pub invariant_of-self : goal.invariant_of-self
invariant_of-self g c =
    let new = c.forget_records.new.records in
    let whole = take_at new (drop (length new) c.self.inside.records.items) c.self.inside.records.len
    (c.forget_records.auto.records ∙ c.deref_mut.ensures.len) in
    subst (λ ts. ArePlaced ts c.self.inside.places) (sym (ap (map record_seen) whole ∙
    (c.forget_records.ensures ∙ ap (λ l. map forgotten (map record_seen l)) c.deref_mut.ensures.value)))
    (placed_all (map record_seen c.self.inside.records.items) c.self.inside.places c.self.invariant)
