use Rattle.std.proofs.Common.{inl, refl}
use Rattle.resolvo_queue.specs.Parts.{forgotten}
use Rattle.resolvo_queue.proofs.Clauses.Records.{written_placed, written_is}
use Rattle.resolvo_queue.proofs.requirements.Requirements.forget.Goals as goal

pub invariant_of-self : goal.invariant_of-self
invariant_of-self g c =
    written_placed forgotten (λ t. refl) c.self.inside.records.items c.args.self.now c.self.inside.places c.args.place
    c.index_mut-record.result.now _
    c.self.view_is c.requires c.index_mut-record.ensures.value refl (λ t h. inl refl) c.self.invariant

pub returns : goal.returns
returns g c =
    written_is forgotten (λ t. refl) c.self.inside.records.items c.args.self.now c.self.inside.places c.args.place
    c.index_mut-record.result.now _ c.self.view_is c.requires c.index_mut-record.ensures.value refl
