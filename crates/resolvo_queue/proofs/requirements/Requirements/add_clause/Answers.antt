use Rattle.std.proofs.Common.{ℕ, List, length, refl, ap, ◌∙◌}
use Rattle.resolvo_queue.proofs.Words.{known_of, with_clause}
use Rattle.resolvo_queue.proofs.Clauses.Entries.{always_err, updated_same}
use Rattle.resolvo_queue.proofs.Walks.Owed.{owes_placed}
use Rattle.resolvo_queue.proofs.Clauses.Records.{written_placed, written_is}
use Rattle.resolvo_queue.proofs.requirements.Requirements.add_clause.Goals as goal

pub invariant_of-self : goal.invariant_of-self
invariant_of-self g c =
    let r = c.index_mut-record.result.now in
    written_placed (λ t. t) (λ t. refl) c.self.inside.records.items c.args.self.now
    c.self.inside.places c.args.place r _ c.self.view_is c.requires c.index_mut-record.ensures.value
    (ap (λ (l : List ℕ). record {
      requirement = r.requirement;
      clauses = l;
      walk = known_of r.walk;
      walks = length r.log.walked;
    }) c.in_err-push.ensures.items) (λ t h. h) c.self.invariant

pub returns-in_err-push-clause-err : goal.returns-in_err-push-clause-err
returns-in_err-push-clause-err g c =
    let r = c.index_mut-record.result.now in
    always_err _ c.from_residual.result
    (written_is (λ t. t) (λ t. refl) c.self.inside.records.items c.args.self.now c.self.inside.places c.args.place r _
    c.self.view_is c.requires c.index_mut-record.ensures.value (ap (λ (l : List ℕ). record {
      requirement = r.requirement;
      clauses = l;
      walk = known_of r.walk;
      walks = length r.log.walked;
    }) c.in_err-push.ensures.items) ∙ updated_same c.args.self.now c.args.place)

pub invariant_of-self-2 : goal.invariant_of-self-2
invariant_of-self-2 g c =
    let r = c.index_mut-record.result.now in
    written_placed (with_clause c.args.number) (λ t. refl) c.self.inside.records.items c.args.self.now
    c.self.inside.places c.args.place r _ c.self.view_is c.requires c.index_mut-record.ensures.value
    (ap (λ (l : List ℕ). record {
      requirement = r.requirement;
      clauses = l;
      walk = known_of r.walk;
      walks = length r.log.walked;
    }) c.in_ok-push.ensures.items) (λ t h. h) c.self.invariant

pub returns-clause-ok : goal.returns-clause-ok
returns-clause-ok g c =
    let r = c.index_mut-record.result.now in
    written_is (with_clause c.args.number) (λ t. refl) c.self.inside.records.items c.args.self.now
    c.self.inside.places c.args.place r _ c.self.view_is c.requires c.index_mut-record.ensures.value
    (ap (λ (l : List ℕ). record {
      requirement = r.requirement;
      clauses = l;
      walk = known_of r.walk;
      walks = length r.log.walked;
    }) c.in_ok-push.ensures.items)

pub returns-clause-owes : goal.returns-clause-owes
returns-clause-owes g c =
    let r = c.index_mut-record.result.now in
    λ requirement p. owes_placed _ requirement c.args.place p
    (written_placed (with_clause c.args.number) (λ t. refl) c.self.inside.records.items c.args.self.now
    c.self.inside.places c.args.place r _ c.self.view_is c.requires c.index_mut-record.ensures.value
    (ap (λ (l : List ℕ). record {
      requirement = r.requirement;
      clauses = l;
      walk = known_of r.walk;
      walks = length r.log.walked;
    }) c.in_ok-push.ensures.items) (λ t h. h) c.self.invariant).counted
