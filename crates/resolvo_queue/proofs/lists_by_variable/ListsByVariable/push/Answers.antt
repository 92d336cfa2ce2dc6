use Rattle.std.proofs.Common.{◌<◌, ◌++◌, ◌∷◌, [], map, length, ap, subst, ◌∙◌}
use Rattle.std.proofs.lemmas.List.{length-map}
use Rattle.resolvo_queue.proofs.Words.{items_in, list_at, SameValues}
use Rattle.smallvec.specs.SmallVec.{SmallVec}
use Rattle.resolvo_queue.proofs.Rows.ByVariable.{put_after, put_nothing}
use Rattle.resolvo_queue.proofs.lists_by_variable.ListsByVariable.push.Goals as goal
use Rattle.resolvo_queue.proofs.lists_by_variable.ListsByVariable.push.Goals.{in-Ok, in-Err}

same : (g : _) (c : goal.Joined-push g) →
    SameValues (list_at c.args.self.now) (list_at (map items_in c.self.inside.lists.items))
same g c key = ap (λ lists. list_at lists key) c.self.view_is ∙ c.in_ok-reach.ensures.same key

within : (g : _) (c : goal.Joined-push g) → c.to_index-index.result < length c.self.inside.lists.items
within g c =
    let r : c.to_index-index.result < length (map items_in c.self.inside.lists.items) =
    rw c.self.view_is c.in_ok-reach.ensures.reached in
    subst (λ n. c.to_index-index.result < n) (length-map c.self.inside.lists.items items_in) r

pub returns-clause-ok : goal.returns-clause-ok
returns-clause-ok g c = elim c.match-push.branch [
  | in-Ok w ↦ rw w.result-is (put_after items_in c.args.self.now c.self.inside.lists.items
      c.to_index-index.result c.args.variable c.index_mut.result.now (record { value = c.push.new.self })
      (same g c) c.to_index-index.ensures.value (within g c) c.index_mut.ensures.value c.args.item
      (w.in-Ok.ensures.ok
      ∙ ap (λ (l : SmallVec g.row.T.Denot). l.items ++ c.args.item ∷ []) c.deref_mut.ensures.value))
  | in-Err w ↦ rw w.result-is tt
]

pub returns-clause-err : goal.returns-clause-err
returns-clause-err g c = elim c.match-push.branch [
  | in-Ok w ↦ rw w.result-is tt
  | in-Err w ↦ rw w.result-is (put_nothing items_in c.args.self.now c.self.inside.lists.items
      c.to_index-index.result c.args.variable c.index_mut.result.now (record { value = c.push.new.self })
      (same g c) c.to_index-index.ensures.value (within g c) c.index_mut.ensures.value
      (ap (λ (l : SmallVec g.row.T.Denot). l.items) (w.in-Err.ensures.err ∙ c.deref_mut.ensures.value)))
]
