use Rattle.std.proofs.Common.{◌∙◌, [], ◌∷◌, ap, subst}
use Rattle.std.specs.Prelude.{flat_map}
use Rattle.std.proofs.lemmas.List.{take_all}
use Rattle.resolvo_queue.specs.Occurrences.{GrowsWith, HasAll}
use Rattle.resolvo_queue.proofs.Rows.Occurrences.{each_itself, items_grow, items_have}
use Rattle.resolvo_queue.proofs.row_reader.add_list.Goals as goal

pub returns-in_err-add-clause-grows : goal.returns-in_err-add-clause-grows
returns-in_err-add-clause-grows g c =
    subst (λ vs. GrowsWith c.args.requirement vs c.args.occurrences.now c.add.new.self) (each_itself c.args.list.now)
    (items_grow c.args.requirement (λ v. v ∷ []) c.args.list.now c.loop-variable.variable-index c.variable-item.result
    c.loop-variable-test.true c.variable-item.is c.args.occurrences.now c.loop-variable.occurrences c.add.new.self
    c.loop-variable.invariant.grows c.add.ensures.grows)

pub returns-in_err-add-clause-listed : goal.returns-in_err-add-clause-listed
returns-in_err-add-clause-listed g c = c.add.ensures.listed ∙ c.loop-variable.invariant.listed

pub loop-variable-preserved : goal.loop-variable-preserved
loop-variable-preserved g c = record {
  grows = items_grow c.args.requirement (λ v. v ∷ []) c.args.list.now c.loop-variable.variable-index
      c.variable-item.result
      c.loop-variable-test.true c.variable-item.is c.args.occurrences.now c.loop-variable.occurrences c.add.new.self
      c.loop-variable.invariant.grows c.add.ensures.grows;
  all = items_have c.args.requirement (λ v. v ∷ []) c.args.list.now c.loop-variable.variable-index
      c.variable-item.result
      c.loop-variable-test.true c.variable-item.is c.args.occurrences.now c.loop-variable.occurrences c.add.new.self
      c.loop-variable.invariant.grows c.add.ensures.grows c.loop-variable.invariant.all c.in_ok-add.ensures.ok;
  listed = c.add.ensures.listed ∙ c.loop-variable.invariant.listed;
}

pub returns-clause-grows : goal.returns-clause-grows
returns-clause-grows g c =
    subst (λ vs. GrowsWith c.args.requirement vs c.args.occurrences.now c.loop-variable.occurrences)
    (each_itself c.args.list.now) c.loop-variable.invariant.grows

pub returns-clause-all : goal.returns-clause-all
returns-clause-all g c = subst (λ vs. HasAll c.args.requirement vs c.loop-variable.occurrences)
    (ap (flat_map (λ v. v ∷ [])) (take_all c.loop-variable.variable-index c.args.list.now c.loop-variable-test.false)
    ∙ each_itself c.args.list.now) c.loop-variable.invariant.all
