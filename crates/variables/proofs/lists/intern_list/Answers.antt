use Rattle.std.proofs.lemmas.Grind.{common_steps}
use Rattle.std.proofs.Common.{◌≡◌, ◌∷◌, [], ◌++◌, ◌+◌, ◌||◌, ◌∙◌, sym, ap, subst, take, drop, map, true, false, arith}
use Rattle.std.proofs.lemmas.List.{take_more, take_all, drop_more, take-append-drop}
use Rattle.std.specs.List.{list_any}
use Rattle.variables.specs.Variables.{interned_variable, with_variables, lacks_variable, lacks_variables}
use Rattle.variables.specs.Variables.{IsPartlyInterned}
use Rattle.variables.proofs.InterningLemmas.{variables_in_turn, one-more, in_turn-more}
use Rattle.variables.proofs.InterningLemmas.{variables-in-turn, lacks_for_one, refusal_wider, handed_on}
use Rattle.variables.proofs.InterningLemmas.{list_any-fails, wholly, front_of_part, longer_part}
use Rattle.variables.proofs.lists.intern_list.Given.{Over}
use Rattle.variables.proofs.lists.intern_list.Goals as goal
use Rattle.variables.proofs.lists.intern_list.Goals.{After-drop-list, Else-prove}

pub loop-solvable-preserved : goal.loop-solvable-preserved
loop-solvable-preserved g c =
    let same = g.S.PartialEq.eq in
    let large = g.S.Slots.IdMap.is_too_large in
    let first = c.args.variables.now in
    let ss = c.args.solvables.now in
    let i = c.loop-solvable.solvable-index in
    let x = c.solvable-item.result in
    let v = c.in_ok-variable.variable in
    let done = take i ss in
    let more : take (i + 1) ss ≡ done ++ x ∷ [] = take_more ss i x c.loop-solvable-test.true
    ∙ ap (λ y. done ++ y ∷ []) (sym c.solvable-item.is) in
    record {
      room = omega (
        arith,
        c.loop-solvable-test.true,
        c.loop-solvable.invariant.room,
        c.push_reserved.ensures.len,
        c.push_reserved.ensures.capacity,
      );
      list = c.push_reserved.ensures.items ∙ ap (λ l. l ++ v ∷ []) c.loop-solvable.invariant.list
          ∙ ap (λ w. variables_in_turn same first done ++ w ∷ [])
          (c.in_ok-variable.ensures.variable ∙
          ap (λ os. interned_variable same os x) c.loop-solvable.invariant.done)
          ∙ sym (in_turn-more same first done x) ∙ ap (variables_in_turn same first) (sym more);
      done = one-more same first c.loop-solvable.variables c.intern_solvable.new.self done x
          c.loop-solvable.invariant.done c.in_ok-variable.ensures.ok
          ∙ ap (with_variables same first) (sym more);
      fit = ap (list_any large) more ∙ list_any-fails large done (x ∷ []) c.loop-solvable.invariant.fit
          (ap (λ b. b || false) c.in_ok-variable.ensures.not_large);
    }

pub returns-clause-list : goal.returns-clause-list
returns-clause-list g c =
    let same = g.S.PartialEq.eq in
    let first = c.args.variables.now in
    let ss = c.args.solvables.now in
    let all : take c.loop-solvable.solvable-index ss ≡ ss =
    take_all c.loop-solvable.solvable-index ss c.loop-solvable-test.false in
    c.loop-solvable.invariant.list ∙ ap (variables_in_turn same first) all
    ∙ variables-in-turn same g.met.S.Eq.laws.refl first ss
    ∙ ap (λ os. map (interned_variable same os) ss) (sym (c.loop-solvable.invariant.done
    ∙ ap (with_variables same first) all))

-- where a solvable was refused, those before it have variables
part-variable : (g : Over) (c : After-drop-list g) →
    IsPartlyInterned g.S.PartialEq.eq c.args.variables.now c.args.solvables.now c.intern_solvable.new.self
part-variable g c = (c.loop-solvable.solvable-index, c.in_err-variable.ensures.err ∙ c.loop-solvable.invariant.done)

pub returns-in_err-variable-clause-err : goal.returns-in_err-variable-clause-err
returns-in_err-variable-clause-err g c =
    handed_on _ c.from_residual-in_err-variable.result c.in_err-variable.field-0.0
    c.from_residual-in_err-variable.ensures.1 (part-variable g c)

pub returns-in_err-variable-clause-front : goal.returns-in_err-variable-clause-front
returns-in_err-variable-clause-front g c =
    front_of_part g.S.PartialEq.eq c.args.variables.now c.args.solvables.now c.intern_solvable.new.self
    (part-variable g c)

pub returns-in_err-variable-clause-longer : goal.returns-in_err-variable-clause-longer
returns-in_err-variable-clause-longer g c =
    longer_part g.S.PartialEq.eq c.args.variables.now c.args.solvables.now c.intern_solvable.new.self
    (part-variable g c)

pub returns-in_err-variable-clause-refused : goal.returns-in_err-variable-clause-refused
returns-in_err-variable-clause-refused g c =
    let same = g.S.PartialEq.eq in
    let large = g.S.Slots.IdMap.is_too_large in
    let first = c.args.variables.now in
    let ss = c.args.solvables.now in
    let i = c.loop-solvable.solvable-index in
    let x = c.solvable-item.result in
    let done = take i ss in
    let rest = drop (i + 1) ss in
    let split : ss ≡ done ++ x ∷ rest =
    sym (take-append-drop i ss) ∙ ap (λ l. done ++ l) (drop_more ss i x c.loop-solvable-test.true
    ∙ ap (λ y. y ∷ rest) (sym c.solvable-item.is)) in
    let e = c.in_err-variable.field-0.0 in
    handed_on _ c.from_residual-in_err-variable.result e c.from_residual-in_err-variable.ensures.1
    (refusal_wider _ _ e
    (λ out. subst (λ l. lacks_variables same large first l ≡ true) (sym split)
    (lacks_for_one same large first done x rest
    (subst (λ os. lacks_variable same large os x ≡ true) c.loop-solvable.invariant.done out)))
    c.in_err-variable.ensures.ids.refused)

-- in the end all of them have variables
part-whole : (g : Over) (c : Else-prove g) →
    IsPartlyInterned g.S.PartialEq.eq c.args.variables.now c.args.solvables.now c.loop-solvable.variables
part-whole g c =
    let same = g.S.PartialEq.eq in
    let all = take_all c.loop-solvable.solvable-index c.args.solvables.now c.loop-solvable-test.false in
    wholly same c.args.variables.now c.args.solvables.now c.loop-solvable.variables
    (c.loop-solvable.invariant.done ∙ ap (with_variables same c.args.variables.now) all)

pub returns-clause-front : goal.returns-clause-front
returns-clause-front g c = front_of_part g.S.PartialEq.eq c.args.variables.now c.args.solvables.now
    c.loop-solvable.variables (part-whole g c)

pub returns-clause-longer : goal.returns-clause-longer
returns-clause-longer g c = longer_part g.S.PartialEq.eq c.args.variables.now c.args.solvables.now
    c.loop-solvable.variables (part-whole g c)

pub returns-in_err-list-clause-err : goal.returns-in_err-list-clause-err
returns-in_err-list-clause-err g c = grind (arith, common_steps)

pub returns-in_err-list-clause-front : goal.returns-in_err-list-clause-front
returns-in_err-list-clause-front g c = grind (arith, common_steps)

pub returns-clause-ok : goal.returns-clause-ok
returns-clause-ok g c = grind (arith, common_steps)

pub returns-clause-fit : goal.returns-clause-fit
returns-clause-fit g c = grind (arith, common_steps)
