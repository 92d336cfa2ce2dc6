use Rattle.std.proofs.lemmas.Grind.{common_steps}
use Rattle.std.proofs.Common.{arith, rules, ◌<◌, ◌≡◌, ◌++◌, ◌∷◌, [], sym, ◌∙◌, ap, None, length, length-append}
use Rattle.variables.specs.declared.variable_origin.VariableOrigin.TheVariants.{Solvable}
use Rattle.variables.specs.Variables.{variable_of_solvable}
use Rattle.variables.proofs.VariableLemmas.{agrees-with_variable, distinct-new, root-append, not_known}
use Rattle.variables.proofs.VariableLemmas.{with_variable-new, interned_variable-new, IsVariableMap-same}
use Rattle.variables.proofs.variable_map.VariableMap.intern_solvable.Goals as goal

pub invariant_of-self-2 : goal.invariant_of-self-2
invariant_of-self-2 g c =
    let same = g.S.PartialEq.eq in
    let os = c.self.inside.origins.items in
    let absent : variable_of_solvable same os c.args.solvable ≡ None =
    ap (λ l. variable_of_solvable same l c.args.solvable) c.self.view_is ∙ sym c.lookup_solvable.ensures.variable
    ∙ c.in_default.is in
    let size : c.len-index.result ≡ length os = c.len-index.ensures ∙ c.self.inside.origins.ok.0 in
    let below : c.len-index.result < 2147483647 = search rules in
    rw c.in_ok-push.ensures.items record {
      agrees = agrees-with_variable same g.met.S.Eq.laws.refl g.met.S.SameValue.same c.args.solvable c.len-index.result
          os _ _ _ size c.self.invariant.agrees c.make_room.ensures.same absent
          (c.put.ensures.put.0 ∙ c.new.ensures, c.put.ensures.put.1);
      few = simp length-append (omega (arith, size, below));
      root_first = root-append os _ c.self.invariant.root_first;
      distinct = distinct-new same g.met.S.Eq.laws.refl g.met.S.SameValue.same c.args.solvable os absent
          c.self.invariant.distinct;
    }

-- a refusal comes only where the solvable has no variable

pub returns-then-not-in_range-clause-known : goal.returns-then-not-in_range-clause-known
returns-then-not-in_range-clause-known g c =
    λ known. absurd (not_known _ (sym c.lookup_solvable.ensures.variable ∙ c.in_default.is) known)

pub returns-in_err-make_room-clause-known : goal.returns-in_err-make_room-clause-known
returns-in_err-make_room-clause-known g c =
    λ known. absurd (not_known _ (sym c.lookup_solvable.ensures.variable ∙ c.in_default.is) known)

pub returns-in_err-push-clause-known : goal.returns-in_err-push-clause-known
returns-in_err-push-clause-known g c =
    λ known. absurd (not_known _ (sym c.lookup_solvable.ensures.variable ∙ c.in_default.is) known)

-- it changes no value

pub invariant_of-self : goal.invariant_of-self
invariant_of-self g c =
    IsVariableMap-same g.S.PartialEq.eq _ _ c.self.inside.origins.items c.make_room.ensures.same c.self.invariant

pub invariant_of-self-in_err-push : goal.invariant_of-self-in_err-push
invariant_of-self-in_err-push g c =
    rw c.in_err-push.ensures.items
    (IsVariableMap-same g.S.PartialEq.eq _ _ c.self.inside.origins.items c.make_room.ensures.same c.self.invariant)

-- a new variable

pub returns-clause-variable : goal.returns-clause-variable
returns-clause-variable g c =
    c.from_index.ensures ∙ (c.len-index.ensures ∙ (c.self.inside.origins.ok.0 ∙ (ap length c.self.view_is
    ∙ sym (interned_variable-new g.S.PartialEq.eq c.args.solvable c.args.self.now
    (sym c.lookup_solvable.ensures.variable ∙ c.in_default.is)))))

pub returns-clause-ok : goal.returns-clause-ok
returns-clause-ok g c =
    c.in_ok-push.ensures.items ∙ (ap (λ os. os ++ Solvable c.args.solvable ∷ []) c.self.view_is
    ∙ sym (with_variable-new g.S.PartialEq.eq c.args.solvable c.args.self.now (sym c.lookup_solvable.ensures.variable
    ∙ c.in_default.is)))

pub put-requires : goal.put-requires
put-requires g c = grind (arith, common_steps)

pub from_index-requires : goal.from_index-requires
from_index-requires g c = grind (arith, common_steps)
