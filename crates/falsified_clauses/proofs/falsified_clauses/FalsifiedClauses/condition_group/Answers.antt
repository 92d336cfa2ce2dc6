use Rattle.std.proofs.Common.{◌≡◌, ap, sym, subst}
use Rattle.falsified_clauses.proofs.Words.{Condition, condition_number, HasConditionGroup, IsConditionKey}
use Rattle.falsified_clauses.proofs.KeyLaws.{adds_none, adds_within}
use Rattle.falsified_clauses.proofs.falsified_clauses.FalsifiedClauses.condition_group.Goals as goal

pub returns-in-None-clause-number : goal.returns-in-None-clause-number
returns-in-None-clause-number g c = sym (ap (condition_number c.args.self.now.keys) c.in-None.is)

pub returns-in-None-clause-there : goal.returns-in-None-clause-there
returns-in-None-clause-there g c = subst (HasConditionGroup c.args.self.now.keys) (sym c.in-None.is) tt

pub returns-in-None-clause-keys : goal.returns-in-None-clause-keys
returns-in-None-clause-keys g c = adds_none (IsConditionKey c.args.condition) c.args.self.now.keys

pub returns-in_ok-group-in-Some-clause-keys : goal.returns-in_ok-group-in-Some-clause-keys
returns-in_ok-group-in-Some-clause-keys g c =
    let key = Condition c.in-Some.disjunction in
    adds_within (λ other. other ≡ key) (IsConditionKey c.args.condition) c.args.self.now.keys c.group.new.self.keys
    (λ k is. (c.in-Some.disjunction, c.in-Some.is, is)) c.group.ensures.keys

pub returns-in_err-group-in-Some-clause-keys : goal.returns-in_err-group-in-Some-clause-keys
returns-in_err-group-in-Some-clause-keys g c =
    let key = Condition c.in-Some.disjunction in
    adds_within (λ other. other ≡ key) (IsConditionKey c.args.condition) c.args.self.now.keys c.group.new.self.keys
    (λ k is. (c.in-Some.disjunction, c.in-Some.is, is)) c.group.ensures.keys
