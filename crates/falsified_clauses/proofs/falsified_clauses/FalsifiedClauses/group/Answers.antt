use Rattle.std.proofs.Common.{◌≡◌, ◌∙◌, length, sym, subst}
use Rattle.falsified_clauses.proofs.Words.{number_in}
use Rattle.falsified_clauses.proofs.KeyLaws.{number_found, number_absent, made_number, made_there, adds_none, adds_made}
use Rattle.falsified_clauses.proofs.falsified_clauses.FalsifiedClauses.group.Goals as goal

pub returns-in-Some-clause-number : goal.returns-in-Some-clause-number
returns-in-Some-clause-number g c =
    let key = c.args.key in
    subst (λ k. c.in-Some.group ≡ number_in k.keys key) c.self.view_is
    (number_found c.self.inside.keys.items key c.in-Some.group
    (sym (c.in-Some.ensures ∙ c.self.invariant.1 key))).0

pub returns-in-Some-clause-keys : goal.returns-in-Some-clause-keys
returns-in-Some-clause-keys g c = adds_none (λ other. other ≡ c.args.key) c.args.self.now.keys

pub add_group-requires-clause-new : goal.add_group-requires-clause-new
add_group-requires-clause-new g c =
    let key = c.args.key in
    subst (λ k. number_in k.keys key ≡ length k.keys) c.self.view_is
    (number_absent c.self.inside.keys.items key (sym (c.in_default.ensures ∙ c.self.invariant.1 key)))

pub returns-clause-number : goal.returns-clause-number
returns-clause-number g c =
    let key = c.args.key in
    let absent = subst (λ k. number_in k.keys key ≡ length k.keys) c.self.view_is
    (number_absent c.self.inside.keys.items key (sym (c.in_default.ensures ∙ c.self.invariant.1 key))) in
    made_number c.args.self.now.keys c.add_group.new.self.keys key absent c.add_group.result
    c.add_group.ensures.keys c.add_group.ensures.number

pub returns-clause-there : goal.returns-clause-there
returns-clause-there g c =
    let key = c.args.key in
    let absent = subst (λ k. number_in k.keys key ≡ length k.keys) c.self.view_is
    (number_absent c.self.inside.keys.items key (sym (c.in_default.ensures ∙ c.self.invariant.1 key))) in
    made_there c.args.self.now.keys c.add_group.new.self.keys key absent c.add_group.result c.add_group.ensures.keys

pub returns-clause-keys : goal.returns-clause-keys
returns-clause-keys g c =
    adds_made c.args.self.now.keys c.add_group.new.self.keys c.args.key c.add_group.result c.add_group.ensures.keys
    c.add_group.ensures.refused
