use Rattle.std.proofs.Common.{[], ◌∷◌}
use Rattle.std.proofs.lemmas.Result.{IfOk-weaker}
use Rattle.example_index.proofs.Words.{plain_set, with_bytes}
use Rattle.example_index.proofs.Conditions.{both_conditions}
use Rattle.example_index.proofs.Later.{condition_still, later_bytes, later_twice}
use Rattle.example_index.proofs.interning.intern_both.Goals as goal

pub returns-clause-is : goal.returns-clause-is
returns-clause-is c =
    let first = c.args.pool.now in
    let before = c.intern_leaf.new.pool in
    let after = c.intern_said.new.pool in
    let made = plain_set c.args.set.now in
    IfOk-weaker c.intern_said.result _ _ (λ id h sets l. both_conditions (with_bytes after) id c.args.condition
    c.in_ok-other.other sets made h
    (condition_still (with_bytes first) (with_bytes after)
    (later_bytes first after (later_twice first before after c.intern_leaf.ensures.later
    c.intern_said.ensures.later)) c.args.condition (sets ∷ []) l)
    (condition_still (with_bytes before) (with_bytes after) (later_bytes before after c.intern_said.ensures.later)
    c.in_ok-other.other
    ((made ∷ []) ∷ []) c.in_ok-other.ensures.is)) c.intern_said.ensures.is

pub returns-clause-later : goal.returns-clause-later
returns-clause-later c =
    later_twice c.args.pool.now c.intern_leaf.new.pool c.intern_said.new.pool c.in_ok-other.ensures.later
    c.intern_said.ensures.later
