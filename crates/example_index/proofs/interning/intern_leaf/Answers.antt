use Rattle.std.proofs.lemmas.Result.{IfOk-weaker}
use Rattle.example_index.proofs.Words.{plain_set, with_bytes}
use Rattle.example_index.proofs.Conditions.{leaf_condition}
use Rattle.example_index.proofs.Later.{set_still, later_bytes}
use Rattle.example_index.proofs.Later.{later_twice}
use Rattle.example_index.proofs.interning.intern_leaf.Goals as goal

pub returns-clause-is : goal.returns-clause-is
returns-clause-is c =
    let before = c.intern_set.new.pool in
    let after = c.intern_said.new.pool in
    let set = plain_set c.args.set.now in
    IfOk-weaker c.intern_said.result _ _ (λ id h. leaf_condition (with_bytes after) id c.in_ok-set.set set h
    (set_still (with_bytes before) (with_bytes after) (later_bytes before after c.intern_said.ensures.later)
    c.in_ok-set.set set c.in_ok-set.ensures.is))
    c.intern_said.ensures.is

pub returns-clause-later : goal.returns-clause-later
returns-clause-later c =
    later_twice c.args.pool.now c.intern_set.new.pool c.intern_said.new.pool c.in_ok-set.ensures.later
    c.intern_said.ensures.later
