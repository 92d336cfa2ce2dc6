use Rattle.std.proofs.Common.{arith, ◌∙◌, [], ◌∷◌, ◌++◌, ◌+◌, map, take, sym, subst}
use Rattle.example_index.proofs.Words.{AllZip, IsSet, plain_set, with_bytes}
use Rattle.example_index.proofs.Later.{later_twice, later_bytes, map_more, zip_push, sets_still}
use Rattle.std.proofs.lemmas.List.{take_all}
use Rattle.example_index.proofs.interning.intern_sets.Goals as goal

pub loop-set-preserved : goal.loop-set-preserved
loop-set-preserved c =
    let before = c.loop-set.pool in
    let after = c.intern_set.new.pool in
    let sets = c.args.sets.now in
    let i = c.loop-set.set-index in
    record {
      sets = subst (λ ids. AllZip (IsSet (with_bytes after)) ids (map plain_set (take (i + 1) sets)))
          (sym c.in_ok-push.ensures.items)
          (subst (λ said. AllZip (IsSet (with_bytes after)) (c.loop-set.ids.items ++ c.in_ok-id.id ∷ []) said)
          (sym (map_more plain_set sets i _ c.loop-set-test.true))
          (zip_push (IsSet (with_bytes after)) c.loop-set.ids.items (map plain_set (take i sets)) c.in_ok-id.id _
          (sets_still (with_bytes before) (with_bytes after) (later_bytes before after c.in_ok-id.ensures.later)
          c.loop-set.ids.items
          (map plain_set (take i sets)) c.loop-set.invariant.sets) c.in_ok-id.ensures.is));
      later = later_twice c.args.pool.now before after c.loop-set.invariant.later c.in_ok-id.ensures.later;
      solvables = c.in_ok-id.ensures.solvables ∙ c.loop-set.invariant.solvables;
    }

pub returns-in_err-id-clause-later : goal.returns-in_err-id-clause-later
returns-in_err-id-clause-later c =
    later_twice c.args.pool.now c.loop-set.pool c.intern_set.new.pool c.loop-set.invariant.later
    c.intern_set.ensures.later

pub returns-in_err-push-clause-later : goal.returns-in_err-push-clause-later
returns-in_err-push-clause-later c =
    later_twice c.args.pool.now c.loop-set.pool c.intern_set.new.pool c.loop-set.invariant.later
    c.intern_set.ensures.later

pub returns-clause-are : goal.returns-clause-are
returns-clause-are c =
    subst (λ items. AllZip (IsSet (with_bytes c.loop-set.pool)) c.loop-set.ids.items (map plain_set items))
    (take_all c.loop-set.set-index c.args.sets.now (omega (arith, c.loop-set-test.false))) c.loop-set.invariant.sets
