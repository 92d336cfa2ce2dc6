use Rattle.std.proofs.Common.{◌∷◌, ◌<◌, map, sym, subst, length}
use Rattle.example_index.proofs.Words.{All, AllZip, IsSet, plain_set, with_bytes}
use Rattle.example_index.proofs.Later.{later_bytes, sets_here, set_still}
use Rattle.example_index.proofs.UnionLemmas.{union_made}
use Rattle.example_index.proofs.interning.intern_union.Goals as goal

pub intern_version_set_union-requires : goal.intern_version_set_union-requires
intern_version_set_union-requires c =
    let before = c.intern_set.new.pool in
    let pool = c.intern_sets.new.pool in
    let first = c.in_ok-first.first in
    subst (λ ids. All (λ v. v.0 < length pool.version_sets) (first ∷ ids)) (sym c.deref-2.ensures.value)
    (sets_here (with_bytes pool) (first ∷ c.in_ok-others.others.items)
    (plain_set c.args.sets.now.first ∷ map plain_set c.deref.result.now) (
      set_still (with_bytes before) (with_bytes pool) (later_bytes before pool c.in_ok-others.ensures.later) first
          (plain_set c.args.sets.now.first)
          c.in_ok-first.ensures.is,
      c.in_ok-others.ensures.are,
    ))

pub returns-clause-is : goal.returns-clause-is
returns-clause-is c =
    let before = c.intern_set.new.pool in
    let pool = c.intern_sets.new.pool in
    let first = c.in_ok-first.first in
    let set = plain_set c.args.sets.now.first in
    union_made pool c.intern_version_set_union.new.self c.in_ok-union.union first c.deref-2.result.now set
    (map plain_set c.args.sets.now.others.items)
    c.in_ok-union.ensures.ok c.in_ok-union.ensures.id
    (set_still (with_bytes before) (with_bytes pool) (later_bytes before pool c.in_ok-others.ensures.later) first
    set c.in_ok-first.ensures.is)
    (subst (λ ids. AllZip (IsSet (with_bytes pool)) ids (map plain_set c.args.sets.now.others.items))
    (sym c.deref-2.ensures.value)
    (subst (λ sets. AllZip (IsSet (with_bytes pool)) c.in_ok-others.others.items (map plain_set sets))
    c.deref.ensures.value c.in_ok-others.ensures.are))
