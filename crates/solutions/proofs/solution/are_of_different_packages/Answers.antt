use Rattle.std.proofs.Common.{◌≡◌, ◌∙◌, ◌+◌, ◌++◌, ◌∷◌, [], true, false, sym, ap, subst, map, take}
use Rattle.std.proofs.Common.{rules}
use Rattle.std.proofs.lemmas.List.Elements.{All-nil}
use Rattle.solutions.proofs.Words.{IsDistinct, IsUpdate, list_any}
use Rattle.solutions.proofs.DecisionLemmas.{decides_false, next_holds}
use Rattle.solutions.proofs.MemberLemmas.{one_more, distinct_more, no_members, more_keys, repeated}
use Rattle.solutions.proofs.solution.are_of_different_packages.Goals as goal

pub loop-solvable-init : goal.loop-solvable-init
loop-solvable-init g c =
    let same = g.D.NameId.PartialEq.eq in
    record {
      known = All-nil (λ s. (g.D.Interner.universe c.args.provider.now).knows_solvable s ≡ true);
      kept = c.new-names.ensures;
      distinct = no_members same g.met.D.NameId.Eq.laws.refl g.met.D.NameId.SameValue.same;
    }

pub returns-then-not-branch : goal.returns-then-not-branch
returns-then-not-branch g c =
    let same = g.D.NameId.PartialEq.eq in
    let name = (g.D.Interner.universe c.args.provider.now).solvable_name in
    let ss = c.args.solvables.now in
    let i = c.loop-solvable.solvable-index in
    let x = c.solvable-item.result in
    let had : g.D.NameId.Set.IdSet.has c.loop-solvable.names c.solvable_name.result ≡ true = search rules in
    let among : list_any (same (name x)) (map name (take i ss)) ≡ true =
    sym (c.loop-solvable.invariant.kept (name x))
    ∙ ap (g.D.NameId.Set.IdSet.has c.loop-solvable.names) (sym c.solvable_name.ensures) ∙ had in
    decides_false (λ both. repeated same g.met.D.NameId.Eq.laws.refl g.met.D.NameId.SameValue.same name ss i x
    c.loop-solvable-test.true c.solvable-item.is g.met.D.NameId.Eq.laws.symm among both.1)

pub loop-solvable-preserved : goal.loop-solvable-preserved
loop-solvable-preserved g c =
    let same = g.D.NameId.PartialEq.eq in
    let reflexive = g.met.D.NameId.Eq.laws.refl in
    let equal = g.met.D.NameId.SameValue.same in
    let universe = g.D.Interner.universe c.args.provider.now in
    let name = universe.solvable_name in
    let has = g.D.NameId.Set.IdSet.has in
    let ss = c.args.solvables.now in
    let i = c.loop-solvable.solvable-index in
    let x = c.solvable-item.result in
    let lt = c.loop-solvable-test.true in
    let is = c.solvable-item.is in
    let known : universe.knows_solvable x ≡ true = search rules in
    let new : has c.loop-solvable.names c.solvable_name.result ≡ false = search rules in
    let more : map name (take (i + 1) ss) ≡ map name (take i ss) ++ name x ∷ [] =
    more_keys same reflexive equal name ss i x lt is in
    let update : IsUpdate (has c.loop-solvable.names) (name x) true (has c.insert.new.self) =
    subst (λ n. IsUpdate (has c.loop-solvable.names) n true (has c.insert.new.self)) c.solvable_name.ensures
    c.in_ok-insert.ensures.ok in
    record {
      known = next_holds (λ s. universe.knows_solvable s ≡ true) ss i x lt is known c.loop-solvable.invariant.known;
      kept = λ n. one_more same reflexive equal (has c.loop-solvable.names) (has c.insert.new.self)
          (map name (take i ss)) (name x)
          c.loop-solvable.invariant.kept update n ∙ ap (list_any (same n)) (sym more);
      distinct = subst (IsDistinct same) (sym more) (distinct_more same reflexive equal g.met.D.NameId.Eq.laws.symm
          (map name (take i ss)) (name x)
          c.loop-solvable.invariant.distinct
          (sym (c.loop-solvable.invariant.kept (name x))
          ∙ ap (has c.loop-solvable.names) (sym c.solvable_name.ensures) ∙ new));
    }
