use Rattle.std.proofs.Common.{◌≡◌, ◌++◌, ◌∷◌, [], Bool, List, subst, sym, rules}
use Rattle.std.proofs.lemmas.List.Elements.{All-contains, All-push}
use Rattle.corrections.proofs.Words.{AreApart, AreConflicts, Contains, gathered, IfConflict, IsConflict, Provider, Vec}
use Rattle.corrections.proofs.correcting.try_without.Given.{Over}
use Rattle.corrections.proofs.correcting.try_without.Goals.{in-Conflict+in_ok-to_vec-2+in_ok-push, in_default-tried}
use Rattle.corrections.proofs.correcting.try_without.Goals as goal

-- the provider's functions
abbrev provided : (g : Over) → g.row.D.Denot → Provider g.row.D-NameId.Denot g.row.D-SolvableId.Denot
provided g = gathered g.D.NameId.PartialEq.eq g.D.SolvableId.PartialEq.eq g.D.NameId.Slots.IdMap.is_too_large
    g.D.SolvableId.Slots.IdMap.is_too_large g.D.SolvableId.Set.IdSet.is_too_large g.D.NameId.SolverId.are_many
    g.D.Interner.universe g.D.DependencyProvider.answers

pub returns-in-Some-clause-conflict : goal.returns-in-Some-clause-conflict
returns-in-Some-clause-conflict g c = λ left apart.
    let p = provided g c.args.provider.now in
    let requested = c.args.task.now.requested.now in
    let conflicts = c.args.conflicts.now.items in
    let known = c.in-Some.conflict.now in
    let same : c.in_ok-to_vec.field-0.items ≡ known.items = search rules in
    let among : Contains conflicts known = subst (λ (l : List (Vec Bool g.row.D-Alloc.Denot)). Contains l known)
    c.deref.ensures.value c.in-Some.ensures.0 in
    All-contains (IsConflict p requested) conflicts known c.requires among left
    (subst (λ m. AreApart m left) same apart)

pub returns-clause-conflicts : goal.returns-clause-conflicts
returns-clause-conflicts g c =
    let p = provided g c.args.provider.now in
    let requested = c.args.task.now.requested.now in
    let conflicts = c.args.conflicts.now.items in
    let All_of = λ (v : Vec (Vec Bool g.row.D-Alloc.Denot) g.row.D-Alloc.Denot). AreConflicts p requested v.items in
    elim c.match-tried.branch [
      | in-Conflict+in_ok-to_vec-2+in_ok-push w ↦
          let new = w.in_ok-to_vec-2.field-0 in
          let same : new.items ≡ w.in-Conflict.conflict.items = search rules in
          let pushed : w.push.new.self.items ≡ conflicts ++ new ∷ [] = search rules in
          let found = subst (IfConflict (IsConflict p requested)) w.in-Conflict.is c.in_ok-tried.ensures.conflict in
          subst All_of (sym w.conflicts-is) (subst (AreConflicts p requested) (sym pushed)
          (All-push (IsConflict p requested) conflicts new c.requires
          (λ left apart. found left (subst (λ m. AreApart m left) same apart))))
      | in_default-tried w ↦ subst All_of (sym w.conflicts-is) c.requires
    ]
