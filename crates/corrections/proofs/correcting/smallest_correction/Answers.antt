use Rattle.std.proofs.Common.{◌≡◌, ◌∙◌, ◌++◌, ◌∷◌, [], Bool, List, ap, refl, rules, subst, sym}
use Rattle.std.proofs.lemmas.List.Elements.{All-nil}
use Rattle.corrections.proofs.Words.{AreConflicts, ConditionalRequirement, Correction, IfFound, IfNext, IsConflict}
use Rattle.corrections.proofs.Words.{IsCover, IsSmallest, Vec}
use Rattle.corrections.proofs.CorrectionLemmas.{cover_of_empty}
use Rattle.corrections.proofs.correcting.smallest_correction.Invariants.{provided}
use Rattle.corrections.proofs.correcting.smallest_correction.Goals as goal

pub sizes-init : goal.sizes-init
sizes-init g c =
    let p = provided g c.args.provider.now in
    let requested = c.args.requested.now in
    let none = c.in_ok-vec.field-0 in
    let pushed : c.push.new.self.items ≡ c.new-level.result.items ++ none ∷ [] = search rules in
    let is : c.push.new.self.items ≡ none ∷ [] = pushed ∙ ap (λ sets. sets ++ none ∷ []) c.new-level.ensures.items in (
      cover_of_empty p requested none _ c.push.new.self.items
          (c.in_ok-vec.ensures.items_if_clones_equal (λ mark same. same)) is,
      subst (λ (sets : List (Vec Bool g.row.D-Alloc.Denot)). AreConflicts p requested sets)
          (sym c.new-conflicts.ensures.items) (All-nil (IsConflict p requested)),
      refl,
    )

pub try_level-requires-clause-cover : goal.try_level-requires-clause-cover
try_level-requires-clause-cover g c =
    let p = provided g c.args.provider.now in
    subst (λ (requested : List ConditionalRequirement). IsCover p requested c.deref.result.now)
    (sym c.sizes.invariant.2)
    (subst (λ (sets : List (Vec Bool g.row.D-Alloc.Denot)). IsCover p c.args.requested.now sets)
    (sym c.deref.ensures.value) c.sizes.invariant.0)

pub try_level-requires-clause-conflicts : goal.try_level-requires-clause-conflicts
try_level-requires-clause-conflicts g c =
    let p = provided g c.args.provider.now in
    subst (λ (requested : List ConditionalRequirement). AreConflicts p requested c.sizes.conflicts.items)
    (sym c.sizes.invariant.2) c.sizes.invariant.1

pub returns-in-Found-clause-smallest : goal.returns-in-Found-clause-smallest
returns-in-Found-clause-smallest g c =
    let p = provided g c.args.provider.now in
    let Smallest = λ (requested : List ConditionalRequirement)
    (correction : Correction g.row.D-SolvableId.Denot g.row.D-Alloc.Denot).
    IsSmallest p requested correction.left_out.items in
    subst (λ (requested : List ConditionalRequirement). Smallest requested c.in-Found.correction) c.sizes.invariant.2
    (subst (IfFound (Smallest c.sizes.task.requested.now)) c.in-Found.is c.in_ok-correction.ensures.smallest)

pub sizes-preserved : goal.sizes-preserved
sizes-preserved g c =
    let p = provided g c.args.provider.now in
    let next = c.in-Next.next.items in (
      subst (λ (requested : List ConditionalRequirement). IsCover p requested next) c.sizes.invariant.2
          (subst (IfNext (IsCover p c.sizes.task.requested.now)) c.in-Next.is c.in_ok-correction.ensures.next),
      subst (λ (requested : List ConditionalRequirement). AreConflicts p requested c.try_level.new.conflicts.items)
          c.sizes.invariant.2 c.in_ok-correction.ensures.conflicts,
      c.sizes.invariant.2,
    )
