-- What the parts of a solution decide of the whole.
use Rattle.std.proofs.Common.{◌≡◌, ◌∙◌, Bool, true, false, sym, subst, List, [], ◌∷◌, map}
use Rattle.std.proofs.Math.Path.{fun_ext}
use Rattle.std.proofs.lemmas.List.Elements.{All-nil, All-cons, All-head, All-tail, All-weaker}
use Rattle.solutions.proofs.Words.{All, AreAllFit, AreNeedsSatisfied, ConditionalRequirement, Decides, is_allowed}
use Rattle.solutions.proofs.Words.{is_among, is_respected, IsDistinct, IsFit, IsSatisfied, IsSolution, Known, list_all}
use Rattle.solutions.proofs.Words.{Needs, Provider, VersionSetId}
use Rattle.solutions.proofs.DecisionLemmas.{decides_false, refuted}

-- what both parts of known needs decide
pub known_needs_satisfied : {N S : Type 0} (p : Provider N S) (has : S →
    Bool) (needs : Needs) (requirements : List ConditionalRequirement)
    (constrains : List VersionSetId) → needs ≡ Known requirements constrains → (g b : Bool) → g ≡ true
    → Decides g (All (IsSatisfied p has) requirements) → b ≡ list_all (is_respected p has) constrains →
    Decides b (AreNeedsSatisfied p has needs)
known_needs_satisfied p has needs requirements constrains known g b g_is satisfied kept =
    subst (λ n. Decides b (AreNeedsSatisfied p has n)) (sym known) (
      λ yes. (satisfied.0 g_is, sym kept ∙ yes),
      λ both. kept ∙ both.1,
    )

-- what holds of all, and what else does
pub All-both : {X : Type 0} (P Q : X → Type 0) (xs : List X) → All P xs → All Q xs → All (λ x. P x × Q x) xs
All-both P Q [] ps qs = All-nil (λ x. P x × Q x)
All-both P Q (x ∷ xs) ps qs =
    All-cons (λ y. P y × Q y) x xs (All-head P x xs ps, All-head Q x xs qs)
    (All-both P Q xs (All-tail P x xs ps) (All-tail Q x xs qs))

module _ {N S : Type 0} (p : Provider N S) (requested : List ConditionalRequirement) (picked : List S) where
  -- each solvable of a solution is allowed, and its needs are satisfied
  pub solution_is_fit : IsSolution p requested picked → AreAllFit p picked
  solution_is_fit s =
      All-both (λ s. is_allowed p s ≡ true) (λ s. AreNeedsSatisfied p (is_among p picked) (p.answers.needs s)) picked
      s.allowed s.needs_satisfied

  -- the solvables are known, and of different packages
  abbrev pub AreVersions : Type 0
  AreVersions = All (λ s. p.universe.knows_solvable s ≡ true) picked
      × IsDistinct p.same_name (map p.universe.solvable_name picked)

  module _ (has : S → Bool) (is : (s : S) → has s ≡ is_among p picked s) where
    pub requested_fails : (b : Bool) → b ≡ false → Decides b (All (IsSatisfied p has) requested) →
        Decides false (IsSolution p requested picked)
    requested_fails b is_false decides =
        decides_false (λ s. refuted is_false decides (subst (λ h. All (IsSatisfied p h) requested)
        (sym (fun_ext is)) s.satisfied))

    pub fit_decide : (v g b : Bool) → v ≡ true → Decides v AreVersions → g ≡ true →
        Decides g (All (IsSatisfied p has) requested)
        → Decides b (All (IsFit p has) picked) → Decides b (IsSolution p requested picked)
    fit_decide v g b v_is versions g_is satisfied fit = (
      λ e. record {
        known = (versions.0 v_is).0;
        allowed = All-weaker (IsFit p has) (λ s. is_allowed p s ≡ true) (λ s both. both.0) picked (fit.0 e);
        one_a_package = (versions.0 v_is).1;
        satisfied = subst (λ h. All (IsSatisfied p h) requested) (fun_ext is) (satisfied.0 g_is);
        needs_satisfied = All-weaker (IsFit p (is_among p picked))
            (λ s. AreNeedsSatisfied p (is_among p picked) (p.answers.needs s))
            (λ s both. both.1) picked (subst (λ h. All (IsFit p h) picked) (fun_ext is) (fit.0 e));
      },
      λ s. fit.1 (subst (λ h. All (IsFit p h) picked) (sym (fun_ext is)) (solution_is_fit s)),
    )
