-- Why a request that has what the reasons name has no solution; and texts.
use Rattle.std.proofs.Common.{◌≡◌, ◌∙◌, ℕ, ◌<◌, zero, suc, true, List, [], ◌∷◌, ◌++◌, Option, None, Some}
use Rattle.std.proofs.Common.{ap, append_assoc, arith, get_or, length, refl, subst, sym}
use Rattle.std.proofs.lemmas.List.Elements.{All-contains}
use Rattle.solutions.proofs.ReasonLaws.{none_by_reasons}
use Rattle.corrections.proofs.Words.{All, AreEnough, AreSo, ConditionalRequirement, cons_option, Contains, IsForbidden}
use Rattle.corrections.proofs.Words.{IsSo, named_in, Provider, Reason, requirement_in}
use Rattle.solutions.specs.declared.reason.Reason.TheVariants as R

-- what is in a list is in a longer one
still_in : {X : Type 0} (head : Option X) (xs : List X) (x : X) → Contains xs x → Contains (cons_option head xs) x
still_in None xs x has = has
still_in (Some y) xs x has = (suc has.0, omega (arith, has.1), has.2)

-- what a reason names is among what the reasons name
named_has : {N S : Type 0} (reasons : List (Reason N S)) (k : ℕ) (d : Reason N S) (c : ConditionalRequirement)
    → k < length reasons → requirement_in (get_or reasons k d) ≡ Some c → Contains (named_in reasons) c
named_has [] k d c below is = absurd (omega (arith, below))
named_has (r ∷ reasons) zero d c below is =
    subst (λ o. Contains (cons_option o (named_in reasons)) c) (sym is) (0, omega arith, refl)
named_has (r ∷ reasons) (suc k) d c below is =
    still_in (requirement_in r) (named_in reasons) c (named_has reasons k d c (omega (arith, below)) is)

module _ {N S : Type 0} (p : Provider N S) (requested other : List ConditionalRequirement) where
  -- a reason is still so of a request that has what it names
  so_of : (r : Reason N S) → ((c : ConditionalRequirement) → requirement_in r ≡ Some c → Contains other c)
      → IsSo p requested r → IsSo p other r
  so_of (R.Needs None c) has so = has c refl
  so_of (R.Needs (Some parent) c) has so = so
  so_of (R.Lacks None c) has so = (has c refl, so.1)
  so_of (R.Lacks (Some parent) c) has so = so
  so_of (R.Limits solvable set) has so = so
  so_of (R.Unknown solvable string) has so = so
  so_of (R.Excluded solvable string) has so = so
  so_of (R.Locked solvable) has so = so
  so_of (R.OneVersion name) has so = so

  pub all_so_of : (reasons : List (Reason N S)) → All (Contains other) (named_in reasons) → AreSo p requested reasons
      → AreSo p other reasons
  all_so_of reasons all so k d below =
      so_of (get_or reasons k d)
      (λ c is. All-contains (Contains other) (named_in reasons) c all (named_has reasons k d c below is)) (so k d below)

pub forbidden_by : {N S : Type 0} (p : Provider N S) (itself : (n : N) → p.same_name n n ≡ true)
    (same_itself : (s : S) → p.same_solvable s s ≡ true)
    (equal : (s t : S) → p.same_solvable s t ≡ true → s ≡ t) (reasons : List (Reason N S))
    → AreEnough p reasons → (requested : List ConditionalRequirement) → AreSo p requested reasons
    → IsForbidden p (named_in reasons)
forbidden_by p itself same_itself equal reasons enough requested so other all =
    none_by_reasons p itself same_itself equal other reasons (all_so_of p requested other reasons all so) enough

-- what is appended in three steps
pub in_three : (old first second new head all tail : List ℕ) → first ≡ old ++ head → second ≡ first ++ all
    → new ≡ second ++ tail → new ≡ old ++ (head ++ (all ++ tail))
in_three old first second new head all tail begun gone ended =
    ended ∙ ap (λ text. text ++ tail) (gone ∙ ap (λ text. text ++ all) begun)
    ∙ append_assoc (old ++ head) all tail ∙ append_assoc old head (all ++ tail)
