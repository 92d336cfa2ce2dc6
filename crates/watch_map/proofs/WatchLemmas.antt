-- What a requires clause watches beside its parent, by the first of its other literals and the first that isn't false.
use Rattle.std.proofs.Common.{◌≡◌, ℕ, Bool, true, false, not, ◌&&◌, List, [], ◌∷◌, Option, Some, None, refl, sym, ap}
use Rattle.std.proofs.Common.{cond}
use Rattle.std.specs.Prelude.{is_some}
use Rattle.watch_map.proofs.Words.{conflicts_with_parent, find, first_not_false, is_false_literal, known_false}
use Rattle.watch_map.proofs.Words.{list_all, Lit, option_or, unwrap_or, Values}

-- all pass where none is found that doesn't
all-unfound : {X : Type 0} (p : X → Bool) (xs : List X) → list_all p xs ≡ not (is_some (find (λ x. not (p x)) xs))
all-unfound p [] = refl
all-unfound p (x ∷ xs) =
    elim (p x) as (λ b. (b && list_all p xs) ≡ not (is_some (cond (not b) (Some x) (find (λ y. not (p y)) xs))))
    [ true ↦ all-unfound p xs | false ↦ refl ]

some_or : {X : Type 0} (o : Option X) (x : X) → Some (unwrap_or o x) ≡ option_or o (Some x)
some_or None x = refl
some_or (Some y) x = refl

-- the first that isn't false, or else the first
pub first_or : (val : Values) (ls : List Lit)
    → first_not_false val ls ≡ option_or (find (λ l. not (is_false_literal val l)) ls) (find (λ l. true) ls)
first_or val [] = refl
first_or val (l ∷ ls) = some_or (find (λ x. not (is_false_literal val x)) (l ∷ ls)) l

-- a conflict where there is a literal, none isn't false, and the parent isn't
pub met_by_parent : (val : Values) (parent : ℕ) (ls : List Lit)
    → (not (is_some (find (λ l. not (is_false_literal val l)) ls))
    && (is_some (find (λ l. true) ls) && not (known_false (val parent))))
    ≡ conflicts_with_parent val parent ls
met_by_parent val parent [] = refl
met_by_parent val parent (l ∷ ls) =
    ap (λ b. b && not (known_false (val parent))) (sym (all-unfound (is_false_literal val) (l ∷ ls)))
