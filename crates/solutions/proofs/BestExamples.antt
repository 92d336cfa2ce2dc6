-- Ranks by a wish for the newest version of a library, and what isn't best by it.
use Rattle.std.proofs.Common.{◌≡◌, ℕ, true, List, [], ◌∷◌, refl, arith}
use Rattle.std.proofs.lemmas.List.Elements.{All-nil}
use Rattle.solutions.proofs.Words.{Alternative, IsBest, IsSolution, rank}
use Rattle.solutions.proofs.Examples.{always, ecosystem}

-- version 2 of the library, or else version 1
abbrev newest : List (Alternative ℕ)
newest = record { solvable = 2; is_picked = true } ∷ record { solvable = 1; is_picked = true } ∷ []

pub newest_rank : rank ecosystem (0 ∷ 2 ∷ 3 ∷ []) newest ≡ 0
newest_rank = refl

pub older_rank : rank ecosystem (1 ∷ []) newest ≡ 1
older_rank = refl

-- the app alone has none of them
pub none_rank : rank ecosystem (0 ∷ []) newest ≡ 2
none_rank = refl

-- where version 2 is a solution, version 1 isn't the best one
pub older_is_beaten : IsSolution ecosystem (always 1 ∷ []) (2 ∷ []) →
    IsBest ecosystem (always 1 ∷ []) (newest ∷ []) (1 ∷ []) → ⊥
older_is_beaten solution best =
    let least = best.unbeaten 0 newest refl (2 ∷ []) solution
    (All-nil (λ wish. rank ecosystem (1 ∷ []) wish ≡ rank ecosystem (2 ∷ []) wish)) in
    omega (arith, least)
