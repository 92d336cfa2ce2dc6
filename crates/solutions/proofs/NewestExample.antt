-- Wishes for the newest versions in a small ecosystem. The solvable 0 is an editor; 1, 2 and 3 are versions of vim, and
-- version 2 is favored. An editor or vim is requested, and vim.
use Rattle.std.proofs.Common.{◌≡◌, ℕ, true, false, List, [], ◌∷◌, ◌++◌, refl, None, Some}
use Rattle.std.proofs.Common.{if◌then◌else◌, ◌==◌, nat_eq, nat_lt}
use Rattle.solutions.proofs.Words.{Alternative, ConditionalRequirement, Known, newest, Provider, Single, Union}
use Rattle.solutions.proofs.Words.{VersionSetId}
use Rattle.resolvo_pool.specs.Types.Condition.TheVariants as Cond

abbrev set : ℕ → VersionSetId
set n = record { 0 = n }

-- the greater ones first, of solvables that are listed in ascending order
abbrev backwards : List ℕ → List ℕ
backwards [] = []
backwards (s ∷ rest) = backwards rest ++ s ∷ []

-- the version set 0 holds the editor, 1 all versions of vim; the union is of both
abbrev ecosystem : Provider ℕ ℕ
ecosystem = record {
  same_name = nat_eq;
  same_solvable = nat_eq;
  is_large_name = λ _. false;
  is_large_solvable = λ _. false;
  is_large_hint = λ _. false;
  are_names_many = false;
  universe = record {
    knows_string = λ _. false;
    knows_name = λ n. nat_lt n 2;
    knows_solvable = λ s. nat_lt s 4;
    knows_set = λ v. nat_lt v.0 2;
    knows_union = λ u. nat_lt u.0 1;
    knows_condition = λ c. nat_lt c 1;
    solvable_name = λ s. if s == 0 then 0 else 1;
    set_name = λ v. v.0;
    union_sets = λ _. set 0 ∷ set 1 ∷ [];
    condition = λ _. Cond.Requirement (set 0);
  };
  answers = record {
    candidates = λ n. if n == 0 then 0 ∷ [] else 1 ∷ 2 ∷ 3 ∷ [];
    matches = λ _ _. true;
    favored = λ n. if n == 0 then None else Some 2;
    locked = λ _. None;
    excluded = λ _. [];
    order = backwards;
    needs = λ _. Known [] [];
  };
}

-- an editor or vim, the editor on a condition, and vim
abbrev requested : List ConditionalRequirement
requested =
    record { condition = None; requirement = Union (record { 0 = 0 }) }
    ∷ record { condition = Some 0; requirement = Single (set 0) }
    ∷ record { condition = None; requirement = Single (set 1) } ∷ []

abbrev picked : ℕ → Alternative ℕ
picked s = record { solvable = s; is_picked = true }

-- vim is needed anyway, so its versions come first: the favored one, and then the newer one
pub vim_first : newest ecosystem requested
    ≡ (picked 2 ∷ picked 3 ∷ picked 1 ∷ picked 0 ∷ []) ∷ (picked 2 ∷ picked 3 ∷ picked 1 ∷ []) ∷ []
vim_first = refl
