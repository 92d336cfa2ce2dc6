-- What a store over a script's packages knows of them.
use Rattle.std.specs.Prelude.{ℕ, ◌^◌, Bool, nat_le}
use Rattle.resolvo_store.specs.Store.{Provider, gathered}
use Rattle.script_packages.specs.declared.packages.Packages.{Packages}
use Rattle.script_packages.specs.Packages.{same_id}
use Rattle.script_packages.specs.PackageAnswers.{universe_of, answers_of}
use Rattle.scripts.specs.Commands.{Ids, ids_at}

-- names and solvables are their numbers of 32 bits
abbrev pub numbers : Ids ℕ ℕ
numbers = ids_at (2 ^ 32) (λ n. n) (2 ^ 32) (λ n. n)

-- maps keep no id of such a number
abbrev pub is_large : ℕ → Bool
is_large n = nat_le (2 ^ 40) n

-- what the abstract store knows of the packages
abbrev pub provider_of : Packages → Provider ℕ ℕ
provider_of p = gathered same_id same_id is_large is_large is_large Bool.false universe_of answers_of p
