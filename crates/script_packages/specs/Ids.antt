-- What the words of commands stand for.
use Rattle.std.specs.Prelude.{ℕ, ◌-◌, ◌^◌, ◌==◌, Bool, true, false, List, [], ◌∷◌}
use Rattle.std.specs.Prelude.{Option, None, Some, option_map, if◌then◌else◌, codes}
use Rattle.std.specs.Str.{bytes_eq}
use Rattle.providers.specs.declared.requirement.Requirement.{Requirement}
use Rattle.providers.specs.declared.requirement.Requirement.TheVariants.{Single, Union}
use Rattle.script_text.specs.Numbers.{number_of, below}

-- a number of 32 bits: a version, a bound, a level, and the id of a solvable, a version set or a union
abbrev pub number_32 : List ℕ → Option ℕ
number_32 word = below (2 ^ 32) (number_of word)

abbrev pub variable_of : List ℕ → Option ℕ
variable_of word = below (2 ^ 31 - 1) (number_of word)

-- clauses; disjunctions and conditions too
abbrev pub clause_of : List ℕ → Option ℕ
clause_of word = below (2 ^ 32 - 1) (number_of word)

abbrev pub requirement_of : List ℕ → Option Requirement
requirement_of [] = None
requirement_of (b ∷ number) =
    if b == 115 then option_map (λ n. Single (record { 0 = n })) (number_32 number)
    else if b == 117 then option_map (λ n. Union (record { 0 = n })) (number_32 number)
    else None

abbrev pub truth_of : List ℕ → Option Bool
truth_of word = if bytes_eq word (codes "true") then Some true else if bytes_eq word (codes "false")
    then Some false else None
