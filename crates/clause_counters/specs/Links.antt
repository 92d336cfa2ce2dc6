-- Lists of numbers that share one pool of links.
use Rattle.std.specs.Prelude.{ℕ, zero, suc, ◌≤◌, ◌==◌, List, [], ◌∷◌, slice_index_or}
use Rattle.std.specs.List.{count_by}
use Rattle.clause_counters.specs.declared.links.Link.{Link}

abbrev pub no_link : Link
no_link = record { value = 0; next = 0 }

abbrev pub link_at : List Link → ℕ → Link
link_at links place = slice_index_or links place no_link

-- each link's list lies before it
pub record IsLinked (links : List Link) : Type 0 where
  pub earlier : (place : ℕ) → (link_at links place).next ≤ place

-- the first numbers of the list, up to a count
abbrev pub listed_within : ℕ → List Link → ℕ → List ℕ
listed_within zero links list = []
listed_within (suc most) links zero = []
listed_within (suc most) links (suc place) =
    (link_at links place).value ∷ listed_within most links (link_at links place).next

-- the numbers of the list
abbrev pub numbers_at : List Link → ℕ → List ℕ
numbers_at links list = listed_within list links list

-- how often a number is among others
abbrev pub count : ℕ → List ℕ → ℕ
count number numbers = count_by (λ other. other == number) numbers
