-- The order of preference.
use Rattle.std.proofs.Common.{arith}
use Rattle.std.specs.Prelude.{◌≡◌, ◌<◌, ℕ, ◌+◌, ◌-◌, ◌*◌, ◌/◌, ◌%◌, ◌^◌, Bool, true, ◌&&◌, nat_lt, if◌then◌else◌}
use Rattle.std.specs.Prelude.{List, [], ◌∷◌, slice_get, Option, None, Some}
use Rattle.std.specs.declared.cmp.Ordering.{Ordering}
use Rattle.std.specs.Ordering.{nat_cmp, ordering_then, is_lt}
use Rattle.package_pool.specs.declared.solvable.Solvable.{Solvable}

-- the version of a solvable, 0 where there is none
abbrev pub version_or_zero : Option (Solvable ℕ) → ℕ
version_or_zero None = 0
version_or_zero (Some s) = s.payload

abbrev pub version_at : List (Solvable ℕ) → ℕ → ℕ
version_at all s = version_or_zero (slice_get all s)

-- a higher version comes first, and of one version the smaller number
abbrev pub preference : List (Solvable ℕ) → ℕ → ℕ → Ordering
preference all s t = ordering_then (nat_cmp (version_at all t) (version_at all s)) (nat_cmp s t)

-- a solvable with its version
pub record Versioned : Type 0 where
  pub version : ℕ
  pub solvable : ℕ

-- those of a rank, which is 2^32 times how far the version is below the largest one, and the solvable
abbrev pub of_rank : ℕ → Versioned
of_rank n = record { version = 2 ^ 32 - 1 - n / 2 ^ 32; solvable = n % 2 ^ 32 }

-- the rank of these
abbrev pub rank_of : Versioned → ℕ
rank_of v = (2 ^ 32 - 1 - v.version) * 2 ^ 32 + v.solvable

pub rank_comes_back : (n : ℕ) → n < 2 ^ 64 → rank_of (of_rank n) ≡ n
rank_comes_back n low = omega (arith, low)

abbrev pub with_version : List (Solvable ℕ) → ℕ → Versioned
with_version all s = record { version = version_at all s; solvable = s }

-- the same order of solvables with their versions
abbrev pub versioned_preference : Versioned → Versioned → Ordering
versioned_preference v w = ordering_then (nat_cmp w.version v.version) (nat_cmp v.solvable w.solvable)

-- whether each version is above the one before it, the first above this one
abbrev pub rises_from : List (Solvable ℕ) → ℕ → List ℕ → Bool
rises_from all version [] = true
rises_from all version (s ∷ list) = nat_lt version (version_at all s) && rises_from all (version_at all s) list

-- whether each version is above the one before it
abbrev pub rises : List (Solvable ℕ) → List ℕ → Bool
rises all [] = true
rises all (s ∷ list) = rises_from all (version_at all s) list

-- x behind those at the front that are less
abbrev pub insert_sorted : {X : Type 0} → (X → X → Ordering) → X → List X → List X
insert_sorted cmp x [] = x ∷ []
insert_sorted cmp x (y ∷ ys) = if is_lt (cmp y x) then y ∷ insert_sorted cmp x ys else x ∷ y ∷ ys

-- the members in order
abbrev pub sort_by : {X : Type 0} → (X → X → Ordering) → List X → List X
sort_by cmp [] = []
sort_by cmp (x ∷ xs) = insert_sorted cmp x (sort_by cmp xs)

-- the solvables, the best first
abbrev pub best_first : List (Solvable ℕ) → List ℕ → List ℕ
best_first all list = sort_by (preference all) list
