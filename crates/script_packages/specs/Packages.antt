-- What the provider of a script's packages answers. Ids are places in lists.
use Rattle.std.specs.Prelude.{◌≡◌, ℕ, ◌<◌, ◌≤◌, ◌+◌, ◌-◌, ◌==◌, Bool, true, false, ◌&&◌, nat_le, nat_lt, List}
use Rattle.std.specs.Prelude.{[], ◌∷◌, All, Option, None, Some, option_and_then, slice_get, if◌then◌else◌}
use Rattle.std.specs.List.{AllByRecursion}
use Rattle.std.specs.Map.{lookup}
use Rattle.std.proofs.lemmas.List.Elements.{All-from_recursion}
use Rattle.std.proofs.Common.{arith, rules, refl, suc, zero}
use Rattle.script_packages.specs.declared.packages.Span.{Span}
use Rattle.script_packages.specs.declared.packages.VersionRange.{VersionRange}

-- names and solvables are their numbers
abbrev pub same_id : ℕ → ℕ → Bool
same_id a b = a == b

-- `count` numbers from the first on
abbrev pub numbers : ℕ → ℕ → List ℕ
numbers first zero = []
numbers first (suc count) = first ∷ numbers (first + 1) count

-- a span that ends within `count` solvables
abbrev pub span_within : ℕ → Option Span → Option Span
span_within count None = None
span_within count (Some span) = if nat_lt span.last count then Some span else None

-- the solvables of a name that a package line listed
abbrev pub span_of : List (ℕ × Span) → ℕ → ℕ → Option Span
span_of spans count name = span_within count (lookup (same_id name) spans)

-- the solvables of a span, none without one
abbrev pub listed_numbers : Option Span → List ℕ
listed_numbers None = []
listed_numbers (Some span) = numbers span.first (span.last + 1 - span.first)

-- the favored one of them
abbrev pub favored_number : Option Span → Option ℕ
favored_number None = None
favored_number (Some span) = option_and_then (slice_get (listed_numbers (Some span))) span.favored

abbrev pub is_within : VersionRange → ℕ → Bool
is_within r version = nat_le r.low version && nat_lt version r.high

-- numbers are below where they end
numbers_below : (first count end : ℕ) → first + count ≤ end
    → AllByRecursion (λ s. nat_lt s end ≡ true) (numbers first count)
numbers_below first zero end h = tt
numbers_below first (suc count) end h =
    let lt : first < end = omega arith in
    let below : nat_lt first end ≡ true = search rules in
    (below, numbers_below (first + 1) count end (omega arith))

-- a span that ends before it begins has no number
span_below : (first last count : ℕ) → last < count → All (λ s. nat_lt s count ≡ true) (numbers first (last + 1 - first))
span_below first last count h = All-from_recursion _ _ (by_length (last + 1 - first) refl)
  where
    by_length : (n : ℕ) → n ≡ last + 1 - first → AllByRecursion (λ s. nat_lt s count ≡ true) (numbers first n)
    by_length zero e = tt
    by_length (suc n) e = numbers_below first (suc n) count (omega arith)

-- what a name lists is known
pub listed_known : (spans : List (ℕ × Span)) (count name : ℕ)
    → All (λ s. nat_lt s count ≡ true) (listed_numbers (span_of spans count name))
listed_known spans count name = by_place (lookup (same_id name) spans)
  where
    by_test : (span : Span) (b : Bool) → nat_lt span.last count ≡ b
        → All (λ s. nat_lt s count ≡ true) (listed_numbers (if b then Some span else None))
    by_test span true e = span_below span.first span.last count (search rules)
    by_test span false e = All-from_recursion (λ s. nat_lt s count ≡ true) [] tt

    by_place : (o : Option Span) → All (λ s. nat_lt s count ≡ true) (listed_numbers (span_within count o))
    by_place None = All-from_recursion (λ s. nat_lt s count ≡ true) [] tt
    by_place (Some span) = by_test span (nat_lt span.last count) refl
