-- Worked examples: texts of forests, and forests whose roots should be no roots.
use Rattle.std.proofs.Common.{◌≡◌, ◌<◌, ℕ, zero, suc, Bool, true, false, List, [], ◌∷◌, arith, codes, lit<, refl}
use Rattle.std.proofs.Common.{None, slice_index_or}
use Rattle.std.specs.List.{Contains}
use Rattle.std.proofs.lemmas.Fmt.{decimal_digit}
use Rattle.report_trees.specs.Forests.{AreLed, Forest, HasOwnRoots, all_rows, has_edge, none, tree}
use Rattle.report_trees.specs.TreeTexts.{text_of_forest}

abbrev leaf : ℕ → Forest
leaf line = tree line none none

-- five lines: 0 leads to 2, 2 to 3, and 1 and 3 lead to 4
abbrev chain : List (List Bool)
chain =
    (false ∷ false ∷ true ∷ false ∷ false ∷ [])
    ∷ (false ∷ false ∷ false ∷ false ∷ true ∷ [])
    ∷ (false ∷ false ∷ false ∷ true ∷ false ∷ [])
    ∷ (false ∷ false ∷ false ∷ false ∷ true ∷ [])
    ∷ (false ∷ false ∷ false ∷ false ∷ false ∷ []) ∷ []

abbrev said : List (List ℕ)
said = codes "a" ∷ codes "b" ∷ codes "c" ∷ codes "d" ∷ codes "e" ∷ []

-- the last one may stand below 1
abbrev late : Forest
late = tree 0 (tree 2 (leaf 3) none) (tree 1 (leaf 4) none)

pub is_late : text_of_forest chain said (all_rows late) ≡ codes "a\n  c\n    d; see 1\nb\n  e (1)\n"
is_late = rw (decimal_digit 1 (lit< tt))

pub late_is_led : AreLed (has_edge chain) None late
late_is_led = (tt, (refl, (refl, tt, tt), tt), (tt, (refl, tt, tt), tt))

-- or below 3
abbrev early : Forest
early = tree 0 (tree 2 (tree 3 (leaf 4) none) none) (leaf 1)

pub is_early : text_of_forest chain said (all_rows early) ≡ codes "a\n  c\n    d\n      e (1)\nb; see 1\n"
is_early = rw (decimal_digit 1 (lit< tt))

-- two lines that lead to each other, and the second one to itself
abbrev circle : List (List Bool)
circle = (false ∷ true ∷ []) ∷ (true ∷ true ∷ []) ∷ []

pub is_circle : text_of_forest circle said (all_rows (tree 0 (leaf 1) none)) ≡ codes "a (1)\n  b (2); see 1, 2\n"
is_circle = rw (decimal_digit 1 (lit< tt), decimal_digit 2 (lit< tt))

-- 0 leads to 1: without a tree 1 has no root of its own, in neither order
abbrev pair : List (List Bool)
pair = (false ∷ true ∷ []) ∷ (false ∷ false ∷ []) ∷ []

abbrev ones : List ℕ
ones = 1 ∷ []

only_one : (k : ℕ) → k < 1 → slice_index_or ones k 0 ≡ 0 → ⊥
only_one zero below is = omega arith
only_one (suc k) below is = omega arith

pub not_flat : HasOwnRoots (has_edge pair) (0 ∷ 1 ∷ []) (tree 0 none (leaf 1)) → ⊥
not_flat own =
    let within : Contains ones 0 = own.1.0 0 0 (lit< tt) refl in only_one within.0 within.1 within.2

pub not_reversed : HasOwnRoots (has_edge pair) (1 ∷ 0 ∷ []) (tree 1 none (leaf 0)) → ⊥
not_reversed own =
    let within : Contains ones 0 = own.0 1 0 (lit< tt) refl in only_one within.0 within.1 within.2
