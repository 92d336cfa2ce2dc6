-- The first of the stanzas that fields make.
use Rattle.std.proofs.Common.{◌≡◌, ℕ, ◌==◌, true, false, cond, List, [], ◌∷◌, length, filter, refl, ap, ◌∙◌, sym, subst}
use Rattle.std.specs.List.{onto_first, slice_split}
use Rattle.debian_scenario.specs.Stanzas.{behind, front, is_end, is_filled, stanzas}

-- the parts behind the first one
abbrev later : List (List ℕ) → List (List (List ℕ))
later [] = []
later (field ∷ rest) = cond (is_end field) (slice_split is_end rest) (later rest)

split-front : (fields : List (List ℕ)) → slice_split is_end fields ≡ front fields ∷ later fields
split-front [] = refl
split-front (field ∷ rest) =
    elim (length field == 0) as (λ b. cond b ([] ∷ slice_split is_end rest)
    (onto_first field (slice_split is_end rest)) ≡ cond b [] (field ∷ front rest) ∷ cond b
    (slice_split is_end rest) (later rest)) [ true ↦ refl | false ↦ ap (onto_first field) (split-front rest) ]

filter-later : (fields : List (List ℕ)) → filter is_filled (later fields) ≡ stanzas (behind fields)
filter-later [] = refl
filter-later (field ∷ rest) =
    elim (length field == 0) as (λ b. filter is_filled (cond b (slice_split is_end rest) (later rest))
    ≡ stanzas (cond b rest (behind rest))) [ true ↦ refl | false ↦ filter-later rest ]

-- a field that isn't empty begins the first stanza
pub stanzas-filled : (field : List ℕ) (rest : List (List ℕ)) → (length field == 0) ≡ false →
    stanzas (field ∷ rest) ≡ front (field ∷ rest) ∷ stanzas (behind (field ∷ rest))
stanzas-filled field rest filled =
    ap (filter is_filled) (split-front (field ∷ rest))
    ∙ subst (λ b. filter is_filled (cond b [] (field ∷ front rest) ∷ later (field ∷ rest))
    ≡ cond b [] (field ∷ front rest) ∷ filter is_filled (later (field ∷ rest))) (sym filled) refl
    ∙ ap (λ others. front (field ∷ rest) ∷ others) (filter-later (field ∷ rest))
