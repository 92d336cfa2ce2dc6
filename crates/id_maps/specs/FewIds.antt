-- Ids that stand for indexes below a limit: no more than that differ from one another.
use Rattle.std.specs.Prelude.{◌≡◌, ℕ, ◌<◌, ◌≤◌, ◌^◌, Bool, true, false, ◌||◌, nat_lt, List, [], ◌∷◌, length, map}
use Rattle.std.specs.List.{All, AllByRecursion, IsDistinct, list_any}
use Rattle.std.proofs.Common.{arith, refl, sym, ◌∙◌, ap, subst, eqb, ne_eqb, true≢false}
use Rattle.std.proofs.lemmas.Bool.Decides.{nat_tests}
use Rattle.std.proofs.lemmas.List.{length-map}
use Rattle.std.proofs.lemmas.List.Elements.{All-head, All-tail}
use Rattle.std.proofs.lemmas.Map.Keys.{IsDistinct-head, IsDistinct-tail, IsDistinct-cons}
use Rattle.std.proofs.lemmas.Map.Steps.{length-le_from_distinct_below}
use Rattle.std.proofs.lemmas.Map.Views.{exact_unsigned_eq}

module _ {K : Type 0} (same : K → K → Bool) (reflexive : (x : K) → same x x ≡ true) (index_of : K → ℕ)
    (distinct : (a b : K) → index_of a ≡ index_of b → a ≡ b) where
  -- an id that differs from others stands for another index
  other_index : (id : K) (ids : List K) → AllByRecursion (λ other. same id other ≡ false) ids
      → AllByRecursion (λ index. eqb (index_of id) index ≡ false) (map index_of ids)
  other_index id [] h = h
  other_index id (other ∷ ids) h = (
    ne_eqb (index_of id) (index_of other)
        (λ e. absurd (true≢false (sym (reflexive id) ∙ ap (same id) (distinct id other e) ∙ h.0))),
    other_index id ids h.1,
  )

  -- distinct ids stand for distinct indexes
  distinct_indexes : (ids : List K) → IsDistinct same ids → IsDistinct eqb (map index_of ids)
  unfolding IsDistinct
  distinct_indexes [] h = h
  distinct_indexes (id ∷ ids) h =
      IsDistinct-cons eqb (index_of id) (map index_of ids) (other_index id ids (IsDistinct-head same id ids h))
      (distinct_indexes ids (IsDistinct-tail same id ids h))

  -- what is among indexes below the limit is below it
  below_limit : (limit : ℕ) (ids : List K) → All (λ id. index_of id < limit) ids → (index : ℕ)
      → list_any (eqb index) (map index_of ids) ≡ true → index < limit
  below_limit limit [] all index h = absurd (true≢false (sym h))
  below_limit limit (id ∷ ids) all index h =
      (elim (eqb index (index_of id)) as (λ b. eqb index (index_of id) ≡ b →
      (b || list_any (eqb index) (map index_of ids)) ≡ true → index < limit) [
        | true ↦ λ is e. subst (λ i. i < limit) (sym (exact_unsigned_eq index (index_of id) is))
            (All-head (λ id. index_of id < limit) id ids all)
        | false ↦ λ is e. below_limit limit ids (All-tail (λ id. index_of id < limit) id ids all) index e
      ]) refl h

  -- where the limit is no more than 2^32, distinct ids are no more than that
  pub few_ids : (limit : ℕ) → nat_lt (2 ^ 32) limit ≡ false → (ids : List K) → All (λ id. index_of id < limit) ids
      → IsDistinct same ids → length ids ≤ 2 ^ 32
  few_ids limit few ids all differ =
      let within : length (map index_of ids) ≤ limit =
      length-le_from_distinct_below (map index_of ids) limit (distinct_indexes ids differ)
      (below_limit limit ids all) in
      let small : limit ≤ 2 ^ 32 = grind (arith, nat_tests, few) in
      omega (arith, length-map ids index_of)
