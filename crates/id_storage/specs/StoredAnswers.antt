-- Questions with their answers, the first one first, where each question has one answer. K are the questions, V the
-- answers.
use Rattle.std.specs.Prelude.{◌≡◌, ℕ, ◌≤◌, ◌^◌, Bool, ◌||◌, min, nat_le, List, length, Option}
use Rattle.std.specs.List.{All, IsDistinct, position_from}
use Rattle.std.specs.Map.{keys_of}

-- no further answer can be stored by the key after the first `count`: answers are counted by ids, which end at `limit`,
-- and by slots, whose numbers end at 2^32; or the key itself is too large
abbrev pub lacks_answer : {K : Type 0} → ℕ → (K → Bool) → ℕ → K → Bool
lacks_answer limit is_large count key = nat_le (min limit (2 ^ 32)) count || is_large key

module _ {K V : Type 0} (same : K → K → Bool) where
  -- the place of the question, if it has an answer
  abbrev pub place_of : List (K × V) → K → Option ℕ
  place_of stored key = position_from (same key) 0 (keys_of stored)

  -- a map from questions, which are ids, to the places of answers that are stored by ids below the limit
  pub record AreStored (IsId : K → Type 0) (limit : ℕ) (slots : K → Option ℕ) (stored : List (K × V)) : Type 0 where
    pub agrees : (key : K) → slots key ≡ place_of stored key
    pub few : length stored ≤ min limit (2 ^ 32)
    pub distinct : IsDistinct same (keys_of stored)
    pub ids : All IsId (keys_of stored)
