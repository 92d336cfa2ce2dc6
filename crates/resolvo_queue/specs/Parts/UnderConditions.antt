-- The clauses under a condition, from the newest back to the first.
use Rattle.std.specs.Prelude.{◌≡◌, ◌<◌, ◌+◌, ℕ, List, Option, Some, None, length, slice_get, slice_index_or}
use Rattle.resolvo_queue.specs.Types.{IsUpdate, SameValues, TrackedClause}

-- one more than the number of the newest clause under a condition, 0 if there is none
abbrev pub newest_at : List ℕ → ℕ → ℕ
newest_at newest d = slice_index_or newest d 0

module _ (clauses : List TrackedClause) where
  -- of the clauses below an end, `next` is one more than the number of the newest under the condition
  pub record IsNewestBelow (end d next : ℕ) : Type 0 where
    pub below : (n : ℕ) (c : TrackedClause) → slice_get clauses n ≡ Some c → n < end → c.condition ≡ Some d → n < next
    pub within : (k : ℕ) → next ≡ k + 1 → k < end
    pub own : (k : ℕ) → next ≡ k + 1 → (c : TrackedClause) → slice_get clauses k ≡ Some c → c.condition ≡ Some d

  -- each condition finds its newest clause, and each clause the one before it
  pub record AreChained (newest : List ℕ) : Type 0 where
    pub last : (d : ℕ) → IsNewestBelow (length clauses) d (newest_at newest d)
    pub earlier : (n : ℕ) (c : TrackedClause) → slice_get clauses n ≡ Some c → (d : ℕ) → c.condition ≡ Some d →
        IsNewestBelow n d c.earlier

-- the newest clause under a condition is another one now; without a condition nothing is
abbrev pub Renews : Option ℕ → (next : ℕ) → (old now : List ℕ) → Type 0
Renews None next old now = SameValues (newest_at old) (newest_at now)
Renews (Some d) next old now = IsUpdate (newest_at old) d next (newest_at now)
