-- The objects that answers are. N are the names, S the solvables, A the allocators.
use Rattle.std.specs.Prelude.{ℕ, List, [], ◌∷◌, Option, None, Some, codes, length}
use Rattle.resolvo_ids.specs.Types.StoreError.{StoreError}
use Rattle.resolvo_pool.specs.Provider.{Universe}
use Rattle.resolvo_pool.specs.Texts.{Texts}
use Rattle.serde_json.specs.Data.{Data, Members, object, string}
use Rattle.solutions.specs.declared.reason.Reason.{Reason}
use Rattle.picking.specs.declared.finding.Answer.{Answer}
use Rattle.picking.specs.declared.finding.Answer.TheVariants.{Picked, Unsolvable, Uncertified, StepsUsed, NotASolution}
use Rattle.picking.specs.declared.finding.Choice.{Choice}
use Rattle.example_answers.specs.Refusals.{words_of}
use Rattle.example_json.specs.Reasons.{reasons_data}
use Rattle.example_json.specs.Values.{count_data, members_of, object_of, versions_data}

-- of an index of the input of this name that begins in this line
module _ (input : List ℕ) (line : ℕ) where
  -- that memory or an id was refused
  abbrev pub refused_data : StoreError → Data
  refused_data refused =
      object_of ((codes "input", string input)
      ∷ (codes "line", count_data line)
      ∷ (codes "status", string (codes "gave up"))
      ∷ (codes "why", string (words_of refused)) ∷ [])

  -- that a line isn't in the format, and what is said of that line
  abbrev pub unreadable_data : Data → Data
  unreadable_data place =
      object_of ((codes "input", string input)
      ∷ (codes "line", count_data line)
      ∷ (codes "status", string (codes "unreadable"))
      ∷ (codes "unreadable", place) ∷ [])

  -- of an index that was read and has these notes
  module _ (notes : Data) where
    -- the members that each answer has, one of which says what becomes of the index
    abbrev pub headed : List ℕ → Members
    headed status =
        members_of ((codes "input", string input)
        ∷ (codes "line", count_data line)
        ∷ (codes "notes", notes)
        ∷ (codes "status", string status) ∷ [])

    -- that a search gave up, and why
    abbrev pub gave_up : List ℕ → Members
    gave_up why =
        members_of ((codes "input", string input)
        ∷ (codes "line", count_data line)
        ∷ (codes "notes", notes)
        ∷ (codes "status", string (codes "gave up"))
        ∷ (codes "why", string why) ∷ [])

    abbrev pub ended_data : List ℕ → Data
    ended_data why = object (gave_up why)

    module _ {N S : Type 0} (universe : Universe N S) (texts : Texts N S) where
      -- what is picked, and by how many of the wishes it is the best
      abbrev pub picked_data : {A : Type 0} → Choice S A → Data
      picked_data choice =
          object_of ((codes "best_up_to", count_data choice.best_up_to)
          ∷ (codes "input", string input)
          ∷ (codes "line", count_data line)
          ∷ (codes "notes", notes)
          ∷ (codes "picked", versions_data universe texts choice.solvables.items)
          ∷ (codes "status", string (codes "picked"))
          ∷ (codes "wishes", count_data (length choice.ranks.items)) ∷ [])

      -- that there is no solution, and why
      abbrev pub none_data : List (Reason N S) → Data
      none_data reasons =
          object_of ((codes "input", string input)
          ∷ (codes "line", count_data line)
          ∷ (codes "notes", notes)
          ∷ (codes "reasons", reasons_data universe texts reasons)
          ∷ (codes "status", string (codes "none")) ∷ [])

      -- that a check didn't confirm these reasons
      abbrev pub uncertified_data : List (Reason N S) → Data
      uncertified_data reasons =
          object_of ((codes "input", string input)
          ∷ (codes "line", count_data line)
          ∷ (codes "notes", notes)
          ∷ (codes "reasons", reasons_data universe texts reasons)
          ∷ (codes "status", string (codes "gave up"))
          ∷ (codes "why", string (codes "that there is no solution isn't shown")) ∷ [])

      abbrev pub answer_data : {A : Type 0} → Answer N S A → Data
      answer_data (Picked choice) = picked_data choice
      answer_data (Unsolvable refutation) = none_data refutation.reasons.items
      answer_data (Uncertified refutation) = uncertified_data refutation.reasons.items
      answer_data StepsUsed = ended_data (codes "too many steps")
      answer_data NotASolution = ended_data (codes "what was found is no solution")
