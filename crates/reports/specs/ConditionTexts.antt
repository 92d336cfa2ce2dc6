-- Conditions, spelled out. N are the names, S the solvables.
use Rattle.std.specs.Prelude.{ℕ, zero, suc, List, [], ◌++◌, codes, if◌then◌else◌, Option, None, Some}
use Rattle.resolvo_pool.specs.Provider.{Universe}
use Rattle.resolvo_pool.specs.Texts.{Texts}
use Rattle.resolvo_pool.specs.Types.Condition.{Condition}
use Rattle.resolvo_pool.specs.Types.Condition.TheVariants as Cond
use Rattle.resolvo_pool.specs.Types.LogicalOperator.{LogicalOperator}
use Rattle.resolvo_pool.specs.Types.LogicalOperator.TheVariants.{And, Or}
use Rattle.reports.specs.Words.{text_of_set}

abbrev pub word_of : LogicalOperator → List ℕ
word_of And = codes " and "
word_of Or = codes " or "

-- what stands before and behind what the second operator joins, within the first one: "or" within "and" is in
-- parentheses
abbrev pub opening : LogicalOperator → LogicalOperator → List ℕ
opening And And = []
opening And Or = codes "("
opening Or inner = []

abbrev pub closing : LogicalOperator → LogicalOperator → List ℕ
closing And And = []
closing And Or = codes ")"
closing Or inner = []

module _ {N S : Type 0} (universe : Universe N S) (texts : Texts N S) where
  -- what is joined by this operator, if this is the text of what an operator joins
  abbrev pub text_of_parts : (LogicalOperator → ℕ → List ℕ) → LogicalOperator → Condition → List ℕ
  text_of_parts text outer (Cond.Requirement set) = text_of_set universe texts set
  text_of_parts text outer (Cond.Binary inner left right) =
      opening outer inner ++ (text inner left ++ (word_of inner ++ (text inner right ++ closing outer inner)))

  -- a condition within an operator, spelled out to this depth; what is deeper is two dots
  unfoldable pub text_of_condition : ℕ → LogicalOperator → ℕ → List ℕ
  text_of_condition zero outer condition = codes ".."
  text_of_condition (suc depth) outer condition =
      if universe.knows_condition condition
      then text_of_parts (text_of_condition depth) outer (universe.condition condition)
      else []

  -- the condition of a need
  abbrev pub text_of_if : Option ℕ → List ℕ
  text_of_if None = []
  text_of_if (Some condition) = codes " if " ++ text_of_condition 200 Or condition
