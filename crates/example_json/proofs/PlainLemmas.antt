-- None of the values of answers has a float, so that each has one text. N are the names, S the solvables.
use Rattle.std.proofs.Common.{◌≡◌, ℕ, zero, suc, Bool, true, false, ◌||◌, List, [], ◌∷◌, Option, None, Some, codes}
use Rattle.std.proofs.Common.{if◌then◌else◌, refl}
use Rattle.example_json.proofs.Words.{And, Answer, answer_data, array_of, Condition, condition_data}
use Rattle.example_json.proofs.Words.{ConditionalRequirement, Data, Diagnosis, Excluded, has_float, if_data, joined}
use Rattle.example_json.proofs.Words.{knows_requirement, Lacks, Limits, Locked, LogicalOperator, need_data, Needs}
use Rattle.example_json.proofs.Words.{NotASolution, null, OneVersion, Or, parent_data, parts_data, Picked, place_data}
use Rattle.example_json.proofs.Words.{Reason, reason_data, reasons_data, Requirement, set_data, sets_data, sets_of}
use Rattle.example_json.proofs.Words.{sets_of_data, StepsUsed, string, Texts, Uncertified, Universe, Unknown}
use Rattle.example_json.proofs.Words.{unreadable_data, Unsolvable, version_data, versions_data}
use Rattle.resolvo_pool.specs.Types.Condition.TheVariants as Cond

or_plain : {a b : Bool} → a ≡ false → b ≡ false → (a || b) ≡ false
or_plain first second = rw (first, second)

pub array_plain : {X : Type 0} (value : X → Data) → ((x : X) → has_float (value x) ≡ false) → (xs : List X)
    → has_float (array_of value xs) ≡ false
array_plain value each [] = refl
array_plain value each (x ∷ xs) = or_plain (each x) (array_plain value each xs)

if_plain : (b : Bool) (x y : Data) → has_float x ≡ false → has_float y ≡ false
    → has_float (if b then x else y) ≡ false
if_plain true x y first second = first
if_plain false x y first second = second

joined_plain : (operator : LogicalOperator) (left right : Data) → has_float left ≡ false → has_float right ≡ false
    → has_float (joined operator left right) ≡ false
joined_plain And left right first second = or_plain (or_plain first (or_plain second refl)) refl
joined_plain Or left right first second = or_plain (or_plain first (or_plain second refl)) refl

module _ {N S : Type 0} (universe : Universe N S) (texts : Texts N S) where
  parent_plain : (parent : Option S) → has_float (parent_data universe texts parent) ≡ false
  parent_plain None = refl
  parent_plain (Some solvable) = refl

  sets_plain : (requirement : Requirement) → has_float (sets_of_data universe texts requirement) ≡ false
  sets_plain requirement =
      if_plain (knows_requirement universe requirement) (sets_data universe texts (sets_of universe requirement))
      (sets_data universe texts [])
      (array_plain (set_data universe texts) (λ set. refl) (sets_of universe requirement)) refl

  parts_plain : (value : ℕ → Data) → ((condition : ℕ) → has_float (value condition) ≡ false) → (parts : Condition)
      → has_float (parts_data universe texts value parts) ≡ false
  parts_plain value each (Cond.Requirement set) = refl
  parts_plain value each (Cond.Binary operator left right) =
      joined_plain operator (value left) (value right) (each left) (each right)

  condition_plain : (depth condition : ℕ) → has_float (condition_data universe texts depth condition) ≡ false
  unfolding condition_data
  condition_plain zero condition = refl
  condition_plain (suc depth) condition =
      if_plain (universe.knows_condition condition)
      (parts_data universe texts (condition_data universe texts depth) (universe.condition condition)) null
      (parts_plain (condition_data universe texts depth) (condition_plain depth) (universe.condition condition)) refl

  need_condition_plain : (condition : Option ℕ) → has_float (if_data universe texts condition) ≡ false
  need_condition_plain None = refl
  need_condition_plain (Some condition) = condition_plain 40 condition

  need_plain : (kind : List ℕ) (parent : Option S) (need : ConditionalRequirement)
      → has_float (need_data universe texts kind parent need) ≡ false
  need_plain kind parent need =
      or_plain (need_condition_plain need.condition)
      (or_plain (sets_plain need.requirement) (or_plain (parent_plain parent) refl))

  reason_plain : (reason : Reason N S) → has_float (reason_data universe texts reason) ≡ false
  reason_plain (Needs parent need) = need_plain (codes "needs") parent need
  reason_plain (Lacks parent need) = need_plain (codes "lacks") parent need
  reason_plain (Limits solvable set) = refl
  reason_plain (Unknown solvable why) = refl
  reason_plain (Excluded solvable why) = refl
  reason_plain (Locked solvable) = refl
  reason_plain (OneVersion name) = refl

  reasons_plain : (reasons : List (Reason N S)) → has_float (reasons_data universe texts reasons) ≡ false
  reasons_plain = array_plain (reason_data universe texts) reason_plain

  versions_plain : (solvables : List S) → has_float (versions_data universe texts solvables) ≡ false
  versions_plain = array_plain (version_data universe texts) (λ solvable. refl)

  pub answer_plain : {A : Type 0} (input : List ℕ) (line : ℕ) (notes : Data) (answer : Answer N S A)
      → has_float notes ≡ false → has_float (answer_data input line notes universe texts answer) ≡ false
  answer_plain input line notes (Picked choice) noted =
      or_plain noted (or_plain (versions_plain choice.solvables.items) refl)
  answer_plain input line notes (Unsolvable refutation) noted =
      or_plain noted (or_plain (reasons_plain refutation.reasons.items) refl)
  answer_plain input line notes (Uncertified refutation) noted =
      or_plain noted (or_plain (reasons_plain refutation.reasons.items) refl)
  answer_plain input line notes StepsUsed noted = or_plain noted refl
  answer_plain input line notes NotASolution noted = or_plain noted refl

place_plain : (number : ℕ) (said : List ℕ) (diagnosis : Option Diagnosis)
    → has_float (place_data number said diagnosis) ≡ false
place_plain number said None = refl
place_plain number said (Some fault) = refl

pub unreadable_plain : (input : List ℕ) (line number : ℕ) (said : List ℕ) (diagnosis : Option Diagnosis)
    → has_float (unreadable_data input line (place_data number said diagnosis)) ≡ false
unreadable_plain input line number said diagnosis = or_plain (place_plain number said diagnosis) refl
