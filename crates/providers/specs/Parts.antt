-- The parts by which requirements and conditions are ordered: the number of the variant, then those of the fields.
use Rattle.std.specs.Prelude.{ℕ, Option, None, Some, List, [], ◌∷◌, ◌++◌}
use Rattle.providers.specs.declared.condition.LogicalOperator.{LogicalOperator}
use Rattle.providers.specs.declared.condition.LogicalOperator.TheVariants.{And, Or}
use Rattle.providers.specs.declared.condition.Condition.{Condition}
use Rattle.providers.specs.declared.condition.Condition.TheVariants.{Binary}
use Rattle.providers.specs.declared.condition.Condition.TheVariants
use Rattle.providers.specs.declared.requirement.Requirement.{Requirement}
use Rattle.providers.specs.declared.requirement.Requirement.TheVariants.{Single, Union}
use Rattle.providers.specs.declared.conditional_requirement.ConditionalRequirement.{ConditionalRequirement}

-- And before Or
abbrev pub operator_parts : LogicalOperator → List ℕ
operator_parts And = 0 ∷ []
operator_parts Or = 1 ∷ []

-- Binary before Requirement; the operator, and the ids in the order in which they are written
abbrev pub condition_parts : Condition → List ℕ
condition_parts (Binary operator a b) = 0 ∷ operator_parts operator ++ a ∷ b ∷ []
condition_parts (TheVariants.Requirement set) = 1 ∷ set.0 ∷ []

-- Single before Union, then the id
abbrev pub requirement_parts : Requirement → List ℕ
requirement_parts (Single set) = 0 ∷ set.0 ∷ []
requirement_parts (Union union) = 1 ∷ union.0 ∷ []

-- no condition before any, then by the condition's id
abbrev pub optional_condition_parts : Option ℕ → List ℕ
optional_condition_parts None = 0 ∷ []
optional_condition_parts (Some condition) = 1 ∷ condition ∷ []

-- the condition, then the requirement
abbrev pub conditional_parts : ConditionalRequirement → List ℕ
conditional_parts c = optional_condition_parts c.condition ++ requirement_parts c.requirement
