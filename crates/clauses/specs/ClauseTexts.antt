-- The texts of clauses, as their bytes. N are the names, S the solvables.
use Rattle.std.specs.Prelude.{◌≡◌, ⊤, true, ℕ, ◌+◌, List, ◌++◌, codes, Option, None, Some}
use Rattle.std.specs.Fmt.{decimal}
use Rattle.decisions.specs.Literals.{Lit, variable_of}
use Rattle.decisions.specs.LiteralIndex.{literal_index}
use Rattle.providers.specs.Provider.{Universe, knows_requirement}
use Rattle.providers.specs.Texts.{Texts, requirement_text}
use Rattle.variables.specs.declared.variable_origin.VariableOrigin.{VariableOrigin}
use Rattle.variables.specs.VariableTexts.{knows_variable, variable_text}
use Rattle.clauses.specs.declared.clause.Clause.{Clause}
use Rattle.clauses.specs.declared.clause.Clause.TheVariants.{InstallRoot, Requires, ForbidMultipleInstances}
use Rattle.clauses.specs.declared.clause.Clause.TheVariants.{Constrains, ConstrainsExcluded}
use Rattle.clauses.specs.declared.clause.Clause.TheVariants.{ConstrainsParent, Lock, Learnt, Excluded, AnyOf}

-- a kind, and in brackets two parts, or three
abbrev pub of_two : List ℕ → List ℕ → List ℕ → List ℕ
of_two kind a b = kind ++ (codes "(" ++ (a ++ (codes ", " ++ (b ++ codes ")"))))

abbrev pub of_three : List ℕ → List ℕ → List ℕ → List ℕ → List ℕ
of_three kind a b c = kind ++ (codes "(" ++ (a ++ (codes ", " ++ (b ++ (codes ", " ++ (c ++ codes ")"))))))

-- of the disjunction under which a requirement is asked for, if there is one
abbrev pub condition_text : Option ℕ → List ℕ
condition_text None = codes "condition=None"
condition_text (Some d) = codes "condition=Some(DisjunctionId(" ++ (decimal (d + 1) ++ codes "))")

module _ {N S : Type 0} (universe : Universe N S) (origins : List (VariableOrigin N S)) where
  -- the variable is one of these, and what it stands for is known
  abbrev pub IsKnown : ℕ → Type 0
  IsKnown v = knows_variable universe origins v ≡ true

  -- so are all variables of the clause, and what else it names is known
  abbrev pub IsKnownClause : Clause N → Type 0
  IsKnownClause InstallRoot = ⊤
  IsKnownClause (Requires parent d r) = IsKnown parent × (knows_requirement universe r ≡ true)
  IsKnownClause (ForbidMultipleInstances a l n) = IsKnown a × IsKnown (variable_of l) × (universe.knows_name n ≡ true)
  IsKnownClause (Constrains a b v) = IsKnown a × IsKnown b × (universe.knows_set v ≡ true)
  IsKnownClause (ConstrainsExcluded a aux v) = IsKnown a × IsKnown aux × (universe.knows_set v ≡ true)
  IsKnownClause (ConstrainsParent a aux v) = IsKnown a × IsKnown aux × (universe.knows_set v ≡ true)
  IsKnownClause (Lock locked other) = IsKnown locked × IsKnown other
  IsKnownClause (Learnt id) = ⊤
  IsKnownClause (Excluded a reason) = IsKnown a × (universe.knows_string reason ≡ true)
  IsKnownClause (AnyOf selected other) = IsKnown selected × IsKnown other

module _ {N S : Type 0} (universe : Universe N S) (texts : Texts N S) (origins : List (VariableOrigin N S)) where
  -- of a variable, with its id
  abbrev pub numbered_variable : ℕ → List ℕ
  numbered_variable v = variable_text universe texts origins v ++
      (codes "(VariableId(" ++ (decimal (v + 1) ++ codes "))"))

  -- of a literal: its variable's, with the literal
  abbrev pub numbered_literal : Lit → List ℕ
  numbered_literal l = variable_text universe texts origins (variable_of l) ++
      (codes "(Literal(" ++ (decimal (literal_index l + 1) ++ codes "))"))

  -- of a clause
  abbrev pub clause_text : Clause N → List ℕ
  clause_text InstallRoot = codes "InstallRoot"
  clause_text (Requires parent d r) = of_three (codes "Requires") (numbered_variable parent)
      (requirement_text universe texts r) (condition_text d)
  clause_text (ForbidMultipleInstances a l n) =
      of_three (codes "ForbidMultipleInstances") (numbered_variable a) (numbered_literal l) (texts.name n)
  clause_text (Constrains a b v) = of_three (codes "Constrains") (numbered_variable a) (numbered_variable b)
      (texts.version_set v)
  clause_text (ConstrainsExcluded a aux v) =
      of_three (codes "ConstrainsExcluded") (numbered_variable a) (numbered_variable aux) (texts.version_set v)
  clause_text (ConstrainsParent a aux v) =
      of_three (codes "ConstrainsParent") (numbered_variable a) (numbered_variable aux) (texts.version_set v)
  clause_text (Lock locked other) = of_two (codes "Lock") (numbered_variable locked) (numbered_variable other)
  clause_text (Learnt id) = codes "Learnt(LearntClauseId(" ++ (decimal id ++ codes "))")
  clause_text (Excluded a reason) = of_two (codes "Excluded") (numbered_variable a) (texts.string reason)
  clause_text (AnyOf selected other) = of_two (codes "AnyOf") (numbered_variable selected) (numbered_variable other)
