-- The commands that lines give.
use Rattle.std.specs.Prelude.{ℕ, Bool, ◌==◌, List, [], ◌∷◌, ◌++◌, Option, None, Some}
use Rattle.std.specs.Prelude.{is_some, option_map, option_and_then, if◌then◌else◌, codes}
use Rattle.std.specs.List.{list_all}
use Rattle.std.specs.Str.{bytes_eq}
use Rattle.typed_ids.specs.declared.string_id.StringId.{StringId}
use Rattle.typed_ids.specs.declared.version_set_id.VersionSetId.{VersionSetId}
use Rattle.decisions.specs.Literals.{Lit, Pos, Neg}
use Rattle.resolvo_store.specs.Command.{Command, Variable, Helper, Load, Disjunction, Requires, Root}
use Rattle.resolvo_store.specs.Command.{Constrains, ConstrainsExcluded, ConstrainsParent, Lock, Exclude}
use Rattle.resolvo_store.specs.Command.{AnyOf, Learnt, AtMostOnce, Assign, UndoLast, UndoUntil, Unpropagated}
use Rattle.resolvo_store.specs.Command.{Bump, Decay, Standard, Rewatch, Watchers, Saturate, Decide}
use Rattle.resolvo_store.specs.declared.helper_origin.HelperOrigin.{HelperOrigin}
use Rattle.resolvo_store.specs.declared.helper_origin.HelperOrigin.TheVariants.{AtLeastOne, ConstrainsViolation}
use Rattle.resolvo_store.specs.declared.helper_origin.HelperOrigin.TheVariants.{RequiresGate}
use Rattle.script_packages.specs.Ids.{number_32, variable_of, clause_of, requirement_of, truth_of}
use Rattle.script_text.specs.Numbers.{number_of, below}
use Rattle.script_text.specs.Statements.{line_says, statement_says}
use Rattle.script_text.specs.declared.statement.Line.{Line}
use Rattle.script_text.specs.declared.statement.Statement.{Statement}

-- which names and solvables numbers stand for: those below a limit, for the one at the number
pub record Ids (N S : Type 0) : Type 0 where
  pub names : ℕ
  pub name_at : ℕ → N
  pub solvables : ℕ
  pub solvable_at : ℕ → S

abbrev pub ids_at : {N S : Type 0} → ℕ → (ℕ → N) → ℕ → (ℕ → S) → Ids N S
ids_at names name_at solvables solvable_at =
    record { names = names; name_at = name_at; solvables = solvables; solvable_at = solvable_at }

abbrev pub set_of : List ℕ → Option VersionSetId
set_of word = option_map (λ n. record { 0 = n }) (number_32 word)

abbrev pub string_of : List ℕ → Option StringId
string_of word = option_map (λ n. record { 0 = n }) (number_32 word)

-- a literal: its sign, and the number of its variable directly after it
abbrev pub literal_of : List ℕ → Option Lit
literal_of [] = None
literal_of (sign ∷ number) =
    if sign == 43 then option_map Pos (variable_of number)
    else if sign == 45 then option_map Neg (variable_of number)
    else None

-- whether each word is a literal
abbrev pub are_literals : List (List ℕ) → Bool
are_literals ws = list_all (λ word. is_some (literal_of word)) ws

-- the literals with those of these words after them, where each word is one
abbrev pub with_literals : List Lit → List (List ℕ) → Option (List Lit)
with_literals ls [] = Some ls
with_literals ls (word ∷ ws) = option_and_then (λ l. with_literals (ls ++ l ∷ []) ws) (literal_of word)

-- the only word
abbrev pub only_word : List (List ℕ) → Option (List ℕ)
only_word (word ∷ []) = Some word
only_word _ = None

-- two variables
abbrev pub pair_of : List (List ℕ) → Option (ℕ × ℕ)
pair_of (a ∷ b ∷ []) = option_and_then (λ first. option_map (λ second. (first, second)) (variable_of b)) (variable_of a)
pair_of _ = None

-- two variables and a version set
abbrev pub pair_and_set_of : List (List ℕ) → Option (ℕ × ℕ × VersionSetId)
pair_and_set_of (a ∷ b ∷ v ∷ []) =
    option_and_then (λ first. option_and_then (λ second. option_map (λ set. (first, second, set)) (set_of v))
    (variable_of b)) (variable_of a)
pair_and_set_of _ = None

module _ {N S : Type 0} where
  -- a command that is said without words
  abbrev pub bare_command : Command N S → List (List ℕ) → Option (Command N S)
  bare_command c [] = Some c
  bare_command c _ = None

  abbrev pub load_command : List (List ℕ) → Option (Command N S)
  load_command (r ∷ []) = option_map (λ required. Load required) (requirement_of r)
  load_command _ = None

  -- a condition's number, and the literals that stand for it
  abbrev pub disjunction_command : List (List ℕ) → Option (Command N S)
  disjunction_command (c ∷ ws) =
      option_and_then (λ condition. option_map (λ literals. Disjunction literals condition) (with_literals [] ws))
      (clause_of c)
  disjunction_command _ = None

  abbrev pub requires_command : List (List ℕ) → Option (Command N S)
  requires_command (p ∷ r ∷ []) =
      option_and_then (λ parent. option_map (λ required. Requires parent required None) (requirement_of r))
      (variable_of p)
  requires_command (p ∷ r ∷ d ∷ []) =
      option_and_then (λ parent.
      option_and_then (λ required. option_map (λ disjunction. Requires parent required (Some disjunction))
      (clause_of d)) (requirement_of r)) (variable_of p)
  requires_command _ = None

  abbrev pub assign_command : List (List ℕ) → Option (Command N S)
  assign_command (v ∷ b ∷ c ∷ l ∷ []) =
      option_and_then (λ variable. option_and_then (λ value. option_and_then (λ clause.
      option_map (λ level. Assign variable value clause level)
      (number_32 l)) (clause_of c)) (truth_of b)) (variable_of v)
  assign_command _ = None

  abbrev pub undo_command : List (List ℕ) → Option (Command N S)
  undo_command (l ∷ []) = option_map (λ level. UndoUntil level) (number_32 l)
  undo_command _ = None

  abbrev pub exclude_command : List (List ℕ) → Option (Command N S)
  exclude_command (v ∷ s ∷ []) =
      option_and_then (λ variable. option_map (λ reason. Exclude variable reason) (string_of s)) (variable_of v)
  exclude_command _ = None

  abbrev pub learnt_command : List (List ℕ) → Option (Command N S)
  learnt_command ws = option_map (λ literals. Learnt literals) (with_literals [] ws)

  abbrev pub decay_command : List (List ℕ) → Option (Command N S)
  decay_command (n ∷ d ∷ []) =
      option_and_then (λ numerator. option_map (λ denominator. Decay numerator denominator) (number_of d)) (number_of n)
  decay_command _ = None

  abbrev pub standard_command : List (List ℕ) → Option (Command N S)
  standard_command (b ∷ []) = option_map (λ standard. Standard standard) (truth_of b)
  standard_command _ = None

  abbrev pub rewatch_command : List (List ℕ) → Option (Command N S)
  rewatch_command (c ∷ a ∷ b ∷ []) =
      option_and_then (λ clause. option_and_then (λ from. option_map (λ to. Rewatch clause from to) (literal_of b))
      (literal_of a)) (clause_of c)
  rewatch_command _ = None

  abbrev pub watchers_command : List (List ℕ) → Option (Command N S)
  watchers_command (l ∷ []) = option_map (λ literal. Watchers literal) (literal_of l)
  watchers_command _ = None

  abbrev pub saturate_command : List (List ℕ) → Option (Command N S)
  saturate_command (l ∷ []) = option_map (λ level. Saturate level) (number_32 l)
  saturate_command _ = None

  abbrev pub constrains_command : List (List ℕ) → Option (Command N S)
  constrains_command ws = option_map (λ w. Constrains w.0 w.1 w.2) (pair_and_set_of ws)

  abbrev pub constrains_excluded_command : List (List ℕ) → Option (Command N S)
  constrains_excluded_command ws = option_map (λ w. ConstrainsExcluded w.0 w.1 w.2) (pair_and_set_of ws)

  abbrev pub constrains_parent_command : List (List ℕ) → Option (Command N S)
  constrains_parent_command ws = option_map (λ w. ConstrainsParent w.0 w.1 w.2) (pair_and_set_of ws)

  abbrev pub lock_command : List (List ℕ) → Option (Command N S)
  lock_command ws = option_map (λ w. Lock w.0 w.1) (pair_of ws)

  abbrev pub any_of_command : List (List ℕ) → Option (Command N S)
  any_of_command ws = option_map (λ w. AnyOf w.0 w.1) (pair_of ws)

  -- the clauses between two variables
  abbrev pub between_command : List ℕ → List (List ℕ) → Option (Command N S)
  between_command keyword ws =
      if bytes_eq keyword (codes "constrains") then constrains_command ws
      else if bytes_eq keyword (codes "constrains-excluded") then constrains_excluded_command ws
      else if bytes_eq keyword (codes "constrains-parent") then constrains_parent_command ws
      else if bytes_eq keyword (codes "lock") then lock_command ws
      else if bytes_eq keyword (codes "any-of") then any_of_command ws
      else None

-- what a helper variable is to stand for, by its kind. A number below a limit names the package at it
abbrev pub helper_origin_of : {N : Type 0} → ℕ → (ℕ → N) → List ℕ → List ℕ → Option (HelperOrigin N)
helper_origin_of names name_at kind word =
    if bytes_eq kind (codes "any-of") then option_map (λ number. AtLeastOne (name_at number))
    (below names (number_of word))
    else if bytes_eq kind (codes "violation") then option_map (λ set. ConstrainsViolation set) (set_of word)
    else if bytes_eq kind (codes "gate") then option_map (λ required. RequiresGate required) (requirement_of word)
    else None

module _ {N S : Type 0} (ids : Ids N S) where
  abbrev pub variable_command : List (List ℕ) → Option (Command N S)
  variable_command (s ∷ []) = option_map (λ number. Variable (ids.solvable_at number))
      (below ids.solvables (number_of s))
  variable_command _ = None

  abbrev pub helper_command : List (List ℕ) → Option (Command N S)
  helper_command (kind ∷ word ∷ []) = option_map (λ origin. Helper origin)
      (helper_origin_of ids.names ids.name_at kind word)
  helper_command _ = None

  abbrev pub at_most_once_command : List (List ℕ) → Option (Command N S)
  at_most_once_command (n ∷ v ∷ []) =
      option_and_then (λ number. option_map (λ variable. AtMostOnce (ids.name_at number) variable) (variable_of v))
      (below ids.names (number_of n))
  at_most_once_command _ = None

  abbrev pub bump_command : List (List ℕ) → Option (Command N S)
  bump_command (n ∷ a ∷ []) =
      option_and_then (λ number. option_map (λ amount. Bump (ids.name_at number) amount) (number_of a))
      (below ids.names (number_of n))
  bump_command _ = None

  -- what is said seldom
  abbrev pub seldom_command : List ℕ → List (List ℕ) → Option (Command N S)
  seldom_command keyword ws =
      if bytes_eq keyword (codes "variable") then variable_command ws
      else if bytes_eq keyword (codes "undo-last") then bare_command UndoLast ws
      else if bytes_eq keyword (codes "helper") then helper_command ws
      else if bytes_eq keyword (codes "exclude") then exclude_command ws
      else if bytes_eq keyword (codes "root") then bare_command Root ws
      else between_command keyword ws

  -- what is said of scores
  abbrev pub score_command : List ℕ → List (List ℕ) → Option (Command N S)
  score_command keyword ws =
      if bytes_eq keyword (codes "bump") then bump_command ws
      else if bytes_eq keyword (codes "decay") then decay_command ws
      else if bytes_eq keyword (codes "standard") then standard_command ws
      else seldom_command keyword ws

  -- what is said without a list
  abbrev pub plain_command : List ℕ → List (List ℕ) → Option (Command N S)
  plain_command keyword ws =
      if bytes_eq keyword (codes "assign") then assign_command ws
      else if bytes_eq keyword (codes "requires") then requires_command ws
      else if bytes_eq keyword (codes "load") then load_command ws
      else if bytes_eq keyword (codes "at-most-once") then at_most_once_command ws
      else if bytes_eq keyword (codes "decide") then bare_command Decide ws
      else if bytes_eq keyword (codes "unpropagated") then bare_command Unpropagated ws
      else if bytes_eq keyword (codes "undo-until") then undo_command ws
      else if bytes_eq keyword (codes "rewatch") then rewatch_command ws
      else if bytes_eq keyword (codes "watchers") then watchers_command ws
      else if bytes_eq keyword (codes "saturate") then saturate_command ws
      else score_command keyword ws

  -- the command of a line's words
  abbrev pub command_said : List ℕ → List (List ℕ) → Option (Command N S)
  command_said keyword ws =
      if bytes_eq keyword (codes "learnt") then learnt_command ws
      else if bytes_eq keyword (codes "disjunction") then disjunction_command ws
      else plain_command keyword ws

  -- the command of a line that says this
  abbrev pub command_meant : Line Statement → Line (Command N S)
  command_meant said = statement_says command_said said

  -- what a line after `begin` says
  abbrev pub command_line_of : List ℕ → Line (Command N S)
  command_line_of line = line_says command_said line
