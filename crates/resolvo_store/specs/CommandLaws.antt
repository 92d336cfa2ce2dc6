-- A law of two commands, from the law of each kind of the first.
use Rattle.std.specs.Prelude.{◌≡◌, ℕ, Bool, true, Option}
use Rattle.std.specs.declared.vec.Vec.{Vec}
use Rattle.typed_ids.specs.declared.string_id.StringId.{StringId}
use Rattle.typed_ids.specs.declared.version_set_id.VersionSetId.{VersionSetId}
use Rattle.providers.specs.declared.requirement.Requirement.{Requirement}
use Rattle.decisions.specs.Literals.{Lit}
use Rattle.resolvo_store.specs.Command.{command_of}
use Rattle.resolvo_store.specs.declared.command.Command.{Command}
use Rattle.resolvo_store.specs.declared.command.Command.TheVariants as In
use Rattle.resolvo_store.specs.declared.helper_origin.HelperOrigin.{HelperOrigin}

module _ {N S A : Type 0} (eq : Command N S A → Command N S A → Bool) where
  -- whatever compares equal to this command says the same
  abbrev pub IsSame : Command N S A → Type 0
  IsSame a = (b : Command N S A) → eq a b ≡ true → command_of a ≡ command_of b

  pub by_kind :
      ((s : S) → IsSame (In.Variable s)) →
      ((origin : HelperOrigin N) → IsSame (In.Helper origin)) →
      ((r : Requirement) → IsSame (In.Load r)) →
      ((literals : Vec Lit A) (condition : ℕ) → IsSame (In.Disjunction literals condition)) →
      ((parent : ℕ) (r : Requirement) (disjunction : Option ℕ) → IsSame (In.Requires parent r disjunction)) →
      (IsSame (In.Root)) →
      ((parent forbidden : ℕ) (set : VersionSetId) → IsSame (In.Constrains parent forbidden set)) →
      ((candidate aux : ℕ) (set : VersionSetId) → IsSame (In.ConstrainsExcluded candidate aux set)) →
      ((parent aux : ℕ) (set : VersionSetId) → IsSame (In.ConstrainsParent parent aux set)) →
      ((locked other : ℕ) → IsSame (In.Lock locked other)) →
      ((variable : ℕ) (reason : StringId) → IsSame (In.Exclude variable reason)) →
      ((selected other : ℕ) → IsSame (In.AnyOf selected other)) →
      ((literals : Vec Lit A) → IsSame (In.Learnt literals)) →
      ((name : N) (variable : ℕ) → IsSame (In.AtMostOnce name variable)) →
      ((variable : ℕ) (value : Bool) (clause level : ℕ) → IsSame (In.Assign variable value clause level)) →
      (IsSame (In.UndoLast)) →
      ((level : ℕ) → IsSame (In.UndoUntil level)) →
      (IsSame (In.Unpropagated)) →
      ((name : N) (amount : ℕ) → IsSame (In.Bump name amount)) →
      ((numerator denominator : ℕ) → IsSame (In.Decay numerator denominator)) →
      ((standard : Bool) → IsSame (In.Standard standard)) →
      ((clause : ℕ) (from to : Lit) → IsSame (In.Rewatch clause from to)) →
      ((literal : Lit) → IsSame (In.Watchers literal)) →
      ((level : ℕ) → IsSame (In.Saturate level)) →
      (IsSame (In.Decide)) →
      (a : Command N S A) → IsSame a
  by_kind variable_ _ _ _ _ _ _ _ _ _ _ _ _ _ _ _ _ _ _ _ _ _ _ _ _ (In.Variable s) = variable_ s
  by_kind _ helper_ _ _ _ _ _ _ _ _ _ _ _ _ _ _ _ _ _ _ _ _ _ _ _ (In.Helper origin) = helper_ origin
  by_kind _ _ load_ _ _ _ _ _ _ _ _ _ _ _ _ _ _ _ _ _ _ _ _ _ _ (In.Load r) = load_ r
  by_kind _ _ _ disjunction_ _ _ _ _ _ _ _ _ _ _ _ _ _ _ _ _ _ _ _ _ _ (In.Disjunction literals condition) =
      disjunction_ literals condition
  by_kind _ _ _ _ requires_ _ _ _ _ _ _ _ _ _ _ _ _ _ _ _ _ _ _ _ _ (In.Requires parent r disjunction) =
      requires_ parent r disjunction
  by_kind _ _ _ _ _ root_ _ _ _ _ _ _ _ _ _ _ _ _ _ _ _ _ _ _ _ In.Root = root_
  by_kind _ _ _ _ _ _ constrains_ _ _ _ _ _ _ _ _ _ _ _ _ _ _ _ _ _ _ (In.Constrains parent forbidden set) =
      constrains_ parent forbidden set
  by_kind _ _ _ _ _ _ _ constrainsExcluded_ _ _ _ _ _ _ _ _ _ _ _ _ _ _ _ _ _
      (In.ConstrainsExcluded candidate aux set) = constrainsExcluded_ candidate aux set
  by_kind _ _ _ _ _ _ _ _ constrainsParent_ _ _ _ _ _ _ _ _ _ _ _ _ _ _ _ _ (In.ConstrainsParent parent aux set) =
      constrainsParent_ parent aux set
  by_kind _ _ _ _ _ _ _ _ _ lock_ _ _ _ _ _ _ _ _ _ _ _ _ _ _ _ (In.Lock locked other) = lock_ locked other
  by_kind _ _ _ _ _ _ _ _ _ _ exclude_ _ _ _ _ _ _ _ _ _ _ _ _ _ _ (In.Exclude variable reason) =
      exclude_ variable reason
  by_kind _ _ _ _ _ _ _ _ _ _ _ anyOf_ _ _ _ _ _ _ _ _ _ _ _ _ _ (In.AnyOf selected other) = anyOf_ selected other
  by_kind _ _ _ _ _ _ _ _ _ _ _ _ learnt_ _ _ _ _ _ _ _ _ _ _ _ _ (In.Learnt literals) = learnt_ literals
  by_kind _ _ _ _ _ _ _ _ _ _ _ _ _ atMostOnce_ _ _ _ _ _ _ _ _ _ _ _ (In.AtMostOnce name variable) =
      atMostOnce_ name variable
  by_kind _ _ _ _ _ _ _ _ _ _ _ _ _ _ assign_ _ _ _ _ _ _ _ _ _ _ (In.Assign variable value clause level) =
      assign_ variable value clause level
  by_kind _ _ _ _ _ _ _ _ _ _ _ _ _ _ _ undoLast_ _ _ _ _ _ _ _ _ _ In.UndoLast = undoLast_
  by_kind _ _ _ _ _ _ _ _ _ _ _ _ _ _ _ _ undoUntil_ _ _ _ _ _ _ _ _ (In.UndoUntil level) = undoUntil_ level
  by_kind _ _ _ _ _ _ _ _ _ _ _ _ _ _ _ _ _ unpropagated_ _ _ _ _ _ _ _ In.Unpropagated = unpropagated_
  by_kind _ _ _ _ _ _ _ _ _ _ _ _ _ _ _ _ _ _ bump_ _ _ _ _ _ _ (In.Bump name amount) = bump_ name amount
  by_kind _ _ _ _ _ _ _ _ _ _ _ _ _ _ _ _ _ _ _ decay_ _ _ _ _ _ (In.Decay numerator denominator) =
      decay_ numerator denominator
  by_kind _ _ _ _ _ _ _ _ _ _ _ _ _ _ _ _ _ _ _ _ standard_ _ _ _ _ (In.Standard standard) = standard_ standard
  by_kind _ _ _ _ _ _ _ _ _ _ _ _ _ _ _ _ _ _ _ _ _ rewatch_ _ _ _ (In.Rewatch clause from to) = rewatch_ clause from to
  by_kind _ _ _ _ _ _ _ _ _ _ _ _ _ _ _ _ _ _ _ _ _ _ watchers_ _ _ (In.Watchers literal) = watchers_ literal
  by_kind _ _ _ _ _ _ _ _ _ _ _ _ _ _ _ _ _ _ _ _ _ _ _ saturate_ _ (In.Saturate level) = saturate_ level
  by_kind _ _ _ _ _ _ _ _ _ _ _ _ _ _ _ _ _ _ _ _ _ _ _ _ decide_ In.Decide = decide_
