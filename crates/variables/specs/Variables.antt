-- The variables: a list of origins, one for each variable. N are the names, S the solvables.
use Rattle.std.specs.Prelude.{◌≡◌, ℕ, ◌≤◌, ◌^◌, ◌-◌, Bool, false, ◌&&◌, ◌||◌, nat_le, nat_lt}
use Rattle.std.specs.Prelude.{if◌then◌else◌, List, [], ◌∷◌, ◌++◌, length, take, fold, Option, None, Some}
use Rattle.std.specs.Prelude.{is_some, is_none, unwrap_or, slice_get, IsTrue, Result, Err, IfErr, OnOk}
use Rattle.std.specs.List.{position_from, list_any}
use Rattle.typed_ids.specs.Refusals.{IsGrowthRefusal}
use Rattle.typed_ids.specs.declared.error.StoreError.{StoreError}
use Rattle.typed_ids.specs.declared.error.StoreError.TheVariants.{IdSpace}
use Rattle.typed_ids.specs.declared.solvable_id_or_root.SolvableIdOrRoot.{SolvableIdOrRoot}
use Rattle.typed_ids.specs.declared.solvable_id_or_root.SolvableIdOrRoot.TheVariants as Key
use Rattle.variables.specs.declared.variable_origin.VariableOrigin.{VariableOrigin}
use Rattle.variables.specs.declared.variable_origin.VariableOrigin.TheVariants.{Root, Solvable}

-- the solvable that a variable stands for, if it stands for one
abbrev pub solvable_of : {N S : Type 0} → VariableOrigin N S → Option S
solvable_of (Solvable s) = Some s
solvable_of _ = None

-- the key of the root or of the solvable that a variable stands for, if it stands for one of these
abbrev pub key_of : {N S : Type 0} → VariableOrigin N S → Option (SolvableIdOrRoot S)
key_of Root = Some Key.Root
key_of (Solvable s) = Some (Key.Solvable s)
key_of _ = None

-- the first variable is the root's
abbrev pub IsRootFirst : {N S : Type 0} → List (VariableOrigin N S) → Type 0
IsRootFirst origins = slice_get origins 0 ≡ Some Root

-- no variable id is left where there are this many variables
abbrev pub are_variables_out : ℕ → Bool
are_variables_out count = nat_le (2 ^ 31 - 1) count

-- it fails for want of ids exactly where they are out, and else for want of memory alone
pub record FailsWhereOut {T : Type 0} (out : Bool) (result : Result T StoreError) : Type 0 where
  pub ids_out : IsTrue out → result ≡ Err IdSpace
  pub refused : IfErr result (IsGrowthRefusal out)
  pub fits : OnOk result (out ≡ false)

module _ {N S : Type 0} (same : S → S → Bool) where
  -- whether the origin is the solvable
  abbrev pub is_solvable : S → VariableOrigin N S → Bool
  is_solvable s (Solvable t) = same t s
  is_solvable s _ = false

  -- the variable of the solvable, if it has one
  abbrev pub variable_of_solvable : List (VariableOrigin N S) → S → Option ℕ
  variable_of_solvable origins s = position_from (is_solvable s) 0 origins

  -- the variable that the solvable has, or else gets
  abbrev pub interned_variable : List (VariableOrigin N S) → S → ℕ
  interned_variable origins s = unwrap_or (variable_of_solvable origins s) (length origins)

  -- the origins once the solvable has a variable: a new one stands at the end
  abbrev pub with_variable : List (VariableOrigin N S) → S → List (VariableOrigin N S)
  with_variable origins s = if is_some (variable_of_solvable origins s) then origins else origins ++ Solvable s ∷ []

  -- the variable of the key, if it has one: the root's is the first
  abbrev pub variable_of_key : List (VariableOrigin N S) → SolvableIdOrRoot S → Option ℕ
  variable_of_key origins Key.Root = Some 0
  variable_of_key origins (Key.Solvable s) = variable_of_solvable origins s

  -- the variable that the key has, or else gets
  abbrev pub interned_key : List (VariableOrigin N S) → SolvableIdOrRoot S → ℕ
  interned_key origins key = unwrap_or (variable_of_key origins key) (length origins)

  -- the origins once the key has a variable
  abbrev pub with_key : List (VariableOrigin N S) → SolvableIdOrRoot S → List (VariableOrigin N S)
  with_key origins Key.Root = origins
  with_key origins (Key.Solvable s) = with_variable origins s

  -- the origins once each solvable has a variable, interned in the list's order
  abbrev pub with_variables : List (VariableOrigin N S) → List S → List (VariableOrigin N S)
  with_variables origins ss = fold with_variable origins ss

  -- the origins once a beginning of the solvables have variables
  abbrev pub IsPartlyInterned : List (VariableOrigin N S) → List S → List (VariableOrigin N S) → Type 0
  IsPartlyInterned origins ss after = (n : ℕ) × (after ≡ with_variables origins (take n ss))

  -- no solvable stands twice: wherever it stands, there is its variable
  abbrev pub AreSolvablesDistinct : List (VariableOrigin N S) → Type 0
  AreSolvablesDistinct origins =
      (v : ℕ) (s : S) → slice_get origins v ≡ Some (Solvable s) → variable_of_solvable origins s ≡ Some v

  -- a map from solvables to their variables that belongs to a list of variables
  pub record IsVariableMap (slots : S → Option ℕ) (origins : List (VariableOrigin N S)) : Type 0 where
    pub agrees : (s : S) → slots s ≡ variable_of_solvable origins s
    pub few : length origins ≤ 2 ^ 31 - 1
    pub root_first : IsRootFirst origins
    pub distinct : AreSolvablesDistinct origins

  module _ (is_large : S → Bool) where
    -- the solvable has no variable and can't get one: no id is left, or nothing can be kept by the solvable's id
    abbrev pub lacks_variable : List (VariableOrigin N S) → S → Bool
    lacks_variable origins s =
        is_none (variable_of_solvable origins s) && (are_variables_out (length origins) || is_large s)

    -- the solvables can't all get variables: there would be more than 2^31 - 1, or one of them is too large to be kept
    abbrev pub lacks_variables : List (VariableOrigin N S) → List S → Bool
    lacks_variables origins ss = nat_lt (2 ^ 31 - 1) (length (with_variables origins ss)) || list_any is_large ss
