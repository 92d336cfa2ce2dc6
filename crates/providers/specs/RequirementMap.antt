-- Maps from requirements to values, as lists of entries.
use Rattle.std.specs.Prelude.{ℕ, zero, suc, ◌^◌, ⊤, if◌then◌else◌, List, [], ◌∷◌, Option}
use Rattle.id_storage.specs.StoredAnswers.{AreStored}
use Rattle.providers.specs.Requirement.{same_requirement}
use Rattle.providers.specs.declared.requirement.Requirement.{Requirement}

-- the entries once the requirement has the value: its entry takes it, or else a new entry comes at the end
abbrev pub with_entry : {V : Type 0} → List (Requirement × V) → Requirement → V → List (Requirement × V)
with_entry [] requirement value = (requirement, value) ∷ []
with_entry (e ∷ es) requirement value =
    if same_requirement requirement e.0 then (e.0, value) ∷ es else e ∷ with_entry es requirement value

-- the entries, of which the one in the place takes the value
abbrev pub with_value_at : {V : Type 0} → List (Requirement × V) → ℕ → V → List (Requirement × V)
with_value_at [] place value = []
with_value_at (e ∷ es) zero value = (e.0, value) ∷ es
with_value_at (e ∷ es) (suc place) value = e ∷ with_value_at es place value

-- the function finds exactly the places of the entries, of which each requirement has one at most
abbrev pub ArePlaced : {V : Type 0} → (Requirement → Option ℕ) → List (Requirement × V) → Type 0
ArePlaced places entries = AreStored same_requirement (λ _. ⊤) (2 ^ 32) places entries
