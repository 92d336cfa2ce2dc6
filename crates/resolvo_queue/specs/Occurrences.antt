-- Which requirements list a variable, and how reading a requirement's rows changes it.
use Rattle.std.specs.Prelude.{◌≡◌, ◌⊎◌, ℕ, Bool, List, Contains, count_by}
use Rattle.resolvo_queue.specs.Types.{list_any, Requirement, same_requirement}
use Rattle.resolvo_queue.specs.Rows.ByVariable.{list_at}
use Rattle.resolvo_queue.specs.References.{Lists}

-- what a reader of rows has: the lists, and the requirements that it has walked, oldest first
pub record Reading (A : Type 0) : Type 0 where
  pub lists : Lists A
  pub walked : List Requirement

-- how often a requirement stands in a log
abbrev pub times : List Requirement → Requirement → ℕ
times log r = count_by (same_requirement r) log

-- the listed requirements, and by each variable requirements with it in a row
pub record Listed : Type 0 where
  pub listed : List Requirement
  pub by_variable : List (List Requirement)

abbrev pub is_listed : Listed → Requirement → Bool
is_listed o r = list_any (same_requirement r) o.listed

-- the requirements that stand by the variable
abbrev pub listing : Listed → ℕ → List Requirement
listing o variable = list_at o.by_variable variable

-- the requirement came to the listings of such variables, and nothing left any
pub record GrowsWith (r : Requirement) (variables : List ℕ) (old new : Listed) : Type 0 where
  pub kept : (v : ℕ) (q : Requirement) → Contains (listing old v) q → Contains (listing new v) q
  pub added : (v : ℕ) (q : Requirement) → Contains (listing new v) q →
      Contains (listing old v) q ⊎ ((q ≡ r) × Contains variables v)

-- the requirement is in the listing of each of the variables
abbrev pub HasAll : Requirement → List ℕ → Listed → Type 0
HasAll r variables o = (v : ℕ) → Contains variables v → Contains (listing o v) r
