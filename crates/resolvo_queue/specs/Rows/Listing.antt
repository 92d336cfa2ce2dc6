-- What occurrences and records have to do with each other.
use Rattle.std.specs.Prelude.{◌≡◌, ℕ, true, Some, IsSome, is_some, slice_get, List, Contains}
use Rattle.resolvo_queue.specs.Types.{lookup, Requirement, same_requirement}
use Rattle.resolvo_queue.specs.Occurrences.{Listed, is_listed, listing, HasAll}
use Rattle.resolvo_queue.specs.References.{Lists}
use Rattle.resolvo_queue.specs.Rows.{candidates}
use Rattle.resolvo_queue.specs.Parts.{Record}

-- what is listed has lists, and all its candidates listed, what stands in a list has the variable among its candidates,
-- and what is known of was listed
pub record IsListedWell {A : Type 0} (lists : Lists A) (o : Listed) (ts : List Record) : Type 0 where
  pub entries : (r : Requirement) → is_listed o r ≡ true → IsSome (lookup (same_requirement r) lists)
  pub all : (r : Requirement) → is_listed o r ≡ true → HasAll r (candidates lists r) o
  pub none_else : (r : Requirement) (v : ℕ) → Contains (listing o v) r → Contains (candidates lists r) v
  pub known : (k : ℕ) (t : Record) → slice_get ts k ≡ Some t → is_some t.walk ≡ true → is_listed o t.requirement ≡ true
