-- What the counters of groups and clauses count.
use Rattle.std.specs.Prelude.{◌≡◌, ℕ, ◌<◌, ◌≤◌, ◌^◌, false, if◌then◌else◌, ◌==◌, List, length, map}
use Rattle.std.specs.Prelude.{slice_index, slice_index_or, slice_set}
use Rattle.std.specs.List.{sum_by}
use Rattle.clause_counters.specs.Links.{IsLinked, numbers_at, count}
use Rattle.clause_counters.specs.declared.links.Link.{Link}
use Rattle.clause_counters.specs.declared.groups.Standing.{Standing}
use Rattle.clause_counters.specs.declared.groups.Group.{Group}

-- what stands past the last literal and the last group
abbrev pub no_standing : Standing
no_standing = record { is_false = false; groups = 0 }

abbrev pub standing_at : List Standing → ℕ → Standing
standing_at literals index = slice_index_or literals index no_standing

abbrev pub no_group : Group
no_group = record { left = 0; clauses = 0 }

abbrev pub group_at : List Group → ℕ → Group
group_at groups number = slice_index_or groups number no_group

-- the group with this number has this many places whose literals aren't false
abbrev pub with_left : ℕ → ℕ → List Group → List Group
with_left left number groups = slice_set groups number (record (group_at groups number) { left = left })

-- the list of each group's clauses
abbrev pub clause_lists : List Group → List ℕ
clause_lists groups = map (λ g. g.clauses) groups

-- how many members of all groups are the clause, and how many of these are of groups that aren't false
abbrev pub all_members : List Link → List Group → ℕ → ℕ
all_members members groups c = sum_by (λ g. count c (numbers_at members g.clauses)) groups

abbrev pub open_members : List Link → List Group → ℕ → ℕ
open_members members groups c = sum_by (λ g. if g.left == 0 then 0 else count c (numbers_at members g.clauses)) groups

-- each clause's number is that of its groups that aren't false
pub record CountsMembers (members : List Link) (groups : List Group) (lefts : List ℕ) : Type 0 where
  pub linked : IsLinked members
  pub within : (g : ℕ) → (group_at groups g).clauses ≤ length members
  pub known : (c : ℕ) → length lefts ≤ c → all_members members groups c ≡ 0
  pub counts : (c : ℕ) → slice_index lefts c ≡ open_members members groups c
  pub few : (c : ℕ) → all_members members groups c < 2 ^ 8

-- how many places the group has, and how many of these hold a literal that isn't false
abbrev pub all_places : List Link → List Standing → ℕ → ℕ
all_places places literals g = sum_by (λ l. count g (numbers_at places l.groups)) literals

abbrev pub open_places : List Link → List Standing → ℕ → ℕ
open_places places literals g = sum_by (λ l. if l.is_false then 0 else count g (numbers_at places l.groups)) literals

-- each group's number is that of its places whose literals aren't false
pub record CountsPlaces (places : List Link) (literals : List Standing) (groups : List Group) : Type 0 where
  pub linked : IsLinked places
  pub within : (l : ℕ) → (standing_at literals l).groups ≤ length places
  pub known : (g : ℕ) → length groups ≤ g → all_places places literals g ≡ 0
  pub counts : (g : ℕ) → (group_at groups g).left ≡ open_places places literals g
  pub few : (g : ℕ) → all_places places literals g < 2 ^ 32
