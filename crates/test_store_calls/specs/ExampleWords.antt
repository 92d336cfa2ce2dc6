-- The words of the worked examples.
use Rattle.std.specs.Prelude.{◌≡◌, ℕ, Bool, List, [], ◌∷◌, map, Some}
use Rattle.resolvo_ids.specs.Types.StringId.{StringId}
use Rattle.resolvo_ids.specs.Types.VersionSetId.{VersionSetId}
use Rattle.resolvo_pool.specs.Types.Requirement.{Requirement}
use Rattle.resolvo_pool.specs.Types.Requirement.TheVariants.{Single, Union}
use Rattle.resolvo_clauses.specs.Literals.{Lit}
use Rattle.resolvo_clauses.specs.Types.Decision.{Decision}
use Rattle.resolvo_clauses.specs.Clauses.{literals_of}
use Rattle.resolvo_store.specs.Command.{Command, Reply, Undone, Next, Decided}
use Rattle.resolvo_store.specs.Store.{new_store, stored_of}
use Rattle.test_store_calls.specs.Play.{play, store_after}
use Rattle.test_store_calls.specs.Script.{Packages, Solvable, Range, provider_of, provider_favoring}

-- over these packages a new store gives these replies to these commands
abbrev pub Gives : Packages → List (Command ℕ ℕ) → List Reply → Type 0
Gives c commands replies = play (new_store (provider_of c)) commands ≡ replies

-- the same where this solvable is favored
abbrev pub GivesFavored : Packages → ℕ → List (Command ℕ ℕ) → List Reply → Type 0
GivesFavored c favored commands replies = play (new_store (provider_favoring c (Some favored))) commands ≡ replies

-- over these packages a new store has clauses of these literals after these commands, which watch these, or nothing
abbrev pub Leaves : Packages → List (Command ℕ ℕ) → List (List Lit) → List (List Lit) → Type 0
Leaves c commands literals watches =
    let st = store_after (new_store (provider_of c)) commands in
    (map (literals_of (stored_of st)) st.clauses ≡ literals) × (st.watches ≡ watches)

-- a solvable of a name, in a version
abbrev pub solvable : ℕ → ℕ → Solvable
solvable name version = record { name = name; version = version }

abbrev pub range : ℕ → ℕ → ℕ → Range
range name low high = record { name = name; low = low; high = high }

abbrev pub set : ℕ → VersionSetId
set v = record { 0 = v }

abbrev pub string : ℕ → StringId
string i = record { 0 = i }

-- the requirement of one version set, and that of a union
abbrev pub single : ℕ → Requirement
single v = Single (set v)

abbrev pub union : ℕ → Requirement
union u = Union (record { 0 = u })

-- a decision, with the score of its candidate's package
abbrev pub decides_at : ℕ → ℕ → ℕ → ℕ → ℕ → Reply
decides_at candidate parent clause score count =
    Decided (record {
      candidate = candidate;
      required_by = parent;
      clause_id = clause;
      package_activity = score;
      candidate_count = count;
    })

-- the same where it has no score
abbrev pub decides : ℕ → ℕ → ℕ → ℕ → Reply
decides candidate parent clause count = decides_at candidate parent clause 0 count

abbrev pub assigns : ℕ → Bool → ℕ → Decision
assigns variable value clause = record { variable = variable; value = value; derived_from = clause }

-- this assignment is handed out
abbrev pub hands : ℕ → Bool → ℕ → Reply
hands variable value clause = Next (Some (assigns variable value clause))

-- this assignment is taken back, and the one before it is of the level
abbrev pub takes_back : ℕ → Bool → ℕ → ℕ → Reply
takes_back variable value clause level = Undone (Some (assigns variable value clause, level))

-- two versions of one package, and the version set of both
abbrev pub two_versions : Packages
two_versions = record {
  solvables = solvable 0 1 ∷ solvable 0 2 ∷ [];
  sets = range 0 1 3 ∷ [];
  unions = [];
  strings = 0;
}
