-- The commands that add a clause which they name whole. N are the names, S the solvables.
use Rattle.std.specs.Prelude.{◌≡◌, ℕ, Option, Bool, true, false, ◌&&◌, nat_lt}
use Rattle.providers.specs.Provider.{Universe}
use Rattle.clauses.specs.declared.clause.Clause.{Clause}
use Rattle.clauses.specs.declared.clause.Clause.TheVariants as Kind
use Rattle.watch_map.specs.ClauseList.{Clauses, literals_watched, with_clause}
use Rattle.watch_map.specs.declared.watched_literals.WatchedLiterals.{WatchedLiterals}
use Rattle.resolvo_store.specs.Command.{Command, Root, Constrains, ConstrainsExcluded}
use Rattle.resolvo_store.specs.Command.{ConstrainsParent, Lock, Exclude, AnyOf, Decide}

-- a command names all of the clause: it is neither registered for decisions, nor tracked, nor learnt
abbrev pub is_direct : {N : Type 0} → Clause N → Bool
is_direct (Kind.Requires parent d r) = false
is_direct (Kind.ForbidMultipleInstances a l n) = false
is_direct (Kind.Learnt id) = false
is_direct _ = true

module _ {N S : Type 0} where
  -- the command that adds it; of another clause it is any
  abbrev pub adding : Clause N → Command N S
  adding Kind.InstallRoot = Root
  adding (Kind.Constrains a b v) = Constrains a b v
  adding (Kind.ConstrainsExcluded a aux v) = ConstrainsExcluded a aux v
  adding (Kind.ConstrainsParent a aux v) = ConstrainsParent a aux v
  adding (Kind.Lock locked other) = Lock locked other
  adding (Kind.Excluded a reason) = Exclude a reason
  adding (Kind.AnyOf selected other) = AnyOf selected other
  adding _ = Decide

  -- a command names a clause whole
  abbrev pub names_clause : Command N S → Bool
  names_clause Root = true
  names_clause (Constrains a b v) = true
  names_clause (ConstrainsExcluded a aux v) = true
  names_clause (ConstrainsParent a aux v) = true
  names_clause (Lock locked other) = true
  names_clause (Exclude a reason) = true
  names_clause (AnyOf selected other) = true
  names_clause _ = false

  -- whether all is known that it names: variables are below the number
  abbrev pub names_known : Universe N S → ℕ → Clause N → Bool
  names_known universe variables Kind.InstallRoot = true
  names_known universe variables (Kind.Constrains a b v) =
      (nat_lt a variables && nat_lt b variables) && universe.knows_set v
  names_known universe variables (Kind.ConstrainsExcluded a aux v) =
      (nat_lt a variables && nat_lt aux variables) && universe.knows_set v
  names_known universe variables (Kind.ConstrainsParent a aux v) =
      (nat_lt a variables && nat_lt aux variables) && universe.knows_set v
  names_known universe variables (Kind.Lock locked other) = nat_lt locked variables && nat_lt other variables
  names_known universe variables (Kind.Excluded a reason) = nat_lt a variables && universe.knows_string reason
  names_known universe variables (Kind.AnyOf selected other) = nat_lt selected variables && nat_lt other variables
  names_known universe variables _ = false

-- one clause more is stored, with what it watches
abbrev pub HasMore : {N : Type 0} → Clauses N → Clause N → Option WatchedLiterals → Clauses N → Type 0
HasMore old clause watches new = new ≡ with_clause old clause (literals_watched watches)
