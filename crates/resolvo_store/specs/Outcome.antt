-- What each command replies, and the store that it leaves, where nothing is refused.
use Rattle.std.specs.Prelude.{ℕ, ◌+◌, ◌-◌, min, Bool, true, false, nat_eq, List, [], ◌∷◌, ◌++◌, map, fold}
use Rattle.std.specs.Prelude.{option_map, length, take, slice_get, slice_set, Option, Some, None, if◌then◌else◌}
use Rattle.std.specs.Bool.{beq}
use Rattle.providers.specs.declared.requirement.Requirement.{Requirement}
use Rattle.providers.specs.Provider.{sets_of}
use Rattle.variables.specs.declared.variable_origin.VariableOrigin.{VariableOrigin}
use Rattle.variables.specs.declared.variable_origin.VariableOrigin.TheVariants.{AtLeastOne, ConstrainsViolation}
use Rattle.variables.specs.declared.variable_origin.VariableOrigin.TheVariants.{RequiresGate}
use Rattle.variables.specs.Variables.{with_variable, interned_variable, with_variables}
use Rattle.decisions.specs.declared.decision.Decision.{Decision}
use Rattle.decisions.specs.Literals.{Lit}
use Rattle.decisions.specs.Trail.{Entry, newest, top_level, entries_until}
use Rattle.clauses.specs.declared.clause.Clause.{Clause}
use Rattle.clauses.specs.declared.clause.Clause.TheVariants as Kind
use Rattle.clauses.specs.Clauses.{first_watches, is_conflict}
use Rattle.at_most_once.specs.AtMostOne.{BitClause, is_tracked, new_clauses}
use Rattle.at_most_once.specs.NameTrackers.{with_tracked as trackers_with}
use Rattle.id_maps.specs.Scores.{bumped, decayed}
use Rattle.watch_map.specs.Watching.{started, moved}
use Rattle.watch_map.specs.ClauseList.{two_or_none, rewatched}
use Rattle.resolvo_store.specs.declared.helper_origin.HelperOrigin.{HelperOrigin}
use Rattle.resolvo_store.specs.declared.helper_origin.HelperOrigin.TheVariants as Helps
use Rattle.resolvo_queue.specs.declared.requires_clause.RequiresClause.{RequiresClause}
use Rattle.resolvo_queue.specs.Scan.{first_falsified, is_eligible}
use Rattle.resolvo_queue.specs.declared.offer.Offer.{Offer}
use Rattle.resolvo_queue.specs.Pick.{eligible, pick, decided}
use Rattle.resolvo_store.specs.Command.{Command, Variable, Helper, Load, Requires, Root, Constrains}
use Rattle.resolvo_store.specs.Command.{ConstrainsExcluded, ConstrainsParent, Lock, Exclude, AnyOf, Learnt}
use Rattle.resolvo_store.specs.Command.{Assign, UndoLast, UndoUntil, Unpropagated, Rewatch, Watchers, Saturate}
use Rattle.resolvo_store.specs.Command.{Decide, Disjunction, AtMostOnce, Bump, Decay, Standard, Reply, VariableIs}
use Rattle.resolvo_store.specs.Command.{LoadedAs, DisjunctionIs, ClauseIs, TrackedAs, Assigned, Already, Clash}
use Rattle.resolvo_store.specs.Command.{Undone, Next, Done, WatchersAre, Decided, NoDecision, Falsified}
use Rattle.resolvo_store.specs.Tracking.{forbidding, next_helper, origins_with}
use Rattle.resolvo_store.specs.Store.{Store, values, lists_of, stored_of, condition_of}
use Rattle.resolvo_store.specs.Store.{watched_by, rows_of, score_of, candidates_of, all_candidates}

-- a reply, and the store after it
pub record Outcome (N S : Type 0) : Type 0 where
  pub reply : Reply
  pub store : Store N S

-- the reply to an assignment, by what is known of the variable
abbrev pub assign_reply : Option Bool → Bool → Reply
assign_reply None value = Assigned
assign_reply (Some known) value = if beq known value then Already else Clash

-- the trail after an assignment
abbrev pub assigned : Option Bool → List Entry → Entry → List Entry
assigned None trail entry = trail ++ entry ∷ []
assigned (Some known) trail entry = trail

-- the entries before the newest
abbrev pub without_newest : List Entry → List Entry
without_newest trail = take (length trail - 1) trail

-- what UndoLast takes back, and the level of the entry before it
abbrev pub undone : List Entry → Option (Decision × ℕ)
undone trail = option_map (λ e. (e.decision, top_level (without_newest trail))) (newest trail)

-- the answer of a Decide: the first falsified clause, else the picked one, else none
abbrev pub decision : Option RequiresClause → Option Offer → Reply
decision (Some c) picked = Falsified c.clause_id
decision None (Some o) = Decided (decided o)
decision None None = NoDecision

module _ {N S : Type 0} where
  -- the origins once a requirement's candidates have variables
  abbrev pub origins_loaded : Store N S → Requirement → List (VariableOrigin N S)
  origins_loaded st r = with_variables st.provider.same_solvable st.origins (all_candidates st r)

  -- the candidates' variables, one list a version set
  abbrev pub variables_loaded : Store N S → Requirement → List (List ℕ)
  variables_loaded st r =
      map (λ v. map (interned_variable st.provider.same_solvable (origins_loaded st r)) (candidates_of st v))
      (sets_of st.provider.universe r)

  -- a Load, by the lists that the requirement has already
  abbrev pub load : Store N S → Requirement → Option (List (List ℕ)) → Outcome N S
  load st r (Some lists) = record { reply = LoadedAs lists; store = st }
  load st r None = record {
    reply = LoadedAs (variables_loaded st r);
    store = record st { origins = origins_loaded st r; loaded = st.loaded ++ (r, variables_loaded st r) ∷ [] };
  }

  -- what a helper variable stands for
  abbrev pub helper_origin : HelperOrigin N → VariableOrigin N S
  helper_origin (Helps.AtLeastOne n) = AtLeastOne n
  helper_origin (Helps.ConstrainsViolation v) = ConstrainsViolation v
  helper_origin (Helps.RequiresGate r) = RequiresGate r

  -- what a new clause watches: two literals, or none
  abbrev pub new_watches : Store N S → Clause N → List Lit
  new_watches st c = two_or_none (first_watches (stored_of st) (values st) c)

  -- the store that has one more clause, which watches these and stands at the front of their lists
  abbrev pub with_clause : Store N S → Clause N → List Lit → Store N S
  with_clause st c watched = record st {
    clauses = st.clauses ++ c ∷ [];
    watches = st.watches ++ watched ∷ [];
    watchers = started (length st.clauses) watched st.watchers;
  }

  -- a new clause's reply, and the store that has it with its first watches
  abbrev pub adds_clause : Store N S → Clause N → Outcome N S
  adds_clause st c = record {
    reply = ClauseIs (length st.clauses) (is_conflict (stored_of st) (values st) c);
    store = with_clause st c (new_watches st c);
  }

  -- the store in which a clause watches another literal in the place of one
  abbrev pub with_rewatched : Store N S → ℕ → Lit → Lit → Store N S
  with_rewatched st c from to = record st {
    watches = slice_set st.watches c (rewatched from to (watched_by st c));
    watchers = moved c from to st.watchers;
  }

  -- the store that has registered a requires clause under the next clause id
  abbrev pub with_registered : Store N S → ℕ → Requirement → Option ℕ → Store N S
  with_registered st parent r condition =
      record st {
        requires = st.requires ++ record {
          parent = parent;
          requirement = r;
          condition = condition;
          clause_id = length st.clauses;
        } ∷ [];
      }

  -- the store that keeps the literals of one learnt clause more
  abbrev pub with_learnt : Store N S → List Lit → Store N S
  with_learnt st ls = record st { learnt = st.learnt ++ ls ∷ [] }

  -- the store that keeps one disjunction more
  abbrev pub with_disjunction : Store N S → List Lit → ℕ → Store N S
  with_disjunction st ls condition =
      record st { disjunctions = st.disjunctions ++ record { literals = ls; condition = condition } ∷ [] }

  -- the helper that one variable more needs under a name, if it needs one
  abbrev pub helper_for : Store N S → N → ℕ → Option ℕ
  helper_for st name v = next_helper st.origins (st.trackers name) v

  -- the clauses of one variable more under a name
  abbrev pub tracking : Store N S → N → ℕ → List (BitClause ℕ)
  tracking st name v = new_clauses (st.trackers name) (helper_for st name v) v

  -- the store with these clauses more under a name, one after another
  abbrev pub with_bits : N → Store N S → List (BitClause ℕ) → Store N S
  with_bits name st cs = fold (λ s c. (adds_clause s (forbidding name c)).store) st cs

  -- the store that tracks one variable more under a name
  abbrev pub with_tracked : Store N S → N → ℕ → Store N S
  with_tracked st name v =
      let grown = record st {
        origins = origins_with st.origins name (helper_for st name v);
        trackers = trackers_with st.provider.same_name name v (helper_for st name v) st.trackers;
      } in
      with_bits name grown (tracking st name v)

  -- the store with its trail cut back to these entries, and the place within them
  abbrev pub cut_back : Store N S → List Entry → Store N S
  cut_back st kept = record st { trail = kept; place = min st.place (length kept) }

  -- the next entry that the search is handed, and the store once it was
  abbrev pub hands_next : Store N S → Option Entry → Outcome N S
  hands_next st None = record { reply = Next None; store = st }
  hands_next st (Some e) = record { reply = Next (Some e.decision); store = record st { place = st.place + 1 } }

  -- the first falsified clause of the scan
  abbrev pub falsified_clause : Store N S → Option RequiresClause
  falsified_clause st = first_falsified (values st) (condition_of st) (rows_of st) st.requires

  -- a clause's parent is true, its condition is met, and its rows leave a candidate to decide and none to find true
  abbrev pub is_eligible_clause : Store N S → RequiresClause → Bool
  is_eligible_clause st c = is_eligible (values st) (condition_of st) (rows_of st) c

  -- what the scan's eligible clauses offer
  abbrev pub offers : Store N S → List Offer
  offers st = eligible (values st) (condition_of st) (rows_of st) (score_of st) st.requires

  -- the pick of them
  abbrev pub picked : Store N S → Option Offer
  picked st = pick (offers st)

  -- the store in which a name's score is raised by an amount, and that in which all scores are taken times a fraction
  abbrev pub with_bumped : Store N S → N → ℕ → Store N S
  with_bumped st name amount = record st { scores = bumped st.provider.same_name name amount st.scores }

  abbrev pub with_decayed : Store N S → ℕ → ℕ → Store N S
  with_decayed st numerator denominator = record st { scores = decayed numerator denominator st.scores }

  -- the reply and the store after a command that nothing refuses
  abbrev pub outcome : Store N S → Command N S → Outcome N S
  outcome st (Variable s) = record {
    reply = VariableIs (interned_variable st.provider.same_solvable st.origins s);
    store = record st { origins = with_variable st.provider.same_solvable st.origins s };
  }
  outcome st (Helper origin) = record {
    reply = VariableIs (length st.origins);
    store = record st { origins = st.origins ++ helper_origin origin ∷ [] };
  }
  outcome st (Load r) = load st r (lists_of st r)
  outcome st (Requires parent r disjunction) =
      adds_clause (with_registered st parent r disjunction) (Kind.Requires parent disjunction r)
  outcome st Root = adds_clause st Kind.InstallRoot
  outcome st (Constrains parent forbidden v) = adds_clause st (Kind.Constrains parent forbidden v)
  outcome st (ConstrainsExcluded candidate aux v) = adds_clause st (Kind.ConstrainsExcluded candidate aux v)
  outcome st (ConstrainsParent parent aux v) = adds_clause st (Kind.ConstrainsParent parent aux v)
  outcome st (Lock locked other) = adds_clause st (Kind.Lock locked other)
  outcome st (Exclude v reason) = adds_clause st (Kind.Excluded v reason)
  outcome st (AnyOf selected other) = adds_clause st (Kind.AnyOf selected other)
  outcome st (Learnt ls) = adds_clause (with_learnt st ls) (Kind.Learnt (length st.learnt))
  outcome st (Assign v value clause level) = record {
    reply = assign_reply (values st v) value;
    store = record st {
      trail = assigned (values st v) st.trail
          (record { decision = record { variable = v; value = value; derived_from = clause }; level = level });
    };
  }
  outcome st UndoLast = record { reply = Undone (undone st.trail); store = cut_back st (without_newest st.trail) }
  outcome st (UndoUntil level) = record { reply = Undone None; store = cut_back st (entries_until level st.trail) }
  outcome st Unpropagated = hands_next st (slice_get st.trail st.place)
  outcome st (Rewatch c from to) = record { reply = Done; store = with_rewatched st c from to }
  outcome st (Watchers l) = record { reply = WatchersAre (st.watchers l); store = st }
  -- a Saturate has no one outcome: Saturates tells which it may have, and nobody reads this
  outcome st (Saturate level) = record { reply = Done; store = st }
  outcome st Decide = record { reply = decision (falsified_clause st) (picked st); store = st }
  outcome st (Disjunction ls condition) = record {
    reply = DisjunctionIs (length st.disjunctions);
    store = with_disjunction st ls condition;
  }
  outcome st (AtMostOnce name v) =
      if is_tracked nat_eq (st.trackers name) v then record { reply = TrackedAs false 0; store = st }
      else record { reply = TrackedAs true (length (tracking st name v)); store = with_tracked st name v }
  outcome st (Bump name amount) = record { reply = Done; store = with_bumped st name amount }
  outcome st (Decay numerator denominator) = record { reply = Done; store = with_decayed st numerator denominator }
  outcome st (Standard standard) = record { reply = Done; store = st }
