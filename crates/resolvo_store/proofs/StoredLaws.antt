-- What is true of a store, but for what is tracked, stays true where it has more in it, or less.
use Rattle.std.proofs.Common.{[], ◌≡◌, ℕ, ◌+◌, ◌<◌, ◌≤◌, Bool, true, false, cond, List, ◌∷◌, ◌++◌, length}
use Rattle.std.proofs.Common.{length-append, map, Option, None, Some, IsSome, refl, arith, sym, ◌∙◌, ap, subst}
use Rattle.std.specs.Prelude.{◌-◌, min, take, slice_get, All}
use Rattle.std.proofs.lemmas.List.{length-set, map-append, append-nil}
use Rattle.std.proofs.lemmas.List.Elements.{All-nil, All-cons, All-push, All-take, All-append, All-weaker}
use Rattle.std.proofs.lemmas.Option.{slice_get_within}
use Rattle.std.proofs.lemmas.Map.Keys.{IsDistinct-push}
use Rattle.variables.proofs.VariableLemmas.{root-append}
use Rattle.variables.proofs.InterningLemmas.{variable-kept}
use Rattle.decisions.proofs.TrailLemmas.{IsTrail-push}
use Rattle.watch_map.proofs.ListCallerLaws.{watched_at, watching_within, exact_pushed, exact_rewatched}
use Rattle.resolvo_store.proofs.Words.{adds_clause, AreLiterals, assigned, Clause, clause_literals, cut_back}
use Rattle.resolvo_store.proofs.Words.{entries_until, Entry, first_watches, hands_next, HasLevel, helper_origin}
use Rattle.resolvo_store.proofs.Words.{HelperOrigin, IfSome, is_literal_in, is_some, IsAssigned, IsExact, IsKnownClause}
use Rattle.resolvo_store.proofs.Words.{IsLoaded, IsTrail, IsVariable, knows_helper, knows_requirement, learnt_literals}
use Rattle.resolvo_store.proofs.Words.{lists_of, Lit, literals_of, propagated, Requirement, requires_from}
use Rattle.resolvo_store.proofs.Words.{RequiresClause, rewatched, Solvable, started, Store, stored_of, Tracker}
use Rattle.resolvo_store.proofs.Words.{two_or_none, values, variable_of, variable_of_solvable, VariableOrigin}
use Rattle.resolvo_store.proofs.Words.{with_disjunction, with_registered, without_newest}
use Rattle.resolvo_store.specs.Store.{watched_by}
use Rattle.resolvo_store.specs.Outcome.{with_learnt, with_rewatched}
use Rattle.resolvo_store.specs.Sound.{IsRegistered}
use Rattle.resolvo_store.proofs.KnownLemmas.{IsKnownOrigin, variable_known, clause_kept}
use Rattle.resolvo_store.proofs.WatchLaws.{first_watches_own, theirs_grown, theirs_pushed}
use Rattle.resolvo_store.proofs.WatchLaws.{theirs_rewatched, found_before, asked_before, lists_before}
use Rattle.resolvo_store.proofs.WatchLaws.{literals_learnt, literals_listed, literals_asked}
use Rattle.resolvo_store.proofs.PartLaws.{slice_get-push_cases, same_requirement-equivalence, not_among}
use Rattle.resolvo_store.proofs.PartLaws.{found-push, requires_from-push, AreVariables}
use Rattle.resolvo_store.proofs.PartLaws.{All-entries_until, IsOnce-entries_until, IsOnce-take}
use Rattle.resolvo_store.proofs.StoredStores.{IsUnregistered, IsStored}
use Rattle.resolvo_store.specs.declared.helper_origin.HelperOrigin.TheVariants as Helps
use Rattle.clauses.specs.declared.clause.Clause.TheVariants as Kind

module _ {N S : Type 0} (st : Store N S) (sound : IsStored st) where
  -- more variables, and other trackers
  pub IsStored-tracking : (ts : N → Tracker ℕ) (os : List (VariableOrigin N S)) → length st.origins ≤ length os →
      AreVariables st.provider.same_solvable os
      → All (IsKnownOrigin st.provider.universe) os → IsStored (record st { origins = os; trackers = ts })
  IsStored-tracking ts os longer are known =
      let new : Store N S = record st { origins = os; trackers = ts } in
      let more : (v : ℕ) → IsVariable st v → IsVariable new v = λ v k. omega (arith, k, longer) in
      let still : (ls : List Lit) → AreLiterals st ls →
      AreLiterals new ls = λ ls all. All-weaker (λ l. IsVariable st (variable_of l)) (λ l.
      IsVariable new (variable_of l)) (λ l. more (variable_of l)) ls all in
      record {
        root_first = are.root_first;
        origins_known = known;
        one_variable_each = are.one_each;
        clauses_known = All-weaker (IsKnownClause st.provider.universe st.origins)
            (IsKnownClause st.provider.universe os)
            (clause_kept st.provider.universe st.origins os longer known) st.clauses sound.clauses_known;
        learnt_known = All-weaker (AreLiterals st) (AreLiterals new) still st.learnt sound.learnt_known;
        disjunctions_known = All-weaker (λ d. AreLiterals st d.literals) (λ d. AreLiterals new d.literals) (λ d k.
            still d.literals k) st.disjunctions sound.disjunctions_known;
        loaded_once = sound.loaded_once;
        loaded = All-weaker (IsLoaded st) (IsLoaded new) (λ e k. record {
          one_a_set = k.one_a_set;
          variables = All-weaker (All (IsVariable st)) (All (IsVariable new))
              (λ l all. All-weaker (IsVariable st) (IsVariable new) more l all) e.1 k.variables;
        }) st.loaded sound.loaded;
        registered = sound.registered;
        watched = sound.watched;
        own = sound.own;
        exact = sound.exact;
        clauses = All-weaker (IsRegistered st) (IsRegistered new) (λ c k.
            record { parent = more c.parent k.parent; loaded = k.loaded; condition = k.condition })
            st.requires sound.clauses;
        place = sound.place;
        trail = sound.trail;
        assigned = All-weaker (IsAssigned st) (IsAssigned new) (λ e k.
            record { variable = more e.decision.variable k.variable; clause = k.clause }) st.trail sound.assigned;
      }

  -- more variables
  pub IsStored-origins : (os : List (VariableOrigin N S)) → length st.origins ≤ length os →
      AreVariables st.provider.same_solvable os
      → All (IsKnownOrigin st.provider.universe) os → IsStored (record st { origins = os })
  IsStored-origins = IsStored-tracking st.trackers

  -- one loaded requirement more
  pub IsStored-loaded : (r : Requirement) (lists : List (List ℕ)) → lists_of st r ≡ None → IsLoaded st (r, lists)
      → IsStored (record st { loaded = st.loaded ++ (r, lists) ∷ [] })
  IsStored-loaded r lists fresh is =
      let new : Store N S = record st { loaded = st.loaded ++ (r, lists) ∷ [] } in
      let same : (e : Requirement × List (List ℕ)) → IsLoaded st e → IsLoaded new e =
      λ e k. record { one_a_set = k.one_a_set; variables = k.variables } in
      record {
        root_first = sound.root_first;
        origins_known = sound.origins_known;
        clauses_known = sound.clauses_known;
        learnt_known = sound.learnt_known;
        disjunctions_known = sound.disjunctions_known;
        one_variable_each = sound.one_variable_each;
        loaded_once = rw map-append (IsDistinct-push same_requirement-equivalence
            (map (λ e. e.0) st.loaded) r sound.loaded_once (not_among r st.loaded fresh));
        loaded = All-push (IsLoaded new) st.loaded (r, lists) (All-weaker (IsLoaded st)
            (IsLoaded new) same st.loaded sound.loaded) (same (r, lists) is);
        registered = sound.registered;
        watched = sound.watched;
        own = theirs_grown (literals_of (stored_of st)) (literals_of (stored_of new))
            (literals_listed (stored_of st) (stored_of new).lists (λ s l h. lists_before st.loaded (r, lists) s l h))
            st.clauses st.watches sound.own;
        exact = sound.exact;
        clauses = All-weaker (IsRegistered st) (IsRegistered new)
            (λ c k. record {
              parent = k.parent;
              loaded = found-push c.requirement st.loaded (r, lists) k.loaded;
              condition = k.condition;
            }) st.requires sound.clauses;
        place = sound.place;
        trail = sound.trail;
        assigned = All-weaker (IsAssigned st) (IsAssigned new) (λ e k. record {
          variable = k.variable;
          clause =
              k.clause;
        }) st.trail sound.assigned;
      }

  -- one disjunction more
  pub IsStored-disjunction : (ls : List Lit) (condition : ℕ) → AreLiterals st ls →
      IsStored (with_disjunction st ls condition)
  IsStored-disjunction ls condition known =
      let new : Store N S = with_disjunction st ls condition in
      let grown : List (List Lit) = map (λ d. d.literals) st.disjunctions ++ ls ∷ [] in
      record {
        root_first = sound.root_first;
        origins_known = sound.origins_known;
        clauses_known = sound.clauses_known;
        learnt_known = sound.learnt_known;
        disjunctions_known = All-push (λ d. AreLiterals st d.literals) st.disjunctions
            (record { literals = ls; condition = condition }) sound.disjunctions_known known;
        one_variable_each = sound.one_variable_each;
        loaded_once = sound.loaded_once;
        loaded = All-weaker (IsLoaded st) (IsLoaded new) (λ e k. record {
          one_a_set = k.one_a_set;
          variables =
              k.variables;
        }) st.loaded sound.loaded;
        registered = sound.registered;
        watched = sound.watched;
        own = theirs_grown (literals_of (stored_of st)) (literals_of (stored_of new))
            (λ c l h. subst (λ ds. is_literal_in l (literals_of (record (stored_of st) { disjunctions = ds }) c) ≡
            true) (sym (map-append (λ d. d.literals) st.disjunctions
            (record { literals = ls; condition = condition } ∷ [])))
            (literals_asked (stored_of st) grown (asked_before (stored_of st) (ls ∷ [])) c l h)) st.clauses
            st.watches sound.own;
        exact = sound.exact;
        clauses = All-weaker (IsRegistered st) (IsRegistered new) (λ d k.
            record { parent = k.parent; loaded = k.loaded; condition = longer d.condition k.condition })
            st.requires sound.clauses;
        place = sound.place;
        trail = sound.trail;
        assigned = All-weaker (IsAssigned st) (IsAssigned new) (λ e k. record {
          variable = k.variable;
          clause =
              k.clause;
        }) st.trail sound.assigned;
      }
    where
      longer : (o : Option ℕ) → IfSome o (λ d. d < length st.disjunctions) →
          IfSome o (λ d. d < length (st.disjunctions ++ record { literals = ls; condition = condition } ∷ []))
      longer None k = tt
      longer (Some d) k = omega (
        arith,
        k,
        length-append st.disjunctions
            (record { literals = ls; condition = condition } ∷ []),
      )

  -- scores are no part of what is stored
  pub IsStored-scored : (scores : N → ℕ) → IsStored (record st { scores = scores })
  IsStored-scored scores =
      let new : Store N S = record st { scores = scores } in
      record {
        root_first = sound.root_first;
        origins_known = sound.origins_known;
        clauses_known = sound.clauses_known;
        learnt_known = sound.learnt_known;
        disjunctions_known = sound.disjunctions_known;
        one_variable_each = sound.one_variable_each;
        loaded_once = sound.loaded_once;
        loaded = All-weaker (IsLoaded st) (IsLoaded new) (λ e k. record {
          one_a_set = k.one_a_set;
          variables =
              k.variables;
        }) st.loaded sound.loaded;
        registered = sound.registered;
        watched = sound.watched;
        own = sound.own;
        exact = sound.exact;
        clauses = All-weaker (IsRegistered st) (IsRegistered new) (λ d k.
            record { parent = k.parent; loaded = k.loaded; condition = k.condition }) st.requires sound.clauses;
        place = sound.place;
        trail = sound.trail;
        assigned = All-weaker (IsAssigned st) (IsAssigned new) (λ e k. record {
          variable = k.variable;
          clause =
              k.clause;
        }) st.trail sound.assigned;
      }

  -- the store with other learnt clauses
  abbrev with_learnt_lists : List (List Lit) → Store N S
  with_learnt_lists learnt = record st { learnt = learnt }

  -- one clause more, with what it watches: registered, if it is a requires clause; learnt clauses keep their literals
  pub IsStored-clause : (c : Clause N) (learnt : List (List Lit)) (more : List RequiresClause)
      → ((id : ℕ) (l : Lit) → is_literal_in l (learnt_literals (stored_of st) id) ≡ true →
      is_literal_in l (learnt_literals (stored_of (with_learnt_lists learnt)) id) ≡ true)
      → All (AreLiterals st) learnt → IsKnownClause st.provider.universe st.origins c →
      more ≡ requires_from (length st.clauses) (c ∷ []) → All (IsRegistered st) more
      → IsStored (adds_clause (record st { learnt = learnt; requires = st.requires ++ more }) c).store
  IsStored-clause c learnt more keeps literals known are all =
      let kept = stored_of (with_learnt_lists learnt) in
      let watch : List Lit = two_or_none (first_watches kept (values st) c) in
      let theirs = first_watches_own kept (values st) c in
      let new : Store N S = (adds_clause (record st { learnt = learnt; requires = st.requires ++ more }) c).store in
      let same : (d : RequiresClause) → IsRegistered st d →
      IsRegistered new d = λ d k. record { parent = k.parent; loaded = k.loaded; condition = k.condition } in
      record {
        root_first = sound.root_first;
        origins_known = sound.origins_known;
        clauses_known = All-push (IsKnownClause st.provider.universe st.origins) st.clauses c sound.clauses_known known;
        learnt_known = literals;
        disjunctions_known = sound.disjunctions_known;
        one_variable_each = sound.one_variable_each;
        loaded_once = sound.loaded_once;
        loaded = All-weaker (IsLoaded st) (IsLoaded new) (λ e k. record {
          one_a_set = k.one_a_set;
          variables =
              k.variables;
        }) st.loaded sound.loaded;
        registered = ap (λ rs. rs ++ more) sound.registered ∙ ap (λ rs. requires_from 0 st.clauses ++ rs) are ∙
            sym (requires_from-push 0 (length st.clauses) st.clauses c (omega arith));
        watched = length-append st.watches (watch ∷ []) ∙ ap (λ n. n + 1) sound.watched
            ∙ sym (length-append st.clauses (c ∷ []));
        own = theirs_pushed (literals_of kept) st.clauses st.watches c watch sound.watched theirs.own
            (theirs_grown (literals_of (stored_of st)) (literals_of kept)
            (literals_learnt (stored_of st) learnt keeps) st.clauses st.watches sound.own);
        exact = subst (λ n. IsExact (watched_at (st.watches ++ watch ∷ [])) (started n watch st.watchers)) sound.watched
            (exact_pushed st.watches st.watchers watch theirs.two sound.exact);
        clauses = All-append (IsRegistered new) st.requires more
            (All-weaker (IsRegistered st) (IsRegistered new) same st.requires sound.clauses)
            (All-weaker (IsRegistered st) (IsRegistered new) same more all);
        place = sound.place;
        trail = sound.trail;
        assigned = All-weaker (IsAssigned st) (IsAssigned new)
            (λ e k. record {
              variable = k.variable;
              clause =
                  omega (arith, k.clause, length-append st.clauses (c ∷ []));
            }) st.trail sound.assigned;
      }

  -- one that isn't
  IsStored-plain : (c : Clause N) (learnt : List (List Lit))
      → ((id : ℕ) (l : Lit) → is_literal_in l (learnt_literals (stored_of st) id) ≡ true →
      is_literal_in l (learnt_literals (stored_of (with_learnt_lists learnt)) id) ≡ true)
      → All (AreLiterals st) learnt → IsKnownClause st.provider.universe st.origins c → IsUnregistered c →
      IsStored (adds_clause (with_learnt_lists learnt) c).store
  IsStored-plain c learnt keeps literals known unregistered =
      subst (λ rs. IsStored (adds_clause (record st { learnt = learnt; requires = rs }) c).store)
      (append-nil st.requires)
      (IsStored-clause c learnt [] keeps literals known (sym (unregistered (length st.clauses)))
      (All-nil (IsRegistered st)))

  pub IsStored-added : (c : Clause N) → IsKnownClause st.provider.universe st.origins c → IsUnregistered c →
      IsStored (adds_clause st c).store
  IsStored-added c known unregistered = IsStored-plain c st.learnt (λ id l h. h) sound.learnt_known known unregistered

  pub IsStored-learnt : (ls : List Lit) → AreLiterals st ls →
      IsStored (adds_clause (with_learnt st ls) (Kind.Learnt (length st.learnt))).store
  IsStored-learnt ls known =
      IsStored-plain (Kind.Learnt (length st.learnt)) (st.learnt ++ ls ∷ [])
      (λ id l h. found_before st.learnt (ls ∷ []) id l h)
      (All-push (AreLiterals st) st.learnt ls sound.learnt_known known) tt (λ id. refl)

  -- one that is
  pub IsStored-requires : (parent : ℕ) (disjunction : Option ℕ) (r : Requirement) →
      knows_requirement st.provider.universe r ≡ true
      → IsVariable st parent → IsSome (lists_of st r) → IfSome disjunction (λ d. d < length st.disjunctions)
      → IsStored (adds_clause (with_registered st parent r disjunction) (Kind.Requires parent disjunction r)).store
  IsStored-requires parent disjunction r requirement known found kept =
      let one : RequiresClause = record {
        parent = parent;
        requirement = r;
        condition = disjunction;
        clause_id =
            length st.clauses;
      } in
      IsStored-clause (Kind.Requires parent disjunction r) st.learnt (one ∷ []) (λ id l h. h) sound.learnt_known
      (variable_known st.provider.universe st.origins sound.origins_known parent known, requirement) refl
      (All-cons (IsRegistered st) one [] (record { parent = known; loaded = found; condition = kept })
      (All-nil (IsRegistered st)))

  -- a watch moved
  pub IsStored-rewatched : (c : ℕ) (from to : Lit) → is_literal_in from (watched_by st c) ≡ true →
      is_literal_in to (watched_by st c) ≡ false
      → is_literal_in to (clause_literals st c) ≡ true → IsStored (with_rewatched st c from to)
  IsStored-rewatched c from to watches other has =
      let new : Store N S = with_rewatched st c from to in
      record {
        root_first = sound.root_first;
        origins_known = sound.origins_known;
        clauses_known = sound.clauses_known;
        learnt_known = sound.learnt_known;
        disjunctions_known = sound.disjunctions_known;
        one_variable_each = sound.one_variable_each;
        loaded_once = sound.loaded_once;
        loaded = All-weaker (IsLoaded st) (IsLoaded new) (λ e k. record {
          one_a_set = k.one_a_set;
          variables =
              k.variables;
        }) st.loaded sound.loaded;
        registered = sound.registered;
        watched = length-set st.watches c (rewatched from to (watched_by st c)) ∙ sound.watched;
        own = theirs_rewatched (literals_of (stored_of st)) st.clauses st.watches c from to
            (watching_within st.watches c from watches) has sound.own;
        exact = exact_rewatched st.watches st.watchers c from to watches other sound.exact;
        clauses = All-weaker (IsRegistered st) (IsRegistered new) (λ d k.
            record { parent = k.parent; loaded = k.loaded; condition = k.condition }) st.requires sound.clauses;
        place = sound.place;
        trail = sound.trail;
        assigned = All-weaker (IsAssigned st) (IsAssigned new) (λ e k. record {
          variable = k.variable;
          clause =
              k.clause;
        }) st.trail sound.assigned;
      }

  -- another trail, and a place within it
  pub IsStored-trail : (es : List Entry) (place : ℕ) → IsTrail es → All (IsAssigned st) es → place ≤ length es
      → IsStored (record st { trail = es; place = place })
  IsStored-trail es place trail all within =
      let new : Store N S = record st { trail = es; place = place } in
      record {
        root_first = sound.root_first;
        origins_known = sound.origins_known;
        clauses_known = sound.clauses_known;
        learnt_known = sound.learnt_known;
        disjunctions_known = sound.disjunctions_known;
        one_variable_each = sound.one_variable_each;
        loaded_once = sound.loaded_once;
        loaded = All-weaker (IsLoaded st) (IsLoaded new) (λ e k. record {
          one_a_set = k.one_a_set;
          variables =
              k.variables;
        }) st.loaded sound.loaded;
        registered = sound.registered;
        watched = sound.watched;
        own = sound.own;
        exact = sound.exact;
        clauses = All-weaker (IsRegistered st) (IsRegistered new) (λ c k.
            record { parent = k.parent; loaded = k.loaded; condition = k.condition }) st.requires sound.clauses;
        place = within;
        trail = trail;
        assigned = All-weaker (IsAssigned st) (IsAssigned new) (λ e k. record {
          variable = k.variable;
          clause =
              k.clause;
        }) es all;
      }

  -- one entry more
  pub IsStored-pushed : (e : Entry) → values st e.decision.variable ≡ None → IsAssigned st e → HasLevel e →
      IsStored (record st { trail = st.trail ++ e ∷ [] })
  IsStored-pushed e free is level =
      IsStored-trail (st.trail ++ e ∷ []) st.place (IsTrail-push st.trail e sound.trail free level)
      (All-push (IsAssigned st) st.trail e sound.assigned is)
      (omega (arith, sound.place, length-append st.trail (e ∷ [])))

  -- one entry more, or none where the variable has a value
  pub IsStored-assigned : (e : Entry) → IsAssigned st e → HasLevel e →
      IsStored (record st { trail = assigned (values st e.decision.variable) st.trail e })
  IsStored-assigned e is level = by_value (values st e.decision.variable) refl
    where
      by_value : (o : Option Bool) → values st e.decision.variable ≡ o →
          IsStored (record st { trail = assigned o st.trail e })
      by_value (Some known) h = sound
      by_value None h = IsStored-pushed e h is level

  -- fewer entries
  IsStored-cut_back : (kept : List Entry) → IsTrail kept → All (IsAssigned st) kept → IsStored (cut_back st kept)
  IsStored-cut_back kept trail all = IsStored-trail kept (min st.place (length kept)) trail all (omega arith)

  pub IsStored-entries_until : (l : ℕ) → IsStored (cut_back st (entries_until l st.trail))
  IsStored-entries_until l =
      IsStored-cut_back (entries_until l st.trail)
      (record {
        once = IsOnce-entries_until l st.trail sound.trail.once;
        levels =
            All-entries_until HasLevel l st.trail sound.trail.levels;
      })
      (All-entries_until (IsAssigned st) l st.trail sound.assigned)

  pub IsStored-without_newest : IsStored (cut_back st (without_newest st.trail))
  IsStored-without_newest =
      let n : ℕ = length st.trail - 1 in
      IsStored-cut_back (take n st.trail)
      (record {
        once = IsOnce-take n st.trail sound.trail.once;
        levels =
            All-take HasLevel n st.trail sound.trail.levels;
      })
      (All-take (IsAssigned st) n st.trail sound.assigned)

  -- one entry more was handed out, if there is one
  pub IsStored-hands_next : IsStored (hands_next st (slice_get st.trail st.place)).store
  IsStored-hands_next = by_entry (slice_get st.trail st.place) refl
    where
      by_entry : (o : Option Entry) → slice_get st.trail st.place ≡ o → IsStored (hands_next st o).store
      by_entry None h = sound
      by_entry (Some e) h =
          let within : st.place < length st.trail = slice_get_within st.trail st.place e h in
          IsStored-trail st.trail (st.place + 1) sound.trail sound.assigned (omega (arith, within))

  -- the same, as a tracker's trail tells it
  pub IsStored-propagated : (floor : ℕ) → let t =
      propagated (record { entries = st.trail; place = st.place; floor = floor }) in
      IsStored (record st { trail = t.entries; place = t.place })
  IsStored-propagated floor = by_entry (slice_get st.trail st.place) IsStored-hands_next
    where
      by_entry : (o : Option Entry) → IsStored (hands_next st o).store →
          IsStored (record st { place = cond (is_some o) (st.place + 1) st.place })
      by_entry None h = h
      by_entry (Some e) h = h

  -- one variable more that stands for no solvable, and other trackers
  pub IsStored-origin : (ts : N → Tracker ℕ) (o : VariableOrigin N S) →
      ((t : S) → ◌≡◌ {A = VariableOrigin N S} o (Solvable t) → ⊥) → IsKnownOrigin st.provider.universe o
      → IsStored (record st { origins = st.origins ++ o ∷ []; trackers = ts })
  IsStored-origin ts o none known =
      let same = st.provider.same_solvable in
      IsStored-tracking ts (st.origins ++ o ∷ []) (omega (arith, length-append st.origins (o ∷ []))) (record {
        root_first = root-append st.origins o sound.root_first;
        one_each = λ v t e.
            slice_get-push_cases (variable_of_solvable same (st.origins ++ o ∷ []) t ≡ Some v) st.origins o v
            (Solvable t) e
            (λ k. variable-kept same t o v st.origins (sound.one_variable_each v t k))
            (λ k l. absurd (none t l));
      })
      (All-push (IsKnownOrigin st.provider.universe) st.origins o sound.origins_known known)

  -- one helper variable more
  pub IsStored-helper : (origin : HelperOrigin N) → knows_helper st origin ≡ true →
      IsStored (record st { origins = st.origins ++ helper_origin origin ∷ [] })
  IsStored-helper origin known = IsStored-origin st.trackers (helper_origin origin) (no_solvable origin)
      (known_origin origin known)
    where
      no_solvable : (o : HelperOrigin N) (t : S) → ◌≡◌ {A = VariableOrigin N S} (helper_origin o) (Solvable t) → ⊥
      no_solvable (Helps.AtLeastOne n) t e = cc
      no_solvable (Helps.ConstrainsViolation v) t e = cc
      no_solvable (Helps.RequiresGate r) t e = cc

      known_origin : (o : HelperOrigin N) → knows_helper st o ≡ true →
          IsKnownOrigin st.provider.universe (helper_origin o)
      known_origin (Helps.AtLeastOne n) k = k
      known_origin (Helps.ConstrainsViolation v) k = k
      known_origin (Helps.RequiresGate r) k = k
