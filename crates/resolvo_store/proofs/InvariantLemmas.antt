-- What a store keeps stays in order: what each call on a part of it leaves.
use Rattle.std.proofs.Common.{[], ◌≡◌, ◌≢◌, ℕ, ◌<◌, ◌≤◌, ◌+◌, ◌-◌, ◌*◌, ◌/◌, ◌^◌, min, cond, true, not, List, ◌∷◌}
use Rattle.std.proofs.Common.{◌++◌, length, map, Option, IsSome, Result, Ok, Err, refl, sym, subst}
use Rattle.std.proofs.Common.{ap, ◌∙◌, inl, inr}
use Rattle.std.specs.Prelude.{Bool, false, nat_eq}
use Rattle.std.proofs.Math.Nat.{zero-mul, zero-div}
use Rattle.std.proofs.lemmas.List.{map-append}
use Rattle.std.proofs.lemmas.List.Elements.{All-push}
use Rattle.watch_map.specs.ClauseList.{with_clause as list_added, with_learnt as learnt_one}
use Rattle.watch_map.specs.ClauseList.{with_rewatched as list_rewatched}
use Rattle.clauses.specs.declared.disjunction.Disjunction.{Disjunction}
use Rattle.resolvo_queue.specs.Queue.{IsRegistered}
use Rattle.resolvo_queue.proofs.Clauses.Callers.{stands_with_disjunction}
use Rattle.resolvo_store.proofs.CandidateLists.{begins_origins, through-more}
use Rattle.resolvo_store.proofs.Words.{BeginsWith, CameThrough}
use Rattle.resolvo_store.proofs.Words.{AddFault, AddsEntry, bumped, Cache, can_rewatch, Clause, clause_literals}
use Rattle.resolvo_store.proofs.Words.{Clauses, decayed, decisions_of, Entry, first_watches, floor_taken, HasTrail}
use Rattle.resolvo_store.proofs.Words.{helper_for, IfSome, is_direct, is_helper_among, is_literal_in, is_tracked}
use Rattle.resolvo_store.proofs.Words.{IsConsistent, IsInStep, IsOneMore, IsSound, IsTrue, IsUnchanged, IsUpdate}
use Rattle.resolvo_store.proofs.Words.{knows_requirement, list_all, lists_of, Lit, MayDecide, names_known, nat_lt}
use Rattle.resolvo_store.proofs.Words.{OnErr, OnlyHotScore, OnOk, origins_with, pushed, Queue, References, references}
use Rattle.resolvo_store.proofs.Words.{Requirement, RequiresClause, SameClauses, SameSync, SameValues, sets_of}
use Rattle.resolvo_store.proofs.Words.{StandsOn, Store, stored_disjunctions, stored_of, Tracker, tracking, Trail}
use Rattle.resolvo_store.proofs.Words.{two_or_none, val, values, variable_of, VariableOrigin, Vec, with_forbidden}
use Rattle.resolvo_store.proofs.SyncedLemmas.{in_step-pushed, in_step-same, in_step-unchanged}
use Rattle.resolvo_store.proofs.SyncedLemmas.{in_step-registered, in_step-synced, in_step-refused}
use Rattle.resolvo_store.specs.Store.{watched_by}
use Rattle.at_most_once.specs.NameTrackers.{with_tracked as trackers_with}
use Rattle.resolvo_store.specs.Outcome.{with_clause, with_learnt}
use Rattle.resolvo_store.proofs.TrackedLaws.{IsSound-tracked}
use Rattle.resolvo_store.proofs.AddingLemmas.{both, failed}
use Rattle.resolvo_store.proofs.LearningLemmas.{learnt_watches}
use Rattle.resolvo_store.proofs.KnownLemmas.{IsLawful, known_direct, literals_below}
use Rattle.resolvo_store.proofs.SoundLaws.{IsSound-scored, IsSound-pushed, IsSound-added, IsSound-disjunction}
use Rattle.resolvo_store.proofs.SoundLaws.{IsSound-learnt, IsSound-requires, IsSound-rewatched}
use Rattle.resolvo_store.proofs.PartOutcomes.{either, added_or_same, list_of, with_list, plain_direct, tracked_parts}
use Rattle.clauses.specs.declared.clause.Clause.TheVariants as Kind

module _ {D N S A H Q : Type 0} {has : Q → N → Bool} {st : Store N S} {loaded : List (Requirement × Vec (Vec ℕ A) A)}
    {disjunctions : List (Disjunction A)}
    {cache : Cache D N S A H} {queue : Queue N Q} {trail : Trail}
    (is : IsConsistent has st loaded disjunctions cache queue trail) where
  -- a store of which no more is seen by its trail
  abbrev with_trail : Trail → Store N S
  with_trail t = record st { trail = t.entries; place = t.place }

  -- what the code's queue stands on
  abbrev seen : References N S A
  seen = references st.provider.universe loaded disjunctions

  abbrev Consistent : Trail → Type 0
  Consistent t = IsConsistent has (with_trail t) loaded disjunctions cache queue t

  -- another trail
  pub after_trail : (t : Trail) {new : Trail} → IsSound (with_trail t) → IsInStep queue t → new ≡ t → Consistent new
  after_trail t sound in_step same = subst Consistent (sym same) (record {
    few = is.few;
    known = is.known;
    sound = sound;
    through = is.through;
    may_decide = record {
      in_step = in_step;
      stands = is.may_decide.stands;
      named = is.may_decide.named;
      hot =
          is.may_decide.hot;
    };
  })

  -- after an assignment
  pub after_entry : (e : Entry) (new : Trail) (answer : Result Bool AddFault) →
      e.decision.variable < length st.origins → e.decision.derived_from < length st.clauses
      → (1 ≤ e.level) × (e.level < 2 ^ 31) → trail.entries ≡ st.trail → trail.place ≡ st.place →
      AddsEntry (val st.trail e.decision.variable) trail e answer new
      → Consistent new
  after_entry e new answer variable clause level entries place adds =
      let sound : IsSound (with_trail trail) = rw (entries, place) is.sound in
      elim (added_or_same (val st.trail e.decision.variable) trail new e answer adds) [
        | inl more ↦ after_trail (pushed trail e)
            (rw (entries, place) (IsSound-pushed st is.sound e more.0
            (record { variable = variable; clause = clause }) level)) (in_step-pushed trail e is.may_decide.in_step)
            more.1
        | inr same ↦ after_trail trail sound is.may_decide.in_step same
      ]

  -- after variables were asked for
  pub after_origins : {T E : Type 0} (more : List (VariableOrigin N S)) {os : List (VariableOrigin N S)}
      (result : Result T E) → BeginsWith st.origins more
      → IsSound (record st { origins = more }) → OnOk result (os ≡ more) → OnErr result (os ≡ st.origins)
      → IsConsistent has (record st { origins = os }) loaded disjunctions cache queue trail
  after_origins more {os} result begins longer ok err = elim (either result ok err) [
    | inl grown ↦ subst (λ vs. IsConsistent has (record st { origins = vs }) loaded disjunctions cache queue trail)
        (sym grown) (record {
          few = is.few;
          known = is.known;
          through = through-more begins is.through;
          may_decide = is.may_decide;
          sound = longer;
        })
    | inr same ↦ subst (λ vs. IsConsistent has (record st { origins = vs }) loaded disjunctions cache queue trail)
        (sym same) is
  ]

  -- the list of clauses of the store, and a store of which no more is seen by its list of clauses
  abbrev clauses_now : Clauses N
  clauses_now = list_of st

  abbrev with_clauses : Clauses N → Store N S
  with_clauses = with_list st

  -- after the list was asked to change
  after_change : {T E : Type 0} (more : Clauses N) {cs : Clauses N} (result : Result T E) → IsSound (with_clauses more)
      → OnOk result (cs ≡ more) → OnErr result (cs ≡ clauses_now) →
      IsConsistent has (with_clauses cs) loaded disjunctions cache queue trail
  after_change more {cs} result changed ok err = record {
    few = is.few;
    known = is.known;
    through = is.through;
    may_decide = is.may_decide;
    sound = elim (either result ok err) [
      | inl grown ↦ subst (λ ds. IsSound (with_clauses ds)) (sym grown) changed
      | inr same ↦ subst (λ ds. IsSound (with_clauses ds)) (sym same) is.sound
    ];
  }

  -- after a clause was to be added that its command names whole
  pub after_direct : {T E : Type 0} (c : Clause N) (watch : Option (List Lit)) {cs : Clauses N} (result : Result T E)
      → is_direct c ≡ true → names_known st.provider.universe (length st.origins) c ≡ true →
      watch ≡ first_watches (stored_of st) (values st) c
      → OnOk result (cs ≡ list_added clauses_now c watch) → OnErr result (cs ≡ clauses_now) →
      IsConsistent has (with_clauses cs) loaded disjunctions cache queue trail
  after_direct c watch result direct known watches ok err =
      after_change (list_added clauses_now c watch) result
      (subst (λ w. IsSound (with_clauses (list_added clauses_now c w))) (sym watches)
      (IsSound-added st is.sound c (known_direct st.provider.universe st.origins is.sound.origins_known c known)
      (plain_direct c direct))) ok err

  -- after one was to be learnt
  pub after_learnt : {T E : Type 0} (ls : List Lit) {cs : Clauses N} (result : Result T E) →
      list_all (λ l. nat_lt (variable_of l) (length st.origins)) ls ≡ true
      → OnOk result (cs ≡ learnt_one clauses_now ls) → OnErr result (cs ≡ clauses_now) →
      IsConsistent has (with_clauses cs) loaded disjunctions cache queue trail
  after_learnt ls result known ok err =
      after_change (learnt_one clauses_now ls) result
      (subst (λ w. IsSound (with_clause (with_learnt st ls) (Kind.Learnt (length st.learnt)) (two_or_none w)))
      (sym (learnt_watches st ls)) (IsSound-learnt st is.sound ls (literals_below (length st.origins) ls known)))
      ok err

  -- after a variable was to be tracked
  pub after_tracked : {T E : Type 0} (name : N) (v : ℕ) {os : List (VariableOrigin N S)} {cs : Clauses N} {ts : N →
      Tracker ℕ} (result : Result T E) → IsLawful st.provider
      → st.provider.universe.knows_name name ≡ true → v < length st.origins → is_helper_among st.origins v ≡ false →
      is_tracked nat_eq (st.trackers name) v ≡ false
      → OnOk result (os ≡ origins_with st.origins name (helper_for st name v)) →
      OnOk result (cs ≡ with_forbidden name clauses_now (tracking st name v))
      → OnOk result (ts ≡ trackers_with st.provider.same_name name v (helper_for st name v) st.trackers)
      → OnErr result (os ≡ st.origins) → OnErr result (cs ≡ clauses_now) → OnErr result (ts ≡ st.trackers)
      → IsConsistent has (record (with_clauses cs) { origins = os; trackers = ts }) loaded disjunctions cache queue
      trail
  after_tracked name v {os} {cs} {ts} (Ok x) lawful named known none new origins clauses trackers same_origins
      same_clauses same_trackers = record {
        few = is.few;
        known = is.known;
        through = subst (λ vs. CameThrough st.provider cache vs st.loaded) (sym origins)
            (through-more (begins_origins st.origins name (helper_for st name v)) is.through);
        may_decide = is.may_decide;
        sound = subst (λ s. IsSound s) (sym (tracked_parts st name v origins clauses trackers))
            (IsSound-tracked st is.sound lawful name v named known none new);
      }
  after_tracked name v {os} {cs} {ts} (Err e) lawful named known none new origins clauses trackers same_origins
      same_clauses same_trackers =
      subst (λ o. IsConsistent has (record (with_clauses cs) { origins = o; trackers = ts }) loaded disjunctions
      cache queue trail) (sym same_origins)
      (subst (λ c. IsConsistent has (record (with_clauses c) { trackers = ts }) loaded disjunctions cache queue
      trail) (sym same_clauses)
      (subst (λ t. IsConsistent has (record st { trackers = t }) loaded disjunctions cache queue trail)
      (sym same_trackers) is))

  -- after a disjunction was to be kept
  pub after_disjunction : {T E : Type 0} (ls : List Lit) (condition : ℕ) {ds : List (Disjunction A)}
      (result : Result T E)
      → st.disjunctions ≡ stored_disjunctions disjunctions →
      list_all (λ l. nat_lt (variable_of l) (length st.origins)) ls ≡ true → OnOk result (IsOneMore disjunctions ds)
      → OnOk result (stored_disjunctions ds ≡ stored_disjunctions disjunctions ++ record {
        literals = ls;
        condition =
            condition;
      } ∷ []) → OnErr result (ds ≡ disjunctions)
      → IsConsistent has (record st { disjunctions = stored_disjunctions ds }) loaded ds cache queue trail
  after_disjunction ls condition {ds} (Err e) kept known more ok same =
      subst (λ es. IsConsistent has (record st { disjunctions = stored_disjunctions es }) loaded es cache queue
      trail) (sym same) (rw (← kept) is)
  after_disjunction ls condition {ds} (Ok x) kept known more ok same = record {
    few = is.few;
    known = is.known;
    through = is.through;
    sound = subst (λ es. IsSound (record st { disjunctions = es }))
        (ap (λ es. es ++ record { literals = ls; condition = condition } ∷ []) kept ∙ sym ok)
        (IsSound-disjunction st is.sound ls condition (literals_below (length st.origins) ls known));
    may_decide = subst (λ es. MayDecide has st.scores (references st.provider.universe loaded es) queue trail)
        (sym more.grown) (record {
          in_step = is.may_decide.in_step;
          stands = stands_with_disjunction (references st.provider.universe loaded disjunctions) queue more.disjunction
              is.may_decide.stands;
          named = is.may_decide.named;
          hot = is.may_decide.hot;
        });
  }

  -- after a watch was to be moved
  pub after_rewatch : {T E : Type 0} (c : ℕ) (from to : Lit) {cs : Clauses N} (result : Result T E) →
      is_literal_in to (clause_literals st c) ≡ true
      → OnOk result (IsTrue (can_rewatch clauses_now c from to)) →
      OnOk result (cs ≡ list_rewatched clauses_now c from to) → OnErr result (cs ≡ clauses_now)
      → IsConsistent has (with_clauses cs) loaded disjunctions cache queue trail
  after_rewatch {T = T} {E = E} c from to {cs} (Ok x) has can ok err =
      let tests = both (is_literal_in from (watched_by st c)) (not (is_literal_in to (watched_by st c))) can in
      after_change {T = T} {E = E} (list_rewatched clauses_now c from to) {cs =
      cs} (Ok x) (IsSound-rewatched st is.sound c from to tests.0
      (failed (is_literal_in to (watched_by st c)) tests.1) has) ok err
  after_rewatch {T = T} {E = E} c from to {cs} (Err e) has can ok err =
      after_change {T = T} {E = E} clauses_now {cs = cs} (Err e) is.sound ok err

  -- a queue that is unchanged may be asked
  abbrev MayAskStill : Queue N Q → Type 0
  MayAskStill q = MayDecide has st.scores (references st.provider.universe loaded disjunctions) q trail

  may_ask_unchanged : {q : Queue N Q} → IsUnchanged queue q has → StandsOn seen q → MayAskStill q
  may_ask_unchanged {q} same stands = record {
    in_step = in_step-unchanged {has = has} trail same is.may_decide.in_step;
    stands = stands;
    named = same.clauses.names ∙ is.may_decide.named
        ∙ ap (map (λ c. map st.provider.universe.set_name (sets_of st.provider.universe c.requirement)))
        (sym same.clauses.clauses);
    hot = λ n cold. is.may_decide.hot n (sym (same.hot n) ∙ cold);
  }

  -- after the list and the queue were left as they were
  after_none : {cs : Clauses N} {q : Queue N Q} → cs ≡ clauses_now → st.requires ≡ queue.clauses →
      IsUnchanged queue q has → StandsOn seen q
      → IsConsistent has (record (with_clauses cs) { requires = q.clauses }) loaded disjunctions cache q trail
  after_none {cs} {q} same registered left stands =
      let requires : q.clauses ≡ st.requires = left.clauses.clauses ∙ sym registered in
      subst (λ ds. IsConsistent has (record (with_clauses ds) { requires = q.clauses }) loaded disjunctions cache q
      trail) (sym same)
      (subst (λ rs. IsConsistent has (record st { requires = rs }) loaded disjunctions cache q trail) (sym requires)
      (record {
        few = is.few;
        known = is.known;
        sound = is.sound;
        through = is.through;
        may_decide =
            may_ask_unchanged left stands;
      }))

  -- after a requires clause was to be added and registered
  pub after_registered : {T E : Type 0} (parent : ℕ) (disjunction : Option ℕ) (r : Requirement) (c : Clause N)
      (watch : Option (List Lit)) {cs : Clauses N} {q : Queue N Q}
      (result : Result T E) → knows_requirement st.provider.universe r ≡ true → parent < length st.origins →
      IsSome (lists_of st r) → IfSome disjunction (λ d. d < length st.disjunctions)
      → watch ≡ first_watches (stored_of st) (values st) c → c ≡ Kind.Requires parent disjunction r →
      st.requires ≡ queue.clauses
      → StandsOn seen q
      → OnOk result (cs ≡ list_added clauses_now c watch)
      → OnOk result (IsRegistered has (record {
        parent = parent;
        requirement = r;
        condition =
            disjunction;
        clause_id = length st.clauses;
      })
      (map st.provider.universe.set_name (sets_of st.provider.universe r)) queue q)
      → OnErr result (cs ≡ clauses_now) → OnErr result (IsUnchanged queue q has)
      → IsConsistent has (record (with_clauses cs) { requires = q.clauses }) loaded disjunctions cache q trail
  after_registered parent disjunction r c watch {cs} {q} (Ok x) known variable found kept watches kind requires
      stands added registered unadded unregistered =
      let one : RequiresClause = record {
        parent = parent;
        requirement = r;
        condition = disjunction;
        clause_id =
            length st.clauses;
      } in
      let more : List RequiresClause = st.requires ++ one ∷ [] in
      let names_in : List RequiresClause → List (List N) =
      map (λ d. map st.provider.universe.set_name (sets_of st.provider.universe d.requirement)) in
      let grown : q.clauses ≡ more = registered.clauses ∙ ap (λ ds. ds ++ one ∷ []) (sym requires) in
      let After : Clauses N → List RequiresClause → Type 0 =
      λ ds rs. IsConsistent has (record (with_clauses ds) { requires = rs }) loaded disjunctions cache q trail in
      subst (λ ds. After ds q.clauses) (sym added) (subst (After (list_added clauses_now c watch)) (sym grown)
      (subst (λ w. After (list_added clauses_now c w) more) (sym watches)
      (subst (λ d. After (list_added clauses_now d (first_watches (stored_of st) (values st) d)) more) (sym kind)
      (record {
        few = is.few;
        known = All-push (λ d. knows_requirement st.provider.universe d.requirement ≡ true) st.requires one is.known
            known;
        sound = IsSound-requires st is.sound parent disjunction r known variable found kept;
        through = is.through;
        may_decide = record {
          in_step = in_step-registered trail one (map st.provider.universe.set_name (sets_of st.provider.universe r))
              registered is.may_decide.in_step;
          stands = stands;
          named = registered.names ∙ ap (λ ns. ns ++ map st.provider.universe.set_name
              (sets_of st.provider.universe r) ∷ []) is.may_decide.named
              ∙ sym (map-append (λ d. map st.provider.universe.set_name (sets_of st.provider.universe d.requirement))
              queue.clauses (one ∷ [])) ∙ ap names_in (sym registered.clauses);
          hot = λ n cold. is.may_decide.hot n (sym (registered.hot n) ∙ cold);
        };
      }))))
  after_registered parent disjunction r c watch (Err e) known variable found kept watches kind requires stands added
      registered unadded unregistered =
      after_none unadded requires unregistered stands

  -- after the queue was brought up to date, or not, for which the floor was taken
  pub after_sync : {T E : Type 0} {q : Queue N Q} (result : Result T E) → st.requires ≡ queue.clauses →
      SameClauses queue q → SameValues (has queue.hot) (has q.hot)
      → StandsOn seen q → OnOk result (HasTrail (decisions_of trail.entries) q) →
      OnErr result (q.must_start_anew ≡ true)
      → IsConsistent has (record st { requires = q.clauses }) loaded disjunctions cache q (floor_taken trail)
  after_sync {T = T} {E = E} {q} result requires same hot stands ok err =
      subst (λ rs. IsConsistent has (record st { requires = rs }) loaded disjunctions cache q (floor_taken trail))
      (requires ∙ sym same.clauses) (record {
        few = is.few;
        known = is.known;
        sound = is.sound;
        through = is.through;
        may_decide = record {
          in_step = elim (either result ok err) [
            | inl synced ↦ in_step-synced trail synced
            | inr refused ↦
                in_step-refused trail refused
          ];
          stands = stands;
          named = same.names ∙ is.may_decide.named
              ∙ ap (map (λ c. map st.provider.universe.set_name (sets_of st.provider.universe c.requirement)))
              (sym same.clauses);
          hot = λ n cold. is.may_decide.hot n (sym (hot n) ∙ cold);
        };
      })

  -- after scores changed, by the names that the queue knows as hot
  pub after_scores : (scores : N → ℕ) {q : Queue N Q} → st.requires ≡ queue.clauses → SameClauses queue q →
      SameSync queue q
      → StandsOn seen q → OnlyHotScore has scores q
      → IsConsistent has (record st { scores = scores; requires = q.clauses }) loaded disjunctions cache q trail
  after_scores scores {q} requires same synced stands hot =
      subst (λ rs. IsConsistent has (record st { scores = scores; requires = rs }) loaded disjunctions cache q trail)
      (requires ∙ sym same.clauses)
      (record {
        few = is.few;
        known = is.known;
        sound = IsSound-scored st is.sound scores;
        through = is.through;
        may_decide = record {
          in_step = in_step-same trail synced is.may_decide.in_step;
          stands = stands;
          named = same.names ∙ is.may_decide.named
              ∙ ap (map (λ c. map st.provider.universe.set_name (sets_of st.provider.universe c.requirement)))
              (sym same.clauses);
          hot = hot;
        };
      })

  -- only hot names have scores, also after one was marked hot, and after its score was raised then
  pub hot_kept : (q : Queue N Q) → SameValues (has queue.hot) (has q.hot) → OnlyHotScore has st.scores q
  hot_kept q same n cold = is.may_decide.hot n (sym (same n) ∙ cold)

  pub hot_bumped : (same_name : N → N → Bool) (same : (a b : N) → same_name a b ≡ true →
      a ≡ b) (name : N) (amount : ℕ) (q : Queue N Q)
      → IsUpdate (has queue.hot) name true (has q.hot) → OnlyHotScore has (bumped same_name name amount st.scores) q
  hot_bumped same_name same name amount q marked n cold = by_name (same_name n name) refl
    where
      other : n ≢ name
      other e = (let hot : has q.hot n ≡ true = ap (has q.hot) e ∙ marked.0 in
          let no : true ≡ false = sym hot ∙ cold in cc)

      by_name : (b : Bool) → same_name n name ≡ b → cond b (min (st.scores n + amount) (2 ^ 64 - 1)) (st.scores n) ≡ 0
      by_name true e = absurd (other (same n name e))
      by_name false e = is.may_decide.hot n (sym (marked.1 n other) ∙ cold)

  -- after a score was to be raised
  pub after_bumped : {T E : Type 0} (same_name : N → N → Bool) (same : (a b : N) → same_name a b ≡ true →
      a ≡ b) (name : N) (amount : ℕ) {scores : N → ℕ} {q : Queue N Q}
      (result : Result T E) → st.requires ≡ queue.clauses → SameClauses queue q → SameSync queue q → StandsOn seen q
      → OnOk result (scores ≡ bumped same_name name amount st.scores) →
      OnOk result (IsUpdate (has queue.hot) name true (has q.hot))
      → OnErr result (scores ≡ st.scores) → OnErr result (SameValues (has queue.hot) (has q.hot))
      → IsConsistent has (record st { scores = scores; requires = q.clauses }) loaded disjunctions cache q trail
  after_bumped same_name same name amount {scores} {q} (Ok x) requires clauses synced stands raised hot left cold =
      after_scores scores requires clauses synced stands (subst (λ s. OnlyHotScore has s q) (sym raised)
      (hot_bumped same_name same name amount q hot))
  after_bumped same_name same name amount {scores} {q} (Err e) requires clauses synced stands raised hot left cold =
      after_scores scores requires clauses synced stands (subst (λ s. OnlyHotScore has s q) (sym left)
      (hot_kept q cold))

  -- a decay leaves 0 where it is
  pub hot_decayed : (numerator denominator : ℕ) → OnlyHotScore has (decayed numerator denominator st.scores) queue
  hot_decayed numerator denominator n cold =
      ap (λ s. s * numerator / denominator) (is.may_decide.hot n cold)
      ∙ ap (λ m. m / denominator) (zero-mul numerator) ∙ zero-div denominator

  -- after a decay
  pub after_decayed : (numerator denominator : ℕ) {scores : N → ℕ} → scores ≡ decayed numerator denominator st.scores
      → IsConsistent has (record st { scores = scores }) loaded disjunctions cache queue trail
  after_decayed numerator denominator same =
      subst (λ s. IsConsistent has (record st { scores = s }) loaded disjunctions cache queue trail) (sym same)
      (record {
        few = is.few;
        known = is.known;
        sound = IsSound-scored st is.sound (decayed numerator denominator st.scores);
        through = is.through;
        may_decide = record {
          in_step = is.may_decide.in_step;
          stands = is.may_decide.stands;
          named =
              is.may_decide.named;
          hot = hot_decayed numerator denominator;
        };
      })

  -- after the queue was asked
  pub after_question : {q : Queue N Q} → st.requires ≡ queue.clauses → IsUnchanged queue q has → StandsOn seen q
      → IsConsistent has (record st { requires = q.clauses }) loaded disjunctions cache q trail
  after_question {q} requires same stands =
      subst (λ rs. IsConsistent has (record st { requires = rs }) loaded disjunctions cache q trail) (requires
      ∙ sym same.clauses.clauses)
      (record {
        few = is.few;
        known = is.known;
        sound = is.sound;
        through = is.through;
        may_decide =
            may_ask_unchanged same stands;
      })
