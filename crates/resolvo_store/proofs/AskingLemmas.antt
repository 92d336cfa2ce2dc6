-- What a store's queue is asked is what the abstract store says. N are the names, S the solvables.
use Rattle.std.proofs.Common.{◌≡◌, ℕ, Bool, true, false, cond, List, [], ◌∷◌, length, map, Option, Some, None, refl}
use Rattle.std.proofs.Common.{sym, subst, ap, ◌∙◌}
use Rattle.std.specs.Prelude.{All, slice_get}
use Rattle.std.proofs.Math.Path.{fun_ext}
use Rattle.std.proofs.lemmas.Bool.{eqb-true}
use Rattle.std.proofs.lemmas.List.Elements.{All-head, All-tail}
use Rattle.clauses.specs.declared.disjunction.Disjunction.{Disjunction}
use Rattle.resolvo_store.proofs.Words.{Cache, CanWalk, condition_literals, is_some, IsConsistent, knows_requirement}
use Rattle.resolvo_store.proofs.Words.{lists_loaded, lists_of_loaded, lists_or_none, Lit, literals_in, lookup, Queue}
use Rattle.resolvo_store.proofs.Words.{References, references, Requirement, RequiresClause, Row, rows, rows_in}
use Rattle.resolvo_store.proofs.Words.{same_requirement, score_in, sets_of, Single, Store, stored_disjunctions}
use Rattle.resolvo_store.proofs.Words.{stored_in, StoredLiterals, Trail, Union, Universe, unwrap_or, Values, Vec}
use Rattle.resolvo_store.proofs.Words.{VersionSetId}
use Rattle.resolvo_store.proofs.ListLemmas.{items_of, disjunctions-kept, rows-kept}

-- requirements that are the same are one
same_is : (r s : Requirement) → same_requirement r s ≡ true → r ≡ s
same_is (Single v) (Single w) h = ap (λ n. Single (record { 0 = n })) (eqb-true v.0 w.0 h)
same_is (Union v) (Union w) h = ap (λ n. Union (record { 0 = n })) (eqb-true v.0 w.0 h)
same_is (Single v) (Union w) h = (let no : false ≡ true = h in cc)
same_is (Union v) (Single w) h = (let no : false ≡ true = h in cc)

-- an entry has one list a version set
abbrev HasOneEach : {N S : Type 0} → Universe N S → Requirement × List (List ℕ) → Type 0
HasOneEach universe e = length e.1 ≡ length (sets_of universe e.0)

-- what a queue is asked: of these values, literals, rows, scores and clauses
abbrev pub Question : Type 1
Question = Values → (Option ℕ → List Lit) → (Requirement → List Row) → (VersionSetId → ℕ) → List RequiresClause → Type 0

module _ {N S A : Type 0} (universe : Universe N S) where
  -- so has each requirement that has an entry
  one_each : (loaded : List (Requirement × Vec (Vec ℕ A) A)) (r : Requirement) →
      All (HasOneEach universe) (lists_of_loaded loaded) → is_some (lookup (same_requirement r) loaded) ≡ true
      → length (lists_loaded loaded r) ≡ length (sets_of universe r)
  one_each [] r all found = (let no : false ≡ true = found in cc)
  one_each (e ∷ es) r all found =
      by_same (same_requirement r e.0) refl
      (one_each es r (All-tail (HasOneEach universe) (e.0, items_of e.1) (lists_of_loaded es) all)) found
    where
      by_same : (b : Bool) → same_requirement r e.0 ≡ b
          → (is_some (lookup (same_requirement r) es) ≡ true →
          length (lists_or_none (lookup (same_requirement r) es)) ≡ length (sets_of universe r))
          → is_some (cond b (Some e.1) (lookup (same_requirement r) es)) ≡ true
          → length (lists_or_none (cond b (Some e.1) (lookup (same_requirement r) es))) ≡ length (sets_of universe r)
      by_same true same later k = All-head (HasOneEach universe) (e.0, items_of e.1) (lists_of_loaded es) all
          ∙ ap (λ q. length (sets_of universe q)) (sym (same_is r e.0 same))
      by_same false same later k = later k

  -- the literals of conditions are those of the abstract store
  pub condition_seen : (ds : List (Disjunction A)) (learnt : List (List Lit)) (lists : Requirement →
      List (List ℕ)) (d : Option ℕ)
      → condition_literals (stored_in [] [] ds) d ≡ condition_literals
      (record { learnt = learnt; lists = lists; disjunctions = map (λ x. x.literals) (stored_disjunctions ds) }) d
  condition_seen ds learnt lists None = refl
  condition_seen ds learnt lists (Some i) = ap (λ ls. unwrap_or (slice_get ls i) []) (disjunctions-kept ds)

  -- the rows and the literals of conditions are those of the abstract store, whose clauses take their literals from
  -- these
  pub seen_by_store : (loaded : List (Requirement × Vec (Vec ℕ A) A)) (ds : List (Disjunction A))
      (learnt : List (List Lit)) (lists : Requirement → List (List ℕ)) {seen val : Values}
      (P : Values → (Option ℕ → List Lit) → (Requirement → List Row) → Type 0) → seen ≡ val
      → P seen (literals_in (references universe loaded ds)) (rows_in (references universe loaded ds))
      → P val (λ d. condition_literals (record {
        learnt = learnt;
        lists = lists;
        disjunctions =
            map (λ x. x.literals) (stored_disjunctions ds);
      }) d)
      (λ r. rows (sets_of universe r) (unwrap_or (lookup (same_requirement r) (lists_of_loaded loaded)) []))
  seen_by_store loaded ds learnt lists {seen} {val} P same h =
      let refs : References N S A = references universe loaded ds in
      subst (λ rows_of. P val (λ d. condition_literals kept d) rows_of) (rows-kept universe loaded)
      (subst (λ literals_of. P val literals_of (rows_in refs)) (fun_ext (condition_seen ds learnt lists))
      (subst (λ v. P v (literals_in refs) (rows_in refs)) same h))
    where
      kept : StoredLiterals
      kept = record { learnt = learnt; lists = lists; disjunctions = map (λ x. x.literals) (stored_disjunctions ds) }

  -- so what it answers is true of the abstract store
  pub asked_as_store : (loaded : List (Requirement × Vec (Vec ℕ A) A)) (ds : List (Disjunction A))
      (learnt : List (List Lit)) (lists : Requirement → List (List ℕ))
      {told : Universe N S} {shown : List (Requirement × Vec (Vec ℕ A) A)} {seen val : Values} {given scores : N →
      ℕ} {asked registered : List RequiresClause} (P : Question)
      → told ≡ universe → shown ≡ loaded → seen ≡ val → given ≡ scores → asked ≡ registered
      → P seen (literals_in (references told shown ds)) (rows_in (references told shown ds))
      (score_in (references told shown ds) given) asked
      → P val (λ d. condition_literals (record {
        learnt = learnt;
        lists = lists;
        disjunctions =
            map (λ x. x.literals) (stored_disjunctions ds);
      }) d)
      (λ r. rows (sets_of universe r) (unwrap_or (lookup (same_requirement r) (lists_of_loaded loaded)) []))
      (λ v. scores (universe.set_name v)) registered
  asked_as_store loaded ds learnt lists {told = told} {shown = shown} {seen = seen} {val = val} {given =
      given} {scores = scores} {asked = asked} {registered = registered} P same_universe same_lists same_values
      same_scores same_clauses h =
      let refs : References N S A = references universe loaded ds in
      seen_by_store loaded ds learnt lists {seen = seen} {val =
      val} (λ v literals_of rows_of. P v literals_of rows_of (λ x. scores (universe.set_name x)) registered)
      same_values
      (subst (λ to_scores. P seen (literals_in refs) (rows_in refs) (score_in refs to_scores) registered) same_scores
      (subst (λ cs. P seen (literals_in refs) (rows_in refs) (score_in refs given) cs) same_clauses
      (subst (λ ls. let rs = references universe ls ds in
      P seen (literals_in rs) (rows_in rs) (score_in rs given) asked) same_lists
      (subst (λ u. let rs = references u shown ds in
      P seen (literals_in rs) (rows_in rs) (score_in rs given) asked) same_universe h))))

  -- and what is true of the abstract store is what it asks
  pub asked_by_store : (loaded : List (Requirement × Vec (Vec ℕ A) A)) (ds : List (Disjunction A))
      (learnt : List (List Lit)) (lists : Requirement → List (List ℕ))
      {told : Universe N S} {shown : List (Requirement × Vec (Vec ℕ A) A)} {seen val : Values} {given scores : N →
      ℕ} {asked registered : List RequiresClause} (P : Question)
      → told ≡ universe → shown ≡ loaded → seen ≡ val → given ≡ scores → asked ≡ registered
      → P val (λ d. condition_literals (record {
        learnt = learnt;
        lists = lists;
        disjunctions =
            map (λ x. x.literals) (stored_disjunctions ds);
      }) d)
      (λ r. rows (sets_of universe r) (unwrap_or (lookup (same_requirement r) (lists_of_loaded loaded)) []))
      (λ v. scores (universe.set_name v)) registered
      → P seen (literals_in (references told shown ds)) (rows_in (references told shown ds))
      (score_in (references told shown ds) given) asked
  asked_by_store loaded ds learnt lists {told = told} {shown = shown} {seen = seen} {val = val} {given =
      given} {scores = scores} {asked = asked} {registered = registered} P same_universe same_lists same_values
      same_scores same_clauses =
      let refs : References N S A = references told shown ds in
      asked_as_store loaded ds learnt lists {told = told} {shown = shown} {seen = seen} {val = val} {given =
      given} {scores = scores} {asked = asked} {registered = registered} (λ v literals_of rows_of score_of cs.
      P v literals_of rows_of score_of cs → P seen (literals_in refs) (rows_in refs) (score_in refs given) asked)
      same_universe same_lists same_values same_scores same_clauses (λ x. x)

module _ {D N S A H Q : Type 0} {has : Q → N → Bool} {st : Store N S} {loaded : List (Requirement × Vec (Vec ℕ A) A)}
    {disjunctions : List (Disjunction A)}
    {cache : Cache D N S A H} {queue : Queue N Q} {trail : Trail}
    (is : IsConsistent has st loaded disjunctions cache queue trail)
    (requires : st.requires ≡ queue.clauses) (kept : st.loaded ≡ lists_of_loaded loaded) where
  -- the rows of each registered clause can be walked
  pub can_walk : All (CanWalk (references st.provider.universe loaded disjunctions)) queue.clauses
  can_walk = λ k d within. (let parts = is.may_decide.stands.parts k d within in record {
    known = known k d within;
    entry = parts.lists;
    one_a_set = one_each st.provider.universe loaded _ entries parts.lists;
    few = is.few _;
  })
    where
      known : All (λ c. knows_requirement st.provider.universe c.requirement ≡ true) queue.clauses
      known = subst (λ cs. All (λ c. knows_requirement st.provider.universe c.requirement ≡ true) cs) requires is.known

      entries : All (HasOneEach st.provider.universe) (lists_of_loaded loaded)
      entries = subst (λ es. All (HasOneEach st.provider.universe) es) kept
          (λ k d within. (is.sound.loaded k d within).one_a_set)
