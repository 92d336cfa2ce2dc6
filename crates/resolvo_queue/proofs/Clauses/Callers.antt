-- What a queue's clauses name stays there while other things come to it; and the values of a trail.
use Rattle.std.proofs.Common.{◌≡◌, ℕ, zero, suc, ◌+◌, ◌<◌, ◌≤◌, Bool, true, false, cond, eqb, List, []}
use Rattle.std.proofs.Common.{◌∷◌, ◌++◌, length, map, flat_map, Option, Some, None, is_some, slice_get}
use Rattle.std.proofs.Common.{sym, ap, ◌∙◌, subst, refl, arith, length-append, Vec, unwrap_or}
use Rattle.std.specs.Prelude.{All, Contains, IfSome, IsSome}
use Rattle.std.proofs.lemmas.List.Elements.{All-weaker}
use Rattle.resolvo_queue.proofs.Words.{candidates, clause_literals, condition_literals, counts, Disjunction, Entry}
use Rattle.resolvo_queue.proofs.Words.{HasAll, HasParts, IsListedWell, stored_in, known_at, Listed, lists_or_none}
use Rattle.resolvo_queue.proofs.Words.{loaded_rows, lookup, owed_in, owed_of, Queue, Record, record_of, References}
use Rattle.resolvo_queue.proofs.Words.{references, Requirement, rows, rows_at, same_requirement, sets_of, StandsOn}
use Rattle.resolvo_queue.proofs.Words.{TrackedClause, val, values_of, walk_of, walks_in, walks_of, with_entry}
use Rattle.resolvo_queue.specs.References.{rows_in}
use Rattle.resolvo_queue.specs.Parts.{rows_in as rows_of_record}
use Rattle.resolvo_queue.proofs.Picks.Registered.{all_tracked}
use Rattle.resolvo_queue.proofs.Clauses.Entries.{looked_up}
use Rattle.resolvo_queue.proofs.Rows.Listing.{candidate_has_lists}
use Rattle.resolvo_queue.proofs.Rows.Occurrences.{same_is}
use Rattle.resolvo_queue.proofs.Syncs.Queued.{grows_none}
use Rattle.resolvo_queue.proofs.Syncs.Same.{finds_same, synced_same}
use Rattle.resolvo_queue.proofs.Lists.{differ}

-- ---- walks

-- no requirement was walked that owed no walk
pub walks_within : (ts : List Record) (r : Requirement) → walks_in ts r ≤ owed_in ts r
walks_within ts r = go (record_of ts r)
  where
    go : (o : Option Record) → walks_of o ≤ owed_of o
    go None = omega arith
    go (Some t) = known (is_some t.walk)
      where
        known : (b : Bool) → t.walks ≤ t.walks + cond b 0 1
        known true = omega arith
        known false = omega arith

-- ---- one disjunction more

some_still : (o : Option ℕ) (m n : ℕ) → n ≡ m + 1 → IfSome o (λ d. d < m) → IfSome o (λ d. d < n)
some_still None m n e h = tt
some_still (Some d) m n e h = omega (arith, e, h)

got_still : {X Y : Type 0} (f : X → Y) (xs : List X) (x : X) (i : ℕ) → i < length xs →
    slice_get (map f (xs ++ x ∷ [])) i ≡ slice_get (map f xs) i
got_still f [] x i lt = absurd (omega (arith, lt))
got_still f (y ∷ ys) x zero lt = refl
got_still f (y ∷ ys) x (suc i) lt = got_still f ys x i (omega (arith, lt))

literals_still : {A : Type 0} (ds : List (Disjunction A)) (d : Disjunction A) (condition : Option ℕ) →
    IfSome condition (λ i. i < length ds) →
    condition_literals (stored_in [] [] (ds ++ d ∷ [])) condition ≡ condition_literals (stored_in [] [] ds) condition
literals_still ds d None h = refl
literals_still ds d (Some i) h = ap (λ o. unwrap_or o [])
    (got_still (λ disjunction. disjunction.literals.items) ds d i h)

pub stands_with_disjunction : {N S A H : Type 0} (refs : References N S A) (q : Queue N H) (d : Disjunction A) →
    StandsOn refs q → StandsOn (references refs.universe refs.lists (refs.disjunctions ++ d ∷ [])) q
stands_with_disjunction refs q d stands =
    let more = references refs.universe refs.lists (refs.disjunctions ++ d ∷ []) in
    let same : (n : ℕ) (c : TrackedClause) → slice_get q.inside.clauses n ≡ Some c →
    clause_literals more c ≡ clause_literals refs c = λ n c e. literals_still refs.disjunctions d c.condition
    (all_tracked (HasParts refs) q.inside.clauses
    (subst (All (HasParts refs)) stands.clauses stands.parts) n c e).disjunction in
    record {
      clauses = stands.clauses;
      parts = All-weaker (HasParts refs) (HasParts more) (λ c has. record {
        lists = has.lists;
        disjunction = some_still c.condition (length refs.disjunctions) (length (refs.disjunctions ++ d ∷ []))
            (length-append refs.disjunctions (d ∷ [])) has.disjunction;
      }) q.clauses stands.parts;
      conditions = finds_same q.inside.clauses (clause_literals refs)
          (clause_literals more) same q.inside.conditions stands.conditions;
      listed = stands.listed;
      synced = λ accepted. synced_same q.inside.clauses (clause_literals refs) (clause_literals more) same
          (rows_in refs) (rows_in more) (values_of q.trail) (counts (values_of q.trail) q.woken q.inside.noted)
          (counts (values_of q.trail) q.woken q.inside.noted) q.inside.requirements q.inside.requirements
          (λ p. ⊥) q.inside.queued q.inside.queued (λ n c e h. h) (λ k. refl) (λ k h. refl)
          (grows_none (λ p. ⊥) q.inside.queued) (stands.synced accepted);
    }

-- ---- lists of a requirement that had none

module _ {V : Type 0} (test : Requirement → Bool) where
  either : (b : Bool) (x y : V) (o p : Option V) → (IsSome o → IsSome p) → IsSome (cond b (Some x) o) →
      IsSome (cond b (Some y) p)
  either true x y o p f s = refl
  either false x y o p f s = f s

  -- what was found is still found beside one entry more
  some_found : (es : List (Requirement × V)) (r : Requirement) (v : V) → IsSome (lookup test es) →
      IsSome (lookup test (with_entry es r v))
  some_found [] r v h = cc
  some_found (e ∷ es) r v h = go (same_requirement r e.0) (some_found es r v)
    where
      go : (t : Bool) → (IsSome (lookup test es) → IsSome (lookup test (with_entry es r v))) →
          IsSome (lookup test (cond t ((e.0, v) ∷ es) (e ∷ with_entry es r v)))
      go true more = either (test e.0) e.1 v (lookup test es) (lookup test es) (λ s. s) h
      go false more = either (test e.0) e.1 e.1 (lookup test es) (lookup test (with_entry es r v)) more h

module _ {A : Type 0} (lists : List (Requirement × Vec (Vec ℕ A) A)) (r : Requirement) (new : Vec (Vec ℕ A) A)
    (none : lookup (same_requirement r) lists ≡ None) where
  -- what others find is the same
  found_same : (q : Requirement) → IsSome (lookup (same_requirement q) lists) →
      lookup (same_requirement q) (with_entry lists r new) ≡ lookup (same_requirement q) lists
  found_same q some = looked_up lists r new q ∙ go (same_requirement q r) refl
    where
      go : (b : Bool) → same_requirement q r ≡ b →
          cond b (Some new) (lookup (same_requirement q) lists) ≡ lookup (same_requirement q) lists
      go true e =
          let gone : lookup (same_requirement q) lists ≡ None =
          ap (λ x. lookup (same_requirement x) lists) (same_is q r e) ∙ none in
          let bad : is_some (lookup (same_requirement q) lists) ≡ false = ap is_some gone in
          absurd (differ (sym some ∙ bad))
      go false e = refl

  candidates_same : (q : Requirement) → IsSome (lookup (same_requirement q) lists) →
      candidates (with_entry lists r new) q ≡ candidates lists q
  candidates_same q some = ap (λ o. flat_map (λ l. l) (lists_or_none o)) (found_same q some)

  listed_still : (o : Listed) (ts : List Record) → IsListedWell lists o ts → IsListedWell (with_entry lists r new) o ts
  listed_still o ts w = record {
    entries = λ q e. some_found (same_requirement q) lists r new (w.entries q e);
    all = λ q e. subst (λ vs. HasAll q vs o) (sym (candidates_same q (w.entries q e))) (w.all q e);
    none_else = λ q v s. (let own = w.none_else q v s in
        subst (λ vs. Contains vs v) (sym (candidates_same q (candidate_has_lists lists q v own))) own);
    known = w.known;
  }

pub stands_with_lists : {N S A H : Type 0} (refs : References N S A) (q : Queue N H) (r : Requirement)
    (lists : Vec (Vec ℕ A) A) → lookup (same_requirement r) refs.lists ≡ None → StandsOn refs q →
    StandsOn (references refs.universe (with_entry refs.lists r lists) refs.disjunctions) q
stands_with_lists {N} {S} {A} refs q r lists none stands =
    let more = references refs.universe (with_entry refs.lists r lists) refs.disjunctions in
    record {
      clauses = stands.clauses;
      parts = All-weaker (HasParts refs) (HasParts more) (λ c has. record {
        lists = some_found (same_requirement c.requirement) refs.lists r lists has.lists;
        disjunction = has.disjunction;
      }) q.clauses stands.parts;
      conditions = stands.conditions;
      listed = listed_still refs.lists r lists none q.inside.occurrences q.inside.requirements stands.listed;
      synced = λ accepted. synced_same q.inside.clauses (clause_literals refs) (clause_literals more) (λ n c e. refl)
          (rows_in refs) (rows_in more) (values_of q.trail) (counts (values_of q.trail) q.woken q.inside.noted)
          (counts (values_of q.trail) q.woken q.inside.noted) q.inside.requirements q.inside.requirements
          (λ p. ⊥) q.inside.queued q.inside.queued (λ n c e h. h) (λ k. refl) rows_same
          (grows_none (λ p. ⊥) q.inside.queued) (stands.synced accepted);
    }
  where
    rows_same : (k : ℕ) → is_some (known_at q.inside.requirements k) ≡ true →
        rows_at (loaded_rows refs.universe (with_entry refs.lists r lists)) q.inside.requirements k ≡
        rows_at (loaded_rows refs.universe refs.lists) q.inside.requirements k
    rows_same k h = go (slice_get q.inside.requirements k) refl h
      where
        go : (o : Option Record) → slice_get q.inside.requirements k ≡ o → is_some (walk_of o) ≡ true →
            rows_of_record (loaded_rows refs.universe (with_entry refs.lists r lists)) o ≡
            rows_of_record (loaded_rows refs.universe refs.lists) o
        go None e s = refl
        go (Some t) e s = ap (λ o. rows (sets_of refs.universe t.requirement) (lists_or_none o))
            (found_same refs.lists r lists none t.requirement
            (stands.listed.entries t.requirement (stands.listed.known k t e s)))

-- ---- trails

-- the values of a trail's entries are those of its decisions
pub values_of_entries : (es : List Entry) (x : ℕ) → val es x ≡ values_of (map (λ e. e.decision) es) x
values_of_entries [] x = refl
values_of_entries (e ∷ es) x = ap (λ o. cond (eqb e.decision.variable x) (Some e.decision.value) o)
    (values_of_entries es x)
