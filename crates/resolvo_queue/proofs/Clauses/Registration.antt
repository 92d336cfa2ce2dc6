-- A queue after a registration, accepted or refused, and after clauses became hot.
use Rattle.std.proofs.Common.{◌≡◌, ℕ, zero, suc, ◌+◌, ◌-◌, ◌<◌, ◌^◌, Bool, true, false, ◌||◌, ◌⊎◌, inl, inr, List}
use Rattle.std.proofs.Common.{[], ◌∷◌, ◌++◌, map, length, Option, None, Some, slice_get, sym, ap, refl, ◌∙◌, subst}
use Rattle.std.proofs.Common.{arith, length-append}
use Rattle.std.specs.Prelude.{All, IfSome, IsTrue, ◌↔◌, ◌≤◌}
use Rattle.std.proofs.lemmas.List.{map-append}
use Rattle.std.proofs.lemmas.List.Elements.{All-cons, All-nil, All-push, All-weaker}
use Rattle.std.proofs.lemmas.Option.{slice_get_within}
use Rattle.resolvo_queue.proofs.Words.{AreCold, clause_literals, clause_of, counts, HasParts, IsAsBefore, IsWellFormed}
use Rattle.resolvo_queue.proofs.Words.{KeepsQueued, list_any, list_at, Lit, literals_in, names_at, Position, Queue}
use Rattle.resolvo_queue.proofs.Words.{Queued, References, Registers, RequiresClause, SameValues, Stands, StandsOn}
use Rattle.resolvo_queue.proofs.Words.{FoundByAll, HasCondition, IsConditionOf, KeepsItems, TrackedClause, Tracking}
use Rattle.resolvo_queue.proofs.Words.{Values, values_of, variable_of}
use Rattle.resolvo_queue.specs.References.{rows_in}
use Rattle.resolvo_queue.proofs.Clauses.Counts.{counts_new}
use Rattle.resolvo_queue.proofs.Clauses.Entries.{earlier_or_last}
use Rattle.resolvo_queue.proofs.Clauses.Order.{refused_in_order, registers_in_order}
use Rattle.resolvo_queue.proofs.Syncs.Queued.{grows_none}
use Rattle.resolvo_queue.proofs.Syncs.NewClause.{registered_synced}
use Rattle.resolvo_queue.proofs.Syncs.Same.{listed_gained, rows_stay, synced_same}
use Rattle.resolvo_queue.proofs.Lists.{differ, le_or_lt}

-- ---- names

names_before : {N : Type 0} (names : List (List N)) (own : List N) (n : ℕ) → n < length names →
    names_at (names ++ own ∷ []) n ≡ names_at names n
names_before [] own n lt = absurd (omega (arith, lt))
names_before (x ∷ xs) own zero lt = refl
names_before (x ∷ xs) own (suc n) lt = names_before xs own n (omega (arith, lt))

names_last : {N : Type 0} (names : List (List N)) (own : List N) → names_at (names ++ own ∷ []) (length names) ≡ own
names_last [] own = refl
names_last (x ∷ xs) own = names_last xs own

-- none is hot
none_hot : {N : Type 0} (hot : N → Bool) (names : List N) → list_any hot names ≡ false → All (λ m. hot m ≡ false) names
none_hot hot [] h = All-nil (λ m. hot m ≡ false)
none_hot hot (x ∷ xs) h = go (hot x) refl h (none_hot hot xs)
  where
    go : (b : Bool) → hot x ≡ b → (b || list_any hot xs) ≡ false →
        (list_any hot xs ≡ false → All (λ m. hot m ≡ false) xs) → All (λ m. hot m ≡ false) (x ∷ xs)
    go true e f more = cc
    go false e f more = All-cons (λ m. hot m ≡ false) x xs e (more f)

-- ---- a condition

-- found by a variable, it still is
condition_stays : (old now : List (List ℕ)) → KeepsItems old now → (v : ℕ) (o : Option ℕ) →
    IsConditionOf (list_at old v) o → IsConditionOf (list_at now v) o
condition_stays old now kept v None of = of
condition_stays old now kept v (Some d) of = kept v d of

-- ---- a clause that is registered

pub not_full : (b : Bool) (n m : ℕ) → b ≡ false → (IsTrue b ↔ (2 ^ 32 - 1 ≤ n)) → n ≡ m → m < 2 ^ 32 - 1
not_full b n m e full same = elim (le_or_lt (2 ^ 32 - 1) m) [
  | inl le ↦ (let bad : b ≡ true = full.1 (subst (λ k. 2 ^ 32 - 1 ≤ k) (sym same) le) in absurd (differ (sym bad ∙ e)))
  | inr lt ↦ lt
]

-- the clauses that contracts see
pub registered_whole : (clause : RequiresClause) (is_hot : Bool) (literals : List Lit) (old now : Tracking) →
    Registers clause is_hot literals old now → map clause_of now.clauses ≡ map clause_of old.clauses ++ clause ∷ []
registered_whole clause is_hot literals old now r = ap (map clause_of) r.clauses ∙
    (map-append clause_of old.clauses (r.new ∷ []) ∙ ap (λ c. map clause_of old.clauses ++ c ∷ []) r.is)

module _ {N H : Type 0} (has : H → N → Bool) (q q' : Queue N H) (clause : RequiresClause) (is_hot : Bool)
    (literals : List Lit) (its_names : List N)
    (kept : IsWellFormed has q) (registers : Registers clause is_hot literals q.inside q'.inside)
    (woken : q'.woken ≡ q.woken) where
  abbrev cs : List TrackedClause
  cs = q.inside.clauses

  abbrev new : TrackedClause
  new = registers.new

  pub kept_registered : length q.inside.clauses < 2 ^ 32 - 1 → q'.names ≡ q.names ++ its_names ∷ [] →
      SameValues (has q.hot) (has q'.hot) → is_hot ≡ list_any (has q.hot) its_names → IsWellFormed has q'
  kept_registered few names hot is = record {
    order = registers_in_order clause is_hot literals q.inside q'.inside few kept.order registers;
    names = (
        ap length names ∙ (length-append q.names (its_names ∷ []) ∙ (ap (λ n. n + 1) kept.names
        ∙ (sym (length-append cs (new ∷ [])) ∙ ap length (sym registers.clauses)))));
    woken = subst (λ (x : ℕ × ℕ). x.0 ≤ x.1)
        (λ i. (sym woken i, sym (ap length registers.clauses ∙ length-append cs (new ∷ [])) i))
        (let le = kept.woken in omega (arith, le));
    cold = λ n c e cool. go n c cool
        (earlier_or_last cs new n c (subst (λ l. slice_get l n ≡ Some c) registers.clauses e));
  }
    where
      same_hot : (names : List N) → All (λ m. has q.hot m ≡ false) names → All (λ m. has q'.hot m ≡ false) names
      same_hot names a = All-weaker (λ m. has q.hot m ≡ false) (λ m. has q'.hot m ≡ false) (λ m h. hot m ∙ h) names a

      go : (n : ℕ) (c : TrackedClause) → c.is_hot ≡ false →
          ((slice_get cs n ≡ Some c) ⊎ ((c ≡ new) × (n ≡ length cs))) →
          All (λ m. has q'.hot m ≡ false) (names_at q'.names n)
      go n c cool (inl was) =
          let within : n < length q.names = subst (λ k. n < k) (sym kept.names) (slice_get_within cs n c was) in
          subst (All (λ m. has q'.hot m ≡ false))
          (sym (ap (λ l. names_at l n) names ∙ names_before q.names its_names n within))
          (same_hot (names_at q.names n) (kept.cold n c was cool))
      go n c cool (inr own) =
          let at : names_at q'.names n ≡ its_names = ap (λ l. names_at l n) names ∙
          (ap (names_at (q.names ++ its_names ∷ [])) (own.1 ∙ sym kept.names) ∙ names_last q.names its_names) in
          let cold : list_any (has q.hot) its_names ≡ false =
          sym is ∙ (sym registers.hot ∙ (ap (λ (x : TrackedClause). x.is_hot) (sym own.0) ∙ cool)) in
          subst (All (λ m. has q'.hot m ≡ false)) (sym at) (same_hot its_names (none_hot (has q.hot) its_names cold))

  module _ {S A : Type 0} (refs : References N S A) (stands : StandsOn refs q) where
    pub stands_registered : q'.clauses ≡ q.clauses ++ clause ∷ [] → q'.trail ≡ q.trail →
        q'.must_start_anew ≡ q.must_start_anew →
        literals ≡ literals_in refs clause.condition → HasParts refs clause → StandsOn refs q'
    stands_registered clauses trail anew condition parts = record {
      clauses = clauses ∙ (ap (λ l. l ++ clause ∷ []) stands.clauses ∙
          (ap (λ c. map clause_of cs ++ c ∷ []) (sym registers.is)
          ∙ (sym (map-append clause_of cs (new ∷ [])) ∙ ap (map clause_of) (sym registers.clauses))));
      parts = subst (All (HasParts refs)) (sym clauses) (All-push (HasParts refs) q.clauses clause stands.parts parts);
      conditions = λ n c e l s.
          find n c l s (earlier_or_last cs new n c (subst (λ xs. slice_get xs n ≡ Some c) registers.clauses e));
      listed = listed_gained refs.lists q.inside q'.inside registers.gains stands.listed;
      synced = λ accepted. again (stands.synced (sym anew ∙ accepted));
    }
      where
        -- its condition is found by each of its variables, since it came to them, or an earlier clause has it
        new_found : (l : Lit) (o : Option ℕ) → clause.condition ≡ o → Stands l (literals_in refs o) →
            IsConditionOf (list_at q'.inside.conditions (variable_of l)) o
        new_found l None is s = elim s [ ]
        new_found l (Some d) is s = elim (subst (λ o. IfSome o (λ i.
            FoundByAll i literals q'.inside.conditions ⊎ HasCondition cs i)) is registers.conditions) [
              | inl found ↦ found l (subst (Stands l) (sym (condition ∙ ap (literals_in refs) is)) s)
              | inr had ↦
                  let of = stands.conditions had.0 had.1 had.2 l
                  (subst (λ o. Stands l (literals_in refs o)) (sym had.3) s) in
                  registers.gains.conditions (variable_of l) d
                  (subst (IsConditionOf (list_at q.inside.conditions (variable_of l))) had.3 of)
            ]

        find : (n : ℕ) (c : TrackedClause) (l : Lit) → Stands l (clause_literals refs c) →
            ((slice_get cs n ≡ Some c) ⊎ ((c ≡ new) × (n ≡ length cs))) →
            IsConditionOf (list_at q'.inside.conditions (variable_of l)) c.condition
        find n c l s (inl was) = condition_stays q.inside.conditions q'.inside.conditions registers.gains.conditions
            (variable_of l) c.condition (stands.conditions n c was l s)
        find n c l s (inr own) =
            let is : c.condition ≡ clause.condition = ap (λ (x : TrackedClause). x.condition) own.0 ∙
            ap (λ (x : RequiresClause). x.condition) registers.is in
            subst (IsConditionOf (list_at q'.inside.conditions (variable_of l))) (sym is)
            (new_found l clause.condition refl (subst (λ o. Stands l (literals_in refs o)) is s))

        val : Values
        val = values_of q.trail

        own : new.position.number ≡ length cs
        own = ap (λ (p : Position). p.number) registers.position

        again : KeepsQueued cs (clause_literals refs) (rows_in refs) val
            (counts val q.woken q.inside.noted) q.inside.requirements q.inside.queued →
            KeepsQueued q'.inside.clauses (clause_literals refs) (rows_in refs) (values_of q'.trail)
            (counts (values_of q'.trail) q'.woken q'.inside.noted) q'.inside.requirements q'.inside.queued
        again old =
            subst (λ (x : (Values × ℕ × List ℕ) × (List TrackedClause × Queued)). KeepsQueued x.1.0
            (clause_literals refs) (rows_in refs) x.0.0 (counts x.0.0 x.0.1 x.0.2) q'.inside.requirements x.1.1) (λ i. (
              (ap values_of (sym trail) i, sym woken i, sym registers.gains.noted i),
              (sym registers.clauses i, sym registers.gains.queued i),
            )) (registered_synced cs (clause_literals refs) (rows_in refs) val (counts val q.woken q.inside.noted)
            q.inside.requirements q'.inside.requirements q.inside.queued new registers.gains.records.known
            (rows_stay (rows_in refs) q.inside.requirements q'.inside.requirements registers.gains.records)
            (counts_new val q.woken q.inside.noted cs new own kept.woken) old)

-- ---- a registration that is refused

module _ {N H : Type 0} (has : H → N → Bool) (q q' : Queue N H) (before : IsAsBefore q.inside q'.inside)
    (woken : q'.woken ≡ q.woken) where
  pub kept_refused : IsWellFormed has q → q'.names ≡ q.names → q'.hot ≡ q.hot → IsWellFormed has q'
  kept_refused kept names hot = record {
    order = refused_in_order q.inside q'.inside kept.order before;
    names = ap length names ∙ (kept.names ∙ ap length (sym before.clauses));
    woken = subst (λ (x : ℕ × List TrackedClause). x.0 ≤ length x.1) (λ i. (sym woken i, sym before.clauses i))
        kept.woken;
    cold = subst (λ cs. AreCold (has q'.hot) q'.names cs) (sym before.clauses)
        (subst (λ ns. AreCold (has q'.hot) ns q.inside.clauses) (sym names)
        (subst (λ h. AreCold (has h) q.names q.inside.clauses) (sym hot) kept.cold));
  }

  pub stands_refused : {S A : Type 0} (refs : References N S A) → StandsOn refs q → q'.clauses ≡ q.clauses →
      q'.trail ≡ q.trail → q'.must_start_anew ≡ q.must_start_anew → StandsOn refs q'
  stands_refused refs stands clauses trail anew = record {
    clauses = clauses ∙ (stands.clauses ∙ ap (map clause_of) (sym before.clauses));
    parts = subst (All (HasParts refs)) (sym clauses) stands.parts;
    conditions = λ n c e l s. condition_stays q.inside.conditions q'.inside.conditions before.gains.conditions
        (variable_of l) c.condition
        (stands.conditions n c (subst (λ xs. slice_get xs n ≡ Some c) before.clauses e) l s);
    listed = listed_gained refs.lists q.inside q'.inside before.gains stands.listed;
    synced = λ accepted. again (stands.synced (sym anew ∙ accepted));
  }
    where
      val : Values
      val = values_of q.trail

      again : KeepsQueued q.inside.clauses (clause_literals refs) (rows_in refs) val
          (counts val q.woken q.inside.noted) q.inside.requirements q.inside.queued →
          KeepsQueued q'.inside.clauses (clause_literals refs) (rows_in refs) (values_of q'.trail)
          (counts (values_of q'.trail) q'.woken q'.inside.noted) q'.inside.requirements q'.inside.queued
      again old = subst (λ (x : (Values × ℕ × List ℕ) × (List TrackedClause × Queued)). KeepsQueued x.1.0
          (clause_literals refs) (rows_in refs) x.0.0 (counts x.0.0 x.0.1 x.0.2) q'.inside.requirements x.1.1) (λ i. (
            (ap values_of (sym trail) i, sym woken i, sym before.gains.noted i),
            (sym before.clauses i, sym before.gains.queued i),
          ))
          (synced_same q.inside.clauses (clause_literals refs) (clause_literals refs) (λ n c e. refl) (rows_in refs)
          (rows_in refs) val (counts val q.woken q.inside.noted) (counts val q.woken q.inside.noted)
          q.inside.requirements q'.inside.requirements (λ p. ⊥) q.inside.queued q.inside.queued
          (λ n c e h. h) before.gains.records.known
          (rows_stay (rows_in refs) q.inside.requirements q'.inside.requirements before.gains.records)
          (grows_none (λ p. ⊥) q.inside.queued) old)
