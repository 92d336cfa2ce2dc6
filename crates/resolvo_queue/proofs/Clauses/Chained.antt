-- The clauses under a condition: they are gone through from the newest back, and found when one more comes.
use Rattle.std.proofs.Common.{◌≡◌, ◌≢◌, ℕ, zero, suc, ◌+◌, ◌<◌, ◌≤◌, Bool, true, false, eqb, eqb-true, eq-eqb, ◌⊎◌, inl}
use Rattle.std.proofs.Common.{inr, List, [], ◌∷◌, ◌++◌, length, Option, Some, None, slice_get, sym, ap, refl, ◌∙◌}
use Rattle.std.proofs.Common.{subst}
use Rattle.std.proofs.Common.{arith, length-append}
use Rattle.std.specs.Prelude.{IfSome}
use Rattle.std.proofs.lemmas.Option.{slice_get_cases, slice_get_within}
use Rattle.resolvo_queue.proofs.Words.{AreChained, AreWokenUnder, FoundByAll, GrowsBy, HasCondition, IsNewestBelow}
use Rattle.resolvo_queue.proofs.Words.{IsOfClause, IsQueued, IsWoken, known_true, Lit, newest_at, Queued, Renews}
use Rattle.resolvo_queue.proofs.Words.{SameValues, TrackedClause, Values}
use Rattle.resolvo_queue.proofs.Clauses.Entries.{earlier_or_last}
use Rattle.resolvo_queue.proofs.Lists.{le_or_lt}
use Rattle.resolvo_queue.proofs.Syncs.Queued.{queued_stays}

-- ---- going through them

-- those under the condition from a number on are queued, and the one before it is the next
pub record IsGoneTo (clauses : List TrackedClause) (d : ℕ) (val : Values) (next : ℕ) (q : Queued) : Type 0 where
  pub woken : (n : ℕ) (c : TrackedClause) → slice_get clauses n ≡ Some c → c.condition ≡ Some d → next ≤ n →
      known_true (val c.parent) ≡ true → IsQueued q c
  pub within : (k : ℕ) → next ≡ k + 1 → k < length clauses
  pub own : (k : ℕ) → next ≡ k + 1 → (c : TrackedClause) → slice_get clauses k ≡ Some c → c.condition ≡ Some d

module _ (clauses : List TrackedClause) (newest : List ℕ) (chained : AreChained clauses newest) (d : ℕ)
    (val : Values) where
  pub walk_begins : (q : Queued) → IsGoneTo clauses d val (newest_at newest d) q
  walk_begins q = record {
    woken = λ n c at is from t. (let last = chained.last d in
        let lt : n < newest_at newest d = last.below n c at (slice_get_within clauses n c at) is in
        absurd (omega (arith, lt, from)));
    within = (let last = chained.last d in last.within);
    own = (let last = chained.last d in last.own);
  }

  module _ (next number : ℕ) (c : TrackedClause) (q : Queued) (is : next ≡ number + 1)
      (at : slice_get clauses number ≡ Some c) (gone : IsGoneTo clauses d val next q) where
    before : IsNewestBelow clauses number d c.earlier
    before = chained.earlier number c at d (gone.own number is c at)

    pub walk_falls : c.earlier < next
    walk_falls = go c.earlier refl
      where
        go : (m : ℕ) → c.earlier ≡ m → c.earlier < next
        go zero e = omega (arith, e, is)
        go (suc k) e =
            let one : c.earlier ≡ k + 1 = omega (arith, e) in
            let lt : k < number = before.within k one in omega (arith, one, lt, is)

    pub walk_steps : (q' : Queued) → GrowsBy (IsOfClause clauses) q q' → IsWoken clauses val number q' →
        IsGoneTo clauses d val c.earlier q'
    walk_steps q' grows this = record {
      woken = λ n e there under from t. go n e there under from t (le_or_lt next n);
      within = λ k e. (let lt : k < number = before.within k e in
          let inside : number < length clauses = slice_get_within clauses number c at in omega (arith, lt, inside));
      own = before.own;
    }
      where
        -- it is this one, since none lies between
        here : (n : ℕ) (e : TrackedClause) → slice_get clauses n ≡ Some e → e.condition ≡ Some d → c.earlier ≤ n →
            known_true (val e.parent) ≡ true → n < next → (number ≤ n) ⊎ (n < number) → IsQueued q' e
        here n e there under from t lt (inl le) =
            let same : n ≡ number = omega (arith, lt, le, is) in
            this e (ap (slice_get clauses) (sym same) ∙ there) t
        here n e there under from t lt (inr less) =
            let below : n < c.earlier = before.below n e there less under in absurd (omega (arith, below, from))

        go : (n : ℕ) (e : TrackedClause) → slice_get clauses n ≡ Some e → e.condition ≡ Some d → c.earlier ≤ n →
            known_true (val e.parent) ≡ true → (next ≤ n) ⊎ (n < next) → IsQueued q' e
        go n e there under from t (inl past) =
            queued_stays (IsOfClause clauses) q q' e grows (gone.woken n e there under past t)
        go n e there under from t (inr lt) = here n e there under from t lt (le_or_lt number n)

  pub walk_ends : (next : ℕ) (q : Queued) → next ≤ 0 → IsGoneTo clauses d val next q → AreWokenUnder clauses val d q
  walk_ends next q end gone n c at is t = gone.woken n c at is (omega (arith, end)) t

-- ---- one clause more

renewed : (old now : List ℕ) (next : ℕ) (o : Option ℕ) → Renews o next old now → (d : ℕ) →
    ((o ≡ Some d) × (newest_at now d ≡ next)) ⊎ ((o ≢ Some d) × (newest_at now d ≡ newest_at old d))
renewed old now next None same d = inr (λ e. (cc), same d)
renewed old now next (Some x) update d = go (eqb x d) refl
  where
    go : (b : Bool) → eqb x d ≡ b →
        ((Some x ≡ Some d) × (newest_at now d ≡ next)) ⊎ ((Some x ≢ Some d) × (newest_at now d ≡ newest_at old d))
    go true e =
        let same : x ≡ d = eqb-true x d e in
        inl (ap Some same, subst (λ y. newest_at now y ≡ next) same update.0)
    go false e = inr (
      λ s. (let same : x ≡ d = cc in let bad : eqb x d ≡ true = eq-eqb x d same in cc),
      update.1 d (λ h. (let bad : eqb x d ≡ true = eq-eqb x d (sym h) in cc)),
    )

module _ (cs cs' : List TrackedClause) (new : TrackedClause) (more : cs' ≡ cs ++ new ∷ []) where
  split : (n : ℕ) (c : TrackedClause) → slice_get cs' n ≡ Some c →
      (slice_get cs n ≡ Some c) ⊎ ((c ≡ new) × (n ≡ length cs))
  split n c at = earlier_or_last cs new n c (ap (λ l. slice_get l n) (sym more) ∙ at)

  was : (n : ℕ) (c : TrackedClause) → slice_get cs' n ≡ Some c → n < length cs → slice_get cs n ≡ Some c
  was n c at lt = elim (split n c at) [ inl h ↦ h | inr p ↦ absurd (omega (arith, lt, p.1)) ]

  longer : length cs' ≡ length cs + 1
  longer = ap length more ∙ length-append cs (new ∷ [])

  below_more : (end d next : ℕ) → end ≤ length cs → IsNewestBelow cs end d next → IsNewestBelow cs' end d next
  below_more end d next small old = record {
    below = λ n c at lt is. old.below n c (was n c at (omega (arith, lt, small))) lt is;
    within = old.within;
    own = λ k e c at. (let lt : k < end = old.within k e in old.own k e c (was k c at (omega (arith, lt, small))));
  }

  module _ (old now : List ℕ) (chained : AreChained cs old) where
    last_new : (d : ℕ) → new.condition ≡ Some d → IsNewestBelow cs' (length cs') d (length cs + 1)
    last_new d is = record {
      below = λ n c at lt same. omega (arith, lt, longer);
      within = λ k e. omega (arith, e, longer);
      own = λ k e c at. elim (split k c at) [
        | inl h ↦ (let lt : k < length cs = slice_get_within cs k c h in absurd (omega (arith, lt, e)))
        | inr p ↦ ap (λ (x : TrackedClause). x.condition) p.0 ∙ is
      ];
    }

    last_old : (d : ℕ) → new.condition ≢ Some d → IsNewestBelow cs' (length cs') d (newest_at old d)
    last_old d other =
        let last = chained.last d in
        record {
          below = λ n c at lt is. elim (split n c at) [
            | inl h ↦ last.below n c h (slice_get_within cs n c h) is
            | inr p ↦ absurd (other (ap (λ (x : TrackedClause). x.condition) (sym p.0) ∙ is))
          ];
          within = λ k e. (let lt : k < length cs = last.within k e in omega (arith, lt, longer));
          own = λ k e c at. last.own k e c (was k c at (last.within k e));
        }

    pub chained_more : Renews new.condition (length cs + 1) old now →
        IfSome new.condition (λ d. new.earlier ≡ newest_at old d) → AreChained cs' now
    chained_more renews links = record {
      last = λ d. elim (renewed old now (length cs + 1) new.condition renews d) [
        | inl p ↦ subst (IsNewestBelow cs' (length cs') d) (sym p.1) (last_new d p.0)
        | inr p ↦ subst (IsNewestBelow cs' (length cs') d) (sym p.1) (last_old d p.0)
      ];
      earlier = λ n c at d is. elim (split n c at) [
        | inl h ↦ below_more n d c.earlier (let lt : n < length cs = slice_get_within cs n c h in omega (arith, lt))
            (chained.earlier n c h d is)
        | inr p ↦ own_earlier n c d p is
      ];
    }
      where
        own_earlier : (n : ℕ) (c : TrackedClause) (d : ℕ) → (c ≡ new) × (n ≡ length cs) → c.condition ≡ Some d →
            IsNewestBelow cs' n d c.earlier
        own_earlier n c d p is =
            let condition : new.condition ≡ Some d = ap (λ (x : TrackedClause). x.condition) (sym p.0) ∙ is in
            let link : new.earlier ≡ newest_at old d =
            subst (λ o. IfSome o (λ i. new.earlier ≡ newest_at old i)) condition links in
            subst (λ m. IsNewestBelow cs' m d c.earlier) (sym p.1)
            (subst (IsNewestBelow cs' (length cs) d)
            (sym (ap (λ (x : TrackedClause). x.earlier) p.0 ∙ link))
            (below_more (length cs) d (newest_at old d) (omega arith) (chained.last d)))

-- ---- what stays

pub chained_same : (cs : List TrackedClause) (old now : List ℕ) → SameValues (newest_at old) (newest_at now) →
    AreChained cs old → AreChained cs now
chained_same cs old now same chained = record {
  last = λ d. subst (IsNewestBelow cs (length cs) d) (sym (same d)) (chained.last d);
  earlier = chained.earlier;
}

pub renews_after : (o : Option ℕ) (next : ℕ) (a b c : List ℕ) → SameValues (newest_at a) (newest_at b) →
    Renews o next b c → Renews o next a c
renews_after None next a b c same renews = λ d. renews d ∙ same d
renews_after (Some x) next a b c same renews = (renews.0, λ d other. renews.1 d other ∙ same d)

-- a condition without a clause came to its variables now; else a clause has it
pub found_or_has : (cs : List TrackedClause) (newest : List ℕ) → AreChained cs newest → (literals : List Lit)
    (lists : List (List ℕ)) (next : ℕ) (o : Option ℕ) → IfSome o (λ d. next ≡ newest_at newest d) →
    IfSome o (λ d. next ≡ 0 → FoundByAll d literals lists) →
    IfSome o (λ d. FoundByAll d literals lists ⊎ HasCondition cs d)
found_or_has cs newest chained literals lists next None is found = tt
found_or_has cs newest chained literals lists next (Some d) is found = go next refl
  where
    go : (m : ℕ) → next ≡ m → FoundByAll d literals lists ⊎ HasCondition cs d
    go zero e = inl (found e)
    go (suc k) e =
        let last = chained.last d in
        let one : newest_at newest d ≡ k + 1 = omega (arith, e, is) in
        let lt : k < length cs = last.within k one in
        elim (slice_get_cases cs k).1 [
          | inl there ↦ inr (k, there.0, there.2, last.own k one there.0 there.2)
          | inr past ↦ (let le : length cs ≤ k = past.0 in absurd (omega (arith, le, lt)))
        ]
