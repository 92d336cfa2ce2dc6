-- What always holds of the registered clauses stays when one comes, and when one is refused.
use Rattle.std.proofs.Common.{◌≡◌, ◌≢◌, ℕ, ◌+◌, ◌<◌, ◌-◌, ◌^◌, Bool, true, false, eqb, eqb-true, eq-eqb}
use Rattle.std.proofs.Common.{inl, inr, List, [], ◌∷◌, ◌++◌, length, Option, Some, None, MatchOption}
use Rattle.std.proofs.Common.{slice_get, sym, ap, ap₂, refl, ◌∙◌, subst, arith, length-append}
use Rattle.std.specs.Prelude.{IfSome}
use Rattle.resolvo_queue.proofs.Words.{AreChained, AreLocated, at_position, BeginFirst, clauses_at, first_from}
use Rattle.resolvo_queue.proofs.Words.{GainsNumber, has}
use Rattle.resolvo_queue.proofs.Words.{HasNoClause, IsAsBefore, IsFirstOf, IsInOrder, IsOfClause, IsPlaceOf}
use Rattle.resolvo_queue.proofs.Words.{IsUpdate, list_at, Lit, Position, position_in, Queued, Registers, RequiresClause}
use Rattle.resolvo_queue.proofs.Words.{newest_at, Renews, Stands, TrackedClause, Tracking}
use Rattle.resolvo_queue.proofs.Clauses.Chained.{chained_more, chained_same}
use Rattle.resolvo_queue.proofs.Clauses.Entries.{earlier_or_last, last_is, stays_at}
use Rattle.resolvo_queue.proofs.Syncs.NewClause.{located_more, own_position, parent_of}
use Rattle.resolvo_queue.proofs.Clauses.Numbers.{gains_each, updated_each}
use Rattle.resolvo_queue.proofs.Lists.{stands_last}
use Rattle.resolvo_queue.proofs.Picks.NumberedScan.{first_kept as first_from_kept}

-- ---- a parent's first clause

module _ (cs : List TrackedClause) (c : TrackedClause) where
  first_kept : (x f : ℕ) → IsFirstOf cs x f → first_from parent_of 0 (cs ++ c ∷ []) x ≡ first_from parent_of 0 cs x
  first_kept x f is = subst (λ y. first_from parent_of 0 (cs ++ c ∷ []) y ≡ first_from parent_of 0 cs y) is.own
      (first_from_kept parent_of 0 cs c f is.clause is.at)

  stays_first : (x f : ℕ) → IsFirstOf cs x f → IsFirstOf (cs ++ c ∷ []) x f
  stays_first x f is = record {
    clause = is.clause;
    at = stays_at cs (c ∷ []) f is.clause is.at;
    own = is.own;
    first = is.first ∙ sym (first_kept x f is);
  }

  -- it is the first itself
  own_first : HasNoClause cs c.parent → first_from parent_of 0 (cs ++ c ∷ []) c.parent ≡ length cs
  own_first none = let h : first_from parent_of 0 (cs ++ c ∷ []) c.parent ≡ 0 + length cs =
      own_position 0 cs c none in omega arith

  is_own_first : HasNoClause cs c.parent → IsFirstOf (cs ++ c ∷ []) c.parent (length cs)
  is_own_first none = record { clause = c; at = last_is cs c; own = refl; first = sym (own_first none) }

  -- the number that stands first, or else the next number, is that of the parent's first clause
  pub next_is : (first : Option ℕ) → MatchOption first (HasNoClause cs c.parent) (IsFirstOf cs c.parent) →
      c.position.number ≡ length cs →
      MatchOption first (c.position.first_of_parent ≡ length cs) (λ f. c.position.first_of_parent ≡ f) →
      c.position ≡ position_in parent_of at_position (cs ++ c ∷ []) (length cs, c)
  next_is None none number e = ap₂ at_position (e ∙ sym (own_first none)) number
  next_is (Some f) is number e = ap₂ at_position (e ∙ (is.first ∙ sym (first_kept c.parent f is))) number

  abbrev Begins : ℕ → List ℕ → Type 0
  Begins y l = MatchOption (slice_get l 0) (HasNoClause (cs ++ c ∷ []) y) (IsFirstOf (cs ++ c ∷ []) y)

  -- each parent's list begins with its first clause, when the next number comes to the list of the clause's parent
  begin_more : (old now : List (List ℕ)) → BeginFirst cs old →
      IsUpdate (list_at old) c.parent (list_at old c.parent ++ length cs ∷ []) (list_at now) →
      BeginFirst (cs ++ c ∷ []) now
  begin_more old now begin update x = go (eqb c.parent x) refl
    where
      own : (l : List ℕ) → MatchOption (slice_get l 0) (HasNoClause cs c.parent) (IsFirstOf cs c.parent) →
          Begins c.parent (l ++ length cs ∷ [])
      own [] none = is_own_first none
      own (f ∷ fs) is = stays_first c.parent f is

      other : eqb c.parent x ≡ false → (o : Option ℕ) → MatchOption o (HasNoClause cs x) (IsFirstOf cs x) →
          MatchOption o (HasNoClause (cs ++ c ∷ []) x) (IsFirstOf (cs ++ c ∷ []) x)
      other ne None none = λ n d e. elim (earlier_or_last cs c n d e) [
        | inl h ↦ none n d h
        | inr p ↦ ap (λ (y : TrackedClause). eqb y.parent x) p.0 ∙ ne
      ]
      other ne (Some f) is = stays_first x f is

      go : (b : Bool) → eqb c.parent x ≡ b → Begins x (list_at now x)
      go true e = subst (λ y. Begins y (list_at now y)) (eqb-true c.parent x e)
          (subst (Begins c.parent) (sym update.0) (own (list_at old c.parent) (begin c.parent)))
      go false e =
          let elsewhere : x ≢ c.parent = λ s. (let bad : eqb c.parent x ≡ true = eq-eqb c.parent x (sym s) in cc) in
          subst (Begins x) (sym (update.1 x elsewhere)) (other e (slice_get (list_at old x) 0) (begin x))

-- ---- one clause more

module _ (cs cs' : List TrackedClause) (new : TrackedClause) (more : cs' ≡ cs ++ new ∷ []) where
  -- what holds of each clause that was there, and of the new one
  each_more : (P : ℕ → TrackedClause → Type 0) → ((n : ℕ) (c : TrackedClause) → slice_get cs n ≡ Some c → P n c) →
      P (length cs) new → (n : ℕ) (c : TrackedClause) → slice_get cs' n ≡ Some c → P n c
  each_more P each own n c e = elim (earlier_or_last cs new n c (ap (λ l. slice_get l n) (sym more) ∙ e)) [
    | inl h ↦ each n c h
    | inr p ↦ subst (λ m. P m c) (sym p.1) (subst (P (length cs)) (sym p.0) own)
  ]

  -- positions of clauses
  of_more : (p : Position) → IsOfClause cs p → IsOfClause cs' p
  of_more p was = (was.0, ap (λ l. slice_get l p.number) more ∙ stays_at cs (new ∷ []) p.number was.0 was.1, was.2)

pub registers_in_order : (clause : RequiresClause) (is_hot : Bool) (literals : List Lit) (old now : Tracking) →
    length old.clauses < 2 ^ 32 - 1 → IsInOrder old → Registers clause is_hot literals old now → IsInOrder now
registers_in_order clause is_hot literals old now room o r = record {
  few = subst (λ cs. length cs < 2 ^ 32) (sym r.clauses) few;
  located = subst AreLocated (sym r.clauses) (located_more old.clauses r.new o.located position);
  first = subst (λ cs. BeginFirst cs now.by_parent) (sym r.clauses)
      (begin_more old.clauses r.new old.by_parent now.by_parent o.first update);
  parents = each_more old.clauses now.clauses r.new r.clauses (λ n c. Stands n (list_at now.by_parent c.parent))
      (λ n c e. found.kept c.parent n (o.parents n c e)) (subst (Stands (length old.clauses)) (sym update.0)
      (stands_last (list_at old.by_parent r.new.parent) (length old.clauses)));
  chained = chained_more old.clauses now.clauses r.new r.clauses old.newest_under now.newest_under o.chained
      (subst (λ o. Renews o (length old.clauses + 1) old.newest_under now.newest_under) (sym condition)
      r.newest_under) (subst (λ o. IfSome o (λ d. r.new.earlier ≡ newest_at old.newest_under d)) (sym condition)
      r.earlier);
  requirements = each_more old.clauses now.clauses r.new r.clauses (λ n c.
      Stands n (clauses_at now.requirements c.record))
      (λ n c e. r.gains.records.clauses c.record n (o.requirements n c e)) r.requirements;
  placed = each_more old.clauses now.clauses r.new r.clauses (λ n c. IsPlaceOf now.requirements c.requirement c.record)
      (λ n c e. r.gains.records.places c.requirement c.record (o.placed n c e)) r.placed;
  all_of = λ p h. of_more old.clauses now.clauses r.new r.clauses p
      (o.all_of p (subst (λ (q : Queued). has q.all p ≡ true) r.gains.queued h));
  hot_of = λ p h. of_more old.clauses now.clauses r.new r.clauses p
      (o.hot_of p (subst (λ (q : Queued). has q.hot p ≡ true) r.gains.queued h));
}
  where
    condition : r.new.condition ≡ clause.condition
    condition = ap (λ (c : RequiresClause). c.condition) r.is

    few : length (old.clauses ++ r.new ∷ []) < 2 ^ 32
    few = omega (arith, length-append old.clauses (r.new ∷ []))

    position : r.new.position ≡ position_in parent_of at_position (old.clauses ++ r.new ∷ [])
        (length old.clauses, r.new)
    position = subst (λ cs. r.new.position ≡ position_in parent_of at_position cs (length old.clauses, r.new))
        r.clauses r.position

    update : IsUpdate (list_at old.by_parent) r.new.parent
        (list_at old.by_parent r.new.parent ++ length old.clauses ∷ []) (list_at now.by_parent)
    update = subst (λ p. IsUpdate (list_at old.by_parent) p (list_at old.by_parent p ++ length old.clauses ∷ [])
        (list_at now.by_parent)) (sym (ap (λ (c : RequiresClause). c.parent) r.is)) r.by_parent

    found : GainsNumber (length old.clauses) old.by_parent now.by_parent
    found = gains_each (length old.clauses) old.by_parent now.by_parent
        (updated_each (length old.clauses) r.new.parent old.by_parent now.by_parent update)

-- ---- a refused one

pub refused_in_order : (old now : Tracking) → IsInOrder old → IsAsBefore old now → IsInOrder now
refused_in_order old now o b = record {
  few = subst (λ cs. length cs < 2 ^ 32) (sym b.clauses) o.few;
  located = subst AreLocated (sym b.clauses) o.located;
  first = λ x. subst (λ cs. MatchOption (slice_get (list_at now.by_parent x) 0) (HasNoClause cs x) (IsFirstOf cs x))
      (sym b.clauses) (subst (λ l. MatchOption (slice_get l 0) (HasNoClause old.clauses x) (IsFirstOf old.clauses x))
      (sym (b.by_parent x)) (o.first x));
  parents = λ n c e. subst (Stands n) (sym (b.by_parent c.parent)) (o.parents n c (was n c e));
  chained = subst (λ cs. AreChained cs now.newest_under) (sym b.clauses)
      (chained_same old.clauses old.newest_under now.newest_under b.newest_under o.chained);
  requirements = λ n c e. b.gains.records.clauses c.record n (o.requirements n c (was n c e));
  placed = λ n c e. b.gains.records.places c.requirement c.record (o.placed n c (was n c e));
  all_of = λ p h. still p (o.all_of p (subst (λ (q : Queued). has q.all p ≡ true) b.gains.queued h));
  hot_of = λ p h. still p (o.hot_of p (subst (λ (q : Queued). has q.hot p ≡ true) b.gains.queued h));
}
  where
    was : (n : ℕ) (c : TrackedClause) → slice_get now.clauses n ≡ Some c → slice_get old.clauses n ≡ Some c
    was n c e = ap (λ l. slice_get l n) (sym b.clauses) ∙ e

    still : (p : Position) → IsOfClause old.clauses p → IsOfClause now.clauses p
    still p of = subst (λ cs. IsOfClause cs p) (sym b.clauses) of
