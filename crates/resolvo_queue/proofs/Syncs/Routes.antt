-- Routing the changed variables keeps a queue synced: the code's routing meets the law of a sync.
use Rattle.std.proofs.Common.{◌≡◌, ℕ, zero, suc, map, take, ◌<◌, Bool, true, false, not, arith, ◌&&◌, ◌||◌, eqb}
use Rattle.std.proofs.Common.{eqb-true, ltb-true, ◌⊎◌, inl, inr, List, [], ◌∷◌, Option, Some, None, IfSome, is_some}
use Rattle.std.proofs.Common.{slice_get, sym, ap, refl, ◌∙◌, subst}
use Rattle.std.specs.Prelude.{nat_lt}
use Rattle.resolvo_queue.proofs.Words.{AllWokenFrom, AreNoted, are_literals_false, counts, FindsAll, forgotten}
use Rattle.resolvo_queue.proofs.Words.{frontier, has_noted, HaveNumbers, here, IsConditionOf, is_noted, KeepsNoted}
use Rattle.resolvo_queue.proofs.Words.{is_among, is_false_literal, IsOfClause, KeepsQueued, Known, known_at}
use Rattle.resolvo_queue.proofs.Words.{known_false, known_true, ListsKnown, Lit, list_at, may_have_frontier, Neg}
use Rattle.resolvo_queue.proofs.Words.{NotesConditions, Pos, Queued, Record, Requirement, Routes, Row, rows_at}
use Rattle.resolvo_queue.proofs.Words.{SameElsewhere, Stands, SyncsTo, there, TrackedClause, truth, Values, variable_of}
use Rattle.resolvo_queue.proofs.Words.{walk_of, Ways}
use Rattle.resolvo_queue.specs.Parts.{rows_in}
use Rattle.resolvo_queue.proofs.Syncs.Forgetting.{known_only_forgotten, placed_after, unforgotten}
use Rattle.resolvo_queue.proofs.Syncs.Law.{both_of, routes_condition, sync_holds, sync_knows}
use Rattle.resolvo_queue.proofs.Syncs.Queued.{queued_stays, stays_below}
use Rattle.resolvo_queue.proofs.Rows.Frontiers.{routes_rows}

pub among_stands : (vs : List ℕ) (x : ℕ) → is_among vs x ≡ true → Stands x vs
among_stands [] x e = cc
among_stands (v ∷ vs) x e = go (eqb v x) refl e (among_stands vs x)
  where
    go : (b : Bool) → eqb v x ≡ b → (b || is_among vs x) ≡ true → (is_among vs x ≡ true → Stands x vs) →
        Stands x (v ∷ vs)
    go true h f more = subst (λ y. Stands y (v ∷ vs)) (eqb-true v x h) here
    go false h f more = there (more f)

pub literal_among : (routed : ℕ → Bool) (ls : List Lit) → routes_condition routed ls ≡ true →
    (l : Lit) × Stands l ls × (routed (variable_of l) ≡ true)
literal_among routed [] e = cc
literal_among routed (l ∷ ls) e = go (routed (variable_of l)) refl e (literal_among routed ls)
  where
    go : (b : Bool) → routed (variable_of l) ≡ b → (b || routes_condition routed ls) ≡ true →
        (routes_condition routed ls ≡ true → (m : Lit) × Stands m ls × (routed (variable_of m) ≡ true)) →
        (m : Lit) × Stands m (l ∷ ls) × (routed (variable_of m) ≡ true)
    go true h f more = (l, here, h)
    go false h f more = let m = more f in (m.0, there m.1, m.2)

-- a literal that is false has a value
false_decided : (val : Values) (l : Lit) → is_false_literal val l ≡ true → is_some (val (variable_of l)) ≡ true
false_decided val (Pos x) e = go (val x) e
  where
    go : (o : Option Bool) → known_false o ≡ true → is_some o ≡ true
    go None f = cc
    go (Some b) f = refl
false_decided val (Neg x) e = go (val x) e
  where
    go : (o : Option Bool) → known_false (truth (λ y. o) (Neg x)) ≡ true → is_some o ≡ true
    go None f = cc
    go (Some b) f = refl

-- so each variable of a condition that is met has one
met_decided : (val : Values) (ls : List Lit) → are_literals_false val ls ≡ true → (l : Lit) → Stands l ls →
    is_some (val (variable_of l)) ≡ true
met_decided val [] e l s = elim s [ ]
met_decided val (x ∷ xs) e l here =
    false_decided val x (both_of (is_false_literal val x) (are_literals_false val xs) e).0
met_decided val (x ∷ xs) e l (there s) =
    met_decided val xs (both_of (is_false_literal val x) (are_literals_false val xs) e).1 l s

row_among : (routed : ℕ → Bool) (rs : List Row) → routes_rows routed rs ≡ true →
    (row : Row) × Stands row rs × (routed row.variable ≡ true)
row_among routed [] e = cc
row_among routed (r ∷ rs) e = go (routed r.variable) refl e (row_among routed rs)
  where
    go : (b : Bool) → routed r.variable ≡ b → (b || routes_rows routed rs) ≡ true →
        (routes_rows routed rs ≡ true → (row : Row) × Stands row rs × (routed row.variable ≡ true)) →
        (row : Row) × Stands row (r ∷ rs) × (routed row.variable ≡ true)
    go true h f more = (r, here, h)
    go false h f more = let m = more f in (m.0, there m.1, m.2)

-- a parent that wasn't true and is now, is routed
pub sync_parents : (routed : List ℕ) (before now : Values) → SameElsewhere (is_among routed) before now → (x : ℕ) →
    known_true (before x) ≡ false → known_true (now x) ≡ true → is_among routed x ≡ true
sync_parents routed before now same x was is = go (is_among routed x) refl
  where
    go : (b : Bool) → is_among routed x ≡ b → b ≡ true
    go true e = refl
    go false e = let still : known_true (before x) ≡ true = ap known_true (same x e) ∙ is in cc

-- ---- noted conditions

noted_stays : (noted noted' : List ℕ) → KeepsNoted noted noted' → (o : Option ℕ) → not (has_noted noted' o) ≡ true →
    not (has_noted noted o) ≡ true
noted_stays noted noted' kept None e = refl
noted_stays noted noted' kept (Some d) e = go (is_noted noted d) refl
  where
    go : (b : Bool) → is_noted noted d ≡ b → not (is_noted noted d) ≡ true
    go true h = let now : is_noted noted' d ≡ true = kept d h in
        let bad : not true ≡ true = sym (ap not now) ∙ e in cc
    go false h = ap not h

-- a condition that was noted doesn't count
noted_counts : {P : Type 0} (ds noted : List ℕ) → AreNoted ds noted → (o : Option ℕ) → IsConditionOf ds o →
    not (has_noted noted o) ≡ true → P
noted_counts ds noted are None of e = absurd of
noted_counts ds noted are (Some d) of e = let bad : not true ≡ true = sym (ap not (are d of)) ∙ e in cc

not_true : (a b c : Bool) → a ≡ true → c ≡ true → (a && (b && c)) ≡ false → b ≡ false
not_true true true true p q e = cc
not_true true false c p q e = refl
not_true true true false p q e = cc
not_true false b c p q e = cc

-- the woken clauses are routed
module _ (w : Ways) (clauses : List TrackedClause) (numbers : HaveNumbers clauses) (woken : ℕ)
    (routed : w.clauses ≡ take woken clauses)
    (literals : TrackedClause → List Lit) (rows_of : Requirement → List Row) (vs : List ℕ)
    (ts ts' : List Record) (q q' : Queued) (noted noted' : List ℕ)
    (finds : FindsAll clauses literals w.by_parent w.conditions ts)
    (lists : ListsKnown rows_of w.requirements ts) (routes : Routes w vs ts ts' q q')
    (kept : KeepsNoted noted noted') (notes : NotesConditions w vs noted') where
  -- nothing is known of a requirement with a routed row
  forgets : (k : ℕ) → routes_rows (is_among vs) (rows_at rows_of ts k) ≡ true → known_at ts' k ≡ None
  forgets k e = by_record (slice_get ts k) refl e
    where
      by_record : (o : Option Record) → slice_get ts k ≡ o →
          routes_rows (is_among vs) (rows_in rows_of o) ≡ true → known_at ts' k ≡ None
      by_record None p e = cc
      by_record (Some t) p e = by_walk (is_some t.walk) refl (known_only_forgotten ts ts' routes.only k)
        where
          unknown : (known : Known) → is_some known ≡ false → known ≡ None
          unknown None h = refl
          unknown (Some f) h = cc

          by_walk : (b : Bool) → is_some t.walk ≡ b → ((known_at ts' k ≡ known_at ts k) ⊎ (known_at ts' k ≡ None)) →
              known_at ts' k ≡ None
          by_walk true h o =
              let row = row_among (is_among vs) (rows_of t.requirement) e in
              routes.unknown row.0.variable (among_stands vs row.0.variable row.2) t.requirement
              (lists k t p h row.0 row.1) k (placed_after ts ts' routes.only t.requirement k (t, p, refl))
          by_walk false h (inl s) = s ∙ (ap walk_of p ∙ unknown t.walk h)
          by_walk false h (inr s) = s

  is_routed : (n : ℕ) (c : TrackedClause) → slice_get clauses n ≡ Some c → nat_lt c.position.number woken ≡ true →
      slice_get w.clauses n ≡ Some c
  is_routed n c at below = ap (λ cs. slice_get cs n) routed ∙ stays_below clauses woken n c
      (subst (λ k. k < woken) (numbers n c at) (ltb-true c.position.number woken below)) at

  -- a queue that was synced at the values of before is synced at those of now
  pub routes_sync : (before : Values) → SameElsewhere (is_among vs) before w.val →
      KeepsQueued clauses literals rows_of before (counts before woken noted) ts q →
      KeepsQueued clauses literals rows_of w.val (counts w.val woken noted') ts' q'
  routes_sync before same old = record {
    queued = λ n c at e. (let p = both_of (counts w.val woken noted' c)
        (are_literals_false w.val (literals c) && may_have_frontier (known_at ts' c.record)) e in
        let s = both_of (nat_lt c.position.number woken)
        (known_true (w.val c.parent) && not (has_noted noted' c.condition)) p.0 in
        let u = both_of (known_true (w.val c.parent)) (not (has_noted noted' c.condition)) s.1 in
        let m = both_of (are_literals_false w.val (literals c)) (may_have_frontier (known_at ts' c.record)) p.1 in
        let r = is_routed n c at s.0 in
        sync_holds before w.val (is_among vs) same (known_at ts c.record) (known_at ts' c.record)
        (known_only_forgotten ts ts' routes.only c.record) (counts before woken noted c) (literals c)
        (queued_stays (IsOfClause w.clauses) q q' c routes.grows)
        (λ out. routes.parents c.parent (among_stands vs c.parent (sync_parents vs before w.val same c.parent
        (not_true (nat_lt c.position.number woken) (known_true (before c.parent)) (not (has_noted noted c.condition))
        s.0 (noted_stays noted noted' kept c.condition u.1) out) u.0)) n c (finds.parents n c at) r u.0)
        (λ routed. (let l = literal_among (is_among vs) (literals c) routed in
        noted_counts (list_at w.conditions (variable_of l.0)) noted'
        (notes (variable_of l.0) (among_stands vs (variable_of l.0) l.2)
        (met_decided w.val (literals c) m.0 l.0 l.1)) c.condition (finds.conditions n c at l.0 l.1) u.1))
        (λ was is. routes.woken c.record was is n c (finds.requirements n c at) r u.0) (old.queued n c at) m.0 m.1);
    right = λ k. subst (λ rs. IfSome (known_at ts' k) (λ f. f ≡ frontier w.val rs))
        (sym (unforgotten (rows_in rows_of) (λ t. refl) (slice_get ts k) (slice_get ts' k) (routes.only k)))
        (sync_knows before w.val (is_among vs) same (known_at ts k) (known_at ts' k)
        (known_only_forgotten ts ts' routes.only k) (rows_at rows_of ts k) (forgets k) (old.right k));
  }

-- ---- a whole sync

pub changes_sync : (w : Ways) (clauses : List TrackedClause) → HaveNumbers clauses → (woken : ℕ) →
    w.clauses ≡ take woken clauses → (before : Values) (vs : List ℕ) (ts ts' : List Record) (q q' : Queued)
    (noted noted' : List ℕ) → Routes w vs ts ts' q q' → KeepsNoted noted noted' → NotesConditions w vs noted' →
    SyncsTo clauses w.by_parent w.conditions w.requirements woken false before w.val vs ts ts' q q' noted noted'
changes_sync w clauses numbers woken routed before vs ts ts' q q' n n' routes kept notes ls rows_of finds lists old =
    let o = old refl in
    routes_sync w clauses numbers woken routed ls rows_of vs ts ts' q q' n n' finds lists routes kept notes
    before o.0 o.1

-- nothing is known and whatever has a true parent is queued: then all is right, whatever was before
pub anew_sync : (clauses : List TrackedClause) (by_parent conditions : List (List ℕ)) (listing : ℕ → List Requirement)
    (woken : ℕ) (before now : Values) (vs : List ℕ) (ts : List Record) (q q' : Queued) (noted : List ℕ) →
    AllWokenFrom 0 clauses now q' →
    SyncsTo clauses by_parent conditions listing woken true before now vs ts (map forgotten ts) q q' noted noted
anew_sync clauses by_parent conditions listing woken before now vs ts q q' noted all literals rows_of finds lists old =
    record {
      queued = λ n c at e. all n c at (omega arith) (both_of (known_true (now c.parent)) _
          (both_of (nat_lt c.position.number woken) _ (both_of (counts now woken noted c) _ e).0).1).0;
      right = λ k. subst (λ w. IfSome w (λ f. f ≡ frontier now (rows_at rows_of (map forgotten ts) k)))
          (sym (unknown ts k)) tt;
    }
  where
    unknown : (xs : List Record) (k : ℕ) → known_at (map forgotten xs) k ≡ None
    unknown [] k = refl
    unknown (x ∷ xs) zero = refl
    unknown (x ∷ xs) (suc k) = unknown xs k
