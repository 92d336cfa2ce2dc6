-- Laws for those who write a search over a store: what follows from the contracts of its calls.
use Rattle.std.proofs.Common.{◌≡◌, ℕ, ◌<◌, ◌≤◌, Bool, true, false, cond, not, List, [], ◌∷◌, ◌++◌, length, map}
use Rattle.std.proofs.Common.{get_or, Option, None, Some, refl, arith, sym, ◌∙◌, ap, subst, zero, suc, inl, inr}
use Rattle.std.specs.Prelude.{◌==◌, ◌&&◌, All, option_map}
use Rattle.std.proofs.lemmas.Bool.{eqb-true}
use Rattle.std.proofs.lemmas.Bool.Decides.{nat_tests}
use Rattle.std.proofs.lemmas.List.{append-nil}
use Rattle.std.proofs.lemmas.List.Elements.{All-nil, All-cons, All-head, All-tail, All-contains, Contains-get_or}
use Rattle.std.proofs.lemmas.List.Elements.{Contains-push, Contains-append_left, Contains-append_right}
use Rattle.std.proofs.lemmas.Map.Views.{Contains-from_any}
use Rattle.decisions.proofs.TrailLemmas.{val-push}
use Rattle.resolvo_queue.proofs.Picks.Unbeaten.{none_decided}
use Rattle.resolvo_store.proofs.Words.{add_parent, Already, are_literals_false, Assign, assign_reply, Assigned}
use Rattle.resolvo_store.proofs.Words.{assigned, beq, Clash, clauses_of, Command, condition_of, Conflict, Contains}
use Rattle.resolvo_store.proofs.Words.{Decide, decided, decision, Done, entries_until, Entry, Falsified}
use Rattle.resolvo_store.proofs.Words.{falsified_clause, filter, find, first_refusal, flat_map, fold, Frontier}
use Rattle.resolvo_store.proofs.Words.{frontier, has_true_row, HasImpliedMore, HasLevel, HasOutcome, HasSettled}
use Rattle.resolvo_store.proofs.Words.{IdSpace, is_falsified, is_none, is_open, is_saturate, is_some, IsAnswered}
use Rattle.resolvo_store.proofs.Words.{IsAssigned, IsModel, IsModelNow, IsRefused, IsSolved, IsSound, known_true}
use Rattle.resolvo_store.proofs.Words.{LevelOutOfRange, list_all, list_any, lists_of, Load, load, MatchOption}
use Rattle.resolvo_store.proofs.Words.{may_be_refused, MayLeaveFalse, nat_lt, NoDecision, Offer, outcome, OutOfMemory}
use Rattle.resolvo_store.proofs.Words.{parents, picked, Refused, Reply, Requirement, RequiresClause, rows_of, Saturate}
use Rattle.resolvo_store.proofs.Words.{scan, score_of, Step, Store, StoreError, true_alone, UndoUntil, val, values}
use Rattle.resolvo_store.proofs.ModelLaws.{models_kept, conflict_rules_out}
use Rattle.resolvo_store.proofs.RunLemmas.{has_outcome}
use Rattle.resolvo_store.proofs.SaturatedLaws.{saturated_so_far, saturate_answered}
use Rattle.resolvo_store.proofs.SettledLaws.{settled_unfalsified}
use Rattle.resolvo_store.proofs.TrailModelLaws.{trail_is_model}
pub use Rattle.resolvo_store.proofs.ForbiddingLaws.{forbids_two}

-- the abstract store of which a clause says that it is sound: so a proof file names the store that the clause speaks of
abbrev pub store_in : {N S : Type 0} {st : Store N S} → IsSound st → Store N S
store_in {st = it} sound = it

-- the left side of an equation: so a proof file names what is kept, as a view shows it
abbrev pub left_of : {X : Type 0} {x y : X} → x ≡ y → X
left_of {x = it} e = it

-- ---- members of lists

module _ {X : Type 0} where
  -- what is true of whatever a list contains
  ByMember : (P : X → Type 0) (xs : List X) → ((x : X) → Contains xs x → P x) → All P xs
  ByMember P xs each = λ k d within. each (get_or xs k d) (Contains-get_or xs k d within)

  Contains-head : (x : X) (xs : List X) → Contains (x ∷ xs) x
  Contains-head x xs = (0, omega arith, refl)

  Contains-cons : (x y : X) (xs : List X) → Contains xs x → Contains (y ∷ xs) x
  Contains-cons x y xs has = (suc has.0, omega (arith, has.1), has.2)

  -- a member is the first or a later one
  Contains-cases : (P : Type 0) (x y : X) (xs : List X) → Contains (y ∷ xs) x → (y ≡ x → P) → (Contains xs x → P) → P
  Contains-cases P x y xs has first later = by_place has.0 has.1 has.2
    where
      by_place : (k : ℕ) → k < length (y ∷ xs) → get_or (y ∷ xs) k x ≡ x → P
      by_place zero w e = first e
      by_place (suc k) w e = later (k, omega (arith, w), e)

  no_member : (x : X) → Contains [] x → ⊥
  no_member x has = omega (arith, has.1)

  -- a member that passes the test is kept
  Contains-filter : (test : X → Bool) (xs : List X) (x : X) → test x ≡ true → Contains xs x →
      Contains (filter test xs) x
  Contains-filter test [] x pass has = has
  Contains-filter test (y ∷ xs) x pass has =
      Contains-cases (Contains (filter test (y ∷ xs)) x) x y xs has
      (λ e. subst (λ b. Contains (cond b (y ∷ filter test xs) (filter test xs)) x) (sym (ap test e ∙ pass))
      (subst (λ z. Contains (z ∷ filter test xs) x) (sym e) (Contains-head x (filter test xs))))
      (λ k. elim (test y) as (λ b. Contains (cond b (y ∷ filter test xs) (filter test xs)) x) [
        | true ↦ Contains-cons x y (filter test xs) (Contains-filter test xs x pass k)
        | false ↦
            Contains-filter test xs x pass k
      ])

  -- what the list of a member contains, the lists of all members contain
  Contains-flat_map : {Y : Type 0} (f : X → List Y) (xs : List X) (x : X) (y : Y) → Contains xs x →
      Contains (f x) y → Contains (flat_map f xs) y
  Contains-flat_map f [] x y has own = absurd (no_member x has)
  Contains-flat_map f (z ∷ xs) x y has own =
      Contains-cases (Contains (flat_map f (z ∷ xs)) y) x z xs has
      (λ e. Contains-append_left (f z) (flat_map f xs) y (subst (λ w. Contains (f w) y) (sym e) own))
      (λ k. Contains-append_right (f z) (flat_map f xs) y (Contains-flat_map f xs x y k own))

  -- where nothing is found no member passes
  none_passes : (test : X → Bool) (xs : List X) → find test xs ≡ None → All (λ x. test x ≡ false) xs
  none_passes test [] none = All-nil (λ x. test x ≡ false)
  none_passes test (x ∷ xs) none =
      (elim (test x) as (λ b. test x ≡ b → cond b (Some x) (find test xs) ≡ None → All (λ y. test y ≡ false) (x ∷ xs))
      [ true ↦ λ e h. cc | false ↦ λ e h. All-cons (λ y. test y ≡ false) x xs e (none_passes test xs h) ]) refl none

-- ---- the scan

add_has : (seen : List ℕ) (p : ℕ) → Contains (add_parent seen p) p
add_has seen p = by_test (list_any (λ q. q == p) seen) refl
  where
    by_test : (b : Bool) → list_any (λ q. q == p) seen ≡ b → Contains (cond b seen (seen ++ p ∷ [])) p
    by_test true e = Contains-from_any {eq = λ a b. b == a} (λ a b h. sym (eqb-true b a h)) p seen e
    by_test false e = Contains-push seen p

add_keeps : (seen : List ℕ) (p q : ℕ) → Contains seen q → Contains (add_parent seen p) q
add_keeps seen p q has =
    elim (list_any (λ x. x == p) seen) as (λ b. Contains (cond b seen (seen ++ p ∷ [])) q) [
      | true ↦ has
      | false ↦
          Contains-append_left seen (p ∷ []) q has
    ]

parents_keep : (seen ps : List ℕ) (q : ℕ) → Contains seen q → Contains (fold add_parent seen ps) q
parents_keep seen [] q has = has
parents_keep seen (p ∷ ps) q has = parents_keep (add_parent seen p) ps q (add_keeps seen p q has)

parents_have : (seen : List ℕ) (cs : List RequiresClause) (c : RequiresClause) → Contains cs c →
    Contains (fold add_parent seen (map (λ d. d.parent) cs)) c.parent
parents_have seen [] c has = absurd (no_member c has)
parents_have seen (d ∷ cs) c has =
    Contains-cases (Contains (fold add_parent (add_parent seen d.parent) (map (λ x. x.parent) cs)) c.parent) c d cs has
    (λ e. subst (λ x. Contains (fold add_parent (add_parent seen d.parent) (map (λ y. y.parent) cs)) x.parent) e
    (parents_keep (add_parent seen d.parent) (map (λ x. x.parent) cs) d.parent (add_has seen d.parent)))
    (λ k. parents_have (add_parent seen d.parent) cs c k)

-- each registered clause is in the scan
pub scan_has_each : (cs : List RequiresClause) → All (Contains (scan cs)) cs
scan_has_each cs =
    ByMember (Contains (scan cs)) cs
    (λ c has. Contains-flat_map (clauses_of cs) (parents cs) c.parent c (parents_have [] cs c has)
    (Contains-filter (λ d. d.parent == c.parent) cs c (let same : (c.parent == c.parent) ≡ true =
    grind (arith, nat_tests) in same) has))

-- ---- what a reply tells

-- levels begin at 1, so none is kept below it
none_kept : (es : List Entry) → All HasLevel es → entries_until 0 es ≡ []
none_kept [] levels = refl
none_kept (e ∷ es) levels = ap (λ b. cond b [] (e ∷ entries_until 0 es)) (above (e ∷ es) levels)
  where
    above : (fs : List Entry) → All HasLevel fs → list_all (λ f. nat_lt 0 f.level) fs ≡ true
    above [] all = refl
    above (f ∷ fs) all =
        let head = All-head HasLevel f fs all in
        let own : nat_lt 0 f.level ≡ true = grind (arith, nat_tests, head.0) in
        ap (λ b. b && list_all (λ x. nat_lt 0 x.level) fs) own ∙ above fs (All-tail HasLevel f fs all)

-- `NoDecision` comes where nothing is falsified and nothing picked
no_decision : (f : Option RequiresClause) (o : Option Offer) → NoDecision ≡ decision f o → (f ≡ None) × (o ≡ None)
no_decision (Some c) o h = cc
no_decision None (Some o) h = cc
no_decision None None h = (refl, refl)

-- a clause that is neither falsified nor eligible isn't open
closed : (o : Bool) (f : Option Frontier) → (o && is_some f) ≡ false → (o && is_none f) ≡ false → o ≡ false
closed true None e g = g
closed true (Some x) e g = e
closed false f e g = refl

module _ {N S : Type 0} where
  -- a command but Saturate that isn't refused is answered by its outcome
  pub answered_by_outcome : (old new : Store N S) (c : Command N S) (reply : Reply) → is_saturate c ≡ false →
      Step old c reply new → (IsRefused reply → ⊥)
      → (reply ≡ (outcome old c).reply) × (new ≡ (outcome old c).store)
  answered_by_outcome old new c reply plain step answered = by_refusal (first_refusal old c) step
    where
      by_reply : (r : Reply) → (IsRefused r → ⊥) → HasOutcome old c r new → (r ≡ (outcome old c).reply)
          × (new ≡ (outcome old c).store)
      by_reply (Refused e) n h = absurd (n tt)
      by_reply _ n h = (h.1, h.2)

      by_refusal : (x : Option StoreError) → MatchOption x (IsAnswered old c reply new) (λ e. (reply ≡ Refused e)
          × (new ≡ old))
          → (reply ≡ (outcome old c).reply) × (new ≡ (outcome old c).store)
      by_refusal None h = by_reply reply answered (has_outcome old new c reply plain h)
      by_refusal (Some e) h = absurd (answered (subst IsRefused (sym h.0) tt))

  -- after `Assigned` the variable has the value
  pub assigned_value : (old new : Store N S) (v : ℕ) (value : Bool) (clause level : ℕ) →
      Step old (Assign v value clause level) Assigned new
      → values new v ≡ Some value
  assigned_value old new v value clause level step =
      let answer = answered_by_outcome old new (Assign v value clause level) Assigned refl step (λ h. h) in
      subst (λ st. values st v ≡ Some value) (sym answer.1) (by_value (values old v) refl answer.0)
    where
      entry : Entry
      entry = record { decision = record { variable = v; value = value; derived_from = clause }; level = level }

      by_test : (b : Bool) → Assigned ≡ cond b Already Clash → ⊥
      by_test true h = cc
      by_test false h = cc

      by_value : (o : Option Bool) → values old v ≡ o → Assigned ≡ assign_reply o value →
          val (assigned o old.trail entry) v ≡ Some value
      by_value None h e = val-push old.trail entry v h ∙ (let same : (v == v) ≡ true = grind (arith, nat_tests) in
          ap (λ b. cond b (Some value) (val old.trail v)) same)
      by_value (Some known) h e = absurd (by_test (beq known value) e)

  -- after `Clash` it has the other one
  pub clashing_value : (old new : Store N S) (v : ℕ) (value : Bool) (clause level : ℕ) →
      Step old (Assign v value clause level) Clash new
      → values new v ≡ Some (not value)
  clashing_value old new v value clause level step =
      let answer = answered_by_outcome old new (Assign v value clause level) Clash refl step (λ h. h) in
      subst (λ st. values st v ≡ Some (not value)) (sym answer.1) (by_value (values old v) refl answer.0)
    where
      entry : Entry
      entry = record { decision = record { variable = v; value = value; derived_from = clause }; level = level }

      other : (known value : Bool) → Clash ≡ cond (beq known value) Already Clash → known ≡ not value
      other true true h = cc
      other true false h = refl
      other false true h = refl
      other false false h = cc

      by_value : (o : Option Bool) → values old v ≡ o → Clash ≡ assign_reply o value →
          val (assigned o old.trail entry) v ≡ Some (not value)
      by_value None h e = cc
      by_value (Some known) h e = h ∙ ap Some (other known value e)

  -- a Load adds no clause, whatever it is answered
  pub load_adds_no_clause : (old new : Store N S) (r : Requirement) (reply : Reply) → Step old (Load r) reply new →
      new.requires ≡ old.requires
  load_adds_no_clause old new r reply step = by_refusal (first_refusal old (Load r)) step
    where
      by_lists : (o : Option (List (List ℕ))) → (load old r o).store.requires ≡ old.requires
      by_lists None = refl
      by_lists (Some lists) = refl

      by_reply : (reply : Reply) → IsAnswered old (Load r) reply new → new.requires ≡ old.requires
      by_reply (Refused e) h = ap (λ (st : Store N S). st.requires) h.1
      by_reply _ h = ap (λ (st : Store N S). st.requires) h.2 ∙ by_lists (lists_of old r)

      by_refusal : (x : Option StoreError) →
          MatchOption x (IsAnswered old (Load r) reply new) (λ e. (reply ≡ Refused e) × (new ≡ old))
          → new.requires ≡ old.requires
      by_refusal None h = by_reply reply h
      by_refusal (Some e) h = ap (λ (st : Store N S). st.requires) h.1

  -- a variable that the store doesn't have has no value
  pub unknown_undecided : (st : Store N S) → IsSound st → (v : ℕ) → length st.origins ≤ v → values st v ≡ None
  unknown_undecided st sound v beyond = go st.trail sound.assigned
    where
      go : (es : List Entry) → All (IsAssigned st) es → val es v ≡ None
      go [] all = refl
      go (e ∷ es) all =
          let head = All-head (IsAssigned st) e es all in
          let other : (e.decision.variable == v) ≡ false = grind (arith, nat_tests, head.variable, beyond) in
          ap (λ b. cond b (Some e.decision.value) (val es v)) other ∙ go es (All-tail (IsAssigned st) e es all)

  -- no list of refusals has one for an undo, and it takes no memory
  undo_answered : (old : Store N S) (level : ℕ) (e : StoreError) → may_be_refused old (UndoUntil level) e ≡ true → ⊥
  undo_answered old level OutOfMemory h = cc
  undo_answered old level IdSpace h = cc
  undo_answered old level _ h = cc

  -- an undo to level 0 empties the trail
  pub undone_to_zero : (old new : Store N S) (reply : Reply) → IsSound old → Step old (UndoUntil 0) reply new →
      new.trail ≡ []
  undone_to_zero old new reply sound step = by_reply reply step
    where
      by_reply : (r : Reply) → IsAnswered old (UndoUntil 0) r new → new.trail ≡ []
      by_reply (Refused e) h = absurd (undo_answered old 0 e h.0)
      by_reply _ h = ap (λ st. st.trail) h.2 ∙ none_kept old.trail sound.trail.levels

  -- after `NoDecision` no clause of the scan is open
  pub none_open : (old new : Store N S) → Step old Decide NoDecision new →
      All (λ c. is_open (values new) (condition_of new) (rows_of new) c ≡ false) (scan new.requires)
  none_open old new step =
      let answer = answered_by_outcome old new Decide NoDecision refl step (λ h. h) in
      let none = no_decision (falsified_clause old) (picked old) answer.0 in
      let falsified = none_passes (is_falsified (values old) (condition_of old) (rows_of old))
      (scan old.requires) none.0 in
      let eligible = (none_decided (values old) (condition_of old) (rows_of old) (score_of old) old.requires
      (option_map decided (picked old)) refl).0 (ap (option_map decided) none.1) in
      subst (λ st. All (λ c. is_open (values st) (condition_of st) (rows_of st) c ≡ false) (scan st.requires))
      (sym answer.1)
      (λ k d within. closed (is_open (values old) (condition_of old) (rows_of old) (get_or (scan old.requires) k d))
      (frontier (values old) (rows_of old (get_or (scan old.requires) k d).requirement))
      (eligible k d within) (falsified k d within))

  -- after `NoDecision` the store is solved: each registered clause whose parent is true, and whose condition is met,
  -- has a
  -- candidate that is true
  pub solved : (old new : Store N S) → Step old Decide NoDecision new → IsSolved new
  solved old new step = λ k d within.
      met (known_true (values new (get_or new.requires k d).parent))
      (are_literals_false (values new) (condition_of new (get_or new.requires k d).condition))
      (has_true_row (values new) (rows_of new (get_or new.requires k d).requirement))
      (All-contains (λ c. is_open (values new) (condition_of new) (rows_of new) c ≡ false) (scan new.requires)
      (get_or new.requires k d) (none_open old new step) (scan_has_each new.requires k d within))
    where
      met : (a b c : Bool) → (a && (b && not c)) ≡ false → a ≡ true → b ≡ true → c ≡ true
      met a b true h e f = refl
      met true true false h e f = (let no : true ≡ false = h in cc)
      met true false false h e f = f
      met false b false h e f = e

  -- ---- a Saturate

  -- whatever it replies, the trail has more forced entries, or as many
  pub forces_more : (old new : Store N S) (level : ℕ) (reply : Reply) → Step old (Saturate level) reply new →
      HasImpliedMore level old new
  forces_more old new level reply step = elim (saturate_answered old new level reply step) [
    | inl refused ↦ record {
      added = [];
      longer = ap (λ st. st.trail) refused.1
          ∙ sym (append-nil old.trail);
      implied = tt;
    }
    | inr is ↦ (let so_far = saturated_so_far level old new reply is.1 in
        record { added = so_far.added; longer = ap (λ st. st.trail) so_far.rest; implied = so_far.implied })
  ]

  -- and each model is one still
  pub rules_out_none : (old new : Store N S) (level : ℕ) (reply : Reply) → Step old (Saturate level) reply new →
      (a : ℕ → Bool) → IsModelNow old a → IsModelNow new a
  rules_out_none old new level reply step a model = elim (saturate_answered old new level reply step) [
    | inl refused ↦ subst (λ st. IsModelNow st a) (sym refused.1) model
    | inr is ↦ models_kept level old new (saturated_so_far level old new reply is.1) a model
  ]

  -- after `Conflict` there was none
  pub conflict_means_none : (old new : Store N S) (level : ℕ) (reply : Reply) → Step old (Saturate level) reply new →
      (c : ℕ) → reply ≡ Conflict c
      → (a : ℕ → Bool) → IsModelNow old a → ⊥
  conflict_means_none old new level reply step c is a model =
      elim (saturate_answered old new level (Conflict c) (subst (λ r. Step old (Saturate level) r new) is step)) [
        | inl refused ↦ (let no : Conflict c ≡ Refused LevelOutOfRange = refused.0 in cc)
        | inr found ↦ conflict_rules_out new c found.1.1 a (models_kept level old new found.1.0 a model)
      ]

  -- after `Done` all are settled
  pub done_settles : (old new : Store N S) (level : ℕ) → Step old (Saturate level) Done new → HasSettled new
  done_settles old new level step = elim (saturate_answered old new level Done step) [
    | inl refused ↦ (let no : Done ≡ Refused LevelOutOfRange = refused.0 in cc)
    | inr is ↦ is.1.1
  ]

  -- so no registered clause is falsified
  pub done_unfalsified : (old new : Store N S) (level : ℕ) → IsSound new → Step old (Saturate level) Done new →
      falsified_clause new ≡ None
  done_unfalsified old new level sound step = settled_unfalsified new sound (done_settles old new level step)

  -- and a Decide isn't answered `Falsified`
  pub decides_unfalsified : (old new : Store N S) (reply : Reply) → falsified_clause old ≡ None →
      Step old Decide reply new → (c : ℕ) → reply ≡ Falsified c → ⊥
  decides_unfalsified old new reply none step c is =
      let answer = answered_by_outcome old new Decide (Falsified c) refl (subst (λ r. Step old Decide r new) is step)
      (λ h. h) in
      by_answer (picked old) (answer.0 ∙ ap (λ f. decision f (picked old)) none)
    where
      by_answer : (o : Option Offer) → Falsified c ≡ decision None o → ⊥
      by_answer None h = cc
      by_answer (Some o) h = cc

  -- where all clauses are settled and no decision is left, what the trail says to be true, all else false, is a model
  pub no_decision_is_model : (old new : Store N S) → IsSound new → HasSettled old → Step old Decide NoDecision new →
      All (MayLeaveFalse new) new.clauses
      → IsModel new (true_alone (values new))
  no_decision_is_model old new sound settled step may =
      let same : new ≡ old = (answered_by_outcome old new Decide NoDecision refl step (λ h. h)).1 in
      trail_is_model new sound (subst (λ st. HasSettled st) (sym same) settled) (solved old new step) may
