-- A queue stays in step with a trail, whatever is done with either. N are the names of packages, H the sets of them.
use Rattle.std.proofs.Common.{◌≡◌, ℕ, zero, suc, ◌≤◌, Bool, true, false, cond, List, [], ◌∷◌, ◌++◌, length, refl}
use Rattle.std.proofs.Common.{arith, sym, subst, ap, ◌∙◌}
use Rattle.std.specs.Prelude.{◌-◌, min, take}
use Rattle.std.proofs.lemmas.List.{length-map, length-append, take-append-le, take-map, map-append, append-nil}
use Rattle.std.proofs.lemmas.List.{append_assoc}
use Rattle.resolvo_queue.specs.Queue.{IsRegistered}
use Rattle.resolvo_store.proofs.Words.{AgreesBelow, cut_to, Decision, decisions_of, entries_until, Entry, floor_taken}
use Rattle.resolvo_store.proofs.Words.{HasImplied, HasTrail, IsInStep, IsNew, IsUnchanged, list_all, Lit, nat_lt}
use Rattle.resolvo_store.proofs.Words.{propagated, pushed, Queue, RequiresClause, SameSync, Trail, undo_last}
use Rattle.resolvo_store.proofs.Words.{undo_until}

-- ---- fronts of lists

length_front : {X : Type 0} (i : ℕ) (xs : List X) → length (take i xs) ≤ i
length_front zero xs = omega arith
length_front (suc i) [] = omega arith
length_front (suc i) (x ∷ xs) = omega (arith, length_front i xs)

take_front : {X : Type 0} (i j : ℕ) (xs : List X) → i ≤ j → take i (take j xs) ≡ take i xs
take_front zero j xs h = refl
take_front (suc i) zero xs h = absurd (omega (arith, h))
take_front (suc i) (suc j) [] h = refl
take_front (suc i) (suc j) (x ∷ xs) h = ap (λ ys. x ∷ ys) (take_front i j xs (omega (arith, h)))

-- what is kept of a trail is its front
pub kept_front : (l : ℕ) (es : List Entry) → entries_until l es ≡ take (length (entries_until l es)) es
kept_front l [] = refl
kept_front l (e ∷ es) =
    elim (list_all (λ x. nat_lt l x.level) (e ∷ es)) as (λ b. cond b [] (e ∷ entries_until l es)
    ≡ take (length (cond b [] (e ∷ entries_until l es))) (e ∷ es))
    [ true ↦ refl | false ↦ ap (λ ys. e ∷ ys) (kept_front l es) ]

-- two lists that are the same at first are, where either is cut
agrees_shorter : {X : Type 0} (floor m : ℕ) (before now : List X) → take floor before ≡ take floor now
    → take (min floor (length (take m now))) before ≡ take (min floor (length (take m now))) (take m now)
agrees_shorter floor m before now is =
    let n = min floor (length (take m now)) in
    let front : take n (take m now) ≡ take n (take floor now) =
    take_front n m now (omega (arith, length_front m now)) ∙ sym (take_front n floor now (omega arith)) in
    sym (take_front n floor before (omega arith)) ∙ ap (take n) is ∙ sym front

module _ {N H : Type 0} {q : Queue N H} where
  -- ---- another trail

  in_step_front : (t : Trail) (m : ℕ) {kept : List Entry} → kept ≡ take m t.entries → IsInStep q t →
      IsInStep q (cut_to t kept)
  in_step_front t m {kept} front is = subst (λ es. IsInStep q (cut_to t es)) (sym front) (record {
    within = omega arith;
    agrees = λ accepted.
        subst (λ n. AgreesBelow (min t.floor n) (decisions_of (take m t.entries)) q)
        (length-map (take m t.entries) (λ e. e.decision))
        (subst (λ ds. AgreesBelow (min t.floor (length ds)) ds q) (take-map (λ e. e.decision) m t.entries)
        (agrees_shorter t.floor m q.trail (decisions_of t.entries) (is.agrees accepted)));
  })

  pub in_step-undo_last : (t : Trail) → IsInStep q t → IsInStep q (undo_last t)
  in_step-undo_last t is = in_step_front t (length t.entries - 1) refl is

  pub in_step-undo_until : (l : ℕ) (t : Trail) → IsInStep q t → IsInStep q (undo_until l t)
  in_step-undo_until l t is = in_step_front t (length (entries_until l t.entries)) (kept_front l t.entries) is

  pub in_step-pushed : (t : Trail) (e : Entry) → IsInStep q t → IsInStep q (pushed t e)
  in_step-pushed t e is =
      let within : t.floor ≤ length (decisions_of t.entries) =
      subst (λ n. t.floor ≤ n) (sym (length-map t.entries (λ x. x.decision))) is.within in
      let same : take t.floor (decisions_of (t.entries ++ e ∷ [])) ≡ take t.floor (decisions_of t.entries) =
      ap (take t.floor) (map-append (λ x. x.decision) t.entries (e ∷ []))
      ∙ take-append-le t.floor (decisions_of t.entries) (e.decision ∷ []) within in
      record {
        within = omega (arith, is.within, length-append t.entries (e ∷ []));
        agrees = λ accepted. is.agrees accepted ∙ sym same;
      }

  -- more entries, one after another
  in_step-more : (t : Trail) (added : List Entry) → IsInStep q t →
      IsInStep q (record t { entries = t.entries ++ added })
  in_step-more t [] is = subst (λ es. IsInStep q (record t { entries = es })) (sym (append-nil t.entries)) is
  in_step-more t (e ∷ added) is =
      subst (λ es. IsInStep q (record t { entries = es })) (append_assoc t.entries (e ∷ []) added)
      (in_step-more (pushed t e) added (in_step-pushed t e is))

  -- those that clauses force
  pub in_step-implied : {literals : ℕ → List Lit} {level : ℕ} (t new : Trail) → HasImplied literals level t new →
      IsInStep q t → IsInStep q new
  in_step-implied t new implied is =
      let more = in_step-more t implied.added is in
      subst (λ es. IsInStep q (record new { entries = es })) (sym implied.entries)
      (subst (λ n. IsInStep q (record new { entries = t.entries ++ implied.added; floor = n })) (sym implied.floor)
      (record { within = more.within; agrees = more.agrees }))

  pub in_step-propagated : (t : Trail) → IsInStep q t → IsInStep q (propagated t)
  in_step-propagated t is = record { within = is.within; agrees = is.agrees }

module _ {N H : Type 0} where
  -- a queue that was brought up to date as another one was
  pub in_step-same : {old new : Queue N H} (t : Trail) → SameSync old new → IsInStep old t → IsInStep new t
  in_step-same {old} {new} t same is = record {
    within = is.within;
    agrees = λ accepted. ap (take t.floor) same.trail ∙ is.agrees (sym same.must_start_anew ∙ accepted);
  }

module _ {N H : Type 0} {has : H → N → Bool} where
  -- ---- another queue

  pub in_step-new : {q : Queue N H} (t : Trail) → t.floor ≡ 0 → IsNew has q → IsInStep q t
  in_step-new {q} t none is = record {
    within = omega (arith, none);
    agrees = λ accepted. subst (λ n. AgreesBelow n (decisions_of t.entries) q) (sym none) refl;
  }

  pub in_step-unchanged : {old new : Queue N H} (t : Trail) → IsUnchanged old new has → IsInStep old t → IsInStep new t
  in_step-unchanged t same is = in_step-same t same.synced is

  -- one clause more
  pub in_step-registered : {old new : Queue N H} (t : Trail) (clause : RequiresClause) (names : List N) →
      IsRegistered has clause names old new
      → IsInStep old t → IsInStep new t
  in_step-registered t clause names more is = record {
    within = is.within;
    agrees = λ accepted. ap (take t.floor) more.trail ∙ is.agrees (sym more.must_start_anew ∙ accepted);
  }

module _ {N H : Type 0} where
  -- an accepted sync, for which the floor was taken
  pub in_step-synced : {q : Queue N H} (t : Trail) → HasTrail (decisions_of t.entries) q → IsInStep q (floor_taken t)
  in_step-synced {q} t has = record {
    within = omega arith;
    agrees = λ accepted. ap (take (length t.entries)) has.trail;
  }

  -- a refused one
  pub in_step-refused : {q : Queue N H} (t : Trail) → q.must_start_anew ≡ true → IsInStep q (floor_taken t)
  in_step-refused t refused = record {
    within = omega arith;
    agrees =
        λ accepted. (let no : true ≡ false = sym refused ∙ accepted in cc);
  }
