-- What is left of a conversion, and how it shrinks.
use Rattle.std.proofs.Common.{◌≡◌, ℕ, ◌+◌, ◌<◌, Bool, true, false, ◌&&◌, List, [], ◌∷◌, ◌++◌, sym, ap, refl, subst}
use Rattle.std.proofs.Common.{◌∙◌, arith}
use Rattle.std.specs.Prelude.{map, fold}
use Rattle.std.specs.List.{list_all}
use Rattle.std.proofs.lemmas.List.Folds.{list_all-append}
use Rattle.std.proofs.lemmas.List.{append-nil, append_assoc, map-append}
use Rattle.std.proofs.lemmas.List.Sums.{fold-append}
use Rattle.typed_ids.specs.declared.version_set_id.VersionSetId.{VersionSetId}
use Rattle.providers.specs.declared.condition.Condition.{Condition}
use Rattle.providers.specs.declared.condition.Condition.TheVariants.{Binary, Requirement}
use Rattle.providers.specs.declared.condition.LogicalOperator.TheVariants.{And, Or}
use Rattle.providers.specs.Provider.{Universe, AreOperandsKnown, IsMadeOfKnown}
use Rattle.providers.specs.Conditions.{Formula, Leaf, Both, Either, joined, Denotes, leaf, binary, crossed, normal_form}
use Rattle.providers.specs.Expansion.{Alternative, Expansion, expanded}
use Rattle.providers.proofs.ConditionLaws.{one_formula, formula_at, formula_at-denotes}

-- ---- crossing

crossed-append : {V : Type 0} (xs ys zs : List (List V)) → crossed (xs ++ ys) zs ≡ crossed xs zs ++ crossed ys zs
crossed-append [] ys zs = refl
crossed-append (x ∷ xs) ys zs = ap (λ r. map (λ z. x ++ z) zs ++ r) (crossed-append xs ys zs) ∙
    sym (append_assoc (map (λ z. x ++ z) zs) (crossed xs zs) (crossed ys zs))

-- a list before all of these, and another before that
before_before : {V : Type 0} (x y : List V) (zs : List (List V)) →
    map (λ z. x ++ z) (map (λ z. y ++ z) zs) ≡ map (λ z. (x ++ y) ++ z) zs
before_before x y [] = refl
before_before x y (z ∷ zs) = rw (append_assoc x y z, before_before x y zs) refl

before_crossed : {V : Type 0} (x : List V) (ys zs : List (List V)) →
    crossed (map (λ y. x ++ y) ys) zs ≡ map (λ r. x ++ r) (crossed ys zs)
before_crossed x [] zs = refl
before_crossed x (y ∷ ys) zs =
    rw (
      map-append (λ r. x ++ r) (map (λ z. y ++ z) zs) (crossed ys zs),
      before_before x y zs,
      before_crossed x ys zs,
    ) refl

pub crossed_assoc : {V : Type 0} (xs ys zs : List (List V)) → crossed (crossed xs ys) zs ≡ crossed xs (crossed ys zs)
crossed_assoc [] ys zs = refl
crossed_assoc (x ∷ xs) ys zs =
    crossed-append (map (λ y. x ++ y) ys) (crossed xs ys) zs ∙ rw (before_crossed x ys zs, crossed_assoc xs ys zs) refl

-- ---- what is left, where each condition has a formula

-- the steps of a formula, where n come behind it
abbrev cost : Formula → ℕ → ℕ
cost (Leaf set) k = k + 1
cost (Both f g) k = cost f (cost g k) + 1
cost (Either f g) k = (cost f k + cost g k) + 1

module _ (formula : ℕ → Formula) where
  -- the lists that pending conditions make, the last of them first
  abbrev forms : List ℕ → List (List VersionSetId)
  forms pending = fold (λ xs i. crossed (normal_form (formula i)) xs) ([] ∷ []) pending

  abbrev lists_of : Alternative → List (List VersionSetId)
  lists_of a = map (λ y. a.sets ++ y) (forms a.pending)

  -- the lists of alternatives, the last of them first
  abbrev pub lists_left : List Alternative → List (List VersionSetId)
  lists_left alts = fold (λ xs a. lists_of a ++ xs) [] alts

  abbrev steps_of : List ℕ → ℕ
  steps_of pending = fold (λ k i. cost (formula i) k) 1 pending

  abbrev pub steps_left : List Alternative → ℕ
  steps_left alts = fold (λ k a. steps_of a.pending + k) 0 alts

  -- a condition is what its formula says
  abbrev Says : Condition → Formula → Type 0
  Says (Requirement set) f = f ≡ Leaf set
  Says (Binary o left right) f = f ≡ joined o (formula left) (formula right)

  -- ---- what a call at the end makes of it

  last_lists : (alts : List Alternative) (a : Alternative) → lists_left (alts ++ a ∷ []) ≡ lists_of a ++ lists_left alts
  last_lists alts a = fold-append (λ xs a. lists_of a ++ xs) [] alts (a ∷ [])

  last_two_lists : (alts : List Alternative) (a b : Alternative) →
      lists_left (alts ++ a ∷ b ∷ []) ≡ lists_of b ++ (lists_of a ++ lists_left alts)
  last_two_lists alts a b = fold-append (λ xs a. lists_of a ++ xs) [] alts (a ∷ b ∷ [])

  last_steps : (alts : List Alternative) (a : Alternative) →
      steps_left (alts ++ a ∷ []) ≡ steps_of a.pending + steps_left alts
  last_steps alts a = fold-append (λ k a. steps_of a.pending + k) 0 alts (a ∷ [])

  last_two_steps : (alts : List Alternative) (a b : Alternative) →
      steps_left (alts ++ a ∷ b ∷ []) ≡ steps_of b.pending + (steps_of a.pending + steps_left alts)
  last_two_steps alts a b = fold-append (λ k a. steps_of a.pending + k) 0 alts (a ∷ b ∷ [])

  last_form : (pending : List ℕ) (i : ℕ) → forms (pending ++ i ∷ []) ≡ crossed (normal_form (formula i)) (forms pending)
  last_form pending i = fold-append (λ xs i. crossed (normal_form (formula i)) xs) ([] ∷ []) pending (i ∷ [])

  last_two_forms : (pending : List ℕ) (i j : ℕ) → forms (pending ++ i ∷ j ∷ []) ≡
      crossed (normal_form (formula j)) (crossed (normal_form (formula i)) (forms pending))
  last_two_forms pending i j = fold-append (λ xs i. crossed (normal_form (formula i)) xs) ([] ∷ []) pending (i ∷ j ∷ [])

  last_cost : (pending : List ℕ) (i : ℕ) → steps_of (pending ++ i ∷ []) ≡ cost (formula i) (steps_of pending)
  last_cost pending i = fold-append (λ k i. cost (formula i) k) 1 pending (i ∷ [])

  last_two_costs : (pending : List ℕ) (i j : ℕ) → steps_of (pending ++ i ∷ j ∷ [])
      ≡ cost (formula j) (cost (formula i) (steps_of pending))
  last_two_costs pending i j = fold-append (λ k i. cost (formula i) k) 1 pending (i ∷ j ∷ [])

  module _ (alts : List Alternative) (sets : List VersionSetId) (pending : List ℕ) (i : ℕ) where
    -- the alternative before its next condition was taken away, and after it
    abbrev whole : Alternative
    whole = record { sets = sets; pending = pending ++ i ∷ [] }

    abbrev rest : Alternative
    rest = record { sets = sets; pending = pending }

    abbrev front : List (List VersionSetId) → List (List VersionSetId)
    front xs = map (λ y. sets ++ y) xs

    whole_lists : (f : Formula) → formula i ≡ f → lists_left (alts ++ whole ∷ [])
        ≡ front (crossed (normal_form f) (forms pending)) ++ lists_left alts
    whole_lists f says = last_lists alts whole ∙ ap (λ xs. front xs ++ lists_left alts)
        (last_form pending i ∙ ap (λ f. crossed (normal_form f) (forms pending)) says)

    whole_steps : (f : Formula) → formula i ≡ f → steps_left (alts ++ whole ∷ [])
        ≡ cost f (steps_of pending) + steps_left alts
    whole_steps f says = last_steps alts whole ∙ ap (λ k. k + steps_left alts) (last_cost pending i
        ∙ ap (λ f. cost f (steps_of pending)) says)

    -- it makes the same lists
    pub same_lists : (condition : Condition) → Says condition (formula i) →
        lists_left (alts ++ expanded rest condition) ≡ lists_left (alts ++ whole ∷ [])
    same_lists (Requirement set) says =
        last_lists alts (record { sets = sets ++ set ∷ []; pending = pending })
        ∙ (ap (λ xs. xs ++ lists_left alts) (sym (before_before sets (set ∷ []) (forms pending)) ∙
        ap front (sym (append-nil (map (λ y. set ∷ y) (forms pending)))))
        ∙ sym (whole_lists (Leaf set) says))
    same_lists (Binary And left right) says =
        last_lists alts (record { sets = sets; pending = pending ++ right ∷ left ∷ [] })
        ∙ (ap (λ xs. front xs ++ lists_left alts)
        (last_two_forms pending right left
        ∙ sym (crossed_assoc (normal_form (formula left)) (normal_form (formula right)) (forms pending)))
        ∙ sym (whole_lists (Both (formula left) (formula right)) says))
    same_lists (Binary Or left right) says =
        last_two_lists alts (record { sets = sets; pending = pending ++ right ∷ [] })
        (record { sets = sets; pending = pending ++ left ∷ [] })
        ∙ (rw (last_form pending left, last_form pending right)
        (sym (append_assoc (front (crossed (normal_form (formula left)) (forms pending)))
        (front (crossed (normal_form (formula right)) (forms pending))) (lists_left alts)))
        ∙ (ap (λ xs. xs ++ lists_left alts)
        (sym (map-append (λ y. sets ++ y) (crossed (normal_form (formula left)) (forms pending))
        (crossed (normal_form (formula right)) (forms pending)))
        ∙ ap front (sym (crossed-append (normal_form (formula left)) (normal_form (formula right)) (forms pending))))
        ∙ sym (whole_lists (Either (formula left) (formula right)) says)))

    -- in fewer steps
    pub fewer_steps : (condition : Condition) → Says condition (formula i) →
        steps_left (alts ++ expanded rest condition) < steps_left (alts ++ whole ∷ [])
    fewer_steps (Requirement set) says =
        let before = whole_steps (Leaf set) says in
        let after = last_steps alts (record { sets = sets ++ set ∷ []; pending = pending }) in omega arith
    fewer_steps (Binary And left right) says =
        let before = whole_steps (Both (formula left) (formula right)) says in
        let after = last_steps alts (record { sets = sets; pending = pending ++ right ∷ left ∷ [] }) in
        let costs = last_two_costs pending right left in omega arith
    fewer_steps (Binary Or left right) says =
        let before = whole_steps (Either (formula left) (formula right)) says in
        let after = last_two_steps alts (record { sets = sets; pending = pending ++ right ∷ [] })
        (record { sets = sets; pending = pending ++ left ∷ [] }) in
        let of_left = last_cost pending left in
        let of_right = last_cost pending right in omega arith

  -- an alternative without conditions is a list
  pub done_lists : (alts : List Alternative) (sets : List VersionSetId) →
      lists_left (alts ++ record { sets = sets; pending = [] } ∷ []) ≡ sets ∷ lists_left alts
  done_lists alts sets = last_lists alts (record { sets = sets; pending = [] })
      ∙ ap (λ l. l ∷ lists_left alts) (append-nil sets)

  pub done_steps : (alts : List Alternative) (sets : List VersionSetId) →
      steps_left alts < steps_left (alts ++ record { sets = sets; pending = [] } ∷ [])
  done_steps alts sets = let after = last_steps alts (record { sets = sets; pending = [] }) in omega arith

-- ---- the conditions of a universe

module _ {N S : Type 0} (c : Universe N S) (laws : AreOperandsKnown c) where
  abbrev pub formula_of : ℕ → Formula
  formula_of = formula_at c laws

  -- all pending conditions are known
  abbrev pub are_known : List Alternative → Bool
  are_known alts = list_all (λ a. list_all c.knows_condition a.pending) alts

  says : (i : ℕ) → c.knows_condition i ≡ true → (condition : Condition) → c.condition i ≡ condition →
      IsMadeOfKnown c i condition → Says formula_of condition (formula_of i)
  says i known (Requirement set) is made = one_formula c (formula_at-denotes c laws i known) (leaf set is)
  says i known (Binary o left right) is made =
      one_formula c (formula_at-denotes c laws i known)
      (binary o left right (formula_of left) (formula_of right) is (formula_at-denotes c laws left made.0)
      (formula_at-denotes c laws right made.2))

  first_of : (a b : Bool) → (a && b) ≡ true → a ≡ true
  first_of true b h = refl
  first_of false b h = cc

  second_of : (a b : Bool) → (a && b) ≡ true → b ≡ true
  second_of true b h = h
  second_of false b h = cc

  both : (a b : Bool) → a ≡ true → b ≡ true → (a && b) ≡ true
  both a b h k = rw (h, k) refl

  known_parts : {X : Type 0} (p : X → Bool) (xs ys : List X) → list_all p (xs ++ ys) ≡ true → (list_all p xs ≡ true)
      × (list_all p ys ≡ true)
  known_parts p xs ys h =
      let e = sym (list_all-append p xs ys) ∙ h in
      (first_of (list_all p xs) (list_all p ys) e, second_of (list_all p xs) (list_all p ys) e)

  known_both : {X : Type 0} (p : X → Bool) (xs ys : List X) → list_all p xs ≡ true → list_all p ys ≡ true →
      list_all p (xs ++ ys) ≡ true
  known_both p xs ys h k = list_all-append p xs ys ∙ both (list_all p xs) (list_all p ys) h k

  one_known : {X : Type 0} (p : X → Bool) (x : X) → list_all p (x ∷ []) ≡ true → p x ≡ true
  one_known p x h = first_of (p x) true h

  known_one : {X : Type 0} (p : X → Bool) (x : X) → p x ≡ true → list_all p (x ∷ []) ≡ true
  known_one p x h = both (p x) true h refl

  expanded_known : (sets : List VersionSetId) (pending : List ℕ) (i : ℕ) (condition : Condition) →
      IsMadeOfKnown c i condition → list_all c.knows_condition pending ≡ true →
      are_known (expanded (record { sets = sets; pending = pending }) condition) ≡ true
  expanded_known sets pending i (Requirement set) made known = both (list_all c.knows_condition pending) true known refl
  expanded_known sets pending i (Binary And left right) made known =
      both (list_all c.knows_condition (pending ++ right ∷ left ∷ [])) true
      (known_both c.knows_condition pending (right ∷ left ∷ []) known
      (both (c.knows_condition right) (c.knows_condition left && true) made.2
      (known_one c.knows_condition left made.0))) refl
  expanded_known sets pending i (Binary Or left right) made known =
      both (list_all c.knows_condition (pending ++ right ∷ []))
      (list_all c.knows_condition (pending ++ left ∷ []) && true)
      (known_both c.knows_condition pending (right ∷ []) known (known_one c.knows_condition right made.2))
      (both (list_all c.knows_condition (pending ++ left ∷ [])) true
      (known_both c.knows_condition pending (left ∷ []) known (known_one c.knows_condition left made.0)) refl)

  -- ---- the loop's turns

  -- what the loop keeps: the lists that are done, and those that are left, are the whole, and what is pending is known
  pub record Goes (whole done : List (List VersionSetId)) (alts : List Alternative) : Type 0 where
    pub whole_is : whole ≡ done ++ lists_left formula_of alts
    pub known : are_known alts ≡ true

  module _ (whole done : List (List VersionSetId)) (alts : List Alternative) (sets : List VersionSetId) where
    pub next_known : (pending : List ℕ) (i : ℕ) →
        Goes whole done (alts ++ record { sets = sets; pending = pending ++ i ∷ [] } ∷ []) → c.knows_condition i ≡ true
    next_known pending i goes =
        let last = known_parts (λ a. list_all c.knows_condition a.pending) alts
        (record { sets = sets; pending = pending ++ i ∷ [] } ∷ []) goes.known in
        let inside = known_parts c.knows_condition pending (i ∷ [])
        (one_known {X = Alternative} (λ a. list_all c.knows_condition a.pending)
        (record { sets = sets; pending = pending ++ i ∷ [] }) last.1) in
        one_known c.knows_condition i inside.1

    pub goes_on : (pending : List ℕ) (i : ℕ) →
        Goes whole done (alts ++ record { sets = sets; pending = pending ++ i ∷ [] } ∷ []) →
        Goes whole done (alts ++ expanded (record { sets = sets; pending = pending }) (c.condition i))
        × (steps_left formula_of (alts ++ expanded (record { sets = sets; pending = pending }) (c.condition i)) <
        steps_left formula_of (alts ++ record { sets = sets; pending = pending ++ i ∷ [] } ∷ []))
    goes_on pending i goes =
        let known = next_known pending i goes in
        let made = laws i known in
        let as_said = says i known (c.condition i) refl made in
        let last = known_parts (λ a. list_all c.knows_condition a.pending) alts
        (record { sets = sets; pending = pending ++ i ∷ [] } ∷ []) goes.known in
        let inside = known_parts c.knows_condition pending (i ∷ [])
        (one_known {X = Alternative} (λ a. list_all c.knows_condition a.pending)
        (record { sets = sets; pending = pending ++ i ∷ [] }) last.1) in (
          record {
            whole_is = goes.whole_is ∙ ap (λ xs. done ++ xs)
                (sym (same_lists formula_of alts sets pending i (c.condition i) as_said));
            known = known_both (λ a. list_all c.knows_condition a.pending) alts
                (expanded (record { sets = sets; pending = pending }) (c.condition i)) last.0
                (expanded_known sets pending i (c.condition i) made inside.0);
          },
          fewer_steps formula_of alts sets pending i (c.condition i) as_said,
        )

    pub finishes : Goes whole done (alts ++ record { sets = sets; pending = [] } ∷ []) →
        Goes whole (done ++ sets ∷ []) alts
        × (steps_left formula_of alts < steps_left formula_of (alts ++ record { sets = sets; pending = [] } ∷ []))
    finishes goes = (
      record {
        whole_is = goes.whole_is ∙ (ap (λ xs. done ++ xs) (done_lists formula_of alts sets)
            ∙ sym (append_assoc done (sets ∷ []) (lists_left formula_of alts)));
        known = (known_parts (λ a. list_all c.knows_condition a.pending) alts
            (record { sets = sets; pending = [] } ∷ []) goes.known).0;
      },
      done_steps formula_of alts sets,
    )

  -- the beginning, and the end
  pub begins : (i : ℕ) → c.knows_condition i ≡ true →
      Goes (normal_form (formula_of i)) [] (record { sets = []; pending = i ∷ [] } ∷ [])
  begins i known = record {
    whole_is = sym alone;
    known =
        both (list_all c.knows_condition (i ∷ [])) true (known_one c.knows_condition i known) refl;
  }
    where
      same : (xs : List (List VersionSetId)) → map (λ y. [] ++ y) xs ≡ xs
      same [] = refl
      same (x ∷ xs) = ap (λ ys. x ∷ ys) (same xs)

      ends : (xs : List (List VersionSetId)) → crossed xs ([] ∷ []) ≡ xs
      ends [] = refl
      ends (x ∷ xs) = rw (append-nil x, ends xs) refl

      alone : lists_left formula_of (record { sets = []; pending = i ∷ [] } ∷ []) ≡ normal_form (formula_of i)
      alone = append-nil (map (λ y. [] ++ y) (crossed (normal_form (formula_of i)) ([] ∷ []))) ∙
          (same (crossed (normal_form (formula_of i)) ([] ∷ [])) ∙ ends (normal_form (formula_of i)))

  pub ends : (i : ℕ) (done : List (List VersionSetId)) (f : Formula) → c.knows_condition i ≡ true →
      Goes (normal_form (formula_of i)) done [] → Denotes c i f → done ≡ normal_form f
  ends i done f known goes d =
      sym (append-nil done) ∙ (sym goes.whole_is ∙ ap normal_form (one_formula c (formula_at-denotes c laws i known) d))

  -- a turn that takes the next condition of the next alternative
  pub turned : (whole : List (List VersionSetId)) (before between after : Expansion) (a rest : Alternative) (i : ℕ)
      (condition : Condition) →
      before.alternatives ≡ between.alternatives ++ a ∷ [] → between.lists ≡ before.lists → rest.sets ≡ a.sets →
      a.pending ≡ rest.pending ++ i ∷ [] → condition ≡ c.condition i →
      after ≡ record { alternatives = between.alternatives ++ expanded rest condition; lists = between.lists } →
      Goes whole before.lists before.alternatives →
      Goes whole after.lists after.alternatives
      × (steps_left formula_of after.alternatives < steps_left formula_of before.alternatives)
  turned whole before between after a rest i condition taken same_done sets pending condition_is after_is goes =
      rw (after_is, condition_is, before_is)
      (goes_on whole between.lists between.alternatives rest.sets rest.pending i goes_here)
    where
      a_is : a ≡ record { sets = rest.sets; pending = rest.pending ++ i ∷ [] }
      a_is = rw (sets, sym pending) refl

      before_is : before.alternatives ≡ between.alternatives ++ record {
        sets = rest.sets;
        pending =
            rest.pending ++ i ∷ [];
      } ∷ []
      before_is = taken ∙ ap (λ x. between.alternatives ++ x ∷ []) a_is

      goes_here : Goes whole between.lists (between.alternatives ++ record {
        sets = rest.sets;
        pending =
            rest.pending ++ i ∷ [];
      } ∷ [])
      goes_here = subst (λ l. Goes whole l (between.alternatives ++ record {
        sets = rest.sets;
        pending =
            rest.pending ++ i ∷ [];
      } ∷ [])) (sym same_done)
          (subst (Goes whole before.lists) before_is goes)

  -- a turn that keeps the list of the next alternative
  pub kept : (whole : List (List VersionSetId)) (before between after : Expansion) (a rest : Alternative) →
      before.alternatives ≡ between.alternatives ++ a ∷ [] → between.lists ≡ before.lists → rest.sets ≡ a.sets →
      a.pending ≡ [] →
      after ≡ record { alternatives = between.alternatives; lists = between.lists ++ rest.sets ∷ [] } →
      Goes whole before.lists before.alternatives →
      Goes whole after.lists after.alternatives
      × (steps_left formula_of after.alternatives < steps_left formula_of before.alternatives)
  kept whole before between after a rest taken same_done sets pending after_is goes =
      rw (after_is, before_is) (finishes whole between.lists between.alternatives rest.sets goes_here)
    where
      a_is : a ≡ record { sets = rest.sets; pending = [] }
      a_is = rw (sets, sym pending) refl

      before_is : before.alternatives ≡ between.alternatives ++ record { sets = rest.sets; pending = [] } ∷ []
      before_is = taken ∙ ap (λ x. between.alternatives ++ x ∷ []) a_is

      goes_here : Goes whole between.lists (between.alternatives ++ record { sets = rest.sets; pending = [] } ∷ [])
      goes_here = subst (λ l. Goes whole l (between.alternatives ++ record { sets = rest.sets; pending = [] } ∷ []))
          (sym same_done)
          (subst (Goes whole before.lists) before_is goes)
