-- A sync's law: routing the changed variables brings a queue from the values of one sync to those of the next.
use Rattle.std.proofs.Common.{◌≡◌, ℕ, Bool, true, false, ◌&&◌, ◌||◌, ◌⊎◌, inl, inr, List}
use Rattle.std.proofs.Common.{[], ◌∷◌, Some, None, IfSome, is_some, sym, ap, refl, ◌∙◌, subst}
use Rattle.resolvo_queue.proofs.Words.{are_literals_false, frontier, is_false_literal, Known, known_false, list_any}
use Rattle.resolvo_queue.proofs.Words.{Lit, may_have_frontier, Neg, Pos, Row, SameElsewhere, truth, Values, variable_of}
use Rattle.resolvo_queue.proofs.Rows.Frontiers.{frontier_unrouted, routes_rows}
use Rattle.resolvo_queue.proofs.Lists.{differ}

-- a routed variable stands in the condition
abbrev pub routes_condition : (ℕ → Bool) → List Lit → Bool
routes_condition routed literals = list_any (λ l. routed (variable_of l)) literals

pub both_of : (a b : Bool) → (a && b) ≡ true → (a ≡ true) × (b ≡ true)
both_of true b h = (refl, h)
both_of false b h = cc

pub all_of : (a b c : Bool) → a ≡ true → b ≡ true → c ≡ true → (a && (b && c)) ≡ true
all_of true true c e f g = g
all_of true false c e f g = cc
all_of false b c e f g = cc

same_literal : (v w : Values) (l : Lit) → v (variable_of l) ≡ w (variable_of l) →
    is_false_literal v l ≡ is_false_literal w l
same_literal v w (Pos x) e = ap known_false e
same_literal v w (Neg x) e = ap (λ o. known_false (truth (λ y. o) (Neg x))) e

-- a condition that holds now and didn't, has a routed variable
pub condition_routed : (v w : Values) (routed : ℕ → Bool) → SameElsewhere routed v w → (ls : List Lit) →
    are_literals_false v ls ≡ false → are_literals_false w ls ≡ true → routes_condition routed ls ≡ true
condition_routed v w routed same [] e f = cc
condition_routed v w routed same (l ∷ ls) e f = go (routed (variable_of l)) refl (condition_routed v w routed same ls)
  where
    go : (b : Bool) → routed (variable_of l) ≡ b →
        (are_literals_false v ls ≡ false → are_literals_false w ls ≡ true → routes_condition routed ls ≡ true) →
        (b || routes_condition routed ls) ≡ true
    go true p more = refl
    go false p more =
        let q = both_of (is_false_literal w l) (are_literals_false w ls) f in
        let now : is_false_literal v l ≡ true = same_literal v w l (same (variable_of l) p) ∙ q.0 in
        more (sym (ap (λ b. b && are_literals_false v ls) now) ∙ e) q.1

-- what is known of rows stays right where it and they stay
pub right_kept : (val : Values) (rs rs' : List Row) (known known' : Known) → known' ≡ known →
    (is_some known ≡ true → rs' ≡ rs) → IfSome known (λ f. f ≡ frontier val rs)
    → IfSome known' (λ f. f ≡ frontier val rs')
right_kept val rs rs' None known' e rows right = subst (λ k. IfSome k (λ f. f ≡ frontier val rs')) (sym e) tt
right_kept val rs rs' (Some g) known' e rows right =
    subst (λ k. IfSome k (λ f. f ≡ frontier val rs')) (sym e) (right ∙ ap (frontier val) (sym (rows refl)))

module _ (before now : Values) (routed : ℕ → Bool) (same : SameElsewhere routed before now) (known known' : Known)
    (only_forgets : (known' ≡ known) ⊎ (known' ≡ None)) where
  -- it stays right where it is forgotten of routed rows
  pub sync_knows : (rs : List Row) → (routes_rows routed rs ≡ true → known' ≡ None) →
      IfSome known (λ g. g ≡ frontier before rs) → IfSome known' (λ g. g ≡ frontier now rs)
  sync_knows rs forgets right = go (routes_rows routed rs) refl only_forgets
    where
      none_known : known' ≡ None → IfSome known' (λ g. g ≡ frontier now rs)
      none_known e = subst (λ k. IfSome k (λ g. g ≡ frontier now rs)) (sym e) tt

      unrouted : (k : Known) → routes_rows routed rs ≡ false → IfSome k (λ g. g ≡ frontier before rs) →
          IfSome k (λ g. g ≡ frontier now rs)
      unrouted None e h = tt
      unrouted (Some g) e h = h ∙ frontier_unrouted before now routed same rs e

      go : (b : Bool) → routes_rows routed rs ≡ b → ((known' ≡ known) ⊎ (known' ≡ None)) →
          IfSome known' (λ g. g ≡ frontier now rs)
      go true e o = none_known (forgets e)
      go false e (inl p) = subst (λ k. IfSome k (λ g. g ≡ frontier now rs)) (sym p) (unrouted known e right)
      go false e (inr p) = none_known p

  -- a clause that may be eligible now is queued: it was, or its parent counts now and didn't, or its condition has a
  -- routed variable, or its requirement was known to have no frontier and isn't any more
  pub sync_holds : {Was Is : Type 0} (counted : Bool) (ls : List Lit) → (Was → Is) → (counted ≡ false → Is) →
      (routes_condition routed ls ≡ true → Is) → (known ≡ Some None → known' ≡ None → Is) →
      ((counted && (are_literals_false before ls && may_have_frontier known)) ≡ true → Was) →
      are_literals_false now ls ≡ true → may_have_frontier known' ≡ true → Is
  sync_holds {Was} {Is} counted ls kept by_parent by_condition by_requirement old met may =
      go counted (are_literals_false before ls) (may_have_frontier known) refl refl refl
    where
      was : (k : Known) → may_have_frontier k ≡ false → k ≡ Some None
      was None g = cc
      was (Some None) g = refl
      was (Some (Some x)) g = cc

      forgotten : may_have_frontier known ≡ false → known' ≡ None
      forgotten g = elim only_forgets [
        | inl s ↦ absurd (differ (sym may ∙ (ap may_have_frontier s ∙ g)))
        | inr s ↦ s
      ]

      go : (a b m : Bool) → counted ≡ a → are_literals_false before ls ≡ b → may_have_frontier known ≡ m → Is
      go false b m p q r = by_parent p
      go true false m p q r = by_condition (condition_routed before now routed same ls q met)
      go true true false p q r = by_requirement (was known r) (forgotten r)
      go true true true p q r =
          kept (old (all_of counted (are_literals_false before ls) (may_have_frontier known) p q r))
