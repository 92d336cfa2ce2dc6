-- A clause's first watches are two different ones of its literals, or none.
use Rattle.std.proofs.Common.{◌≡◌, Bool, true, false, cond, not, List, [], ◌∷◌, length, Option, None, Some, refl, ap}
use Rattle.std.proofs.Common.{subst}
use Rattle.std.specs.Prelude.{◌≢◌, Contains, find, slice_get, unwrap_or}
use Rattle.std.proofs.lemmas.Bool.{eqb-false}
use Rattle.std.proofs.lemmas.List.Elements.{Contains-push, Contains-append_left, Contains-append_right}
use Rattle.std.proofs.lemmas.Option.{slice_get_within, get_or_from_slice_get, same_Some, none-some}
use Rattle.decisions.specs.Literals.{Lit, Pos, Neg, Values, variable_of, is_false_literal}
use Rattle.clauses.specs.declared.clause.Clause.TheVariants.{InstallRoot, Requires, ForbidMultipleInstances}
use Rattle.clauses.specs.declared.clause.Clause.TheVariants.{Constrains, ConstrainsExcluded}
use Rattle.clauses.specs.declared.clause.Clause.TheVariants.{ConstrainsParent, Lock, Learnt, Excluded, AnyOf}
use Rattle.clauses.specs.Clauses.{other_literals, learnt_literals, same_literal, watch_pair, watch_beside, watch_ends}
use Rattle.clauses.specs.Clauses.{first_not_false}
use Rattle.clauses.specs.Laws.{AreTwoOf, FirstWatchesAreTwo}

module _ {X : Type 0} where
  has-first : (x : X) (xs : List X) → Contains (x ∷ xs) x
  has-first x xs = Contains-append_left (x ∷ []) xs x (Contains-push [] x)

  has-more : (y : X) (xs : List X) (x : X) → Contains xs x → Contains (y ∷ xs) x
  has-more y xs x h = Contains-append_right (y ∷ []) xs x h

  found-here : (b : Bool) (y : X) (xs : List X) (x : X) (later : Option X) → (later ≡ Some x → Contains xs x)
      → cond b (Some y) later ≡ Some x → Contains (y ∷ xs) x
  found-here true y xs x later k h = subst (λ z. Contains (y ∷ xs) z) (same_Some y x h) (has-first y xs)
  found-here false y xs x later k h = has-more y xs x (k h)

  -- what a test finds is in the list
  found-in : (test : X → Bool) (xs : List X) (x : X) → find test xs ≡ Some x → Contains xs x
  found-in test [] x e = absurd (none-some x e)
  found-in test (y ∷ xs) x e = found-here (test y) y xs x (find test xs) (λ h. found-in test xs x h) e

different : (l m : Lit) → same_literal l m ≡ false → l ≢ m
different (Pos v) (Pos w) e h = eqb-false v w e (ap variable_of h)
different (Pos v) (Neg w) e h = cc
different (Neg v) (Pos w) e h = cc
different (Neg v) (Neg w) e h = eqb-false v w e (ap variable_of h)

pair-two : (ls : List Lit) (l m : Lit) → Contains ls l → Contains ls m → AreTwoOf ls (watch_pair l m)
pair-two ls l m h k = by_test (same_literal l m) refl where
  by_test : (b : Bool) → same_literal l m ≡ b → AreTwoOf ls (cond b None (Some (l ∷ m ∷ [])))
  by_test true e = tt
  by_test false e = (l, m, refl, different l m e, h, k)

beside-two : (ls : List Lit) (l : Lit) (o : Option Lit) → Contains ls l → ((m : Lit) → o ≡ Some m → Contains ls m)
    → AreTwoOf ls (watch_beside l o)
beside-two ls l None h k = tt
beside-two ls l (Some m) h k = pair-two ls l m h (k m refl)

chosen-in : (now : Values) (ls : List Lit) (m : Lit) → first_not_false now ls ≡ Some m → Contains ls m
chosen-in now [] m e = absurd (none-some m e)
chosen-in now (l ∷ ls) m e = by_found (find (λ x. not (is_false_literal now x)) (l ∷ ls)) refl e where
  by_found : (o : Option Lit) → find (λ x. not (is_false_literal now x)) (l ∷ ls) ≡ o →
      Some (unwrap_or o l) ≡ Some m → Contains (l ∷ ls) m
  by_found None f h = subst (λ z. Contains (l ∷ ls) z) (same_Some l m h) (has-first l ls)
  by_found (Some y) f h = subst (λ z. Contains (l ∷ ls) z) (same_Some y m h)
      (found-in (λ x. not (is_false_literal now x)) (l ∷ ls) y f)

ends-two : (ls : List Lit) → AreTwoOf ls (watch_ends ls)
ends-two [] = tt
ends-two (l ∷ ls) = beside-two (l ∷ ls) l (slice_get (l ∷ ls) (length ls)) (has-first l ls)
    (λ m e. (length ls, slice_get_within (l ∷ ls) (length ls) m e, get_or_from_slice_get (l ∷ ls) (length ls) m m e))

both-two : (l m : Lit) → AreTwoOf (l ∷ m ∷ []) (watch_pair l m)
both-two l m = pair-two (l ∷ m ∷ []) l m (has-first l (m ∷ [])) (has-more l (m ∷ []) m (has-first m []))

pub first_watches_are_two : (N : Type 0) → FirstWatchesAreTwo N
first_watches_are_two N k now InstallRoot = tt
first_watches_are_two N k now (Requires parent d r) =
    let others = other_literals k d r in
    beside-two (Neg parent ∷ others) (Neg parent) (first_not_false now others) (has-first (Neg parent) others)
    (λ m e. has-more (Neg parent) others m (chosen-in now others m e))
first_watches_are_two N k now (ForbidMultipleInstances a l n) = both-two (Neg a) l
first_watches_are_two N k now (Constrains a b v) = both-two (Neg a) (Neg b)
first_watches_are_two N k now (ConstrainsExcluded a aux v) = both-two (Neg a) (Pos aux)
first_watches_are_two N k now (ConstrainsParent a aux v) = both-two (Neg a) (Neg aux)
first_watches_are_two N k now (Lock locked other) =
    pair-two (Neg other ∷ Neg 0 ∷ []) (Neg 0) (Neg other) (has-more (Neg other) (Neg 0 ∷ []) (Neg 0)
    (has-first (Neg 0) []))
    (has-first (Neg other) (Neg 0 ∷ []))
first_watches_are_two N k now (Learnt id) = ends-two (learnt_literals k id)
first_watches_are_two N k now (Excluded a reason) = tt
first_watches_are_two N k now (AnyOf selected other) = both-two (Pos selected) (Neg other)
