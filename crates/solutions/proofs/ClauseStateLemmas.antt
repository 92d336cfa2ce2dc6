-- The state of a clause, with one more literal.
use Rattle.std.proofs.Common.{◌≡◌, ◌∙◌, Bool, true, false, not, if◌then◌else◌, ◌||◌, List, [], ◌∷◌, ◌++◌, ap, refl}
use Rattle.std.proofs.Common.{sym, true≢false}
use Rattle.std.proofs.lemmas.List.Folds.{list_any-append}
use Rattle.solutions.proofs.Words.{AreTrue, ClauseState, Fact, Falsified, has_true, is_true, IsStateOf, Literal, Open}
use Rattle.solutions.proofs.Words.{Unit}

first_of : (a b : Bool) → b ≡ false → (a || (b || false)) ≡ true → a ≡ true
first_of true b e h = refl
first_of false true e h = absurd (true≢false e)
first_of false false e h = h

module _ {N S : Type 0} where
  -- of a clause with one more literal
  split : (holds : Fact N S → Bool) (clause : List (Literal N S)) (l : Literal N S)
      → has_true holds (clause ++ l ∷ []) ≡ (has_true holds clause || (is_true holds l || false))
  split holds clause l = list_any-append (is_true holds) clause (l ∷ [])

  -- a literal that is false changes nothing
  pub state_without : (known clause : List (Literal N S)) (l : Literal N S) (rest : ClauseState N S)
      → ((holds : Fact N S → Bool) → AreTrue holds known → is_true holds l ≡ false)
      → IsStateOf known clause rest → IsStateOf known (clause ++ l ∷ []) rest
  state_without known clause l Falsified is_false was = λ holds true_ones met.
      was holds true_ones (first_of (has_true holds clause) (is_true holds l) (is_false holds true_ones)
      (sym (split holds clause l) ∙ met))
  state_without known clause l (Unit k) is_false was = λ holds true_ones met.
      was holds true_ones (first_of (has_true holds clause) (is_true holds l) (is_false holds true_ones)
      (sym (split holds clause l) ∙ met))
  state_without known clause l Open is_false was = tt
