-- Whether one clause is falsified, by its parent, its condition and its rows.
use Rattle.std.proofs.Common.{◌≡◌, ℕ, Bool, true, false, not, ◌&&◌, List, Option, Some, sym, ap, refl, ◌∙◌}
use Rattle.std.specs.Prelude.{is_none}
use Rattle.resolvo_queue.proofs.Words.{all_false, are_literals_false, frontier, has_true_row, is_falsified, known_true}
use Rattle.resolvo_queue.proofs.Words.{Lit, Requirement, RequiresClause, Row, Values}
use Rattle.resolvo_queue.proofs.Rows.States.{falsified-rows}

module _ (val : Values) (literals_of : Option ℕ → List Lit) (rows_of : Requirement → List Row)
    (c : RequiresClause) where
  and_assoc : (a b d : Bool) → ((a && b) && d) ≡ (a && (b && d))
  and_assoc true b d = refl
  and_assoc false b d = refl

  -- by the parent, the condition and the rows
  pub falsified_by : is_falsified val literals_of rows_of c ≡ (known_true (val c.parent) &&
      (are_literals_false val (literals_of c.condition) && all_false val (rows_of c.requirement)))
  falsified_by =
      let p : Bool = known_true (val c.parent) in
      let l : Bool = are_literals_false val (literals_of c.condition) in
      let t : Bool = not (has_true_row val (rows_of c.requirement)) in
      let n : Bool = is_none (frontier val (rows_of c.requirement)) in
      and_assoc p (l && t) n ∙
      (ap (λ b. p && b) (and_assoc l t n) ∙ ap (λ b. p && (l && b)) (falsified-rows val (rows_of c.requirement)))

  -- where the parent is true, and the condition is met: by the rows alone
  pub falsified_met : (value : Option Bool) (b met rest : Bool) → value ≡ val c.parent → value ≡ Some b →
      b ≡ true → met ≡ true →
      met ≡ are_literals_false val (literals_of c.condition) → rest ≡ all_false val (rows_of c.requirement) →
      rest ≡ is_falsified val literals_of rows_of c
  falsified_met value b met rest read is holds true_met met_is rest_is =
      let parent : known_true (val c.parent) ≡ true = ap known_true (sym read ∙ is) ∙ holds in
      let condition : are_literals_false val (literals_of c.condition) ≡ true = sym met_is ∙ true_met in
      rest_is ∙ sym (falsified_by
      ∙ (ap (λ p. p && (are_literals_false val (literals_of c.condition) && all_false val (rows_of c.requirement)))
      parent ∙ ap (λ l. l && all_false val (rows_of c.requirement)) condition))
