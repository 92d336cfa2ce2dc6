-- Texts that are put together.
use Rattle.std.proofs.Common.{◌≡◌, ◌∙◌, ℕ, zero, suc, ◌+◌, ◌-◌, ◌<◌, ◌==◌, ◌&&◌, Bool, true, false}
use Rattle.std.proofs.Common.{List, [], ◌∷◌, ◌++◌, codes}
use Rattle.std.proofs.Common.{if◌then◌else◌, Some, None, drop, length, refl, sym, ap, arith, eq-eqb, true≢false}
use Rattle.std.proofs.lemmas.Bool.{eqb-true}
use Rattle.std.proofs.Math.Seq.{drop-append_seam}
use Rattle.std.specs.Str.Pattern.{FindsTextPrefix, StripsPrefix}
use Rattle.resolvo_pool.specs.Provider.{Universe}
use Rattle.resolvo_pool.specs.Texts.{Texts}
use Rattle.resolvo_pool.specs.Types.Condition.{Condition}
use Rattle.resolvo_pool.specs.Types.LogicalOperator.{LogicalOperator}
use Rattle.reports.specs.ConditionTexts.{text_of_condition, text_of_parts}
use Rattle.reports.specs.Words.{begins, without}

-- a condition at some depth, and deeper
pub at_depth : {N S : Type 0} (universe : Universe N S) (texts : Texts N S) (depth : ℕ) (outer : LogicalOperator)
    (condition : ℕ) → 0 < depth → text_of_condition universe texts depth outer condition
    ≡ (if universe.knows_condition condition
    then text_of_parts universe texts (text_of_condition universe texts (depth - 1)) outer
    (universe.condition condition)
    else [])
unfolding text_of_condition
at_depth universe texts zero outer condition h = absurd (omega arith)
at_depth universe texts (suc depth) outer condition h =
    let same : depth ≡ suc depth - 1 = omega arith in
    ap (λ d. if universe.knows_condition condition
    then text_of_parts universe texts (text_of_condition universe texts d) outer (universe.condition condition)
    else []) same

module _ {N S : Type 0} (universe : Universe N S) (texts : Texts N S) (depth : ℕ) (outer : LogicalOperator)
    (condition : ℕ) (above : 0 < depth) where
  -- one that isn't known
  pub unknown_condition : universe.knows_condition condition ≡ false
      → text_of_condition universe texts depth outer condition ≡ []
  unknown_condition unknown =
      at_depth universe texts depth outer condition above
      ∙ ap (λ b. if b
      then text_of_parts universe texts (text_of_condition universe texts (depth - 1)) outer
      (universe.condition condition)
      else []) unknown

  -- one that is known
  pub known_condition : (parts : Condition) → universe.knows_condition condition ≡ true
      → universe.condition condition ≡ parts → text_of_condition universe texts depth outer condition
      ≡ text_of_parts universe texts (text_of_condition universe texts (depth - 1)) outer parts
  known_condition parts known is =
      at_depth universe texts depth outer condition above
      ∙ ap (λ b. if b
      then text_of_parts universe texts (text_of_condition universe texts (depth - 1)) outer
      (universe.condition condition)
      else []) known
      ∙ ap (text_of_parts universe texts (text_of_condition universe texts (depth - 1)) outer) is

pub too_deep : {N S : Type 0} (universe : Universe N S) (texts : Texts N S) (depth : ℕ) (outer : LogicalOperator)
    (condition : ℕ) → depth ≡ 0 → text_of_condition universe texts depth outer condition ≡ codes ".."
unfolding text_of_condition
too_deep universe texts zero outer condition h = refl
too_deep universe texts (suc depth) outer condition h = absurd (omega arith)

-- texts that begin so, or don't
begins_so : (beginning rest : List ℕ) → begins beginning (beginning ++ rest) ≡ true
begins_so [] rest = refl
begins_so (a ∷ beginning) rest = rw (eq-eqb a a refl) (begins_so beginning rest)

both_hold : (p q : Bool) → (p && q) ≡ true → (p ≡ true) × (q ≡ true)
both_hold true q h = (refl, h)
both_hold false q h = absurd (true≢false (sym h))

begins_then : (beginning text : List ℕ) → begins beginning text ≡ true
    → text ≡ beginning ++ drop (length beginning) text
begins_then [] text h = refl
begins_then (a ∷ beginning) [] h = absurd (true≢false (sym h))
begins_then (a ∷ beginning) (b ∷ text) h =
    let both : ((a == b) ≡ true) × (begins beginning text ≡ true) = both_hold (a == b) (begins beginning text) h in
    let same : a ≡ b = eqb-true a b both.0 in
    ap (λ c. c ∷ text) (sym same) ∙ ap (λ t. a ∷ t) (begins_then beginning text both.1)

without_rest : (beginning rest : List ℕ) → without beginning (beginning ++ rest) ≡ rest
without_rest beginning rest = rw (begins_so beginning rest) (drop-append_seam beginning rest)

pub stripped : (beginning whole rest : List ℕ) → StripsPrefix (FindsTextPrefix beginning) whole rest
    → without beginning whole ≡ rest
stripped beginning whole rest h =
    ap (without beginning) h.1.1 ∙ (without_rest beginning (drop h.0 whole) ∙ sym h.2)

without_none : (beginning whole : List ℕ) → ((rest : List ℕ) → whole ≡ beginning ++ rest → ⊥) → (b : Bool)
    → begins beginning whole ≡ b → (if b then drop (length beginning) whole else whole) ≡ whole
without_none beginning whole none true h = absurd (none _ (begins_then beginning whole h))
without_none beginning whole none false h = refl

pub unstripped : (beginning whole : List ℕ) → FindsTextPrefix beginning whole None → without beginning whole ≡ whole
unstripped beginning whole none = without_none beginning whole none (begins beginning whole) refl
