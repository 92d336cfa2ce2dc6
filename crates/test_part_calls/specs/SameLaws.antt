-- The tests by which a pool finds equal values are symmetric and transitive.
use Rattle.std.specs.Prelude.{◌≡◌, ◌&&◌, ◌==◌, ℕ, Bool, true, false, refl, nat_eq, bytes_eq}
use Rattle.std.proofs.lemmas.Bool.{false≢true}
use Rattle.std.specs.Cmp.{IsPartialEquivalence, partial_equiv_from_equiv, on_per, and_per, nat_eq_equiv}
use Rattle.std.specs.Cmp.Lexicographic.{nat_list_eq_equiv}
use Rattle.providers.specs.declared.condition.Condition.{Condition}
use Rattle.providers.specs.declared.condition.Condition.TheVariants.{Binary, Requirement}
use Rattle.providers.specs.declared.condition.LogicalOperator.{LogicalOperator}
use Rattle.providers.specs.declared.condition.LogicalOperator.TheVariants.{And, Or}
use Rattle.package_pool.specs.Pool.{same_set, same_operator, same_condition}

same_number : IsPartialEquivalence nat_eq
same_number = partial_equiv_from_equiv nat_eq_equiv

pub same_text : IsPartialEquivalence bytes_eq
same_text = partial_equiv_from_equiv nat_list_eq_equiv

pub same_sets : {VS : Type 0} (same : VS → VS → Bool) → IsPartialEquivalence same → IsPartialEquivalence (same_set same)
same_sets {VS} same laws = and_per (on_per (λ (s : ℕ × VS). s.0) same_number) (on_per (λ (s : ℕ × VS). s.1) laws)

operators_symm : (o p : LogicalOperator) → same_operator o p ≡ same_operator p o
operators_symm And And = refl
operators_symm And Or = refl
operators_symm Or And = refl
operators_symm Or Or = refl

operators_trans : (o p q : LogicalOperator) → same_operator o p ≡ true → same_operator p q ≡ true →
    same_operator o q ≡ true
operators_trans And And q h k = k
operators_trans Or Or q h k = k
operators_trans And Or q h k = absurd (false≢true h)
operators_trans Or And q h k = absurd (false≢true h)

same_parts : IsPartialEquivalence (λ (x y : LogicalOperator × (ℕ × ℕ)).
    same_operator x.0 y.0 && ((x.1.0 == y.1.0) && (x.1.1 == y.1.1)))
same_parts =
    and_per (on_per (λ (x : LogicalOperator × (ℕ × ℕ)). x.0)
    (record { symm = operators_symm; trans = operators_trans }))
    (and_per (on_per (λ (x : LogicalOperator × (ℕ × ℕ)). x.1.0) same_number)
    (on_per (λ (x : LogicalOperator × (ℕ × ℕ)). x.1.1) same_number))

conditions_symm : (a b : Condition) → same_condition a b ≡ same_condition b a
conditions_symm (Requirement v) (Requirement w) = same_number.symm v.0 w.0
conditions_symm (Binary o a b) (Binary p c d) = same_parts.symm (o, (a, b)) (p, (c, d))
conditions_symm (Requirement v) (Binary p c d) = refl
conditions_symm (Binary o a b) (Requirement w) = refl

conditions_trans : (a b c : Condition) → same_condition a b ≡ true → same_condition b c ≡ true →
    same_condition a c ≡ true
conditions_trans (Requirement u) (Requirement v) (Requirement w) h k = same_number.trans u.0 v.0 w.0 h k
conditions_trans (Binary o a b) (Binary p c d) (Binary q e f) h k =
    same_parts.trans (o, (a, b)) (p, (c, d)) (q, (e, f)) h k
conditions_trans (Requirement u) (Binary p c d) z h k = absurd (false≢true h)
conditions_trans (Binary o a b) (Requirement v) z h k = absurd (false≢true h)
conditions_trans (Requirement u) (Requirement v) (Binary q e f) h k = absurd (false≢true k)
conditions_trans (Binary o a b) (Binary p c d) (Requirement w) h k = absurd (false≢true k)

pub same_conditions : IsPartialEquivalence same_condition
same_conditions = record { symm = conditions_symm; trans = conditions_trans }

pub never_same : {X : Type 0} → IsPartialEquivalence (λ (a b : X). false)
never_same = record { symm = λ a b. refl; trans = λ a b c h k. h }
