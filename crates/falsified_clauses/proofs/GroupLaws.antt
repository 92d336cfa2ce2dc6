-- The numbers of a clause's groups.
use Rattle.std.proofs.Common.{◌≡◌, ℕ, zero, suc, ◌<◌, List, [], ◌∷◌, length, map, Option, Some, None}
use Rattle.std.proofs.Common.{refl, sym, ap, ◌∙◌, subst, arith}
use Rattle.falsified_clauses.proofs.Words.{All, Condition, condition_number, Contains, Demand, GroupKey}
use Rattle.falsified_clauses.proofs.Words.{HasConditionGroup, HasGroups, IsConditionKey, KeepsNumbers, keys_of}
use Rattle.falsified_clauses.proofs.Words.{keys_under, number_in, numbers, numbers_in, Parent, Rows}

-- ---- as keys come

module _ (old new : List GroupKey) (keeps : KeepsNumbers old new) where
  pub numbers_kept : (ks : List GroupKey) → All (λ number. number < length old) (map (number_in old) ks)
      → map (number_in new) ks ≡ map (number_in old) ks
  numbers_kept [] all = refl
  numbers_kept (k ∷ ks) all =
      let head = (keeps k (all 0 0 (omega arith))).0 in
      let rest = numbers_kept ks (λ i d l. all (suc i) d (omega (arith, l))) in
      cc

  pub numbers_there : (ks : List GroupKey) → All (λ number. number < length old) (map (number_in old) ks)
      → All (λ number. number < length new) (map (number_in new) ks)
  numbers_there [] all i d l = absurd (omega arith)
  numbers_there (k ∷ ks) all zero d l = (keeps k (all 0 0 (omega arith))).1
  numbers_there (k ∷ ks) all (suc i) d l =
      numbers_there ks (λ j e m. all (suc j) e (omega (arith, m))) i d (omega (arith, l))

-- ---- from the number of each

all_two : (P : ℕ → Type 0) (a b : ℕ) → P a → P b → All P (a ∷ b ∷ [])
all_two P a b p q zero d l = p
all_two P a b p q (suc zero) d l = q
all_two P a b p q (suc (suc i)) d l = absurd (omega (arith, l))

all_three : (P : ℕ → Type 0) (a b c : ℕ) → P a → P b → P c → All P (a ∷ b ∷ c ∷ [])
all_three P a b c p q r zero d l = p
all_three P a b c p q r (suc zero) d l = q
all_three P a b c p q r (suc (suc zero)) d l = r
all_three P a b c p q r (suc (suc (suc i))) d l = absurd (omega (arith, l))

-- the keys of a clause's parent, of its condition and of its rows are among its own
pub has_parent : (clause : Demand) → Contains (keys_of clause) (Parent clause.parent)
has_parent clause = go clause.condition
  where
    go : (o : Option ℕ) → Contains (keys_under o clause) (Parent clause.parent)
    go None = (0, omega arith, refl)
    go (Some d) = (0, omega arith, refl)

pub has_condition : (clause : Demand) (key : GroupKey) → IsConditionKey clause.condition key
    → Contains (keys_of clause) key
has_condition clause key is = subst (Contains (keys_of clause)) (sym is.2)
    (subst (λ o. Contains (keys_under o clause) (Condition is.0)) (sym is.1) (1, omega arith, refl))

pub has_rows : (clause : Demand) → Contains (keys_of clause) (Rows clause.requirement)
has_rows clause = go clause.condition
  where
    go : (o : Option ℕ) → Contains (keys_under o clause) (Rows clause.requirement)
    go None = (1, omega arith, refl)
    go (Some d) = (2, omega arith, refl)

-- a number is a key's, and there is such a key
abbrev pub IsNumber : List GroupKey → GroupKey → ℕ → Type 0
IsNumber keys key number = (number ≡ number_in keys key) × (number_in keys key < length keys)

-- the condition's number stays as keys come
pub condition_kept : (old new : List GroupKey) → KeepsNumbers old new → (condition : Option ℕ)
    → HasConditionGroup old condition
    → (condition_number new condition ≡ condition_number old condition) × HasConditionGroup new condition
condition_kept old new keeps None there = (refl, tt)
condition_kept old new keeps (Some d) there = let kept = keeps (Condition d) there in (ap Some kept.0, kept.1)

-- these are the numbers of the clause's groups
pub groups_are : (keys : List GroupKey) (clause : Demand) (parent rows : ℕ) (condition : Option ℕ)
    → IsNumber keys (Parent clause.parent) parent → IsNumber keys (Rows clause.requirement) rows
    → condition ≡ condition_number keys clause.condition → HasConditionGroup keys clause.condition
    → (numbers parent condition rows ≡ numbers_in keys clause) × HasGroups keys clause
groups_are keys clause parent rows condition of_parent of_rows is there =
    let all = under clause.condition there in (
      ap (λ o. numbers parent o rows) is
          ∙ (ap (λ n. numbers n (condition_number keys clause.condition) rows) of_parent.0
          ∙ (ap (numbers (number_in keys (Parent clause.parent)) (condition_number keys clause.condition)) of_rows.0
          ∙ all.0)),
      all.1,
    )
  where
    under : (o : Option ℕ) → HasConditionGroup keys o
        → (numbers (number_in keys (Parent clause.parent)) (condition_number keys o)
        (number_in keys (Rows clause.requirement)) ≡ map (number_in keys) (keys_under o clause))
        × All (λ number. number < length keys) (map (number_in keys) (keys_under o clause))
    under None has = (refl, all_two (λ number. number < length keys) _ _ of_parent.1 of_rows.1)
    under (Some d) has = (refl, all_three (λ number. number < length keys) _ _ _ of_parent.1 has of_rows.1)
