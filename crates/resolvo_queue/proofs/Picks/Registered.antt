-- What a question asks of the registered clauses, said of the tracked ones.
use Rattle.std.proofs.Common.{◌≡◌, ℕ, zero, suc, Bool, true, false, ◌&&◌, cond, List, [], ◌∷◌}
use Rattle.std.proofs.Common.{map, Option, None, Some, IfSome, slice_get, ap, ◌∙◌, subst, arith}
use Rattle.std.specs.Prelude.{All}
use Rattle.std.proofs.lemmas.List.Elements.{All-cons, All-head, All-nil, All-tail}
use Rattle.resolvo_queue.proofs.Words.{are_literals_false, CanInspectAll, AreNamed, CanWalk, clause_of, ColdHasNoScore}
use Rattle.resolvo_queue.proofs.Words.{Frontier, frontier, HasParts, IsWellFormed, known_true, Lists, lists_loaded, Lit}
use Rattle.resolvo_queue.proofs.Words.{loaded_rows, names_at, Queue, References, RequiresClause, sets_of, TrackedClause}
use Rattle.resolvo_queue.proofs.Words.{Universe, Values}
use Rattle.resolvo_queue.proofs.Rows.States.{frontier-known}
use Rattle.resolvo_queue.proofs.Lists.{same_some}

-- what holds of all registered clauses holds of each tracked one
pub all_tracked : (P : RequiresClause → Type 0) (cs : List TrackedClause) → All P (map clause_of cs) →
    (n : ℕ) (c : TrackedClause) → slice_get cs n ≡ Some c → P (clause_of c)
all_tracked P [] a n c e = cc
all_tracked P (x ∷ xs) a zero c e = subst (λ (y : TrackedClause). P (clause_of y)) (same_some x c e)
    (a 0 (clause_of x) (omega arith))
all_tracked P (x ∷ xs) a (suc n) c e = all_tracked P xs (λ k d h. a (suc k) d (omega arith)) n c e

pub askable_tracked : {N S A : Type 0} (refs : References N S A) (cs : List TrackedClause) →
    All (HasParts refs) (map clause_of cs) → All (CanWalk refs) (map clause_of cs) → CanInspectAll refs cs
askable_tracked refs cs parts walkable n c e = record {
  condition = (all_tracked (HasParts refs) cs parts n c e).disjunction;
  walkable = all_tracked (CanWalk refs) cs walkable n c e;
}

-- a clause that isn't hot has no score, if none of its names is hot, and only hot names have scores
pub cold_without_score : {N S A : Type 0} (universe : Universe N S) (lists : Lists A) (val : Values)
    (literals : TrackedClause → List Lit) (hot : N → Bool) (scores : N → ℕ) (cs : List TrackedClause) →
    ((n : ℕ) (c : TrackedClause) → slice_get cs n ≡ Some c → c.is_hot ≡ false →
    All (λ v. hot (universe.set_name v) ≡ false) (sets_of universe c.requirement)) →
    ((name : N) → hot name ≡ false → scores name ≡ 0) →
    ColdHasNoScore cs literals (loaded_rows universe lists) val (λ v. scores (universe.set_name v))
cold_without_score universe lists val literals hot scores cs cold only n c e is f found = only (universe.set_name f.set)
    (go (known_true (val c.parent) && are_literals_false val (literals c))
    (frontier val (loaded_rows universe lists c.requirement))
    (frontier-known (λ v. hot (universe.set_name v) ≡ false) val (sets_of universe c.requirement)
    (lists_loaded lists c.requirement) (cold n c e is)) found)
  where
    go : (b : Bool) (o : Option Frontier) → IfSome o (λ g. hot (universe.set_name g.set) ≡ false) →
        cond b o None ≡ Some f → hot (universe.set_name f.set) ≡ false
    go true o h s = subst (λ p. IfSome p (λ g. hot (universe.set_name g.set) ≡ false)) s h
    go false o h s = let bad : None ≡ Some f = s in cc

-- ---- names

all_mapped : {X Y : Type 0} (P : Y → Type 0) (f : X → Y) (xs : List X) → All P (map f xs) → All (λ x. P (f x)) xs
all_mapped P f [] a = All-nil (λ x. P (f x))
all_mapped P f (x ∷ xs) a = All-cons (λ y. P (f y)) x xs (All-head P (f x) (map f xs) a)
    (all_mapped P f xs (All-tail P (f x) (map f xs) a))

named_at : {N S : Type 0} (universe : Universe N S) (cs : List TrackedClause) (n : ℕ) (c : TrackedClause) →
    slice_get cs n ≡ Some c →
    names_at (map (λ r. map universe.set_name (sets_of universe r.requirement)) (map clause_of cs)) n ≡
    map universe.set_name (sets_of universe c.requirement)
named_at universe [] n c e = cc
named_at universe (x ∷ xs) zero c e =
    ap (λ (d : TrackedClause). map universe.set_name (sets_of universe d.requirement)) (same_some x c e)
named_at universe (x ∷ xs) (suc n) c e = named_at universe xs n c e

-- a clause that isn't hot requires no version set of a hot name
pub cold_sets : {N S H : Type 0} (universe : Universe N S) (has : H → N → Bool) (q : Queue N H) →
    q.clauses ≡ map clause_of q.inside.clauses → AreNamed universe q → IsWellFormed has q →
    (n : ℕ) (c : TrackedClause) → slice_get q.inside.clauses n ≡ Some c → c.is_hot ≡ false →
    All (λ v. has q.hot (universe.set_name v) ≡ false) (sets_of universe c.requirement)
cold_sets universe has q whole named kept n c e cool =
    let names : names_at q.names n ≡ map universe.set_name (sets_of universe c.requirement) =
    ap (λ l. names_at l n) (named ∙ ap (map (λ r. map universe.set_name (sets_of universe r.requirement))) whole) ∙
    named_at universe q.inside.clauses n c e in
    all_mapped (λ m. has q.hot m ≡ false) universe.set_name (sets_of universe c.requirement)
    (subst (All (λ m. has q.hot m ≡ false)) names (kept.cold n c e cool))
