-- The queue without clauses.
use Rattle.std.proofs.Common.{◌≡◌, ℕ, ◌+◌, ◌<◌, ◌≤◌, ◌^◌, Bool, IfSome, true, false, List, [], map, length}
use Rattle.std.proofs.Common.{Option, None, Some, MatchOption, slice_get, sym, ap, ◌∙◌, subst, arith}
use Rattle.std.specs.Prelude.{All, Contains}
use Rattle.std.proofs.lemmas.List.Elements.{All-nil}
use Rattle.resolvo_queue.proofs.Words.{clause_of, frontier, has, HasNoClause, HasParts, is_empty_queue, IsFirstOf}
use Rattle.resolvo_queue.proofs.Words.{IsInOrder, IsWellFormed, known_at, list_any, list_at, newest_at, Queue, Record}
use Rattle.resolvo_queue.proofs.Words.{References}
use Rattle.resolvo_queue.proofs.Words.{rows_at, same_requirement, StandsOn, TrackedClause, Tracking, values_of}
use Rattle.resolvo_queue.specs.References.{rows_in}
use Rattle.resolvo_queue.proofs.Lists.{stands_if_contains}

-- no clause
no_clause : (cs : List TrackedClause) (P : Type 0) → cs ≡ [] → (n : ℕ) (c : TrackedClause) → slice_get cs n ≡ Some c → P
no_clause cs P none n c e = let bad : None ≡ Some c = ap (λ l. slice_get l n) (sym none) ∙ e in cc

differ : (P : Type 0) → false ≡ true → P
differ P d = cc

-- no condition has one
no_newest : {P : Type 0} (newest : List ℕ) → newest ≡ [] → (d k : ℕ) → newest_at newest d ≡ k + 1 → P
no_newest newest none d k e = let bad : 0 ≡ k + 1 = ap (λ l. newest_at l d) (sym none) ∙ e in absurd
    (omega (arith, bad))

order_new : (t : Tracking) → t.clauses ≡ [] → t.by_parent ≡ [] → t.newest_under ≡ [] → is_empty_queue t.queued →
    IsInOrder t
order_new t none lists newest empty = record {
  few = subst (λ cs. length cs < 2 ^ 32) (sym none) (omega arith);
  located = λ n c e. no_clause t.clauses _ none n c e;
  first = λ parent. subst (λ l. MatchOption (slice_get (list_at l parent) 0) (HasNoClause t.clauses parent)
      (IsFirstOf t.clauses parent)) (sym lists) (λ n c e. no_clause t.clauses _ none n c e);
  parents = λ n c e. no_clause t.clauses _ none n c e;
  chained = record {
    last = λ d. record {
      below = λ n c e. no_clause t.clauses _ none n c e;
      within = λ k e. no_newest t.newest_under newest d k e;
      own = λ k e c at. no_clause t.clauses _ none k c at;
    };
    earlier = λ n c e. no_clause t.clauses _ none n c e;
  };
  requirements = λ n c e. no_clause t.clauses _ none n c e;
  placed = λ n c e. no_clause t.clauses _ none n c e;
  all_of = λ p e. differ _ (sym (empty p).0 ∙ e);
  hot_of = λ p e. differ _ (sym (empty p).1 ∙ e);
}

pub kept_new : {N H : Type 0} (has : H → N → Bool) (q : Queue N H) → q.inside.clauses ≡ [] → q.inside.by_parent ≡ [] →
    q.inside.newest_under ≡ [] → is_empty_queue q.inside.queued → q.names ≡ [] → q.woken ≡ 0 → IsWellFormed has q
kept_new has q none lists newest empty names woken = record {
  order = order_new q.inside none lists newest empty;
  names = ap length names ∙ ap length (sym none);
  woken = subst (λ k. k ≤ length q.inside.clauses) (sym woken) (omega arith);
  cold = λ n c e cool. no_clause q.inside.clauses _ none n c e;
}

pub stands_new : {N S A H : Type 0} (refs : References N S A) (q : Queue N H) → q.clauses ≡ [] → q.inside.clauses ≡ [] →
    q.inside.requirements ≡ [] →
    q.inside.occurrences.listed ≡ [] → q.inside.occurrences.by_variable ≡ [] → StandsOn refs q
stands_new refs q whole none records listed lists = record {
  clauses = whole ∙ ap (map clause_of) (sym none);
  parts = subst (All (HasParts refs)) (sym whole) (All-nil (HasParts refs));
  conditions = λ n c e l s. no_clause q.inside.clauses _ none n c e;
  listed = record {
    entries = λ r e. differ _ (sym (ap (list_any (same_requirement r)) listed) ∙ e);
    all = λ r e. differ _ (sym (ap (list_any (same_requirement r)) listed) ∙ e);
    none_else = λ r v s. elim (stands_if_contains [] r (subst (λ l. Contains (list_at l v) r) lists s)) [ ];
    known = λ k t e h. no_record t k (ap (λ l. slice_get l k) (sym records) ∙ e);
  };
  synced = λ accepted. record {
    queued = λ n c at e. no_clause q.inside.clauses _ none n c at;
    right = λ k. subst (λ ts.
        IfSome (known_at ts k) (λ f. f ≡ frontier (values_of q.trail) (rows_at (rows_in refs) ts k))) (sym records) tt;
  };
}
  where
    no_record : {P : Type 0} (t : Record) (k : ℕ) → ◌≡◌ {A = Option Record} None (Some t) → P
    no_record t k e = cc
