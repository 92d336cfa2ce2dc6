-- What a question keeps, step by step.
use Rattle.std.proofs.Common.{◌≡◌, Bool, true, false, List, get_or, Option, Some, slice_get, ap, refl, ◌∙◌, subst}
use Rattle.resolvo_queue.proofs.Words.{CanDecide, clause_literals, ClauseIndex, Disjunction, eligible_frontier}
use Rattle.resolvo_queue.proofs.Words.{Frontier, frontier, has, CanInspect, IsListedWell, IsOfClause, IsReady, known_at}
use Rattle.resolvo_queue.proofs.Words.{Learns, Listed, Lists, LosesOnly, may_be, OnlyWalks, Position, Queued, Reading}
use Rattle.resolvo_queue.proofs.Words.{Record, References, references, Requirement, set_of, TrackedClause}
use Rattle.resolvo_queue.proofs.Words.{TrackedClauses, Universe, Values}
use Rattle.resolvo_queue.specs.References.{rows_in}
use Rattle.resolvo_queue.proofs.Picks.Ready.{dropped_ready, frontier_read, known_is_right, looked_ready, read_here}
use Rattle.resolvo_queue.proofs.Walks.Counts.{walks_along, walks_nothing}

-- ---- what is kept

pub only_walks_none : {A : Type 0} {t : TrackedClauses A} {reading : Reading A} → OnlyWalks t t reading reading
only_walks_none {A} {t} {reading} = record {
  once = walks_nothing t.requirements reading.walked;
  owes = λ k. refl;
  found = λ k. refl;
  index = refl;
  only_hot = refl;
  trail = refl;
  anew = refl;
  lists = refl;
}

pub only_walks_along : {A : Type 0} {a b c : TrackedClauses A} {l m n : Reading A} → OnlyWalks a b l m →
    OnlyWalks b c m n → OnlyWalks a c l n
only_walks_along {A} {a} {b} {c} {l} {m} {n} f g = record {
  once = walks_along a.requirements b.requirements c.requirements l.walked m.walked n.walked f.once g.once;
  owes = λ k. g.owes k ∙ f.owes k;
  found = λ k. g.found k ∙ f.found k;
  index = g.index ∙ f.index;
  only_hot = g.only_hot ∙ f.only_hot;
  trail = g.trail ∙ f.trail;
  anew = g.anew ∙ f.anew;
  lists = g.lists ∙ f.lists;
}

-- what depends on the clauses and on the lists alone stays
pub along_walks : {A P : Type 0} (f : List TrackedClause → Lists A → P) {old now : TrackedClauses A}
    {before after : Reading A} → OnlyWalks old now before after →
    f now.index.clauses.items after.lists ≡ f old.index.clauses.items before.lists
along_walks f {old} {now} {before} {after} walks =
    ap (λ ix. f ix.clauses.items after.lists) walks.index ∙ ap (f old.index.clauses.items) walks.lists

-- ---- what is asked

-- the same by other lists, if they are equal
pub asked_by : {N S A : Type 0} {universe : Universe N S} {lists lists' : Lists A} {disjunctions : List (Disjunction A)}
    {val : Values} {t : TrackedClauses A} → lists ≡ lists' → CanDecide (references universe lists disjunctions) val t →
    CanDecide (references universe lists' disjunctions) val t
asked_by {universe = universe} {disjunctions = disjunctions} {val = val} {t = t} e asked =
    subst (λ ls. CanDecide (references universe ls disjunctions) val t) e asked

module _ {N S A : Type 0} {refs : References N S A} {val : Values} where
  -- the same in the words of other clauses, if they are equal
  pub ready_by : {t : TrackedClauses A} {index : ClauseIndex A} → t.index ≡ index → CanDecide refs val t →
      IsReady index.clauses.items (clause_literals refs) (rows_in refs) val t.requirements t.queued
  ready_by {t} e asked = subst (λ ix. IsReady ix.clauses.items (clause_literals refs)
      (rows_in refs) val t.requirements t.queued) e asked.ready

  -- what is gone through holds positions of clauses
  pub of_clause : {t : TrackedClauses A} → CanDecide refs val t → (only_hot : Bool) (p : Position) →
      has (set_of only_hot t.queued) p ≡ true → IsOfClause t.index.clauses.items p
  of_clause asked true p h = asked.ready.hot_of p h
  of_clause asked false p h = asked.ready.all_of p h

-- a look at the clause that was read at a position
module _ {N S A : Type 0} {refs : References N S A} {val : Values} {t : TrackedClauses A}
    (asked : CanDecide refs val t) (p : Position) (of : IsOfClause t.index.clauses.items p) (c : TrackedClause)
    (read : c ≡ get_or t.index.clauses.items p.number c) where
  here : slice_get t.index.clauses.items p.number ≡ Some c
  here = read_here t.index.clauses.items p of c read

  pub askable_here : CanInspect refs c
  askable_here = asked.inspectable p.number c here

  pub right_here : (f : Option Frontier) → known_at t.requirements c.record ≡ Some f →
      f ≡ frontier val (rows_in refs c.requirement)
  right_here = known_is_right t.index.clauses.items (clause_literals refs)
      (rows_in refs) val t.requirements t.queued asked.ready p.number c here

  pub frontier_here : (found : Option Frontier) →
      found ≡ eligible_frontier val (clause_literals refs) (rows_in refs) c →
      (d : TrackedClause) → slice_get t.index.clauses.items p.number ≡ Some d →
      found ≡ eligible_frontier val (clause_literals refs) (rows_in refs) d
  frontier_here = frontier_read t.index.clauses.items (clause_literals refs)
      (rows_in refs) val t.requirements t.queued asked.ready p.number c here

  module _ (ts : List Record) (o : Listed) (listed : IsListedWell refs.lists o ts) (log log' : List Requirement)
      (learns : Learns c.requirement c.record (frontier val (rows_in refs c.requirement)) t.requirements
      ts log log') where
    pub looked_asked : CanDecide refs val (record {
      index = t.index;
      queued = t.queued;
      noted = t.noted;
      requirements = ts;
      occurrences = o;
      only_hot = t.only_hot;
      trail = t.trail;
      must_start_anew = t.must_start_anew;
    })
    looked_asked = record {
      located = asked.located;
      first = asked.first;
      inspectable = asked.inspectable;
      listed = listed;
      ready = looked_ready t.index.clauses.items (clause_literals refs)
          (rows_in refs) val t.requirements t.queued asked.ready p.number c here ts log log' learns;
    }

    pub dropped_asked : (q : Queued) → LosesOnly p t.queued q → may_be val (clause_literals refs) ts c ≡ false →
        CanDecide refs val (record {
          index = t.index;
          queued = q;
          noted = t.noted;
          requirements = ts;
          occurrences = o;
          only_hot = t.only_hot;
          trail = t.trail;
          must_start_anew = t.must_start_anew;
        })
    dropped_asked q loses not_possible = record {
      located = asked.located;
      first = asked.first;
      inspectable = asked.inspectable;
      listed = listed;
      ready = dropped_ready t.index.clauses.items (clause_literals refs)
          (rows_in refs) val t.requirements t.queued asked.ready p.number c here ts log log' learns
          asked.located q p of refl loses not_possible;
    }
