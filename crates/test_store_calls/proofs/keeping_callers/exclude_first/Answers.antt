use Rattle.resolvo_store.proofs.CallerLaws.{store_in}
use Rattle.resolvo_store.proofs.KeepingLaws.{OnlyGrows-run, clause_stays}
use Rattle.resolvo_store.proofs.KnownLemmas.{IsLawful}
use Rattle.test_store_calls.proofs.Words.{gathered, Provider, store_of}
use Rattle.test_store_calls.proofs.ClauseLaws.{excluded_there}
use Rattle.test_store_calls.proofs.keeping_callers.exclude_first.Given.{Over}
use Rattle.test_store_calls.proofs.keeping_callers.exclude_first.Goals as goal

-- the provider's functions
abbrev given : (g : Over) → g.row.D.Denot → Provider g.row.D-NameId.Denot g.row.D-SolvableId.Denot
given g = gathered g.D.NameId.PartialEq.eq g.D.SolvableId.PartialEq.eq g.D.NameId.Slots.IdMap.is_too_large
    g.D.SolvableId.Slots.IdMap.is_too_large g.D.SolvableId.Set.IdSet.is_too_large g.D.NameId.SolverId.are_many
    g.D.Interner.universe g.D.DependencyProvider.answers

-- its laws
abbrev lawful : (g : Over) (p : g.row.D.Denot) → IsLawful (given g p)
lawful g p = record {
  reflexive = g.met.D.SolvableId.Eq.laws.refl;
  same = g.met.D.SolvableId.SameValue.same;
  same_names = g.met.D.NameId.SameValue.same;
  candidates = g.met.D.DependencyProvider.candidates_known p;
  order = g.met.D.DependencyProvider.order_permutes p;
}

pub returns : goal.returns
returns g c =
    let store = store_of (given g) g.D.NameId.Scores.IdMap.value_at in
    let old = store c.args.store.now in
    let mid = store c.exclude.new.self in
    let new = store_in c.run.ensures.sound in
    let added = c.in_ok-added.added in
    clause_stays (OnlyGrows-run mid new _ _ (lawful g _) c.in_ok-run.ensures.ok) added.clause _
    (excluded_there old mid c.args.variable c.args.reason added.clause added.is_conflict c.in_ok-added.ensures.step)
