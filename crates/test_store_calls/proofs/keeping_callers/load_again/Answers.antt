use Rattle.std.proofs.Common.{subst, sym}
use Rattle.resolvo_store.proofs.CallerLaws.{store_in}
use Rattle.resolvo_store.proofs.KnownLemmas.{IsLawful}
use Rattle.test_store_calls.proofs.Words.{command_of, gathered, Load, Provider, reply_of, Step}
use Rattle.test_store_calls.proofs.StayingLaws.{same_loads, loads_candidates}
use Rattle.test_store_calls.proofs.keeping_callers.load_again.Given.{Over}
use Rattle.test_store_calls.proofs.keeping_callers.load_again.Goals as goal

-- the provider's functions
abbrev given : (g : Over) → g.row.D.Denot → Provider g.row.D-NameId.Denot g.row.D-SolvableId.Denot
given g = gathered g.D.NameId.PartialEq.eq g.D.SolvableId.PartialEq.eq g.D.NameId.Slots.IdMap.is_too_large
    g.D.SolvableId.Slots.IdMap.is_too_large g.D.SolvableId.Set.IdSet.is_too_large g.D.NameId.SolverId.are_many
    g.D.Interner.universe g.D.DependencyProvider.answers

-- its laws
abbrev lawful : (g : Over) (p : g.row.D.Denot) → IsLawful (given g p)
lawful g p = record {
  reflexive = g.met.D.SolvableId.Eq.laws.refl;
  same = g.met.D.SolvableId.SameValue.same;
  same_names = g.met.D.NameId.SameValue.same;
  candidates = g.met.D.DependencyProvider.candidates_known p;
  order = g.met.D.DependencyProvider.order_permutes p;
}

pub returns-clause-same : goal.returns-clause-same
returns-clause-same g c =
    let start = store_in c.step.ensures.was_sound in
    let loaded = store_in c.step.ensures.sound in
    let between = store_in c.step-2.ensures.sound in
    let end = store_in c.step-3.ensures.sound in
    let before = reply_of c.in_ok-before.before in
    let after = reply_of c.in_ok-after.after in
    let first = subst (λ reply. Step start (Load c.args.requirement) reply loaded)
    (sym c.in_ok-before.ensures.ok.0) c.step.ensures.step in
    let third = subst (λ reply. Step between (Load c.args.requirement) reply end)
    (sym c.in_ok-after.ensures.ok.0) c.step-3.ensures.step in
    same_loads start loaded between end c.args.requirement (command_of c.args.between.now) before
    (reply_of c.step-2.result) after
    (lawful g c.args.store.now.provider) first c.step-2.ensures.step third c.in_ok-after.ensures.ok.1
    c.in_ok-before.ensures.ok.1

pub returns-clause-candidates : goal.returns-clause-candidates
returns-clause-candidates g c =
    let start = store_in c.step.ensures.was_sound in
    let loaded = store_in c.step.ensures.sound in
    let between = store_in c.step-2.ensures.sound in
    let end = store_in c.step-3.ensures.sound in
    let before = reply_of c.in_ok-before.before in
    let after = reply_of c.in_ok-after.after in
    let first = subst (λ reply. Step start (Load c.args.requirement) reply loaded)
    (sym c.in_ok-before.ensures.ok.0) c.step.ensures.step in
    let third = subst (λ reply. Step between (Load c.args.requirement) reply end)
    (sym c.in_ok-after.ensures.ok.0) c.step-3.ensures.step in
    loads_candidates start loaded between end c.args.requirement (command_of c.args.between.now) before
    (reply_of c.step-2.result) after
    (lawful g c.args.store.now.provider) first c.step-2.ensures.step third c.in_ok-after.ensures.ok.1 c.requires
