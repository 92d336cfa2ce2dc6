use Rattle.std.proofs.Common.{◌∙◌, ◌+◌, ap, map, subst, arith, rules, take}
use Rattle.std.proofs.lemmas.List.{take_more, take_all, map-append}
use Rattle.resolvo_store.proofs.Words.{command_of, IsSound, reply_of, Run}
use Rattle.resolvo_store.specs.Store.{Provider, gathered}
use Rattle.resolvo_store.proofs.KnownLemmas.{IsLawful}
use Rattle.resolvo_store.proofs.CallerLaws.{store_in}
use Rattle.resolvo_store.proofs.ForbiddingLaws.{forbids_two}
use Rattle.resolvo_store.proofs.RunLemmas.{run_more}
use Rattle.resolvo_store.proofs.SoundSteps.{IsSound-run}
use Rattle.resolvo_store.proofs.store.ClauseStore.run.Invariants.{store}
use Rattle.resolvo_store.proofs.store.ClauseStore.run.Given.{Over}
use Rattle.resolvo_store.proofs.store.ClauseStore.run.Goals as goal

-- the provider's functions
abbrev given : (g : Over) → g.row.D.Denot → Provider g.row.D-NameId.Denot g.row.D-SolvableId.Denot
given g = gathered g.D.NameId.PartialEq.eq g.D.SolvableId.PartialEq.eq g.D.NameId.Slots.IdMap.is_too_large
    g.D.SolvableId.Slots.IdMap.is_too_large g.D.SolvableId.Set.IdSet.is_too_large g.D.NameId.SolverId.are_many
    g.D.Interner.universe g.D.DependencyProvider.answers

-- its laws
abbrev lawful : (g : Over) (p : g.row.D.Denot) → IsLawful (given g p)
lawful g p = record {
  reflexive = g.met.D.SolvableId.Eq.laws.refl;
  same = g.met.D.SolvableId.SameValue.same;
  same_names = g.met.D.NameId.SameValue.same;
  candidates = g.met.D.DependencyProvider.candidates_known p;
  order = g.met.D.DependencyProvider.order_permutes p;
}

pub loop-command-preserved : goal.loop-command-preserved
loop-command-preserved g c = record {
  ran = rw (
    take_more c.args.commands.now c.loop-command.command-index c.command-item.result
        c.loop-command-test.true,
    ← c.command-item.is,
    c.push_reserved.ensures.items,
  )
      (simp map-append (run_more (store g c.args.self.now) (store g c.loop-command.self) _ _ _ _ _
      c.loop-command.invariant.ran c.step-reply.ensures.step));
  provider = c.step-reply.ensures.provider ∙ c.loop-command.invariant.provider;
  len = c.push_reserved.ensures.len ∙ ap (λ n. n + 1) c.loop-command.invariant.len;
  room = search rules;
}

pub returns-clause-ok : goal.returns-clause-ok
returns-clause-ok g c =
    subst (λ cs. Run (store g c.args.self.now) (map command_of cs) (map reply_of c.loop-command.replies.items)
    (store g c.loop-command.self))
    (take_all c.loop-command.command-index c.args.commands.now c.loop-command-test.false) c.loop-command.invariant.ran

pub returns-clause-one_each : goal.returns-clause-one_each
returns-clause-one_each g c = omega (
  arith,
  c.loop-command.invariant.len,
  c.loop-command-test.false,
  c.loop-command.auto.command-index-end,
)

pub returns-clause-sound : goal.returns-clause-sound
returns-clause-sound g c =
    IsSound-run (map command_of (take c.loop-command.command-index c.args.commands.now))
    (map reply_of c.loop-command.replies.items) (lawful g c.self.inside.cache.provider)
    c.self.invariant.consistent.sound
    (rw (← c.self.view_is) at c.loop-command.invariant.ran)

pub returns-clause-at_most_one : goal.returns-clause-at_most_one
returns-clause-at_most_one g c = let sound = returns-clause-sound g c in forbids_two (store_in sound) sound

pub returns-in_err-replies-clause-at_most_one : goal.returns-in_err-replies-clause-at_most_one
returns-in_err-replies-clause-at_most_one g c =
    let sound = subst (λ k. IsSound (store g k)) c.self.view_is c.self.invariant.consistent.sound in
    forbids_two (store_in sound) sound
