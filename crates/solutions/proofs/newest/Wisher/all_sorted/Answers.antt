use Rattle.std.proofs.Common.{◌≡◌, ◌∙◌, ◌++◌, ap, get_or, rules}
use Rattle.std.proofs.lemmas.List.{take_all}
use Rattle.solutions.proofs.Words.{flat_map, sorted}
use Rattle.solutions.proofs.EncodingLemmas.{own_default}
use Rattle.solutions.proofs.NewestLemmas.{next_list}
use Rattle.solutions.proofs.newest.Wisher.all_sorted.Goals as goal

pub loop-set-preserved : goal.loop-set-preserved
loop-set-preserved g c =
    let provider = c.args.self.now.provider.now in
    let list = sorted (g.D.Interner.universe provider) (g.D.DependencyProvider.answers provider)
    g.D.SolvableId.PartialEq.eq in
    let sets = c.args.sets.now in
    let i = c.loop-set.set-index in
    let set = get_or sets i (record { 0 = 0 }) in
    let old = c.loop-set.all.items in
    let added : c.extend_from_slice.new.self.items ≡ old ++ c.deref.result.now = search rules in
    next_list sets i set c.loop-set-test.true (own_default sets i (record { 0 = 0 }) c.loop-set-test.true)
    list old c.extend_from_slice.new.self.items c.deref.result.now c.loop-set.invariant added (c.deref.ensures.value
    ∙ c.in_ok-found.ensures)

pub returns : goal.returns
returns g c =
    let provider = c.args.self.now.provider.now in
    let list = sorted (g.D.Interner.universe provider) (g.D.DependencyProvider.answers provider)
    g.D.SolvableId.PartialEq.eq in
    c.loop-set.invariant ∙ ap (flat_map list) (take_all c.loop-set.set-index c.args.sets.now c.loop-set-test.false)
