use Rattle.std.proofs.Common.{◌≡◌, ◌∙◌, ◌<◌, true, length, ltb-true, slice_index, sym, rules, arith}
use Rattle.std.proofs.lemmas.Grind.{get_or_default_zero}
use Rattle.solutions.proofs.SettledLemmas.{none_settled, one_settled}
use Rattle.solutions.proofs.refuting.Replay.settle_all.Goals as goal

pub loop-place-init : goal.loop-place-init
loop-place-init g c =
    none_settled c.args.lists.now c.args.ranks.now c.args.self.now.theory.clauses.items
    c.args.self.now.trail.literals.items

pub loop-place-preserved : goal.loop-place-preserved
loop-place-preserved g c =
    let ranks = c.args.ranks.now in
    let place = c.loop-place.place in
    let rank = c.in-Some.rank.now in
    let inside : place < length ranks = ltb-true place (length ranks) (sym c.in-Some.ensures.lookup.0) in
    let has : slice_index ranks place ≡ rank = sym (c.in-Some.ensures.lookup.1
    ∙ get_or_default_zero ranks place rank inside) in
    let yes : c.in_ok-settle.field-0 ≡ true = search rules in
    one_settled c.args.lists.now ranks place c.index-lists-place.result rank c.loop-place-test.true
    c.index-lists-place.is has
    c.args.self.now.theory.clauses.items c.args.self.now.trail.literals.items c.loop-place.self.theory.clauses.items
    c.loop-place.self.trail.literals.items
    c.settle.new.self.theory.clauses.items c.settle.new.self.trail.literals.items c.deref.result.now
    c.deref.ensures.value
    c.loop-place.invariant (c.in_ok-settle.ensures yes)

pub returns-then-not-branch : goal.returns-then-not-branch
returns-then-not-branch g c = c.loop-place.invariant.unbeaten

pub returns-in_default : goal.returns-in_default
returns-in_default g c = c.loop-place.invariant.unbeaten

pub returns : goal.returns
returns g c = λ holds met true_ones place less at.
    let end = c.loop-place-test.false in
    c.loop-place.invariant.unbeaten holds met true_ones place (omega arith) at
