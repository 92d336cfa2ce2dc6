use Rattle.std.proofs.Common.{string_bytes}
use Rattle.providers.specs.Texts.{single_text}
use Rattle.providers.proofs.GatherLemmas.{one_more, none_left}
use Rattle.providers.proofs.requirement_text.texts_of_sets.Goals as goal

pub loop-set-preserved : goal.loop-set-preserved
loop-set-preserved g c =
    one_more string_bytes (single_text (g.I.Interner.universe c.args.interner.now)
    (g.I.Interner.texts c.args.interner.now))
    c.loop-set.texts.items c.args.sets.now c.loop-set.set-index c.loop-set.invariant
    c.push.new.self.items c.in_ok-text.text _ c.loop-set-test.true c.in_ok-text.ensures.ok c.in_ok-push.ensures.items

pub returns-clause-ok : goal.returns-clause-ok
returns-clause-ok g c =
    none_left string_bytes (single_text (g.I.Interner.universe c.args.interner.now)
    (g.I.Interner.texts c.args.interner.now))
    c.loop-set.texts.items c.args.sets.now c.loop-set.set-index c.loop-set.invariant c.loop-set-test.false
