use Rattle.std.proofs.Common.{◌∙◌}
use Rattle.serde_json.proofs.Views.{view-Array}
use Rattle.example_json.proofs.Words.{set_data, view}
use Rattle.example_json.proofs.GatherLemmas.{all_gathered, one_more}
use Rattle.example_json.proofs.values.Values.each_set.Goals as goal

pub loop-set-preserved : goal.loop-set-preserved
loop-set-preserved g c =
    let interner = c.args.self.now.interner.now in
    let value = set_data (g.I.Interner.universe interner) (g.I.Interner.texts interner) in
    one_more view value
    c.loop-set.values.items c.args.sets.now c.loop-set.set-index c.loop-set.invariant
    _ _ _ c.loop-set-test.true c.in_ok-set.ensures c.in_ok-push.ensures.ok

pub returns : goal.returns
returns g c =
    let interner = c.args.self.now.interner.now in
    let value = set_data (g.I.Interner.universe interner) (g.I.Interner.texts interner) in
    view-Array c.loop-set.values ∙ all_gathered view value
    c.loop-set.values.items c.args.sets.now c.loop-set.set-index c.loop-set.invariant
    c.loop-set-test.false
