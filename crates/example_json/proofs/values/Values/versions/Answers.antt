use Rattle.std.proofs.Common.{◌∙◌, ap}
use Rattle.serde_json.proofs.Views.{view-Array}
use Rattle.example_json.proofs.Words.{version_data, view}
use Rattle.example_json.proofs.GatherLemmas.{all_gathered, one_more}
use Rattle.example_json.proofs.values.Values.versions.Goals as goal

pub loop-solvable-preserved : goal.loop-solvable-preserved
loop-solvable-preserved g c =
    let interner = c.args.self.now.interner.now in
    let value = version_data (g.I.Interner.universe interner) (g.I.Interner.texts interner) in
    one_more view value
    c.loop-solvable.values.items c.args.solvables.now c.loop-solvable.solvable-index c.loop-solvable.invariant
    _ _ c.solvable-item.result c.loop-solvable-test.true
    (c.in_ok-version.ensures ∙ ap value c.solvable-item.is)
    c.in_ok-push.ensures.ok

pub returns : goal.returns
returns g c =
    let interner = c.args.self.now.interner.now in
    let value = version_data (g.I.Interner.universe interner) (g.I.Interner.texts interner) in
    view-Array c.loop-solvable.values ∙ all_gathered view value
    c.loop-solvable.values.items c.args.solvables.now c.loop-solvable.solvable-index c.loop-solvable.invariant
    c.loop-solvable-test.false
