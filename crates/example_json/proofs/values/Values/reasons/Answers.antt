use Rattle.std.proofs.Common.{◌∙◌, ap}
use Rattle.serde_json.proofs.Views.{view-Array}
use Rattle.example_json.proofs.Words.{reason_data, view}
use Rattle.example_json.proofs.GatherLemmas.{all_gathered, one_more}
use Rattle.example_json.proofs.values.Values.reasons.Goals as goal

pub loop-reason-preserved : goal.loop-reason-preserved
loop-reason-preserved g c =
    let interner = c.args.self.now.interner.now in
    let value = reason_data (g.I.Interner.universe interner) (g.I.Interner.texts interner) in
    one_more view value
    c.loop-reason.values.items c.args.reasons.now c.loop-reason.reason-index c.loop-reason.invariant
    _ _ c.reason-item.result c.loop-reason-test.true
    (c.in_ok-reason.ensures ∙ ap value c.reason-item.is)
    c.in_ok-push.ensures.ok

pub returns : goal.returns
returns g c =
    let interner = c.args.self.now.interner.now in
    let value = reason_data (g.I.Interner.universe interner) (g.I.Interner.texts interner) in
    view-Array c.loop-reason.values ∙ all_gathered view value
    c.loop-reason.values.items c.args.reasons.now c.loop-reason.reason-index c.loop-reason.invariant
    c.loop-reason-test.false
