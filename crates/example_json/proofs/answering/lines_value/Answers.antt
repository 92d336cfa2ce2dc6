use Rattle.std.proofs.Common.{List, ℕ, Bor, ◌∙◌, ap, map}
use Rattle.std.proofs.lemmas.Iterator.Consumers.{YieldsList-end}
use Rattle.std.proofs.lemmas.Iterator.Splits.{YieldsList-from_lines}
use Rattle.serde_json.proofs.Views.{view-Array}
use Rattle.example_json.proofs.Words.{array, items_of, string, view}
use Rattle.example_json.proofs.GatherLemmas.{map_twice, one_taken}
use Rattle.example_json.proofs.answering.lines_value.Goals as goal

pub loop-line-preserved : goal.loop-line-preserved
loop-line-preserved c =
    one_taken view (λ (line : Bor (List ℕ)). string line.now) c.loop-line.values.items c.loop-line.yielded
    c.loop-line.invariant _ _ c.in-Some.line c.in_ok-try_from_str.ensures c.in_ok-push.ensures.ok

pub returns : goal.returns
returns c =
    let whole = YieldsList-end (YieldsList-from_lines c.args.text.now cc) c.loop-line.yielded _ c.loop-line.yielded_by
    _ _ c.in-None.is c.next.ensures.steps in
    view-Array c.loop-line.values
    ∙ ap (λ l. array (items_of l))
    (c.loop-line.invariant
    ∙ map_twice string (λ (line : Bor (List ℕ)). line.now) c.loop-line.yielded ∙ ap (map string) whole.0)
