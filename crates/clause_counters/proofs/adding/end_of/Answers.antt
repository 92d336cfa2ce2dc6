use Rattle.std.proofs.Common.{◌≡◌, ◌+◌, ◌<◌, ◌≤◌, get_or, ap, ◌∙◌, arith}
use Rattle.std.proofs.lemmas.List.{get_or_default, get_or_read}
use Rattle.std.proofs.lemmas.List.Elements.{AllWithin-more}
use Rattle.clause_counters.proofs.Words.{literal_index, Pos}
use Rattle.clause_counters.proofs.adding.end_of.Goals as goal

pub loop-literal-preserved : goal.loop-literal-preserved
loop-literal-preserved c =
    let inv = c.loop-literal.invariant in
    let list = c.args.list.now in
    let k = c.loop-literal.literal-index in
    let test = c.loop-literal-test.true in
    let at : c.literal-item.result ≡ get_or list k (Pos 0) =
    get_or_read list k c.literal-item.result test c.literal-item.is (Pos 0) in
    let index : c.to_index.result ≡ literal_index (get_or list k (Pos 0)) =
    c.to_index.ensures.value ∙ ap literal_index at in
    let max = c.max-end.ensures in
    record {
      least = (let least = inv.least in omega (arith, max, least));
      needed = λ n small all. (let so_far = inv.needed n small all in let own = all k (Pos 0) test in
          omega (arith, max, index, so_far, own));
      reached = AllWithin-more (λ x. literal_index x < c.max-end.result) list 0 k
          (λ j d low high. let was = inv.reached j d low high in omega (arith, max, was))
          (λ d. let same = ap literal_index (get_or_default list k d (Pos 0) test) in
          omega (arith, max, index, same));
    }
