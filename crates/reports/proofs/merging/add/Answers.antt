use Rattle.std.proofs.Common.{◌≡◌, ◌++◌, arith, drop, length, rules, take}
use Rattle.std.proofs.lemmas.Result.{on_ok_weaker}
use Rattle.reports.proofs.LineLemmas.{begun_if_none, written_back}
use Rattle.reports.proofs.merging.add.Goals as goal

pub returns : goal.returns
returns g c =
    let name = (g.I.Interner.universe c.args.interner.now).solvable_name in
    let lines = c.args.lines.now in
    let after = c.join_first.new.lines in
    let same : length after ≡ length lines.items = first_of (omega arith, search rules) in
    let full : lines.len ≡ length lines.items = first_of (omega arith, search rules) in
    let was : c.deref_mut.result.now ≡ lines.items = first_of (search rules, cc) in
    on_ok_weaker c.begin.result
    (λ tells. begun_if_none name lines.items c.deref_mut.result.now after
    (take lines.len (after ++ drop (length after) lines.items))
    c.begin.new.lines.items c.args.reason c.in_ok-joins.joins c.if-joins.false was
    (written_back lines.len after lines.items same full) c.in_ok-joins.ensures (tells name)) c.begin.ensures
