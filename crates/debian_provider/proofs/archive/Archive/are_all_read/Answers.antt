use Rattle.std.proofs.Common.{◌∙◌, ◌≤◌, arith, length, sym}
use Rattle.std.proofs.lemmas.Bool.{ltb-false, not-true}
use Rattle.debian_provider.proofs.archive.Archive.are_all_read.Goals as goal

pub returns : goal.returns
returns c = λ h.
    let past : length c.args.self.now.reached.pool.solvables ≤ c.from_index-next.result =
    ltb-false _ _ (sym c.knows_solvable.ensures ∙ not-true _ h) in
    omega (arith, past, c.from_index-next.ensures, c.len-place.ensures, c.args.self.now.needs.ok.0)
