use Rattle.std.proofs.Common.{All, sym, subst}
use Rattle.std.proofs.lemmas.Result.{IfOk-weaker}
use Rattle.debian_provider.specs.Needs.{IsAnswer, IsDemand, IsKeepingMore}
use Rattle.apt_solver.proofs.Searched.{none_found}
use Rattle.apt_solver.proofs.solving.pick.Goals as goal

pub returns-clause-kept : goal.returns-clause-kept
returns-clause-kept c =
    let archive = c.args.archive.now in
    λ few kept. IfOk-weaker c.pick_by_wishes.result _ _
    (none_found _ _ _ _ archive c.requires (IsKeepingMore few archive.rules) (λ there keeping. keeping.answer)
    c.args.requirements.now kept) c.pick_by_wishes.ensures.none

pub returns-clause-none : goal.returns-clause-none
returns-clause-none c =
    let archive = c.args.archive.now in
    λ same. IfOk-weaker c.pick_by_wishes.result _ _
    (none_found _ _ _ _ archive c.requires (IsAnswer archive.rules) (λ there is. is) c.args.requirements.now
    (subst (All (IsDemand archive.rules archive.reached.pool (IsAnswer archive.rules))) (sym same)
    c.requires.required)) c.pick_by_wishes.ensures.none
