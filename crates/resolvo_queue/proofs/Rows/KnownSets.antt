-- The version set of a frontier is known.
use Rattle.std.proofs.Common.{◌≡◌, true, Option, Result, Ok, Err, sym, subst, IfSome, IfOk}
use Rattle.resolvo_queue.proofs.Words.{AreUnionSetsKnown, Frontier, frontier, knows_requirement, Lists, lists_loaded}
use Rattle.resolvo_queue.proofs.Words.{loaded_rows, Requirement, sets_of, Universe, Values}
use Rattle.resolvo_queue.proofs.Rows.States.{frontier-known, sets_known}

pub frontier_set : {N S A E : Type 0} (universe : Universe N S) (lists : Lists A) (val : Values) (r : Requirement) →
    AreUnionSetsKnown universe → knows_requirement universe r ≡ true →
    (result : Result (Option Frontier) E) → IfOk result (λ f. f ≡ frontier val (loaded_rows universe lists r)) →
    IfOk result (λ f. IfSome f (λ g. universe.knows_set g.set ≡ true))
frontier_set universe lists val r unions known (Ok f) is =
    subst (λ o. IfSome o (λ g. universe.knows_set g.set ≡ true)) (sym is)
    (frontier-known (λ v. universe.knows_set v ≡ true) val (sets_of universe r) (lists_loaded lists r)
    (sets_known universe unions r known))
frontier_set universe lists val r unions known (Err e) is = tt
