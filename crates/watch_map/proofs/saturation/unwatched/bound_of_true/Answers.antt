use Rattle.std.proofs.Common.{◌≡◌, ◌<◌, true, sym, subst, ◌∙◌, take_all, arith}
use Rattle.watch_map.proofs.Words.{All, AreAllTrue, is_true, values_in}
use Rattle.watch_map.specs.Visits.{literals_at}
use Rattle.watch_map.proofs.UnwatchedLaws.{one_more, below_here}
use Rattle.watch_map.proofs.saturation.unwatched.bound_of_true.Goals as goal

pub loop-place-preserved : goal.loop-place-preserved
loop-place-preserved g c =
    let input = c.args.input.now in
    let now = values_in c.args.map.now in
    let literals = literals_at input in
    one_more input.unwatched.now c.loop-place.place c.index-input-place.result c.loop-place-test.true
    c.index-input-place.is
    (λ x. is_true now (literals x) ≡ true) c.loop-place.invariant
    (subst (λ x. is_true now (literals x) ≡ true) (sym c.index-input-place.is)
    (sym c.is_clause_true.ensures ∙ c.if-not-is_clause_true.false))

pub returns-then-not-is_clause_true-clause-within : goal.returns-then-not-is_clause_true-clause-within
returns-then-not-is_clause_true-clause-within g c =
    let input = c.args.input.now in
    let below = c.requires.there c.loop-place.place c.index-input-place.result c.loop-place-test.true in
    let is = c.index-input-place.is in
    let index = c.to_index.ensures.value in
    omega (arith, below, is, index)

pub returns-then-not-is_clause_true-clause-below : goal.returns-then-not-is_clause_true-clause-below
returns-then-not-is_clause_true-clause-below g c =
    let input = c.args.input.now in
    let now = values_in c.args.map.now in
    let literals = literals_at input in
    subst (λ n. All (λ x. x < n → is_true now (literals x) ≡ true) input.unwatched.now)
    (c.index-input-place.is ∙ sym c.to_index.ensures.value)
    (below_here input.unwatched.now c.loop-place.place c.index-input-place.result c.loop-place-test.true
    c.index-input-place.is
    c.requires.ascending (λ x. is_true now (literals x) ≡ true) c.loop-place.invariant)

pub returns-clause-below : goal.returns-clause-below
returns-clause-below g c k d h below =
    let input = c.args.input.now in
    let ids = input.unwatched.now in
    let ended = c.loop-place-test.false in
    subst (λ xs. AreAllTrue (literals_at input) xs (values_in c.args.map.now))
    (take_all c.loop-place.place ids (omega (arith, ended))) c.loop-place.invariant k d h
