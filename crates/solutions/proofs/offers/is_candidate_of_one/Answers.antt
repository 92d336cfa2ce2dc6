use Rattle.std.proofs.Common.{◌≡◌, ◌∙◌, ◌||◌, true, false, get_or, sym, ap, rules}
use Rattle.std.proofs.lemmas.List.{take_all}
use Rattle.std.proofs.lemmas.List.Folds.{list_any_at, list_any_more}
use Rattle.solutions.proofs.Words.{is_candidate, list_any}
use Rattle.solutions.proofs.offers.is_candidate_of_one.Invariants.{provided}
use Rattle.solutions.proofs.offers.is_candidate_of_one.Goals as goal

pub loop-set-preserved : goal.loop-set-preserved
loop-set-preserved g c =
    let test = is_candidate (provided g c.args.selection.now.provider.now) c.args.solvable in
    let sets = c.args.sets.now in
    let i = c.loop-set.set-index in
    let set = get_or sets i (record { 0 = 0 }) in
    let more : c.in_ok-is_candidate.field-0 ≡ false = search rules in
    list_any_more test sets i (record { 0 = 0 }) c.loop-set-test.true ∙ ap (λ b. b || test set) c.loop-set.invariant
    ∙ sym c.in_ok-is_candidate.ensures ∙ more

pub returns-then-branch : goal.returns-then-branch
returns-then-branch g c =
    let test = is_candidate (provided g c.args.selection.now.provider.now) c.args.solvable in
    let sets = c.args.sets.now in
    let i = c.loop-set.set-index in
    let last : c.in_ok-is_candidate.field-0 ≡ true = search rules in
    sym (list_any_at test sets i (record { 0 = 0 }) c.loop-set-test.true (sym c.in_ok-is_candidate.ensures ∙ last))

pub returns : goal.returns
returns g c =
    let test = is_candidate (provided g c.args.selection.now.provider.now) c.args.solvable in
    let sets = c.args.sets.now in
    let i = c.loop-set.set-index in
    sym (ap (list_any test) (sym (take_all i sets c.loop-set-test.false)) ∙ c.loop-set.invariant)
