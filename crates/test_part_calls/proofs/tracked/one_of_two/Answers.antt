use Rattle.std.proofs.Common.{◌≡◌, Bool, false, [], ◌∷◌, Some, None, refl, sym, subst, ap, ◌∙◌}
use Rattle.at_most_once.specs.AtMostOne.{Tracker, with_variable, IsAllowed, IsEncoding, SaysAtMostOne, is_satisfied}
use Rattle.test_part_calls.proofs.tracked.one_of_two.Goals as goal

-- with the first variable tracked
abbrev of_one : {V : Type 0} → V → Tracker V
of_one first = record { variables = first ∷ []; helpers = [] }

-- with both, and the helper that the second one needs
abbrev of_two : {V : Type 0} → V → V → V → Tracker V
of_two first second helper = record { variables = first ∷ second ∷ []; helpers = helper ∷ [] }

module _ {V : Type 0} (same : V → V → Bool) (first second helper : V) (different : same second first ≡ false) where
  second_tracked : with_variable same (of_one first) (Some helper) second ≡ of_two first second helper
  second_tracked = rw different refl

  second_allowed : same helper first ≡ false → same helper second ≡ false →
      IsAllowed same (of_one first) (Some helper) second
  second_allowed other other' = record {
    no_helper = refl;
    needed = rw different refl;
    fresh =
        ((rw other refl, refl), other');
  }

pub returns : goal.returns
returns g c =
    let same = g.V.PartialEq.eq in
    let start = subst (IsEncoding same c.new-tracker.result.tracker)
    (sym c.new-clauses.ensures.items) c.new-tracker.ensures.at_most_one in
    let first = c.add.ensures.at_most_one start
    (subst (λ t. IsAllowed same t None c.args.first) (sym c.new-tracker.ensures.empty)
    (record { no_helper = refl; needed = refl; fresh = tt })) in
    let one : c.add.new.self.tracker ≡ of_one c.args.first =
    c.in_ok-add.ensures.ok ∙ ap (λ t. with_variable same t None c.args.first) c.new-tracker.ensures.empty in
    let second = c.add-2.ensures.at_most_one first
    (subst (λ t. IsAllowed same t (Some c.args.helper) c.args.second) (sym one)
    (second_allowed same c.args.first c.args.second c.args.helper c.requires.different c.requires.other_than_first
    c.requires.other_than_second)) in
    let two : c.add-2.new.self.tracker ≡ of_two c.args.first c.args.second c.args.helper =
    c.in_ok-add-2.ensures.ok ∙ (ap (λ t. with_variable same t (Some c.args.helper) c.args.second) one
    ∙ second_tracked same c.args.first c.args.second c.args.helper c.requires.different) in
    subst (λ t. SaysAtMostOne same is_satisfied t c.add-2.new.clauses.items) two second.says
