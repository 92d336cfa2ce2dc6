-- One package: all ids are known, and each condition but the first joins that with itself.
use Rattle.std.specs.Prelude.{◌≡◌, ℕ, ◌<◌, ◌==◌, if◌then◌else◌, Bool, true, false, [], codes, refl}
use Rattle.std.proofs.Common.{arith}
use Rattle.std.proofs.lemmas.Bool.Decides.{nat_tests}
use Rattle.providers.specs.declared.condition.Condition.{Condition}
use Rattle.providers.specs.declared.condition.Condition.TheVariants.{Binary, Requirement}
use Rattle.providers.specs.declared.condition.LogicalOperator.TheVariants.{And}
use Rattle.providers.specs.Provider.{Universe, IsMadeOfKnown, AreOperandsKnown}
use Rattle.providers.specs.Texts.{Texts}

abbrev pub first_or_joined : Bool → Condition
first_or_joined is_first = if is_first then Requirement (record { 0 = 0 }) else Binary And 0 0

abbrev pub all_known : Universe ℕ ℕ
all_known = record {
  knows_string = λ s. true;
  knows_name = λ n. true;
  knows_solvable = λ s. true;
  knows_set = λ v. true;
  knows_union = λ u. true;
  knows_condition = λ c. true;
  solvable_name = λ s. 0;
  set_name = λ v. 0;
  union_sets = λ u. [];
  condition = λ c. first_or_joined (c == 0);
}

abbrev pub texts_of_all : Texts ℕ ℕ
texts_of_all = record {
  solvable = λ s. codes "a 1";
  name = λ n. codes "a";
  version_set = λ v. codes "1";
  string = λ s. codes "old";
}

made_of_known : (is_first : Bool) (c : ℕ) → (is_first ≡ false → 0 < c) →
    IsMadeOfKnown all_known c (first_or_joined is_first)
made_of_known true c later = refl
made_of_known false c later = (refl, later refl, refl, later refl)

pub each_made_of_known : AreOperandsKnown all_known
each_made_of_known c h = made_of_known (c == 0) c (λ e. grind (arith, nat_tests, e))
