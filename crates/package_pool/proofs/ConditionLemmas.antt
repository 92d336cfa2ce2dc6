-- The `==` of conditions is what the definitions say.
use Rattle.std.proofs.Common.{◌≡◌, List, rules}
use Rattle.providers.specs.contracts.condition.ConditionPartialEq.TheImpl.{eq-value}
use Rattle.providers.specs.declared.condition.Condition.{Condition}
use Rattle.package_pool.specs.Interned.{has_same, interned, interned_place}
use Rattle.package_pool.specs.Pool.{same_condition}
use Rattle.package_pool.proofs.InternedLemmas.{has_by_test, place_by_test, interned_by_test}

same : (x y : Condition) → eq-value.it x y ≡ same_condition x y
same x y = search rules

pub has_condition : (list : List Condition) (x : Condition) →
    has_same eq-value.it list x ≡ has_same same_condition list x
has_condition = has_by_test eq-value.it same_condition same

pub place_of_condition : (list : List Condition) (x : Condition) →
    interned_place eq-value.it list x ≡ interned_place same_condition list x
place_of_condition = place_by_test eq-value.it same_condition same

pub interned_condition : (list : List Condition) (x : Condition) →
    interned eq-value.it list x ≡ interned same_condition list x
interned_condition = interned_by_test eq-value.it same_condition same
