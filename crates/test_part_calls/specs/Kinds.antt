-- What is read by the ids of a pool.
use Rattle.std.specs.Prelude.{List, [], ◌∷◌}
use Rattle.test_part_calls.specs.declared.kinds.Seen.{Seen}
use Rattle.test_part_calls.specs.declared.kinds.Seen.TheVariants.{One, Row}

abbrev pub parts_of : {T : Type 0} → Seen T → List T
parts_of (One value) = value.now ∷ []
parts_of (Row values) = values.now
