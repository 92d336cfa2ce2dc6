-- The names of an index.
use Rattle.std.specs.Prelude.{ℕ, ◌^◌, List, length, min}
use Rattle.std.specs.List.{range_with_len}
use Rattle.example_index.specs.declared.index.SmallIndex.{SmallIndex}

-- all of them, in their order: an index has 2^32 at most
abbrev pub names_of : SmallIndex → List ℕ
names_of index = range_with_len 0 (min (2 ^ 32) (length index.pool.names))
