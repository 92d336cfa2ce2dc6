-- Words of 64 bits as sets of indexes.
use Rattle.std.specs.Prelude.{ℕ, ◌/◌, ◌%◌, Bool, List, ◌==◌, slice_index}
use Rattle.std.specs.Int.{bit_at}

-- whether the bit at the index is set, counted from the lowest bit of the first word; past the last word none is
abbrev pub has_bit : List ℕ → ℕ → Bool
has_bit words index = bit_at (slice_index words (index / 64)) (index % 64) == 1
