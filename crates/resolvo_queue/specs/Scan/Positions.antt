-- Positions, in the order of the scan.
use Rattle.std.specs.Prelude.{◌≡◌, Bool, true, false, List}
use Rattle.resolvo_queue.specs.Types.{is_eq, is_gt, Less, list_any, nat_cmp, on, Ordering, Position, then_cmp}

-- by the parents' first numbers, then by the clauses' own
abbrev pub position_cmp : Position → Position → Ordering
position_cmp = then_cmp (on (λ (p : Position). p.first_of_parent) nat_cmp) (on (λ p. p.number) nat_cmp)

abbrev pub IsBefore : Position → Position → Type 0
IsBefore p q = position_cmp p q ≡ Less

abbrev pub is_after : Position → Position → Bool
is_after p q = is_gt (position_cmp p q)

abbrev pub same_position : Position → Position → Bool
same_position p q = is_eq (position_cmp p q)

-- the position is in the set
abbrev pub has : List Position → Position → Bool
has ps p = list_any (same_position p) ps

-- the position is in the set, behind another one, and none in the set is between
pub record IsNextBehind (set : List Position) (before p : Position) : Type 0 where
  pub there : has set p ≡ true
  pub behind : IsBefore before p
  pub least : (r : Position) → has set r ≡ true → IsBefore before r → is_after p r ≡ false
