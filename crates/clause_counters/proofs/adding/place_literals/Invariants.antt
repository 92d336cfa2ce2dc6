use Rattle.std.proofs.Common.{◌≡◌, ◌≤◌, ◌+◌, ℕ, Bool, cond, eqb, take}
use Rattle.clause_counters.proofs.Words.{All, all_places, AreFlagged, count, has_index, is_false_literal, is_newest}
use Rattle.clause_counters.proofs.Words.{IsStanding, list_any, literal_index, numbers_at, once, open_places}
use Rattle.clause_counters.proofs.Words.{standing_at, values_in, vec_capacity, vec_len}
use Rattle.clause_counters.proofs.adding.place_literals.Given as goal

abbrev pub invariant-loop-literal : goal.invariant-loop-literal
invariant-loop-literal g l = record {
  standing : IsStanding l.places.items l.literals.items;
  lists : (i h : ℕ) → count h (numbers_at l.places.items (standing_at l.literals.items i).groups) ≡
      count h (numbers_at l.fn.places.items (standing_at l.fn.literals.items i).groups)
      + cond (eqb l.group h) (once i (take l.literal-index l.list)) 0;
  newest : (i : ℕ) → is_newest l.places.items (standing_at l.literals.items i) l.group ≡
      list_any (has_index i) (take l.literal-index l.list);
  all : (h : ℕ) → all_places l.places.items l.literals.items h ≤
      all_places l.fn.places.items l.fn.literals.items h + cond (eqb l.group h) l.literal-index 0;
  left : (h : ℕ) → open_places l.places.items l.literals.items h ≡
      open_places l.fn.places.items l.fn.literals.items h + cond (eqb l.group h) l.left 0;
  flags : (is_false : ℕ → Bool) → AreFlagged l.fn.places.items l.fn.literals.items is_false
      → All (λ x. is_false (literal_index x) ≡ is_false_literal (values_in l.values) x) l.list
      → AreFlagged l.places.items l.literals.items is_false;
  counted : l.left ≤ l.literal-index;
  as_many : vec_len l.literals ≡ vec_len l.fn.literals;
  len : vec_len l.places ≤ vec_len l.fn.places + l.literal-index;
  room : vec_capacity l.places ≡ vec_capacity l.fn.places;
}
