-- The stack of marks: what is below a limit, and what stands in it.
use Rattle.std.proofs.Common.{◌≡◌, ℕ, ◌+◌, ◌-◌, ◌<◌, ◌≤◌, Bool, true, false, not}
use Rattle.std.proofs.Common.{◌&&◌, List, [], ◌∷◌, ◌++◌, length, get_or, take}
use Rattle.std.proofs.Common.{cond, refl, sym, ap, subst, ◌∙◌, arith, append-nil, take_all}
use Rattle.std.proofs.lemmas.List.{get_or_default, length-take-le}
use Rattle.std.proofs.lemmas.Bool.Decides.{nat_tests}
use Rattle.std.proofs.lemmas.List.Elements.{All-head, All-tail, filter_more}
use Rattle.watch_map.proofs.Words.{All, AreRising, beginning, filter, is_from, Level, Limit, Mark, marks_below, nat_lt}
use Rattle.watch_map.proofs.Words.{newest_mark, Place}
use Rattle.watch_map.specs.Marks.{IsBehind}
use Rattle.watch_map.proofs.LiteralLists.{by_test}

-- a test that all pass keeps all
filter_whole : {X : Type 0} (p : X → Bool) (xs : List X) → All (λ x. p x ≡ true) xs → filter p xs ≡ xs
filter_whole p [] all = refl
filter_whole p (x ∷ xs) all =
    rw (All-head (λ y. p y ≡ true) x xs all)
    (ap (λ ys. x ∷ ys) (filter_whole p xs (All-tail (λ y. p y ≡ true) x xs all)))

-- a test that none passes keeps all, where it is turned
pub filter_none : {X : Type 0} (p : X → Bool) (xs : List X) → ((x : X) → p x ≡ false) → filter (λ x. not (p x)) xs ≡ xs
filter_none p xs none = filter_whole (λ x. not (p x)) xs (λ k d h. ap not (none (get_or xs k d)))

-- what is from the limit on has no mark behind that isn't
from_kept : (limit : Limit) (a b : Mark) → IsBehind a b → is_from limit b ≡ false → is_from limit a ≡ false
from_kept (Place place) a b behind below = let h = behind.place in grind (arith, nat_tests)
from_kept (Level level) a b behind below = let h = behind.level in grind (arith, nat_tests)

-- each mark has the newest behind it
behind_newest : (marks : List Mark) → AreRising marks → (k : ℕ) (d : Mark) → k < length marks →
    IsBehind (get_or marks k d) (newest_mark marks)
behind_newest marks rising k d h =
    let n = length marks - 1 in
    by_test (IsBehind (get_or marks k d) (newest_mark marks)) (nat_lt k n)
    (λ test.
    let before : k < n = grind (arith, nat_tests, test) in
    subst (λ m. IsBehind m (newest_mark marks)) (get_or_default marks k beginning d h)
    (rising k n beginning before (omega (arith, h))))
    (λ test.
    let last : k ≡ n = (let out : n ≤ k = grind (arith, nat_tests, test) in omega (arith, out, h)) in
    subst (λ m. IsBehind m (newest_mark marks))
    (get_or_default marks n beginning d (omega (arith, h)) ∙ ap (λ i. get_or marks i d) (sym last)) itself)
  where
    itself : IsBehind (newest_mark marks) (newest_mark marks)
    itself = record { place = omega arith; level = omega arith }

-- where the newest is from the limit on, no fewer are below it without the newest
pub below_step : (limit : Limit) (marks : List Mark) → 0 < length marks → is_from limit (newest_mark marks) ≡ true
    → marks_below limit (take (length marks - 1) marks) ≡ marks_below limit marks
below_step limit marks some from =
    let n = length marks - 1 in
    let more = filter_more (λ m. not (is_from limit m)) marks n beginning (omega (arith, some)) in
    let whole : take (n + 1) marks ≡ marks = take_all (n + 1) marks (omega (arith, some)) in
    let gone : not (is_from limit (newest_mark marks)) ≡ false = ap not from in
    sym (ap (marks_below limit) (sym whole) ∙ more
    ∙ ap (λ b. marks_below limit (take n marks) ++ cond b (newest_mark marks ∷ []) []) gone ∙
    append-nil (marks_below limit (take n marks)))

-- where it isn't, or there is none, all are
pub below_done : (limit : Limit) (marks : List Mark) → AreRising marks
    → (nat_lt 0 (length marks) && is_from limit (newest_mark marks)) ≡ false → marks_below limit marks ≡ marks
below_done limit [] rising below = refl
below_done limit (m ∷ ms) rising below =
    let some : nat_lt 0 (length (m ∷ ms)) ≡ true = grind (arith, nat_tests) in
    let newest = subst (λ b. (b && is_from limit (newest_mark (m ∷ ms))) ≡ false) some below in
    filter_whole (λ x. not (is_from limit x)) (m ∷ ms)
    (λ k d h. ap not (from_kept limit (get_or (m ∷ ms) k d) (newest_mark (m ∷ ms))
    (behind_newest (m ∷ ms) rising k d h) newest))

-- a mark behind the newest is behind each
pub all_behind : (marks : List Mark) (mark : Mark) → AreRising marks → IsBehind (newest_mark marks) mark →
    All (λ m. IsBehind m mark) marks
all_behind marks mark rising behind k d h =
    let first = behind_newest marks rising k d h in
    record {
      place = (let a = first.place in let b = behind.place in omega (arith, a, b));
      level = (let a = first.level in let b = behind.level in omega (arith, a, b));
    }

-- without the newest there are fewer
pub fewer : (marks : List Mark) → 0 < length marks → length (take (length marks - 1) marks) < length marks
fewer marks some = (let short = length-take-le (length marks - 1) marks (omega arith) in omega (arith, short, some))
