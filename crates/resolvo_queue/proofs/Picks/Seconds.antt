-- What the first two of an ordered set behind a position say of the second.
use Rattle.std.proofs.Common.{◌≡◌, Bool, true, false, ◌||◌, List, ◌∷◌, filter, sym, ap, ◌∙◌, subst, is_eq, refl, arith}
use Rattle.std.proofs.lemmas.List.Elements.{filter_passes}
use Rattle.std.proofs.lemmas.List.Kept.{IsStrictlySortedBy-filter}
use Rattle.std.proofs.lemmas.Map.Keys.{sorted_head, sorted_tail}
use Rattle.std.proofs.lemmas.Map.Views.{All-set_contains, any-filter_same, btree_set_IsLowerBound-head}
use Rattle.std.proofs.lemmas.Map.Views.{IsInRange-from_range_contains, range_contains-from_IsInRange}
use Rattle.resolvo_queue.proofs.Words.{All, BTreeSet, Excluded, has, IsBefore, IsNextBehind, IsStrictlySortedBy}
use Rattle.resolvo_queue.proofs.Words.{ordering_reverse, Position, position_cmp, range_contains, same_position}
use Rattle.resolvo_queue.proofs.Words.{Unbounded}
use Rattle.resolvo_queue.proofs.Syncs.Queued.{position_order, same_position_is}

-- the test of those behind a position
abbrev is_behind : Position → Position → Bool
is_behind position = range_contains position_cmp (Excluded position) Unbounded

has_kept : (set : List Position) (position r : Position) → IsBefore position r →
    has (filter (is_behind position) set) r ≡ has set r
has_kept set position r after = any-filter_same (same_position r) (is_behind position) true
    (λ k e. subst (λ q. is_behind position q ≡ true) (same_position_is r k e)
    (range_contains-from_IsInRange position_order (Excluded position) Unbounded r (after, tt))) set

-- what is behind the first is none but the others
others : (first r : Position) (rest : List Position) → IsBefore first r → has (first ∷ rest) r ≡ true →
    has rest r ≡ true
others first r rest before h =
    let apart : same_position r first ≡ false =
    ap is_eq (position_order.antisymm r first ∙ ap ordering_reverse before) in
    sym (ap (λ b. b || has rest r) apart) ∙ h

-- the two first that a range of the set gives
pub next_found : (set : List Position) (position first second : Position) (left rest found : List Position) →
    IsStrictlySortedBy position_cmp set → found ≡ filter (is_behind position) set → found ≡ first ∷ left →
    left ≡ second ∷ rest → IsNextBehind set first second
next_found set position first second left rest found sorted range one two =
    let is : filter (is_behind position) set ≡ first ∷ second ∷ rest = sym range ∙ (one ∙ ap (λ ps. first ∷ ps) two) in
    let passes : All (λ r. is_behind position r ≡ true) (first ∷ second ∷ rest) =
    subst (All (λ r. is_behind position r ≡ true)) is (filter_passes (is_behind position) set) in
    let from : IsBefore position first =
    (IsInRange-from_range_contains position_order (Excluded position) Unbounded first
    (passes 0 first (omega arith))).0 in
    let ordered : IsStrictlySortedBy position_cmp (first ∷ second ∷ rest) = subst (IsStrictlySortedBy position_cmp) is
    (IsStrictlySortedBy-filter position_cmp (is_behind position) set sorted) in
    let before : IsBefore first second = (sorted_head position_cmp first (second ∷ rest) ordered).0 in
    let alike : (r : Position) → IsBefore first r → has (first ∷ second ∷ rest) r ≡ has set r =
    λ r after. ap (λ ps. has ps r) (sym is)
    ∙ has_kept set position r (position_order.trans position first r from after) in
    let all : BTreeSet Position = record { keys = first ∷ second ∷ rest } in
    let behind : BTreeSet Position = record { keys = second ∷ rest } in
    record {
      there = sym (alike second before) ∙ All-set_contains position_order all 1 second (omega arith);
      behind = before;
      least = λ r h after. btree_set_IsLowerBound-head position_order behind
          (sorted_tail position_cmp first (second ∷ rest) ordered) second rest refl r
          (others first r (second ∷ rest) after (alike r after ∙ h));
    }
