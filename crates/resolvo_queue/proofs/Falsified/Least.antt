-- Of the clauses that pass a test, the one with the least position is the first of the scan.
use Rattle.std.proofs.Common.{◌≡◌, ℕ, suc, Bool, true, false, cond, eqb, eq-eqb, List, [], ◌∷◌, ◌++◌, map}
use Rattle.std.proofs.Common.{find, length, Some, None, option_map, slice_get, sym, ap, refl, ◌∙◌, is_gt}
use Rattle.std.specs.List.Sorted.{IsStrictlySortedBy}
use Rattle.resolvo_queue.proofs.Words.{at_position, Equal, first_from, Greater, here, is_after, is_lt}
use Rattle.resolvo_queue.proofs.Words.{Less, numbered_scan, Ordering, ordering_reverse, Position}
use Rattle.resolvo_queue.proofs.Words.{position_at, position_cmp, position_in, RequiresClause, scan, Stands, there}
use Rattle.resolvo_queue.proofs.Syncs.Queued.{position_order}
use Rattle.resolvo_queue.proofs.Picks.NumberedScan.{at_scanned, first_kept, scan_ascends, scan_is, scanned_at}
use Rattle.resolvo_queue.proofs.Lists.{no_or_yes}
use Rattle.resolvo_queue.proofs.Picks.Behind.{Ascends, below_all}

-- ---- positions

pub not_both : (b : Bool) → b ≡ true → b ≡ false → ⊥
not_both true e f = cc
not_both false e f = cc

pub less_by_test : (o : Ordering) → is_lt o ≡ true → o ≡ Less
less_by_test Less e = refl
less_by_test Equal e = cc
less_by_test Greater e = cc

greater_by_test : (o : Ordering) → is_gt o ≡ true → o ≡ Greater
greater_by_test Less e = cc
greater_by_test Equal e = cc
greater_by_test Greater e = refl

own_reverse : (o : Ordering) → o ≡ ordering_reverse o → is_gt o ≡ false
own_reverse Less e = cc
own_reverse Equal e = refl
own_reverse Greater e = cc

pub not_after_itself : (p : Position) → is_after p p ≡ false
not_after_itself p = own_reverse (position_cmp p p) (position_order.antisymm p p)

after_is_behind : (p q : Position) → is_after p q ≡ true → position_cmp q p ≡ Less
after_is_behind p q e = position_order.antisymm q p ∙ ap ordering_reverse (greater_by_test (position_cmp p q) e)

behind_is_after : (p q : Position) → position_cmp q p ≡ Less → is_after p q ≡ true
behind_is_after p q e = ap is_gt (position_order.antisymm p q ∙ ap ordering_reverse e)

-- what stands before the least so far stands before all that it stands before
pub before_all : (p q r : Position) → is_lt (position_cmp p q) ≡ true → is_after q r ≡ false → is_after p r ≡ false
before_all p q r e f = no_or_yes (is_after p r) (λ h. not_both (is_after q r)
    (behind_is_after q r (position_order.trans r p q (after_is_behind p r h) (less_by_test (position_cmp p q) e))) f)

pub not_before_is_after : (p q : Position) → is_lt (position_cmp p q) ≡ false → is_after q p ≡ false
not_before_is_after p q e =
    no_or_yes (is_after q p) (λ h. not_both (is_lt (position_cmp p q)) (ap is_lt (after_is_behind q p h)) e)

-- ---- a search along the order

find_mapped : {X Y : Type 0} (f : X → Y) (t : Y → Bool) (xs : List X) →
    find t (map f xs) ≡ option_map f (find (λ x. t (f x)) xs)
find_mapped f t [] = refl
find_mapped {X} {Y} f t (x ∷ xs) = go (t (f x)) (find_mapped f t xs)
  where
    go : (b : Bool) → find t (map f xs) ≡ option_map f (find (λ y. t (f y)) xs) →
        cond b (Some (f x)) (find t (map f xs)) ≡ option_map f (cond b (Some x) (find (λ y. t (f y)) xs))
    go true e = refl
    go false e = e

module _ {X K : Type 0} (cmp : K → K → Ordering) (key : X → K) (t : X → Bool) where
  -- none holds
  found_nowhere : (xs : List X) → ((y : X) → Stands y xs → t y ≡ false) → find t xs ≡ None
  found_nowhere [] h = refl
  found_nowhere (x ∷ xs) h = ap (λ b. cond b (Some x) (find t xs)) (h x here) ∙ found_nowhere xs (λ y s. h y (there s))

  -- the item holds, and none that stands before it
  found_first : (xs : List X) → Ascends cmp key xs → (x : X) → Stands x xs → t x ≡ true →
      ((y : X) → Stands y xs → cmp (key y) (key x) ≡ Less → t y ≡ false) → find t xs ≡ Some x
  unfolding IsStrictlySortedBy
  found_first [] up z s e h = elim s [ ]
  found_first (x ∷ xs) up z here e h = ap (λ b. cond b (Some x) (find t xs)) e
  found_first (y ∷ ys) up z (there s) e h =
      ap (λ b. cond b (Some y) (find t ys)) (h y here (below_all cmp key y ys up.0 z s)) ∙
      found_first ys up.1 z s e (λ w r. h w (there r))

-- ---- the scan of a list of clauses

module _ (clauses : List RequiresClause) (passes : RequiresClause → Bool) where
  abbrev pub NonePasses : Type 0
  NonePasses = (n : ℕ) (c : RequiresClause) → slice_get clauses n ≡ Some c → passes c ≡ false

  -- the clause with the number passes, and stands behind none that does
  pub record IsFirstToPass (number : ℕ) (clause : RequiresClause) : Type 0 where
    pub at : slice_get clauses number ≡ Some clause
    pub passes_itself : passes clause ≡ true
    pub least : (n : ℕ) (c : RequiresClause) → slice_get clauses n ≡ Some c → passes c ≡ true →
        is_after (position_at clauses number clause) (position_at clauses n c) ≡ false

abbrev parent_of : RequiresClause → ℕ
parent_of c = c.parent

module _ (clauses : List RequiresClause) (passes : RequiresClause → Bool) where
  abbrev numbered_passes : ℕ × RequiresClause → Bool
  numbered_passes x = passes x.1

  along_numbers : find passes (scan clauses) ≡
      option_map (λ (x : ℕ × RequiresClause). x.1) (find numbered_passes (numbered_scan parent_of clauses))
  along_numbers = ap (find passes) (sym (scan_is parent_of clauses)) ∙
      find_mapped (λ (x : ℕ × RequiresClause). x.1) passes (numbered_scan parent_of clauses)

-- where none passes, none of the scan does
pub none_to_pass : (clauses : List RequiresClause) (passes : RequiresClause → Bool) → NonePasses clauses passes →
    find passes (scan clauses) ≡ None
none_to_pass clauses passes none = along_numbers clauses passes ∙ ap (option_map (λ (x : ℕ × RequiresClause). x.1))
    (found_nowhere position_cmp (position_in parent_of at_position clauses) (numbered_passes clauses passes)
    (numbered_scan parent_of clauses) (λ x s. none x.0 x.1 (scanned_at parent_of clauses x s)))

-- the clause that stands first of those that pass is the first of the scan that does
pub first_to_pass : (clauses : List RequiresClause) (passes : RequiresClause → Bool) (number : ℕ)
    (clause : RequiresClause) → IsFirstToPass clauses passes number clause →
    find passes (scan clauses) ≡ Some clause
first_to_pass clauses passes number clause first = along_numbers clauses passes
    ∙ ap (option_map (λ (x : ℕ × RequiresClause). x.1))
    (found_first position_cmp place (numbered_passes clauses passes) (numbered_scan parent_of clauses)
    (scan_ascends parent_of position_cmp at_position (λ a b c d. refl) clauses)
    (number, clause) (at_scanned parent_of clauses number clause first.at) first.passes_itself before)
  where
    place : ℕ × RequiresClause → Position
    place = position_in parent_of at_position clauses

    before : (x : ℕ × RequiresClause) → Stands x (numbered_scan parent_of clauses) →
        position_cmp (place x) (place (number, clause)) ≡ Less → passes x.1 ≡ false
    before x s less = no_or_yes (passes x.1) (λ held. not_both (is_after (place (number, clause)) (place x))
        (behind_is_after (place (number, clause)) (place x) less)
        (first.least x.0 x.1 (scanned_at parent_of clauses x s) held))

-- ---- one clause more

-- one clause more: the others stand where they stood
pub position_stays : (clauses : List RequiresClause) (new : RequiresClause) (n : ℕ) (c : RequiresClause) →
    slice_get clauses n ≡ Some c → position_at (clauses ++ new ∷ []) n c ≡ position_at clauses n c
position_stays clauses new n c e = ap (λ m. at_position m n) (first_kept parent_of 0 clauses new n c e)

-- its parent's first clause is that of the others, or else itself
own_first : (i : ℕ) (cs : List RequiresClause) (new : RequiresClause) →
    first_from parent_of i (cs ++ new ∷ []) new.parent ≡ first_from parent_of i cs new.parent
own_first i [] new = ap (λ b. cond b i (suc i)) (eq-eqb new.parent new.parent refl)
own_first i (x ∷ xs) new = ap (λ m. cond (eqb x.parent new.parent) i m) (own_first (suc i) xs new)

-- and it stands where the next one was to stand
pub next_position : (clauses : List RequiresClause) (new : RequiresClause) →
    position_at (clauses ++ new ∷ []) (length clauses) new ≡ position_at clauses (length clauses) new
next_position clauses new = ap (λ m. at_position m (length clauses)) (own_first 0 clauses new)
