-- Each falsified clause is in the heap, whatever happens to clauses and heap; so the first of them is its top.
use Rattle.std.proofs.Common.{◌≡◌, ℕ, ◌+◌, ◌-◌, ◌<◌, ◌≤◌, ◌^◌, Bool, true, false, cond, eqb, ltb, List, [], ◌∷◌, ◌++◌}
use Rattle.std.proofs.Common.{length, get_or}
use Rattle.std.proofs.Common.{refl, sym, ap, ◌∙◌, subst, arith, inl, inr, Option, Some, None, ◌||◌, ◌&&◌}
use Rattle.std.proofs.lemmas.Bool.{cases_eq, cases_lt, eq-eqb, eqb-true, ltb-true, ne_eqb, true≢false, and_parts}
use Rattle.std.proofs.lemmas.List.{length-set, length-map, get_or_append_left}
use Rattle.std.proofs.lemmas.List.{get_or_push, length_push}
use Rattle.std.proofs.lemmas.List.Elements.{All-from_recursion, All-get_or}
use Rattle.clause_counters.proofs.Words.{Clause, Equal, firsts_of, fits_one, Greater, heap_clause, heap_cmp}
use Rattle.clause_counters.proofs.Words.{heap_position_cmp, is_before, is_lt, IsFalsifiedHeap, IsFirst, IsHeld, IsTop}
use Rattle.clause_counters.proofs.Words.{lefts_of, Less, no_heap_clause, ordering_then, Position, Reverse, slice_index}
use Rattle.clause_counters.proofs.Words.{with_mark}
use Rattle.clause_counters.proofs.ListLaws.{found}
use Rattle.clause_counters.proofs.ClauseLaws.{at_marked, at_others, left_kept, mark_pushed, lefts_at}
use Rattle.clause_counters.proofs.ClauseLaws.{firsts_at}
use Rattle.clause_counters.proofs.HeldLaws.{HasFirst, is_of, top_within, held_pushed}

-- a falsified clause stands in the heap
falsified_entry : (cs : List Clause) (es : List (Reverse Position)) (room : ℕ) (top : Reverse Position) (c : ℕ)
    → IsFalsifiedHeap cs es room → c < length cs
    → (heap_clause cs c).left ≡ 0 → (k : ℕ) × (k < length es) × (eqb (get_or es k top).0.number c ≡ true)
falsified_entry cs es room top c q in' none =
    let one = q.held.once c ∙ ap (λ b. cond b 1 0) (q.falsified c in' none) in
    found (is_of c) top es (omega (arith, one))

-- the mark of a clause that isn't falsified may go
pub heap_removed : (cs : List Clause) (es es' : List (Reverse Position)) (room more c : ℕ) → IsFalsifiedHeap cs es room
    → IsHeld (with_mark false c cs) es' more
    → c < length cs → ((heap_clause cs c).left ≡ 0 → ⊥) → IsFalsifiedHeap (with_mark false c cs) es' more
heap_removed cs es es' room more c q held in' some = record {
  held = held;
  falsified = λ d l z. (elim (cases_eq d c) [
    | inl e ↦ absurd (some (ap (λ n. (heap_clause cs n).left) (sym e) ∙ (sym (left_kept false cs c d) ∙ z)))
    | inr ne ↦ ap (λ (x : Clause). x.is_in_heap) (at_others false cs c d ne)
        ∙ q.falsified d (subst (λ n. d < n) (length-set cs c _) l) (sym (left_kept false cs c d) ∙ z)
  ]);
}

pub heap_pushed : (cs : List Clause) (es : List (Reverse Position)) (room more : ℕ) (x : Clause)
    → IsFalsifiedHeap cs es room → x.is_in_heap ≡ false
    → (x.left ≡ 0 → ⊥) → length cs + 1 ≤ more → length cs < 2 ^ 32 → IsFalsifiedHeap (cs ++ x ∷ []) es more
heap_pushed cs es room more x q plain some fits few = record {
  held = held_pushed cs es room more x q.held plain fits few;
  falsified = λ d l z. (elim (cases_lt d (length cs)) [
    | inl in' ↦ mark_pushed cs x d plain ∙ q.falsified d in' (sym
        (ap (λ (y : Clause). y.left) (get_or_append_left cs (x ∷ []) no_heap_clause d in')) ∙ z)
    | inr past ↦ absurd (some (sym (ap (λ (y : Clause). y.left)
        (get_or_push cs x no_heap_clause d (let m = length_push cs x in omega (arith, m, past, l)))) ∙ z))
  ]);
}

pub heap_pushed_falsified : (cs : List Clause) (es es' : List (Reverse Position)) (room more : ℕ) (x : Clause)
    → IsFalsifiedHeap cs es room → x.is_in_heap ≡ false
    → IsHeld (with_mark true (length cs) (cs ++ x ∷ [])) es' more
    → IsFalsifiedHeap (with_mark true (length cs) (cs ++ x ∷ [])) es' more
heap_pushed_falsified cs es es' room more x q plain held = record {
  held = held;
  falsified = λ d l z. (elim (cases_eq d (length cs)) [
    | inl e ↦ subst (λ y. (heap_clause (with_mark true (length cs) (cs ++ x ∷ [])) y).is_in_heap ≡ true) (sym e)
        (ap (λ (y : Clause). y.is_in_heap) (at_marked true (cs ++ x ∷ []) (length cs) within))
    | inr ne ↦ ap (λ (y : Clause). y.is_in_heap) (at_others true (cs ++ x ∷ []) (length cs) d ne)
        ∙ (mark_pushed cs x d plain
        ∙ (let small : d < length cs =
        (let m = length_push cs x in let n = length-set (cs ++ x ∷ []) (length cs)
        (record (heap_clause (cs ++ x ∷ []) (length cs)) { is_in_heap = true }) in
        omega (arith, m, n, l, ne)) in
        q.falsified d small (sym (ap (λ (y : Clause). y.left) (get_or_append_left cs (x ∷ []) no_heap_clause d small))
        ∙ (sym (left_kept true (cs ++ x ∷ []) (length cs) d) ∙ z))))
  ]);
}
  where
    within : length cs < length (cs ++ x ∷ [])
    within = let m = length_push cs x in omega (arith, m)

-- what it is to have room for a clause more
pub fits_parts : (len capacity heap_capacity : ℕ) → fits_one len capacity heap_capacity ≡ true
    → (len < 2 ^ 32 - 1) × (len < capacity) × (len < heap_capacity)
fits_parts len capacity heap_capacity h =
    let outer = and_parts _ _ h in
    let inner = and_parts _ _ outer.0 in
    (ltb-true _ _ inner.0, ltb-true _ _ inner.1, ltb-true _ _ outer.1)

-- a position that isn't less than another doesn't come before it
before_is : (lp ep lo eo : Bool)
    → is_lt (ordering_then (cond lp Less (cond ep Equal Greater)) (cond lo Less (cond eo Equal Greater))) ≡ false
    → (lp || (ep && lo)) ≡ false
before_is true ep lo eo h = absurd (true≢false h)
before_is false true true eo h = absurd (true≢false h)
before_is false true false eo h = refl
before_is false false lo eo h = refl

-- by first clauses of parents that are those of the positions
none_before : (first : ℕ → ℕ) (a b : Position) → is_lt (heap_position_cmp a b) ≡ false
    → first a.number ≡ a.first_of_parent → first b.number ≡ b.first_of_parent
    → is_before first a.number b.number ≡ false
none_before first a b h p q =
    ap (λ m. ltb m (first b.number) || (eqb m (first b.number) && ltb a.number b.number)) p
    ∙ (ap (λ m. ltb a.first_of_parent m || (eqb a.first_of_parent m && ltb a.number b.number)) q
    ∙ before_is (ltb a.first_of_parent b.first_of_parent) (eqb a.first_of_parent b.first_of_parent)
    (ltb a.number b.number) (eqb a.number b.number) h)

-- a falsified top is the first of the falsified clauses
pub first_is_top : (cs : List Clause) (es : List (Reverse Position)) (room : ℕ) (e : Position)
    → IsFalsifiedHeap cs es room → IsTop es e
    → (heap_clause cs e.number).left ≡ 0 → IsFirst (lefts_of cs) (firsts_of cs) (Some e.number)
first_is_top cs es room e q top none = (
  subst (λ n. e.number < n) (sym (length-map cs _)) (top_within cs es room e q.held top),
  eq-eqb _ _ (lefts_at cs e.number ∙ none),
  λ c l z. not_before c (subst (λ n. c < n) (length-map cs _) l) (sym (lefts_at cs c) ∙ eqb-true _ _ z),
)
  where
    own : get_or (firsts_of cs) e.number 0 ≡ e.first_of_parent
    own = firsts_at cs e.number ∙ sym (subst (HasFirst cs) top.1
        (All-get_or (HasFirst cs) es 0 (record { 0 = e }) top.0 q.held.placed))

    not_before : (c : ℕ) → c < length cs → (heap_clause cs c).left ≡ 0
        → is_before (slice_index (firsts_of cs)) c e.number ≡ false
    not_before c in' z =
        let entry = falsified_entry cs es room (record { 0 = e }) c q in' z in
        let there : Reverse Position = get_or es entry.0 (record { 0 = e }) in
        let is : there.0.number ≡ c = eqb-true _ _ entry.2 in
        let placed : HasFirst cs there =
        All-get_or (HasFirst cs) es entry.0 (record { 0 = e }) entry.1 q.held.placed in
        let over : is_lt (heap_cmp (record { 0 = e }) there) ≡ false =
        All-get_or (λ y. is_lt (heap_cmp (record { 0 = e }) y) ≡ false) es entry.0 (record { 0 = e }) entry.1
        (All-from_recursion (λ y. is_lt (heap_cmp (record { 0 = e }) y) ≡ false) es (top.2 q.held.heap)) in
        subst (λ n. is_before (slice_index (firsts_of cs)) n e.number ≡ false) is
        (none_before (slice_index (firsts_of cs)) there.0 e over (firsts_at cs there.0.number ∙ sym placed) own)

-- what is first stays first while the clauses have the same
pub same_first : (lefts lefts' : List ℕ) (firsts firsts' : List ℕ) (first : Option ℕ) → lefts ≡ lefts'
    → firsts ≡ firsts' → IsFirst lefts firsts first → IsFirst lefts' firsts' first
same_first lefts lefts' firsts firsts' first l p is = subst (λ xs. IsFirst xs firsts' first) l
    (subst (λ ps. IsFirst lefts ps first) p is)

-- with no entry no clause is falsified
pub none_is_first : (cs : List Clause) (room : ℕ) → IsFalsifiedHeap cs [] room
    → IsFirst (lefts_of cs) (firsts_of cs) None
none_is_first cs room q c l = ne_eqb _ _ (λ z.
    let at = falsified_entry cs [] room (record { 0 = record { first_of_parent = 0; number = 0 } }) c q
    (subst (λ n. c < n) (length-map cs _) l) (sym (lefts_at cs c) ∙ z) in
    absurd (let none = at.1 in omega (arith, none)))
