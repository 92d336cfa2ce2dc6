-- The heap holds each marked clause once, whatever happens to clauses and heap.
use Rattle.std.proofs.Common.{◌≡◌, ◌≢◌, ℕ, ◌+◌, ◌<◌, ◌≤◌, ◌^◌, Bool, true, false, cond, eqb, List, [], ◌∷◌, ◌++◌}
use Rattle.std.proofs.Common.{length, get_or}
use Rattle.std.proofs.Common.{refl, sym, ap, ◌∙◌, subst, arith, inl, inr, Option, Some, None}
use Rattle.std.proofs.lemmas.Bool.{cases_eq, cases_lt, eq-eqb, ne_eqb, false≢true}
use Rattle.std.proofs.lemmas.List.{length-set, get_or_past, get_or_default, get_or_append_left, length_push}
use Rattle.std.proofs.lemmas.List.Elements.{All-get_or, All-cons, All-weaker, All-tail}
use Rattle.std.proofs.lemmas.List.Sorted.{All-permutation, sum_by-IsPermutation, length_permutation}
use Rattle.std.proofs.lemmas.List.Sums.{count_by-le-length, get_or-le-sum_by, sum_by-cons, sum_by-set, sum_by_push}
use Rattle.clause_counters.proofs.Words.{All, Clause, count_by, Err, heap_clause, heap_cmp, IfSome, IsHeap, IsHeld}
use Rattle.clause_counters.proofs.Words.{IsOk, IsPermutation, IsSome, IsTop, no_heap_clause, Ok, OnOk, Position, Result}
use Rattle.clause_counters.proofs.Words.{Reverse, with_mark}
use Rattle.clause_counters.proofs.ClauseLaws.{at_marked, at_others, first_kept}
use Rattle.clause_counters.proofs.ClauseLaws.{mark_pushed}

-- whether an entry is that of the clause
abbrev pub is_of : ℕ → Reverse Position → Bool
is_of c e = eqb e.0.number c

-- whether an entry has the first clause of its own clause's parent
abbrev pub HasFirst : List Clause → Reverse Position → Type 0
HasFirst cs e = e.0.first_of_parent ≡ (heap_clause cs e.0.number).first_of_parent

abbrev entry_with : ℕ → ℕ → Reverse Position
entry_with first c = record { 0 = record { first_of_parent = first; number = c } }

abbrev entry_of : List Clause → ℕ → Reverse Position
entry_of cs c = entry_with (heap_clause cs c).first_of_parent c

-- a clause that is counted in the heap is marked, and there is such a clause
pub counted_is_marked : (cs : List Clause) (es : List (Reverse Position)) (room c : ℕ) → IsHeld cs es room
    → 1 ≤ count_by (is_of c) es
    → ((heap_clause cs c).is_in_heap ≡ true) × (c < length cs)
counted_is_marked cs es room c h one = (marks, within)
  where
    marks : (heap_clause cs c).is_in_heap ≡ true
    marks = (elim ((heap_clause cs c).is_in_heap) as (λ b. (heap_clause cs c).is_in_heap ≡ b → b ≡ true) [
      | true ↦ λ e. refl
      | false ↦ λ e. let z = h.once c ∙ ap (λ b. cond b 1 0) e in absurd (omega (arith, one, z))
    ]) refl

    within : c < length cs
    within = elim (cases_lt c (length cs)) [
      | inl l ↦ l
      | inr past ↦ absurd (false≢true (sym (ap (λ (x : Clause). x.is_in_heap) (get_or_past cs c no_heap_clause past))
          ∙ marks))
    ]

-- each entry is of a clause
pub entries_within : (cs : List Clause) (es : List (Reverse Position)) (room : ℕ) → IsHeld cs es room
    → All (λ e. e.0.number < length cs) es
entries_within cs es room h = λ k d l.
    let e : Reverse Position = get_or es k d in
    let at = get_or-le-sum_by (λ y. cond (is_of e.0.number y) 1 0) es k d l in
    let is : ◌≡◌ {A = ℕ} (cond (is_of e.0.number (get_or es k d)) 1 0) 1 =
    ap (λ b. cond b 1 0) (eq-eqb e.0.number e.0.number refl) in
    (counted_is_marked cs es room e.0.number h (omega (arith, at, is))).1

-- how many are marked, once a mark was set or taken away
counted_marked : (m : Bool) (cs : List Clause) (c : ℕ) → c < length cs
    → count_by (λ (x : Clause). x.is_in_heap) (with_mark m c cs) + cond (heap_clause cs c).is_in_heap 1 0
    ≡ count_by (λ (x : Clause). x.is_in_heap) cs + cond m 1 0
counted_marked m cs c in' = sum_by-set (λ (x : Clause). cond x.is_in_heap 1 0) cs c
    (record (heap_clause cs c) { is_in_heap = m }) no_heap_clause in'

-- a clause comes into the heap
pub held_inserted : (cs : List Clause) (es es' : List (Reverse Position)) (room : ℕ) (c : ℕ) → IsHeld cs es room
    → c < length cs
    → (heap_clause cs c).is_in_heap ≡ false → IsPermutation (entry_of cs c ∷ es) es'
    → (IsHeap heap_cmp es → IsHeap heap_cmp es') → IsHeld (with_mark true c cs) es' room
held_inserted cs es es' room c h in' absent moved keeps = record {
  heap = keeps h.heap;
  once = λ d. moved_count d ∙ (elim (cases_eq d c) [
    | inl e ↦ subst (λ x. cond (eqb c x) 1 0 + count_by (is_of x) es
        ≡ cond (heap_clause (with_mark true c cs) x).is_in_heap 1 0) (sym e) here
    | inr ne ↦ there d ne
  ]);
  placed = All-permutation (HasFirst (with_mark true c cs)) (entry_of cs c ∷ es) es' moved
      (All-cons (HasFirst (with_mark true c cs)) (entry_of cs c) es (sym (first_kept true cs c c))
      (All-weaker (HasFirst cs) (HasFirst (with_mark true c cs))
      (λ e p. p ∙ sym (first_kept true cs c e.0.number)) es h.placed));
  counted = (let more = length_permutation (entry_of cs c ∷ es) es' moved in let before = h.counted in
      let mark = counted_marked true cs c in' in let none : ◌≡◌ {A = ℕ} (cond (heap_clause cs c).is_in_heap 1 0) 0 =
      ap (λ b. cond b 1 0) absent in
      omega (arith, more, before, mark, none));
  room = subst (λ n. n ≤ room) (sym (length-set cs c _)) h.room;
  few = subst (λ n. n ≤ 2 ^ 32) (sym (length-set cs c _)) h.few;
}
  where
    moved_count : (d : ℕ) → count_by (is_of d) es' ≡ cond (eqb c d) 1 0 + count_by (is_of d) es
    moved_count d = sum_by-IsPermutation (λ e. cond (is_of d e) 1 0) (entry_of cs c ∷ es) es' moved
        ∙ sum_by-cons (λ e. cond (is_of d e) 1 0) (entry_of cs c) es

    here : cond (eqb c c) 1 0 + count_by (is_of c) es ≡ cond (heap_clause (with_mark true c cs) c).is_in_heap 1 0
    here = ap (λ b. cond b 1 0 + count_by (is_of c) es) (eq-eqb c c refl)
        ∙ (ap (λ n. 1 + n) (h.once c ∙ ap (λ b. cond b 1 0) absent)
        ∙ sym (ap (λ (x : Clause). cond x.is_in_heap 1 0) (at_marked true cs c in')))

    there : (d : ℕ) → d ≢ c → cond (eqb c d) 1 0 + count_by (is_of d) es
        ≡ cond (heap_clause (with_mark true c cs) d).is_in_heap 1 0
    there d ne = ap (λ b. cond b 1 0 + count_by (is_of d) es) (ne_eqb c d (λ e. ne (sym e)))
        ∙ (let z : 0 + count_by (is_of d) es ≡ count_by (is_of d) es = omega arith in z)
        ∙ (h.once d ∙ sym (ap (λ (x : Clause). cond x.is_in_heap 1 0) (at_others true cs c d ne)))

-- the first entry leaves the heap
pub held_removed : (cs : List Clause) (es es' : List (Reverse Position)) (room : ℕ) (p : ℕ) (c : ℕ)
    → IsHeld cs es room
    → IsPermutation es (entry_with p c ∷ es')
    → (IsHeap heap_cmp es → IsHeap heap_cmp es') → IsHeld (with_mark false c cs) es' room
held_removed cs es es' room p c h moved keeps = record {
  heap = keeps h.heap;
  once = λ d. (elim (cases_eq d c) [
    | inl e ↦ subst (λ y. count_by (is_of y) es' ≡ cond (heap_clause (with_mark false c cs) y).is_in_heap 1 0)
        (sym e) here
    | inr ne ↦ there d ne
  ]);
  placed = All-weaker (HasFirst cs)
      (HasFirst (with_mark false c cs))
      (λ e q. q ∙ sym (first_kept false cs c e.0.number)) es'
      (All-tail (HasFirst cs) (entry_with p c) es'
      (All-permutation (HasFirst cs) es
      (entry_with p c ∷ es') moved h.placed));
  counted = (let less = length_permutation es (entry_with p c ∷ es') moved in let before = h.counted in
      let mark = counted_marked false cs c is.1 in let one : ◌≡◌ {A = ℕ} (cond (heap_clause cs c).is_in_heap 1 0) 1 =
      ap (λ b. cond b 1 0) is.0 in
      omega (arith, less, before, mark, one));
  room = subst (λ n. n ≤ room) (sym (length-set cs c _)) h.room;
  few = subst (λ n. n ≤ 2 ^ 32) (sym (length-set cs c _)) h.few;
}
  where
    moved_count : (d : ℕ) → cond (eqb c d) 1 0 + count_by (is_of d) es' ≡ count_by (is_of d) es
    moved_count d = sym (sum_by-cons (λ e. cond (is_of d e) 1 0) (entry_with p c) es')
        ∙ sum_by-IsPermutation (λ e. cond (is_of d e) 1 0) es (entry_with p c ∷ es') moved

    one : 1 + count_by (is_of c) es' ≡ count_by (is_of c) es
    one = ap (λ b. cond b 1 0 + count_by (is_of c) es') (sym (eq-eqb c c refl)) ∙ moved_count c

    is : ((heap_clause cs c).is_in_heap ≡ true) × (c < length cs)
    is = counted_is_marked cs es room c h (let e = one in omega (arith, e))

    here : count_by (is_of c) es' ≡ cond (heap_clause (with_mark false c cs) c).is_in_heap 1 0
    here =
        let before : count_by (is_of c) es ≡ 1 = h.once c ∙ ap (λ b. cond b 1 0) is.0 in
        let now : ◌≡◌ {A = ℕ} (cond (heap_clause (with_mark false c cs) c).is_in_heap 1 0) 0 =
        ap (λ (y : Clause). cond y.is_in_heap 1 0) (at_marked false cs c is.1) in
        let e = one in omega (arith, before, now, e)

    there : (d : ℕ) → d ≢ c → count_by (is_of d) es' ≡ cond (heap_clause (with_mark false c cs) d).is_in_heap 1 0
    there d ne =
        let same = moved_count d in
        let zero' : ◌≡◌ {A = ℕ} (cond (eqb c d) 1 0) 0 = ap (λ b. cond b 1 0) (ne_eqb c d (λ e. ne (sym e))) in
        let before = h.once d in
        let now : ◌≡◌ {A = ℕ} (cond (heap_clause (with_mark false c cs) d).is_in_heap 1 0)
        (cond (heap_clause cs d).is_in_heap 1 0) =
        ap (λ (y : Clause). cond y.is_in_heap 1 0) (at_others false cs c d ne) in
        omega (arith, same, zero', before, now)

-- the top is a clause
pub top_within : (cs : List Clause) (es : List (Reverse Position)) (room : ℕ) (e : Position) → IsHeld cs es room
    → IsTop es e → e.number < length cs
top_within cs es room e h top =
    let one : 1 ≤ count_by (is_of e.number) es =
    (let at = get_or-le-sum_by (λ y. cond (is_of e.number y) 1 0) es 0 (record { 0 = e }) top.0 in
    let is : ◌≡◌ {A = ℕ} (cond (is_of e.number (get_or es 0 (record { 0 = e }))) 1 0) 1 =
    ap (λ y. cond (is_of e.number y) 1 0) top.1 ∙ ap (λ b. cond b 1 0) (eq-eqb e.number e.number refl) in
    omega (arith, at, is)) in
    (counted_is_marked cs es room e.number h one).1

pub held_pushed : (cs : List Clause) (es : List (Reverse Position)) (room more : ℕ) (x : Clause) → IsHeld cs es room
    → x.is_in_heap ≡ false
    → length cs + 1 ≤ more → length cs < 2 ^ 32 → IsHeld (cs ++ x ∷ []) es more
held_pushed cs es room more x h plain fits few = record {
  heap = h.heap;
  once = λ d. h.once d ∙ sym (ap (λ b. cond b 1 0) (mark_pushed cs x d plain));
  placed = λ k d l. All-get_or (HasFirst cs) es k d l
      h.placed
      ∙ sym (ap (λ (y : Clause). y.first_of_parent) (get_or_append_left cs (x ∷ []) no_heap_clause
      (get_or es k d).0.number
      (entries_within cs es room h k d l)));
  counted = (let there = sum_by_push (λ (y : Clause). cond y.is_in_heap 1 0) cs x in
      let none : ◌≡◌ {A = ℕ} (cond x.is_in_heap 1 0) 0 = ap (λ b. cond b 1 0) plain in
      let before = h.counted in omega (arith, there, none, before));
  room = subst (λ m. m ≤ more) (sym (length_push cs x)) fits;
  few = (let m = length_push cs x in omega (arith, m, few));
}

-- while a clause isn't marked the heap isn't full
pub room_left : (cs : List Clause) (es : List (Reverse Position)) (room c : ℕ) → IsHeld cs es room → c < length cs
    → (heap_clause cs c).is_in_heap ≡ false
    → length es < room
room_left cs es room c h in' absent =
    let more = counted_marked true cs c in' in
    let none : ◌≡◌ {A = ℕ} (cond (heap_clause cs c).is_in_heap 1 0) 0 = ap (λ b. cond b 1 0) absent in
    let all = count_by-le-length (λ (x : Clause). x.is_in_heap) (with_mark true c cs) in
    let same = length-set cs c (record (heap_clause cs c) { is_in_heap = true }) in
    let count = h.counted in
    let fits = h.room in
    omega (arith, more, none, all, same, count, fits)

-- room that grows
pub roomier : (cs : List Clause) (es : List (Reverse Position)) (room more : ℕ) → IsHeld cs es room → room ≤ more
    → IsHeld cs es more
roomier cs es room more h grows = record {
  heap = h.heap;
  once = h.once;
  placed = h.placed;
  counted = h.counted;
  room = (let fits = h.room in omega (arith, fits, grows));
  few = h.few;
}

-- what is said of a value that is there
pub from_ok : {T E P : Type 0} (r : Result T E) → IsOk r → OnOk r P → P
from_ok (Ok x) is h = h
from_ok (Err e) is h = absurd (false≢true is)

-- what is popped is the top
pub popped_is : (es : List (Reverse Position)) (r : Option (Reverse Position)) (e : Position) → 0 < length es
    → get_or es 0 (record { 0 = e }) ≡ record { 0 = e }
    → IsSome r → IfSome r (λ x. x ≡ get_or es 0 x) → r ≡ Some (record { 0 = e })
popped_is es None e l at some h = absurd (false≢true some)
popped_is es (Some x) e l at some h = ap Some (h ∙ (get_or_default es 0 x (record { 0 = e }) l ∙ at))
