-- What a mark and a number leave of a clause, and what lists of clauses have.
use Rattle.std.proofs.Common.{◌≡◌, ◌≢◌, ℕ, ◌<◌, ◌≤◌, Bool, false, List, [], ◌∷◌, ◌++◌, length, get_or, set}
use Rattle.std.proofs.Common.{refl, sym, ap, ◌∙◌, subst, arith, inl, inr}
use Rattle.std.proofs.lemmas.Bool.{cases_lt}
use Rattle.std.proofs.lemmas.List.{get_or-set_same, get_or-set_other, map-set, get_or-map, get_or_past, length-map}
use Rattle.clause_counters.proofs.Words.{Clause, firsts_of, heap_clause, lefts_of, no_heap_clause, tallied, with_mark}
use Rattle.clause_counters.proofs.ListLaws.{field_kept, fields_kept, pushed_field}

-- the clause that was marked, and the others
pub at_marked : (m : Bool) (cs : List Clause) (c : ℕ) → c < length cs
    → heap_clause (with_mark m c cs) c ≡ record (heap_clause cs c) { is_in_heap = m }
at_marked m cs c in' = get_or-set_same cs c _ no_heap_clause in'

pub at_others : (m : Bool) (cs : List Clause) (c d : ℕ) → d ≢ c → heap_clause (with_mark m c cs) d ≡ heap_clause cs d
at_others m cs c d ne = get_or-set_other cs c d _ no_heap_clause ne

-- a mark changes no parent and no number
pub first_kept : (m : Bool) (cs : List Clause) (c d : ℕ) → (heap_clause (with_mark m c cs) d).first_of_parent
    ≡ (heap_clause cs d).first_of_parent
first_kept m cs c d = field_kept (λ (x : Clause). x.first_of_parent) cs no_heap_clause
    (record (heap_clause cs c) { is_in_heap = m }) c d refl

pub left_kept : (m : Bool) (cs : List Clause) (c d : ℕ) →
    (heap_clause (with_mark m c cs) d).left ≡ (heap_clause cs d).left
left_kept m cs c d = field_kept (λ (x : Clause). x.left) cs no_heap_clause
    (record (heap_clause cs c) { is_in_heap = m }) c d refl

pub lefts_kept : (m : Bool) (cs : List Clause) (c : ℕ) → lefts_of (with_mark m c cs) ≡ lefts_of cs
lefts_kept m cs c = fields_kept (λ (x : Clause). x.left) cs no_heap_clause
    (record (heap_clause cs c) { is_in_heap = m }) c refl

pub firsts_kept : (m : Bool) (cs : List Clause) (c : ℕ) → firsts_of (with_mark m c cs) ≡ firsts_of cs
firsts_kept m cs c = fields_kept (λ (x : Clause). x.first_of_parent) cs no_heap_clause
    (record (heap_clause cs c) { is_in_heap = m }) c refl

-- a number that is told changes no parent
pub tallied_lefts : (left c : ℕ) (cs : List Clause) → lefts_of (tallied left c cs) ≡ set (lefts_of cs) c left
tallied_lefts left c cs = map-set (λ (x : Clause). x.left) cs c (record (heap_clause cs c) { left = left })

pub tallied_firsts : (left c : ℕ) (cs : List Clause) → firsts_of (tallied left c cs) ≡ firsts_of cs
tallied_firsts left c cs = fields_kept (λ (x : Clause). x.first_of_parent) cs no_heap_clause
    (record (heap_clause cs c) { left = left }) c refl

-- a clause more, without a mark
pub mark_pushed : (cs : List Clause) (x : Clause) (d : ℕ) → x.is_in_heap ≡ false
    → (heap_clause (cs ++ x ∷ []) d).is_in_heap ≡ (heap_clause cs d).is_in_heap
mark_pushed cs x d plain = pushed_field (λ (y : Clause). y.is_in_heap) cs x no_heap_clause d plain

-- a clause's tallies
pub lefts_at : (cs : List Clause) (c : ℕ) → get_or (lefts_of cs) c 0 ≡ (heap_clause cs c).left
lefts_at cs c = elim (cases_lt c (length cs)) [
  | inl l ↦ get_or-map (λ (x : Clause). x.left) cs c no_heap_clause 0 l
  | inr past ↦ get_or_past _ c 0 (subst (λ n. n ≤ c) (sym (length-map cs (λ (x : Clause). x.left))) past)
      ∙ sym (ap (λ (x : Clause). x.left) (get_or_past cs c no_heap_clause past))
]

pub firsts_at : (cs : List Clause) (c : ℕ) → get_or (firsts_of cs) c 0 ≡ (heap_clause cs c).first_of_parent
firsts_at cs c = elim (cases_lt c (length cs)) [
  | inl l ↦ get_or-map (λ (x : Clause). x.first_of_parent) cs c no_heap_clause 0 l
  | inr past ↦ get_or_past _ c 0 (subst (λ n. n ≤ c) (sym (length-map cs (λ (x : Clause). x.first_of_parent))) past)
      ∙ sym (ap (λ (x : Clause). x.first_of_parent) (get_or_past cs c no_heap_clause past))
]

-- a clause's number was told
pub told_lefts : (cs new : List Clause) (lefts : List ℕ) (n m c : ℕ) → new ≡ tallied n c cs → lefts_of cs ≡ lefts
    → n ≡ m
    → lefts_of new ≡ set lefts c m
told_lefts cs new lefts n m c is view e =
    ap lefts_of is ∙ (tallied_lefts n c cs ∙ (ap (λ xs. set xs c n) view ∙ ap (set lefts c) e))

pub told_firsts : (cs new : List Clause) (firsts : List ℕ) (n c : ℕ) → new ≡ tallied n c cs
    → firsts_of cs ≡ firsts
    → firsts_of new ≡ firsts
told_firsts cs new firsts n c is view = ap firsts_of is ∙ (tallied_firsts n c cs ∙ view)

-- a clause's number was read
pub left_read : (cs : List Clause) (lefts : List ℕ) (c : ℕ) (x : Clause) → x ≡ heap_clause cs c → lefts_of cs ≡ lefts
    → x.left ≡ get_or lefts c 0
left_read cs lefts c x at view = ap (λ (y : Clause). y.left) at ∙ (sym (lefts_at cs c) ∙ ap (λ xs. get_or xs c 0) view)

-- a clause of which some group isn't false is there
pub within_from_left : (cs : List Clause) (lefts : List ℕ) (c : ℕ) → lefts_of cs ≡ lefts → 1 ≤ get_or lefts c 0
    → c < length cs
within_from_left cs lefts c view some = elim (cases_lt c (length cs)) [
  | inl l ↦ l
  | inr past ↦ absurd (let none = ap (λ xs. get_or xs c 0) (sym view)
      ∙ (lefts_at cs c ∙ ap (λ (y : Clause). y.left) (get_or_past cs c no_heap_clause past)) in
      omega (arith, some, none))
]
