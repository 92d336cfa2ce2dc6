-- The counters of groups and clauses, when a place's literal becomes false or undecided.
use Rattle.std.proofs.Common.{◌≡◌, ℕ, ◌+◌, ◌-◌, ◌<◌, ◌≤◌, Bool, true, false, cond, eqb, List, length, get_or, set}
use Rattle.std.proofs.Common.{refl, ap, arith, inl, inr}
use Rattle.std.proofs.lemmas.Bool.{cases_lt, eq-eqb, ne_eqb}
use Rattle.std.proofs.lemmas.List.{get_or_past}
use Rattle.std.proofs.lemmas.List.Sums.{get_or-le-sum_by}
use Rattle.clause_counters.proofs.Words.{all_members, clause_lists, count, Group, group_at, IsLinked, Link, link_at}
use Rattle.clause_counters.proofs.Words.{no_group, numbers_at, open_members, with_left}
use Rattle.clause_counters.proofs.ListLaws.{fields_kept, number_told}
use Rattle.clause_counters.proofs.OpenSums.{open_part, closed_part}
use Rattle.clause_counters.proofs.LinkLaws.{count_unrolled}

-- a test of two zeros
pub no_term : (b : Bool) → ◌≡◌ {A = ℕ} (cond b 0 0) 0
no_term true = refl
no_term false = refl

-- what has a number is there
pub there : {X : Type 0} (f : X → ℕ) (d : X) → f d ≡ 0 → (xs : List X) (i : ℕ) → 1 ≤ f (get_or xs i d) → i < length xs
there f d none xs i some = elim (cases_lt i (length xs)) [
  | inl l ↦ l
  | inr past ↦ absurd (let e = ap f (get_or_past xs i d past) in omega (arith, e, none, some))
]

-- the first number of a list is counted
pub first_counted : (links : List Link) → IsLinked links → (list : ℕ) → (list ≡ 0 → ⊥)
    → 1 ≤ count (link_at links (list - 1)).value (numbers_at links list)
first_counted links k list some =
    let v = (link_at links (list - 1)).value in
    let all = count_unrolled links k list v some in
    let one : ◌≡◌ {A = ℕ} (cond (eqb v v) 1 0) 1 = ap (λ b. cond b 1 0) (eq-eqb v v refl) in
    omega (arith, all, one)

-- one step of a walk that lowers a number of each, and of one that raises it
pub lower_step : {X : Type 0} (f : X → ℕ) (d : X) → f d ≡ 0 → (links : List Link) → IsLinked links
    → (xs new : List X) (x : X) (list c : ℕ) → (list ≡ 0 → ⊥)
    → new ≡ set xs (link_at links (list - 1)).value x → f x + 1 ≡ f (get_or xs (link_at links (list - 1)).value d)
    → f (get_or new c d) + count c (numbers_at links list) ≡ f (get_or xs c d) + count c
    (numbers_at links (link_at links (list - 1)).next)
lower_step f d none links k xs new x list c some is one =
    let v = (link_at links (list - 1)).value in
    let all = count_unrolled links k list c some in
    let less = number_told f xs d x v c 0 1 (there f d none xs v (omega (arith, one))) (omega (arith, one)) in
    let at : f (get_or new c d) ≡ f (get_or (set xs v x) c d) = ap (λ ys. f (get_or ys c d)) is in
    let zero' = no_term (eqb v c) in
    omega (arith, all, less, at, zero')

pub raise_step : {X : Type 0} (f : X → ℕ) (d : X) (links : List Link) → IsLinked links
    → (xs new : List X) (x : X) (list c : ℕ) → (list ≡ 0 → ⊥)
    → new ≡ set xs (link_at links (list - 1)).value x → f x ≡ f (get_or xs (link_at links (list - 1)).value d) + 1
    → (link_at links (list - 1)).value < length xs
    → f (get_or new c d) + count c (numbers_at links (link_at links (list - 1)).next)
    ≡ f (get_or xs c d) + count c (numbers_at links list)
raise_step f d links k xs new x list c some is one l =
    let v = (link_at links (list - 1)).value in
    let all = count_unrolled links k list c some in
    let more = number_told f xs d x v c 1 0 l (omega (arith, one)) in
    let at : f (get_or new c d) ≡ f (get_or (set xs v x) c d) = ap (λ ys. f (get_or ys c d)) is in
    let zero' = no_term (eqb v c) in
    omega (arith, all, more, at, zero')

-- what is counted is known
pub known_first : (links : List Link) → IsLinked links → (list n : ℕ) → (list ≡ 0 → ⊥)
    → ((c : ℕ) → n ≤ c → count c (numbers_at links list) ≡ 0)
    → (link_at links (list - 1)).value < n
known_first links k list n some known = elim (cases_lt (link_at links (list - 1)).value n) [
  | inl l ↦ l
  | inr past ↦ absurd (let one = first_counted links k list some in
      let none = known (link_at links (list - 1)).value past in omega (arith, one, none))
]

-- what a group's clauses have of it is among what they have
pub of_group : (members : List Link) (groups : List Group) (g c : ℕ) → g < length groups
    → count c (numbers_at members (group_at groups g).clauses) ≤ all_members members groups c
of_group members groups g c l =
    get_or-le-sum_by (λ (x : Group). count c (numbers_at members x.clauses)) groups g no_group l

pub of_open_group : (members : List Link) (groups : List Group) (g c : ℕ) → g < length groups
    → ((group_at groups g).left ≡ 0 → ⊥)
    → count c (numbers_at members (group_at groups g).clauses) ≤ open_members members groups c
of_open_group members groups g c l some =
    open_part (λ (x : Group). eqb x.left 0) (λ (x : Group). count c (numbers_at members x.clauses)) no_group groups g l
    (ne_eqb (group_at groups g).left 0 some)

-- what is false isn't counted, and with what isn't it is no more than all
pub closed_group : (members : List Link) (groups : List Group) (g c : ℕ) → g < length groups
    → (group_at groups g).left ≡ 0
    → open_members members groups c + count c (numbers_at members (group_at groups g).clauses)
    ≤ all_members members groups c
closed_group members groups g c l none =
    closed_part (λ (x : Group). eqb x.left 0) (λ (x : Group). count c (numbers_at members x.clauses)) no_group groups
    g l
    (eq-eqb (group_at groups g).left 0 none)

-- a number that is told changes no list
pub lists_told : (n g : ℕ) (groups : List Group) → clause_lists (with_left n g groups) ≡ clause_lists groups
lists_told n g groups = fields_kept (λ (x : Group). x.clauses) groups no_group
    (record (group_at groups g) { left = n }) g refl
