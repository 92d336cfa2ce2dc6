-- What the counters say of the clauses that callers see.
use Rattle.std.proofs.Common.{◌≡◌, ℕ, ◌<◌, ◌≤◌, Bool, true, false, not, ◌||◌, ◌&&◌, cond, eqb, List, [], length}
use Rattle.std.proofs.Common.{get_or, map, Option, Some, None}
use Rattle.std.proofs.Common.{refl, sym, ap, ◌∙◌, subst, arith, inl, inr}
use Rattle.std.proofs.lemmas.Bool.{cases_eq, cases_lt, eq-eqb, ne_eqb, eqb-true, false≢true}
use Rattle.std.proofs.lemmas.List.{get_or_past, length-map, get_or-map, get_or-set_same, get_or-set_other}
use Rattle.std.proofs.lemmas.List.Folds.{Any-from_list_any, list_any_at}
use Rattle.std.proofs.lemmas.List.Sums.{AllPass-from_list_all, list_all-from_AllPass}
use Rattle.clause_counters.proofs.Words.{clause_lists, count, counters_in, CounterState, CountsMembers, CountsPlaces}
use Rattle.clause_counters.proofs.Words.{Group, group_at, GroupClause, grouped_clause, GroupedClauses, has_index}
use Rattle.clause_counters.proofs.Words.{is_falsified, IsFirst, IsFirstFalsified, IsSameButRoom, Link, list_all}
use Rattle.clause_counters.proofs.Words.{list_any, Lit, literal_index, literals_of_group, no_group, no_group_clause}
use Rattle.clause_counters.proofs.Words.{no_standing, nowhere, numbers_at, once, Represents, slice_index, Standing}
use Rattle.clause_counters.proofs.Words.{standing_at, Stood, stood_at, with_flag}
use Rattle.clause_counters.proofs.ListLaws.{found, field_kept, sum_none, counted_there}
use Rattle.clause_counters.proofs.CountLaws.{of_open_group}
use Rattle.clause_counters.proofs.FirstLaws.{same_first_of}
use Rattle.clause_counters.proofs.FlagLaws.{stood_kept, of_open_literal, places_at}

-- the clauses of a group that are kept
pub clauses_kept : (members : List Link) (groups : List Group) (g : ℕ)
    → get_or (map (numbers_at members) (clause_lists groups)) g [] ≡ numbers_at members (group_at groups g).clauses
clauses_kept members groups g = elim (cases_lt g (length groups)) [
  | inl l ↦ get_or-map (numbers_at members) (clause_lists groups) g 0 []
      (subst (λ n. g < n) (sym (length-map groups (λ (x : Group). x.clauses))) l)
      ∙ ap (numbers_at members) (get_or-map (λ (x : Group). x.clauses) groups g no_group 0 l)
  | inr past ↦ get_or_past (map (numbers_at members) (clause_lists groups)) g []
      (subst (λ n. n ≤ g) (sym (length-map (clause_lists groups) (numbers_at members)
      ∙ length-map groups (λ (x : Group). x.clauses))) past)
      ∙ ap (λ (x : Group). numbers_at members x.clauses) (sym (get_or_past groups g no_group past))
]

-- one by a test
one_if : {b : Bool} → b ≡ true → ◌≡◌ {A = ℕ} (cond b 1 0) 1
one_if e = ap (λ t. cond t 1 0) e

if_one : (b : Bool) → 1 ≤ cond b 1 0 → b ≡ true
if_one true some = refl
if_one false some = absurd (omega (arith, some))

-- what fields keep, with what they show
module _ (places : List Link) (ls : List Standing) (members : List Link) (groups : List Group) (lefts : List ℕ)
    (firsts : List ℕ) (has_room : Bool) (s : GroupedClauses)
    (p : CountsPlaces places ls groups) (j : CountsMembers members groups lefts)
    (shows : Represents (counters_in places ls members groups firsts has_room) s) where
  -- a literal's places, as they are shown
  stands : (i g : ℕ) → places_at places ls i g ≡ once i (literals_of_group s g)
  stands i g = sym (ap (λ (x : Stood). count g x.groups) (stood_kept places ls i)) ∙ shows.stands i g

  joins : (g c : ℕ) → count c (numbers_at members (group_at groups g).clauses) ≡ count g (grouped_clause s c).groups
  joins g c = sym (ap (count c) (clauses_kept members groups g)) ∙ shows.joins g c

  falses : (l : Lit) (g : ℕ) → 1 ≤ places_at places ls (literal_index l) g
      → (standing_at ls (literal_index l)).is_false ≡ s.is_false l
  falses l g some = sym (ap (λ (x : Stood). x.is_false) (stood_kept places ls (literal_index l)))
      ∙ shows.falses l g (subst (λ (x : Stood). 1 ≤ count g x.groups)
      (sym (stood_kept places ls (literal_index l))) some)

  -- a literal with a place is there
  literal_within : (i g : ℕ) → 1 ≤ places_at places ls i g → i < length ls
  literal_within i g some = elim (cases_lt i (length ls)) [
    | inl l ↦ l
    | inr past ↦ absurd (let none = ap (λ (x : Standing). count g (numbers_at places x.groups))
        (get_or_past ls i no_standing past) in omega (arith, some, none))
  ]

  -- and so is a group with a clause
  group_there : (g c : ℕ) → 1 ≤ count c (numbers_at members (group_at groups g).clauses) → g < length groups
  group_there g c some = elim (cases_lt g (length groups)) [
    | inl l ↦ l
    | inr past ↦ absurd (let none = ap (λ (x : Group). count c (numbers_at members x.clauses))
        (get_or_past groups g no_group past) in omega (arith, some, none))
  ]

  -- of a group whose number is zero each literal is false
  group_false : (g : ℕ) → (group_at groups g).left ≡ 0 → list_all s.is_false (literals_of_group s g) ≡ true
  group_false g none = list_all-from_AllPass s.is_false (literals_of_group s g) (λ k d l.
      let lit : Lit = get_or (literals_of_group s g) k d in
      let there = one_if (list_any_at (has_index (literal_index lit)) (literals_of_group s g) k d l
      (eq-eqb (literal_index lit) (literal_index lit) refl)) in
      let same = stands (literal_index lit) g in
      let some : 1 ≤ places_at places ls (literal_index lit) g = omega (arith, there, same) in
      let within = literal_within (literal_index lit) g some in
      let counts = p.counts g in
      let flag : (standing_at ls (literal_index lit)).is_false ≡ true =
      (elim ((standing_at ls (literal_index lit)).is_false) as (λ b. (standing_at ls (literal_index lit)).is_false ≡ b
      → b ≡ true) [
        | true ↦ λ e. refl
        | false ↦ λ e. let part = of_open_literal places ls (literal_index lit) g within e in
            absurd (omega (arith, part, some, counts, none))
      ]) refl in
      sym (falses lit g some) ∙ flag)

  -- and of a group whose literals are false the number is zero
  false_group : (g : ℕ) → list_all s.is_false (literals_of_group s g) ≡ true → (group_at groups g).left ≡ 0
  false_group g all = p.counts g ∙ sum_none (λ (x : Standing). cond x.is_false 0 (count g (numbers_at places x.groups)))
      no_standing ls (λ i l.
      (elim (cases_lt 0 (places_at places ls i g)) [
        | inl some ↦
            let same = stands i g in
            let at = Any-from_list_any (has_index i) (literals_of_group s g)
            (if_one (list_any (has_index i) (literals_of_group s g)) (omega (arith, same, some))) in
            let lit : Lit = at.1 in
            let is : literal_index lit ≡ i = eqb-true (literal_index lit) i at.4 in
            let false' : s.is_false lit ≡ true = sym (ap s.is_false at.3)
            ∙ AllPass-from_list_all s.is_false (literals_of_group s g) all at.0 lit at.2 in
            let flag : (standing_at ls i).is_false ≡ true =
            subst (λ n. (standing_at ls n).is_false ≡ true) is
            (falses lit g (subst (λ n. 1 ≤ places_at places ls n g) (sym is) (omega (arith, some))) ∙ false') in
            ap (λ b. cond b 0 (places_at places ls i g)) flag
        | inr none ↦
            (elim (standing_at ls i).is_false as (λ b. cond b 0 (places_at places ls i g) ≡ 0) [
              | true ↦ refl
              | false ↦ omega (arith, none)
            ])
      ]))

  -- a clause's number is zero if it is falsified, and only then
  pub zero_falsified : (c : ℕ) → get_or lefts c 0 ≡ 0 → is_falsified s c ≡ true
  zero_falsified c zero' = list_all-from_AllPass (λ g. list_all s.is_false (literals_of_group s g))
      (grouped_clause s c).groups (λ k d l.
      let g : ℕ = get_or (grouped_clause s c).groups k d in
      let there = counted_there (λ other. eqb other g) d (grouped_clause s c).groups k l (eq-eqb g g refl) in
      let same = joins g c in
      let some : 1 ≤ count c (numbers_at members (group_at groups g).clauses) = omega (arith, there, same) in
      let within = group_there g c some in
      let counts = j.counts c in
      group_false g (elim (cases_eq (group_at groups g).left 0) [
        | inl e ↦ e
        | inr ne ↦ absurd (let part = of_open_group members groups g c within ne in
            omega (arith, part, some, counts, zero'))
      ]))

  pub falsified_zero : (c : ℕ) → is_falsified s c ≡ true → get_or lefts c 0 ≡ 0
  falsified_zero c all = j.counts c ∙ sum_none (λ (x : Group).
      cond (eqb x.left 0) 0 (count c (numbers_at members x.clauses))) no_group groups (λ g l.
      (elim (cases_lt 0 (count c (numbers_at members (group_at groups g).clauses))) [
        | inl some ↦
            let same = joins g c in
            let at = found (λ other. eqb other g) 0 (grouped_clause s c).groups (omega (arith, same, some)) in
            let is : get_or (grouped_clause s c).groups at.0 0 ≡ g =
            eqb-true (get_or (grouped_clause s c).groups at.0 0) g at.2 in
            let false' : list_all s.is_false (literals_of_group s g) ≡ true =
            subst (λ n. list_all s.is_false (literals_of_group s n) ≡ true) is
            (AllPass-from_list_all (λ h. list_all s.is_false (literals_of_group s h))
            (grouped_clause s c).groups all at.0 0 at.1) in
            ap (λ n. cond (eqb n 0) 0 (count c (numbers_at members (group_at groups g).clauses))) (false_group g false')
        | inr none ↦
            (elim (eqb (group_at groups g).left 0) as (λ b. cond b 0
            (count c (numbers_at members (group_at groups g).clauses)) ≡ 0) [
              | true ↦ refl
              | false ↦ omega (arith, none)
            ])
      ]))

  -- the first clause of a clause's parent, as it is shown
  first_of_shown : (c : ℕ) → get_or firsts c 0 ≡ (grouped_clause s c).first_of_parent
  first_of_shown c = ap (λ ps. get_or ps c 0) shows.firsts ∙ (elim (cases_lt c (length s.clauses)) [
    | inl l ↦ get_or-map (λ (x : GroupClause). x.first_of_parent) s.clauses c no_group_clause 0 l
    | inr past ↦ get_or_past (map (λ (x : GroupClause). x.first_of_parent) s.clauses) c 0
        (subst (λ n. n ≤ c) (sym (length-map s.clauses (λ (x : GroupClause). x.first_of_parent))) past)
        ∙ sym (ap (λ (x : GroupClause). x.first_of_parent) (get_or_past s.clauses c no_group_clause past))
  ])

  -- the clauses whose number is zero are the falsified ones
  zero_is_falsified : (c : ℕ) → eqb (get_or lefts c 0) 0 ≡ is_falsified s c
  zero_is_falsified c = (elim (is_falsified s c) as (λ b. is_falsified s c ≡ b → eqb (get_or lefts c 0) 0 ≡ b) [
    | true ↦ λ e. eq-eqb _ _ (falsified_zero c e)
    | false ↦ λ e. ne_eqb _ _ (λ z. false≢true (sym e ∙ zero_falsified c z))
  ]) refl

  -- so the first of them is the first that is falsified
  pub first_shown : (answer : Option ℕ) → length lefts ≡ length firsts → IsFirst lefts firsts answer
      → IsFirstFalsified s answer
  first_shown answer same first =
      same_first_of (slice_index firsts) (λ c. (grouped_clause s c).first_of_parent) (length lefts) (length s.clauses)
      (λ c. eqb (get_or lefts c 0) 0) (is_falsified s) answer (λ c l. first_of_shown c)
      (same ∙ (ap length shows.firsts ∙ length-map s.clauses (λ (x : GroupClause). x.first_of_parent)))
      (λ c l. zero_is_falsified c) first

-- a literal that is told keeps its groups
told_groups : (v : CounterState) (b : Bool) (i k : ℕ) → (stood_at (with_flag b i v) k).groups ≡ (stood_at v k).groups
told_groups v b i k = field_kept (λ (x : Stood). x.groups) v.literals nowhere
    (record (stood_at v i) { is_false = b }) i k refl

-- one with a place is kept
stood_within : (v : CounterState) (i g : ℕ) → 1 ≤ count g (stood_at v i).groups → i < length v.literals
stood_within v i g some = elim (cases_lt i (length v.literals)) [
  | inl l ↦ l
  | inr past ↦ absurd (let none = ap (λ (x : Stood). count g x.groups) (get_or_past v.literals i nowhere past) in
      omega (arith, some, none))
]

-- the flag of a literal with a place, once a literal was told
told_flag : (v : CounterState) (b : Bool) (i k g : ℕ) → 1 ≤ count g (stood_at v k).groups
    → (stood_at (with_flag b i v) k).is_false ≡ cond (eqb k i) b (stood_at v k).is_false
told_flag v b i k g some = elim (cases_eq k i) [
  | inl e ↦ ap (λ x. (stood_at (with_flag b i v) x).is_false) e
      ∙ (ap (λ (x : Stood). x.is_false) (get_or-set_same v.literals i (record (stood_at v i) { is_false = b }) nowhere
      (subst (λ x. x < length v.literals) e (stood_within v k g some)))
      ∙ sym (ap (λ t. cond t b (stood_at v k).is_false) (eq-eqb k i e)))
  | inr ne ↦ ap (λ (x : Stood). x.is_false) (get_or-set_other v.literals i k
      (record (stood_at v i) { is_false = b }) nowhere ne)
      ∙ sym (ap (λ t. cond t b (stood_at v k).is_false) (ne_eqb k i ne))
]

-- by a test: true, or as it was
pub or_is : (t b : Bool) → cond t true b ≡ (t || b)
or_is true b = refl
or_is false b = refl

pub not_and_is : (t b : Bool) → cond t false b ≡ (not t && b)
not_and_is true b = refl
not_and_is false b = refl

-- what is shown once a literal was told, by a function that says so
pub shows_told : (v : CounterState) (s : GroupedClauses) (l : Lit) (b : Bool) (is_false : Lit → Bool)
    → ((other : Lit) → cond (has_index (literal_index l) other) b (s.is_false other) ≡ is_false other)
    → Represents v s → Represents (with_flag b (literal_index l) v) (record s { is_false = is_false })
shows_told v s l b is_false says shows = record {
  size = shows.size;
  firsts = shows.firsts;
  stands = λ i g. ap (count g) (told_groups v b (literal_index l) i) ∙ shows.stands i g;
  joins = shows.joins;
  falses = λ other g some.
      let there : 1 ≤ count g (stood_at v (literal_index other)).groups =
      subst (λ gs. 1 ≤ count g gs) (told_groups v b (literal_index l) (literal_index other)) some in
      told_flag v b (literal_index l) (literal_index other) g there
      ∙ (ap (cond (eqb (literal_index other) (literal_index l)) b) (shows.falses other g there) ∙ says other);
}

-- what is shown doesn't depend on the room
pub shows_room : (old new : CounterState) (s : GroupedClauses) → IsSameButRoom old new → Represents old s →
    Represents new s
shows_room old new s same shows = subst (λ v. Represents v s) (sym same) (record {
  size = shows.size;
  firsts = shows.firsts;
  stands = shows.stands;
  joins = shows.joins;
  falses = shows.falses;
})

pub shows_again : (places : List Link) (ls : List Standing) (members members' : List Link) (groups : List Group)
    (firsts firsts' : List ℕ)
    (has_room has_room' : Bool) (s : GroupedClauses) → members' ≡ members → firsts' ≡ firsts
    → Represents (counters_in places ls members groups firsts has_room) s
    → Represents (counters_in places ls members' groups firsts' has_room') s
shows_again places ls members members' groups firsts firsts' has_room has_room' s m p shows =
    subst (λ x. Represents (counters_in places ls x groups firsts' has_room') s) (sym m)
    (subst (λ x. Represents (counters_in places ls members groups x has_room') s) (sym p)
    (shows_room (counters_in places ls members groups firsts has_room)
    (counters_in places ls members groups firsts has_room') s refl shows))

-- a function that says the same of each literal is shown too: so the callers' may be that of a trail's values
pub shows_same : (v : CounterState) (s : GroupedClauses) (is_false : Lit → Bool) →
    ((l : Lit) → s.is_false l ≡ is_false l) → Represents v s
    → Represents v (record s { is_false = is_false })
shows_same v s is_false same shows = record {
  size = shows.size;
  firsts = shows.firsts;
  stands = shows.stands;
  joins = shows.joins;
  falses = λ l group some. shows.falses l group some ∙ same l;
}
