-- What a place more of a literal leaves, and a member more of a group.
use Rattle.std.proofs.Common.{◌≡◌, ℕ, ◌+◌, ◌-◌, ◌<◌, ◌≤◌, ◌⊎◌, Bool, true, false, not, ◌&&◌, ◌||◌, cond, eqb, List}
use Rattle.std.proofs.Common.{[], ◌∷◌, ◌++◌, length}
use Rattle.std.proofs.Common.{refl, sym, ap, ◌∙◌, subst, arith, inl, inr}
use Rattle.std.proofs.Math.Bool.{or-true, or-false}
use Rattle.std.proofs.lemmas.Bool.{cases_eq, eq-eqb, ne_eqb, false≢true}
use Rattle.std.proofs.lemmas.List.{get_or-set_same, get_or-set_other, get_or_append_left, get_or_push, length_push}
use Rattle.std.proofs.lemmas.List.{length-set}
use Rattle.clause_counters.proofs.Words.{all_members, all_places, AreFlagged, count, Group, group_at, initial_flag}
use Rattle.clause_counters.proofs.Words.{is_newest, IsMember, IsStanding, joined_at, Link, link_at, no_group, no_link}
use Rattle.clause_counters.proofs.Words.{no_standing, numbers_at, open_members, open_places, placed_at, placed_once}
use Rattle.clause_counters.proofs.Words.{Standing, standing_at, with_member, with_place, with_place_once}
use Rattle.clause_counters.proofs.ListLaws.{field_kept}
use Rattle.clause_counters.proofs.PoolLaws.{lists_pushed, within_pushed, pool_pushed, all_pushed, open_pushed}
use Rattle.clause_counters.proofs.CountLaws.{no_term, first_counted}

abbrev is_closed : Standing → Bool
is_closed l = l.is_false

abbrev list_of : Standing → ℕ
list_of l = l.groups

abbrev is_false_group : Group → Bool
is_false_group g = eqb g.left 0

abbrev clauses_in : Group → ℕ
clauses_in g = g.clauses

-- a link of the group comes first
newest_pushed : (ps : List Link) (group next : ℕ) (flag : Bool)
    → is_newest (ps ++ (record { value = group; next = next }) ∷ [])
    (record { is_false = flag; groups = length ps + 1 }) group ≡ true
newest_pushed ps group next flag =
    let link : Link = record { value = group; next = next } in
    let place : length ps + 1 - 1 ≡ length ps = omega arith in
    let value : (link_at (ps ++ link ∷ []) (length ps + 1 - 1)).value ≡ group =
    ap (λ n. (link_at (ps ++ link ∷ []) n).value) place
    ∙ ap (λ (x : Link). x.value) (get_or_push ps link no_link (length ps) refl) in
    ap (λ b. not b && eqb (link_at (ps ++ link ∷ []) (length ps + 1 - 1)).value group)
    (ne_eqb (length ps + 1) 0 (omega arith)) ∙ eq-eqb _ _ value

-- a link that comes before another list leaves the newest place
newest_kept : (ps : List Link) (link : Link) (at : Standing) (group : ℕ) → at.groups ≤ length ps
    → is_newest (ps ++ link ∷ []) at group ≡ is_newest ps at group
newest_kept ps link at group within = elim (cases_eq at.groups 0) [
  | inl e ↦ ap (λ b. not b && eqb (link_at (ps ++ link ∷ []) (at.groups - 1)).value group) (eq-eqb at.groups 0 e)
      ∙ sym (ap (λ b. not b && eqb (link_at ps (at.groups - 1)).value group) (eq-eqb at.groups 0 e))
  | inr ne ↦ ap (λ (x : Link). not (eqb at.groups 0) && eqb x.value group)
      (get_or_append_left ps (link ∷ []) no_link (at.groups - 1) (omega (arith, within, ne)))
]

-- nothing comes where a test of two zeros is under another
no_terms : (a b : Bool) (n : ℕ) → n ≡ n + cond a (cond b 0 0) 0
no_terms true true n = omega arith
no_terms true false n = omega arith
no_terms false b n = omega arith

-- what holds of one number holds whether it is tested for or not
or_same : (b : Bool) (i k : ℕ) → (i ≡ k → b ≡ true) → b ≡ (b || eqb i k)
or_same true i k says = refl
or_same false i k says = elim (cases_eq i k) [
  | inl e ↦ absurd (false≢true (says e))
  | inr ne ↦ sym (ne_eqb i k ne)
]

module _ (ps : List Link) (ls : List Standing) (st : IsStanding ps ls) (i : ℕ) (l : i < length ls) (group : ℕ)
    (told : Bool) where
  abbrev row : Standing
  row = record { is_false = initial_flag (standing_at ls i) told; groups = length ps + 1 }

  pub standing_step : IsStanding (with_place ps ls i group) (placed_at ps ls i told)
  standing_step = record {
    linked = pool_pushed is_closed list_of no_standing ps st.linked ls st.within i l group row refl;
    within = within_pushed is_closed list_of no_standing ps st.linked ls st.within i l group row refl;
  }

  pub lists_step : (k h : ℕ) → count h (numbers_at (with_place ps ls i group)
      (standing_at (placed_at ps ls i told) k).groups)
      ≡ count h (numbers_at ps (standing_at ls k).groups) + cond (eqb i k) (cond (eqb group h) 1 0) 0
  lists_step = lists_pushed is_closed list_of no_standing ps st.linked ls st.within i l group row refl

  pub all_step : (h : ℕ) → all_places (with_place ps ls i group) (placed_at ps ls i told) h
      ≡ all_places ps ls h + cond (eqb group h) 1 0
  all_step = all_pushed is_closed list_of no_standing ps st.linked ls st.within i l group row refl

  -- a literal that stands somewhere keeps its flag
  flag_kept : ((standing_at ls i).groups ≡ 0 → ⊥) → initial_flag (standing_at ls i) told ≡ (standing_at ls i).is_false
  flag_kept some = ap (λ b. cond b told (standing_at ls i).is_false) (ne_eqb (standing_at ls i).groups 0 some)

  pub open_step : (h : ℕ) → open_places (with_place ps ls i group) (placed_at ps ls i told) h
      ≡ open_places ps ls h + cond (eqb group h) (cond (initial_flag (standing_at ls i) told) 0 1) 0
  open_step h = open_pushed is_closed list_of no_standing ps st.linked ls st.within i l group row refl h why
    where
      why : ((standing_at ls i).is_false ≡ initial_flag (standing_at ls i) told) ⊎ ((standing_at ls i).groups ≡ 0)
      why = elim (cases_eq (standing_at ls i).groups 0) [
        | inl e ↦ inr e
        | inr ne ↦ inl (sym (flag_kept ne))
      ]

  pub flags_step : (is_false : ℕ → Bool) → AreFlagged ps ls is_false → is_false i ≡ told
      → AreFlagged (with_place ps ls i group) (placed_at ps ls i told) is_false
  flags_step is_false flagged says k h some = elim (cases_eq k i) [
    | inl e ↦ subst (λ x. (standing_at (placed_at ps ls i told) x).is_false ≡ is_false x) (sym e)
        (ap (λ (x : Standing). x.is_false) (get_or-set_same ls i row no_standing l) ∙ here)
    | inr ne ↦ ap (λ (x : Standing). x.is_false) (get_or-set_other ls i k row no_standing ne)
        ∙ flagged k h (let step = lists_step k h in
        let none : ◌≡◌ {A = ℕ} (cond (eqb i k) (cond (eqb group h) 1 0) 0) 0 =
        ap (λ b. cond b (cond (eqb group h) 1 0) 0) (ne_eqb i k (λ e. ne (sym e))) in
        omega (arith, step, none, some))
  ]
    where
      here : initial_flag (standing_at ls i) told ≡ is_false i
      here = elim (cases_eq (standing_at ls i).groups 0) [
        | inl e ↦ ap (λ b. cond b told (standing_at ls i).is_false) (eq-eqb (standing_at ls i).groups 0 e) ∙ sym says
        | inr ne ↦ flag_kept ne ∙ flagged i (link_at ps ((standing_at ls i).groups - 1)).value
            (first_counted ps st.linked (standing_at ls i).groups ne)
      ]

  -- the newest place of the literal is of the group
  newest_step : (k : ℕ) → is_newest (with_place ps ls i group) (standing_at (placed_at ps ls i told) k) group
      ≡ (is_newest ps (standing_at ls k) group || eqb i k)
  newest_step k = elim (cases_eq k i) [
    | inl e ↦ subst (λ x. is_newest (with_place ps ls i group) (standing_at (placed_at ps ls i told) x) group
        ≡ (is_newest ps (standing_at ls x) group || eqb i x)) (sym e)
        (ap (λ (x : Standing). is_newest (with_place ps ls i group) x group) (get_or-set_same ls i row no_standing l)
        ∙ (newest_pushed ps group (standing_at ls i).groups (initial_flag (standing_at ls i) told)
        ∙ sym (ap (λ b. is_newest ps (standing_at ls i) group || b) (eq-eqb i i refl)
        ∙ or-true (is_newest ps (standing_at ls i) group))))
    | inr ne ↦ ap (λ (x : Standing). is_newest (with_place ps ls i group) x group)
        (get_or-set_other ls i k row no_standing ne)
        ∙ (newest_kept ps (record { value = group; next = (standing_at ls i).groups }) (standing_at ls k) group
        (st.within k)
        ∙ sym (ap (λ b. is_newest ps (standing_at ls k) group || b) (ne_eqb i k (λ e. ne (sym e)))
        ∙ or-false (is_newest ps (standing_at ls k) group)))
  ]

-- a literal whose newest place is of the group gets no other
module _ (ps : List Link) (ls : List Standing) (st : IsStanding ps ls) (i : ℕ) (l : i < length ls) (group : ℕ)
    (told : Bool) where
  abbrev has_one : Bool
  has_one = is_newest ps (standing_at ls i) group

  -- what holds if it has a place of the group, and if it gets one
  either : (P : Bool → List Link → List Standing → Type 0) → (has_one ≡ true → P true ps ls)
      → P false (with_place ps ls i group) (placed_at ps ls i told)
      → P has_one (with_place_once ps ls i group) (placed_once ps ls i group told)
  either P kept more = (elim has_one as (λ b. has_one ≡ b
      → P b (cond b ps (with_place ps ls i group)) (cond b ls (placed_at ps ls i told))) [
        | true ↦ kept
        | false ↦ λ e. more
      ]) refl

  pub standing_once : IsStanding (with_place_once ps ls i group) (placed_once ps ls i group told)
  standing_once = either (λ b. IsStanding) (λ e. st) (standing_step ps ls st i l group told)

  pub lists_once : (k h : ℕ) → count h (numbers_at (with_place_once ps ls i group)
      (standing_at (placed_once ps ls i group told) k).groups)
      ≡ count h (numbers_at ps (standing_at ls k).groups) + cond (eqb i k) (cond (eqb group h) (cond has_one 0 1) 0) 0
  lists_once k h = either (λ b x (y : List Standing). count h (numbers_at x (standing_at y k).groups)
      ≡ count h (numbers_at ps (standing_at ls k).groups) + cond (eqb i k) (cond (eqb group h) (cond b 0 1) 0) 0)
      (λ e. no_terms (eqb i k) (eqb group h) (count h (numbers_at ps (standing_at ls k).groups)))
      (lists_step ps ls st i l group told k h)

  pub all_once : (h : ℕ) → all_places (with_place_once ps ls i group) (placed_once ps ls i group told) h
      ≤ all_places ps ls h + cond (eqb group h) 1 0
  all_once h = either (λ b x y. all_places x y h ≤ all_places ps ls h + cond (eqb group h) 1 0)
      (λ e. omega arith) (let all = all_step ps ls st i l group told h in omega (arith, all))

  pub open_once : (h : ℕ) → open_places (with_place_once ps ls i group) (placed_once ps ls i group told) h
      ≡ open_places ps ls h + cond (eqb group h) (cond has_one 0 (cond (initial_flag (standing_at ls i) told) 0 1)) 0
  open_once h = either (λ b x y. open_places x y h ≡ open_places ps ls h
      + cond (eqb group h) (cond b 0 (cond (initial_flag (standing_at ls i) told) 0 1)) 0)
      (λ e. let none = no_term (eqb group h) in omega (arith, none)) (open_step ps ls st i l group told h)

  pub flags_once : (is_false : ℕ → Bool) → AreFlagged ps ls is_false → is_false i ≡ told
      → AreFlagged (with_place_once ps ls i group) (placed_once ps ls i group told) is_false
  flags_once is_false flagged says = either (λ b x y. AreFlagged x y is_false) (λ e. flagged)
      (flags_step ps ls st i l group told is_false flagged says)

  pub newest_once : (k : ℕ) → is_newest (with_place_once ps ls i group)
      (standing_at (placed_once ps ls i group told) k) group ≡ (is_newest ps (standing_at ls k) group || eqb i k)
  newest_once k = either (λ b x (y : List Standing). is_newest x (standing_at y k) group
      ≡ (is_newest ps (standing_at ls k) group || eqb i k))
      (λ e. or_same (is_newest ps (standing_at ls k) group) i k
      (λ is. subst (λ n. is_newest ps (standing_at ls n) group ≡ true) is e))
      (newest_step ps ls st i l group told k)

  pub places_once : length (with_place_once ps ls i group) ≤ length ps + 1
  places_once = either (λ b x y. length x ≤ length ps + 1) (λ e. omega arith)
      (let more = length_push ps (record { value = group; next = (standing_at ls i).groups }) in omega (arith, more))

  pub literals_once : length (placed_once ps ls i group told) ≡ length ls
  literals_once = either (λ b x y. length y ≡ length ls) (λ e. refl) (length-set ls i
      (record { is_false = initial_flag (standing_at ls i) told; groups = length ps + 1 }))

module _ (ms : List Link) (gs : List Group) (mb : IsMember ms gs) (i : ℕ) (l : i < length gs) (clause : ℕ) where
  abbrev group_row : Group
  group_row = record { left = (group_at gs i).left; clauses = length ms + 1 }

  pub member_step : IsMember (with_member ms gs i clause) (joined_at ms gs i)
  member_step = record {
    linked = pool_pushed is_false_group clauses_in no_group ms mb.linked gs mb.within i l clause group_row refl;
    within = within_pushed is_false_group clauses_in no_group ms mb.linked gs mb.within i l clause group_row refl;
  }

  pub member_lists : (k h : ℕ) → count h (numbers_at (with_member ms gs i clause)
      (group_at (joined_at ms gs i) k).clauses)
      ≡ count h (numbers_at ms (group_at gs k).clauses) + cond (eqb i k) (cond (eqb clause h) 1 0) 0
  member_lists = lists_pushed is_false_group clauses_in no_group ms mb.linked gs mb.within i l clause group_row refl

  pub member_all : (h : ℕ) → all_members (with_member ms gs i clause) (joined_at ms gs i) h
      ≡ all_members ms gs h + cond (eqb clause h) 1 0
  member_all = all_pushed is_false_group clauses_in no_group ms mb.linked gs mb.within i l clause group_row refl

  pub member_open : (h : ℕ) → open_members (with_member ms gs i clause) (joined_at ms gs i) h
      ≡ open_members ms gs h + cond (eqb clause h) (cond (eqb (group_at gs i).left 0) 0 1) 0
  member_open h = open_pushed is_false_group clauses_in no_group ms mb.linked gs mb.within i l clause group_row refl h
      (inl refl)

  pub member_left : (k : ℕ) → (group_at (joined_at ms gs i) k).left ≡ (group_at gs k).left
  member_left k = field_kept (λ (x : Group). x.left) gs no_group group_row i k refl
