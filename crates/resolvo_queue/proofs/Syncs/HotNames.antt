-- Clauses that become hot: nothing else changes, and what always holds is kept.
use Rattle.std.proofs.Common.{◌≡◌, ℕ, zero, suc, ◌<◌, ◌≤◌, ◌^◌, Bool, true, false, cond, eqb, ◌⊎◌, inl, inr}
use Rattle.std.proofs.Common.{List, [], ◌∷◌, length, map, set, get_or, Option, Some, None, MatchOption}
use Rattle.std.proofs.Common.{Result, Ok, Err, OnOk, OnErr, slice_get, sym, ap, refl, ◌∙◌, subst, arith}
use Rattle.std.proofs.lemmas.Option.{slice_get_within}
use Rattle.resolvo_queue.proofs.Words.{AreChained, AreLocated, at_position, clause_of, clauses_at, first_from}
use Rattle.resolvo_queue.proofs.Words.{GrowsBy, has, HasNoClause, heated, Heats, IsFirstOf, IsFrom, IsInOrder}
use Rattle.resolvo_queue.proofs.Words.{IsNewestBelow, IsOfClause, IsPlaceOf, list_at, NameEntry, newest_at, Position}
use Rattle.resolvo_queue.proofs.Words.{Queued, same_position, Stands, TrackedClause, Tracking}
use Rattle.resolvo_queue.proofs.Syncs.HotClause.{heated_synced, set_or_elsewhere}
use Rattle.resolvo_queue.proofs.Syncs.Queued.{added_grows, queued_stays, read_at}
use Rattle.resolvo_queue.proofs.Lists.{same_some}
use Rattle.resolvo_queue.proofs.Clauses.ByName.{this_or_before}
use Rattle.resolvo_queue.proofs.Clauses.Counts.{own_number}

-- ---- clauses that are the same but for their heat

-- but for their heat, the clauses are the same
abbrev SameButHeat : List TrackedClause → List TrackedClause → Type 0
SameButHeat cs ds = map heated cs ≡ map heated ds

heads_same : (x y : TrackedClause) (xs ys : List TrackedClause) → heated x ∷ xs ≡ heated y ∷ ys → heated x ≡ heated y
heads_same x y xs ys e = cc

tails_same : {X : Type 0} (x y : X) (xs ys : List X) → x ∷ xs ≡ y ∷ ys → xs ≡ ys
tails_same x y xs ys e = cc

same_at : (cs ds : List TrackedClause) → SameButHeat cs ds → (n : ℕ) (c : TrackedClause) → slice_get cs n ≡ Some c →
    (d : TrackedClause) × (slice_get ds n ≡ Some d) × (heated c ≡ heated d)
same_at [] ds e n c is = cc
same_at (x ∷ xs) [] e n c is = let bad : heated x ∷ map heated xs ≡ [] = e in cc
same_at (x ∷ xs) (y ∷ ys) e zero c is =
    let mine : x ≡ c = same_some x c is in
    (y, refl, ap heated (sym mine) ∙ heads_same x y (map heated xs) (map heated ys) e)
same_at (x ∷ xs) (y ∷ ys) e (suc n) c is =
    same_at xs ys (tails_same (heated x) (heated y) (map heated xs) (map heated ys) e) n c is

length_heated : (cs : List TrackedClause) → length (map heated cs) ≡ length cs
length_heated [] = refl
length_heated (c ∷ cs) = let h : length (map heated cs) ≡ length cs = length_heated cs in omega arith

same_length : (cs ds : List TrackedClause) → SameButHeat cs ds → length cs ≡ length ds
same_length cs ds e = sym (length_heated cs) ∙ (ap length e ∙ length_heated ds)

first_heated : (i : ℕ) (cs : List TrackedClause) (p : ℕ) →
    first_from (λ (c : TrackedClause). c.parent) i (map heated cs) p ≡
    first_from (λ (c : TrackedClause). c.parent) i cs p
first_heated i [] p = refl
first_heated i (c ∷ cs) p = ap (λ n. cond (eqb c.parent p) i n) (first_heated (suc i) cs p)

same_first : (cs ds : List TrackedClause) → SameButHeat cs ds → (p : ℕ) →
    first_from (λ (c : TrackedClause). c.parent) 0 cs p ≡ first_from (λ (c : TrackedClause). c.parent) 0 ds p
same_first cs ds e p =
    sym (first_heated 0 cs p) ∙ (ap (λ l. first_from (λ (c : TrackedClause). c.parent) 0 l p) e ∙ first_heated 0 ds p)

clauses_heated : (cs : List TrackedClause) → map clause_of (map heated cs) ≡ map clause_of cs
clauses_heated [] = refl
clauses_heated (c ∷ cs) = ap (λ l. clause_of c ∷ l) (clauses_heated cs)

same_clauses : (cs ds : List TrackedClause) → SameButHeat cs ds → map clause_of cs ≡ map clause_of ds
same_clauses cs ds e = sym (clauses_heated cs) ∙ (ap (map clause_of) e ∙ clauses_heated ds)

-- ---- what always holds is kept

module _ (old now : Tracking) (same : SameButHeat now.clauses old.clauses) (same_lists : now.by_parent ≡ old.by_parent)
    (same_newest : now.newest_under ≡ old.newest_under)
    (same_records : now.requirements ≡ old.requirements) where
  origin : (n : ℕ) (c : TrackedClause) → slice_get now.clauses n ≡ Some c →
      (d : TrackedClause) × (slice_get old.clauses n ≡ Some d) × (heated c ≡ heated d)
  origin n c is = same_at now.clauses old.clauses same n c is

  still_located : AreLocated old.clauses → AreLocated now.clauses
  still_located located n c is =
      let d = origin n c is in
      let parents : c.parent ≡ d.0.parent = ap (λ (x : TrackedClause). x.parent) d.2 in
      ap (λ (x : TrackedClause). x.position) d.2 ∙ (located n d.0 d.1 ∙ ap (λ m. at_position m n)
      (sym (same_first now.clauses old.clauses same c.parent ∙
      ap (first_from (λ (x : TrackedClause). x.parent) 0 old.clauses) parents)))

  still_of : (p : Position) → IsOfClause old.clauses p → IsOfClause now.clauses p
  still_of p o =
      let d = same_at old.clauses now.clauses (sym same) p.number o.0 o.1 in
      (d.0, d.1, ap (λ (x : TrackedClause). x.position) (sym d.2) ∙ o.2)

  still_first : (parent : ℕ) (o : Option ℕ) →
      MatchOption o (HasNoClause old.clauses parent) (IsFirstOf old.clauses parent) →
      MatchOption o (HasNoClause now.clauses parent) (IsFirstOf now.clauses parent)
  still_first parent None none = λ n c is.
      (let d = origin n c is in ap (λ (x : TrackedClause). eqb x.parent parent) d.2 ∙ none n d.0 d.1)
  still_first parent (Some number) f =
      let d = same_at old.clauses now.clauses (sym same) number f.clause f.at in
      record {
        clause = d.0;
        at = d.1;
        own = ap (λ (x : TrackedClause). x.parent) (sym d.2) ∙ f.own;
        first = f.first ∙ sym (same_first now.clauses old.clauses same parent);
      }

  still_below : (end d next : ℕ) → IsNewestBelow old.clauses end d next → IsNewestBelow now.clauses end d next
  still_below end d next b = record {
    below = λ n c at lt is. (let o = origin n c at in
        b.below n o.0 o.1 lt (ap (λ (x : TrackedClause). x.condition) (sym o.2) ∙ is));
    within = b.within;
    own = λ k e c at. (let o = origin k c at in
        ap (λ (x : TrackedClause). x.condition) o.2 ∙ b.own k e o.0 o.1);
  }

  still_chained : AreChained old.clauses old.newest_under → AreChained now.clauses now.newest_under
  still_chained chained = record {
    last = λ d. subst (λ (x : ℕ × List ℕ). IsNewestBelow now.clauses x.0 d (newest_at x.1 d))
        (λ i. (sym (same_length now.clauses old.clauses same) i, sym same_newest i))
        (still_below (length old.clauses) d (newest_at old.newest_under d) (chained.last d));
    earlier = λ n c at d is. (let o = origin n c at in
        subst (IsNewestBelow now.clauses n d) (ap (λ (x : TrackedClause). x.earlier) (sym o.2))
        (still_below n d o.0.earlier (chained.earlier n o.0 o.1 d
        (ap (λ (x : TrackedClause). x.condition) (sym o.2) ∙ is))));
  }

  still_in_order : (IsInOrder old → GrowsBy (IsOfClause old.clauses) old.queued now.queued) →
      IsInOrder old → IsInOrder now
  still_in_order grows order = record {
    few = subst (λ n. n < 2 ^ 32) (sym (same_length now.clauses old.clauses same)) order.few;
    located = still_located order.located;
    first = λ parent. still_first parent (slice_get (list_at now.by_parent parent) 0)
        (subst (λ ls. MatchOption (slice_get (list_at ls parent) 0) (HasNoClause old.clauses parent)
        (IsFirstOf old.clauses parent)) (sym same_lists) (order.first parent));
    parents = λ n c is. (let d = origin n c is in
        subst (λ (x : TrackedClause). Stands n (list_at now.by_parent x.parent)) (sym d.2)
        (subst (λ ls. Stands n (list_at ls d.0.parent)) (sym same_lists) (order.parents n d.0 d.1)));
    chained = still_chained order.chained;
    requirements = λ n c is. (let d = origin n c is in
        subst (λ (x : TrackedClause). Stands n (clauses_at now.requirements x.record)) (sym d.2)
        (subst (λ ts. Stands n (clauses_at ts d.0.record)) (sym same_records) (order.requirements n d.0 d.1)));
    placed = λ n c is. (let d = origin n c is in
        subst (λ (x : TrackedClause). IsPlaceOf now.requirements x.requirement x.record) (sym d.2)
        (subst (λ ts. IsPlaceOf ts d.0.requirement d.0.record) (sym same_records) (order.placed n d.0 d.1)));
    all_of = λ p h. still_of p (elim ((grows order).all_new p h) [ inl o ↦ order.all_of p o | inr n ↦ n ]);
    hot_of = λ p h. still_of p (elim ((grows order).hot_new p h) [ inl o ↦ order.hot_of p o | inr n ↦ n ]);
  }

-- ---- no clause, one after another

pub heats_none : (t : Tracking) → Heats t t
heats_none t = record {
  clauses = refl;
  in_order = λ o. o;
  cold = λ n c is e. is;
  by_parent = refl;
  newest_under = refl;
  conditions = refl;
  requirements = refl;
  occurrences = refl;
  noted = refl;
  finds = λ n c is. (c, is, refl);
  synced = λ literals rows_of val counted same_literals same_counted s. s;
}

pub heats_both : (a b c : Tracking) → Heats a b → Heats b c → Heats a c
heats_both a b c f g = record {
  clauses = g.clauses ∙ f.clauses;
  in_order = λ o. g.in_order (f.in_order o);
  cold = λ n x is e. f.cold n x (g.cold n x is e) e;
  by_parent = g.by_parent ∙ f.by_parent;
  newest_under = g.newest_under ∙ f.newest_under;
  conditions = g.conditions ∙ f.conditions;
  requirements = g.requirements ∙ f.requirements;
  occurrences = g.occurrences ∙ f.occurrences;
  noted = g.noted ∙ f.noted;
  finds = λ n x is. (let y = g.finds n x is in let z = f.finds n y.0 y.1 in (z.0, z.1, y.2 ∙ z.2));
  synced = λ literals rows_of val counted same_literals same_counted s.
      g.synced literals rows_of val counted same_literals same_counted
      (f.synced literals rows_of val counted same_literals same_counted s);
}

-- ---- one clause

set_itself : (cs : List TrackedClause) (n : ℕ) (c : TrackedClause) → slice_get cs n ≡ Some c → set cs n c ≡ cs
set_itself [] n c is = refl
set_itself (x ∷ xs) zero c is = ap (λ y. y ∷ xs) (sym (same_some x c is))
set_itself (x ∷ xs) (suc n) c is = ap (λ ys. x ∷ ys) (set_itself xs n c is)

set_heated : (cs : List TrackedClause) (n : ℕ) (c : TrackedClause) → slice_get cs n ≡ Some c →
    SameButHeat (set cs n (heated c)) cs
set_heated [] n c is = refl
set_heated (x ∷ xs) zero c is = ap (λ y. heated y ∷ map heated xs) (sym (same_some x c is))
set_heated (x ∷ xs) (suc n) c is = ap (λ ys. heated x ∷ ys) (set_heated xs n c is)

module _ (t : Tracking) (n : ℕ) (c : TrackedClause) (is : slice_get t.clauses n ≡ Some c) (q : Queued)
    (grows : GrowsBy (λ p. same_position c.position p ≡ true) t.queued q) where
  of_clauses : IsInOrder t → GrowsBy (IsOfClause t.clauses) t.queued q
  of_clauses order = added_grows t.clauses (own_number t.clauses order.located) n c is t.queued q grows

  -- the clause stays as it was
  heats_left : Heats t (record t { queued = q })
  heats_left = record {
    clauses = refl;
    in_order = still_in_order t (record t { queued = q }) refl refl refl refl of_clauses;
    cold = λ m d at e. at;
    by_parent = refl;
    newest_under = refl;
    conditions = refl;
    requirements = refl;
    occurrences = refl;
    noted = refl;
    finds = λ m d at. (d, at, refl);
    synced = λ literals rows_of val counted same_literals same_counted s. record {
      queued = λ m d at e. queued_stays (λ p. same_position c.position p ≡ true) t.queued q d grows (s.queued m d at e);
      right = s.right;
    };
  }

  -- it becomes hot, and stands among the hot ones if it is queued
  heats_this : (has t.queued.all c.position ≡ true → has q.hot c.position ≡ true) →
      Heats t (record t { clauses = set t.clauses n (heated c); queued = q })
  heats_this into = record {
    clauses = same_clauses (set t.clauses n (heated c)) t.clauses (set_heated t.clauses n c is);
    in_order = still_in_order t (record t { clauses = set t.clauses n (heated c); queued = q })
        (set_heated t.clauses n c is) refl refl refl of_clauses;
    cold = λ m d at e. elim (set_or_elsewhere t.clauses n (heated c) m d at) [
      | inl new ↦ (let bad : true ≡ false = ap (λ (x : TrackedClause). x.is_hot) new.0 ∙ e in cc)
      | inr was ↦ was.0
    ];
    by_parent = refl;
    newest_under = refl;
    conditions = refl;
    requirements = refl;
    occurrences = refl;
    noted = refl;
    finds = λ m d at. (let o = same_at (set t.clauses n (heated c)) t.clauses (set_heated t.clauses n c is) m d at in
        (o.0, o.1, ap (λ (x : TrackedClause). x.condition) o.2));
    synced = λ literals rows_of val counted same_literals same_counted s.
        heated_synced t.clauses literals rows_of val counted t.requirements (λ p. same_position c.position p ≡ true)
        t.queued q n c same_literals same_counted is grows into s;
  }

  -- one clause was looked at
  heats_one : (c' : TrackedClause) → (c' ≡ c) ⊎
      ((c' ≡ heated c) × (has t.queued.all c.position ≡ true → has q.hot c.position ≡ true)) →
      Heats t (record t { clauses = set t.clauses n c'; queued = q })
  heats_one c' (inl e) = subst (λ cs. Heats t (record t { clauses = cs; queued = q }))
      (sym (ap (set t.clauses n) e ∙ set_itself t.clauses n c is)) heats_left
  heats_one c' (inr h) = subst (λ x. Heats t (record t { clauses = set t.clauses n x; queued = q }))
      (sym h.0) (heats_this h.1)

-- ---- a clause that was read

module _ (t : Tracking) (n : ℕ) (c c' : TrackedClause) (within : n < length t.clauses)
    (read : c ≡ get_or t.clauses n c) (q : Queued)
    (grows : GrowsBy (λ p. same_position c.position p ≡ true) t.queued q) {T E : Type 0} where
  pub heats_read : (res : Result T E) → OnOk res (has t.queued.all c.position ≡ true → has q.hot c.position ≡ true) →
      OnOk res (c' ≡ heated c) → OnErr res (c' ≡ c) → Heats t (record t { clauses = set t.clauses n c'; queued = q })
  heats_read (Ok x) into hot same = heats_one t n c (read_at t.clauses n c within read) q grows c' (inr (hot, into))
  heats_read (Err x) into hot same = heats_one t n c (read_at t.clauses n c within read) q grows c' (inl same)

pub hot_read : {T E : Type 0} (cs : List TrackedClause) (n : ℕ) (c c' : TrackedClause) (res : Result T E) →
    OnOk res (c' ≡ heated c) → OnOk res ((d : TrackedClause) → slice_get (set cs n c') n ≡ Some d → d.is_hot ≡ true)
hot_read cs n c c' (Ok x) hot = λ d is. elim (set_or_elsewhere cs n c' n d is) [
  | inl new ↦ ap (λ (y : TrackedClause). y.is_hot) (sym new.0 ∙ hot)
  | inr was ↦ absurd (was.1 refl)
]
hot_read cs n c c' (Err x) hot = tt

-- ---- one clause after another

-- what was hot is
still_hot : (old now : Tracking) → Heats old now → (n : ℕ) (c : TrackedClause) →
    (slice_get old.clauses n ≡ Some c → c.is_hot ≡ true) → slice_get now.clauses n ≡ Some c → c.is_hot ≡ true
still_hot old now heats n c hot is = go c.is_hot refl
  where
    go : (b : Bool) → c.is_hot ≡ b → c.is_hot ≡ true
    go true e = e
    go false e = hot (heats.cold n c is e)

-- from the entry that was looked at, the others come next
pub hot_or_further : (old now : Tracking) → Heats old now → (entries : List NameEntry) (place : ℕ) (e : NameEntry) →
    slice_get entries place ≡ Some e → (next : Option ℕ) → next ≡ Some place →
    ((c : TrackedClause) → slice_get now.clauses e.number ≡ Some c → c.is_hot ≡ true) → (n : ℕ) (c : TrackedClause) →
    IsFrom entries n next ⊎ (slice_get old.clauses n ≡ Some c → c.is_hot ≡ true) →
    IsFrom entries n e.earlier ⊎ (slice_get now.clauses n ≡ Some c → c.is_hot ≡ true)
hot_or_further old now heats entries place e at next is this n c (inl from) =
    elim (this_or_before entries place n e at is from) [
      | inl own ↦ inr (λ there. this c (ap (slice_get now.clauses) (sym own) ∙ there))
      | inr rest ↦ inl rest
    ]
hot_or_further old now heats entries place e at next is this n c (inr hot) = inr (still_hot old now heats n c hot)

-- a number past the end
pub hot_past : (cs : List TrackedClause) (n : ℕ) → length cs ≤ n → (c : TrackedClause) →
    slice_get cs n ≡ Some c → c.is_hot ≡ true
hot_past cs n past c is = absurd (let h : n < length cs = slice_get_within cs n c is in omega (arith, h, past))
