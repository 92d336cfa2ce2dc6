-- What is owed of requirements after a registration, and after a sync.
use Rattle.std.proofs.Common.{◌≡◌, ℕ, zero, suc, ◌+◌, ◌≤◌, ◌<◌, min, Bool, true, false, cond, ◌⊎◌, inl, inr}
use Rattle.std.proofs.Common.{List, [], ◌∷◌, ◌++◌, flat_map, drop, length, take, Option, Some, None, option_map}
use Rattle.std.proofs.Common.{is_some, slice_get, sym, ap, ap₂, refl, ◌∙◌, subst, arith, length-take}
use Rattle.std.proofs.lemmas.List.{drop_all}
use Rattle.resolvo_queue.proofs.Words.{AgreesBelow, candidates, changed_from, Decision, forgotten, fresh, GainsRecord}
use Rattle.resolvo_queue.proofs.Words.{HasNoneOf, here, IsCounted, IsPlaceOf, IsWalkable, list_rows, listing}
use Rattle.resolvo_queue.proofs.Words.{lists_loaded, OnlyForgets, owed_in, owed_of, OwesFirst, Queue, Record, record_of}
use Rattle.resolvo_queue.proofs.Words.{References, Requirement, Row, rows, same_requirement, sets_of, Stands, StandsOn}
use Rattle.resolvo_queue.proofs.Words.{there, Unrouted, updated_at, variables_of, VersionSetId, walks_in, walks_of}
use Rattle.resolvo_queue.proofs.Words.{with_clause}
use Rattle.resolvo_queue.specs.References.{rows_in}
use Rattle.resolvo_queue.proofs.Lists.{contains_if_stands, le_or_lt, same_some, stands_if_contains}
use Rattle.resolvo_queue.proofs.Rows.Occurrences.{same_is, same_self}
use Rattle.resolvo_queue.proofs.Syncs.Forgetting.{unforgotten}

-- the walks stay, and at most one more is owed of each requirement
pub record OwesOneMore (old now : List Record) : Type 0 where
  pub walks : (r : Requirement) → walks_in now r ≡ walks_in old r
  pub owed : (r : Requirement) → owed_in now r ≤ owed_in old r + 1

found_first : (t : Record) (ts : List Record) (r : Requirement) (b : Bool) → same_requirement r t.requirement ≡ b →
    record_of (t ∷ ts) r ≡ cond b (Some t) (record_of ts r)
found_first t ts r b e = ap (λ x. cond x (Some t) (record_of ts r)) e

-- ---- a clause that comes

-- a record at the end is found if there was none before
record_last : (ts : List Record) (own : Requirement) (r : Requirement) →
    (record_of (ts ++ fresh own ∷ []) r ≡ record_of ts r) ⊎
    ((r ≡ own) × (record_of ts r ≡ None) × (record_of (ts ++ fresh own ∷ []) r ≡ Some (fresh own)))
record_last [] own r = go (same_requirement r own) refl
  where
    go : (b : Bool) → same_requirement r own ≡ b → (cond b (Some (fresh own)) None ≡ None) ⊎
        ((r ≡ own) × (◌≡◌ {A = Option Record} None None) × (cond b (Some (fresh own)) None ≡ Some (fresh own)))
    go true e = inr (same_is r own e, refl, refl)
    go false e = inl refl
record_last (t ∷ ts) own r = go (same_requirement r t.requirement) (record_last ts own r)
  where
    go : (b : Bool) → ((record_of (ts ++ fresh own ∷ []) r ≡ record_of ts r) ⊎
        ((r ≡ own) × (record_of ts r ≡ None) × (record_of (ts ++ fresh own ∷ []) r ≡ Some (fresh own)))) →
        (cond b (Some t) (record_of (ts ++ fresh own ∷ []) r) ≡ cond b (Some t) (record_of ts r)) ⊎
        ((r ≡ own) × (cond b (Some t) (record_of ts r) ≡ None) ×
        (cond b (Some t) (record_of (ts ++ fresh own ∷ []) r) ≡ Some (fresh own)))
    go true m = inl refl
    go false m = m

-- what is told of a record but by the numbers of clauses stays where one comes
clause_entered : (number : ℕ) (f : Option Record → ℕ) →
    ((t : Record) → f (Some (with_clause number t)) ≡ f (Some t)) → (ts : List Record) (place : ℕ) (r : Requirement) →
    f (record_of (updated_at (with_clause number) ts place) r) ≡ f (record_of ts r)
clause_entered number f same [] place r = refl
clause_entered number f same (t ∷ ts) zero r = go (same_requirement r t.requirement)
  where
    go : (b : Bool) → f (cond b (Some (with_clause number t)) (record_of ts r)) ≡ f (cond b (Some t) (record_of ts r))
    go true = same t
    go false = refl
clause_entered number f same (t ∷ ts) (suc place) r =
    go (same_requirement r t.requirement) (clause_entered number f same ts place r)
  where
    go : (b : Bool) → f (record_of (updated_at (with_clause number) ts place) r) ≡ f (record_of ts r) →
        f (cond b (Some t) (record_of (updated_at (with_clause number) ts place) r)) ≡
        f (cond b (Some t) (record_of ts r))
    go true h = refl
    go false h = h

-- a requirement with a record owes a walk at least, or was walked
pub owes_placed : (ts : List Record) (r : Requirement) (k : ℕ) → IsPlaceOf ts r k →
    ((j : ℕ) (t : Record) → slice_get ts j ≡ Some t → IsCounted t) → 1 ≤ owed_in ts r
owes_placed [] r k p counted = absurd (missed p.0 p.1)
  where
    missed : (t : Record) → None ≡ Some t → ⊥
    missed t e = cc
owes_placed (x ∷ xs) r k p counted =
    go (same_requirement r x.requirement) refl (λ j q. owes_placed xs r j q (λ i t s. counted (suc i) t s))
  where
    own : (t : Record) → IsCounted t → 1 ≤ owed_of (Some t)
    own t (inl e) = subst (λ w. 1 ≤ t.walks + cond (is_some w) 0 1) (sym e) (omega arith)
    own t (inr e) = known (is_some t.walk)
      where
        known : (b : Bool) → 1 ≤ t.walks + cond b 0 1
        known true = omega (arith, e)
        known false = omega arith

    differ : false ≡ true → ⊥
    differ e = cc

    later : (j : ℕ) → IsPlaceOf (x ∷ xs) r j → same_requirement r x.requirement ≡ false →
        ((i : ℕ) → IsPlaceOf xs r i → 1 ≤ owed_in xs r) → 1 ≤ owed_in xs r
    later zero q e rest = absurd (differ (sym e ∙ (ap (same_requirement r)
        (ap (λ (t : Record). t.requirement) (same_some x q.0 q.1) ∙ q.2) ∙ same_self r)))
    later (suc j) q e rest = rest j q

    go : (b : Bool) → same_requirement r x.requirement ≡ b → ((i : ℕ) → IsPlaceOf xs r i → 1 ≤ owed_in xs r) →
        1 ≤ owed_in (x ∷ xs) r
    go true e rest = subst (λ o. 1 ≤ owed_of o) (sym (found_first x xs r true e)) (own x (counted zero x refl))
    go false e rest = subst (λ o. 1 ≤ owed_of o) (sym (found_first x xs r false e)) (later k p e rest)

pub owes_none : (own : Requirement) (ts : List Record) → OwesFirst own ts ts
owes_none own ts = record { walks = λ r. refl; owed = λ r. inl refl }

pub owes_record : (own : Requirement) (old now : List Record) → GainsRecord own old now → OwesFirst own old now
owes_record own old now (inl e) = subst (OwesFirst own old) (sym e) (owes_none own old)
owes_record own old now (inr e) = subst (OwesFirst own old) (sym e) (record {
  walks = λ r. elim (record_last old own r) [
    | inl same ↦ ap walks_of same
    | inr new ↦ ap walks_of new.2 ∙ sym (ap walks_of new.1)
  ];
  owed = λ r. elim (record_last old own r) [
    | inl same ↦ inl (ap owed_of same)
    | inr new ↦ inr (new.0, ap owed_of new.1, ap owed_of new.2)
  ];
})

-- a requirement's record may come, and then a number to it
pub owes_entered : (number : ℕ) (own : Requirement) (place : ℕ) (old mid now : List Record) → GainsRecord own old mid →
    now ≡ updated_at (with_clause number) mid place → OwesFirst own old now
owes_entered number own place old mid now gains e = subst (OwesFirst own old) (sym e) (record {
  walks = λ r. clause_entered number walks_of (λ t. refl) mid place r ∙ first.walks r;
  owed = λ r. elim (first.owed r) [
    | inl same ↦ inl (clause_entered number owed_of (λ t. refl) mid place r ∙ same)
    | inr new ↦ inr (new.0, new.1, clause_entered number owed_of (λ t. refl) mid place r ∙ new.2)
  ];
})
  where
    first : OwesFirst own old mid
    first = owes_record own old mid gains

-- ---- a sync

same_part : (x y : Record) → ((Some y ≡ Some x) ⊎ (Some y ≡ Some (forgotten x))) → y.requirement ≡ x.requirement
same_part x y (inl e) = ap (λ (t : Record). t.requirement) (same_some y x e)
same_part x y (inr e) = ap (λ (t : Record). t.requirement) (same_some y (forgotten x) e)

-- two lists of records of which one only forgets are equally long
not_gone : {P : Type 0} (y : Record) → ((Some y ≡ None) ⊎ (Some y ≡ None)) → P
not_gone y (inl e) = cc
not_gone y (inr e) = cc

not_come : {P : Type 0} (x y : Record) → ((None ≡ Some x) ⊎ (None ≡ Some y)) → P
not_come x y (inl e) = cc
not_come x y (inr e) = cc

record_after : (a b : List Record) → OnlyForgets a b → (r : Requirement) →
    (record_of b r ≡ record_of a r) ⊎ (record_of b r ≡ option_map forgotten (record_of a r))
record_after [] [] f r = inl refl
record_after [] (y ∷ ys) f r = not_gone y (f 0)
record_after (x ∷ xs) [] f r = not_come x (forgotten x) (f 0)
record_after (x ∷ xs) (y ∷ ys) f r =
    elim (go (same_requirement r x.requirement) (f 0) (record_after xs ys (λ k. f (suc k)) r))
    [ inl e ↦ inl (own ∙ e) | inr e ↦ inr (own ∙ e) ]
  where
    own : record_of (y ∷ ys) r ≡ cond (same_requirement r x.requirement) (Some y) (record_of ys r)
    own = ap (λ q. cond (same_requirement r q) (Some y) (record_of ys r)) (same_part x y (f 0))

    go : (b : Bool) → ((Some y ≡ Some x) ⊎ (Some y ≡ Some (forgotten x))) →
        ((record_of ys r ≡ record_of xs r) ⊎ (record_of ys r ≡ option_map forgotten (record_of xs r))) →
        (cond b (Some y) (record_of ys r) ≡ cond b (Some x) (record_of xs r)) ⊎
        (cond b (Some y) (record_of ys r) ≡ option_map forgotten (cond b (Some x) (record_of xs r)))
    go true (inl s) m = inl s
    go true (inr s) m = inr s
    go false s m = m

pub owes_one_more : (a b : List Record) → OnlyForgets a b → OwesOneMore a b
owes_one_more a b f = record {
  walks = λ r. unforgotten walks_of (λ t. refl) (record_of a r) (record_of b r) (record_after a b f r);
  owed = λ r. one_more (record_of a r) (record_of b r) (record_after a b f r);
}
  where
    forgetting : (t : Record) → owed_of (Some (forgotten t)) ≤ owed_of (Some t) + 1
    forgetting t = by (is_some t.walk)
      where
        by : (x : Bool) → t.walks + 1 ≤ t.walks + cond x 0 1 + 1
        by true = omega arith
        by false = omega arith

    one_more : (o n : Option Record) → ((n ≡ o) ⊎ (n ≡ option_map forgotten o)) → owed_of n ≤ owed_of o + 1
    one_more o n (inl e) = let h : owed_of n ≡ owed_of o = ap owed_of e in omega arith
    one_more None n (inr e) = let h : owed_of n ≡ 0 = ap owed_of e in omega arith
    one_more (Some t) n (inr e) = subst (λ x. owed_of x ≤ owed_of (Some t) + 1) (sym e) (forgetting t)

-- the record of a requirement that lists none of the variables
record_stays : (listing : ℕ → List Requirement) (variables : List ℕ) (a b : List Record) → OnlyForgets a b →
    Unrouted listing variables a b → (r : Requirement) →
    ((v : ℕ) → Stands v variables → Stands r (listing v) → ⊥) → record_of b r ≡ record_of a r
record_stays listing variables [] [] f u r free = refl
record_stays listing variables [] (y ∷ ys) f u r free = not_gone y (f 0)
record_stays listing variables (x ∷ xs) [] f u r free = not_come x (forgotten x) (f 0)
record_stays listing variables (x ∷ xs) (y ∷ ys) f u r free =
    ap (λ q. cond (same_requirement r q) (Some y) (record_of ys r)) (same_part x y (f 0)) ∙
    go (same_requirement r x.requirement) refl
    (record_stays listing variables xs ys (λ k. f (suc k)) (λ k t e h. u (suc k) t e h) r free)
  where
    go : (b : Bool) → same_requirement r x.requirement ≡ b → record_of ys r ≡ record_of xs r →
        cond b (Some y) (record_of ys r) ≡ cond b (Some x) (record_of xs r)
    go true e m = u 0 x refl (λ v t l. free v t (subst (λ q. Stands q (listing v)) (sym (same_is r x.requirement e)) l))
    go false e m = m

-- a candidate stands in a row, where there is a list for each version set
row_of : (sets : List VersionSetId) (ls : List (List ℕ)) → length ls ≡ length sets → (v : ℕ) →
    Stands v (flat_map (λ l. l) ls) → (row : Row) × Stands row (rows sets ls) × (row.variable ≡ v)
row_of sets [] e v s = elim s [ ]
row_of [] (l ∷ ls) e v s = let bad : suc (length ls) ≡ 0 = e in absurd (omega (arith, bad))
row_of (u ∷ us) (l ∷ ls) e v s = go v l (flat_map (λ x. x) ls) (rows us ls) s
    (row_of us ls (let more : suc (length ls) ≡ suc (length us) = e in omega (arith, more)) v)
  where
    go : (w : ℕ) (xs ys : List ℕ) (bs : List Row) → Stands w (xs ++ ys) →
        (Stands w ys → (row : Row) × Stands row bs × (row.variable ≡ w)) →
        (row : Row) × Stands row (list_rows u xs ++ bs) × (row.variable ≡ w)
    go w [] ys bs s f = f s
    go w (x ∷ xs) ys bs here f = (record { set = u; variable = x }, here, refl)
    go w (x ∷ xs) ys bs (there s) f = let m = go w xs ys bs s f in (m.0, there m.1, m.2)

-- where two trails agree below a floor, nothing lies between their ends and the floor
nothing_between : (floor f : ℕ) (a b : List Decision) → f ≡ min (min floor (length b)) (length a) →
    take floor a ≡ take floor b → (drop f a ≡ drop floor a) × (drop f b ≡ drop floor b)
nothing_between floor f a b is same = go (le_or_lt floor (length a))
  where
    lengths : min floor (length a) ≡ min floor (length b)
    lengths = sym (length-take floor a) ∙ (ap length same ∙ length-take floor b)

    go : ((floor ≤ length a) ⊎ (length a < floor)) → (drop f a ≡ drop floor a) × (drop f b ≡ drop floor b)
    go (inl le) =
        let both = lengths in
        let whole : f ≡ floor = omega (arith, is, both, le) in
        (ap (λ n. drop n a) whole, ap (λ n. drop n b) whole)
    go (inr lt) =
        let both = lengths in
        let own : length a ≤ f = omega (arith, is, both, lt) in
        let other : length b ≤ f = omega (arith, is, both, lt) in
        let far : length b ≤ floor = omega (arith, both, lt) in
        let past : length a ≤ floor = omega (arith, lt) in
        (drop_all f a own ∙ sym (drop_all floor a past), drop_all f b other ∙ sym (drop_all floor b far))

-- what is owed of requirements stays that have no row with a variable of the changed decisions
pub owed_kept : {N S A H : Type 0} (refs : References N S A) (q : Queue N H) (now : List Record) (floor f : ℕ)
    (entries : List Decision) →
    f ≡ min (min floor (length entries)) (length q.trail) → AgreesBelow floor entries q → StandsOn refs q →
    OnlyForgets q.inside.requirements now →
    Unrouted (listing q.inside.occurrences) (variables_of (drop f q.trail) ++ variables_of (drop f entries))
    q.inside.requirements now → (r : Requirement) → IsWalkable refs.universe refs.lists r →
    HasNoneOf (changed_from floor entries q) (rows_in refs r) → owed_in now r ≡ owed_in q.inside.requirements r
owed_kept refs q now floor f entries is agrees stands only others r walkable none =
    ap owed_of (record_stays (listing q.inside.occurrences)
    (variables_of (drop f q.trail) ++ variables_of (drop f entries)) q.inside.requirements now only others r free)
  where
    between : (drop f q.trail ≡ drop floor q.trail) × (drop f entries ≡ drop floor entries)
    between = nothing_between floor f q.trail entries is agrees

    same : variables_of (drop f q.trail) ++ variables_of (drop f entries) ≡ changed_from floor entries q
    same = ap₂ (λ xs ys. variables_of xs ++ variables_of ys) between.0 between.1

    free : (v : ℕ) → Stands v (variables_of (drop f q.trail) ++ variables_of (drop f entries)) →
        Stands r (listing q.inside.occurrences v) → ⊥
    free v s l =
        let candidate : Stands v (candidates refs.lists r) = stands_if_contains (candidates refs.lists r) v
        (stands.listed.none_else r v (contains_if_stands (listing q.inside.occurrences v) r l)) in
        let row = row_of (sets_of refs.universe r) (lists_loaded refs.lists r) walkable.one_a_set v candidate in
        none row.0 row.1 (subst (λ w. Stands w (changed_from floor entries q)) (sym row.2) (subst (Stands v) same s))
