-- What forgetting and routing leave.
use Rattle.std.proofs.Common.{◌≡◌, ◌≢◌, ℕ, zero, suc, ◌+◌, ◌-◌, ◌<◌, drop, take_all, take-append-drop}
use Rattle.std.proofs.Common.{length-drop, true, false, ◌⊎◌, inl, inr}
use Rattle.std.proofs.Common.{List, [], ◌∷◌, ◌++◌, take, length, get_or, Option, Some, None, is_some, option_map}
use Rattle.std.proofs.Common.{slice_get, Result, Ok, Err, OnOk, sym, ap, refl, ◌∙◌, subst, arith}
use Rattle.std.proofs.Math.Seq.{drop-length}
use Rattle.std.proofs.lemmas.List.{take_more, map-append}
use Rattle.std.proofs.lemmas.Option.{slice_get_within}
use Rattle.resolvo_queue.proofs.Words.{AreNoted, AreUnknown, AreWoken, clauses_at, clauses_in, Decision, ForgetsAmong}
use Rattle.resolvo_queue.proofs.Words.{forgotten, KeepsNoted, NotesConditions, Frontier, GrowsBy, HasNoPlace, here}
use Rattle.resolvo_queue.proofs.Words.{IsOfClause, IsPlaceOf, Known, known_at, list_at, OnlyForgets, Queued, Record}
use Rattle.resolvo_queue.proofs.Words.{Requirement, Routes, same_requirement, Stands, there, Unrouted, updated_at}
use Rattle.resolvo_queue.proofs.Words.{variables_of, WakesForgotten, walk_of, Ways}
use Rattle.resolvo_queue.proofs.Rows.Occurrences.{same_self}
use Rattle.resolvo_queue.proofs.Lists.{append_left, append_right, read_stands, same_or_not, same_some}
use Rattle.resolvo_queue.proofs.Lists.{stands_append, stands_cases}
use Rattle.resolvo_queue.proofs.Syncs.Queued.{woken_stays, grows_none, grows_both}
use Rattle.resolvo_queue.proofs.Clauses.Records.{was_at, is_at_place, is_elsewhere}

only_one : (P : Requirement → Type 0) (r q : Requirement) → Stands q (r ∷ []) → P r → P q
only_one P r q here p = p
only_one P r q (there s) p = elim s [ ]

-- ---- one requirement

pub place_within : (ts : List Record) (r : Requirement) (k : ℕ) → IsPlaceOf ts r k → k < length ts
place_within ts r k p = slice_get_within ts k p.0 p.1

pub forgets_only : (ts : List Record) (p : ℕ) → OnlyForgets ts (updated_at forgotten ts p)
forgets_only [] p k = inl refl
forgets_only (t ∷ ts) zero zero = inr refl
forgets_only (t ∷ ts) zero (suc k) = inl refl
forgets_only (t ∷ ts) (suc p) zero = inl refl
forgets_only (t ∷ ts) (suc p) (suc k) = forgets_only ts p k

module _ (ts : List Record) (r : Requirement) (p : ℕ) (at : IsPlaceOf ts r p)
    (unique : (k : ℕ) → IsPlaceOf ts r k → k ≡ p) where
  now_forgotten : known_at (updated_at forgotten ts p) p ≡ None
  now_forgotten = ap walk_of (is_at_place forgotten ts p at.0 at.1)

  pub forgotten_unknown : AreUnknown (r ∷ []) (updated_at forgotten ts p)
  forgotten_unknown q s k place = only_one (λ x. IsPlaceOf (updated_at forgotten ts p) x k →
      known_at (updated_at forgotten ts p) k ≡ None) r q s unknown place
    where
      unknown : IsPlaceOf (updated_at forgotten ts p) r k → known_at (updated_at forgotten ts p) k ≡ None
      unknown n =
          let m = was_at forgotten ts p k n.0 n.1 in
          let same : n.0.requirement ≡ m.0.requirement = elim m.2 [
            | inl e ↦ ap (λ (x : Record). x.requirement) e
            | inr e ↦ ap (λ (x : Record). x.requirement) e.0
          ] in
          let k_is : k ≡ p = unique k (m.0, m.1, sym same ∙ n.2) in
          ap (known_at (updated_at forgotten ts p)) k_is ∙ now_forgotten

  pub still_unknown : known_at ts p ≡ None → AreUnknown (r ∷ []) ts
  still_unknown e q s k place = only_one (λ x. IsPlaceOf ts x k →
      known_at ts k ≡ None) r q s (λ n. ap (known_at ts) (unique k n) ∙ e) place

pub not_there : (ts : List Record) (r : Requirement) → HasNoPlace ts r → AreUnknown (r ∷ []) ts
not_there ts r none q s k place = only_one (λ x. IsPlaceOf ts x k → known_at ts k ≡ None) r q s absent place
  where
    absent : IsPlaceOf ts r k → known_at ts k ≡ None
    absent n =
        let same : same_requirement r n.0.requirement ≡ true = ap (same_requirement r) n.2 ∙ same_self r in
        let other : same_requirement r n.0.requirement ≡ false = none k n.0 n.1 in
        cc

module _ (w : Ways) (ts : List Record) (p : ℕ) (q : Queued) where
  only_there : (k : ℕ) → known_at ts k ≡ Some None → known_at (updated_at forgotten ts p) k ≡ None → k ≡ p
  only_there k was is = go (same_or_not k p)
    where
      go : ((k ≡ p) ⊎ (k ≢ p)) → k ≡ p
      go (inl e) = e
      go (inr ne) =
          let bad : Some None ≡ None = sym was ∙ (sym (ap walk_of (is_elsewhere forgotten ts p k ne)) ∙ is) in
          absurd (differ bad)
        where
          differ : ◌≡◌ {A = Known} (Some None) None → ⊥
          differ e = cc

  -- it had a frontier: no clause is woken
  pub had_frontier : (f : Frontier) → known_at ts p ≡ Some (Some f) → WakesForgotten w ts (updated_at forgotten ts p) q
  had_frontier f h k was is =
      let bad : Some None ≡ Some (Some f) = sym was ∙ (ap (known_at ts) (only_there k was is) ∙ h) in
      absurd (differ bad)
    where
      differ : ◌≡◌ {A = Known} (Some None) (Some (Some f)) → ⊥
      differ e = cc

  -- it had none: its clauses are
  pub had_none : AreWoken w.clauses w.val (clauses_at ts p) q → WakesForgotten w ts (updated_at forgotten ts p) q
  had_none woken k was is = subst (λ x. AreWoken w.clauses w.val (clauses_at ts x) q) (sym (only_there k was is)) woken

-- ---- one after another

-- what a record and the one that is forgotten have in common stays
pub unforgotten : {P : Type 0} (f : Option Record → P) → ((t : Record) → f (Some (forgotten t)) ≡ f (Some t)) →
    (o n : Option Record) → ((n ≡ o) ⊎ (n ≡ option_map forgotten o)) → f n ≡ f o
unforgotten f same o n (inl e) = ap f e
unforgotten f same None n (inr e) = ap f e
unforgotten f same (Some t) n (inr e) = ap f e ∙ same t

known_after : (o n : Option Record) → ((n ≡ o) ⊎ (n ≡ option_map forgotten o)) →
    (walk_of n ≡ walk_of o) ⊎ (walk_of n ≡ None)
known_after o n (inl e) = inl (ap walk_of e)
known_after None n (inr e) = inl (ap walk_of e)
known_after (Some t) n (inr e) = inr (ap walk_of e)

pub known_only_forgotten : (a b : List Record) → OnlyForgets a b → (k : ℕ) →
    (known_at b k ≡ known_at a k) ⊎ (known_at b k ≡ None)
known_only_forgotten a b f k = known_after (slice_get a k) (slice_get b k) (f k)

pub clauses_stay : (a b : List Record) → OnlyForgets a b → (k : ℕ) → clauses_at b k ≡ clauses_at a k
clauses_stay a b f k = unforgotten clauses_in (λ t. refl) (slice_get a k) (slice_get b k) (f k)

-- a record stays that of its requirement
pub placed_after : (a b : List Record) → OnlyForgets a b → (r : Requirement) (k : ℕ) → IsPlaceOf a r k → IsPlaceOf b r k
placed_after a b f r k m = elim (f k) [
  | inl e ↦ (m.0, e ∙ m.1, m.2)
  | inr e ↦ (forgotten m.0, e ∙ ap (option_map forgotten) m.1, m.2)
]

twice_forgotten : (o : Option Record) → option_map forgotten (option_map forgotten o) ≡ option_map forgotten o
twice_forgotten None = refl
twice_forgotten (Some t) = refl

pub forgets_none : (a : List Record) → OnlyForgets a a
forgets_none a k = inl refl

pub forgets_both : (a b c : List Record) → OnlyForgets a b → OnlyForgets b c → OnlyForgets a c
forgets_both a b c f g k = elim (g k) [
  | inl e ↦ elim (f k) [ inl d ↦ inl (e ∙ d) | inr d ↦ inr (e ∙ d) ]
  | inr e ↦ elim (f k) [
    | inl d ↦ inr (e ∙ ap (option_map forgotten) d)
    | inr d ↦ inr (e ∙ (ap (option_map forgotten) d ∙ twice_forgotten (slice_get a k)))
  ]
]

was_place : (a b : List Record) → OnlyForgets a b → (r : Requirement) (k : ℕ) → IsPlaceOf b r k → IsPlaceOf a r k
was_place a b f r k p = go (slice_get a k) refl (f k)
  where
    go : (o : Option Record) → slice_get a k ≡ o →
        ((slice_get b k ≡ o) ⊎ (slice_get b k ≡ option_map forgotten o)) → IsPlaceOf a r k
    go o e (inl h) = (p.0, e ∙ (sym h ∙ p.1), p.2)
    go None e (inr h) = let bad : None ≡ Some p.0 = sym h ∙ p.1 in cc
    go (Some t) e (inr h) = (
      t,
      e,
      (let same : Some (forgotten t) ≡ Some p.0 = sym h ∙ p.1 in
          requirement_of t p.0 same) ∙ p.2,
    )
      where
        requirement_of : (x y : Record) → Some (forgotten x) ≡ Some y → x.requirement ≡ y.requirement
        requirement_of x y s = let is : forgotten x ≡ y = cc in ap (λ (z : Record). z.requirement) is

pub unknown_stays : (rs : List Requirement) (a b : List Record) → OnlyForgets a b → AreUnknown rs a → AreUnknown rs b
unknown_stays rs a b f u r s k place =
    elim (known_only_forgotten a b f k) [ inl e ↦ e ∙ u r s k (was_place a b f r k place) | inr e ↦ e ]

pub unknown_more : (rs : List Requirement) (q : Requirement) (a : List Record) → AreUnknown rs a →
    AreUnknown (q ∷ []) a → AreUnknown (rs ++ q ∷ []) a
unknown_more rs q a u w r s k place = elim (stands_cases rs q r s) [
  | inl t ↦ u r t k place
  | inr e ↦ w r (subst (λ x. Stands x (q ∷ [])) (sym e) here) k place
]

module _ (w : Ways) where
  pub wakes_none : (a : List Record) (q : Queued) → WakesForgotten w a a q
  wakes_none a q k was is = absurd (differ (sym was ∙ is))
    where
      differ : ◌≡◌ {A = Known} (Some None) None → ⊥
      differ e = cc

  pub wakes_both : (a b c : List Record) (q p : Queued) → OnlyForgets a b → GrowsBy (IsOfClause w.clauses) q p →
      WakesForgotten w a b q → WakesForgotten w b c p → WakesForgotten w a c p
  wakes_both a b c q p f g first second k was is = elim (known_only_forgotten a b f k) [
    | inl e ↦ subst (λ ns. AreWoken w.clauses w.val ns p) (clauses_stay a b f k) (second k (e ∙ was) is)
    | inr e ↦ woken_stays w.clauses (IsOfClause w.clauses) w.val (clauses_at a k) q p g (first k was e)
  ]

-- a loop's step
pub step_unknown : (listed : List Requirement) (i : ℕ) (d : Requirement) → i < length listed →
    (before now : List Record) → OnlyForgets before now →
    AreUnknown (take i listed) before → AreUnknown (get_or listed i d ∷ []) now → AreUnknown (take (i + 1) listed) now
step_unknown listed i d within before now more u w = subst (λ rs. AreUnknown rs now) (sym (take_more listed i d within))
    (unknown_more (take i listed) (get_or listed i d) now (unknown_stays (take i listed) before now more u) w)

pub always_ok : {T E : Type 0} (P : Type 0) (res : Result T E) → P → OnOk res P
always_ok P (Ok x) p = p
always_ok P (Err e) p = tt

-- ---- routing variables

just_one : (P : ℕ → Type 0) (x y : ℕ) → Stands y (x ∷ []) → P x → P y
just_one P x y here p = p
just_one P x y (there s) p = elim s [ ]

variables_more : (ds : List Decision) (i : ℕ) (d : Decision) → i < length ds → d ≡ get_or ds i d →
    variables_of (take (i + 1) ds) ≡ variables_of (take i ds) ++ d.variable ∷ []
variables_more ds i d within read =
    ap variables_of (take_more ds i d within ∙ ap (λ x. take i ds ++ x ∷ []) (sym read)) ∙
    map-append (λ (x : Decision). x.variable) (take i ds) (d ∷ [])

module _ (w : Ways) where
  pub routes_none : (ts : List Record) (q : Queued) → Routes w [] ts ts q q
  routes_none ts q = record {
    grows = grows_none (IsOfClause w.clauses) q;
    only = forgets_none ts;
    parents = λ v s. elim s [ ];
    unknown = λ v s. elim s [ ];
    woken = wakes_none w ts q;
    others = λ k t e h. e;
  }

  pub routes_both : (vs us : List ℕ) (a b c : List Record) (q p r : Queued) → Routes w vs a b q p →
      Routes w us b c p r → Routes w (vs ++ us) a c q r
  routes_both vs us a b c q p r f g = record {
    grows = grows_both (IsOfClause w.clauses) q p r f.grows g.grows;
    only = forgets_both a b c f.only g.only;
    parents = λ v s. elim (stands_append vs us v s) [
      | inl x ↦ woken_stays w.clauses (IsOfClause w.clauses) w.val (list_at w.by_parent v) p r g.grows (f.parents v x)
      | inr y ↦ g.parents v y
    ];
    unknown = λ v s. elim (stands_append vs us v s) [
      | inl x ↦ unknown_stays (w.requirements v) b c g.only (f.unknown v x)
      | inr y ↦ g.unknown v y
    ];
    woken = wakes_both w a b c p r f.only g.grows f.woken g.woken;
    others = λ k t e h. g.others k t (f.others k t e (λ v s. h v (append_left vs us v s))) (λ v s.
        h v (append_right vs us v s));
  }

  -- one variable
  pub routes_one : {T E : Type 0} (result : Result T E) (v : ℕ) (ts ts' : List Record) (q0 q1 q2 : Queued) →
      GrowsBy (IsOfClause w.clauses) q0 q1 → AreWoken w.clauses w.val (list_at w.by_parent v) q1 →
      GrowsBy (IsOfClause w.clauses) q1 q2 → OnlyForgets ts ts' → ForgetsAmong (w.requirements v) ts ts' →
      OnOk result (AreUnknown (w.requirements v) ts') → OnOk result (WakesForgotten w ts ts' q2) →
      OnOk result (Routes w (v ∷ []) ts ts' q0 q2)
  routes_one (Err e) v ts ts' q0 q1 q2 f by_p h o m u y = tt
  routes_one (Ok x) v ts ts' q0 q1 q2 f by_p h o m u y = record {
    grows = grows_both (IsOfClause w.clauses) q0 q1 q2 f h;
    only = o;
    parents = λ a s. just_one (λ b. AreWoken w.clauses w.val (list_at w.by_parent b) q2) v a s
        (woken_stays w.clauses (IsOfClause w.clauses) w.val (list_at w.by_parent v) q1 q2 h by_p);
    unknown = λ a s. just_one (λ b. AreUnknown (w.requirements b) ts') v a s u;
    woken = y;
    others = λ k t e n. m k t e (n v here);
  }

  -- a loop's step
  pub step_routes : (ds : List Decision) (i : ℕ) (d : Decision) → i < length ds → d ≡ get_or ds i d →
      (a b c : List Record) (q p r : Queued) →
      Routes w (variables_of (take i ds)) a b q p → Routes w (d.variable ∷ []) b c p r →
      Routes w (variables_of (take (i + 1) ds)) a c q r
  step_routes ds i d within read a b c q p r f g = subst (λ vs. Routes w vs a c q r)
      (sym (variables_more ds i d within read))
      (routes_both (variables_of (take i ds)) (d.variable ∷ []) a b c q p r f g)

  -- conditions that are noted
  pub notes_both : (vs us : List ℕ) (noted noted' : List ℕ) → NotesConditions w vs noted → KeepsNoted noted noted' →
      NotesConditions w us noted' → NotesConditions w (vs ++ us) noted'
  notes_both vs us noted noted' f kept g v s e d at = elim (stands_append vs us v s) [
    | inl x ↦ kept d (f v x e d at)
    | inr y ↦ g v y e d at
  ]

  pub notes_one : {T E : Type 0} (result : Result T E) (v : ℕ) (noted : List ℕ) →
      (is_some (w.val v) ≡ true → AreNoted (list_at w.conditions v) noted) →
      OnOk result (NotesConditions w (v ∷ []) noted)
  notes_one result v noted are = always_ok (NotesConditions w (v ∷ []) noted) result
      (λ u s. just_one (λ b. is_some (w.val b) ≡ true → AreNoted (list_at w.conditions b) noted) v u s are)

  pub step_notes : (ds : List Decision) (i : ℕ) (d : Decision) → i < length ds → d ≡ get_or ds i d →
      (noted noted' : List ℕ) → NotesConditions w (variables_of (take i ds)) noted → KeepsNoted noted noted' →
      NotesConditions w (d.variable ∷ []) noted' → NotesConditions w (variables_of (take (i + 1) ds)) noted'
  step_notes ds i d within read noted noted' f kept g = subst (λ vs. NotesConditions w vs noted')
      (sym (variables_more ds i d within read))
      (notes_both (variables_of (take i ds)) (d.variable ∷ []) noted noted' f kept g)

pub take_rest : {X : Type 0} (n : ℕ) (xs : List X) → take (length xs - n) (drop n xs) ≡ drop n xs
take_rest n xs = take_all (length xs - n) (drop n xs)
    (let e : length (drop n xs) ≡ length xs - n = length-drop n xs in omega arith)

pub none_from : {X : Type 0} (n : ℕ) (xs : List X) → n ≡ length xs → drop n xs ≡ []
none_from n xs e = ap (λ m. drop m xs) e ∙ drop-length xs

-- what ends where another list does stays
pub whole_at : {X : Type 0} (n : ℕ) (xs ys : List X) → n ≡ length xs → n ≡ length ys → xs ≡ take n xs ++ drop n ys
whole_at n xs ys e f =
    sym (ap (λ zs. take n xs ++ zs) (none_from n ys f ∙ sym (none_from n xs e)) ∙ take-append-drop n xs)

-- ---- who stays

-- the record at the place is that of the requirement
pub among_one : (a : List Record) (r : Requirement) (p : ℕ) → IsPlaceOf a r p →
    ForgetsAmong (r ∷ []) a (updated_at forgotten a p)
among_one a r p at k t e out = go (same_or_not k p)
  where
    go : ((k ≡ p) ⊎ (k ≢ p)) → slice_get (updated_at forgotten a p) k ≡ Some t
    go (inl same) =
        let it_is : t ≡ at.0 = same_some t at.0 (sym e ∙ (ap (slice_get a) same ∙ at.1)) in
        let named : t.requirement ≡ r = ap (λ (x : Record). x.requirement) it_is ∙ at.2 in
        absurd (out (subst (λ q. Stands q (r ∷ [])) (sym named) here))
    go (inr ne) = is_elsewhere forgotten a p k ne ∙ e

pub among_both : (rs qs : List Requirement) → ((q : Requirement) → Stands q qs → Stands q rs) → (a b c : List Record) →
    ForgetsAmong rs a b → ForgetsAmong qs b c → ForgetsAmong rs a c
among_both rs qs within a b c f g k t e h = g k t (f k t e h) (λ s. h (within t.requirement s))

pub among_read : (rs : List Requirement) (i : ℕ) (d : Requirement) → i < length rs → (q : Requirement) →
    Stands q (get_or rs i d ∷ []) → Stands q rs
among_read rs i d less q s = only_one (λ x. Stands x rs) (get_or rs i d) q s (read_stands rs i d less)

pub unrouted_one : (listing : ℕ → List Requirement) (v : ℕ) (a b : List Record) → ForgetsAmong (listing v) a b →
    Unrouted listing (v ∷ []) a b
unrouted_one listing v a b f k t e h = f k t e (h v here)

pub unrouted_more : (listing : ℕ → List Requirement) (vs ws : List ℕ) → ((v : ℕ) → Stands v ws → Stands v vs) →
    (a b c : List Record) → Unrouted listing vs a b → Unrouted listing ws b c → Unrouted listing vs a c
unrouted_more listing vs ws within a b c f g k t e h = g k t (f k t e h) (λ v s. h v (within v s))

pub unrouted_along : (listing : ℕ → List Requirement) (vs ws : List ℕ) → ((v : ℕ) → Stands v vs → Stands v ws) →
    (a b : List Record) → Unrouted listing vs a b → Unrouted listing ws a b
unrouted_along listing vs ws within a b f k t e h = f k t e (λ v s. h v (within v s))

-- the variable of a decision that was read
pub variable_read : (ds : List Decision) (i : ℕ) (d : Decision) → i < length ds → d ≡ get_or ds i d → (v : ℕ) →
    Stands v (d.variable ∷ []) → Stands v (variables_of ds)
variable_read ds i d less read v s = just d.variable v s
    (subst (λ x. Stands x (variables_of ds)) (ap (λ (x : Decision). x.variable) (sym read)) (at ds i d less))
  where
    just : (x y : ℕ) → Stands y (x ∷ []) → Stands x (variables_of ds) → Stands y (variables_of ds)
    just x y here p = p
    just x y (there t) p = elim t [ ]

    at : (xs : List Decision) (k : ℕ) (e : Decision) → k < length xs → Stands (get_or xs k e).variable (variables_of xs)
    at [] k e h = absurd (omega arith)
    at (x ∷ xs) zero e h = here
    at (x ∷ xs) (suc k) e h = there (at xs k e (omega arith))

pub variables_taken : (ds : List Decision) (i : ℕ) (v : ℕ) → Stands v (variables_of (take i ds)) →
    Stands v (variables_of ds)
variables_taken ds i v s = subst (λ xs. Stands v (variables_of xs)) (take-append-drop i ds)
    (subst (Stands v) (sym (map-append (λ (x : Decision). x.variable) (take i ds) (drop i ds)))
    (append_left (variables_of (take i ds)) (variables_of (drop i ds)) v s))
