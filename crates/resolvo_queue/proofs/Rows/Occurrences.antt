-- How the listings of variables grow while the rows of a requirement are read.
use Rattle.std.proofs.Common.{◌≡◌, ℕ, zero, suc, ◌+◌, ◌<◌, ◌⊎◌, inl, inr, subst, arith, Bool, true, false}
use Rattle.std.proofs.Common.{◌||◌, cond, eqb, List, [], ◌∷◌, ◌++◌, length, get_or, take, flat_map}
use Rattle.std.proofs.Common.{Option, Some, None, is_some, sym, ap, refl, ◌∙◌, eq-eqb, eqb-true, Result}
use Rattle.std.proofs.Common.{Ok, Err, OnOk, OnErr, append-nil, append_assoc, Vec, Bor, option_copied}
use Rattle.std.specs.Prelude.{Contains}
use Rattle.std.proofs.lemmas.List.{take_more}
use Rattle.std.proofs.lemmas.List.Elements.{Contains-append_cases, Contains-append_left, Contains-append_right}
use Rattle.std.proofs.lemmas.List.Elements.{Contains-get_or, Contains-push, Contains-push_cases}
use Rattle.std.proofs.lemmas.List.Folds.{flat_map-map}
use Rattle.resolvo_queue.proofs.Words.{candidates, GrowsWith, HasAll, IsUpdate, keys_of, list_any, list_at, Listed}
use Rattle.resolvo_queue.proofs.Words.{listing, Lists, lists_or_none, lookup, Requirement, same_requirement, SameValues}
use Rattle.resolvo_queue.proofs.Words.{Single, Union, with_entry}

-- ---- what is listed, by the entries of a map

pub same_is : (r q : Requirement) → same_requirement r q ≡ true → r ≡ q
same_is (Single v) (Single w) e = ap (λ (n : ℕ). Single (record { 0 = n })) (eqb-true v.0 w.0 e)
same_is (Union v) (Union w) e = ap (λ (n : ℕ). Union (record { 0 = n })) (eqb-true v.0 w.0 e)
same_is (Single v) (Union w) e = cc
same_is (Union v) (Single w) e = cc

pub same_self : (r : Requirement) → same_requirement r r ≡ true
same_self (Single v) = eq-eqb v.0 v.0 refl
same_self (Union v) = eq-eqb v.0 v.0 refl

pub found_if_listed : {V : Type 0} (es : List (Requirement × V)) (r : Requirement) →
    is_some (lookup (same_requirement r) es) ≡ list_any (same_requirement r) (keys_of es)
found_if_listed [] r = refl
found_if_listed (e ∷ es) r = go (same_requirement r e.0) (found_if_listed es r)
  where
    go : (b : Bool) → is_some (lookup (same_requirement r) es) ≡ list_any (same_requirement r) (keys_of es) →
        is_some (cond b (Some e.1) (lookup (same_requirement r) es)) ≡ (b || list_any (same_requirement r) (keys_of es))
    go true h = refl
    go false h = h

pub some_copied : {T : Type 0} (o : Option (Bor T)) → is_some o ≡ is_some (option_copied o)
some_copied None = refl
some_copied (Some x) = refl

-- one entry more, or an earlier one written again
pub listed_more : {V : Type 0} (es : List (Requirement × V)) (q : Requirement) (v : V) (r : Requirement) →
    list_any (same_requirement r) (keys_of (with_entry es q v)) ≡
    cond (same_requirement r q) true (list_any (same_requirement r) (keys_of es))
listed_more [] q v r = go (same_requirement r q)
  where
    go : (b : Bool) → (b || false) ≡ cond b true false
    go true = refl
    go false = refl
listed_more (e ∷ es) q v r = go (same_requirement q e.0) refl (same_requirement r q) refl (listed_more es q v r)
  where
    rest : Bool
    rest = list_any (same_requirement r) (keys_of es)

    already : (s : Bool) → same_requirement r q ≡ s → same_requirement q e.0 ≡ true →
        (same_requirement r e.0 || rest) ≡ cond s true (same_requirement r e.0 || rest)
    already true p h =
        let same : same_requirement r e.0 ≡ true = ap (λ x. same_requirement x e.0) (same_is r q p) ∙ h in
        ap (λ b. b || rest) same
    already false p h = refl

    behind : (s b t : Bool) → t ≡ cond s true rest → (b || t) ≡ cond s true (b || rest)
    behind true true t h = refl
    behind true false t h = h
    behind false true t h = refl
    behind false false t h = h

    go : (b : Bool) → same_requirement q e.0 ≡ b → (s : Bool) → same_requirement r q ≡ s →
        list_any (same_requirement r) (keys_of (with_entry es q v)) ≡ cond s true rest →
        list_any (same_requirement r) (keys_of (cond b ((e.0, v) ∷ es) (e ∷ with_entry es q v)))
        ≡ cond s true (same_requirement r e.0 || rest)
    go true h s p m = already s p h
    go false h s p m = behind s (same_requirement r e.0) (list_any (same_requirement r) (keys_of (with_entry es q v))) m

-- ---- growth

only : (v w : ℕ) → Contains (v ∷ []) w → v ≡ w
only v w h = elim (Contains-push_cases [] v w h) [ inl none ↦ absurd (omega (arith, none.1)) | inr e ↦ e ]

module _ (r : Requirement) where
  grows_both : (vs : List ℕ) (a b c : Listed) → GrowsWith r vs a b → GrowsWith r vs b c → GrowsWith r vs a c
  grows_both vs a b c f g = record {
    kept = λ v q s. g.kept v q (f.kept v q s);
    added = λ v q s. elim (g.added v q s) [ inl x ↦ f.added v q x | inr y ↦ inr y ];
  }

  grows_along : (vs ws : List ℕ) → ((v : ℕ) → Contains vs v → Contains ws v) → (a b : Listed) → GrowsWith r vs a b →
      GrowsWith r ws a b
  grows_along vs ws f a b g = record {
    kept = g.kept;
    added = λ v q s. elim (g.added v q s) [ inl x ↦ inl x | inr y ↦ inr (y.0, f v y.1) ];
  }

  grows_one : (v : ℕ) (a b : Listed) → IsUpdate (listing a) v (listing a v ++ r ∷ []) (listing b) →
      GrowsWith r (v ∷ []) a b
  grows_one v a b u = record {
    kept = λ w q s. kept w q s (eqb w v) refl;
    added = λ w q s. added w q s (eqb w v) refl;
  }
    where
      other : (w : ℕ) → eqb w v ≡ false → listing b w ≡ listing a w
      other w h = u.1 w (λ k. let bad : eqb w v ≡ true = eq-eqb w v k in cc)

      kept : (w : ℕ) (q : Requirement) → Contains (listing a w) q → (t : Bool) → eqb w v ≡ t → Contains (listing b w) q
      kept w q s true h =
          let same : w ≡ v = eqb-true w v h in
          subst (λ x. Contains (listing b x) q) (sym same) (subst (λ l. Contains l q) (sym u.0)
          (Contains-append_left (listing a v) (r ∷ []) q (subst (λ x. Contains (listing a x) q) same s)))
      kept w q s false h = subst (λ l. Contains l q) (sym (other w h)) s

      added : (w : ℕ) (q : Requirement) → Contains (listing b w) q → (t : Bool) → eqb w v ≡ t →
          Contains (listing a w) q ⊎ ((q ≡ r) × Contains (v ∷ []) w)
      added w q s true h =
          let same : w ≡ v = eqb-true w v h in
          elim (Contains-push_cases (listing a v) r q
          (subst (λ l. Contains l q) u.0 (subst (λ x. Contains (listing b x) q) same s))) [
            | inl x ↦ inl (subst (λ y. Contains (listing a y) q) (sym same) x)
            | inr k ↦ inr (sym k, subst (Contains (v ∷ [])) (sym same) (Contains-push [] v))
          ]
      added w q s false h = inl (subst (λ l. Contains l q) (other w h) s)

  grows_refused : (vs : List ℕ) (a b : Listed) → SameValues (listing a) (listing b) → GrowsWith r vs a b
  grows_refused vs a b u = record {
    kept = λ w q s. subst (λ l. Contains l q) (sym (u w)) s;
    added = λ w q s. inl (subst (λ l. Contains l q) (u w) s);
  }

  has_stays : (vs ws : List ℕ) (a b : Listed) → GrowsWith r ws a b → HasAll r vs a → HasAll r vs b
  has_stays vs ws a b g h v s = g.kept v r (h v s)

  has_both : (vs ws : List ℕ) (a : Listed) → HasAll r vs a → HasAll r ws a → HasAll r (vs ++ ws) a
  has_both vs ws a f g v s = elim (Contains-append_cases vs ws v s) [ inl x ↦ f v x | inr y ↦ g v y ]

  -- ---- what calls leave

  module _ {T E : Type 0} (res : Result T E) (v : ℕ) (a b : Listed) where
    pub push_grows : OnOk res (IsUpdate (listing a) v (listing a v ++ r ∷ []) (listing b)) →
        OnErr res (SameValues (listing a) (listing b)) → GrowsWith r (v ∷ []) a b
    push_grows u s = go res u s
      where
        go : (o : Result T E) → OnOk o (IsUpdate (listing a) v (listing a v ++ r ∷ []) (listing b)) →
            OnErr o (SameValues (listing a) (listing b)) → GrowsWith r (v ∷ []) a b
        go (Ok x) u s = grows_one v a b u
        go (Err e) u s = grows_refused (v ∷ []) a b s

    pub push_has : OnOk res (IsUpdate (listing a) v (listing a v ++ r ∷ []) (listing b)) →
        OnOk res (HasAll r (v ∷ []) b)
    push_has u = go res u
      where
        go : (o : Result T E) → OnOk o (IsUpdate (listing a) v (listing a v ++ r ∷ []) (listing b)) →
            OnOk o (HasAll r (v ∷ []) b)
        go (Ok x) u = λ w s. subst (λ y. Contains (listing b y) r) (only v w s)
            (subst (λ l. Contains l r) (sym u.0) (Contains-push (listing a v) r))
        go (Err e) u = tt

  -- the same listings, with other requirements that count as listed
  pub grows_same : (vs : List ℕ) (a b c : Listed) → c.by_variable ≡ b.by_variable → GrowsWith r vs a b →
      GrowsWith r vs a c
  grows_same vs a b c e g = record {
    kept = λ v q s. subst (λ l. Contains (list_at l v) q) (sym e) (g.kept v q s);
    added = λ v q s. g.added v q (subst (λ l. Contains (list_at l v) q) e s);
  }

  pub has_same : {T E : Type 0} (res : Result T E) (vs : List ℕ) (a b : Listed) →
      b.by_variable ≡ a.by_variable → HasAll r vs a → OnOk res (HasAll r vs b)
  has_same (Ok x) vs a b e h = λ v s. subst (λ l. Contains (list_at l v) r) (sym e) (h v s)
  has_same (Err x) vs a b e h = tt

  -- ---- a loop's step over items, each with variables of its own

  module _ {X : Type 0} (f : X → List ℕ) (xs : List X) (i : ℕ) (x : X) (within : i < length xs)
      (read : x ≡ get_or xs i x) (first before now : Listed) (so_far : GrowsWith r (flat_map f xs) first before)
      (more : GrowsWith r (f x) before now) where
    part : (ys : List X) → Contains ys x → (v : ℕ) → Contains (f x) v → Contains (flat_map f ys) v
    part ys h v s = go ys h.0 h.1 h.2
      where
        go : (ys : List X) (k : ℕ) → k < length ys → get_or ys k x ≡ x → Contains (flat_map f ys) v
        go [] k l e = absurd (omega (arith, l))
        go (y ∷ ys) zero l e = Contains-append_left (f y) (flat_map f ys) v (subst (λ z. Contains (f z) v) (sym e) s)
        go (y ∷ ys) (suc k) l e = Contains-append_right (f y) (flat_map f ys) v (go ys k (omega (arith, l)) e)

    whole_step : GrowsWith r (flat_map f xs) before now
    whole_step =
        let there : Contains xs x = subst (Contains xs) (sym read) (Contains-get_or xs i x within) in
        grows_along (f x) (flat_map f xs) (part xs there) before now more

    pub items_grow : GrowsWith r (flat_map f xs) first now
    items_grow = grows_both (flat_map f xs) first before now so_far whole_step

    pub items_have : HasAll r (flat_map f (take i xs)) before → HasAll r (f x) now →
        HasAll r (flat_map f (take (i + 1) xs)) now
    items_have h k = subst (λ vs. HasAll r vs now)
        (sym (ap (flat_map f) (take_more xs i x within ∙ ap (λ y. take i xs ++ y ∷ []) (sym read))
        ∙ (flat_append (take i xs) (x ∷ []) ∙ ap (λ l. flat_map f (take i xs) ++ l) (append-nil (f x)))))
        (has_both (flat_map f (take i xs)) (f x) now
        (has_stays (flat_map f (take i xs)) (flat_map f xs) before now whole_step h) k)
      where
        flat_append : (ms bs : List X) → flat_map f (ms ++ bs) ≡ flat_map f ms ++ flat_map f bs
        flat_append [] bs = refl
        flat_append (a ∷ ms) bs = ap (λ l. f a ++ l) (flat_append ms bs) ∙
            sym (append_assoc (f a) (flat_map f ms) (flat_map f bs))

-- the candidates of a requirement with lists
pub slice_candidates : {A : Type 0} (loaded inside : Lists A) (r : Requirement) (lists : Vec (Vec ℕ A) A)
    (slice : List (Vec ℕ A)) → inside ≡ loaded → lookup (same_requirement r) inside ≡ Some lists → slice ≡ lists.items →
    flat_map (λ l. l.items) slice ≡ candidates loaded r
slice_candidates loaded inside r lists slice e f h = ap (flat_map (λ l. l.items)) h
    ∙ (sym (ap (λ o. flat_map (λ l. l) (lists_or_none o)) f ∙ flat_map-map (λ l. l) (λ l. l.items) lists.items)
    ∙ ap (λ l. candidates l r) e)

pub each_itself : (vs : List ℕ) → flat_map (λ v. v ∷ []) vs ≡ vs
each_itself [] = refl
each_itself (v ∷ vs) = ap (λ l. v ∷ l) (each_itself vs)
