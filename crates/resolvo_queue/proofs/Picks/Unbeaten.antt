-- The laws of the pick: no offer beats it, it is one of the offers, and there is none only of no offers. First of the
-- best offer, then of the pick, which is the best of the root's or of all.
use Rattle.std.proofs.Common.{◌≡◌, ℕ, Bool, true, false, not, ◌&&◌, ◌||◌, cond, ltb, List}
use Rattle.std.proofs.Common.{[], ◌∷◌, Option, Some, None, Result, Ok, Err, sym, ap, refl, subst, ◌∙◌, arith}
use Rattle.std.specs.Prelude.{filter, filter_map, fold, All, Contains, IfSome, is_some, option_map, ◌↔◌}
use Rattle.std.specs.Prelude.{IfOk, IfErr, MatchResult}
use Rattle.std.proofs.lemmas.Bool.Decides.{nat_tests}
use Rattle.std.proofs.lemmas.List.Elements.{All-from_recursion, recursion_from_All}
use Rattle.resolvo_queue.proofs.Words.{AllByRecursion, beats, best_of, best_offer, better, cons_option, decided}
use Rattle.resolvo_queue.proofs.Words.{DecidesUnbeaten, eligible, Frontier, frontier, here, is_eligible, is_of_root}
use Rattle.resolvo_queue.proofs.Words.{is_open, IsUnbeaten, list_any, Lit, Offer, offer, pick, QueueDecision}
use Rattle.resolvo_queue.proofs.Words.{Requirement, RequiresClause, Row, scan, Stands, there, Values, VersionSetId}
use Rattle.resolvo_queue.proofs.Lists.{contains_if_stands, stands_filter}

-- ---- `beats` is an order: one way, and in chains

one_way : (s c : ℕ) (x : Bool) → (ltb s s && (ltb c c && (not x || x))) ≡ false
one_way s c x = grind (arith, nat_tests)

chain : (s t u c d e : ℕ) (x y z : Bool) →
    (ltb t s && (ltb c d && (not y || x))) ≡ true → (ltb u t && (ltb d e && (not z || y))) ≡ true →
    (ltb u s && (ltb c e && (not z || x))) ≡ true
chain s t u c d e x y z p q = grind (arith, nat_tests)

beats-self : (e : Offer) → beats e e ≡ false
beats-self e = one_way e.score e.frontier.count (is_of_root e)

beats-chain : (e b a : Offer) → beats e b ≡ true → beats b a ≡ true → beats e a ≡ true
beats-chain e b a p q = chain e.score b.score a.score e.frontier.count b.frontier.count a.frontier.count
    (is_of_root e) (is_of_root b) (is_of_root a) p q

-- ---- the best so far

-- an offer that doesn't beat the best so far doesn't beat what takes its place
not_beaten : (y x b : Offer) (t : Bool) → beats x b ≡ t → beats y b ≡ false → beats y (cond t x b) ≡ false
not_beaten y x b false e h = h
not_beaten y x b true e h = go (beats y x) refl
  where
    go : (u : Bool) → beats y x ≡ u → u ≡ false
    go false p = refl
    go true p = let q : beats y b ≡ true = beats-chain y x b p e in cc

new_is_not : (x b : Offer) (t : Bool) → beats x b ≡ t → beats x (cond t x b) ≡ false
new_is_not x b true e = beats-self x
new_is_not x b false e = e

keeps : (b : Offer) (xs : List Offer) (y : Offer) → beats y b ≡ false → beats y (best_of beats b xs) ≡ false
keeps b [] y h = h
keeps b (x ∷ xs) y h = keeps (cond (beats x b) x b) xs y (not_beaten y x b (beats x b) refl h)

none_beats : (b : Offer) (xs : List Offer) → AllByRecursion (λ e. beats e (best_of beats b xs) ≡ false) xs
none_beats b [] = tt
none_beats b (x ∷ xs) =
    let best : Offer = cond (beats x b) x b in
    (keeps best xs x (new_is_not x b (beats x b) refl), none_beats best xs)

best_offer-cons : (b : Offer) (xs : List Offer) → fold better (Some b) xs ≡ Some (best_of beats b xs)
best_offer-cons b [] = refl
best_offer-cons b (x ∷ xs) = best_offer-cons (cond (beats x b) x b) xs

unbeaten_some : (b : Offer) (xs : List Offer) → IsUnbeaten (b ∷ xs) (best_of beats b xs)
unbeaten_some b xs = All-from_recursion (λ e. beats e (best_of beats b xs) ≡ false) (b ∷ xs)
    (keeps b xs b (beats-self b), none_beats b xs)

best_unbeaten : (offers : List Offer) → IfSome (best_offer offers) (IsUnbeaten offers)
best_unbeaten [] = tt
best_unbeaten (b ∷ xs) = subst (λ o. IfSome o (IsUnbeaten (b ∷ xs))) (sym (best_offer-cons b xs)) (unbeaten_some b xs)

best_none : (offers : List Offer) → (best_offer offers ≡ None) ↔ (offers ≡ [])
best_none [] = (λ e. refl, λ e. refl)
best_none (b ∷ xs) = (
  λ e. let p : fold better (Some b) xs ≡ Some (best_of beats b xs) = best_offer-cons b xs in cc,
  λ e. cc,
)

-- ---- it is one of them

best_moved : {r b x : Offer} {xs : List Offer} → Stands r (b ∷ xs) → Stands r (b ∷ x ∷ xs)
best_moved here = here
best_moved (there m) = there (there m)

best_step : (t : Bool) (r b x : Offer) (xs : List Offer) → Stands r (cond t x b ∷ xs) → Stands r (b ∷ x ∷ xs)
best_step true r b x xs m = there m
best_step false r b x xs m = best_moved m

best_is_member : (b : Offer) (xs : List Offer) → Stands (best_of beats b xs) (b ∷ xs)
best_is_member b [] = here
best_is_member b (x ∷ xs) = best_step (beats x b) _ b x xs (best_is_member (cond (beats x b) x b) xs)

best_member : (offers : List Offer) → IfSome (best_offer offers) (λ b. Stands b offers)
best_member [] = tt
best_member (b ∷ xs) = subst (λ o. IfSome o (λ x. Stands x (b ∷ xs))) (sym (best_offer-cons b xs)) (best_is_member b xs)

-- ---- the root's alone, or all

-- an offer of the root is beaten by none of another parent
root_stays : (b e : Offer) → is_of_root b ≡ true → is_of_root e ≡ false → beats e b ≡ false
root_stays b e p q = by_root (ltb b.score e.score) (ltb e.frontier.count b.frontier.count) (is_of_root b)
    (is_of_root e) p q
  where
    by_root : (p q x y : Bool) → x ≡ true → y ≡ false → (p && (q && (not x || y))) ≡ false
    by_root true true true true e f = f
    by_root true true true false e f = refl
    by_root true true false y e f = let bad : false ≡ true = e in cc
    by_root true false x y e f = refl
    by_root false q x y e f = refl

module _ {X : Type 0} (t : X → Bool) where
  any_kept : (xs : List X) → list_any t xs ≡ true → filter t xs ≡ [] → ⊥
  any_kept [] a e = let bad : false ≡ true = a in cc
  any_kept (x ∷ xs) a e = go (t x) a e (any_kept xs)
    where
      go : (b : Bool) → (b || list_any t xs) ≡ true → cond b (x ∷ filter t xs) (filter t xs) ≡ [] →
          (list_any t xs ≡ true → filter t xs ≡ [] → ⊥) → ⊥
      go true p q rest = let bad : ◌≡◌ {A = List X} (x ∷ filter t xs) [] = q in cc
      go false p q rest = rest p q

  none_kept : (xs : List X) → list_any t xs ≡ false → filter t xs ≡ []
  none_kept [] a = refl
  none_kept (x ∷ xs) a = go (t x) a (none_kept xs)
    where
      go : (b : Bool) → (b || list_any t xs) ≡ false → (list_any t xs ≡ false → filter t xs ≡ []) →
          cond b (x ∷ filter t xs) (filter t xs) ≡ []
      go true p rest = let bad : true ≡ false = p in cc
      go false p rest = rest p

  -- what holds of those that are kept, and of those that aren't, holds of all
  of_all : (P : X → Type 0) (xs : List X) → AllByRecursion P (filter t xs) → ((x : X) → t x ≡ false → P x) →
      AllByRecursion P xs
  of_all P [] a h = tt
  of_all P (x ∷ xs) a h = go (t x) refl a (λ k. of_all P xs k h)
    where
      go : (b : Bool) → t x ≡ b → AllByRecursion P (cond b (x ∷ filter t xs) (filter t xs)) →
          (AllByRecursion P (filter t xs) → AllByRecursion P xs) → P x × AllByRecursion P xs
      go true e k rest = (k.0, rest k.1)
      go false e k rest = (h x e, rest k)

-- the best of the root's, if there is one, is the pick; else it is the best of all
pub picks_of_root : (offers : List Offer) (b : Offer) → best_offer (filter is_of_root offers) ≡ Some b →
    pick offers ≡ Some b
picks_of_root offers b e = go (list_any is_of_root offers) refl
  where
    go : (t : Bool) → list_any is_of_root offers ≡ t →
        cond t (best_offer (filter is_of_root offers)) (best_offer offers) ≡ Some b
    go true a = e
    go false a = let bad : best_offer (filter is_of_root offers) ≡ None =
        ap best_offer (none_kept is_of_root offers a) in cc

pub picks_of_all : (offers : List Offer) → best_offer (filter is_of_root offers) ≡ None →
    pick offers ≡ best_offer offers
picks_of_all offers e = go (list_any is_of_root offers) refl
  where
    go : (t : Bool) → list_any is_of_root offers ≡ t →
        cond t (best_offer (filter is_of_root offers)) (best_offer offers) ≡ best_offer offers
    go true a = absurd (any_kept is_of_root offers a ((best_none (filter is_of_root offers)).0 e))
    go false a = refl

pick_unbeaten : (offers : List Offer) → IfSome (pick offers) (IsUnbeaten offers)
pick_unbeaten offers = go (list_any is_of_root offers)
  where
    of_root : (o : Option Offer) → IfSome o (IsUnbeaten (filter is_of_root offers)) →
        IfSome o (λ b. Stands b (filter is_of_root offers)) → IfSome o (IsUnbeaten offers)
    of_root None u m = tt
    of_root (Some b) u m = All-from_recursion (λ e. beats e b ≡ false) offers
        (of_all is_of_root (λ e. beats e b ≡ false) offers
        (recursion_from_All (λ e. beats e b ≡ false) (filter is_of_root offers) u)
        (λ e other. root_stays b e (stands_filter is_of_root offers b m).1 other))

    go : (t : Bool) → IfSome (cond t (best_offer (filter is_of_root offers)) (best_offer offers)) (IsUnbeaten offers)
    go true = of_root (best_offer (filter is_of_root offers)) (best_unbeaten (filter is_of_root offers))
        (best_member (filter is_of_root offers))
    go false = best_unbeaten offers

pick_none : (offers : List Offer) → (pick offers ≡ None) ↔ (offers ≡ [])
pick_none offers = go (list_any is_of_root offers) refl
  where
    go : (t : Bool) → list_any is_of_root offers ≡ t →
        (cond t (best_offer (filter is_of_root offers)) (best_offer offers) ≡ None) ↔ (offers ≡ [])
    go true a = (
      λ e. absurd (any_kept is_of_root offers a ((best_none (filter is_of_root offers)).0 e)),
      λ e. (let bad : false ≡ true = sym (ap (list_any is_of_root) e) ∙ a in cc),
    )
    go false a = best_none offers

pick_member : (offers : List Offer) → IfSome (pick offers) (Contains offers)
pick_member offers = go (list_any is_of_root offers)
  where
    of_root : (o : Option Offer) → IfSome o (λ b. Stands b (filter is_of_root offers)) → IfSome o (Contains offers)
    of_root None m = tt
    of_root (Some b) m = contains_if_stands offers b (stands_filter is_of_root offers b m).0

    of_any : (o : Option Offer) → IfSome o (λ b. Stands b offers) → IfSome o (Contains offers)
    of_any None m = tt
    of_any (Some b) m = contains_if_stands offers b m

    go : (t : Bool) → IfSome (cond t (best_offer (filter is_of_root offers)) (best_offer offers)) (Contains offers)
    go true = of_root (best_offer (filter is_of_root offers)) (best_member (filter is_of_root offers))
    go false = of_any (best_offer offers) (best_member offers)

pub decides_unbeaten : (offers : List Offer) (d : Option QueueDecision) →
    d ≡ option_map decided (pick offers) → DecidesUnbeaten offers d
decides_unbeaten offers d e = rw e (go (pick offers) (pick_none offers).0 (pick_member offers) (pick_unbeaten offers))
  where
    go : (o : Option Offer) → (o ≡ None → offers ≡ []) → IfSome o (Contains offers) → IfSome o (IsUnbeaten offers) →
        DecidesUnbeaten offers (option_map decided o)
    go None n m u = n refl
    go (Some best) n m u = (best, refl, m, u)

-- the decision of what was picked, unless that was refused
pub picked_decided : {E : Type 0} (offer : Result (Option Offer) E) (decision : Result (Option QueueDecision) E)
    (a b : Option Offer) → MatchResult offer (λ o. decision ≡ Ok (option_map decided o)) (λ e. decision ≡ Err e) →
    IfOk offer (λ o. o ≡ a) → a ≡ b → IfOk decision (λ d. d ≡ option_map decided b)
picked_decided (Ok o) decision a b e is same =
    subst (λ r. IfOk r (λ d. d ≡ option_map decided b)) (sym e) (ap (option_map decided) (is ∙ same))
picked_decided (Err x) decision a b e is same = subst (λ r. IfOk r (λ d. d ≡ option_map decided b)) (sym e) tt

pub refused_decided : {E : Type 0} (offer : Result (Option Offer) E) (decision : Result (Option QueueDecision) E)
    (P : E → Type 0) → MatchResult offer (λ o. decision ≡ Ok (option_map decided o)) (λ e. decision ≡ Err e) →
    IfErr offer P → IfErr decision P
refused_decided (Ok o) decision P e refused = subst (λ r. IfErr r P) (sym e) tt
refused_decided (Err x) decision P e refused = subst (λ r. IfErr r P) (sym e) refused

-- ---- no eligible clause, no decision

module _ {X Y : Type 0} (h : X → Option Y) where
  -- h gives nothing of any of them
  abbrev GivesNone : List X → Type 0
  GivesNone xs = AllByRecursion (λ x. is_some (h x) ≡ false) xs

  nothing_kept : (xs : List X) → filter_map h xs ≡ [] → GivesNone xs
  nothing_kept [] e = tt
  nothing_kept (x ∷ xs) e = go (h x) refl e (nothing_kept xs)
    where
      go : (o : Option Y) → h x ≡ o → cons_option o (filter_map h xs) ≡ [] → (filter_map h xs ≡ [] → GivesNone xs) →
          (is_some (h x) ≡ false) × GivesNone xs
      go None p q rest = (ap is_some p, rest q)
      go (Some y) p q rest = absurd (let bad : ◌≡◌ {A = List Y} (y ∷ filter_map h xs) [] = q in cc)

  keeps_nothing : (xs : List X) → GivesNone xs → filter_map h xs ≡ []
  keeps_nothing [] a = refl
  keeps_nothing (x ∷ xs) a = go (h x) refl (keeps_nothing xs a.1)
    where
      go : (o : Option Y) → h x ≡ o → filter_map h xs ≡ [] → cons_option o (filter_map h xs) ≡ []
      go None p q = q
      go (Some y) p q = let e : is_some (Some y) ≡ false = ap is_some (sym p) ∙ a.0 in cc

same_test : {X : Type 0} (p q : X → Bool) → ((x : X) → p x ≡ q x) → (xs : List X) →
    AllByRecursion (λ x. p x ≡ false) xs → AllByRecursion (λ x. q x ≡ false) xs
same_test p q e [] a = tt
same_test p q e (x ∷ xs) a = (sym (e x) ∙ a.0, same_test p q e xs a.1)

module _ (val : Values) (literals_of : Option ℕ → List Lit) (rows_of : Requirement → List Row)
    (score : VersionSetId → ℕ) (cs : List RequiresClause) where
  abbrev offered : RequiresClause → Bool
  offered c = is_some (offer val literals_of rows_of score c)

  abbrev offer_at : RequiresClause → Frontier → Offer
  offer_at c x = record { clause = c; frontier = x; score = score x.set }

  -- a clause makes an offer exactly if it is eligible
  offered_if_eligible : (c : RequiresClause) → offered c ≡ is_eligible val literals_of rows_of c
  offered_if_eligible c = go (is_open val literals_of rows_of c) (frontier val (rows_of c.requirement))
    where
      go : (o : Bool) (f : Option Frontier) → is_some (cond o (option_map (offer_at c) f) None) ≡ (o && is_some f)
      go true None = refl
      go true (Some x) = refl
      go false f = refl

  abbrev NoneEligible : Type 0
  NoneEligible = All (λ c. is_eligible val literals_of rows_of c ≡ false) (scan cs)

  none_picked : (pick (eligible val literals_of rows_of score cs) ≡ None) ↔ NoneEligible
  none_picked = (
    λ e. All-from_recursion (λ c. is_eligible val literals_of rows_of c ≡ false) (scan cs)
        (same_test offered (is_eligible val literals_of rows_of) offered_if_eligible (scan cs)
        (nothing_kept (offer val literals_of rows_of score) (scan cs)
        ((pick_none (eligible val literals_of rows_of score cs)).0 e))),
    λ a. (pick_none (eligible val literals_of rows_of score cs)).1
        (keeps_nothing (offer val literals_of rows_of score) (scan cs)
        (same_test (is_eligible val literals_of rows_of) offered (λ c. sym (offered_if_eligible c)) (scan cs)
        (recursion_from_All (λ c. is_eligible val literals_of rows_of c ≡ false) (scan cs) a))),
  )

  pub none_decided : (d : Option QueueDecision) →
      d ≡ option_map decided (pick (eligible val literals_of rows_of score cs)) → (d ≡ None) ↔ NoneEligible
  none_decided d e = rw e (go (pick (eligible val literals_of rows_of score cs)) none_picked)
    where
      go : (o : Option Offer) → ((o ≡ None) ↔ NoneEligible) → (option_map decided o ≡ None) ↔ NoneEligible
      go None h = (λ n. h.0 refl, λ a. refl)
      go (Some x) h = (λ n. cc, λ a. let bad : Some x ≡ None = h.1 a in cc)
