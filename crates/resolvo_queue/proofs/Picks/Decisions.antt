-- How a group is gone through: the first eligible clause, one rival more, the end; and that it ends.
use Rattle.std.proofs.Common.{◌≡◌, ℕ, ◌<◌, ◌≤◌, Bool, true, false, ◌&&◌, cond, inl, inr}
use Rattle.std.proofs.Common.{List, [], ◌∷◌, filter, length, Option, Some, None, IfSome}
use Rattle.std.proofs.Common.{option_map, slice_get, sym, ap, refl, ◌∙◌, subst, arith, is_lt}
use Rattle.resolvo_queue.proofs.Words.{are_literals_false, AreLocated, beats, best_offer, Candidate, ColdHasNoScore}
use Rattle.resolvo_queue.proofs.Words.{eligible_frontier, Frontier, frontier, Group, has, has_of, here, improved}
use Rattle.resolvo_queue.proofs.Words.{is_after, is_in, IsBefore, IsDone, IsOfClause, IsReady, known_true, Lit, Offer}
use Rattle.resolvo_queue.proofs.Words.{offer_of, offer_with, offered, offers_of, place_of, Position, position_cmp}
use Rattle.resolvo_queue.proofs.Words.{Queued, Record, Requirement, rest_picked, Row, scanned, set_of, Stands, there}
use Rattle.resolvo_queue.proofs.Words.{TrackedClause, Values, VersionSetId}
use Rattle.resolvo_queue.proofs.Rows.Frontiers.{counts_one}
use Rattle.resolvo_queue.proofs.Picks.Groups.{of_both, own_offer}
use Rattle.resolvo_queue.proofs.Picks.Positions.{first_counts, last_counts, next_counts, none_counts, unbeatable_picked}
use Rattle.resolvo_queue.proofs.Syncs.Queued.{position_order}
use Rattle.resolvo_queue.proofs.Picks.Ready.{unqueued_offers_nothing, cold_offers_no_better}
use Rattle.resolvo_queue.proofs.Picks.NumberedScan.{at_scanned}
use Rattle.resolvo_queue.proofs.Picks.Behind.{largest_unbeaten, one_unbeaten, reversed_same}
use Rattle.resolvo_queue.proofs.Falsified.Least.{less_by_test}

-- how many clauses are behind a position
abbrev pub clauses_behind : List TrackedClause → Position → ℕ
clauses_behind clauses p = length (filter (λ x. is_lt (position_cmp p (place_of clauses x))) (scanned clauses))

module _ (clauses : List TrackedClause) (literals : TrackedClause → List Lit) (rows_of : Requirement → List Row)
    (val : Values) (score : VersionSetId → ℕ)
    (located : AreLocated clauses) (group : Group) (ts : List Record) (q : Queued)
    (ready : IsReady clauses literals rows_of val ts q) where
  abbrev offers : TrackedClause → Option Offer
  offers = offer_of val literals rows_of score

  abbrev of_group : TrackedClause → Option Offer
  of_group = offers_of group offers

  -- ---- the first eligible clause

  -- what isn't of the group, or isn't queued, offers nothing
  nothing : (n : ℕ) (c : TrackedClause) → slice_get clauses n ≡ Some c → has_of group q.all c.position ≡ false →
      of_group c ≡ None
  nothing n c e out = go (is_in group c.position) out
    where
      go : (b : Bool) → (b && has q.all c.position) ≡ false → cond b (offers c) None ≡ None
      go true h = unqueued_offers_nothing clauses literals rows_of val score ts q ready n c e h
      go false h = refl

  pub none_found : ((p : Position) → has_of group q.all p ≡ false) → best_offer (offered clauses of_group) ≡ None
  none_found empty = none_counts clauses located of_group (has_of group q.all) nothing empty

  -- the first queued position of the group offers
  pub first_found : (p : Position) → has_of group q.all p ≡ true →
      ((r : Position) → has_of group q.all r ≡ true → is_after p r ≡ false) →
      (b : Candidate) → ((d : TrackedClause) → slice_get clauses p.number ≡ Some d → Some b.offer ≡ offers d) →
      b.position ≡ p → best_offer (offered clauses of_group) ≡ rest_picked clauses of_group b.offer b.position
  first_found p here_it_is least b offered place =
      let both = of_both group q.all p here_it_is in
      let of = ready.all_of p both.1 in
      let own : of_group of.0 ≡ Some b.offer = own_offer group offers of.0 p of.2 both.0 ∙ sym (offered of.0 of.1) in
      first_counts clauses located of_group (has_of group q.all) nothing p of.0 b.offer of.1 of.2 own least
      ∙ ap (rest_picked clauses of_group b.offer) (sym place)

  -- ---- one rival more, and the end

  module _ (cold : ColdHasNoScore clauses literals rows_of val score) (largest : ℕ)
      (up_to : (set : VersionSetId) → score set ≤ largest) (only_hot : Bool) (b : Offer) where
    -- an offer that isn't better, and none of another group
    within : (c : TrackedClause) → IfSome (offers c) (λ e. beats e b ≡ false) →
        IfSome (of_group c) (λ e. beats e b ≡ false)
    within c h = go (is_in group c.position)
      where
        go : (t : Bool) → IfSome (cond t (offers c) None) (λ e. beats e b ≡ false)
        go true = h
        go false = tt

    -- what isn't gone through offers nothing better
    unqueued : (hot : Bool) (n : ℕ) (c : TrackedClause) → slice_get clauses n ≡ Some c →
        has (set_of hot q) c.position ≡ false → IfSome (offers c) (λ e. beats e b ≡ false)
    unqueued true n c e out =
        cold_offers_no_better clauses literals rows_of val score ts q ready b n c e (cold n c e) out
    unqueued false n c e out = subst (λ o. IfSome o (λ x. beats x b ≡ false))
        (sym (unqueued_offers_nothing clauses literals rows_of val score ts q ready n c e out)) tt

    left_out : (n : ℕ) (c : TrackedClause) → slice_get clauses n ≡ Some c →
        has_of group (set_of only_hot q) c.position ≡ false → IfSome (of_group c) (λ e. beats e b ≡ false)
    left_out n c e out = go (is_in group c.position) out
      where
        go : (t : Bool) → (t && has (set_of only_hot q) c.position) ≡ false →
            IfSome (cond t (offers c) None) (λ e. beats e b ≡ false)
        go true h = unqueued only_hot n c e h
        go false h = tt

    of_set : (hot : Bool) (p : Position) → has (set_of hot q) p ≡ true → IsOfClause clauses p
    of_set true p e = ready.hot_of p e
    of_set false p e = ready.all_of p e

    pub rival_step : (cursor p : Position) → has_of group (set_of only_hot q) p ≡ true → IsBefore cursor p →
        ((r : Position) → has_of group (set_of only_hot q) r ≡ true → IsBefore cursor r → is_after p r ≡ false) →
        (b' : Offer) → ((d : TrackedClause) → slice_get clauses p.number ≡ Some d → b' ≡ improved b (offers d)) →
        rest_picked clauses of_group b cursor ≡ rest_picked clauses of_group b' p
    rival_step cursor p e before least b' is =
        let both = of_both group (set_of only_hot q) p e in
        let of = of_set only_hot p both.1 in
        next_counts clauses located of_group (has_of group (set_of only_hot q)) b left_out cursor p of.0 of.1
        of.2 before least ∙ ap (λ x. rest_picked clauses of_group x p)
        (ap (improved b) (own_offer group offers of.0 p of.2 both.0) ∙ sym (is of.0 of.1))

    -- an offer against one that can't be beaten
    by_count : b.frontier.count ≡ 1 → (c : TrackedClause) (o : Option Frontier) →
        eligible_frontier val literals rows_of c ≡ o →
        IfSome (option_map (offer_with score c) o) (λ e. beats e b ≡ false)
    by_count one c None e = tt
    by_count one c (Some f) e = one_unbeaten b (offer_with score c f) one
        (go (known_true (val c.parent) && are_literals_false val (literals c)) e)
      where
        go : (t : Bool) → cond t (frontier val (rows_of c.requirement)) None ≡ Some f → 1 ≤ f.count
        go true h = counts_one val (rows_of c.requirement) f h
        go false h = cc

    by_score : b.score ≡ largest → (c : TrackedClause) (o : Option Frontier) →
        IfSome (option_map (offer_with score c) o) (λ e. beats e b ≡ false)
    by_score top c None = tt
    by_score top c (Some f) = largest_unbeaten largest b (offer_with score c f) top (up_to f.set)

    -- the best so far is the best
    pub done_picked : (cursor : Position) → IsDone b largest cursor (has_of group (set_of only_hot q)) →
        rest_picked clauses of_group b cursor ≡ Some b
    done_picked cursor (inl one) = unbeatable_picked clauses located of_group b cursor (λ n c e.
        within c (by_count one c (eligible_frontier val literals rows_of c) refl))
    done_picked cursor (inr (inl top)) = unbeatable_picked clauses located of_group b cursor (λ n c e.
        within c (by_score top c (eligible_frontier val literals rows_of c)))
    done_picked cursor (inr (inr none)) = last_counts clauses located of_group
        (has_of group (set_of only_hot q)) b left_out cursor none

-- ---- it ends

filter_shorter : {X : Type 0} (t s : X → Bool) → ((x : X) → t x ≡ true → s x ≡ true) → (xs : List X) →
    length (filter t xs) ≤ length (filter s xs)
filter_shorter t s h [] = omega arith
filter_shorter t s h (x ∷ xs) = go (t x) (s x) refl refl (filter_shorter t s h xs)
  where
    go : (a b : Bool) → t x ≡ a → s x ≡ b → length (filter t xs) ≤ length (filter s xs) →
        length (cond a (x ∷ filter t xs) (filter t xs)) ≤ length (cond b (x ∷ filter s xs) (filter s xs))
    go true true p q m = omega arith
    go true false p q m = let bad : s x ≡ true = h x p in cc
    go false true p q m = omega arith
    go false false p q m = m

filter_falls : {X : Type 0} (t s : X → Bool) → ((x : X) → t x ≡ true → s x ≡ true) → (xs : List X) (y : X) →
    Stands y xs → t y ≡ false → s y ≡ true → length (filter t xs) < length (filter s xs)
filter_falls t s h [] y m p q = elim m [ ]
filter_falls t s h (x ∷ xs) z here p q =
    let less : length (filter t xs) ≤ length (filter s xs) = filter_shorter t s h xs in
    let left : length (filter t (x ∷ xs)) ≡ length (filter t xs) =
    ap (λ b. length (cond b (x ∷ filter t xs) (filter t xs))) p in
    let right : length (filter s (x ∷ xs)) ≡ length (x ∷ filter s xs) =
    ap (λ b. length (cond b (x ∷ filter s xs) (filter s xs))) q in
    omega (arith, left, right, less)
filter_falls t s h (x ∷ xs) y (there m) p q = go (t x) (s x) refl refl (filter_falls t s h xs y m p q)
  where
    go : (a b : Bool) → t x ≡ a → s x ≡ b → length (filter t xs) < length (filter s xs) →
        length (cond a (x ∷ filter t xs) (filter t xs)) < length (cond b (x ∷ filter s xs) (filter s xs))
    go true true u v w = omega arith
    go true false u v w = let bad : s x ≡ true = h x u in cc
    go false true u v w = omega arith
    go false false u v w = w

pub behind_falls : (clauses : List TrackedClause) → AreLocated clauses → (cursor p : Position) → IsOfClause clauses p →
    IsBefore cursor p → clauses_behind clauses p < clauses_behind clauses cursor
behind_falls clauses located cursor p of before =
    let place = place_of clauses in
    let here_it_is : place (p.number, of.0) ≡ p = sym (located p.number of.0 of.1) ∙ of.2 in
    filter_falls (λ x. is_lt (position_cmp p (place x))) (λ x. is_lt (position_cmp cursor (place x)))
    (λ x h. ap is_lt (position_order.trans cursor p (place x) before (less_by_test (position_cmp p (place x)) h)))
    (scanned clauses) (p.number, of.0) (at_scanned (λ (d : TrackedClause). d.parent) clauses p.number of.0 of.1)
    (ap (λ r. is_lt (position_cmp p r)) here_it_is ∙ reversed_same (position_cmp p p) (position_order.antisymm p p))
    (ap (λ r. is_lt (position_cmp cursor r)) here_it_is ∙ ap is_lt before)
