-- What holds in mid-walk.
use Rattle.std.proofs.Common.{◌≡◌, ℕ, Bool, true, false, ◌||◌, nat_eq, List, [], ◌∷◌, ◌++◌, Option, Some, None, sym}
use Rattle.std.proofs.Common.{ap, refl, subst, ◌∙◌, eq-eqb}
use Rattle.std.specs.Prelude.{IfSome}
use Rattle.std.proofs.lemmas.List.{append-nil, append_assoc}
use Rattle.decisions.specs.Literals.{Lit}
use Rattle.watch_map.specs.Watching.{is_clause_in}
use Rattle.watch_map.specs.WatchLists.{WatchLists, Position, Watches, watched_by, watchers, AreWatched, literal_of}
use Rattle.watch_map.specs.WatchLists.{clause_of}
use Rattle.watch_map.specs.WatchCalls.{StandsIn, StandsBehind, Moves, passed, rest, remaining}
use Rattle.watch_map.proofs.CallerLaws.{clauses_are_met_once}
use Rattle.test_part_calls.specs.Walks.{with_staying, staying, IsBeginning}

pub record Walked (literal : Lit) (choice : ℕ → Option Lit) (map0 : WatchLists) (watches0 : Watches) (met0 : List ℕ)
    (cursor : Option Position) (map : WatchLists) (watches : Watches) (met : List ℕ) : Type 0 where
  pub visited : List ℕ
  pub watched : AreWatched map watches
  pub written : met ≡ met0 ++ visited
  pub in_order : watchers map0 watches0 literal ≡ visited ++ remaining cursor map watches
  pub left : watchers map watches literal ≡ staying choice visited ++ remaining cursor map watches
  pub stands : IfSome cursor (StandsBehind (staying choice visited) literal map watches)
  pub unmet : (clause : ℕ) → is_clause_in clause (remaining cursor map watches) ≡ true →
      watched_by watches clause ≡ watched_by watches0 clause

staying-append : (choice : ℕ → Option Lit) (xs ys : List ℕ) →
    staying choice (xs ++ ys) ≡ staying choice xs ++ staying choice ys
staying-append choice [] ys = refl
staying-append choice (x ∷ xs) ys = go (choice x) (staying-append choice xs ys)
  where
    go : (o : Option Lit) → staying choice (xs ++ ys) ≡ staying choice xs ++ staying choice ys →
        with_staying o x (staying choice (xs ++ ys)) ≡ with_staying o x (staying choice xs) ++ staying choice ys
    go None ih = ap (λ zs. x ∷ zs) ih
    go (Some to) ih = ih

kept_one : (choice : ℕ → Option Lit) (xs : List ℕ) (x : ℕ) → choice x ≡ None →
    staying choice (xs ++ x ∷ []) ≡ staying choice xs ++ x ∷ []
kept_one choice xs x none = staying-append choice xs (x ∷ []) ∙ ap (λ o. staying choice xs ++ with_staying o x []) none

left_one : (choice : ℕ → Option Lit) (xs : List ℕ) (x : ℕ) (to : Lit) → choice x ≡ Some to →
    staying choice (xs ++ x ∷ []) ≡ staying choice xs
left_one choice xs x to some = staying-append choice xs (x ∷ [])
    ∙ (ap (λ o. staying choice xs ++ with_staying o x []) some ∙ append-nil (staying choice xs))

eqb_self : (c : ℕ) → nat_eq c c ≡ true
eqb_self c = eq-eqb c c refl

or_true : (b : Bool) → (b || true) ≡ true
or_true true = refl
or_true false = refl

module _ (literal : Lit) (choice : ℕ → Option Lit) (map0 : WatchLists) (watches0 : Watches) (met0 : List ℕ) where
  pub begins : (cursor : Option Position) → AreWatched map0 watches0 →
      remaining cursor map0 watches0 ≡ watchers map0 watches0 literal →
      IfSome cursor (StandsBehind [] literal map0 watches0) →
      Walked literal choice map0 watches0 met0 cursor map0 watches0 met0
  begins cursor watched list stands = record {
    visited = [];
    watched = watched;
    written = sym (append-nil met0);
    in_order = sym list;
    left = sym list;
    stands = stands;
    unmet = λ clause h. refl;
  }

  module _ (map : WatchLists) (watches : Watches) (met : List ℕ) where
    pub ends : Walked literal choice map0 watches0 met0 None map watches met →
        (met ≡ met0 ++ watchers map0 watches0 literal)
        × (watchers map watches literal ≡ staying choice (watchers map0 watches0 literal))
    ends w =
        let all : watchers map0 watches0 literal ≡ w.visited = w.in_order ∙ append-nil w.visited in (
          w.written ∙ ap (λ xs. met0 ++ xs) (sym all),
          w.left ∙ (append-nil (staying choice w.visited)
              ∙ ap (staying choice) (sym all)),
        )

    module _ (at : Position) (w : Walked literal choice map0 watches0 met0 (Some at) map watches met) where
      abbrev clause : ℕ
      clause = clause_of at

      pub stands_in : StandsIn at map watches
      stands_in = w.stands.stands

      -- what the clause watches is what it watched at the start
      pub still : watched_by watches clause ≡ watched_by watches0 clause
      still =
          let here : is_clause_in clause (remaining (Some at) map watches) ≡ true =
          ap (λ b. b || is_clause_in clause (rest at map watches)) (eqb_self clause) in
          w.unmet clause here

      pub is_beginning : IsBeginning met (met0 ++ watchers map0 watches0 literal)
      is_beginning = (
        clause ∷ rest at map watches,
        ap (λ xs. met0 ++ xs) w.in_order ∙ (sym (append_assoc met0 w.visited (clause ∷ rest at map watches)) ∙
            ap (λ xs. xs ++ clause ∷ rest at map watches) (sym w.written)),
      )

      module _ (met' : List ℕ) (pushed : met' ≡ met ++ clause ∷ []) where
        written : met' ≡ met0 ++ (w.visited ++ clause ∷ [])
        written = pushed ∙ (ap (λ xs. xs ++ clause ∷ []) w.written ∙ append_assoc met0 w.visited (clause ∷ []))

        in_order : watchers map0 watches0 literal ≡ (w.visited ++ clause ∷ []) ++ rest at map watches
        in_order = w.in_order ∙ sym (append_assoc w.visited (clause ∷ []) (rest at map watches))

        pub is_beginning_after : IsBeginning met' (met0 ++ watchers map0 watches0 literal)
        is_beginning_after = (
          rest at map watches,
          ap (λ xs. met0 ++ xs) in_order ∙ (sym (append_assoc met0 (w.visited ++ clause ∷ []) (rest at map watches)) ∙
              ap (λ xs. xs ++ rest at map watches) (sym written)),
        )

        in_list : (c : ℕ) → is_clause_in c (rest at map watches) ≡ true →
            is_clause_in c (remaining (Some at) map watches) ≡ true
        in_list c h = rw h (or_true (nat_eq c clause))

        pub keeps : (next : Option Position) → choice clause ≡ None → remaining next map watches ≡ rest at map watches →
            IfSome next (StandsBehind (passed at map watches ++ clause ∷ []) (literal_of at) map watches) →
            Walked literal choice map0 watches0 met0 next map watches met'
        keeps next none list stands = record {
          visited = w.visited ++ clause ∷ [];
          watched = w.watched;
          written = written;
          in_order = rw list in_order;
          left = rw (list, kept_one choice w.visited clause none) (w.left
              ∙ sym (append_assoc (staying choice w.visited) (clause ∷ []) (rest at map watches)));
          stands = subst (λ l. IfSome next (StandsBehind (staying choice (w.visited ++ clause ∷ [])) l map watches))
              w.stands.literal_is
              (subst (λ front. IfSome next (StandsBehind front (literal_of at) map watches))
              (ap (λ xs. xs ++ clause ∷ []) w.stands.front_is ∙ sym (kept_one choice w.visited clause none)) stands);
          unmet = λ c h. w.unmet c (in_list c (subst (λ xs. is_clause_in c xs ≡ true) list h));
        }

        pub moves : (next : Option Position) (to : Lit) (map' : WatchLists) (watches' : Watches) →
            choice clause ≡ Some to → Moves at to map watches map' watches' →
            remaining next map' watches' ≡ rest at map watches →
            IfSome next (StandsBehind (passed at map watches) (literal_of at) map' watches') →
            Walked literal choice map0 watches0 met0 next map' watches' met'
        moves next to map' watches' some moved list stands = record {
          visited = w.visited ++ clause ∷ [];
          watched = moved.watched;
          written = written;
          in_order = rw list in_order;
          left = rw (list, left_one choice w.visited clause to some)
              (subst (λ l. watchers map' watches' l ≡ staying choice w.visited ++ rest at map watches)
              w.stands.literal_is
              (subst (λ front. watchers map' watches' (literal_of at) ≡ front ++ rest at map watches)
              w.stands.front_is moved.walked));
          stands = subst (λ l. IfSome next
              (StandsBehind (staying choice (w.visited ++ clause ∷ [])) l map' watches')) w.stands.literal_is
              (subst (λ front. IfSome next (StandsBehind front (literal_of at) map' watches'))
              (w.stands.front_is ∙ sym (left_one choice w.visited clause to some)) stands);
          unmet = λ c h.
              let behind : is_clause_in c (rest at map watches) ≡ true =
              subst (λ xs. is_clause_in c xs ≡ true) list h in
              moved.literals.1 c (clauses_are_met_once at map watches stands_in c behind)
              ∙ w.unmet c (in_list c behind);
        }
