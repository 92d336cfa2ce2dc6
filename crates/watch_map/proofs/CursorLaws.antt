-- A cursor at a clause of a chain.
use Rattle.std.proofs.Common.{◌≡◌, ℕ, ◌<◌, true, nat_eq, List, [], ◌∷◌, ◌++◌, Option, Some, None, length}
use Rattle.std.proofs.Common.{slice_index_or, sym, ap, refl, subst, ◌∙◌}
use Rattle.watch_map.proofs.Words.{AreWatched, before, behind, clause_of, IfSome, index_of, is_clause_in, is_literal_in}
use Rattle.watch_map.proofs.Words.{IsChain, IsCursorAt, IsDistinct, IsPrevious, IsReached, link, Lit, Position}
use Rattle.watch_map.proofs.Words.{remaining, StandsBehind, watched_by, watchers, Watches, WatchLists, WatchNode}
use Rattle.watch_map.proofs.WatchingLaws.{parts}
use Rattle.watch_map.proofs.ChainLaws.{in_middle}

module _ (map : WatchLists) (ws : Watches) (watched : AreWatched map ws) (l : Lit) (previous : Option WatchNode)
    (front back : List ℕ)
    (list : watchers map ws l ≡ front ++ back) where
  starts_with : (xs : List ℕ) (next : Option ℕ) → IsChain (link ws l) next xs → (c : ℕ) → next ≡ Some c →
      (ys : List ℕ) × (xs ≡ c ∷ ys)
  starts_with [] next linked c e = absurd (let z : None ≡ Some c = sym linked ∙ e in cc)
  starts_with (x ∷ xs) next linked c e = let z : Some x ≡ Some c = sym linked.0 ∙ e in let k : x ≡ c = cc in
      (xs, ap (λ y. y ∷ xs) k)

  pub next_watches_it : (next : Option ℕ) → IsChain (link ws l) next back → (c : ℕ) → next ≡ Some c →
      is_literal_in l (watched_by ws c) ≡ true
  next_watches_it next linked c e =
      let s = starts_with back next linked c e in
      sym (watched.exact.stands l c) ∙ subst (λ xs. is_clause_in c xs ≡ true)
      (sym (list ∙ ap (λ xs. front ++ xs) s.1)) (in_middle c front s.0)

  module _ (known : IsPrevious ws l previous front) where
    at_clause : (c : ℕ) (ys : List ℕ) → back ≡ c ∷ ys → (cursor : Position) → cursor.literal ≡ l →
        cursor.previous ≡ previous → cursor.current.clause_id ≡ c →
        index_of cursor < length (watched_by ws (clause_of cursor)) →
        slice_index_or (watched_by ws (clause_of cursor)) (index_of cursor) l ≡ l →
        (remaining (Some cursor) map ws ≡ back) × StandsBehind front l map ws cursor
    at_clause c ys is cursor at_l at_previous at_c within watch = (
      rw (at_l, at_c) (ap (λ xs. c ∷ xs) by_clause.1 ∙ sym is),
      record {
        stands = record {
          watched = watched;
          member = rw (at_l, at_c) (subst (λ xs. is_clause_in c xs ≡ true) (sym divided) (in_middle c front ys));
          within = within;
          watch = subst (λ x. slice_index_or (watched_by ws (clause_of cursor)) (index_of cursor) x ≡ x)
              (sym at_l) watch;
          placed = rw (at_l, at_previous, at_c) (subst (IsPrevious ws l previous) (sym by_clause.0) known);
        };
        literal_is = at_l;
        front_is = rw (at_l, at_c) by_clause.0;
      },
    )
      where
        divided : watchers map ws l ≡ front ++ c ∷ ys
        divided = list ∙ ap (λ xs. front ++ xs) is

        by_clause : (before c (watchers map ws l) ≡ front) × (behind c (watchers map ws l) ≡ ys)
        by_clause =
            let p = parts c front ys (subst (IsDistinct nat_eq) divided (watched.exact.once l)) in
            (ap (before c) divided ∙ p.0, ap (behind c) divided ∙ p.1)

    pub arrived : (next : Option ℕ) (result : Option Position) → IsChain (link ws l) next back →
        IsCursorAt ws l previous next result →
        (remaining result map ws ≡ back) × IfSome result (StandsBehind front l map ws)
    arrived None result linked at = rw at (nothing back linked, tt)
      where
        nothing : (xs : List ℕ) → IsChain (link ws l) None xs → [] ≡ xs
        nothing [] h = refl
        nothing (x ∷ xs) h = absurd (let z : None ≡ Some x = h.0 in cc)
    arrived (Some c) None linked at = absurd at
    arrived (Some c) (Some cursor) linked at =
        let s = starts_with back (Some c) linked c refl in
        at_clause c s.0 s.1 cursor at.0 at.1 at.2 at.3.within at.3.watch

-- from where a walk came, on to the next clause
module _ (map : WatchLists) (ws : Watches) (watched : AreWatched map ws) (l : Lit) (previous : Option WatchNode)
    (next : Option ℕ)
    (front ahead : List ℕ) (reached : IsReached l previous next map ws front ahead) where
  pub reached_watches : (c : ℕ) → next ≡ Some c → is_literal_in l (watched_by ws c) ≡ true
  reached_watches = next_watches_it map ws watched l previous front ahead reached.list next reached.linked

  pub reached_cursor : (result : Option Position) → IsCursorAt ws l previous next result →
      (remaining result map ws ≡ ahead) × IfSome result (StandsBehind front l map ws)
  reached_cursor result at = arrived map ws watched l previous front ahead reached.list reached.known next result
      reached.linked at
