-- The laws for callers hold.
use Rattle.std.proofs.Common.{◌≡◌, ◌≢◌, ℕ, zero, suc, true, false, nat_eq, List, [], ◌∷◌, ◌++◌, Some, length, sym, ap}
use Rattle.std.proofs.Common.{refl, subst, ◌∙◌}
use Rattle.watch_map.proofs.Words.{before, clause_of, ClausesAreVisitedOnce, CursorsDivide, CursorsOutliveRoom, HasRoom}
use Rattle.watch_map.proofs.Words.{is_clause_in, IsChain, IsDistinct, IsPrevious, link, Lit, literal_index, literal_of}
use Rattle.watch_map.proofs.Words.{NewClausesJoin, next_in, passed, record_of, RecordsGrow, RecordsSkip, rest}
use Rattle.watch_map.proofs.Words.{RoomIsForFewer, SameRecordsBelong, started, Starts, value_at, watched_by}
use Rattle.watch_map.proofs.Words.{WatchedLiterals, watchers, Watches}
use Rattle.watch_map.specs.WatchLists.{literals_in}
use Rattle.watch_map.proofs.WatchingLaws.{split, exact_same, distinct_head, distinct_tail}
use Rattle.watch_map.proofs.ChainLaws.{chain_same}
use Rattle.watch_map.proofs.LinkLaws.{lists_made}

-- ---- records

pub same_records_belong : SameRecordsBelong
same_records_belong map old new same watched = (
  record {
    exact = exact_same (watched_by old) (watched_by new) (watchers map old)
        (watchers map new) literals lists watched.exact;
    links = λ c. rw (same c) (watched.links c);
    linked = λ l. subst (IsChain (link new l) (value_at map (literal_index l))) (sym (lists l)) (linked l);
  },
  lists,
)
  where
    literals : (c : ℕ) → watched_by new c ≡ watched_by old c
    literals c = ap literals_in (same c)

    linked : (l : Lit) → IsChain (link new l) (value_at map (literal_index l)) (watchers map old l)
    linked l = chain_same (link old l) (link new l) (value_at map (literal_index l))
        (watchers map old l) (λ c m. ap (λ r. next_in r l) (same c)) (watched.linked l)

    lists : (l : Lit) → watchers map new l ≡ watchers map old l
    lists = lists_made map new (watchers map old)
        (exact_same (watched_by old) (watched_by new) (watchers map old)
        (watchers map old) literals (λ l. refl) watched.exact) linked

record_at_end : (watches : Watches) (watched : WatchedLiterals) →
    record_of (watches ++ Some watched ∷ []) (length watches) ≡ Some watched
record_at_end [] watched = refl
record_at_end (w ∷ watches) watched = record_at_end watches watched

record_elsewhere : (watches : Watches) (watched : WatchedLiterals) (clause : ℕ) → clause ≢ length watches →
    record_of (watches ++ Some watched ∷ []) clause ≡ record_of watches clause
record_elsewhere [] watched zero ne = absurd (ne refl)
record_elsewhere [] watched (suc clause) ne = refl
record_elsewhere (w ∷ watches) watched zero ne = refl
record_elsewhere (w ∷ watches) watched (suc clause) ne = record_elsewhere watches watched clause (λ e. ne (ap suc e))

nothing_at_end : (watches : Watches) → watched_by watches (length watches) ≡ []
nothing_at_end [] = refl
nothing_at_end (w ∷ watches) = nothing_at_end watches

pub records_grow : RecordsGrow
records_grow watches watched = (
  nothing_at_end watches,
  (record_at_end watches watched, record_elsewhere watches watched),
)

pub new_clauses_join : NewClausesJoin
new_clauses_join old new watches watched clause belong starts next =
    let grow = records_grow watches watched in
    let from_there = subst (λ i. Starts old watched i new) next starts in
    let joined = from_there watches (watches ++ Some watched ∷ []) belong grow.0 grow.1 in
    (joined.0, λ l. joined.1 l ∙ ap (λ i. started i watched.watched_literals (watchers old watches) l) (sym next))

pub records_skip : RecordsSkip
records_skip [] zero = refl
records_skip [] (suc clause) = refl
records_skip (w ∷ watches) zero = refl
records_skip (w ∷ watches) (suc clause) = records_skip watches clause

-- ---- room

pub room_is_for_fewer : RoomIsForFewer
unfolding HasRoom
room_is_for_fewer map l n k le room = room

-- ---- cursors

pub cursors_divide : CursorsDivide
cursors_divide cursor map watches stands =
    split (clause_of cursor) (watchers map watches (literal_of cursor)) stands.member

pub clauses_are_met_once : ClausesAreVisitedOnce
clauses_are_met_once cursor map watches stands clause h =
    go (passed cursor map watches) (subst (IsDistinct nat_eq) (cursors_divide cursor map watches stands)
    (stands.watched.exact.once (literal_of cursor)))
  where
    go : (front : List ℕ) → IsDistinct nat_eq (front ++ clause_of cursor ∷ rest cursor map watches) →
        clause ≢ clause_of cursor
    go [] once k =
        let inside : is_clause_in (clause_of cursor) (rest cursor map watches) ≡ true =
        subst (λ c. is_clause_in c (rest cursor map watches) ≡ true) k h in
        let outside : is_clause_in (clause_of cursor) (rest cursor map watches) ≡ false =
        distinct_head (clause_of cursor) (rest cursor map watches) once in
        let z : true ≡ false = sym inside ∙ outside in cc
    go (x ∷ front) once k = go front (distinct_tail x (front ++ clause_of cursor ∷ rest cursor map watches) once) k

pub cursors_outlive_room : CursorsOutliveRoom
cursors_outlive_room cursor old new watches same stands = record {
  watched = (same watches stands.watched).0;
  member = subst (λ xs. is_clause_in (clause_of cursor) xs ≡ true) (sym list) stands.member;
  within = stands.within;
  watch = stands.watch;
  placed = subst (λ xs. IsPrevious watches (literal_of cursor) cursor.previous (before (clause_of cursor) xs))
      (sym list) stands.placed;
}
  where
    list : watchers new watches (literal_of cursor) ≡ watchers old watches (literal_of cursor)
    list = (same watches stands.watched).1 (literal_of cursor)
