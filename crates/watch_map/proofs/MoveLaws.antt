-- A watch that moves: the clause is unlinked from one list and put first in another.
use Rattle.std.proofs.Common.{◌≡◌, ◌≢◌, ℕ, zero, suc, ◌<◌, Bool, true, false, ◌||◌, cond}
use Rattle.std.proofs.Common.{nat_eq, List, [], ◌∷◌, ◌++◌, Option, Some, None, length}
use Rattle.std.proofs.Common.{slice_index_or, set, sym, ap, refl, subst, ◌∙◌, arith, eqb-true}
use Rattle.std.proofs.lemmas.Bool.{eqb-false}
use Rattle.std.proofs.lemmas.List.{append_assoc}
use Rattle.watch_map.proofs.Words.{AreTwoOrNone, AreWatched, clause_of, HasTwoLinks, index_of, is_clause_in}
use Rattle.watch_map.proofs.Words.{is_literal_in, IsChain, IsDistinct, IsExact, IsPrevious, IsReached, IsRelinked}
use Rattle.watch_map.proofs.Words.{IsUpdate, link, Lit, literal_index, literal_index-injective, literal_of, moved}
use Rattle.watch_map.proofs.Words.{Moves, next_at, next_in, passed, Position, record_of, rest, same_literal, StandsIn}
use Rattle.watch_map.proofs.Words.{value_at, watched_by, watchers, Watches, WatchLists, WatchNode, with_next}
use Rattle.watch_map.proofs.Words.{with_watch, without}
use Rattle.watch_map.specs.WatchLists.{literals_in}
use Rattle.watch_map.proofs.WatchingLaws.{same_is, same_self, same_swap, split, without_parts, distinct_head}
use Rattle.watch_map.proofs.WatchingLaws.{distinct_tail, exact_same, moved_exact}
use Rattle.watch_map.proofs.ChainLaws.{in_head, in_rest, in_middle, chain_same, chain_behind, chain_less}
use Rattle.watch_map.proofs.LinkLaws.{record_at, record_next_kept, record_next_set, record_watch_kept, record_watch_set}
use Rattle.watch_map.proofs.LinkLaws.{next_literals, watch_literals, next_links, watch_links, lists_made}

pub index_apart : (l m : Lit) → same_literal l m ≡ false → literal_index l ≢ literal_index m
index_apart l m e k =
    let z : same_literal l m ≡ true = subst (λ x. same_literal l x ≡ true) (literal_index-injective l m k)
    (same_self l) in let y : true ≡ false = sym z ∙ e in cc

from_watched : (ls : List Lit) (index : ℕ) (from : Lit) → index < length ls → slice_index_or ls index from ≡ from →
    is_literal_in from ls ≡ true
from_watched [] index from h e = absurd (omega arith)
from_watched (a ∷ ls) zero from h e =
    subst (λ x. (same_literal from x || is_literal_in from ls) ≡ true) (sym e) (rw (same_self from) refl)
from_watched (a ∷ ls) (suc index) from h e =
    rw (from_watched ls index from (omega arith) e) (or_true (same_literal from a))
  where
    or_true : (b : Bool) → (b || true) ≡ true
    or_true true = refl
    or_true false = refl

-- in a list without repeats no clause of the one part is in the other
pub apart_front : (c d : ℕ) (front back : List ℕ) → IsDistinct nat_eq (front ++ c ∷ back) →
    is_clause_in d front ≡ true → d ≢ c
apart_front c d [] back once h k = let z : false ≡ true = h in cc
apart_front c d (x ∷ front) back once h k =
    go (nat_eq d x) refl h (λ j. apart_front c d front back (distinct_tail x (front ++ c ∷ back) once) j k)
  where
    go : (b : Bool) → nat_eq d x ≡ b → (b || is_clause_in d front) ≡ true → (is_clause_in d front ≡ true → ⊥) → ⊥
    go true e j ih =
        let out : is_clause_in x (front ++ c ∷ back) ≡ false = distinct_head x (front ++ c ∷ back) once in
        let is : x ≡ c = sym (eqb-true d x e) ∙ k in
        let inside : is_clause_in x (front ++ c ∷ back) ≡ true =
        subst (λ y. is_clause_in y (front ++ c ∷ back) ≡ true) (sym is) (in_middle c front back) in
        let z : true ≡ false = sym inside ∙ out in cc
    go false e j ih = ih j

pub apart_back : (c d : ℕ) (front back : List ℕ) → IsDistinct nat_eq (front ++ c ∷ back) →
    is_clause_in d back ≡ true → d ≢ c
apart_back c d [] back once h k =
    let out : is_clause_in c back ≡ false = distinct_head c back once in
    let inside : is_clause_in c back ≡ true = subst (λ y. is_clause_in y back ≡ true) k h in
    let z : true ≡ false = sym inside ∙ out in cc
apart_back c d (x ∷ front) back once h k = apart_back c d front back (distinct_tail x (front ++ c ∷ back) once) h k

-- ---- the clause unlinked

-- what is then known of the map and the records, whether a node was in front or not
pub record Unlinked (from : Lit) (clause : ℕ) (left behind_it : List ℕ) (map : WatchLists) (ws : Watches)
    (map' : WatchLists) (ws' : Watches) : Type 0 where
  pub slots : length map' ≡ length map
  pub heads : (l : Lit) → same_literal l from ≡ false → value_at map' (literal_index l) ≡ value_at map (literal_index l)
  pub same : record_of ws' clause ≡ record_of ws clause
  pub literals : (c : ℕ) → watched_by ws' c ≡ watched_by ws c
  pub links : (c : ℕ) → HasTwoLinks (record_of ws' c)
  pub others : (l : Lit) (c : ℕ) → is_literal_in l (watched_by ws c) ≡ true → same_literal l from ≡ false →
      link ws' l c ≡ link ws l c
  pub linked : IsChain (link ws' from) (value_at map' (literal_index from)) left
  pub behind : (c : ℕ) → is_clause_in c behind_it ≡ true → link ws' from c ≡ link ws from c

module _ (cursor : Position) (map : WatchLists) (ws : Watches) (stands : StandsIn cursor map ws) where
  abbrev clause : ℕ
  clause = clause_of cursor

  abbrev from : Lit
  from = literal_of cursor

  pub whole : watchers map ws from ≡ passed cursor map ws ++ clause ∷ rest cursor map ws
  whole = split clause (watchers map ws from) stands.member

  pub whole_past : watchers map ws from ≡ (passed cursor map ws ++ clause ∷ []) ++ rest cursor map ws
  whole_past = whole ∙ sym (append_assoc (passed cursor map ws) (clause ∷ []) (rest cursor map ws))

  pub once : IsDistinct nat_eq (passed cursor map ws ++ clause ∷ rest cursor map ws)
  once = subst (IsDistinct nat_eq) whole (stands.watched.exact.once from)

  pub linked_whole : IsChain (link ws from) (value_at map (literal_index from))
      (passed cursor map ws ++ clause ∷ rest cursor map ws)
  linked_whole = subst (IsChain (link ws from) (value_at map (literal_index from))) whole (stands.watched.linked from)

  -- the walked list has a first clause
  pub first_is : (c : ℕ) × (value_at map (literal_index from) ≡ Some c)
  first_is = go (passed cursor map ws) linked_whole
    where
      go : (front : List ℕ) → IsChain (link ws from) (value_at map (literal_index from))
          (front ++ clause ∷ rest cursor map ws) → (c : ℕ) × (value_at map (literal_index from) ≡ Some c)
      go [] h = (clause, h.0)
      go (x ∷ front) h = (x, h.0)

  -- the link of the clause, by its index
  pub next_is : next_at (record_of ws clause) (index_of cursor) ≡ link ws from clause
  next_is = record_at (index_of cursor) from (record_of ws clause)
      (stands.watched.exact.two clause) stands.within stands.watch

  pub linked_rest : IsChain (link ws from) (next_at (record_of ws clause) (index_of cursor)) (rest cursor map ws)
  linked_rest = subst (λ o. IsChain (link ws from) o (rest cursor map ws)) (sym next_is)
      (chain_behind (link ws from) (value_at map (literal_index from)) (passed cursor map ws) clause
      (rest cursor map ws) linked_whole)

  -- past the clause
  pub reached_past : IsReached from (Some cursor.current) (next_at (record_of ws clause) (index_of cursor)) map ws
      (passed cursor map ws ++ clause ∷ []) (rest cursor map ws)
  reached_past = record {
    list = whole_past;
    known = (record { within = stands.within; watch = stands.watch }, (passed cursor map ws, refl));
    linked = linked_rest;
  }

  pub unlinked : (previous : Option WatchNode) (map' : WatchLists) (ws' : Watches) →
      IsPrevious ws from previous (passed cursor map ws) →
      IsRelinked previous from (next_at (record_of ws clause) (index_of cursor)) map ws map' ws' →
      Unlinked from clause (passed cursor map ws ++ rest cursor map ws) (rest cursor map ws) map ws map' ws'
  unlinked None map' ws' front re = record {
    slots = re.2;
    heads = λ l d. re.0.1 (literal_index l) (index_apart l from d);
    same = ap (λ w. record_of w clause) re.1;
    literals = λ c. ap (λ w. watched_by w c) re.1;
    links = λ c. subst (λ w. HasTwoLinks (record_of w c)) (sym re.1) (stands.watched.links c);
    others = λ l c i d. ap (λ w. link w l c) re.1;
    linked = subst (λ xs. IsChain (link ws' from) (value_at map' (literal_index from)) (xs ++ rest cursor map ws))
        (sym front)
        (subst (λ w. IsChain (link w from) (value_at map' (literal_index from)) (rest cursor map ws)) (sym re.1)
        (subst (λ o. IsChain (link ws from) o (rest cursor map ws)) (sym re.0.0) linked_rest));
    behind = λ c m. ap (λ w. link w from c) re.1;
  }
  unlinked (Some node) map' ws' front re = record {
    slots = ap length re.0;
    heads = λ l d. ap (λ m. value_at m (literal_index l)) re.0;
    same = re.1.1 clause (λ e. apart (sym e));
    literals = λ c. literals c (nat_eq c node.clause_id) refl;
    links = λ c. links c (nat_eq c node.clause_id) refl;
    others = λ l c i d. others l c i d (nat_eq c node.clause_id) refl;
    linked = subst (λ xs. IsChain (link ws' from) (value_at map' (literal_index from)) xs) (sym parted) skipped;
    behind = λ d m. ap (λ r. next_in r from)
        (re.1.1 d (apart_back node.clause_id d earlier (clause ∷ rest cursor map ws) once_parted
        (in_rest d clause (rest cursor map ws) m)));
  }
    where
      earlier : List ℕ
      earlier = front.1.0

      ends : passed cursor map ws ≡ earlier ++ node.clause_id ∷ []
      ends = front.1.1

      parted : passed cursor map ws ++ rest cursor map ws ≡ earlier ++ node.clause_id ∷ rest cursor map ws
      parted = ap (λ xs. xs ++ rest cursor map ws) ends
          ∙ append_assoc earlier (node.clause_id ∷ []) (rest cursor map ws)

      parted_whole : passed cursor map ws ++ clause ∷ rest cursor map ws
          ≡ earlier ++ node.clause_id ∷ clause ∷ rest cursor map ws
      parted_whole = ap (λ xs. xs ++ clause ∷ rest cursor map ws) ends
          ∙ append_assoc earlier (node.clause_id ∷ []) (clause ∷ rest cursor map ws)

      once_parted : IsDistinct nat_eq (earlier ++ node.clause_id ∷ clause ∷ rest cursor map ws)
      once_parted = subst (IsDistinct nat_eq) parted_whole once

      apart : node.clause_id ≢ clause
      apart e = apart_back node.clause_id clause earlier (clause ∷ rest cursor map ws) once_parted
          (in_head clause (rest cursor map ws)) (sym e)

      two : AreTwoOrNone (watched_by ws node.clause_id)
      two = stands.watched.exact.two node.clause_id

      at_node : record_of ws' node.clause_id ≡ with_next node.watch_index
          (next_at (record_of ws clause) (index_of cursor)) (record_of ws node.clause_id)
      at_node = re.1.0

      literals : (c : ℕ) (b : Bool) → nat_eq c node.clause_id ≡ b → watched_by ws' c ≡ watched_by ws c
      literals c true e = rw (eqb-true c node.clause_id e) (ap literals_in at_node
          ∙ next_literals node.watch_index _ (record_of ws node.clause_id))
      literals c false e = ap literals_in (re.1.1 c (eqb-false c node.clause_id e))

      links : (c : ℕ) (b : Bool) → nat_eq c node.clause_id ≡ b → HasTwoLinks (record_of ws' c)
      links c true e = rw (eqb-true c node.clause_id e, at_node)
          (next_links node.watch_index _ (record_of ws node.clause_id) (stands.watched.links node.clause_id))
      links c false e = rw (re.1.1 c (eqb-false c node.clause_id e)) (stands.watched.links c)

      others : (l : Lit) (c : ℕ) → is_literal_in l (watched_by ws c) ≡ true → same_literal l from ≡ false → (b : Bool) →
          nat_eq c node.clause_id ≡ b → link ws' l c ≡ link ws l c
      others l c i d true e =
          let is = eqb-true c node.clause_id e in
          let there : is_literal_in l (watched_by ws node.clause_id) ≡ true =
          subst (λ x. is_literal_in l (watched_by ws x) ≡ true) is i in
          subst (λ x. link ws' l x ≡ link ws l x) (sym is)
          (ap (λ r. next_in r l) at_node ∙ record_next_kept node.watch_index from
          (record_of ws node.clause_id) _ l two front.0.within front.0.watch there d)
      others l c i d false e = ap (λ r. next_in r l) (re.1.1 c (eqb-false c node.clause_id e))

      skips : link ws' from node.clause_id ≡ link ws from clause
      skips = ap (λ r. next_in r from) at_node
          ∙ (record_next_set node.watch_index from (record_of ws node.clause_id) _ two front.0.within front.0.watch
          (stands.watched.links node.clause_id) ∙ next_is)

      skipped : IsChain (link ws' from) (value_at map' (literal_index from))
          (earlier ++ node.clause_id ∷ rest cursor map ws)
      skipped =
          chain_less (link ws from) (link ws' from) (value_at map' (literal_index from)) earlier node.clause_id
          clause (rest cursor map ws) skips
          (λ d m. ap (λ r. next_in r from)
          (re.1.1 d (apart_front node.clause_id d earlier (clause ∷ rest cursor map ws) once_parted m)))
          (λ d m. ap (λ r. next_in r from)
          (re.1.1 d (apart_back node.clause_id d earlier (clause ∷ rest cursor map ws) once_parted
          (in_rest d clause (rest cursor map ws) m))))
          (subst (λ m. IsChain (link ws from) (value_at m (literal_index from))
          (earlier ++ node.clause_id ∷ clause ∷ rest cursor map ws)) (sym re.0)
          (subst (IsChain (link ws from) (value_at map (literal_index from))) parted_whole linked_whole))

  -- ---- the clause put first in the other list

  module _ (to : Lit) (other : is_literal_in to (watched_by ws clause) ≡ false) (map1 : WatchLists) (ws1 : Watches)
      (relinked : IsRelinked cursor.previous from (next_at (record_of ws clause) (index_of cursor)) map ws map1 ws1)
      (map2 : WatchLists) (ws2 : Watches) (behind_it : Option ℕ)
      (behind_is : behind_it ≡ value_at map1 (literal_index to))
      (first : IsUpdate (value_at map1) (literal_index to) (Some clause) (value_at map2))
      (watch_set : IsUpdate (record_of ws1) clause (with_watch (index_of cursor) to behind_it (record_of ws1 clause))
      (record_of ws2)) where
    un : Unlinked from clause (passed cursor map ws ++ rest cursor map ws) (rest cursor map ws) map ws map1 ws1
    un = unlinked cursor.previous map1 ws1 stands.placed relinked

    from_to : same_literal from to ≡ false
    from_to = go (same_literal from to) refl
      where
        go : (b : Bool) → same_literal from to ≡ b → b ≡ false
        go true e =
            let w : is_literal_in from (watched_by ws clause) ≡ true =
            from_watched (watched_by ws clause) (index_of cursor) from stands.within stands.watch in
            let z : true ≡ false = sym (subst (λ x. is_literal_in x (watched_by ws clause) ≡ true)
            (same_is from to e) w) ∙ other in cc
        go false e = refl

    to_from : same_literal to from ≡ false
    to_from = same_swap to from ∙ from_to

    -- the record of the clause
    at_clause : record_of ws2 clause ≡ with_watch (index_of cursor) to behind_it (record_of ws clause)
    at_clause = watch_set.0 ∙ ap (with_watch (index_of cursor) to behind_it) un.same

    pub literals_after : IsUpdate (watched_by ws) clause (set (watched_by ws clause) (index_of cursor) to)
        (watched_by ws2)
    literals_after = (
      ap literals_in at_clause ∙ watch_literals (index_of cursor) to behind_it (record_of ws clause),
      λ c ne. ap literals_in (watch_set.1 c ne) ∙ un.literals c,
    )

    pub exact_after : IsExact (watched_by ws2) (moved clause from to (watchers map ws))
    exact_after = moved_exact (watched_by ws) (watched_by ws2) (watchers map ws) clause stands.watched.exact
        (index_of cursor) from to stands.within stands.watch other literals_after

    links_after : (c : ℕ) (b : Bool) → nat_eq c clause ≡ b → HasTwoLinks (record_of ws2 c)
    links_after c true e = rw (eqb-true c clause e, at_clause)
        (watch_links (index_of cursor) to behind_it (record_of ws clause) (stands.watched.links clause))
    links_after c false e = rw (watch_set.1 c (eqb-false c clause e)) (un.links c)

    pub is_without : without clause (watchers map ws from) ≡ passed cursor map ws ++ rest cursor map ws
    is_without = ap (without clause) whole ∙ without_parts clause (passed cursor map ws) (rest cursor map ws) once

    two_clause : AreTwoOrNone (literals_in (record_of ws clause))
    two_clause = stands.watched.exact.two clause

    -- the list of the other literal
    to_linked : IsChain (link ws2 to) (value_at map2 (literal_index to)) (clause ∷ watchers map ws to)
    to_linked =
        let two_after : AreTwoOrNone (literals_in (with_watch (index_of cursor) to behind_it (record_of ws clause))) =
        subst (λ r. AreTwoOrNone (literals_in r)) at_clause (exact_after.two clause) in
        let its_link : link ws2 to clause ≡ value_at map (literal_index to) =
        ap (λ r. next_in r to) at_clause ∙
        (record_watch_set (index_of cursor) to (record_of ws clause) behind_it two_clause stands.within two_after
        (stands.watched.links clause)
        ∙ (behind_is ∙ un.heads to to_from)) in (
          first.0,
          subst (λ o. IsChain (link ws2 to) o (watchers map ws to)) (sym its_link)
              (chain_same (link ws to) (link ws2 to) (value_at map (literal_index to)) (watchers map ws to) kept
              (stands.watched.linked to)),
        )
      where
        kept : (c : ℕ) → is_clause_in c (watchers map ws to) ≡ true → link ws2 to c ≡ link ws to c
        kept c m =
            let watches_it : is_literal_in to (watched_by ws c) ≡ true = sym (stands.watched.exact.stands to c) ∙ m in
            let ne : c ≢ clause = λ e.
            (let w : is_literal_in to (watched_by ws clause) ≡
            true = subst (λ x. is_literal_in to (watched_by ws x) ≡ true) e watches_it in
            let z : true ≡ false = sym w ∙ other in cc) in
            ap (λ r. next_in r to) (watch_set.1 c ne) ∙ un.others to c watches_it to_from

    -- what is left of the walked list
    from_linked : IsChain (link ws2 from) (value_at map2 (literal_index from))
        (passed cursor map ws ++ rest cursor map ws)
    from_linked =
        subst (λ o. IsChain (link ws2 from) o (passed cursor map ws ++ rest cursor map ws))
        (sym (first.1 (literal_index from) (index_apart from to from_to)))
        (chain_same (link ws1 from) (link ws2 from) (value_at map1 (literal_index from))
        (passed cursor map ws ++ rest cursor map ws) kept un.linked)
      where
        outside : (c : ℕ) (front back : List ℕ) → IsDistinct nat_eq (front ++ clause ∷ back) →
            is_clause_in c (front ++ back) ≡ true → c ≢ clause
        outside c [] back d m = apart_back clause c [] back d m
        outside c (x ∷ front) back d m =
            go (nat_eq c x) refl m (outside c front back (distinct_tail x (front ++ clause ∷ back) d))
          where
            go : (b : Bool) → nat_eq c x ≡ b → (b || is_clause_in c (front ++ back)) ≡ true →
                (is_clause_in c (front ++ back) ≡ true → c ≢ clause) → c ≢ clause
            go true e k ih = apart_front clause c (x ∷ front) back d (rw e refl)
            go false e k ih = ih k

        kept : (c : ℕ) → is_clause_in c (passed cursor map ws ++ rest cursor map ws) ≡ true →
            link ws2 from c ≡ link ws1 from c
        kept c m = ap (λ r. next_in r from)
            (watch_set.1 c (outside c (passed cursor map ws) (rest cursor map ws) once m))

    -- every other list
    else_linked : (l : Lit) → same_literal l to ≡ false → same_literal l from ≡ false →
        IsChain (link ws2 l) (value_at map2 (literal_index l)) (watchers map ws l)
    else_linked l t f =
        subst (λ o. IsChain (link ws2 l) o (watchers map ws l))
        (sym (first.1 (literal_index l) (index_apart l to t) ∙ un.heads l f))
        (chain_same (link ws l) (link ws2 l) (value_at map (literal_index l))
        (watchers map ws l) (λ c m. kept c m (nat_eq c clause) refl) (stands.watched.linked l))
      where
        kept : (c : ℕ) → is_clause_in c (watchers map ws l) ≡ true → (b : Bool) → nat_eq c clause ≡ b →
            link ws2 l c ≡ link ws l c
        kept c m true e =
            let is = eqb-true c clause e in
            let watches_it : is_literal_in l (watched_by ws clause) ≡ true =
            subst (λ x. is_literal_in l (watched_by ws x) ≡ true) is (sym (stands.watched.exact.stands l c) ∙ m) in
            subst (λ x. link ws2 l x ≡ link ws l x) (sym is)
            (ap (λ r. next_in r l) at_clause ∙ record_watch_kept (index_of cursor) from
            (record_of ws clause) behind_it to l two_clause stands.within stands.watch watches_it f t)
        kept c m false e =
            ap (λ r. next_in r l) (watch_set.1 c (eqb-false c clause e))
            ∙ un.others l c (sym (stands.watched.exact.stands l c) ∙ m) f

    linked_after : (l : Lit) → IsChain (link ws2 l) (value_at map2 (literal_index l))
        (moved clause from to (watchers map ws) l)
    linked_after l = go (same_literal l to) refl (same_literal l from) refl
      where
        go : (t : Bool) → same_literal l to ≡ t → (f : Bool) → same_literal l from ≡ f →
            IsChain (link ws2 l) (value_at map2 (literal_index l))
            (cond t (clause ∷ watchers map ws l) (cond f (without clause (watchers map ws l)) (watchers map ws l)))
        go true e f h = subst (λ x. IsChain (link ws2 x) (value_at map2 (literal_index x))
            (clause ∷ watchers map ws x)) (sym (same_is l to e)) to_linked
        go false e true h =
            subst (λ x. IsChain (link ws2 x) (value_at map2 (literal_index x)) (without clause (watchers map ws x)))
            (sym (same_is l from h))
            (subst (IsChain (link ws2 from) (value_at map2 (literal_index from))) (sym is_without) from_linked)
        go false e false h = else_linked l e h

    pub lists_after : (l : Lit) → watchers map2 ws2 l ≡ moved clause from to (watchers map ws) l
    lists_after = lists_made map2 ws2 (moved clause from to (watchers map ws)) exact_after linked_after

    pub watched_after : AreWatched map2 ws2
    watched_after = record {
      exact = exact_same (watched_by ws2) (watched_by ws2) (moved clause from to (watchers map ws))
          (watchers map2 ws2) (λ c. refl) lists_after exact_after;
      links = λ c. links_after c (nat_eq c clause) refl;
      linked = λ l. subst (IsChain (link ws2 l) (value_at map2 (literal_index l))) (sym (lists_after l))
          (linked_after l);
    }

    pub left_after : watchers map2 ws2 from ≡ passed cursor map ws ++ rest cursor map ws
    left_after = lists_after from ∙ rw (from_to, same_self from) is_without

    pub moves : Moves cursor to map ws map2 ws2
    moves = record { watched = watched_after; lists = lists_after; walked = left_after; literals = literals_after }

    -- the position behind it
    rest_linked_after : IsChain (link ws2 from) (next_at (record_of ws clause) (index_of cursor)) (rest cursor map ws)
    rest_linked_after = chain_same (link ws from) (link ws2 from) (next_at (record_of ws clause) (index_of cursor))
        (rest cursor map ws) kept linked_rest
      where
        kept : (c : ℕ) → is_clause_in c (rest cursor map ws) ≡ true → link ws2 from c ≡ link ws from c
        kept c m =
            ap (λ r. next_in r from) (watch_set.1 c (apart_back clause c (passed cursor map ws)
            (rest cursor map ws) once m)) ∙ un.behind c m

    previous_after : (previous : Option WatchNode) → IsPrevious ws from previous (passed cursor map ws) →
        IsPrevious ws2 from previous (passed cursor map ws)
    previous_after None front = front
    previous_after (Some node) front =
        let ends : passed cursor map ws ≡ front.1.0 ++ node.clause_id ∷ [] = front.1.1 in
        let there : is_clause_in node.clause_id (passed cursor map ws) ≡ true =
        subst (λ xs. is_clause_in node.clause_id xs ≡ true) (sym ends) (in_middle node.clause_id front.1.0 []) in
        let ne : node.clause_id ≢ clause =
        apart_front clause node.clause_id (passed cursor map ws) (rest cursor map ws) once there in
        let same : watched_by ws2 node.clause_id ≡ watched_by ws node.clause_id = literals_after.1 node.clause_id ne in
        (record { within = rw same front.0.within; watch = rw same front.0.watch }, front.1)

    pub reached_after : IsReached from cursor.previous (next_at (record_of ws clause) (index_of cursor)) map2 ws2
        (passed cursor map ws) (rest cursor map ws)
    reached_after = record {
      list = left_after;
      known = previous_after cursor.previous stands.placed;
      linked = rest_linked_after;
    }
