-- A walk over the clauses that watch a literal: what each of its steps leaves.
use Rattle.std.proofs.Common.{◌≡◌, ℕ, ◌<◌, true, nat_eq, List, [], ◌∷◌, ◌++◌, length, slice_index_or, Option, Some}
use Rattle.std.proofs.Common.{None, refl, sym, ap, subst, ◌∙◌, arith}
use Rattle.std.proofs.lemmas.List.{append_assoc}
use Rattle.watch_map.proofs.Words.{AreWatched, AreWatchesSatisfiedBut, behind, clause_of, ForSome, has_true_beside}
use Rattle.watch_map.proofs.Words.{HasImplied, index_of, is_clause_in, is_false_literal, is_literal_in, IsChain}
use Rattle.watch_map.proofs.Words.{IsCursorAt, IsDistinct, IsNode, IsPrevious, IsReached, IsRearranged, IsWatching}
use Rattle.watch_map.proofs.Words.{KeepWatchesSatisfied, link, Lit, literal_of, MayWatch, Moves, next_at, option_map}
use Rattle.watch_map.proofs.Words.{passed, Position, record_of, rest, StandsIn, Trail, val, watched_by, watchers}
use Rattle.watch_map.proofs.Words.{Watches, WatchLists, WatchNode}
use Rattle.watch_map.proofs.CursorLaws.{reached_cursor}
use Rattle.watch_map.proofs.MoveLaws.{reached_past}
use Rattle.watch_map.proofs.WatchingLaws.{parts}
use Rattle.watch_map.proofs.ChainLaws.{in_middle}
use Rattle.watch_map.proofs.LiteralLists.{read_in}
use Rattle.watch_map.proofs.ValueLaws.{extends_on, false_kept}
use Rattle.watch_map.proofs.ImplicationLaws.{forced_then, forced_extends}
use Rattle.watch_map.proofs.SatisfiedLaws.{met_but_kept, met_but_next, moved_own, moved_as_many, moved_met}
use Rattle.watch_map.proofs.SatisfiedLaws.{moved_met_but}

-- a cursor stands in the list of the literal, where there is one
pub record IsAt (l : Lit) (map : WatchLists) (watches : Watches) (at : Position) : Type 0 where
  pub stands : StandsIn at map watches
  pub literal_is : literal_of at ≡ l

-- the clause of a node
abbrev pub clause_in : Option WatchNode → Option ℕ
clause_in = option_map (λ n. n.clause_id)

-- the clauses of a list behind a clause, all if there is none
abbrev pub ahead_of : Option ℕ → List ℕ → List ℕ
ahead_of None list = list
ahead_of (Some clause) list = behind clause list

pub ahead_is : (map : WatchLists) (ws : Watches) (l : Lit) (previous : Option WatchNode) (next : Option ℕ)
    (front ahead : List ℕ)
    → AreWatched map ws → IsReached l previous next map ws front ahead
    → ahead_of (clause_in previous) (watchers map ws l) ≡ ahead
ahead_is map ws l None next front ahead watched reached = reached.list ∙ ap (λ xs. xs ++ ahead) reached.known
ahead_is map ws l (Some node) next front ahead watched reached =
    let whole : watchers map ws l ≡ reached.known.1.0 ++ node.clause_id ∷ ahead =
    reached.list ∙ ap (λ xs. xs ++ ahead) reached.known.1.1
    ∙ append_assoc reached.known.1.0 (node.clause_id ∷ []) ahead in
    ap (behind node.clause_id) whole
    ∙ (parts node.clause_id reached.known.1.0 ahead (subst (IsDistinct nat_eq) whole (watched.exact.once l))).1

-- where a walk is, behind some clauses, of which `previous` is the last
pub record IsBehind (l : Lit) (previous : Option ℕ) (next : Option ℕ) (map : WatchLists)
    (watches : Watches) : Type 0 where
  pub node : Option WatchNode
  pub clause : clause_in node ≡ previous
  pub front : List ℕ
  pub reached : IsReached l node next map watches front (ahead_of previous (watchers map watches l))

pub behind_from : (map : WatchLists) (ws : Watches) (l : Lit) (node : Option WatchNode) (previous next : Option ℕ)
    (front ahead : List ℕ)
    → AreWatched map ws → clause_in node ≡ previous → IsReached l node next map ws front ahead →
    IsBehind l previous next map ws
behind_from map ws l node previous next front ahead watched clause reached = record {
  node = node;
  clause = clause;
  front = front;
  reached = subst (λ xs. IsReached l node next map ws front xs)
      (sym (ahead_is map ws l node next front ahead watched reached)
      ∙ ap (λ o. ahead_of o (watchers map ws l)) clause) reached;
}

-- a node in the list of the clause in front, if there is one
pub record IsNodeOf (ws : Watches) (l : Lit) (previous : Option ℕ) (node : Option WatchNode) : Type 0 where
  pub clause : clause_in node ≡ previous
  pub is_node : ForSome node (IsNode ws l)

-- whatever node it is, the walk is behind it
pub reached_by : (map : WatchLists) (ws : Watches) (l : Lit) (previous next : Option ℕ)
    (b : IsBehind l previous next map ws)
    (node : Option WatchNode) → IsNodeOf ws l previous node
    → IsReached l node next map ws b.front (ahead_of previous (watchers map ws l))
reached_by map ws l previous next b node is = record {
  list = b.reached.list;
  known = known b.node node (b.clause ∙ sym is.clause) b.reached.known is.is_node;
  linked = b.reached.linked;
}
  where
    known : (a b' : Option WatchNode) → clause_in a ≡ clause_in b' → IsPrevious ws l a b.front →
        ForSome b' (IsNode ws l)
        → IsPrevious ws l b' b.front
    known None None e k n = k
    known (Some a) (Some b') e k n =
        let j : a.clause_id ≡ b'.clause_id = cc in (n b' refl, (k.1.0, k.1.1 ∙ ap (λ c. k.1.0 ++ c ∷ []) j))
    known None (Some b') e k n = absurd (let z : None ≡ Some b'.clause_id = e in cc)
    known (Some a) None e k n = absurd (let z : Some a.clause_id ≡ None = e in cc)

-- the node that is known is one
pub known_node : (map : WatchLists) (ws : Watches) (l : Lit) (previous next : Option ℕ)
    (b : IsBehind l previous next map ws)
    → IsNodeOf ws l previous b.node
known_node map ws l previous next b = record { clause = b.clause; is_node = go b.node b.reached.known }
  where
    go : (node : Option WatchNode) → IsPrevious ws l node b.front → ForSome node (IsNode ws l)
    go None k n e = absurd (let z : None ≡ Some n = e in cc)
    go (Some node) k n e = subst (IsNode ws l) (let j : node ≡ n = cc in j) k.0

-- the clause in front, if there is one, watches the literal
pub previous_watches : (map : WatchLists) (ws : Watches) (l : Lit) (previous next : Option ℕ) → AreWatched map ws
    → IsBehind l previous next map ws → ForSome previous (λ c. is_literal_in l (watched_by ws c) ≡ true)
previous_watches map ws l previous next watched is_behind c e =
    sym (watched.exact.stands l c) ∙ subst (λ xs. is_clause_in c xs ≡ true) (sym is_behind.reached.list)
    (in_front is_behind.node (is_behind.clause ∙ e) is_behind.reached.known)
  where
    ahead : List ℕ
    ahead = ahead_of previous (watchers map ws l)

    in_front : (node : Option WatchNode) → clause_in node ≡ Some c → IsPrevious ws l node is_behind.front
        → is_clause_in c (is_behind.front ++ ahead) ≡ true
    in_front None i k = absurd (let z : None ≡ Some c = i in cc)
    in_front (Some node) i k =
        let j : node.clause_id ≡ c = cc in
        subst (λ xs. is_clause_in c xs ≡ true)
        (sym (append_assoc k.1.0 (c ∷ []) ahead) ∙ ap (λ xs. xs ++ ahead) (ap (λ x. k.1.0 ++ x ∷ []) (sym j)
        ∙ sym k.1.1))
        (in_middle c k.1.0 ahead)

-- the place at which it is then
pub record IsPlace (l : Lit) (previous : Option ℕ) (map : WatchLists) (watches : Watches)
    (place : Position) : Type 0 where
  pub at : IsAt l map watches place
  pub ahead : clause_of place ∷ rest place map watches ≡ ahead_of previous (watchers map watches l)

pub placed_at : (map : WatchLists) (ws : Watches) (l : Lit) (previous next : Option ℕ) → AreWatched map ws
    → (b : IsBehind l previous next map ws) → (node : Option WatchNode) → IsNodeOf ws l previous node
    → (c : ℕ) → next ≡ Some c → (current : WatchNode) → current.clause_id ≡ c
    → current.watch_index < length (watched_by ws c) → slice_index_or (watched_by ws c) current.watch_index l ≡ l
    → IsPlace l previous map ws (record { literal = l; previous = node; current = current })
placed_at map ws l previous next watched b node is c e current e_node within watch =
    let place : Position = record { literal = l; previous = node; current = current } in
    let is_node : IsNode ws l current = record {
      within = subst (λ x. current.watch_index < length (watched_by ws x)) (sym e_node) within;
      watch = subst (λ x. slice_index_or (watched_by ws x) current.watch_index l ≡ l) (sym e_node) watch;
    } in
    let at = reached_cursor map ws watched l node next b.front (ahead_of previous (watchers map ws l))
    (reached_by map ws l previous next b node is) (Some place)
    (subst (λ o. IsCursorAt ws l node o (Some place)) (sym e) (refl, refl, e_node, is_node)) in
    record { at = record { stands = at.1.stands; literal_is = at.1.literal_is }; ahead = at.0 }

-- past a clause
pub behind_past : (map : WatchLists) (ws : Watches) (place : Position) (next : Option ℕ) → StandsIn place map ws
    → next ≡ next_at (record_of ws (clause_of place)) (index_of place)
    → IsBehind (literal_of place) (Some (clause_of place)) next map ws
behind_past map ws place next stands e =
    let front = passed place map ws ++ clause_of place ∷ [] in
    behind_from map ws (literal_of place) (Some place.current) (Some (clause_of place)) next front
    (rest place map ws) stands.watched refl
    (subst (λ o. IsReached (literal_of place) (Some place.current) o map ws front (rest place map ws)) (sym e)
    (reached_past place map ws stands))

-- where there is no next clause
pub nothing_ahead : (map : WatchLists) (ws : Watches) (l : Lit) (previous next : Option ℕ)
    → IsBehind l previous next map ws → next ≡ None → ahead_of previous (watchers map ws l) ≡ []
nothing_ahead map ws l previous next is_behind e =
    go (ahead_of previous (watchers map ws l))
    (subst (λ o. IsChain (link ws l) o (ahead_of previous (watchers map ws l))) e is_behind.reached.linked)
  where
    go : (xs : List ℕ) → IsChain (link ws l) None xs → xs ≡ []
    go [] h = refl
    go (x ∷ xs) h = absurd (let z : None ≡ Some x = h.0 in cc)

pub smaller_by : (c : ℕ) (rest ahead : List ℕ) → c ∷ rest ≡ ahead → length rest < length ahead
smaller_by c rest ahead e = subst (λ xs. length rest < length xs) e (omega arith)

-- what is true since a walk of `l` began, with the trail `t` and the watches `w`; those `ahead` are yet to be visited
pub record IsWalked (literals : ℕ → List Lit) (level : ℕ) (l : Lit) (t : Trail) (w : ℕ → List Lit) (map : WatchLists)
    (watches : Watches) (t' : Trail) (ahead : List ℕ) : Type 0 where
  pub watched : AreWatched map watches
  pub rearranged : IsRearranged literals w (watched_by watches)
  pub implied : HasImplied literals level t t'
  pub kept : KeepWatchesSatisfied (val t.entries) w (watched_by watches)
  pub ahead_met : AreWatchesSatisfiedBut ahead l (val t'.entries) (watched_by watches)

module _ (literals : ℕ → List Lit) (level : ℕ) (l : Lit) (t : Trail) (w : ℕ → List Lit) where
  -- entries more
  pub walked_more : (map : WatchLists) (watches : Watches) (t' t'' : Trail) (ahead : List ℕ)
      → HasImplied literals level t' t'' → IsWalked literals level l t w map watches t' ahead
      → IsWalked literals level l t w map watches t'' ahead
  walked_more map watches t' t'' ahead f walked =
      let ex = forced_extends literals level t' t'' f in
      record {
        watched = walked.watched;
        rearranged = walked.rearranged;
        implied = forced_then literals level t t' t'' walked.implied f;
        kept = walked.kept;
        ahead_met = met_but_kept ahead l (val t'.entries) (val t''.entries) (watched_by watches) ex walked.ahead_met;
      }

  -- past a clause that is met
  pub walked_next : (map : WatchLists) (watches : Watches) (t' : Trail) (c : ℕ) (rest : List ℕ)
      → has_true_beside (val t'.entries) (watched_by watches c) l ≡ true
      → IsWalked literals level l t w map watches t' (c ∷ rest) → IsWalked literals level l t w map watches t' rest
  walked_next map watches t' c rest here walked = record {
    watched = walked.watched;
    rearranged = walked.rearranged;
    implied = walked.implied;
    kept = walked.kept;
    ahead_met = met_but_next c rest l (val t'.entries) (watched_by watches) here walked.ahead_met;
  }

  -- where a clause watches another literal in the place of this one
  pub walked_moved : (map map' : WatchLists) (watches watches' : Watches) (t' : Trail) (cursor : Position) (to : Lit)
      → IsAt l map watches cursor → is_false_literal (val t'.entries) l ≡ true
      → MayWatch (val t'.entries) (literals (clause_of cursor)) (watched_by watches (clause_of cursor)) to
      → Moves cursor to map watches map' watches'
      → IsWalked literals level l t w map watches t' (clause_of cursor ∷ rest cursor map watches)
      → IsWalked literals level l t w map' watches' t' (rest cursor map watches)
  walked_moved map map' watches watches' t' cursor to at l_false may moves walked =
      let c = clause_of cursor in
      let index = index_of cursor in
      let before = watched_by watches in
      let after = watched_by watches' in
      let now = val t'.entries in
      let two = walked.watched.exact.two in
      let within = at.stands.within in
      let read : slice_index_or (before c) index l ≡ l =
      subst (λ x. slice_index_or (before c) index x ≡ x) at.literal_is at.stands.watch in
      let here = read_in (before c) index l within read in
      record {
        watched = moves.watched;
        rearranged = record {
          own = moved_own before after c index l to two within read may.unwatched moves.literals literals
              may.own walked.rearranged.own;
          as_many = λ d. moved_as_many before after c index l to two within read may.unwatched moves.literals d
              ∙ walked.rearranged.as_many d;
        };
        implied = walked.implied;
        kept = λ past seen ex ex_seen satisfied.
            let grown = forced_extends literals level t t' walked.implied in
            moved_met before after c index l to two within read may.unwatched moves.literals now l_false may.not_false
            past seen (extends_on past (val t.entries) now ex grown) (extends_on seen (val t.entries) now ex_seen grown)
            here (walked.kept past seen ex ex_seen satisfied);
        ahead_met = moved_met_but before after c index l to two within read may.unwatched moves.literals now l_false
            may.not_false (rest cursor map watches) walked.ahead_met;
      }

  -- the literal that is walked stays false
  pub walked_false : (map : WatchLists) (watches : Watches) (t' : Trail) (ahead : List ℕ)
      → is_false_literal (val t.entries) l ≡ true → IsWalked literals level l t w map watches t' ahead
      → is_false_literal (val t'.entries) l ≡ true
  walked_false map watches t' ahead f walked =
      false_kept (val t.entries) (val t'.entries) (forced_extends literals level t t' walked.implied) l f

  -- the clause at a cursor, to be visited
  pub walked_watching : (map : WatchLists) (watches : Watches) (t' : Trail) (ahead : List ℕ) (c : ℕ)
      → IsWalked literals level l t w map watches t' ahead → IsWatching (literals c) (watched_by watches c)
  walked_watching map watches t' ahead c walked = record
      { two = walked.watched.exact.two c; own = walked.rearranged.own c }
