-- The list of clauses over its map and its records: what its calls make of them.
use Rattle.std.proofs.Common.{◌≡◌, ℕ, Bool, true, false, not, List, [], ◌∷◌, ◌++◌, length, map}
use Rattle.std.proofs.Common.{set, Option, Some, None, refl, sym, ap, subst, ◌∙◌, arith, nat_eq}
use Rattle.std.proofs.Common.{◌+◌, ◌<◌, ◌≤◌, take, drop, get_or, length-append, Result, Ok, Err}
use Rattle.std.specs.Prelude.{◌&&◌, ◌||◌, ◌-◌, ◌^◌, if◌then◌else◌}
use Rattle.std.proofs.lemmas.List.Sums.{fold_more}
use Rattle.std.proofs.lemmas.List.Elements.{All-get_or, All-from_get_or}
use Rattle.std.proofs.Math.Seq.{take-append_seam}
use Rattle.std.proofs.lemmas.Bool.Decides.{nat_tests}
use Rattle.std.proofs.Math.Path.{fun_ext}
use Rattle.std.proofs.Math.ListN.{get_or-map}
use Rattle.std.proofs.lemmas.Bool.{eqb-true, eqb-false}
use Rattle.std.proofs.lemmas.List.{ext_get_or, get_or_default, length-map, length-set, map-append}
use Rattle.watch_map.proofs.Words.{All, are_ids_out, AreTwoOrNone, AreWatched, bit_watches, can_rewatch, Clause}
use Rattle.watch_map.proofs.Words.{clause_of, ClauseListState, Clauses, contents, ForbidMultipleInstances, HasRoom}
use Rattle.watch_map.proofs.Words.{HasRoomFor, HaveRoom, HaveRooms, helper_literal, IdSpace, IfErr, index_of, is_full}
use Rattle.watch_map.proofs.Words.{is_learnt_full, is_literal_in, IsClauseList, IsErrAnd, IsExact, IsGrowthRefusal}
use Rattle.watch_map.proofs.Words.{IsRewatched, IsTrue, IsUpdate, KeepsRoom, Lit, literal_of, literals_watched}
use Rattle.watch_map.proofs.Words.{may_rewatch, Moves, nat_lt, Neg, OnErr, OnOk, OutOfMemory, Pos, Position, rewatched}
use Rattle.watch_map.proofs.Words.{same_literal, SameLists, slice_get, StandsIn, started, Starts, StartsAtEnd}
use Rattle.watch_map.proofs.Words.{StoredLiterals, StoreError, two_or_none, UsesRoom, Values, watch_beside, watch_ends}
use Rattle.watch_map.proofs.Words.{watch_pair, watched_by, WatchedLiterals, watchers, Watches, WatchLists, with_clause}
use Rattle.watch_map.proofs.Words.{with_forbidden, with_forbidden_one, with_rewatched}
use Rattle.watch_map.specs.WatchLists.{literals_in}
use Rattle.watch_map.proofs.WatchingLaws.{exact_same}
use Rattle.watch_map.proofs.CallerLaws.{same_records_belong, new_clauses_join, records_skip, room_is_for_fewer}
use Rattle.watch_map.specs.ClauseList.{HasRoom as HasRoomOf, KeepsRoom as KeepsRoomOf}
use Rattle.watch_map.proofs.ListCallerLaws.{watched_at, set_watches, watching_within, rewatched_is}

-- the literals of a record are those that it watches
pub literals_are : (o : Option WatchedLiterals) → literals_in o ≡ two_or_none (literals_watched o)
literals_are None = refl
literals_are (Some w) = refl

-- what a clause watches, read from the literals of all records
pub literals_at : (ws : Watches) (c : ℕ) → watched_at (map literals_in ws) c ≡ watched_by ws c
literals_at ws c = get_or-map literals_in ws c None

-- two literals, or none, are what a learnt clause watches at first
two_of_pair : (l m : Lit) → AreTwoOrNone (two_or_none (watch_pair l m))
two_of_pair l m = by (same_literal l m) refl
  where
    by : (b : Bool) → same_literal l m ≡ b → AreTwoOrNone (two_or_none (if b then None else Some (l ∷ m ∷ [])))
    by true is = tt
    by false is = is

two_beside : (l : Lit) (o : Option Lit) → AreTwoOrNone (two_or_none (watch_beside l o))
two_beside l None = tt
two_beside l (Some m) = two_of_pair l m

pub two_of_ends : (ls : List Lit) → AreTwoOrNone (two_or_none (watch_ends ls))
two_of_ends [] = tt
two_of_ends (l ∷ ls) = two_beside l (slice_get (l ∷ ls) (length ls))

pub exact_here : (lists : WatchLists) (ws : Watches) → AreWatched lists ws →
    IsExact (watched_at (map literals_in ws)) (watchers lists ws)
exact_here lists ws watched =
    exact_same (watched_by ws) (watched_at (map literals_in ws)) (watchers lists ws) (watchers lists ws)
    (literals_at ws) (λ l. refl) watched.exact

-- ---- a new clause

pub nothing_starts : (lists : WatchLists) (clause : ℕ) → StartsAtEnd lists None clause lists
nothing_starts lists clause ws watched e = same_records_belong lists ws (ws ++ None ∷ []) (records_skip ws) watched

pub something_starts : (old new : WatchLists) (w : WatchedLiterals) (clause : ℕ) → Starts old w clause new →
    StartsAtEnd old (Some w) clause new
something_starts old new w clause starts ws watched = new_clauses_join old new ws w clause watched starts

-- ---- a moved watch, in the records

module _ (map map' : WatchLists) (ws ws' : Watches) (to : Lit) (at : Position) (input : AreWatched map ws)
    (stands : StandsIn at map ws) (as_many : length ws' ≡ length ws)
    (moves : Moves at to map ws map' ws') where
  moved_here : IsRewatched map ws (clause_of at) (literal_of at) to map' ws'
  moved_here = record {
    watched = moves.watched;
    lists = moves.lists;
    as_many = as_many;
    literals = subst (λ ls. IsUpdate (watched_by ws) (clause_of at) ls (watched_by ws'))
        (rewatched_is (watched_by ws (clause_of at)) (index_of at) (literal_of at) to
        (input.exact.two (clause_of at)) stands.within stands.watch) moves.literals;
  }

  pub rewatch_done : (clause : ℕ) (from : Lit) → clause_of at ≡ clause → literal_of at ≡ from →
      IsRewatched map ws clause from to map' ws'
  rewatch_done clause from is_clause is_literal =
      subst (λ i. IsRewatched map ws i from to map' ws') is_clause
      (subst (λ l. IsRewatched map ws (clause_of at) l to map' ws') is_literal moved_here)

-- a slice that kept its length stands in the place of all
pub whole : {X : Type 0} (n : ℕ) (xs ys : List X) → n ≡ length ys → length xs ≡ length ys →
    take n (xs ++ drop (length xs) ys) ≡ xs
whole n xs ys of_all as_many = ap (λ k. take k (xs ++ drop (length xs) ys)) (of_all ∙ sym as_many)
    ∙ take-append_seam xs (drop (length xs) ys)

first_holds : (a b : Bool) → (a && b) ≡ true → a ≡ true
first_holds true b h = refl
first_holds false b h = (let no : false ≡ true = h in cc)

rewatched_records : (ws ws' : Watches) (clause : ℕ) (from to : Lit) → may_rewatch ws clause from to ≡ true →
    length ws' ≡ length ws
    → IsUpdate (watched_by ws) clause (rewatched from to (watched_by ws clause)) (watched_by ws')
    → map literals_in ws' ≡ set (map literals_in ws) clause (rewatched from to (watched_at (map literals_in ws) clause))
rewatched_records ws ws' clause from to may as_many update =
    ext_get_or [] (map literals_in ws') (set (map literals_in ws) clause now)
    (length-map ws' literals_in ∙ as_many ∙ sym (length-map ws literals_in)
    ∙ sym (length-set (map literals_in ws) clause now)) (λ i h. at i)
  where
    now : List Lit
    now = rewatched from to (watched_at (map literals_in ws) clause)

    here : watched_at (map literals_in ws) clause ≡ watched_by ws clause
    here = literals_at ws clause

    watching : is_literal_in from (watched_at (map literals_in ws) clause) ≡ true
    watching = ap (is_literal_in from) here
        ∙ first_holds (is_literal_in from (watched_by ws clause)) (not (is_literal_in to (watched_by ws clause))) may

    written : IsUpdate (watched_at (map literals_in ws)) clause now (watched_at (set (map literals_in ws) clause now))
    written = set_watches (map literals_in ws) clause now (watching_within (map literals_in ws) clause from watching)

    at : (i : ℕ) → watched_at (map literals_in ws') i ≡ watched_at (set (map literals_in ws) clause now) i
    at i = go (nat_eq i clause) refl
      where
        go : (b : Bool) → nat_eq i clause ≡ b → watched_at (map literals_in ws') i
            ≡ watched_at (set (map literals_in ws) clause now) i
        go true e = rw (eqb-true i clause e) (literals_at ws' clause ∙ update.0 ∙ ap (rewatched from to) (sym here)
            ∙ sym written.0)
        go false e =
            let ne = eqb-false i clause e in
            literals_at ws' i ∙ update.1 i ne ∙ sym (literals_at ws i) ∙ sym (written.1 i ne)

module _ {N : Type 0} where
  -- what is seen of clauses, records, literals and lists
  abbrev pub contents_of : List (Clause N) → Watches → List (List Lit) → WatchLists → Clauses N
  contents_of cs ws learnt lists = record {
    clauses = cs;
    watches = map literals_in ws;
    learnt = learnt;
    watchers =
        watchers lists ws;
  }

  -- other lists that show the same
  pub same_contents : (cs : List (Clause N)) (ws : Watches) (learnt : List (List Lit)) (old new : WatchLists) →
      AreWatched old ws → SameLists old new
      → contents_of cs ws learnt new ≡ contents_of cs ws learnt old
  same_contents cs ws learnt old new watched same =
      ap (λ (f : Lit → List ℕ). record { clauses = cs; watches = map literals_in ws; learnt = learnt; watchers = f })
      (fun_ext (same ws watched).1)

  pub pushed_contents : (cs : List (Clause N)) (ws : Watches) (learnt : List (List Lit)) (old new : WatchLists)
      (clause : Clause N) (input made : Option WatchedLiterals)
      → AreWatched old ws → length cs ≡ length ws → literals_in made ≡ literals_in input →
      StartsAtEnd old made (length cs) new
      → contents_of (cs ++ clause ∷ []) (ws ++ made ∷ []) learnt new
      ≡ with_clause (contents_of cs ws learnt old) clause (literals_watched input)
  pushed_contents cs ws learnt old new clause input made watched as_many same starts =
      let literals : literals_in made ≡ two_or_none (literals_watched input) = same ∙ literals_are input in
      let f : List (List Lit) → (Lit → List ℕ) → Clauses N = λ watches lists.
      record { clauses = cs ++ clause ∷ []; watches = watches; learnt = learnt; watchers = lists } in
      let records : map literals_in (ws ++ made ∷ []) ≡ map literals_in ws ++ two_or_none
      (literals_watched input) ∷ [] =
      map-append literals_in ws (made ∷ []) ∙ ap (λ w. map literals_in ws ++ w ∷ []) literals in
      let lists : watchers new (ws ++ made ∷ []) ≡ started (length cs) (two_or_none (literals_watched input))
      (watchers old ws) =
      fun_ext (starts ws watched as_many).1 ∙ ap (λ w. started (length cs) w (watchers old ws)) literals in
      ap (λ watches. f watches (watchers new (ws ++ made ∷ []))) records
      ∙ ap (f (map literals_in ws ++ two_or_none (literals_watched input) ∷ [])) lists

  -- the same clauses and records, and lists that show the same
  pub seen_alike : (cs cs' : List (Clause N)) (ws ws' : Watches) (learnt : List (List Lit)) (old new : WatchLists) →
      AreWatched old ws
      → cs' ≡ cs → ws' ≡ ws → SameLists old new → contents_of cs' ws' learnt new ≡ contents_of cs ws learnt old
  seen_alike cs cs' ws ws' learnt old new watched same_clauses same_records same =
      ap (λ (c : List (Clause N)). contents_of c ws' learnt new) same_clauses
      ∙ ap (λ (r : Watches). contents_of cs r learnt new) same_records ∙ same_contents cs ws learnt old new watched same

  -- what a clause may watch in the place of one, by its record
  pub can_rewatch_is : (k : ClauseListState N) (clause : ℕ) (from to : Lit) →
      can_rewatch (contents k) clause from to ≡ may_rewatch k.records clause from to
  can_rewatch_is k clause from to =
      ap (λ ls. is_literal_in from ls && not (is_literal_in to ls)) (literals_at k.records clause)

  -- ---- a watch moved

  pub rewatched_contents : (cs : List (Clause N)) (ws ws' : Watches) (learnt : List (List Lit))
      (old new : WatchLists) (clause : ℕ) (from to : Lit)
      → may_rewatch ws clause from to ≡ true → IsRewatched old ws clause from to new ws'
      → contents_of cs ws' learnt new ≡ with_rewatched (contents_of cs ws learnt old) clause from to
  rewatched_contents cs ws ws' learnt old new clause from to may is =
      let f : List (List Lit) → (Lit → List ℕ) → Clauses N = λ watches lists. record {
        clauses = cs;
        watches =
            watches;
        learnt = learnt;
        watchers = lists;
      } in
      let now : List (List Lit) = set (map literals_in ws) clause
      (rewatched from to (watched_at (map literals_in ws) clause)) in
      ap (λ watches. f watches (watchers new ws')) (rewatched_records ws ws' clause from to may is.as_many is.literals)
      ∙ ap (f now) (fun_ext is.lists)

  -- ---- what stays true of the list

  -- other records and lists, for the same clauses
  pub still_list : (cs : List (Clause N)) (learnt : List (List Lit)) (ws ws' : Watches) (old new : WatchLists) →
      IsClauseList (contents_of cs ws learnt old)
      → length ws' ≡ length ws → AreWatched new ws' → IsClauseList (contents_of cs ws' learnt new)
  still_list cs learnt ws ws' old new is as_many watched = record {
    paired = length-map ws' literals_in ∙ as_many ∙ sym (length-map ws literals_in) ∙ is.paired;
    few = is.few;
    exact = exact_here new ws' watched;
  }

  -- the same clauses and records, and lists that show the same
  pub still_kept : (cs cs' : List (Clause N)) (learnt : List (List Lit)) (ws ws' : Watches) (old new : WatchLists)
      → IsClauseList (contents_of cs ws learnt old) → AreWatched old ws → cs' ≡ cs → ws' ≡ ws → SameLists old new
      → IsClauseList (contents_of cs' ws' learnt new) × AreWatched new ws'
  still_kept cs cs' learnt ws ws' old new is watched same_clauses same_records same =
      let now = (same ws watched).0 in
      subst (λ (c : List (Clause N)). IsClauseList (contents_of c ws' learnt new)
      × AreWatched new ws') (sym same_clauses)
      (subst (λ (r : Watches). IsClauseList (contents_of cs r learnt new) × AreWatched new r) (sym same_records)
      (still_list cs learnt ws ws old new is refl now, now))

  -- a clause more
  pub more_list : (cs : List (Clause N)) (learnt : List (List Lit)) (ws : Watches) (old new : WatchLists)
      (clause : Clause N) (made : Option WatchedLiterals)
      → IsClauseList (contents_of cs ws learnt old) → is_full (contents_of cs ws learnt old) ≡ false →
      AreWatched new (ws ++ made ∷ [])
      → IsClauseList (contents_of (cs ++ clause ∷ []) (ws ++ made ∷ []) learnt new)
  more_list cs learnt ws old new clause made is room watched = record {
    paired = length-map (ws ++ made ∷ []) literals_in ∙ length-append ws (made ∷ []) ∙
        ap (λ n. n + 1) (sym (length-map ws literals_in) ∙ is.paired) ∙ sym (length-append cs (clause ∷ []));
    few = (let old_few = is.few in grind (arith, nat_tests, room, old_few, length-append cs (clause ∷ [])));
    exact = exact_here new (ws ++ made ∷ []) watched;
  }

  -- as many records as clauses
  pub as_many_records : (cs : List (Clause N)) (learnt : List (List Lit)) (ws : Watches) (lists : WatchLists) →
      IsClauseList (contents_of cs ws learnt lists) → length cs ≡ length ws
  as_many_records cs learnt ws lists is = sym is.paired ∙ length-map ws literals_in

  -- ---- after a watch was to be moved

  pub after_rewatch : {T E : Type 0} (result : Result T E) (cs : List (Clause N)) (learnt : List (List Lit))
      (ws ws' : Watches) (old new : WatchLists) (clause : ℕ) (from to : Lit)
      → AreWatched old ws → IsClauseList (contents_of cs ws learnt old) →
      OnOk result (IsRewatched old ws clause from to new ws') → OnErr result (SameLists old new × (ws' ≡ ws))
      → IsClauseList (contents_of cs ws' learnt new) × AreWatched new ws'
  after_rewatch (Ok x) cs learnt ws ws' old new clause from to watched is ok err =
      (still_list cs learnt ws ws' old new is ok.as_many ok.watched, ok.watched)
  after_rewatch (Err e) cs learnt ws ws' old new clause from to watched is ok err =
      subst (λ rs. IsClauseList (contents_of cs rs learnt new) × AreWatched new rs) (sym err.1)
      (still_list cs learnt ws ws old new is refl (err.0 ws watched).0, (err.0 ws watched).0)

  pub ok_rewatch : {T E : Type 0} (result : Result T E) (cs : List (Clause N)) (learnt : List (List Lit))
      (ws ws' : Watches) (old new : WatchLists) (clause : ℕ) (from to : Lit)
      → OnOk result (IsRewatched old ws clause from to new ws') → OnOk result (IsTrue (may_rewatch ws clause from to))
      → OnOk result (contents_of cs ws' learnt new ≡ with_rewatched (contents_of cs ws learnt old) clause from to)
  ok_rewatch (Ok x) cs learnt ws ws' old new clause from to ok can =
      rewatched_contents cs ws ws' learnt old new clause from to can ok
  ok_rewatch (Err e) cs learnt ws ws' old new clause from to ok can = tt

  pub err_rewatch : {T E : Type 0} (result : Result T E) (cs : List (Clause N)) (learnt : List (List Lit))
      (ws ws' : Watches) (old new : WatchLists)
      → AreWatched old ws → OnErr result (SameLists old new × (ws' ≡ ws)) →
      OnErr result (contents_of cs ws' learnt new ≡ contents_of cs ws learnt old)
  err_rewatch (Ok x) cs learnt ws ws' old new watched err = tt
  err_rewatch (Err e) cs learnt ws ws' old new watched err =
      ap (λ rs. contents_of cs rs learnt new) err.1 ∙ same_contents cs ws learnt old new watched err.0

-- ---- ids that are left, and refusals

-- where no more clauses come than there are ids left, all of them have ids
pub ids_are_left : (many after count len : ℕ) → count ≤ (2 ^ 32 - 1) - len → len ≡ many → after ≡ many →
    many ≤ 2 ^ 32 - 1 → after + count ≤ 2 ^ 32 - 1
ids_are_left many after count len left is same few = omega arith

-- a refusal of a growth is one of a growth for which ids may be out elsewhere
refused_too : (more out : Bool) (e : StoreError) → IsGrowthRefusal out e → IsGrowthRefusal (more || out) e
refused_too false out e refused = refused
refused_too true out OutOfMemory refused = tt
refused_too true out IdSpace refused = refl
refused_too true out _ refused = absurd refused

-- a refusal of the literals of a learnt clause is handed on
pub learnt_refused : {N T : Type 0} (r : Result T StoreError) (cs : Clauses N) (count : ℕ) (e : StoreError) →
    count ≡ length cs.learnt
    → IsGrowthRefusal (are_ids_out (2 ^ 32) count) e → IsErrAnd r (λ f. f ≡ e) →
    IfErr r (IsGrowthRefusal (is_learnt_full cs))
learnt_refused (Ok x) cs count e as_many refused is = tt
learnt_refused (Err f) cs count e as_many refused is =
    subst (IsGrowthRefusal (is_learnt_full cs)) (sym is)
    (refused_too (is_full cs) (are_ids_out (2 ^ 32) (length cs.learnt)) e
    (subst (λ n. IsGrowthRefusal (are_ids_out (2 ^ 32) n) e) as_many refused))

-- ---- room for clauses of helpers

-- room for one more addition is used by one
pub room_used : (literals : List Lit) (old new : WatchLists) (l : Lit) (n : ℕ) → UsesRoom literals old new →
    HasRoom old l (n + 1) → HasRoom new l n
room_used literals old new l n uses room = uses l n (by (is_literal_in l literals))
  where
    by : (b : Bool) → HasRoom old l (if b then n + 1 else n)
    by true = room
    by false = room_is_for_fewer old l (n + 1) n (omega arith) room

pub literal_of_sign : (h : ℕ) (sign : Bool) → (if not sign then Neg h else Pos h) ≡ (if sign then Pos h else Neg h)
literal_of_sign h true = refl
literal_of_sign h false = refl

-- what a clause of two literals watches follows from these alone
abbrev pub no_literals : StoredLiterals
no_literals = record { learnt = []; lists = λ r. []; disjunctions = [] }

abbrev pub no_values : Values
no_values v = None

module _ {N : Type 0} where
  -- the same clauses, with the same room or more
  pub room_stays : (old new : ClauseListState N) → new.clauses ≡ old.clauses → old.clause_room ≤ new.clause_room →
      old.record_room ≤ new.record_room
      → KeepsRoom old.lists new.lists → KeepsRoomOf old new
  room_stays old new same more_clauses more_records keeps = record {
    one = λ watched room. record {
      id = ap (λ cs. are_ids_out (2 ^ 32 - 1) (length cs)) same ∙ room.id;
      clause = (let there = room.clause in let as_many = ap length same in omega (arith, there, as_many, more_clauses));
      watch = (let there = room.watch in let as_many = ap length same in omega (arith, there, as_many, more_records));
      lists = λ l among. keeps l 1 (room.lists l among);
    };
    many = λ count bits room. record {
      ids = ap (λ cs. nat_lt (2 ^ 32 - 1) (length cs + count)) same ∙ room.ids;
      clauses = (let there = room.clauses in let as_many = ap length same in
          omega (arith, there, as_many, more_clauses));
      records = (let there = room.records in let as_many = ap length same in
          omega (arith, there, as_many, more_records));
      lists = All-from_get_or (λ (bit : ℕ × ℕ × Bool). HaveRooms new.lists count (two_or_none (bit_watches bit)))
          bits (0, 0, false) (λ i within l among.
          keeps l count (All-get_or (λ (bit : ℕ × ℕ × Bool). HaveRooms old.lists count (two_or_none (bit_watches bit)))
          bits i (0, 0, false) within room.lists l among));
    };
  }

  pub room_after : (count : ℕ) (bits : List (ℕ × ℕ × Bool)) (old new : ClauseListState N) (literals : List Lit) →
      length new.clauses ≡ length old.clauses + 1
      → new.clause_room ≡ old.clause_room → new.record_room ≡ old.record_room → UsesRoom literals old.lists new.lists
      → HasRoomFor (count + 1) bits old → HasRoomFor count bits new
  room_after count bits old new literals more same_clauses same_records uses room = record {
    ids = (let ids = room.ids in grind (arith, nat_tests, ids, more));
    clauses = (let there = room.clauses in omega (arith, there, more, same_clauses));
    records = (let there = room.records in omega (arith, there, more, same_records));
    lists = All-from_get_or (λ (bit : ℕ × ℕ × Bool). HaveRooms new.lists count (two_or_none (bit_watches bit))) bits
        (0, 0, false) (λ i within l among.
        room_used literals old.lists new.lists l count uses
        (All-get_or (λ (bit : ℕ × ℕ × Bool). HaveRooms old.lists (count + 1) (two_or_none (bit_watches bit))) bits i
        (0, 0, false) within room.lists l among));
  }

  -- ids, room in both vectors and room in the lists are room
  pub room_is_made : {T E : Type 0} (result : Result T E) (old new : ClauseListState N) (watched : List Lit) →
      is_full (contents old) ≡ false
      → new.clauses ≡ old.clauses → length new.records ≡ length new.clauses → length new.clauses + 1 ≤ new.clause_room
      → length new.records + 1 ≤ new.record_room → OnOk result (HaveRoom new.lists watched) →
      OnOk result (HasRoomOf new watched)
  room_is_made (Err e) old new watched ids same as_many clauses records lists = tt
  room_is_made (Ok x) old new watched ids same as_many clauses records lists = record {
    id = ap (λ cs. are_ids_out (2 ^ 32 - 1) (length cs)) same ∙ ids;
    clause = omega (arith, clauses);
    watch = omega (arith, records, as_many);
    lists = lists;
  }

  pub rooms_are_made : {T E : Type 0} (result : Result T E) (new : ClauseListState N) (count : ℕ)
      (bits : List (ℕ × ℕ × Bool))
      → length new.clauses + count ≤ 2 ^ 32 - 1 → length new.records ≡ length new.clauses →
      length new.clauses + count ≤ new.clause_room
      → length new.records + count ≤ new.record_room →
      OnOk result (All (λ bit. HaveRooms new.lists count (two_or_none (bit_watches bit))) bits)
      → OnOk result (HasRoomFor count bits new)
  rooms_are_made (Err e) new count bits few as_many clauses records lists = tt
  rooms_are_made (Ok x) new count bits few as_many clauses records lists = record {
    ids = grind (arith, nat_tests, few);
    clauses = clauses;
    records = omega (arith, records, as_many);
    lists = lists;
  }

  -- room for some, of which this is one, is room for it
  pub room_for_one : (count : ℕ) (bits : List (ℕ × ℕ × Bool)) (kept : ClauseListState N) (i : ℕ) → 0 < count →
      i < length bits → HasRoomFor count bits kept
      → HasRoomOf kept (two_or_none (bit_watches (get_or bits i (0, 0, false))))
  room_for_one count bits kept i some within room = record {
    id = (let ids = room.ids in grind (arith, nat_tests, ids, some));
    clause = (let there = room.clauses in omega (arith, there, some));
    watch = (let there = room.records in omega (arith, there, some));
    lists = λ l among. room_is_for_fewer kept.lists l count 1 (omega (arith, some))
        (All-get_or (λ (bit : ℕ × ℕ × Bool). HaveRooms kept.lists count (two_or_none (bit_watches bit))) bits i
        (0, 0, false) within room.lists l among);
  }

  pub room_for_item : (count : ℕ) (bits : List (ℕ × ℕ × Bool)) (kept : ClauseListState N) (i : ℕ) (bit : ℕ × ℕ × Bool)
      (watched : Option (List Lit)) → 0 < count → i < length bits
      → bit ≡ get_or bits i bit → watched ≡ bit_watches bit → HasRoomFor count bits kept →
      HasRoomOf kept (two_or_none watched)
  room_for_item count bits kept i bit watched some within is watches room =
      subst (λ w. HasRoomOf kept (two_or_none w)) (sym watches)
      (subst (λ b. HasRoomOf kept (two_or_none (bit_watches b)))
      (get_or_default bits i (0, 0, false) bit within ∙ sym is) (room_for_one count bits kept i some within room))

  -- the loop over the clauses goes on by the next one
  pub one_forbidden_more : (name : N) (start now next : Clauses N) (bits : List (ℕ × ℕ × Bool)) (i : ℕ)
      (bit : ℕ × ℕ × Bool) (clause : Clause N) (watched : Option (List Lit))
      → i < length bits → bit ≡ get_or bits i bit →
      clause ≡ ForbidMultipleInstances bit.0 (helper_literal bit) name → watched ≡ bit_watches bit
      → now ≡ with_forbidden name start (take i bits) → next ≡ with_clause now clause watched →
      next ≡ with_forbidden name start (take (i + 1) bits)
  one_forbidden_more name start now next bits i bit clause watched within is is_clause is_watched so_far added =
      added ∙ ap (λ c. with_clause now c watched) is_clause
      ∙ ap (with_clause now (ForbidMultipleInstances bit.0 (helper_literal bit) name)) is_watched
      ∙ ap (λ cs. with_forbidden_one name cs bit) so_far
      ∙ ap (with_forbidden_one name (with_forbidden name start (take i bits))) is
      ∙ sym (fold_more (with_forbidden_one name) start bits i bit within)
