-- A new map, room in it, and a clause that starts to watch.
use Rattle.std.proofs.Common.{◌≡◌, ◌≢◌, ℕ, zero, suc, ◌<◌, ◌≤◌, ◌+◌, Bool, true, false, ◌||◌, cond, nat_eq, List}
use Rattle.std.proofs.Common.{[], ◌∷◌, Option, Some, None, length, slice_index_or, sym, ap, refl, subst, ◌∙◌, arith}
use Rattle.std.specs.Prelude.{Result, Ok, Err}
use Rattle.std.proofs.lemmas.Bool.{eqb-false, eqb-true}
use Rattle.watch_map.proofs.Words.{AreEmpty, AreTwo, AreWatched, chain, HasRoom, HasTwoLinks, is_clause_in}
use Rattle.watch_map.proofs.Words.{is_literal_in, IsChain, IsDistinct, IsExact, IsUpdate, KeepsRoom, link, Lit}
use Rattle.watch_map.proofs.Words.{literal_index, max, next_in, OnErr, OnOk, record_of, same_literal, SameLists}
use Rattle.watch_map.proofs.Words.{SameValues, started, Starts, StoreError, UsesRoom, value_at, watched_by}
use Rattle.watch_map.proofs.Words.{WatchedLiterals, watchers, Watches, WatchLists}
use Rattle.watch_map.specs.WatchLists.{literals_in}
use Rattle.watch_map.proofs.WatchingLaws.{same_is, same_self, same_swap, exact_same, started_exact}
use Rattle.watch_map.proofs.ChainLaws.{chain_same}
use Rattle.watch_map.proofs.LinkLaws.{lists_made}
use Rattle.watch_map.proofs.MoveLaws.{index_apart}

-- ---- room

pub room_by_length : (old new : WatchLists) (l : Lit) (n k : ℕ) → length old ≤ length new → HasRoom old l n →
    HasRoom new l k
unfolding HasRoom
room_by_length old new l n k longer room = omega (arith, longer, room)

pub room_here : (map : WatchLists) (l : Lit) (n : ℕ) → literal_index l < length map → HasRoom map l n
unfolding HasRoom
room_here map l n within = within

-- a literal with a clause has a slot
pub slot_of_first : (map : WatchLists) (l : Lit) (c n : ℕ) → value_at map (literal_index l) ≡ Some c → HasRoom map l n
unfolding HasRoom
slot_of_first map l c n first = go map (literal_index l) first
  where
    go : (xs : List (Option ℕ)) (i : ℕ) → value_at xs i ≡ Some c → i < length xs
    go [] i e = absurd (cc)
    go (x ∷ xs) zero e = omega arith
    go (x ∷ xs) (suc i) e = let h = go xs i e in omega arith

-- ---- the same first clauses

same_list : (old new : WatchLists) → SameValues (value_at old) (value_at new) → (watches : Watches) (l : Lit) →
    watchers new watches l ≡ watchers old watches l
unfolding watchers
same_list old new same watches l = ap (chain (length watches) (link watches l)) (same (literal_index l))

pub same_lists : (old new : WatchLists) → SameValues (value_at old) (value_at new) → SameLists old new
same_lists old new same watches watched = (
  record {
    exact = exact_same (watched_by watches) (watched_by watches) (watchers old watches) (watchers new watches)
        (λ c. refl) lists watched.exact;
    links = watched.links;
    linked = λ l. rw (lists l, same (literal_index l)) (watched.linked l);
  },
  lists,
)
  where
    lists : (l : Lit) → watchers new watches l ≡ watchers old watches l
    lists = same_list old new same watches

-- ---- none

nothing : (n : ℕ) (next : ℕ → Option ℕ) → chain n next None ≡ []
nothing zero next = refl
nothing (suc n) next = refl

pub empty_lists : (map : WatchLists) → AreEmpty map → (watches : Watches) (l : Lit) → watchers map watches l ≡ []
unfolding watchers
empty_lists map empty watches l = ap (chain (length watches) (link watches l)) (empty (literal_index l))
    ∙ nothing (length watches) (link watches l)

pub empty_watched : (map : WatchLists) → AreEmpty map → AreWatched map []
unfolding IsDistinct
empty_watched map empty = record {
  exact = record {
    two = λ c. tt;
    once = λ l. rw (empty_lists map empty [] l) tt;
    stands = λ l c. rw (empty_lists map empty [] l) refl;
  };
  links = λ c. tt;
  linked = λ l. rw (empty_lists map empty [] l) (empty (literal_index l));
}

-- ---- a clause that starts to watch

pub are_apart : (ls : List Lit) → AreTwo ls → (d e : Lit) →
    same_literal (slice_index_or ls 0 d) (slice_index_or ls 1 e) ≡ false
are_apart [] two d e = absurd two
are_apart (a ∷ []) two d e = absurd two
are_apart (a ∷ b ∷ []) two d e = two
are_apart (a ∷ b ∷ c ∷ ls) two d e = absurd two

module _ (clause : ℕ) (a b : Lit) (two : same_literal a b ≡ false) (r2 r3 : WatchLists) (room2 : HasRoom r2 b 1)
    (slots3 : length r3 ≡ length r2) where
  pub room_b : HasRoom r3 b 1
  room_b = room_by_length r2 r3 b 1 1 (omega (arith, slots3)) room2

  module _ (first_a : IsUpdate (value_at r2) (literal_index a) (Some clause) (value_at r3)) (r4 : WatchLists)
      (first_b : IsUpdate (value_at r3) (literal_index b) (Some clause) (value_at r4)) (slots4 : length r4 ≡ length r3)
      (x y : Option ℕ) (x_is : x ≡ value_at r2 (literal_index a)) (y_is : y ≡ value_at r3 (literal_index b)) where
    abbrev made : WatchedLiterals
    made = record { watched_literals = a ∷ b ∷ []; next_watches = x ∷ y ∷ [] }

    b_a : same_literal b a ≡ false
    b_a = same_swap b a ∙ two

    module _ (before after : Watches) (watched2 : AreWatched r2 before) (none : watched_by before clause ≡ [])
        (update : IsUpdate (record_of before) clause (Some made) (record_of after)) where
      kept : (l : Lit) (c : ℕ) → is_clause_in c (watchers r2 before l) ≡ true → link after l c ≡ link before l c
      kept l c m = ap (λ r. next_in r l) (update.1 c ne)
        where
          ne : c ≢ clause
          ne e =
              let i : is_literal_in l (watched_by before clause) ≡ true =
              subst (λ z. is_literal_in l (watched_by before z) ≡ true) e (sym (watched2.exact.stands l c) ∙ m) in
              let z : false ≡ true = subst (λ ls. is_literal_in l ls ≡ true) none i in cc

      behind : (l : Lit) → value_at r4 (literal_index l) ≡ Some clause →
          link after l clause ≡ value_at r2 (literal_index l) →
          IsChain (link after l) (value_at r4 (literal_index l)) (clause ∷ watchers r2 before l)
      behind l first next = (
        first,
        subst (λ o. IsChain (link after l) o (watchers r2 before l)) (sym next)
            (chain_same (link before l) (link after l) (value_at r2 (literal_index l)) (watchers r2 before l)
            (kept l) (watched2.linked l)),
      )

      linked : (l : Lit) → IsChain (link after l) (value_at r4 (literal_index l))
          (started clause (a ∷ b ∷ []) (watchers r2 before) l)
      linked l = go (same_literal l a) refl (same_literal l b) refl
        where
          go : (s : Bool) → same_literal l a ≡ s → (t : Bool) → same_literal l b ≡ t →
              IsChain (link after l) (value_at r4 (literal_index l)) (cond (s || (t || false))
              (clause ∷ watchers r2 before l) (watchers r2 before l))
          go true e t h =
              subst (λ z. IsChain (link after z) (value_at r4 (literal_index z)) (clause ∷ watchers r2 before z))
              (sym (same_is l a e))
              (behind a (first_b.1 (literal_index a) (index_apart a b two)
              ∙ first_a.0) (ap (λ r. next_in r a) update.0 ∙ rw (same_self a) x_is))
          go false e true h =
              subst (λ z. IsChain (link after z) (value_at r4 (literal_index z)) (clause ∷ watchers r2 before z))
              (sym (same_is l b h))
              (behind b first_b.0 (ap (λ r. next_in r b) update.0 ∙ rw b_a (y_is
              ∙ first_a.1 (literal_index b) (index_apart b a b_a))))
          go false e false h =
              subst (λ o. IsChain (link after l) o (watchers r2 before l))
              (sym (first_b.1 (literal_index l) (index_apart l b h) ∙
              first_a.1 (literal_index l) (index_apart l a e)))
              (chain_same (link before l) (link after l) (value_at r2 (literal_index l)) (watchers r2 before l)
              (kept l) (watched2.linked l))

      exact : IsExact (watched_by after) (started clause (a ∷ b ∷ []) (watchers r2 before))
      exact = started_exact (watched_by before) (watched_by after) (watchers r2 before) clause watched2.exact
          (a ∷ b ∷ []) none two
          (ap literals_in update.0, λ other ne. ap literals_in (update.1 other ne))

      lists : (l : Lit) → watchers r4 after l ≡ started clause (a ∷ b ∷ []) (watchers r2 before) l
      lists = lists_made r4 after (started clause (a ∷ b ∷ []) (watchers r2 before)) exact linked

      links : (c : ℕ) (s : Bool) → nat_eq c clause ≡ s → HasTwoLinks (record_of after c)
      links c true e = rw (eqb-true c clause e, update.0) refl
      links c false e = rw (update.1 c (eqb-false c clause e)) (watched2.links c)

      watched4 : AreWatched r4 after
      watched4 = record {
        exact = exact_same (watched_by after) (watched_by after) (started clause (a ∷ b ∷ []) (watchers r2 before))
            (watchers r4 after) (λ c. refl) lists exact;
        links = λ c. links c (nat_eq c clause) refl;
        linked = λ l. subst (IsChain (link after l) (value_at r4 (literal_index l))) (sym (lists l)) (linked l);
      }

    pub starts : Starts r2 made clause r4
    starts before after watched none update =
        (watched4 before after watched none update, lists before after watched none update)

    pub started_rooms : (ls : List Lit) → UsesRoom ls r2 r4
    started_rooms ls l n room = room_by_length r2 r4 l (cond (is_literal_in l ls) (n + 1) n) n
        (omega (arith, slots3, slots4)) room

-- a clause starts to watch in lists that are the same as earlier ones
module _ (old one two new : WatchLists) where
  pub starts_since : (w : WatchedLiterals) (clause : ℕ) → SameLists old one → SameLists one two →
      Starts two w clause new
      → Starts old w clause new
  starts_since w clause same1 same2 starts before after watched none update =
      let first = same1 before watched in
      let second = same2 before first.0 in
      let begun = starts before after second.0 none update in (
        begun.0,
        λ l. begun.1 l ∙ ap (λ xs. cond (is_literal_in l w.watched_literals) (clause ∷ xs) xs) (second.1 l
            ∙ first.1 l),
      )

  pub uses_room_since : (ls : List Lit) → KeepsRoom old one → KeepsRoom one two → UsesRoom ls two new →
      UsesRoom ls old new
  uses_room_since ls keeps1 keeps2 uses l n room = uses l n (keeps2 l _ (keeps1 l _ room))

-- a slot serves any number of additions
pub uses_room : (literals : List Lit) (old middle new : WatchLists) → KeepsRoom old middle → KeepsRoom middle new →
    UsesRoom literals old new
unfolding HasRoom
uses_room literals old middle new first second l n room = second l n (first l n room)

-- ---- slots made

module _ (result : Result (Unit {0}) StoreError) (old new : WatchLists) (count : ℕ)
    (made : OnOk result (length new ≡ max (length old) count)) where
  pub no_fewer_slots : OnErr result (new ≡ old) → length old ≤ length new
  no_fewer_slots same = go result made same
    where
      go : (r : Result (Unit {0}) StoreError) → OnOk r (length new ≡ max (length old) count) → OnErr r (new ≡ old) →
          length old ≤ length new
      go (Ok u) m s = omega (arith, m)
      go (Err e) m s = let k = ap length s in omega (arith, k)

  pub room_in_slots : (l : Lit) (n : ℕ) → literal_index l < count → OnOk result (HasRoom new l n)
  room_in_slots l n within = go result made
    where
      go : (r : Result (Unit {0}) StoreError) → OnOk r (length new ≡ max (length old) count) → OnOk r (HasRoom new l n)
      go (Ok u) m = room_here new l n (omega (arith, m))
      go (Err e) m = tt
