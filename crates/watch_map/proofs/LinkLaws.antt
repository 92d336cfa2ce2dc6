-- Links in records.
use Rattle.std.proofs.Common.{◌≡◌, ◌≢◌, ℕ, zero, suc, ◌<◌, Bool, true, false, ◌||◌, List}
use Rattle.std.proofs.Common.{[], ◌∷◌, Option, Some, None, length, slice_index_or, set, sym}
use Rattle.std.proofs.Common.{refl, subst, ◌∙◌, arith, get_or-set_same, get_or-set_other}
use Rattle.std.proofs.lemmas.List.{length-set}
use Rattle.watch_map.proofs.Words.{AreTwoOrNone, HasRoom, HasTwoLinks, is_literal_in, IsChain, IsExact, link, link_for}
use Rattle.watch_map.proofs.Words.{Lit, literal_index, next_at, next_in, same_literal, value_at, watched_by}
use Rattle.watch_map.proofs.Words.{WatchedLiterals, watchers, Watches, WatchLists, with_next, with_watch}
use Rattle.watch_map.specs.WatchLists.{literals_in}
use Rattle.watch_map.proofs.WatchingLaws.{same_self, same_swap, few}
use Rattle.watch_map.proofs.ChainLaws.{chain_is}

pub slot_within : (map : WatchLists) (l : Lit) (n : ℕ) → HasRoom map l n → literal_index l < length map
unfolding HasRoom
slot_within map l n room = room

-- ---- two literals and two links

or_false_at : (a b : Bool) → (a || (b || false)) ≡ true → b ≡ false → a ≡ true
or_false_at true b h e = refl
or_false_at false b h e = absurd (let z : b || false ≡ true = h in
    (let y : (false || false) ≡ true = subst (λ x. (x || false) ≡ true) e z in cc))

pub link_at : (ls : List Lit) (links : List (Option ℕ)) (index : ℕ) (l : Lit) → AreTwoOrNone ls → index < length ls →
    slice_index_or ls index l ≡ l →
    slice_index_or links index None ≡ link_for ls links l
link_at [] links index l two h e = absurd (omega arith)
link_at (a ∷ []) links index l two h e = absurd two
link_at (a ∷ b ∷ c ∷ ls) links index l two h e = absurd two
link_at (a ∷ b ∷ []) links zero l two h e = let s : same_literal l a ≡ true =
    subst (λ x. same_literal l x ≡ true) (sym e) (same_self l) in rw s refl
link_at (a ∷ b ∷ []) links (suc zero) l two h e =
    let s : same_literal l a ≡ false = subst (λ x. same_literal x a ≡ false) e (same_swap b a ∙ two) in rw s refl
link_at (a ∷ b ∷ []) links (suc (suc index)) l two h e = absurd (omega arith)

pub link_kept : (ls : List Lit) (links : List (Option ℕ)) (index : ℕ) (from l : Lit) (n : Option ℕ) → AreTwoOrNone ls →
    index < length ls → slice_index_or ls index from ≡ from →
    is_literal_in l ls ≡ true → same_literal l from ≡ false → link_for ls (set links index n) l ≡ link_for ls links l
link_kept [] links index from l n two h e i d = absurd (omega arith)
link_kept (a ∷ []) links index from l n two h e i d = absurd two
link_kept (a ∷ b ∷ c ∷ ls) links index from l n two h e i d = absurd two
link_kept (a ∷ b ∷ []) links zero from l n two h e i d =
    let s : same_literal l a ≡ false = subst (λ x. same_literal l x ≡ false) (sym e) d in
    let ne : suc zero ≢ zero = λ k. omega arith in
    rw s (get_or-set_other links zero (suc zero) n None ne)
link_kept (a ∷ b ∷ []) links (suc zero) from l n two h e i d =
    let q : same_literal l b ≡ false = subst (λ x. same_literal l x ≡ false) (sym e) d in
    let s : same_literal l a ≡ true = or_false_at (same_literal l a) (same_literal l b) i q in
    let ne : zero ≢ suc zero = λ k. omega arith in
    rw s (get_or-set_other links (suc zero) zero n None ne)
link_kept (a ∷ b ∷ []) links (suc (suc index)) from l n two h e i d = absurd (omega arith)

pub watch_kept : (ls : List Lit) (links : List (Option ℕ)) (index : ℕ) (from to l : Lit) (n : Option ℕ) →
    AreTwoOrNone ls → index < length ls → slice_index_or ls index from ≡ from →
    is_literal_in l ls ≡ true → same_literal l from ≡ false → same_literal l to ≡ false →
    link_for (set ls index to) (set links index n) l ≡ link_for ls links l
watch_kept [] links index from to l n two h e i d t = absurd (omega arith)
watch_kept (a ∷ []) links index from to l n two h e i d t = absurd two
watch_kept (a ∷ b ∷ c ∷ ls) links index from to l n two h e i d t = absurd two
watch_kept (a ∷ b ∷ []) links zero from to l n two h e i d t =
    let s : same_literal l a ≡ false = subst (λ x. same_literal l x ≡ false) (sym e) d in
    let ne : suc zero ≢ zero = λ k. omega arith in
    rw (s, t) (get_or-set_other links zero (suc zero) n None ne)
watch_kept (a ∷ b ∷ []) links (suc zero) from to l n two h e i d t =
    let q : same_literal l b ≡ false = subst (λ x. same_literal l x ≡ false) (sym e) d in
    let s : same_literal l a ≡ true = or_false_at (same_literal l a) (same_literal l b) i q in
    let ne : zero ≢ suc zero = λ k. omega arith in
    rw s (get_or-set_other links (suc zero) zero n None ne)
watch_kept (a ∷ b ∷ []) links (suc (suc index)) from to l n two h e i d t = absurd (omega arith)

two_length : (ls : List Lit) (index : ℕ) → AreTwoOrNone ls → index < length ls → index < 2
two_length [] index two h = absurd (omega arith)
two_length (a ∷ []) index two h = absurd two
two_length (a ∷ b ∷ []) index two h = h
two_length (a ∷ b ∷ c ∷ ls) index two h = absurd two

-- ---- records

module _ (index : ℕ) (from : Lit) where
  pub record_at : (r : Option WatchedLiterals) → AreTwoOrNone (literals_in r) → index < length (literals_in r) →
      slice_index_or (literals_in r) index from ≡ from →
      next_at r index ≡ next_in r from
  record_at None two h e = absurd (omega arith)
  record_at (Some w) two h e = link_at w.watched_literals w.next_watches index from two h e

  pub record_next_kept : (r : Option WatchedLiterals) (n : Option ℕ) (l : Lit) → AreTwoOrNone (literals_in r) →
      index < length (literals_in r) → slice_index_or (literals_in r) index from ≡ from →
      is_literal_in l (literals_in r) ≡ true → same_literal l from ≡ false →
      next_in (with_next index n r) l ≡ next_in r l
  record_next_kept None n l two h e i d = refl
  record_next_kept (Some w) n l two h e i d = link_kept w.watched_literals w.next_watches index from l n two h e i d

  pub record_next_set : (r : Option WatchedLiterals) (n : Option ℕ) → AreTwoOrNone (literals_in r) →
      index < length (literals_in r) → slice_index_or (literals_in r) index from ≡ from →
      HasTwoLinks r → next_in (with_next index n r) from ≡ n
  record_next_set None n two h e k = absurd (omega arith)
  record_next_set (Some w) n two h e k =
      let small = two_length w.watched_literals index two h in
      sym (link_at w.watched_literals (set w.next_watches index n) index from two h e)
      ∙ get_or-set_same w.next_watches index n None (omega arith)

  pub record_watch_kept : (r : Option WatchedLiterals) (n : Option ℕ) (to l : Lit) → AreTwoOrNone (literals_in r) →
      index < length (literals_in r) → slice_index_or (literals_in r) index from ≡ from →
      is_literal_in l (literals_in r) ≡ true → same_literal l from ≡ false → same_literal l to ≡ false →
      next_in (with_watch index to n r) l ≡ next_in r l
  record_watch_kept None n to l two h e i d t = refl
  record_watch_kept (Some w) n to l two h e i d t =
      watch_kept w.watched_literals w.next_watches index from to l n two h e i d t

pub record_watch_set : (index : ℕ) (to : Lit) (r : Option WatchedLiterals) (n : Option ℕ) →
    AreTwoOrNone (literals_in r) → index < length (literals_in r) →
    AreTwoOrNone (literals_in (with_watch index to n r)) → HasTwoLinks r → next_in (with_watch index to n r) to ≡ n
record_watch_set index to None n two h two' k = absurd (omega arith)
record_watch_set index to (Some w) n two h two' k =
    let small = two_length w.watched_literals index two h in
    let within : index < length (set w.watched_literals index to) = rw (length-set w.watched_literals index to) h in
    sym (link_at (set w.watched_literals index to) (set w.next_watches index n) index to two' within
    (get_or-set_same w.watched_literals index to to h))
    ∙ get_or-set_same w.next_watches index n None (omega arith)

pub next_literals : (index : ℕ) (n : Option ℕ) (r : Option WatchedLiterals) →
    literals_in (with_next index n r) ≡ literals_in r
next_literals index n None = refl
next_literals index n (Some w) = refl

pub watch_literals : (index : ℕ) (to : Lit) (n : Option ℕ) (r : Option WatchedLiterals) →
    literals_in (with_watch index to n r) ≡ set (literals_in r) index to
watch_literals index to n None = nothing index
  where
    nothing : (i : ℕ) → [] ≡ set [] i to
    nothing zero = refl
    nothing (suc i) = refl
watch_literals index to n (Some w) = refl

pub next_links : (index : ℕ) (n : Option ℕ) (r : Option WatchedLiterals) → HasTwoLinks r →
    HasTwoLinks (with_next index n r)
next_links index n None h = h
next_links index n (Some w) h = length-set w.next_watches index n ∙ h

pub watch_links : (index : ℕ) (to : Lit) (n : Option ℕ) (r : Option WatchedLiterals) → HasTwoLinks r →
    HasTwoLinks (with_watch index to n r)
watch_links index to n None h = h
watch_links index to n (Some w) h = length-set w.next_watches index n ∙ h

-- ---- the lists that were made

module _ (map : WatchLists) (watches : Watches) (lists : Lit → List ℕ) (exact : IsExact (watched_by watches) lists)
    (linked : (l : Lit) → IsChain (link watches l) (value_at map (literal_index l)) (lists l)) where
  pub lists_made : (l : Lit) → watchers map watches l ≡ lists l
  unfolding watchers
  lists_made l = chain_is (link watches l) (value_at map (literal_index l)) (lists l) (length watches) (linked l)
      (few watches lists exact l)
