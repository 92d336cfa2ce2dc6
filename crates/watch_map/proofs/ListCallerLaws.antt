-- Laws for a store: a clause more, and a watch moved, leave lists exact.
use Rattle.std.proofs.Common.{◌≡◌, ◌≢◌, ℕ, zero, suc, ◌<◌, ◌≤◌, Bool, true, false, ◌||◌, List, [], ◌∷◌}
use Rattle.std.proofs.Common.{◌++◌, length, slice_index_or, set, refl, sym, ap, subst, ◌∙◌, arith, nat_eq}
use Rattle.std.proofs.lemmas.Bool.{eqb-true, eqb-false}
use Rattle.std.proofs.lemmas.List.{get_or-set_same, get_or-set_other}
use Rattle.watch_map.proofs.Words.{AreTwoOrNone, is_literal_in, IsExact, IsUpdate, Lit, moved, rewatched, same_literal}
use Rattle.watch_map.proofs.Words.{started}
use Rattle.watch_map.proofs.WatchingLaws.{same_self, same_swap, same_is, exact_same, started_exact, moved_exact}

-- ---- what clauses watch, as a list

module _ (watches : List (List Lit)) where
  abbrev pub watched_at : ℕ → List Lit
  watched_at c = slice_index_or watches c []

pub past : (ws : List (List Lit)) (c : ℕ) → length ws ≤ c → watched_at ws c ≡ []
past [] c h = refl
past (w ∷ ws) zero h = absurd (omega (arith, h))
past (w ∷ ws) (suc c) h = past ws c (omega (arith, h))

at_end : (ws : List (List Lit)) (w : List Lit) → watched_at (ws ++ w ∷ []) (length ws) ≡ w
at_end [] w = refl
at_end (v ∷ ws) w = at_end ws w

elsewhere : (ws : List (List Lit)) (w : List Lit) (c : ℕ) → c ≢ length ws →
    watched_at (ws ++ w ∷ []) c ≡ watched_at ws c
elsewhere [] w zero ne = absurd (ne refl)
elsewhere [] w (suc c) ne = refl
elsewhere (v ∷ ws) w zero ne = refl
elsewhere (v ∷ ws) w (suc c) ne = elsewhere ws w c (λ e. ne (ap suc e))

pub pushed_watches : (ws : List (List Lit)) (w : List Lit) →
    IsUpdate (watched_at ws) (length ws) w (watched_at (ws ++ w ∷ []))
pushed_watches ws w = (at_end ws w, elsewhere ws w)

pub set_watches : (ws : List (List Lit)) (c : ℕ) (w : List Lit) → c < length ws →
    IsUpdate (watched_at ws) c w (watched_at (set ws c w))
set_watches ws c w h = (get_or-set_same ws c w [] h, λ d ne. get_or-set_other ws c d w [] ne)

-- who watches something is there
pub watching_within : (ws : List (List Lit)) (c : ℕ) (l : Lit) → is_literal_in l (watched_at ws c) ≡ true →
    c < length ws
watching_within [] c l h = (let no : false ≡ true = h in cc)
watching_within (w ∷ ws) zero l h = omega arith
watching_within (w ∷ ws) (suc c) l h = omega (arith, watching_within ws c l h)

-- ---- a clause more

pub exact_pushed : (ws : List (List Lit)) (lists : Lit → List ℕ) (w : List Lit) → AreTwoOrNone w →
    IsExact (watched_at ws) lists
    → IsExact (watched_at (ws ++ w ∷ [])) (started (length ws) w lists)
exact_pushed ws lists [] two ex =
    exact_same (watched_at ws) (watched_at (ws ++ [] ∷ [])) lists (started (length ws) [] lists) same (λ l. refl) ex
  where
    same : (c : ℕ) → watched_at (ws ++ [] ∷ []) c ≡ watched_at ws c
    same c = go (nat_eq c (length ws)) refl
      where
        go : (b : Bool) → nat_eq c (length ws) ≡ b → watched_at (ws ++ [] ∷ []) c ≡ watched_at ws c
        go true e = rw (eqb-true c (length ws) e) (at_end ws [] ∙ sym (past ws (length ws) (omega arith)))
        go false e = elsewhere ws [] c (eqb-false c (length ws) e)
exact_pushed ws lists (a ∷ []) two ex = absurd two
exact_pushed ws lists (a ∷ b ∷ []) two ex =
    started_exact (watched_at ws) (watched_at (ws ++ (a ∷ b ∷ []) ∷ [])) lists (length ws) ex (a ∷ b ∷ [])
    (past ws (length ws) (omega arith)) two (pushed_watches ws (a ∷ b ∷ []))
exact_pushed ws lists (a ∷ b ∷ c ∷ w) two ex = absurd two

-- ---- a watch moved

-- of two different literals the one at the index is exchanged
pub rewatched_is : (ls : List Lit) (index : ℕ) (from to : Lit) → AreTwoOrNone ls → index < length ls →
    slice_index_or ls index from ≡ from
    → set ls index to ≡ rewatched from to ls
rewatched_is [] index from to two h e = absurd (omega (arith, h))
rewatched_is (a ∷ []) index from to two h e = absurd two
rewatched_is (a ∷ b ∷ []) zero from to two h e =
    subst (λ x. (to ∷ b ∷ []) ≡ rewatched x to (a ∷ b ∷ [])) e (rw (same_self a, same_swap b a ∙ two) refl)
rewatched_is (a ∷ b ∷ []) (suc zero) from to two h e =
    subst (λ x. (a ∷ to ∷ []) ≡ rewatched x to (a ∷ b ∷ [])) e (rw (two, same_self b) refl)
rewatched_is (a ∷ b ∷ []) (suc (suc index)) from to two h e = absurd (omega (arith, h))
rewatched_is (a ∷ b ∷ c ∷ ls) index from to two h e = absurd two

-- where the one of two literals is
record PlaceOf (from : Lit) (ls : List Lit) : Type 0 where
  index : ℕ
  within : index < length ls
  reads : slice_index_or ls index from ≡ from

place_of : (from : Lit) (ls : List Lit) → is_literal_in from ls ≡ true → PlaceOf from ls
place_of from [] h = (let no : false ≡ true = h in cc)
place_of from (a ∷ ls) h = by_first (same_literal from a) refl h (place_of from ls)
  where
    by_first : (b : Bool) → same_literal from a ≡ b → (b || is_literal_in from ls) ≡ true →
        (is_literal_in from ls ≡ true → PlaceOf from ls) → PlaceOf from (a ∷ ls)
    by_first true e k later = record { index = 0; within = omega arith; reads = sym (same_is from a e) }
    by_first false e k later =
        let rest = later k in
        record { index = suc rest.index; within = (let w = rest.within in omega (arith, w)); reads = rest.reads }

pub exact_rewatched : (ws : List (List Lit)) (lists : Lit → List ℕ) (c : ℕ) (from to : Lit) →
    is_literal_in from (watched_at ws c) ≡ true
    → is_literal_in to (watched_at ws c) ≡ false → IsExact (watched_at ws) lists
    → IsExact (watched_at (set ws c (rewatched from to (watched_at ws c)))) (moved c from to lists)
exact_rewatched ws lists c from to watches new ex =
    let at = place_of from (watched_at ws c) watches in
    moved_exact (watched_at ws) (watched_at (set ws c (rewatched from to (watched_at ws c)))) lists c ex at.index
    from to at.within at.reads new
    (subst (λ w. IsUpdate (watched_at ws) c w (watched_at (set ws c (rewatched from to (watched_at ws c)))))
    (sym (rewatched_is (watched_at ws c) at.index from to (ex.two c) at.within at.reads))
    (set_watches ws c (rewatched from to (watched_at ws c)) (watching_within ws c from watches)))
