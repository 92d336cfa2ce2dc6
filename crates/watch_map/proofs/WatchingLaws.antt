-- Starting and moving a watch keep the lists exact; what stands before and behind a clause.
use Rattle.std.proofs.Common.{◌≡◌, ◌≢◌, ℕ, zero, suc, ◌<◌, ◌≤◌, Bool, true, false, not, ◌&&◌}
use Rattle.std.proofs.Common.{◌||◌, cond, nat_eq, List, [], ◌∷◌, ◌++◌, sym, ap, refl, subst}
use Rattle.std.proofs.Common.{◌∙◌, arith, length, slice_index_or, set, eqb-true, eq-eqb}
use Rattle.std.proofs.lemmas.Bool.{eqb-false}
use Rattle.std.proofs.lemmas.Map.Steps.{length-le_from_distinct_below}
use Rattle.watch_map.proofs.Words.{AllByRecursion, AreTwo, AreTwoOrNone, before, behind, is_clause_in, is_literal_in}
use Rattle.watch_map.proofs.Words.{IsDistinct, IsExact, IsUpdate, Lit, moved, Neg, Pos, same_literal, started}
use Rattle.watch_map.proofs.Words.{watched_by, Watches, without}

-- ---- literals

pub same_is : (a b : Lit) → same_literal a b ≡ true → a ≡ b
same_is (Pos v) (Pos w) h = ap Pos (eqb-true v w h)
same_is (Pos v) (Neg w) h = absurd (let z : false ≡ true = h in cc)
same_is (Neg v) (Pos w) h = absurd (let z : false ≡ true = h in cc)
same_is (Neg v) (Neg w) h = ap Neg (eqb-true v w h)

pub same_self : (a : Lit) → same_literal a a ≡ true
same_self (Pos v) = eq-eqb v v refl
same_self (Neg v) = eq-eqb v v refl

pub same_swap : (a b : Lit) → same_literal a b ≡ same_literal b a
same_swap a b = go (same_literal a b) refl (same_literal b a) refl
  where
    go : (s : Bool) → same_literal a b ≡ s → (t : Bool) → same_literal b a ≡ t → s ≡ t
    go true p true q = refl
    go false p false q = refl
    go true p false q = sym (subst (λ x. same_literal x a ≡ true) (same_is a b p) (same_self a)) ∙ q
    go false p true q = sym p ∙ subst (λ x. same_literal x b ≡ true) (same_is b a q) (same_self b)

pub differ : (a b : Lit) → a ≢ b → same_literal a b ≡ false
differ a b ne = go (same_literal a b) refl
  where
    go : (s : Bool) → same_literal a b ≡ s → s ≡ false
    go true h = absurd (ne (same_is a b h))
    go false h = refl

-- ---- lists without repeats

or_first : (a b : Bool) → (a || b) ≡ false → a ≡ false
or_first true b h = h
or_first false b h = refl

or_second : (a b : Bool) → (a || b) ≡ false → b ≡ false
or_second true b h = absurd (let z : true ≡ false = h in cc)
or_second false b h = h

apart_from : (y c : ℕ) (ys back : List ℕ) → is_clause_in y (ys ++ c ∷ back) ≡ false → nat_eq y c ≡ false
apart_from y c [] back h = or_first (nat_eq y c) _ h
apart_from y c (z ∷ ys) back h = apart_from y c ys back (or_second (nat_eq y z) _ h)

pub eqb_self : (c : ℕ) → nat_eq c c ≡ true
eqb_self c = eq-eqb c c refl

pub eqb_apart : (a b : ℕ) → (a ≡ b → ⊥) → nat_eq a b ≡ false
eqb_apart a b ne = go (nat_eq a b) refl
  where
    go : (s : Bool) → nat_eq a b ≡ s → s ≡ false
    go true h = absurd (ne (eqb-true a b h))
    go false h = refl

pub absent : (c : ℕ) (cs : List ℕ) → is_clause_in c cs ≡ false → AllByRecursion (λ d. nat_eq c d ≡ false) cs
absent c [] h = tt
absent c (d ∷ cs) h = (or_first (nat_eq c d) _ h, absent c cs (or_second (nat_eq c d) _ h))

pub not_in : (c : ℕ) (cs : List ℕ) → AllByRecursion (λ d. nat_eq c d ≡ false) cs → is_clause_in c cs ≡ false
not_in c [] h = refl
not_in c (d ∷ cs) h = rw h.0 (not_in c cs h.1)

pub distinct_more : (c : ℕ) (cs : List ℕ) → is_clause_in c cs ≡ false → IsDistinct nat_eq cs →
    IsDistinct nat_eq (c ∷ cs)
unfolding IsDistinct
distinct_more c cs h d = (absent c cs h, d)

pub distinct_head : (c : ℕ) (cs : List ℕ) → IsDistinct nat_eq (c ∷ cs) → is_clause_in c cs ≡ false
unfolding IsDistinct
distinct_head c cs d = not_in c cs d.0

pub distinct_tail : (c : ℕ) (cs : List ℕ) → IsDistinct nat_eq (c ∷ cs) → IsDistinct nat_eq cs
unfolding IsDistinct
distinct_tail c cs d = d.1

-- a list is what stands before one of its clauses, that clause, and what stands behind it
pub split : (c : ℕ) (cs : List ℕ) → is_clause_in c cs ≡ true → cs ≡ before c cs ++ c ∷ behind c cs
split c [] h = absurd (let z : false ≡ true = h in cc)
split c (d ∷ cs) h = go (nat_eq d c) refl (split c cs)
  where
    go : (b : Bool) → nat_eq d c ≡ b → (is_clause_in c cs ≡ true → cs ≡ before c cs ++ c ∷ behind c cs) →
        d ∷ cs ≡ cond b [] (d ∷ before c cs) ++ c ∷ cond b cs (behind c cs)
    go true e ih = ap (λ x. x ∷ cs) (eqb-true d c e)
    go false e ih =
        let apart : nat_eq c d ≡ false = eqb_apart c d (λ k. let z : nat_eq d c ≡ true = eq-eqb d c (sym k) in
        let y : true ≡ false = sym z ∙ e in cc) in
        let inside : is_clause_in c cs ≡ true = rw apart at h in
        ap (λ xs. d ∷ xs) (ih inside)

-- in a list without repeats the parts are told by the clause
pub parts : (c : ℕ) (front back : List ℕ) → IsDistinct nat_eq (front ++ c ∷ back) →
    (before c (front ++ c ∷ back) ≡ front) × (behind c (front ++ c ∷ back) ≡ back)
parts c [] back d = (rw (eqb_self c) refl, rw (eqb_self c) refl)
parts c (x ∷ front) back d =
    let apart : nat_eq x c ≡ false = apart_from x c front back (distinct_head x (front ++ c ∷ back) d) in
    let ih = parts c front back (distinct_tail x (front ++ c ∷ back) d) in
    (rw apart (ap (λ xs. x ∷ xs) ih.0), rw apart ih.1)

-- the list without a clause
pub without_absent : (c : ℕ) (cs : List ℕ) → is_clause_in c cs ≡ false → without c cs ≡ cs
without_absent c [] h = refl
without_absent c (d ∷ cs) h =
    let e : nat_eq c d ≡ false = or_first (nat_eq c d) _ h in
    let apart : nat_eq d c ≡ false = eqb_apart d c (λ j. let z : nat_eq c d ≡ true = eq-eqb c d (sym j) in
    let y : true ≡ false = sym z ∙ e in cc) in
    rw apart (ap (λ xs. d ∷ xs) (without_absent c cs (or_second (nat_eq c d) _ h)))

pub without_parts : (c : ℕ) (front back : List ℕ) → IsDistinct nat_eq (front ++ c ∷ back) →
    without c (front ++ c ∷ back) ≡ front ++ back
without_parts c [] back d = rw (eqb_self c) (without_absent c back (distinct_head c back d))
without_parts c (x ∷ front) back d =
    let apart : nat_eq x c ≡ false = apart_from x c front back (distinct_head x (front ++ c ∷ back) d) in
    rw apart (ap (λ xs. x ∷ xs) (without_parts c front back (distinct_tail x (front ++ c ∷ back) d)))

pub in_without : (c d : ℕ) (cs : List ℕ) → is_clause_in d (without c cs) ≡ (is_clause_in d cs && not (nat_eq d c))
in_without c d [] = refl
in_without c d (x ∷ cs) = go (nat_eq x c) refl (nat_eq d x) refl (in_without c d cs)
  where
    go : (b : Bool) → nat_eq x c ≡ b → (s : Bool) → nat_eq d x ≡ s →
        is_clause_in d (without c cs) ≡ (is_clause_in d cs && not (nat_eq d c)) →
        is_clause_in d (cond (not b) (x ∷ without c cs) (without c cs)) ≡ ((s || is_clause_in d cs) && not (nat_eq d c))
    go true e true q ih =
        let is : nat_eq d c ≡ true = rw (eqb-true d x q) e in
        rw is at ih ∙ (and_false (is_clause_in d cs) ∙ sym (rw is refl))
      where
        and_false : (b : Bool) → (b && false) ≡ false
        and_false true = refl
        and_false false = refl
    go true e false q ih = ih
    go false e true q ih =
        let is : nat_eq d c ≡ false = rw (eqb-true d x q) e in
        rw (q, is) refl
    go false e false q ih = rw q ih

all_without : (P : ℕ → Type 0) (c : ℕ) (cs : List ℕ) → AllByRecursion P cs → AllByRecursion P (without c cs)
all_without P c [] a = tt
all_without P c (x ∷ cs) a = go (not (nat_eq x c)) (all_without P c cs a.1)
  where
    go : (b : Bool) → AllByRecursion P (without c cs) → AllByRecursion P (cond b (x ∷ without c cs) (without c cs))
    go true r = (a.0, r)
    go false r = r

pub distinct_without : (c : ℕ) (cs : List ℕ) → IsDistinct nat_eq cs → IsDistinct nat_eq (without c cs)
unfolding IsDistinct
distinct_without c [] d = tt
distinct_without c (x ∷ cs) d =
    go (not (nat_eq x c)) (all_without (λ y. nat_eq x y ≡ false) c cs d.0) (distinct_without c cs d.1)
  where
    go : (b : Bool) → AllByRecursion (λ y. nat_eq x y ≡ false) (without c cs) → IsDistinct nat_eq (without c cs) →
        IsDistinct nat_eq (cond b (x ∷ without c cs) (without c cs))
    go true r s = (r, s)
    go false r s = s

-- ---- exactness

-- what is pointwise the same is as exact
pub exact_same : (watched watched' : ℕ → List Lit) (lists lists' : Lit → List ℕ) → ((c : ℕ) → watched' c ≡ watched c) →
    ((l : Lit) → lists' l ≡ lists l) → IsExact watched lists → IsExact watched' lists'
exact_same watched watched' lists lists' w h ex = record {
  two = λ c. rw (w c) (ex.two c);
  once = λ l. rw (h l) (ex.once l);
  stands = λ l c. ap (is_clause_in c) (h l) ∙ (ex.stands l c ∙ ap (is_literal_in l) (sym (w c)));
}

two_or_none : (ls : List Lit) → AreTwo ls → AreTwoOrNone ls
two_or_none [] h = tt
two_or_none (a ∷ []) h = h
two_or_none (a ∷ b ∷ []) h = h
two_or_none (a ∷ b ∷ c ∷ ls) h = h

-- the literals of a clause before and after `to` came in the place of `from`
record Rewatched (from to : Lit) (was now : List Lit) : Type 0 where
  two : AreTwoOrNone now
  is_to : is_literal_in to now ≡ true
  was_from : is_literal_in from was ≡ true
  is_from : is_literal_in from now ≡ false
  others : (l : Lit) → same_literal l to ≡ false → same_literal l from ≡ false →
      is_literal_in l now ≡ is_literal_in l was

module _ (watched watched' : ℕ → List Lit) (lists : Lit → List ℕ) (clause : ℕ) (ex : IsExact watched lists) where
  -- a clause that watched nothing and now watches two
  pub started_exact : (ls : List Lit) → watched clause ≡ [] → AreTwo ls → IsUpdate watched clause ls watched' →
      IsExact watched' (started clause ls lists)
  started_exact ls none two update = record {
    two = two_of;
    once = once;
    stands =
        λ l c. stands l c (nat_eq c clause) refl (is_literal_in l ls) refl;
  }
    where
      two_of : (c : ℕ) → AreTwoOrNone (watched' c)
      two_of c = go (nat_eq c clause) refl
        where
          go : (b : Bool) → nat_eq c clause ≡ b → AreTwoOrNone (watched' c)
          go true e = rw (eqb-true c clause e, update.0) (two_or_none ls two)
          go false e = rw (update.1 c (eqb-false c clause e)) (ex.two c)

      fresh : (l : Lit) → is_clause_in clause (lists l) ≡ false
      fresh l = ex.stands l clause ∙ ap (is_literal_in l) none

      once : (l : Lit) → IsDistinct nat_eq (started clause ls lists l)
      once l = go (is_literal_in l ls)
        where
          go : (b : Bool) → IsDistinct nat_eq (cond b (clause ∷ lists l) (lists l))
          go true = distinct_more clause (lists l) (fresh l) (ex.once l)
          go false = ex.once l

      stands : (l : Lit) (c : ℕ) (b : Bool) → nat_eq c clause ≡ b → (t : Bool) → is_literal_in l ls ≡ t →
          is_clause_in c (cond t (clause ∷ lists l) (lists l)) ≡ is_literal_in l (watched' c)
      stands l c true e true h = rw (e, eqb-true c clause e, update.0) (sym h)
      stands l c true e false h = rw (eqb-true c clause e, update.0) (fresh l ∙ sym h)
      stands l c false e true h = rw (e, update.1 c (eqb-false c clause e)) (ex.stands l c)
      stands l c false e false h = rw (update.1 c (eqb-false c clause e)) (ex.stands l c)

  -- a clause that watches `to` in the place of `from`
  pub moved_exact : (index : ℕ) (from to : Lit) → index < length (watched clause) →
      slice_index_or (watched clause) index from ≡ from →
      is_literal_in to (watched clause) ≡ false → IsUpdate watched clause (set (watched clause) index to) watched' →
      IsExact watched' (moved clause from to lists)
  moved_exact index from to within read new update = record {
    two = λ c. two_of c (nat_eq c clause) refl;
    once = λ l. once l (same_literal l to) refl (same_literal l from);
    stands = λ l c. stands l c (same_literal l to) refl (same_literal l from) refl (nat_eq c clause) refl;
  }
    where
      or_true : (b : Bool) → (b || true) ≡ true
      or_true true = refl
      or_true false = refl

      or_false : (b : Bool) → (b || false) ≡ b
      or_false true = refl
      or_false false = refl

      first_false : (a b : Bool) → (a || b) ≡ false → a ≡ false
      first_false true b h = h
      first_false false b h = refl

      second_false : (a b : Bool) → (a || b) ≡ false → b ≡ false
      second_false true b h = absurd (let z : true ≡ false = h in cc)
      second_false false b h = h

      rewatched : (was : List Lit) (i : ℕ) → AreTwoOrNone was → i < length was → slice_index_or was i from ≡ from →
          is_literal_in to was ≡ false → Rewatched from to was (set was i to)
      rewatched [] i two w r n = absurd (omega arith)
      rewatched (a ∷ []) i two w r n = absurd two
      rewatched (a ∷ b ∷ c ∷ ls) i two w r n = absurd two
      rewatched (a ∷ b ∷ []) zero two w r n =
          let to_a : same_literal to a ≡ false = first_false _ _ n in
          let to_b : same_literal to b ≡ false = first_false _ _ (second_false _ _ n) in
          let from_b : same_literal from b ≡ false = subst (λ x. same_literal x b ≡ false) r two in
          let from_to : same_literal from to ≡ false = same_swap from to
          ∙ subst (λ x. same_literal to x ≡ false) r to_a in
          record {
            two = to_b;
            is_to = rw (same_self to) refl;
            was_from = subst (λ x. (same_literal from x || (same_literal from b || false)) ≡ true) (sym r)
                (rw (same_self from) refl);
            is_from = rw (from_to, from_b) refl;
            others = λ l p q. let la : same_literal l a ≡ false = subst (λ x. same_literal l x ≡ false) (sym r) q in
                rw (p, la) refl;
          }
      rewatched (a ∷ b ∷ []) (suc zero) two w r n =
          let to_a : same_literal to a ≡ false = first_false _ _ n in
          let to_b : same_literal to b ≡ false = first_false _ _ (second_false _ _ n) in
          let from_a : same_literal from a ≡ false = same_swap from a ∙ subst (λ x. same_literal a x ≡ false) r two in
          let from_to : same_literal from to ≡ false = same_swap from to
          ∙ subst (λ x. same_literal to x ≡ false) r to_b in
          record {
            two = same_swap a to ∙ to_a;
            is_to = rw (same_self to) (or_true (same_literal to a));
            was_from = subst (λ x. (same_literal from a || (same_literal from x || false)) ≡ true) (sym r)
                (rw (same_self from) (or_true (same_literal from a)));
            is_from = rw (from_to, from_a) refl;
            others = λ l p q. let lb : same_literal l b ≡ false = subst (λ x. same_literal l x ≡ false) (sym r) q in
                rw (p, lb) refl;
          }
      rewatched (a ∷ b ∷ []) (suc (suc i)) two w r n = absurd (omega arith)

      re : Rewatched from to (watched clause) (watched' clause)
      re = subst (Rewatched from to (watched clause)) (sym update.0)
          (rewatched (watched clause) index (ex.two clause) within read new)

      two_of : (c : ℕ) (b : Bool) → nat_eq c clause ≡ b → AreTwoOrNone (watched' c)
      two_of c true e = rw (eqb-true c clause e) re.two
      two_of c false e = rw (update.1 c (eqb-false c clause e)) (ex.two c)

      fresh : (l : Lit) → same_literal l to ≡ true → is_clause_in clause (lists l) ≡ false
      fresh l e = ex.stands l clause ∙ subst (λ x. is_literal_in x (watched clause) ≡ false) (sym (same_is l to e)) new

      once : (l : Lit) (t : Bool) → same_literal l to ≡ t → (f : Bool) →
          IsDistinct nat_eq (cond t (clause ∷ lists l) (cond f (without clause (lists l)) (lists l)))
      once l true e f = distinct_more clause (lists l) (fresh l e) (ex.once l)
      once l false e true = distinct_without clause (lists l) (ex.once l)
      once l false e false = ex.once l

      and_true : (b : Bool) → (b && true) ≡ b
      and_true true = refl
      and_true false = refl

      and_false : (b : Bool) → (b && false) ≡ false
      and_false true = refl
      and_false false = refl

      stands : (l : Lit) (c : ℕ) (t : Bool) → same_literal l to ≡ t → (f : Bool) → same_literal l from ≡ f →
          (b : Bool) → nat_eq c clause ≡ b →
          is_clause_in c (cond t (clause ∷ lists l) (cond f (without clause (lists l)) (lists l)))
          ≡ is_literal_in l (watched' c)
      stands l c true e f q true h = rw (h, eqb-true c clause h)
          (sym (subst (λ x. is_literal_in x (watched' clause) ≡ true) (sym (same_is l to e)) re.is_to))
      stands l c true e f q false h = rw (h, update.1 c (eqb-false c clause h)) (ex.stands l c)
      stands l c false e true q true h =
          let gone : is_clause_in c (without clause (lists l)) ≡ false =
          rw (in_without clause c (lists l), h) (and_false (is_clause_in c (lists l))) in
          let unwatched : is_literal_in l (watched' clause) ≡ false =
          subst (λ x. is_literal_in x (watched' clause) ≡ false) (sym (same_is l from q)) re.is_from in
          gone ∙ sym (subst (λ x. is_literal_in l (watched' x) ≡ false) (sym (eqb-true c clause h)) unwatched)
      stands l c false e true q false h =
          let stays : is_clause_in c (without clause (lists l)) ≡ is_clause_in c (lists l) =
          rw (in_without clause c (lists l), h) (and_true (is_clause_in c (lists l))) in
          stays ∙ (ex.stands l c ∙ ap (is_literal_in l) (sym (update.1 c (eqb-false c clause h))))
      stands l c false e false q true h = rw (eqb-true c clause h) (ex.stands l clause ∙ sym (re.others l e q))
      stands l c false e false q false h = rw (update.1 c (eqb-false c clause h)) (ex.stands l c)

-- ---- as many clauses as records at most

watched_within : (watches : Watches) (c : ℕ) (l : Lit) → is_literal_in l (watched_by watches c) ≡ true →
    c < length watches
watched_within [] c l h = absurd (let z : false ≡ true = h in cc)
watched_within (w ∷ watches) zero l h = omega arith
watched_within (w ∷ watches) (suc c) l h = let k = watched_within watches c l h in omega (arith, k)

pub few : (watches : Watches) (lists : Lit → List ℕ) → IsExact (watched_by watches) lists → (l : Lit) →
    length (lists l) ≤ length watches
few watches lists ex l =
    length-le_from_distinct_below (lists l) (length watches) (ex.once l)
    (λ c h. watched_within watches c l (sym (ex.stands l c) ∙ h))
