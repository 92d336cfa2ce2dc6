-- How numbers come under names, and what a name's numbers tell.
use Rattle.std.proofs.Common.{◌≡◌, ℕ, zero, suc, ◌+◌, ◌<◌, Bool, true, false, true≢false, ◌⊎◌, inl, inr}
use Rattle.std.proofs.Common.{List, [], ◌∷◌, ◌++◌, take, length, length-append, get_or}
use Rattle.std.proofs.Common.{Option, Some, None, IfSome, slice_get, sym, ap, refl, ◌∙◌, subst, arith}
use Rattle.std.proofs.lemmas.List.{take_more}
use Rattle.resolvo_queue.proofs.Words.{AreBehind, AreEntered, at_place, ColdLack, further, HaveEntries, IsEntered}
use Rattle.resolvo_queue.proofs.Words.{IsFrom, IsUpdate, KeepsNumbers, NameEntry, names_at, Stands, TrackedClause}
use Rattle.resolvo_queue.proofs.Clauses.Entries.{earlier_or_last, last_is, stays_at}
use Rattle.resolvo_queue.proofs.Lists.{read_stands, same_some, stands_cases}

-- ---- entries

-- what an entry from a place back has, it has where one more comes
from_more : (old : List NameEntry) (new : NameEntry) (number : ℕ) {o : Option ℕ} → IsFrom old number o →
    IsFrom (old ++ new ∷ []) number o
from_more old new number (at_place place e at is) = at_place place e (stays_at old (new ∷ []) place e at) is
from_more old new number (further place e at rest) =
    further place e (stays_at old (new ∷ []) place e at) (from_more old new number rest)

one_entry : (entries : List NameEntry) (p q : ℕ) (x y : NameEntry) → slice_get entries p ≡ Some x →
    slice_get entries q ≡ Some y → p ≡ q → x ≡ y
one_entry entries p q x y there at same =
    let found : slice_get entries q ≡ Some x = ap (slice_get entries) (sym same) ∙ there in
    same_some x y (sym found ∙ at)

pub none_behind : AreBehind []
none_behind place e at = cc

-- how many places there are from the next one back
abbrev pub places_left : Option ℕ → ℕ
places_left None = 0
places_left (Some place) = place + 1

pub fewer_left : (o : Option ℕ) (place : ℕ) → IfSome o (λ p. p < place) → places_left o < place + 1
fewer_left None place h = omega arith
fewer_left (Some p) place h = omega (arith, h)

-- from an entry back it is that one, or one before it
pub this_or_before : (entries : List NameEntry) (place number : ℕ) (e : NameEntry) → slice_get entries place ≡ Some e →
    {o : Option ℕ} → o ≡ Some place → IsFrom entries number o → (number ≡ e.number) ⊎ IsFrom entries number e.earlier
this_or_before entries place number e at is (at_place p x there own) =
    let same : x ≡ e = one_entry entries p place x e there at (same_some p place is) in
    inl (sym own ∙ ap (λ (y : NameEntry). y.number) same)
this_or_before entries place number e at is (further p x there rest) =
    let same : x ≡ e = one_entry entries p place x e there at (same_some p place is) in
    inr (subst (λ (y : NameEntry). IsFrom entries number y.earlier) same rest)

pub none_from : {P : Type 0} (entries : List NameEntry) (number : ℕ) {o : Option ℕ} → o ≡ None →
    IsFrom entries number o → P
none_from entries number is (at_place p x there own) = cc
none_from entries number is (further p x there rest) = cc

pub not_both : {P : Type 0} (o : Option ℕ) (place : ℕ) → o ≡ None → o ≡ Some place → P
not_both o place none some = cc

pub past_from : {P : Type 0} (entries : List NameEntry) (number place : ℕ) {o : Option ℕ} → o ≡ Some place →
    slice_get entries place ≡ None → IsFrom entries number o → P
past_from entries number place is past (at_place p x there own) =
    let same : p ≡ place = same_some p place is in
    let found : slice_get entries place ≡ Some x = ap (slice_get entries) (sym same) ∙ there in cc
past_from entries number place is past (further p x there rest) =
    let same : p ≡ place = same_some p place is in
    let found : slice_get entries place ≡ Some x = ap (slice_get entries) (sym same) ∙ there in cc

-- ---- an entry comes under a name

module _ {N : Type 0} (eq : N → N → Bool) (self : (a : N) → eq a a ≡ true)
    (is_sameness : (a b : N) → eq a b ≡ true → a ≡ b)
    (name : N) (f g : N → Option ℕ) (p : ℕ) (put : IsUpdate f name (Some p) g)
    (old now : List NameEntry) (new : NameEntry) (more : now ≡ old ++ new ∷ []) (last : p ≡ length old) where
  this_or_other : (other : N) → (other ≡ name) ⊎ (g other ≡ f other)
  this_or_other other = go (eq other name) refl
    where
      go : (b : Bool) → eq other name ≡ b → (other ≡ name) ⊎ (g other ≡ f other)
      go true e = inl (is_sameness other name e)
      go false e = inr (put.1 other (λ s. true≢false (sym (ap (λ y. eq y name) s ∙ self name) ∙ e)))

  longer : length now ≡ length old + 1
  longer = ap length more ∙ length-append old (new ∷ [])

  at_last : slice_get now p ≡ Some new
  at_last = ap (λ l. slice_get l p) more ∙ (ap (slice_get (old ++ new ∷ [])) last ∙ last_is old new)

  pub have_more : HaveEntries f old → HaveEntries g now
  have_more have other = by (this_or_other other)
    where
      still : (o : Option ℕ) → IfSome o (λ q. q < length old) → IfSome o (λ q. q < length now)
      still None h = tt
      still (Some q) h = let l : length now ≡ length old + 1 = longer in
          let k : q < length now = omega (arith, h, l) in k

      by : (other ≡ name) ⊎ (g other ≡ f other) → IfSome (g other) (λ q. q < length now)
      by (inl s) =
          let l : length now ≡ length old + 1 = longer in
          let k : p < length now = omega (arith, l, last) in
          subst (λ o. IfSome o (λ q. q < length now)) (sym (ap g s ∙ put.0)) k
      by (inr s) = subst (λ o. IfSome o (λ q. q < length now)) (sym s) (still (f other) (have other))

  -- it leads to what was the name's newest
  module _ (leads : new.earlier ≡ f name) where
    pub behind_more : HaveEntries f old → AreBehind old → AreBehind now
    behind_more have behind place e at = elim (earlier_or_last old new place e (ap (λ l. slice_get l place) (sym more)
        ∙ at)) [
          | inl h ↦ behind place e h
          | inr q ↦ subst (λ k. IfSome e.earlier (λ x. x < k)) (sym q.1) (subst (λ o. IfSome o (λ x. x < length old))
              (sym (ap (λ (y : NameEntry). y.earlier) q.0 ∙ leads)) (have name))
        ]

    pub stands_still : (other : N) (number : ℕ) → IsFrom old number (f other) → IsFrom now number (g other)
    stands_still other number s = by (this_or_other other)
      where
        moved : {o : Option ℕ} → IsFrom old number o → IsFrom now number o
        moved {o} h = subst (λ l. IsFrom l number o) (sym more) (from_more old new number h)

        by : (other ≡ name) ⊎ (g other ≡ f other) → IsFrom now number (g other)
        by (inl same) = subst (IsFrom now number) (sym (ap g same ∙ put.0))
            (further p new at_last (moved (subst (IsFrom old number) (ap f same ∙ sym leads) s)))
        by (inr same) = subst (IsFrom now number) (sym same) (moved s)

  pub stands_new : IsFrom now new.number (g name)
  stands_new = subst (IsFrom now new.number) (sym put.0) (at_place p new at_last refl)

-- ---- names one after another

pub keeps_both : {N : Type 0} (a b c : N → ℕ → Type 0) → KeepsNumbers a b → KeepsNumbers b c → KeepsNumbers a c
keeps_both a b c f g name n s = g name n (f name n s)

still_entered : {N : Type 0} (is_too_large : N → Bool) (a b : N → ℕ → Type 0) → KeepsNumbers a b → (n : ℕ) (name : N) →
    IsEntered is_too_large a n name → IsEntered is_too_large b n name
still_entered is_too_large a b keeps n name (inl large) = inl large
still_entered is_too_large a b keeps n name (inr s) = inr (keeps name n s)

pub entered_more : {N : Type 0} (is_too_large : N → Bool) (number : ℕ) (names : List N) (i : ℕ) (own : N)
    (a b : N → ℕ → Type 0) → i < length names → own ≡ get_or names i own →
    KeepsNumbers a b → IsEntered is_too_large b number own →
    ((name : N) → Stands name (take i names) → IsEntered is_too_large a number name) →
    (name : N) → Stands name (take (i + 1) names) → IsEntered is_too_large b number name
entered_more is_too_large number names i own a b inside read keeps this before name s =
    elim (stands_cases (take i names) own name
    (subst (Stands name) (take_more names i own inside ∙ ap (λ y. take i names ++ y ∷ []) (sym read)) s)) [
      | inl h ↦ still_entered is_too_large a b keeps number name (before name h)
      | inr e ↦ subst (IsEntered is_too_large b number) (sym e) this
    ]

-- ---- all clauses

pub entered_none : {N : Type 0} (is_too_large : N → Bool) (a : N → ℕ → Type 0) (names : List (List N)) → names ≡ [] →
    AreEntered is_too_large a names
entered_none is_too_large a [] e n name s = elim s [ ]
entered_none is_too_large a (x ∷ xs) e n name s = cc

pub entered_still : {N : Type 0} (is_too_large : N → Bool) (a b : N → ℕ → Type 0) (names now : List (List N)) →
    now ≡ names → KeepsNumbers a b → AreEntered is_too_large a names → AreEntered is_too_large b now
entered_still is_too_large a b names now same keeps entered n name s =
    still_entered is_too_large a b keeps n name (entered n name (subst (λ l. Stands name (names_at l n)) same s))

-- one clause more
pub entered_last : {N : Type 0} (is_too_large : N → Bool) (a b : N → ℕ → Type 0) (names now : List (List N))
    (own : List N) → now ≡ names ++ own ∷ [] → KeepsNumbers a b →
    AreEntered is_too_large a names → ((name : N) → Stands name own → IsEntered is_too_large b (length names) name) →
    AreEntered is_too_large b now
entered_last {N} is_too_large a b names now own more keeps entered this n name s =
    elim (at_last names n (subst (λ l. Stands name (names_at l n)) more s)) [
      | inl h ↦ still_entered is_too_large a b keeps n name (entered n name h)
      | inr e ↦ subst (λ k. IsEntered is_too_large b k name) (sym e.1) (this name e.0)
    ]
  where
    at_last : (xs : List (List N)) (k : ℕ) → Stands name (names_at (xs ++ own ∷ []) k) →
        Stands name (names_at xs k) ⊎ (Stands name own × (k ≡ length xs))
    at_last [] zero h = inr (h, refl)
    at_last [] (suc k) h = elim h [ ]
    at_last (x ∷ xs) zero h = inl h
    at_last (x ∷ xs) (suc k) h = elim (at_last xs k h) [ inl o ↦ inl o | inr o ↦ inr (o.0, ap suc o.1) ]

-- a clause that isn't hot lacks a name where all are hot that stand under it
pub entered_lacks : {N : Type 0} (is_too_large : N → Bool) (under : N → ℕ → Type 0) (names : List (List N))
    (cs : List TrackedClause) (name : N) → AreEntered is_too_large under names →
    is_too_large name ≡ false → ((n : ℕ) (c : TrackedClause) → under name n → slice_get cs n ≡ Some c →
    c.is_hot ≡ true) → ColdLack name names cs
entered_lacks is_too_large under names cs name entered fits hot n c is cool k d lt same =
    go (entered n name (subst (λ m. Stands m (names_at names n)) same (read_stands (names_at names n) k d lt)))
  where
    go : IsEntered is_too_large under n name → ⊥
    go (inl large) = true≢false (sym large ∙ fits)
    go (inr s) = true≢false (sym (hot n c s is) ∙ cool)
