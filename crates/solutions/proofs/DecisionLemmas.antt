-- Tests that visit one member of a list after another, and end at the first one that fails.
use Rattle.std.proofs.Common.{◌≡◌, ◌∙◌, ℕ, ◌+◌, ◌≤◌, ◌<◌, Bool, true, false, ◌||◌, List, [], ◌∷◌, length, map, take}
use Rattle.std.proofs.Common.{get_or, ap, sym, subst, true≢false, refl}
use Rattle.std.specs.Prelude.{IfOk}
use Rattle.std.proofs.lemmas.List.{take_all}
use Rattle.std.proofs.lemmas.List.Elements.{All-more}
use Rattle.solutions.proofs.Words.{All, Decides, Err, list_any, Ok, OnOk, Result}

-- what is so is decided by true, and what isn't by false
pub decides_true : {P : Type 0} → P → Decides true P
decides_true holds = (λ e. holds, λ h. refl)

pub decides_false : {P : Type 0} → (P → ⊥) → Decides false P
decides_false {P} fails = (λ e. absurd (true≢false (sym e)), λ h. absurd (fails h))

-- what is decided by false isn't so
pub refuted : {P : Type 0} {b : Bool} → b ≡ false → Decides b P → P → ⊥
refuted is decides holds = true≢false (sym (decides.1 holds) ∙ is)

module _ {X : Type 0} (P : X → Type 0) (xs : List X) (i : ℕ) where
  -- all were visited
  pub none_fails : length xs ≤ i → All P (take i xs) → Decides true (All P xs)
  none_fails end all = decides_true (subst (All P) (take_all i xs end) all)

  -- the next one doesn't
  pub next_holds : (x : X) → i < length xs → x ≡ get_or xs i x → P x → All P (take i xs) → All P (take (i + 1) xs)
  next_holds x below is holds all = All-more P xs i x below all (subst P is holds)

-- a list of lists of which one passes a test
pub some_passes : {L X : Type 0} (items : L → List X) (test : List X → Bool) (lists : List L) →
    list_any test (map items lists) ≡ list_any (λ list. test (items list)) lists
some_passes items test [] = refl
some_passes items test (list ∷ lists) = ap (λ b. test (items list) || b) (some_passes items test lists)

-- where there is an answer, what follows from it
pub answered : {T E : Type 0} {P Q : T → Type 0} (r : Result T E) → ((x : T) → P x → Q x) → IfOk r P → IfOk r Q
answered (Ok x) follows holds = follows x holds
answered (Err e) follows holds = holds

-- where there is an answer, what follows from it and from what is done
pub answered_where : {T E : Type 0} {P Q : T → Type 0} {D : Type 0} (r : Result T E) → ((x : T) → D → P x → Q x) →
    OnOk r D → IfOk r P → IfOk r Q
answered_where (Ok x) follows holds answer = follows x holds answer
answered_where (Err e) follows holds answer = answer

-- where something is done, what follows from it
pub done : {T E : Type 0} {P Q : Type 0} (r : Result T E) → (P → Q) → OnOk r P → OnOk r Q
done (Ok x) follows holds = follows holds
done (Err e) follows holds = holds

-- where there is an answer, what holds of it for each
pub ok_each : {T E H : Type 0} (Q : T → H → Type 0) (r : Result T E) → ((h : H) → IfOk r (λ x. Q x h)) →
    IfOk r (λ x. (h : H) → Q x h)
ok_each Q (Ok x) each = each
ok_each Q (Err e) each = tt
