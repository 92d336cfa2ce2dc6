-- What follows, one step after another.
use Rattle.std.proofs.Common.{◌≡◌, ◌∙◌, ℕ, ◌<◌, Bool, true, false, not, List, [], ◌∷◌, ◌++◌, if◌then◌else◌, length}
use Rattle.std.proofs.Common.{take, get_or, ap, refl, sym, subst, true≢false, append_assoc, arith}
use Rattle.std.proofs.lemmas.List.{append-nil, take-append-le, take_all}
use Rattle.std.proofs.lemmas.List.Elements.{All-nil, All-cons, All-head, All-tail, All-get_or}
use Rattle.solutions.proofs.Words.{All, AreTrue, Fact, Follows, is_true, Literal}

not_true : (b : Bool) → not b ≡ true → b ≡ true → ⊥
not_true true e f = true≢false (sym e)
not_true false e f = true≢false (sym f)

-- what holds of all of two lists holds of the first one's
pub all_left : {X : Type 0} (P : X → Type 0) (xs ys : List X) → All P (xs ++ ys) → All P xs
all_left P [] ys all = All-nil P
all_left P (x ∷ xs) ys all = All-cons P x xs (All-head P x (xs ++ ys) all)
    (all_left P xs ys (All-tail P x (xs ++ ys) all))

module _ {N S : Type 0} where
  -- nothing follows of nothing
  pub follows_none : (IsSuch : (Fact N S → Bool) → Type 0) (known : List (Literal N S)) →
      Follows IsSuch known known false
  follows_none IsSuch known = record {
    more = [];
    is_more = sym (append-nil known);
    are_true = λ holds such true_ones. true_ones;
    refuted = λ e holds such true_ones. true≢false (sym e);
  }

  -- what isn't such that all of it is true is refuted
  pub follows_refuted : (IsSuch : (Fact N S → Bool) → Type 0) (known : List (Literal N S))
      → ((holds : Fact N S → Bool) → IsSuch holds → AreTrue holds known → ⊥) → Follows IsSuch known known true
  follows_refuted IsSuch known none = record {
    more = [];
    is_more = sym (append-nil known);
    are_true = λ holds such true_ones. true_ones;
    refuted = λ e. none;
  }

  -- what follows of what follows
  pub follows_then : (IsSuch : (Fact N S → Bool) → Type 0) (one two three : List (Literal N S)) (first answer : Bool)
      → Follows IsSuch one two first → Follows IsSuch two three answer → Follows IsSuch one three answer
  follows_then IsSuch one two three first answer f g = record {
    more = f.more ++ g.more;
    is_more = g.is_more ∙ ap (λ known. known ++ g.more) f.is_more ∙ append_assoc one f.more g.more;
    are_true = λ holds such true_ones. g.are_true holds such (f.are_true holds such true_ones);
    refuted = λ e holds such true_ones. g.refuted e holds such (f.are_true holds such true_ones);
  }

  -- what follows if less is assumed
  pub follows_where : (IsSuch Asks : (Fact N S → Bool) → Type 0) (known now : List (Literal N S)) (answer : Bool)
      → ((holds : Fact N S → Bool) → Asks holds → AreTrue holds known → IsSuch holds)
      → Follows IsSuch known now answer → Follows Asks known now answer
  follows_where IsSuch Asks known now answer such f = record {
    more = f.more;
    is_more = f.is_more;
    are_true = λ holds asked true_ones. f.are_true holds (such holds asked true_ones) true_ones;
    refuted = λ e holds asked true_ones. f.refuted e holds (such holds asked true_ones) true_ones;
  }

  -- a literal of which it is known whether it is
  pub follows_known : (l : Literal N S) (known : List (Literal N S)) (value : Bool)
      → ((holds : Fact N S → Bool) → AreTrue holds known → is_true holds l ≡ value)
      → Follows (λ holds. is_true holds l ≡ true) known known (not value)
  follows_known l known value is = record {
    more = [];
    is_more = sym (append-nil known);
    are_true = λ holds such true_ones. true_ones;
    refuted = λ e holds such true_ones. not_true value e (sym (is holds true_ones) ∙ such);
  }

  -- literals that are true are true one after another
  pub true_at : (holds : Fact N S → Bool) (known : List (Literal N S)) (i : ℕ) (l : Literal N S) → i < length known
      → l ≡ get_or known i l → AreTrue holds known → is_true holds l ≡ true
  true_at holds known i l below is true_ones =
      subst (λ k. is_true holds k ≡ true) (sym is) (All-get_or (λ k. is_true holds k ≡ true) known i l below true_ones)

  -- one more step
  pub follows_step : (IsSuch IsOne : (Fact N S → Bool) → Type 0) (known next now : List (Literal N S))
      (answer wanted : Bool) → answer ≡ wanted
      → ((holds : Fact N S → Bool) → IsSuch holds → AreTrue holds next → IsOne holds)
      → Follows IsSuch known next false → Follows IsOne next now answer → Follows IsSuch known now wanted
  follows_step IsSuch IsOne known next now answer wanted is such f g =
      subst (Follows IsSuch known now) is (follows_then IsSuch known next now false answer f
      (follows_where IsOne IsSuch next now answer such g))

  -- a literal that is true, and one that says of a fact that it isn't so
  pub positive : (holds : Fact N S → Bool) (l : Literal N S) → l.value ≡ true → is_true holds l ≡ true →
      holds l.fact ≡ true
  positive holds l value e = sym (ap (λ v. if v then holds l.fact else not (holds l.fact)) value) ∙ e

  -- the literals that were known before come first
  pub follows_take : (IsSuch : (Fact N S → Bool) → Type 0) (known now : List (Literal N S)) (answer : Bool) →
      Follows IsSuch known now answer
      → take (length known) now ≡ known
  follows_take IsSuch known now answer f =
      ap (take (length known)) f.is_more ∙ take-append-le (length known) known f.more (omega arith)
      ∙ take_all (length known) known (omega arith)
