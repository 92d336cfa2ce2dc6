-- What clauses say of selections, one clause and one literal after another.
use Rattle.std.proofs.Common.{◌≡◌, ◌∙◌, ℕ, ◌+◌, ◌<◌, Bool, true, false, not, ◌||◌, ◌&&◌, List, [], ◌∷◌, ◌++◌, length}
use Rattle.std.proofs.Common.{take, get_or, map, ap, refl, sym, subst, true≢false, if◌then◌else◌}
use Rattle.std.proofs.lemmas.List.{take_more}
use Rattle.std.proofs.lemmas.Option.{get_or_from_slice_get, slice_get-get_or}
use Rattle.std.proofs.lemmas.List.Folds.{list_any-append, list_all-append, list_any_at}
use Rattle.solutions.proofs.Words.{All, AreAllFit, AreNeedsSatisfied, AreSatisfied, AreStillSatisfied}
use Rattle.solutions.proofs.Words.{ConditionalRequirement, has_true, HasTrueOr, Held, is_among, is_respected}
use Rattle.solutions.proofs.Words.{is_satisfied, is_true, IsClauseAdded, IsFit, IsSatisfied, Known, knows_requirement}
use Rattle.solutions.proofs.Words.{list_all, list_any, Literal, matching, Needs, non_matching, NonePickedUnless, Picked}
use Rattle.solutions.proofs.Words.{Provider, Requirement, sets_of, truth, Vec, VersionSetId}
use Rattle.solutions.proofs.DecisionLemmas.{some_passes}
use Rattle.std.proofs.lemmas.List.Elements.{All-nil, All-cons, All-append, All-head, All-tail, All-get_or}
use Rattle.solutions.specs.Solutions.{has_picked}

or_nothing : (b : Bool) → (b || false) ≡ b
or_nothing true = refl
or_nothing false = refl

or_assoc : (a b c : Bool) → ((a || b) || c) ≡ (a || (b || c))
or_assoc true b c = refl
or_assoc false b c = refl

not_and : (a b : Bool) → not (a && (b && true)) ≡ (not a || not b)
not_and true true = refl
not_and true false = refl
not_and false b = refl

both_true : (a b : Bool) → (a && b) ≡ true → (a ≡ true) × (b ≡ true)
both_true true b h = (refl, h)
both_true false b h = absurd (true≢false (sym h))

both_false : (a b : Bool) → (a || b) ≡ false → (a ≡ false) × (b ≡ false)
both_false true b h = absurd (true≢false h)
both_false false b h = (refl, h)

not_false : (b : Bool) → not b ≡ false → b ≡ true
not_false true h = refl
not_false false h = absurd (true≢false h)

pub not_is_true : (b : Bool) → not b ≡ true → b ≡ false
not_is_true true h = absurd (true≢false (sym h))
not_is_true false h = refl

module _ {X : Type 0} (f : X → Bool) (xs : List X) (i : ℕ) (x : X) (below : i < length xs)
    (is : x ≡ get_or xs i x) where
  more : take (i + 1) xs ≡ take i xs ++ x ∷ []
  more = take_more xs i x below ∙ ap (λ y. take i xs ++ y ∷ []) (sym is)

  -- some of one more element, and all
  pub any_more : list_any f (take (i + 1) xs) ≡ (list_any f (take i xs) || f x)
  any_more = ap (list_any f) more ∙ list_any-append f (take i xs) (x ∷ [])
      ∙ ap (λ b. list_any f (take i xs) || b) (or_nothing (f x))

  pub not_all_more : not (list_all f (take (i + 1) xs)) ≡ (not (list_all f (take i xs)) || not (f x))
  not_all_more = ap (λ l. not (list_all f l)) more ∙ ap not (list_all-append f (take i xs) (x ∷ []))
      ∙ not_and (list_all f (take i xs)) (f x)

-- one of a list
module _ {X : Type 0} (f : X → Bool) where
  pub none_of : (xs : List X) → list_any f xs ≡ false → All (λ y. f y ≡ false) xs
  none_of [] none = All-nil (λ y. f y ≡ false)
  none_of (x ∷ xs) none =
      let both = both_false (f x) (list_any f xs) none in
      All-cons (λ y. f y ≡ false) x xs both.0 (none_of xs both.1)

  pub none_at : (xs : List X) (i : ℕ) (x : X) → i < length xs → x ≡ get_or xs i x → list_any f xs ≡ false → f x ≡ false
  none_at xs i x below is none = subst (λ y. f y ≡ false) (sym is)
      (All-get_or (λ y. f y ≡ false) xs i x below (none_of xs none))

module _ {N S A : Type 0} (p : Provider N S) where
  pub still : (IsSo : List S → Type 0) (clauses : List (Vec (Literal N S) A)) → AreStillSatisfied p IsSo clauses clauses
  still IsSo clauses = λ picked so met. met

  pub still_then : (IsSo : List S → Type 0) (one two three : List (Vec (Literal N S) A)) →
      AreStillSatisfied p IsSo one two
      → AreStillSatisfied p IsSo two three → AreStillSatisfied p IsSo one three
  still_then IsSo one two three f g = λ picked so met. g picked so (f picked so met)

  pub still_where : (IsSo Asks : List S → Type 0) (one two : List (Vec (Literal N S) A))
      → ((picked : List S) → Asks picked → IsSo picked) → AreStillSatisfied p IsSo one two →
      AreStillSatisfied p Asks one two
  still_where IsSo Asks one two so f = λ picked asked met. f picked (so picked asked) met

  pub still_one : (IsSo : List S → Type 0) (one two : List (Vec (Literal N S) A)) (clause : Vec (Literal N S) A)
      → two ≡ one ++ clause ∷ [] → ((picked : List S) → IsSo picked → has_true (truth p picked) clause.items ≡ true)
      → AreStillSatisfied p IsSo one two
  still_one IsSo one two clause is has = λ picked so met.
      let P = λ (c : Vec (Literal N S) A). has_true (truth p picked) c.items ≡ true in
      subst (AreSatisfied (truth p picked)) (sym is) (All-append P one (clause ∷ []) met
      (All-cons P clause [] (has picked so) (All-nil P)))

  pub still_added : (IsSo : List S → Type 0) (one two : List (Vec (Literal N S) A)) (literals : List (Literal N S)) →
      IsClauseAdded one literals two
      → ((picked : List S) → IsSo picked → has_true (truth p picked) literals ≡ true) → AreStillSatisfied p IsSo one two
  still_added IsSo one two literals stated has =
      still_one IsSo one two stated.clause stated.added (λ picked so. ap (has_true (truth p picked)) stated.is
      ∙ has picked so)

module _ {N S : Type 0} (p : Provider N S) where
  pub or_none : (is_so : List S → Bool) (literals : List (Literal N S)) → ((picked : List S) → is_so picked ≡ false)
      → HasTrueOr p is_so literals literals
  or_none is_so literals none = λ picked.
      sym (ap (λ b. has_true (truth p picked) literals || b) (none picked)
      ∙ or_nothing (has_true (truth p picked) literals))

  pub or_one : (is_so : List S → Bool) (one two : List (Literal N S)) (l : Literal N S) → two ≡ one ++ l ∷ []
      → ((picked : List S) → is_true (truth p picked) l ≡ is_so picked) → HasTrueOr p is_so one two
  or_one is_so one two l is so = λ picked.
      ap (has_true (truth p picked)) is ∙ list_any-append (is_true (truth p picked)) one (l ∷ [])
      ∙ ap (λ b. has_true (truth p picked) one || b) (or_nothing (is_true (truth p picked) l) ∙ so picked)

  pub or_then : (f g h : List S → Bool) (one two three : List (Literal N S)) →
      ((picked : List S) → h picked ≡ (f picked || g picked))
      → HasTrueOr p f one two → HasTrueOr p g two three → HasTrueOr p h one three
  or_then f g h one two three is first second = λ picked.
      second picked ∙ ap (λ b. b || g picked) (first picked)
      ∙ or_assoc (has_true (truth p picked) one) (f picked) (g picked)
      ∙ ap (λ b. has_true (truth p picked) one || b) (sym (is picked))

  pub or_same : (f g : List S → Bool) (one two : List (Literal N S)) → ((picked : List S) → f picked ≡ g picked)
      → HasTrueOr p f one two → HasTrueOr p g one two
  or_same f g one two is has = λ picked. has picked ∙ ap (λ b. has_true (truth p picked) one || b) (is picked)

  -- whether a solvable is picked
  pub picked_literal : (l : Literal N S) (s : S) → l.fact ≡ Picked s → l.value ≡ true → (picked : List S)
      → is_true (truth p picked) l ≡ is_among p picked s
  picked_literal l s fact value picked =
      ap (λ v. if v then truth p picked l.fact else not (truth p picked l.fact)) value ∙ ap (truth p picked) fact

  pub unpicked_literal : (l : Literal N S) (s : S) → l.fact ≡ Picked s → l.value ≡ false → (picked : List S)
      → is_true (truth p picked) l ≡ not (is_among p picked s)
  unpicked_literal l s fact value picked =
      ap (λ v. if v then truth p picked l.fact else not (truth p picked l.fact)) value
      ∙ ap (λ f. not (truth p picked f)) fact

  -- a clause that it isn't picked: where it is false, and where it is true
  pub picked_where_false : (l : Literal N S) (s : S) → l.fact ≡ Picked s → l.value ≡ false → (picked : List S)
      → has_true (truth p picked) (l ∷ []) ≡ false → is_among p picked s ≡ true
  picked_where_false l s fact value picked fails =
      not_false (is_among p picked s) (sym (unpicked_literal l s fact value picked)
      ∙ sym (or_nothing (is_true (truth p picked) l)) ∙ fails)

  pub true_where_unpicked : (l : Literal N S) (s : S) → l.fact ≡ Picked s → l.value ≡ false → (picked : List S)
      → is_among p picked s ≡ false → has_true (truth p picked) (l ∷ []) ≡ true
  true_where_unpicked l s fact value picked is =
      or_nothing (is_true (truth p picked) l) ∙ unpicked_literal l s fact value picked ∙ ap not is

  -- a clause of two literals: the second one is that a solvable isn't picked
  pub unpicked_satisfied : (unless l : Literal N S) (solvables : List S) (i : ℕ) (s : S) (picked : List S) →
      i < length solvables
      → s ≡ get_or solvables i s → is_true (truth p picked) l ≡ not (is_among p picked s)
      → NonePickedUnless p (unless ∷ []) picked solvables → has_true (truth p picked) (unless ∷ l ∷ []) ≡ true
  unpicked_satisfied unless l solvables i s picked below is says left_out =
      let u = is_true (truth p picked) unless in
      let v = is_true (truth p picked) l in
      (elim u as (λ b. u ≡ b → (b || (v || false)) ≡ true) [
        | true ↦ λ e. refl
        | false ↦ λ e. ap (λ b. b || false) (says ∙ ap not (none_at (is_among p picked) solvables i s below is
            (left_out (or_nothing u ∙ e))))
      ]) refl

  -- what holds of all selected solvables holds of each one
  pub of_picked : (equal : (s t : S) → p.same_solvable s t ≡ true → s ≡ t) (P : S → Type 0) (picked : List S) (s : S)
      → All P picked → is_among p picked s ≡ true → P s
  of_picked equal P [] s all among = absurd (true≢false (sym among))
  of_picked equal P (t ∷ picked) s all among =
      (elim (p.same_solvable s t) as (λ b. p.same_solvable s t ≡ b → (b || is_among p picked s) ≡ true → P s) [
        | true ↦ λ e h. subst P (sym (equal s t e)) (All-head P t picked all)
        | false ↦ λ e h. of_picked equal P picked s (All-tail P t picked all) h
      ]) refl among

  -- the clause of a requirement
  clause_is_true : (u h m : Bool) → (u ≡ false → (h || false) ≡ true → m ≡ true) → ((u || not h) || m) ≡ true
  clause_is_true true h m given = refl
  clause_is_true false false m given = refl
  clause_is_true false true m given = given refl refl

  pub requirement_satisfied : (unless clause one : List (Literal N S)) (held : List VersionSetId) (picked : List S)
      (m : Bool)
      → HasTrueOr p (λ q. not (list_all (has_picked p (is_among p q)) held)) unless one
      → has_true (truth p picked) clause ≡ (has_true (truth p picked) one || m)
      → (has_true (truth p picked) unless ≡ false → (list_all (has_picked p (is_among p picked)) held || false)
      ≡ true → m ≡ true)
      → has_true (truth p picked) clause ≡ true
  requirement_satisfied unless clause one held picked m first second given =
      second ∙ ap (λ b. b || m) (first picked)
      ∙ clause_is_true (has_true (truth p picked) unless) (list_all (has_picked p (is_among p picked)) held) m given

  -- of a version set
  pub unheld_literal : (l : Literal N S) (set : VersionSetId) → l.fact ≡ Held set → l.value ≡ false → (picked : List S)
      → is_true (truth p picked) l ≡ not (has_picked p (is_among p picked) set)
  unheld_literal l set fact value picked =
      ap (λ v. if v then truth p picked l.fact else not (truth p picked l.fact)) value
      ∙ ap (λ f. not (truth p picked f)) fact

  pub held_literal : (l : Literal N S) (set : VersionSetId) → l.fact ≡ Held set → l.value ≡ true → (picked : List S)
      → is_true (truth p picked) l ≡ has_picked p (is_among p picked) set
  held_literal l set fact value picked =
      ap (λ v. if v then truth p picked l.fact else not (truth p picked l.fact)) value ∙ ap (truth p picked) fact

  pub held_where_known : (set : VersionSetId) (found : List S) (picked : List S) → p.universe.knows_set set ≡ true
      → found ≡ matching p.universe p.answers set → list_any (is_among p picked) found
      ≡ has_picked p (is_among p picked) set
  held_where_known set found picked knows is =
      ap (list_any (is_among p picked)) is
      ∙ ap (λ b. b && list_any (is_among p picked) (matching p.universe p.answers set)) (sym knows)

  pub satisfied_where_known : (requirement : Requirement) (sets : List VersionSetId) (picked : List S) →
      knows_requirement p.universe requirement ≡ true
      → sets ≡ sets_of p.universe requirement
      → list_any (has_picked p (is_among p picked)) sets ≡ is_satisfied p (is_among p picked) requirement
  satisfied_where_known requirement sets picked knows is =
      ap (list_any (has_picked p (is_among p picked))) is
      ∙ ap (λ b. b && list_any (has_picked p (is_among p picked)) (sets_of p.universe requirement)) (sym knows)

  pub unpicked_unless_held : (l : Literal N S) (set : VersionSetId) (found : List S) (picked : List S) →
      l.fact ≡ Held set → l.value ≡ true
      → p.universe.knows_set set ≡ true → found ≡ matching p.universe p.answers set →
      NonePickedUnless p (l ∷ []) picked found
  unpicked_unless_held l set found picked fact value knows is fails =
      held_where_known set found picked knows is ∙ sym (held_literal l set fact value picked)
      ∙ sym (or_nothing (is_true (truth p picked) l)) ∙ fails

  pub none_where_respected : (set : VersionSetId) (picked : List S) → is_respected p (is_among p picked) set ≡ true
      → list_any (is_among p picked) (non_matching p.universe p.answers set) ≡ false
  none_where_respected set picked kept =
      not_is_true (list_any (is_among p picked) (non_matching p.universe p.answers set))
      (both_true (p.universe.knows_set set)
      (not (list_any (is_among p picked) (non_matching p.universe p.answers set))) kept).1

-- one of the lists passes a test
pub some_at : {V X : Type 0} (items : V → List X) (test : List X →
    Bool) (lists : List V) (i : ℕ) (x : V) (list : List X) → i < length lists
    → x ≡ get_or lists i x → list ≡ items x → (test list || false) ≡ true → list_any test (map items lists) ≡ true
some_at items test lists i x list below is same passes =
    some_passes items test lists ∙ list_any_at (λ l. test (items l)) lists i x below
    (ap (λ l. test (items l)) (sym is) ∙ ap test (sym same) ∙ sym (or_nothing (test list)) ∙ passes)

-- an element, whatever stands for one past the end
pub own_default : {X : Type 0} (xs : List X) (i : ℕ) (d : X) → i < length xs →
    get_or xs i d ≡ get_or xs i (get_or xs i d)
own_default xs i d below = sym (get_or_from_slice_get xs i (get_or xs i d) (get_or xs i d)
    (slice_get-get_or xs i d below))
