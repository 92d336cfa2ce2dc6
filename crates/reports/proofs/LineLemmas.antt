-- What lines tell, as they grow.
use Rattle.std.proofs.Common.{◌≡◌, ◌∙◌, ℕ, zero, suc, Bool, true, false, List, [], ◌∷◌, ◌++◌, map, Option, None, Some}
use Rattle.std.proofs.Common.{arith, refl, sym, ap, subst, true≢false}
use Rattle.std.proofs.Common.{◌+◌, ◌<◌, ◌≤◌, add-one, append_assoc, drop, get_or, length, option_to_list}
use Rattle.std.proofs.Common.{slice_get, take}
use Rattle.std.proofs.Math.Seq.{take-suc}
use Rattle.std.proofs.Math.ListN.{set}
use Rattle.std.specs.List.{All}
use Rattle.std.specs.List.Sorted.{IsPermutation}
use Rattle.std.proofs.lemmas.List.{append-nil, drop_all, map-append, take_all}
use Rattle.std.proofs.lemmas.List.Elements.{All-cons, All-head, All-nil, All-push, All-tail}
use Rattle.std.proofs.lemmas.Grind.{flat_map-append}
use Rattle.std.proofs.lemmas.List.Sorted.{IsPermutation-refl, IsPermutation-trans, IsPermutation-append_comm}
use Rattle.std.proofs.lemmas.List.Sorted.{IsPermutation-append_left, IsPermutation-append_right}
use Rattle.reports.specs.Lines.{told, told_of, told_by, said_of, solvable_of, AreOfOnePackage, AreTold, IsOfOnePackage}
use Rattle.reports.specs.Lines.{Joins, JoinsOne, TellMore}
use Rattle.reports.specs.declared.line.Line.{Line}
use Rattle.solutions.specs.declared.reason.Reason.{Reason}
use Rattle.solutions.specs.declared.reason.Reason.TheVariants.{Needs, Lacks, Limits, Unknown, Excluded}
use Rattle.solutions.specs.declared.reason.Reason.TheVariants.{Locked, OneVersion}

-- a reason, said of its own solvable, is itself
pub said_own : {N S : Type 0} (reason : Reason N S) (s : S) → solvable_of reason ≡ Some s → said_of reason s ≡ reason
said_own (Needs None need) s h = cc
said_own (Needs (Some t) need) s h = cc
said_own (Lacks None need) s h = cc
said_own (Lacks (Some t) need) s h = cc
said_own (Limits t set) s h = cc
said_own (Unknown t string) s h = cc
said_own (Excluded t string) s h = cc
said_own (Locked t) s h = cc
said_own (OneVersion name) s h = cc

-- a line of a reason and its solvable tells it
told_first : {N S : Type 0} (reason : Reason N S) (o : Option S) → solvable_of reason ≡ o
    → told_of reason (option_to_list o) ≡ reason ∷ []
told_first reason None h = refl
told_first reason (Some s) h = ap (λ r. r ∷ []) (said_own reason s h)

pub told_one : {N S : Type 0} (reason : Reason N S) (versions : List S) → versions ≡ option_to_list (solvable_of reason)
    → told_of reason versions ≡ reason ∷ []
told_one reason versions h = ap (told_of reason) h ∙ told_first reason (solvable_of reason) refl

-- a version of no more than one is of one package
pub one_of_one : {N S : Type 0} (name : S → N) (o : Option S) → AreOfOnePackage name (option_to_list o)
one_of_one name None = tt
one_of_one name (Some s) = All-nil (λ version. name version ≡ name s)

-- a further version
pub told_more : {N S : Type 0} (reason : Reason N S) (versions : List S) (first s : S)
    → slice_get versions 0 ≡ Some first
    → told_of reason (versions ++ s ∷ []) ≡ told_of reason versions ++ said_of reason s ∷ []
told_more reason [] first s h = cc
told_more reason (v ∷ versions) first s h =
    ap (λ t. said_of reason v ∷ t) (map-append (said_of reason) versions (s ∷ []))

pub one_package_more : {N S : Type 0} (name : S → N) (versions : List S) (first s : S)
    → slice_get versions 0 ≡ Some first → name s ≡ name first → AreOfOnePackage name versions
    → AreOfOnePackage name (versions ++ s ∷ [])
one_package_more name [] first s h same all = All-nil (λ version. name version ≡ name s)
one_package_more name (v ∷ versions) first s h same all =
    let is : name s ≡ name v = cc in
    All-push (λ version. name version ≡ name v) versions s all is

-- one of the lines tells a further reason
pub told_at : {N S A : Type 0} (lines : List (Line N S A)) (place : ℕ) (old new : Line N S A) (reason : Reason N S)
    → place < length lines → old ≡ get_or lines place old → told new ≡ told old ++ reason ∷ []
    → IsPermutation (told_by lines ++ reason ∷ []) (told_by (set lines place new))
told_at [] place old new reason below at is = absurd (omega arith)
told_at {N} {S} (line ∷ lines) zero old new reason below at is =
    let one : List (Reason N S) = reason ∷ [] in
    let moved : IsPermutation (told line ++ (told_by lines ++ one)) (told line ++ (one ++ told_by lines)) =
    IsPermutation-append_right (told line) _ _ (IsPermutation-append_comm (told_by lines) one) in
    let left : told line ++ (told_by lines ++ one) ≡ (told line ++ told_by lines) ++ one =
    sym (append_assoc (told line) (told_by lines) one) in
    let right : told line ++ (one ++ told_by lines) ≡ told new ++ told_by lines =
    sym (append_assoc (told line) one (told_by lines))
    ∙ (ap (λ l. (told l ++ one) ++ told_by lines) (sym at) ∙ ap (λ t. t ++ told_by lines) (sym is)) in
    subst (λ (xs : List (Reason N S)). IsPermutation xs (told new ++ told_by lines)) left
    (subst (λ (ys : List (Reason N S)). IsPermutation (told line ++ (told_by lines ++ one)) ys) right moved)
told_at {N} {S} (line ∷ lines) (suc place) old new reason below at is =
    let one : List (Reason N S) = reason ∷ [] in
    let rest : IsPermutation (told_by lines ++ one) (told_by (set lines place new)) =
    told_at lines place old new reason (omega arith) at is in
    subst (λ (xs : List (Reason N S)). IsPermutation xs (told line ++ told_by (set lines place new)))
    (sym (append_assoc (told line) (told_by lines) one))
    (IsPermutation-append_right (told line) _ _ rest)

pub one_package_at : {N S A : Type 0} (name : S → N) (lines : List (Line N S A)) (place : ℕ) (old new : Line N S A)
    → place < length lines → old ≡ get_or lines place old → (IsOfOnePackage name old → IsOfOnePackage name new)
    → All (IsOfOnePackage name) lines → All (IsOfOnePackage name) (set lines place new)
one_package_at name [] place old new below at is all = all
one_package_at {N} {S} {A} name (line ∷ lines) zero old new below at is all =
    let P : Line N S A → Type 0 = λ l. IsOfOnePackage name l in
    All-cons P new lines (is (subst P (sym at) (All-head P line lines all))) (All-tail P line lines all)
one_package_at {N} {S} {A} name (line ∷ lines) (suc place) old new below at is all =
    let P : Line N S A → Type 0 = λ l. IsOfOnePackage name l in
    All-cons P line (set lines place new) (All-head P line lines all)
    (one_package_at name lines place old new (omega arith) at is (All-tail P line lines all))

unchanged_at : {N S A : Type 0} (lines : List (Line N S A)) (place : ℕ) (old : Line N S A)
    → place < length lines → old ≡ get_or lines place old → set lines place old ≡ lines
unchanged_at [] place old below at = refl
unchanged_at (line ∷ lines) zero old below at = ap (λ l. l ∷ lines) at
unchanged_at (line ∷ lines) (suc place) old below at =
    ap (λ rest. line ∷ rest) (unchanged_at lines place old (omega arith) at)

pub joined_at : {N S A : Type 0} (name : S → N) (lines after : List (Line N S A)) (place : ℕ) (old new : Line N S A)
    (reason : Reason N S) (joins : Bool) → place < length lines → old ≡ get_or lines place old
    → after ≡ set lines place new → Joins name old new reason joins → JoinsOne name lines after reason joins
joined_at {N} {S} {A} name lines after place old new reason true below at is joins =
    subst (λ (t : List (Line N S A)). JoinsOne name lines t reason true) (sym is)
    (record {
      exactly = told_at lines place old new reason below at joins.0;
      one_package = one_package_at name lines place old new below at joins.1;
    })
joined_at name lines after place old new reason false below at is same =
    is ∙ (ap (set lines place) same ∙ unchanged_at lines place old below at)

-- a line of a further reason comes to the end
pub begun : {N S A : Type 0} (name : S → N) (old new : List (Line N S A)) (line : Line N S A) (reason : Reason N S)
    → new ≡ old ++ line ∷ [] → line.reason ≡ reason → line.versions.items ≡ option_to_list (solvable_of reason)
    → TellMore name old new reason
begun {N} {S} {A} name old new line reason is same versions =
    let one : told line ≡ reason ∷ [] = ap (λ r. told_of r line.versions.items) same ∙ told_one reason _ versions in
    let all : told_by new ≡ told_by old ++ reason ∷ [] =
    ap told_by is ∙ (flat_map-append told old (line ∷ []) ∙ ap (λ t. told_by old ++ (t ++ [])) one) in
    let of_one : IsOfOnePackage name line =
    subst (AreOfOnePackage name) (sym versions) (one_of_one name (solvable_of reason)) in
    record {
      exactly = subst (λ (t : List (Reason N S)). IsPermutation (told_by old ++ reason ∷ []) t) (sym all)
          (IsPermutation-refl _);
      one_package = λ (before : All (IsOfOnePackage name) old).
          subst (λ (lines : List (Line N S A)). All (IsOfOnePackage name) lines) (sym is)
          (All-push (IsOfOnePackage name) old line before of_one);
    }

-- what a call wrote to a list's elements
pub written_back : {X : Type 0} (count : ℕ) (new old : List X) → length new ≡ length old → count ≡ length old
    → take count (new ++ drop (length new) old) ≡ new
written_back count new old same full =
    ap (λ rest. take count (new ++ rest)) (drop_all (length new) old (omega arith))
    ∙ (ap (take count) (append-nil new) ∙ take_all count new (omega arith))

-- if no line tells it too
pub begun_if_none : {N S A : Type 0} (name : S → N) (old seen between shown new : List (Line N S A))
    (reason : Reason N S) (joins : Bool) → joins ≡ false → seen ≡ old → shown ≡ between
    → JoinsOne name seen between reason joins
    → TellMore name shown new reason → TellMore name old new reason
begun_if_none name old seen between shown new reason true h was is joined more = absurd (true≢false h)
begun_if_none {N} {S} {A} name old seen between shown new reason false h was is same more =
    subst (λ (lines : List (Line N S A)). TellMore name lines new reason) (is ∙ (same ∙ was)) more

-- the line tells the reason too
pub joined : {N S A : Type 0} (name : S → N) (old new : Line N S A) (reason : Reason N S) (first s : S)
    → slice_get old.versions.items 0 ≡ Some first → said_of old.reason s ≡ reason → name s ≡ name first
    → new.reason ≡ old.reason → new.versions.items ≡ old.versions.items ++ s ∷ [] → Joins name old new reason true
joined name old new reason first s at said same kept pushed = (
  ap (λ r. told_of r new.versions.items) kept ∙ ap (told_of old.reason) pushed
      ∙ told_more old.reason old.versions.items first s at ∙ ap (λ r. told old ++ r ∷ []) said,
  λ all. subst (AreOfOnePackage name) (sym pushed) (one_package_more name old.versions.items first s at same all),
)

-- the reasons so far
module _ {N S A : Type 0} (name : S → N) (reasons : List (Reason N S)) where
  pub none_told : (lines : List (Line N S A)) → lines ≡ [] → AreTold name (take 0 reasons) lines
  none_told lines is =
      subst (λ (t : List (Line N S A)). AreTold name (take 0 reasons) t) (sym is)
      (record { exactly = IsPermutation-refl []; one_package = All-nil (IsOfOnePackage name) })

  pub one_told : (old new : List (Line N S A)) (i : ℕ) (reason : Reason N S) → i < length reasons
      → reason ≡ get_or reasons i reason → AreTold name (take i reasons) old → TellMore name old new reason
      → AreTold name (take (i + 1) reasons) new
  one_told old new i reason below at told more =
      let longer : take (i + 1) reasons ≡ take i reasons ++ reason ∷ [] =
      ap (λ n. take n reasons) (add-one i) ∙ (take-suc reasons i reason below
      ∙ ap (λ r. take i reasons ++ r ∷ []) (sym at)) in
      record {
        exactly = subst (λ (t : List (Reason N S)). IsPermutation t (told_by new)) (sym longer)
            (IsPermutation-trans _ _ _ (IsPermutation-append_left (reason ∷ []) _ _ told.exactly) more.exactly);
        one_package = more.one_package told.one_package;
      }

  pub all_told : (lines : List (Line N S A)) (i : ℕ) → length reasons ≤ i → AreTold name (take i reasons) lines
      → AreTold name reasons lines
  all_told lines i past told =
      subst (λ (t : List (Reason N S)). AreTold name t lines) (take_all i reasons past) told
