-- What answers an index by an object.
use Rattle.std.proofs.Common.{◌≡◌, ◌∙◌, ℕ, List, [], ◌∷◌, Option, None, Some, Result, Ok, Err, ap, refl, sym, inl}
use Rattle.std.proofs.Common.{inr, length, map, subst}
use Rattle.example_answers.proofs.IndexLemmas.{IsSaid, read_fault, refused_unreadable}
use Rattle.example_json.proofs.Words.{AreRead, ConditionalRequirement, Data, empty_sets, GaveUp, Global, IndexIsShown}
use Rattle.example_json.proofs.Words.{IndexText, is_empty_at, Line, notes_data, Outcome, places_where, Provider}
use Rattle.example_json.proofs.Words.{ShowsAnswer, ShowsOf, ShowsRefusal, ShowsUnreadable, SmallIndex, Texts}
use Rattle.example_json.proofs.Words.{Unreadable, unreadable_in, VersionSetId}
use Rattle.example_index.specs.declared.fault.IndexFault.TheVariants as Fault

-- ids by their places
pub by_place : (sets : List VersionSetId)
    → map (λ place. record { 0 = place }) (map (λ (set : VersionSetId). set.0) sets) ≡ sets
by_place [] = refl
by_place (set ∷ sets) = ap (λ l. set ∷ l) (by_place sets)

-- the version sets of an index that no version is in
pub sets_by_place : (index : SmallIndex) (sets : List VersionSetId)
    → map (λ (set : VersionSetId). set.0) sets ≡ places_where (is_empty_at index) (length index.pool.version_sets)
    → sets ≡ empty_sets index
sets_by_place index sets are = sym (by_place sets) ∙ ap (map (λ place. record { 0 = place })) are

-- the answer to an index, from one to its request with its notes
pub shows_index : {N S : Type 0} (input : List ℕ) (line : ℕ) (p : Provider N S) (texts : Texts N S) (index : SmallIndex)
    (requested : List ConditionalRequirement) (notes : Data) (outcome : Outcome) (text : List ℕ)
    → requested ≡ index.request.items → notes ≡ notes_data index
    → ShowsAnswer input line Global p texts requested notes outcome text
    → ShowsAnswer input line Global p texts index.request.items (notes_data index) outcome text
shows_index input line p texts index requested notes outcome text same noted shown =
    let Shows = ShowsAnswer input line Global p texts in
    subst (λ n. Shows index.request.items n outcome text) noted
    (subst (λ r. Shows r notes outcome text) same shown)

module _ {N S : Type 0} (functions : SmallIndex → Provider N S) (texts : SmallIndex → Texts N S) (input : List ℕ)
    (given : List Line) (outcome : Outcome) (text : List ℕ) where
  -- the object of an index that was read, of an unreadable line, and of a refusal is that of what is said
  read_here : (line : ℕ) (said : Result IndexText ℕ) (index : SmallIndex) → AreRead IsSaid said (Ok index)
      → IndexIsShown input line functions texts index outcome text
      → ShowsOf input line functions texts given said outcome text
  read_here line (Ok meant) index read (inl refused) = inl refused
  read_here line (Ok meant) index read (inr shown) =
      inr (record { meant = meant; index = index; says_index = refl; is_index = read; says = shown })
  read_here line (Err number) index read shown = absurd read

  unreadable_here : (line : ℕ) (said : Result IndexText ℕ) (number : ℕ)
      → AreRead IsSaid said (Err (Fault.Unreadable number)) → ShowsUnreadable input line given number outcome text
      → ShowsOf input line functions texts given said outcome text
  unreadable_here line (Ok meant) number read shown = absurd read
  unreadable_here line (Err place) number read shown =
      inr (subst (λ k. ShowsUnreadable input line given k outcome text) read shown)

  refused_here : (line : ℕ) (said : Result IndexText ℕ) → ShowsRefusal input line outcome text
      → ShowsOf input line functions texts given said outcome text
  refused_here line (Ok meant) shown = inl shown
  refused_here line (Err number) shown = inl shown

  -- the same, where the line is told apart
  module _ (line first : ℕ) (same : line ≡ first) (said : Result IndexText ℕ) where
    pub shows_read : (index : SmallIndex) → AreRead IsSaid said (Ok index)
        → IndexIsShown input line functions texts index outcome text
        → ShowsOf input first functions texts given said outcome text
    shows_read index read shown =
        subst (λ n. ShowsOf input n functions texts given said outcome text) same
        (read_here line said index read shown)

    pub shows_unreadable : (number : ℕ) → AreRead IsSaid said (Err (Fault.Unreadable number))
        → ShowsUnreadable input line given number outcome text
        → ShowsOf input first functions texts given said outcome text
    shows_unreadable number read shown =
        subst (λ n. ShowsOf input n functions texts given said outcome text) same
        (unreadable_here line said number read shown)

    pub shows_refused : ShowsRefusal input line outcome text
        → ShowsOf input first functions texts given said outcome text
    shows_refused shown =
        subst (λ n. ShowsOf input n functions texts given said outcome text) same (refused_here line said shown)

-- the number of the line that is unreadable
line_unreadable : (said : Result IndexText ℕ) (number : ℕ) → said ≡ Err number
    → Some number ≡ unreadable_in said Unreadable
line_unreadable said number is = sym (ap (λ (s : Result IndexText ℕ). unreadable_in s Unreadable) is)

pub unreadable_told : (said : Result IndexText ℕ) (number : ℕ) (told : Option ℕ) (outcome : Outcome)
    → AreRead IsSaid said (Err (Fault.Unreadable number)) → told ≡ Some number → outcome ≡ Unreadable
    → told ≡ unreadable_in said outcome
unreadable_told said number told outcome read same is =
    same ∙ line_unreadable said number (read_fault said (Fault.Unreadable number) read)
    ∙ ap (unreadable_in said) (sym is)

-- there is none if memory was refused
pub none_told : (said : Result IndexText ℕ) (told : Option ℕ) (outcome : Outcome) → told ≡ None → outcome ≡ GaveUp
    → told ≡ unreadable_in said outcome
none_told said told outcome same is = same ∙ refused_unreadable said ∙ ap (unreadable_in said) (sym is)
