-- Lists that are cut into parts.
use Rattle.std.proofs.Common.{◌≡◌, ◌∙◌, ℕ, ◌+◌, ◌<◌, length, Option, None, Some, Bool, true, false, List, [], ◌∷◌}
use Rattle.std.proofs.Common.{◌++◌, arith, refl, ap, sym}
use Rattle.std.specs.Prelude.{if◌then◌else◌, IfSome}
use Rattle.std.specs.Borrow.{Bor}
use Rattle.std.specs.List.{slice_split, onto_first}
use Rattle.std.proofs.lemmas.List.{append_assoc, append-nil}
use Rattle.std.proofs.lemmas.List.Splits.{slice_split-cons_yes, slice_split-cons_no}
use Rattle.index_text.specs.Entries.{starts, put_front}

module _ {X : Type 0} (begins : X → Bool) where
  starting_parts : (front : List X) (x : X) (part : List X) (parts : List (List X)) (b : Bool) → begins x ≡ true
      → put_front begins front (if b then (x ∷ []) ∷ part ∷ parts else (x ∷ part) ∷ parts)
      ≡ front ∷ (if b then (x ∷ []) ∷ part ∷ parts else (x ∷ part) ∷ parts)
  starting_parts front x part parts true h =
      ap (λ b. if b then front ∷ (x ∷ []) ∷ part ∷ parts else (front ++ x ∷ []) ∷ part ∷ parts) h
  starting_parts front x part parts false h =
      ap (λ b. if b then front ∷ (x ∷ part) ∷ parts else (front ++ x ∷ part) ∷ parts) h

  -- one that begins a part leaves what is put in front of it a part of its own
  pub put_front-starts : (front : List X) (x : X) (parts : List (List X)) → begins x ≡ true
      → put_front begins front (put_front begins (x ∷ []) parts) ≡ front ∷ put_front begins (x ∷ []) parts
  put_front-starts front x [] h = ap (λ b. if b then front ∷ (x ∷ []) ∷ [] else (front ++ x ∷ []) ∷ []) h
  put_front-starts front x (part ∷ parts) h = starting_parts front x part parts (starts begins part) h

-- elements before the first of the parts between separators
abbrev pub onto_front : {X : Type 0} → List X → List (List X) → List (List X)
onto_front front [] = front ∷ []
onto_front front (part ∷ parts) = (front ++ part) ∷ parts

onto_front-first : {X : Type 0} (front : List X) (x : X) (parts : List (List X))
    → onto_front front (onto_first x parts) ≡ onto_front (front ++ x ∷ []) parts
onto_front-first front x [] = refl
onto_front-first front x (part ∷ parts) = ap (λ whole. whole ∷ parts) (sym (append_assoc front (x ∷ []) part))

module _ {X : Type 0} (separates : X → Bool) where
  -- one element that doesn't separate lies behind those before it
  pub onto_front-more : (front : List X) (x : X) (xs : List X) → separates x ≡ false
      → onto_front front (slice_split separates (x ∷ xs)) ≡ onto_front (front ++ x ∷ []) (slice_split separates xs)
  onto_front-more front x xs h =
      ap (onto_front front) (slice_split-cons_no separates x xs h) ∙ onto_front-first front x (slice_split separates xs)

  -- one that separates ends the part before it
  pub onto_front-ends : (front : List X) (x : X) (xs : List X) → separates x ≡ true
      → onto_front front (slice_split separates (x ∷ xs)) ≡ front ∷ slice_split separates xs
  onto_front-ends front x xs h =
      ap (onto_front front) (slice_split-cons_yes separates x xs h)
      ∙ ap (λ whole. whole ∷ slice_split separates xs) (append-nil front)

  pub onto_front-last : (front : List X) → onto_front front (slice_split separates []) ≡ front ∷ []
  onto_front-last front = ap (λ whole. whole ∷ []) (append-nil front)

-- how many words are left, and one more if there is a part behind
abbrev pub words_left : {X : Type 0} → Option (Bor (List X)) → ℕ
words_left None = 0
words_left (Some rest) = length rest.now + 1

-- without elements before them parts are as they are
nothing_onto : {X : Type 0} (x : X) (parts : List (List X)) (b : Bool)
    → onto_front [] (if b then [] ∷ parts else onto_first x parts) ≡ (if b then [] ∷ parts else onto_first x parts)
nothing_onto x parts true = refl
nothing_onto x [] false = refl
nothing_onto x (part ∷ parts) false = refl

pub onto_front-nothing : {X : Type 0} (separates : X → Bool) (xs : List X)
    → onto_front [] (slice_split separates xs) ≡ slice_split separates xs
onto_front-nothing separates [] = refl
onto_front-nothing separates (x ∷ xs) = nothing_onto x (slice_split separates xs) (separates x)

-- a part behind has fewer words left
pub fewer_left : {X : Type 0} (rest : Option (Bor (List X))) (words : Bor (List X))
    → IfSome rest (λ r. length r.now < length words.now) → words_left rest < words_left (Some words)
fewer_left None words h = omega arith
fewer_left (Some rest) words h = omega (arith, h)

pub shorter_some : {X : Type 0} (rest : Option (Bor (List X))) (words : Bor (List X))
    → IfSome rest (λ r. (0 < length r.now) × (length r.now < length words.now)) → IfSome rest
    (λ r. length r.now < length words.now)
shorter_some None words h = h
shorter_some (Some rest) words h = h.1

pub some_left : {X : Type 0} (rest : Option (Bor (List X))) (words : Bor (List X))
    → IfSome rest (λ r. (0 < length r.now) × (length r.now < length words.now)) → IfSome rest (λ r. 0 < length r.now)
some_left None words h = h
some_left (Some rest) words h = h.0
