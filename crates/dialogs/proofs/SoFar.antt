-- How far a talk has come.
use Rattle.std.proofs.Common.{◌≡◌, ℕ, zero, suc, Bool, true, false, List, [], ◌++◌, ◌⊎◌, Option, None, Some, IfSome}
use Rattle.std.proofs.Common.{length, refl, sym, ap, subst, inl, inr, ◌∙◌, append_assoc, append-nil}
use Rattle.std.specs.Io.KnownBytes.{Appends, Consumes, IsAtEnd}
use Rattle.std.proofs.KnownBytes.{Appends-nil}
use Rattle.script_text.specs.Lines.{lines as lines_of}
use Rattle.dialogs.specs.Answering.{AreAnswered, FirstAreAnswered}
use Rattle.dialogs.specs.LineReads.{HasNoFeed, LineReads, NextLine, whole_lines}
use Rattle.dialogs.specs.Talks.{IsAnswered, Talks}
use Rattle.dialogs.proofs.NextLines.{not_both}
use Rattle.dialogs.proofs.Feeds.{whole_unfed}

pub if_some : (o : Option (List ℕ)) (P Q : List ℕ → Type 0) → ((xs : List ℕ) → P xs → Q xs) → IfSome o P → IfSome o Q
if_some None P Q f h = tt
if_some (Some xs) P Q f h = f xs h

consumed : (known left : Option (List ℕ)) (bytes had : List ℕ) → known ≡ Some had → Consumes known left bytes →
    (rest : List ℕ) × (left ≡ Some rest) × (had ≡ bytes ++ rest)
consumed None left bytes had is h = let bad : None ≡ Some had = is in cc
consumed (Some xs) None bytes had is h = absurd h
consumed (Some xs) (Some ys) bytes had is h = let same : Some xs ≡ Some had = is in let e : had ≡ xs = cc in
    (ys, refl, e ∙ h)

pub none_left : (known : Option (List ℕ)) (left : List ℕ) → known ≡ Some left → IsAtEnd known → left ≡ []
none_left known left is h = subst IsAtEnd is h

either : (b : Bool) → (b ≡ true) ⊎ (b ≡ false)
either true = inl refl
either false = inr refl

module _ {A P : Type 0} (answers : A → List ℕ → List ℕ → A → Type 0) (refuses : A → List ℕ → Type 0)
    (remaining contents : P → Option (List ℕ)) (reads read_fails writes write_fails : P → P → Type 0) where
  abbrev pub Ready : A → P → P → Type 0
  Ready a s now = IsAnswered answers refuses remaining contents a s now

  abbrev pub TalksOn : A → P → ℕ → P → P → Type 0
  TalksOn a s n u v = Talks reads read_fails writes write_fails (Ready a s) n u v

  -- what was said and isn't answered is held or left; and the whole lines of what was said are those that are answered
  -- and those that are held
  abbrev pub IsSaid : List (List ℕ) → List ℕ → Bool → Option (List ℕ) → List ℕ → Type 0
  IsSaid done held ended now input =
      (left : List ℕ) × (now ≡ Some left) × (lines_of input ≡ done ++ lines_of (held ++ left))
      × (ended ≡ false → (said : List ℕ) × (input ≡ said ++ left)
      × ((z : List ℕ) → whole_lines (said ++ z) ≡ done ++ whole_lines (held ++ z)))

  -- however some lines go on to be answered, so they are after those that were
  abbrev pub GoOn : A → List (List ℕ) → List ℕ → A → ℕ → Type 0
  GoOn first done own now number =
      (some : List (List ℕ)) (rest : List ℕ) (faulty : Option ℕ) →
      AreAnswered answers refuses now number some rest faulty
      → AreAnswered answers refuses first 0 (done ++ some) (own ++ rest) faulty

  -- lines were answered so far
  abbrev pub SoFar : A → P → A → P → ℕ → List ℕ → Bool → Type 0
  SoFar first s now t number held ended =
      (done : List (List ℕ)) × (own : List ℕ) × GoOn first done own now number × (length done ≡ number)
      × Appends (contents s) (contents t) own
      × ((n : ℕ) × TalksOn first s n s t)
      × IfSome (remaining s) (IsSaid done held ended (remaining t))

  -- none at first
  pub at_first : (a : A) (s : P) (held : List ℕ) (ended : Bool) → held ≡ [] → ended ≡ false → SoFar a s a s 0 held ended
  at_first a s held ended none on =
      ([], [], λ some rest faulty h. h, refl, Appends-nil (contents s), (0, refl), first_said (remaining s) refl)
    where
      first_said : (o : Option (List ℕ)) → remaining s ≡ o → IfSome o (IsSaid [] held ended (remaining s))
      first_said None is = tt
      first_said (Some input) is = (
        input,
        is,
        ap (λ l. lines_of (l ++ input)) (sym none),
        λ h. ([], refl, λ z. ap (λ l. whole_lines (l ++ z)) (sym none)),
      )

  -- what was answered is an answer to the first lines
  pub answered_first : (first now : A) (number : ℕ) (done lines left : List (List ℕ)) (own : List ℕ) →
      GoOn first done own now number
      → lines ≡ done ++ left → FirstAreAnswered answers refuses first lines own
  answered_first first now number done lines left own goes_on is = (
    done,
    left,
    is,
    subst (λ t. AreAnswered answers refuses first 0 done t None) (append-nil own)
        (subst (λ ls. AreAnswered answers refuses first 0 ls (own ++ []) None) (append-nil done)
        (goes_on [] [] None (refl, refl))),
  )

  module _ (first : A) (s : P) (now : A) (number : ℕ) where
    -- a peer of which no whole line is held is ready
    pub ready : (t : P) (held : List ℕ) → HasNoFeed held → SoFar first s now t number held false → Ready first s t
    ready t held unfed (done, own, goes_on, count, written, made, said) =
        if_some (remaining s) (IsSaid done held false (remaining t)) _ each said
      where
        each : (input : List ℕ) → IsSaid done held false (remaining t) input
            → (said left : List ℕ) × (input ≡ said ++ left) × (remaining t ≡ Some left)
            × ((text : List ℕ) × AreAnswered answers refuses first 0 (whole_lines said) text None
            × Appends (contents s) (contents t) text)
        each input (left, there, lines, on) =
            let (said, split, whole) = on refl in
            let all : whole_lines said ≡ done ++ [] =
            ap whole_lines (sym (append-nil said)) ∙ whole [] ∙ ap (λ l. done ++ whole_lines l) (append-nil held)
            ∙ ap (λ ls. done ++ ls) (whole_unfed held unfed) in (
              said,
              left,
              split,
              there,
              (
                own,
                subst (λ ls. AreAnswered answers refuses first 0 ls own None) (sym all)
                    (subst (λ t. AreAnswered answers refuses first 0 (done ++ []) t None) (append-nil own)
                    (goes_on [] [] None (refl, refl))),
                written,
              ),
            )

    module _ (read_keeps : (u v : P) → reads u v → contents v ≡ contents u) where
      -- one read more
      read_on : (m t : P) (held held' : List ℕ) → SoFar first s now m number held false → HasNoFeed held → reads m t
          → ((bytes : List ℕ) × Consumes (remaining m) (remaining t) bytes × (held' ≡ held ++ bytes)) →
          SoFar first s now t number held' false
      read_on m t held held' so_far unfed once (bytes, taken, is) =
          let (done, own, goes_on, count, written, made, said) = so_far in (
            done,
            own,
            goes_on,
            count,
            subst (λ c. Appends (contents s) c own) (sym (read_keeps m t once)) written,
            (suc made.0, (m, made.1, inl (ready m held unfed so_far, once))),
            if_some (remaining s) (IsSaid done held false (remaining m)) (IsSaid done held' false (remaining t))
                (more done) said,
          )
        where
          more : (done : List (List ℕ)) (input : List ℕ) → IsSaid done held false (remaining m) input →
              IsSaid done held' false (remaining t) input
          more done input (left, there, lines, on) =
              let (rest, here, split) = consumed (remaining m) (remaining t) bytes left there taken in
              let (said, whole, fed) = on refl in
              let joined : held ++ left ≡ held' ++ rest =
              ap (λ l. held ++ l) split ∙ sym (append_assoc held bytes rest) ∙ ap (λ l. l ++ rest) (sym is) in (
                rest,
                here,
                lines ∙ ap (λ l. done ++ lines_of l) joined,
                λ h. (
                  said ++ bytes,
                  whole ∙ ap (λ l. said ++ l) split ∙ sym (append_assoc said bytes rest),
                  λ z. ap whole_lines (append_assoc said bytes z) ∙ fed (bytes ++ z)
                      ∙ ap (λ l. done ++ whole_lines l) (sym (append_assoc held bytes z) ∙ ap (λ l. l ++ z) (sym is)),
                ),
              )

      pub reads_on : (n : ℕ) (m t : P) (held held' : List ℕ) →
          LineReads remaining reads read_fails n m held t held' → SoFar first s now m number held false
          → SoFar first s now t number held' false
      reads_on zero m t held held' (same, is) so_far =
          subst (λ u. SoFar first s now u number held' false) same
          (subst (λ l. SoFar first s now m number l false) (sym is) so_far)
      reads_on (suc n) m t held held' (u, before, earlier, unfed, once, bytes) so_far =
          read_on u t before held' (reads_on n m u held before earlier so_far) unfed once bytes

      -- once the reader has ended, what is whole is no matter
      over : (t : P) (held : List ℕ) (ended ended' : Bool) → ended' ≡ true → SoFar first s now t number held ended →
          SoFar first s now t number held ended'
      over t held ended ended' is (done, own, goes_on, count, written, made, said) = (
        done,
        own,
        goes_on,
        count,
        written,
        made,
        if_some (remaining s) (IsSaid done held ended (remaining t)) (IsSaid done held ended' (remaining t))
            (λ input h. (h.0, h.1, h.2, λ isnt. absurd (not_both ended' is isnt))) said,
      )

      still : (t : P) (held : List ℕ) (ended ended' : Bool) → ended ≡ false → SoFar first s now t number held ended →
          SoFar first s now t number held ended'
      still t held ended ended' is (done, own, goes_on, count, written, made, said) = (
        done,
        own,
        goes_on,
        count,
        written,
        made,
        if_some (remaining s) (IsSaid done held ended (remaining t)) (IsSaid done held ended' (remaining t))
            (λ input h. (h.0, h.1, h.2, λ _. h.3 is)) said,
      )

      -- the next line is held
      pub line_held : (m t : P) (held line held' : List ℕ) (ended ended' : Bool) →
          NextLine remaining reads read_fails ended m held line ended' t held'
          → SoFar first s now m number held ended → SoFar first s now t number (line ++ held') ended'
      line_held m t held line held' ended ended' (n, made, once, kind) so_far = by (either ended)
        where
          by : (ended ≡ true) ⊎ (ended ≡ false) → SoFar first s now t number (line ++ held') ended'
          by (inl over_is) =
              let none : LineReads remaining reads read_fails 0 m held t (line ++ held') =
              subst (λ k. LineReads remaining reads read_fails k m held t (line ++ held')) (once over_is).0 made in
              over t (line ++ held') ended ended' (once over_is).1
              (subst (λ u. SoFar first s now u number (line ++ held') ended) none.0
              (subst (λ l. SoFar first s now m number l ended) (sym none.1) so_far))
          by (inr isnt) =
              still t (line ++ held') false ended' refl
              (reads_on n m t held (line ++ held') made (subst (λ e. SoFar first s now m number held e) isnt so_far))
