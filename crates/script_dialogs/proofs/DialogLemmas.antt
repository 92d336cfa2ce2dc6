-- From a talk to the answers of a script.
use Rattle.std.proofs.Common.{◌≡◌, ℕ, ◌+◌, List, [], ◌∷◌, ◌++◌, ◌⊎◌, Option, None, Some, IfSome, Result, Ok, Err}
use Rattle.std.proofs.Common.{refl, sym, ap, subst, inl, inr, ◌∙◌, append_assoc, append-nil}
use Rattle.std.specs.Io.KnownBytes.{Appends}
use Rattle.std.proofs.KnownBytes.{Appends-trans}
use Rattle.script_text.specs.Lines.{lines as lines_of}
use Rattle.script_text.specs.Output.{HandsOn, TakesSome}
use Rattle.script_text.specs.declared.fault.ScriptFault.{ScriptFault}
use Rattle.script_text.specs.declared.fault.ScriptFault.TheVariants.{Unreadable, Device, Memory}
use Rattle.scripts.specs.Ends.{FirstAnswered}
use Rattle.scripts.specs.Replies.{unreadable_text}
use Rattle.dialogs.specs.Answering.{AreAnswered, FirstAreAnswered, TalkAnswers}
use Rattle.dialogs.specs.LineReads.{whole_lines}
use Rattle.script_dialogs.specs.DialogEnds.{AnswersNamed, WereAnswered}

if_some : (o : Option (List ℕ)) (P Q : List ℕ → Type 0) → ((xs : List ℕ) → P xs → Q xs) → IfSome o P → IfSome o Q
if_some None P Q f h = tt
if_some (Some xs) P Q f h = f xs h

-- what was handed on, where nothing waits
handed_all : (held held' : Option (List ℕ)) (w v : List ℕ) → HandsOn held w held' v [] → v ≡ [] → Appends held held' w
handed_all held held' w v (front, taken, split) none =
    let whole : front ≡ w = sym (append-nil front) ∙ ap (λ l. front ++ l) (sym none) ∙ split ∙ append-nil w in
    subst (Appends held held') whole taken

-- what is answered in one way is answered in another
module _ (answered other : List (List ℕ) → List ℕ → Option ℕ → Type 0)
    (goes : (lines : List (List ℕ)) (text : List ℕ) (faulty : Option ℕ) → answered lines text faulty →
    other lines text faulty) where
  first_as : (lines : List (List ℕ)) (text : List ℕ) → FirstAnswered answered lines text →
      FirstAnswered other lines text
  first_as lines text (first, left, answer, faulty, is, h, whole) =
      (first, left, answer, faulty, is, goes first answer faulty h, whole)

  named_as : (T : Type 0) (lines : List (List ℕ)) (held held' : Option (List ℕ)) (r : Result T ScriptFault) →
      AnswersNamed answered lines held r held'
      → AnswersNamed other lines held r held'
  named_as T lines held held' (Ok t) (text, h, written) = (text, goes lines text None h, written)
  named_as T lines held held' (Err (Unreadable number)) (text, h, written) =
      (text, goes lines text (Some number) h, written)
  named_as T lines held held' (Err Memory) (text, h, written) = (text, first_as lines text h, written)
  named_as T lines held held' (Err Device) (text, h, some) = (text, first_as lines text h, some)

  module _ {P : Type 0} (remaining contents : P → Option (List ℕ)) where
    pub answers_as : (T : Type 0) (s t : P) (r : Result T ScriptFault)
        → IfSome (remaining s) (λ input. AnswersNamed answered (lines_of input) (contents s) r (contents t))
        → IfSome (remaining s) (λ input. AnswersNamed other (lines_of input) (contents s) r (contents t))
    answers_as T s t r h =
        if_some (remaining s) (λ input. AnswersNamed answered (lines_of input) (contents s) r (contents t))
        (λ input. AnswersNamed other (lines_of input) (contents s) r (contents t))
        (λ input. named_as T (lines_of input) (contents s) (contents t) r) h

    pub ready_as : (s now : P) → WereAnswered answered remaining contents s now →
        WereAnswered other remaining contents s now
    ready_as s now h = by (remaining s) h
      where
        by : (o : Option (List ℕ))
            → IfSome o (λ input. (said left : List ℕ) × (input ≡ said ++ left) × (remaining now ≡ Some left)
            × ((text : List ℕ) × answered (whole_lines said) text None × Appends (contents s) (contents now) text))
            → IfSome o (λ input. (said left : List ℕ) × (input ≡ said ++ left) × (remaining now ≡ Some left)
            × ((text : List ℕ) × other (whole_lines said) text None × Appends (contents s) (contents now) text))
        by None h = tt
        by (Some input) (said, left, split, there, (text, h, written)) =
            (said, left, split, there, (text, goes (whole_lines said) text None h, written))

module _ {A P : Type 0} (answers : A → List ℕ → List ℕ → A → Type 0) (refuses : A → List ℕ →
    Type 0) (remaining contents : P → Option (List ℕ)) (first : A) where
  -- the lines before the first unreadable one are answered too
  before_faulty : (a : A) (n : ℕ) (lines : List (List ℕ)) (text : List ℕ) (number : ℕ) →
      AreAnswered answers refuses a n lines text (Some number)
      → (some left : List (List ℕ)) × (lines ≡ some ++ left) × AreAnswered answers refuses a n some text None
  before_faulty a n [] text number (none, is) = let bad : Some number ≡ None = is in cc
  before_faulty a n (line ∷ lines) text number (inl (refused, none, is)) = ([], line ∷ lines, refl, (none, refl))
  before_faulty a n (line ∷ lines) text number (inr (own, rest, next, answered, split, on)) =
      let (some, left, is, h) = before_faulty next (n + 1) lines rest number on in
      (line ∷ some, left, ap (λ ls. line ∷ ls) is, inr (own, rest, next, answered, split, h))

  first_answered : (lines : List (List ℕ)) (text : List ℕ) → FirstAreAnswered answers refuses first lines text →
      FirstAnswered (AreAnswered answers refuses first 0) lines text
  first_answered lines text (some, left, is, h) = (some, left, text, None, is, h, sym (append-nil text))

  -- a talk that no unreadable line ended
  pub talk_ended : (T : Type 0) (s t : P) (r : Result T ScriptFault) → ((number : ℕ) → r ≡ Err (Unreadable number) → ⊥)
      → IfSome (remaining s) (λ input. TalkAnswers answers refuses first (lines_of input) (contents s) r (contents t))
      → IfSome (remaining s) (λ input. AnswersNamed (AreAnswered answers refuses first 0) (lines_of input)
      (contents s) r (contents t))
  talk_ended T s t r other h =
      if_some (remaining s) (λ input. TalkAnswers answers refuses first (lines_of input) (contents s) r (contents t))
      (λ input. AnswersNamed (AreAnswered answers refuses first 0) (lines_of input) (contents s) r (contents t))
      (λ input. by r other (lines_of input)) h
    where
      by : (r : Result T ScriptFault) → ((number : ℕ) → r ≡ Err (Unreadable number) → ⊥) → (lines : List (List ℕ))
          → TalkAnswers answers refuses first lines (contents s) r (contents t) →
          AnswersNamed (AreAnswered answers refuses first 0) lines (contents s) r (contents t)
      by (Ok x) other lines h = h
      by (Err (Unreadable number)) other lines h = absurd (other number refl)
      by (Err Memory) other lines (text, h, written) = (text, first_answered lines text h, written)
      by (Err Device) other lines (text, h, some) = (text, first_answered lines text h, some)

  -- a talk that one ended
  module _ (s t : P) (number : ℕ) (T : Type 0) (r : Result T ScriptFault) (is : r ≡ Err (Unreadable number))
      (h : IfSome (remaining s) (λ input. TalkAnswers answers refuses first (lines_of input) (contents s) r
      (contents t))) where
    abbrev Talked : List ℕ → Type 0
    Talked input = (text : List ℕ) × AreAnswered answers refuses first 0 (lines_of input) text (Some number)
        × Appends (contents s) (contents t) text

    talked : IfSome (remaining s) Talked
    talked = subst (λ x. IfSome (remaining s) (λ input. TalkAnswers answers refuses first (lines_of input)
        (contents s) x (contents t))) is h

    abbrev Named : {U : Type 0} → Result U ScriptFault → P → List ℕ → Type 0
    Named e u input = AnswersNamed (AreAnswered answers refuses first 0) (lines_of input) (contents s) e (contents u)

    -- memory is refused for the line that names the unreadable one
    pub naming_lacks : (U : Type 0) (e : Result U ScriptFault) → e ≡ Err Memory
        → IfSome (remaining s) (λ input. AnswersNamed (AreAnswered answers refuses first 0) (lines_of input)
        (contents s) e (contents t))
    naming_lacks U e lacks =
        subst (λ x. IfSome (remaining s) (Named x t)) (sym lacks)
        (if_some (remaining s) Talked (Named {U = U} (Err Memory) t)
        (λ input p. by (lines_of input) p.0 p.1 p.2) talked)
      where
        by : (lines : List (List ℕ)) (text : List ℕ) → AreAnswered answers refuses first 0 lines text (Some number) →
            Appends (contents s) (contents t) text
            → AnswersNamed (AreAnswered answers refuses first 0) {T = U} lines (contents s) (Err Memory) (contents t)
        by lines text answered written =
            let (some, left, split, h) = before_faulty first 0 lines text number answered in
            (text, (some, left, text, None, split, h, sym (append-nil text)), written)

    -- it is written
    pub named : (u : P) (w v : List ℕ) → w ≡ unreadable_text number → HandsOn (contents t) w (contents u) v [] → v ≡ []
        → IfSome (remaining s) (λ input. AnswersNamed (AreAnswered answers refuses first 0) (lines_of input)
        (contents s) r (contents u))
    named u w v names handed none =
        subst (λ x. IfSome (remaining s) (Named x u)) (sym is)
        (if_some (remaining s) Talked (Named {U = T} (Err (Unreadable number)) u) (λ input p. (
          p.0,
          p.1,
          Appends-trans (contents s) (contents t) (contents u) p.0 (unreadable_text number) p.2
              (subst (Appends (contents t) (contents u)) names (handed_all (contents t) (contents u) w v handed none)),
        )) talked)

    -- or some of it
    pub naming_fails : (U : Type 0) (e : Result U ScriptFault) (u : P) (w : List ℕ) → e ≡ Err Device →
        w ≡ unreadable_text number → TakesSome (contents t) w (contents u)
        → IfSome (remaining s) (λ input. AnswersNamed (AreAnswered answers refuses first 0) (lines_of input)
        (contents s) e (contents u))
    naming_fails U e u w fails names some =
        subst (λ x. IfSome (remaining s) (Named x u)) (sym fails)
        (if_some (remaining s) Talked (Named {U = U} (Err Device) u) (λ input p. (
          p.0 ++ unreadable_text number,
          (lines_of input, [], p.0, Some number, sym (append-nil (lines_of input)), p.1, refl),
          (
            p.0 ++ some.0,
            some.1,
            Appends-trans (contents s) (contents t) (contents u) p.0 some.0 p.2 some.2,
            append_assoc p.0 some.0 some.1 ∙ ap (λ l. p.0 ++ l) (some.3 ∙ names),
          ),
        )) talked)
