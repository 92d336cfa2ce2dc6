-- One line more of a talk, and how it ends.
use Rattle.std.proofs.Common.{◌≡◌, ℕ, zero, suc, ◌+◌, ◌-◌, ◌^◌, ◌≤◌, Bool, true, false, List, [], ◌∷◌, ◌++◌, ◌⊎◌}
use Rattle.std.proofs.Common.{Option, None, Some, IfSome, Result, Ok, Err, length, arith, refl, sym, ap, subst, inl}
use Rattle.std.proofs.Common.{inr, ◌∙◌, append_assoc, append-nil, length-append}
use Rattle.std.specs.Prelude.{IsErrAnd}
use Rattle.std.specs.Io.KnownBytes.{Appends, IsAtEnd}
use Rattle.std.proofs.KnownBytes.{Appends-nil, Appends-trans}
use Rattle.script_text.specs.Devices.{Calls, GoesWell, GivesUp}
use Rattle.script_text.specs.Lines.{lines as lines_of}
use Rattle.script_text.specs.Output.{HandsOn, TakesSome}
use Rattle.script_text.specs.Status.{fault_at}
use Rattle.script_text.specs.declared.fault.LineFault.{LineFault}
use Rattle.script_text.specs.declared.fault.LineFault.TheVariants as OfLine
use Rattle.script_text.specs.declared.fault.ScriptFault.{ScriptFault}
use Rattle.script_text.specs.declared.fault.ScriptFault.TheVariants.{Unreadable, Device, Memory}
use Rattle.dialogs.specs.Answering.{AreAnswered, FirstAreAnswered, TalkAnswers}
use Rattle.dialogs.specs.LineReads.{HasNoFeed, IsFed, LineReads, NextLineFails, whole_lines}
use Rattle.dialogs.specs.Talks.{IsAnswered, Talks, TalkEnds}
use Rattle.dialogs.proofs.Feeds.{lines_fed, whole_fed, one_fed, one_unfed, fed_not_empty}
use Rattle.dialogs.proofs.NextLines.{not_both}
use Rattle.dialogs.proofs.SoFar.{SoFar, IsSaid, GoOn, if_some, none_left, answered_first, reads_on, ready}

-- a line that was taken: with its line feed, or all that was left
abbrev pub IsTaken : List ℕ → Bool → List ℕ → Type 0
IsTaken line ended held = IsFed line ⊎ ((ended ≡ true) × HasNoFeed line × (held ≡ []))

one_taken : (line held first : List ℕ) (ended : Bool) (others : List (List ℕ)) → IsTaken line ended held →
    lines_of line ≡ first ∷ others → lines_of line ≡ first ∷ []
one_taken line held first ended others (inl fed) e = e ∙ ap (λ ls. first ∷ ls) (one_fed line first others fed e)
one_taken line held first ended others (inr last) e = e ∙ ap (λ ls. first ∷ ls) (one_unfed line first others last.1 e)

-- the lines of what is left with the line that was taken
lines_taken : (line held left : List ℕ) (ended : Bool) → IsTaken line ended held → (ended ≡ true → left ≡ [])
    → lines_of ((line ++ held) ++ left) ≡ lines_of line ++ lines_of (held ++ left)
lines_taken line held left ended (inl fed) isntne =
    ap lines_of (append_assoc line held left) ∙ lines_fed line (held ++ left) fed
lines_taken line held left ended (inr last) none =
    let nothing : held ++ left ≡ [] = ap (λ l. l ++ left) last.2 ∙ none last.0 in
    ap lines_of (append_assoc line held left ∙ ap (λ l. line ++ l) nothing ∙ append-nil line)
    ∙ sym (ap (λ l. lines_of line ++ lines_of l) nothing ∙ append-nil (lines_of line))

whole_taken : (line held z : List ℕ) (ended : Bool) → IsTaken line ended held → ended ≡ false
    → whole_lines ((line ++ held) ++ z) ≡ lines_of line ++ whole_lines (held ++ z)
whole_taken line held z ended (inl fed) isnt = ap whole_lines (append_assoc line held z)
    ∙ whole_fed line (held ++ z) fed
whole_taken line held z ended (inr last) isnt = absurd (not_both ended last.0 isnt)

pub calls_keep : {P : Type 0} (remaining : P → Option (List ℕ)) (writes : P → P → Type 0) (keeps : (u v : P) →
    writes u v → remaining v ≡ remaining u)
    (n : ℕ) (t u : P) → Calls writes n t u → remaining u ≡ remaining t
calls_keep remaining writes keeps zero t u h = ap remaining (sym h)
calls_keep remaining writes keeps (suc n) t u (m, before, once) = keeps m u once
    ∙ calls_keep remaining writes keeps n t m before

-- what `?` hands on of a fault
pub is_err : {T : Type 0} (r : Result T ScriptFault) (e : ScriptFault) → IsErrAnd r (λ f. f ≡ e) → r ≡ Err e
is_err (Ok t) e h = absurd h
is_err (Err f) e h = ap Err h

-- what was handed on, where nothing waited and nothing waits
pub handed_all : (held held' : Option (List ℕ)) (w v : List ℕ) → HandsOn held w held' v [] → v ≡ [] →
    Appends held held' w
handed_all held held' w v (front, taken, split) none =
    let whole : front ≡ w = sym (append-nil front) ∙ ap (λ l. front ++ l) (sym none) ∙ split ∙ append-nil w in
    subst (Appends held held') whole taken

module _ {A P : Type 0} (answers : A → List ℕ → List ℕ → A → Type 0) (refuses : A → List ℕ → Type 0)
    (remaining contents : P → Option (List ℕ)) (reads read_fails writes write_fails : P → P → Type 0) where
  abbrev Far : A → P → A → P → ℕ → List ℕ → Bool → Type 0
  Far first s now t number held ended =
      SoFar answers refuses remaining contents reads read_fails writes write_fails first s now t number held ended

  abbrev Said : List (List ℕ) → List ℕ → Bool → Option (List ℕ) → List ℕ → Type 0
  Said done held ended now input =
      IsSaid answers refuses remaining contents reads read_fails writes write_fails done held ended now input

  abbrev pub Answers : {T : Type 0} → A → P → Result T ScriptFault → P → Type 0
  Answers first s r t = IfSome (remaining s) (λ input. TalkAnswers answers refuses first (lines_of input)
      (contents s) r (contents t))

  abbrev pub Ends : {T : Type 0} → A → P → Result T ScriptFault → P → Type 0
  Ends first s r t = TalkEnds reads read_fails writes write_fails
      (IsAnswered answers refuses remaining contents first s) remaining s r t

  writes_on : (first : A) (s t u : P) (n k : ℕ) →
      Talks reads read_fails writes write_fails (IsAnswered answers refuses remaining contents first s) n s t →
      Calls writes k t u
      → (all : ℕ) × (k ≤ all) × Talks reads read_fails writes write_fails
      (IsAnswered answers refuses remaining contents first s) all s u
  writes_on first s t u n zero made same = (
    n,
    omega arith,
    subst (λ p. Talks reads read_fails writes write_fails
        (IsAnswered answers refuses remaining contents first s) n s p) same made,
  )
  writes_on first s t u n (suc k) made (m, before, once) =
      let (all, more, on) = writes_on first s t m n k made before in (suc all, omega (arith, more), (m, on, inr once))

  -- memory was refused at the start
  pub never_begun : (T : Type 0) (first : A) (s : P) (r : Result T ScriptFault) → r ≡ Err Memory →
      Answers first s r s × Ends first s r s
  never_begun T first s r is =
      subst (λ e. Answers first s e s × Ends first s e s) (sym is) (nothing (remaining s), (0, refl))
    where
      nothing : (o : Option (List ℕ)) →
          IfSome o (λ input. TalkAnswers answers refuses {T = T} first (lines_of input) (contents s) (Err Memory)
          (contents s))
      nothing None = tt
      nothing (Some input) = ([], ([], lines_of input, refl, (refl, refl)), Appends-nil (contents s))

  module _ (first : A) (s : P) (now : A) (number : ℕ) where
    -- answers so far are an answer to the first lines
    first_answered : (t : P) (held : List ℕ) (ended : Bool) (f : Far first s now t number held ended)
        → IfSome (remaining s) (λ input. FirstAreAnswered answers refuses first (lines_of input) f.1)
    first_answered t held ended (done, own, goes_on, count, written, made, said) =
        if_some (remaining s) (Said done held ended (remaining t))
        (λ input. FirstAreAnswered answers refuses first (lines_of input) own)
        (λ input h. answered_first answers refuses remaining contents reads read_fails writes write_fails first now
        number done (lines_of input) (lines_of (held ++ h.0)) own goes_on h.2) said

    -- memory is refused
    pub memory_lacks : (T : Type 0) (t : P) (held : List ℕ) (ended : Bool) → Far first s now t number held ended →
        Answers {T = T} first s (Err Memory) t
    memory_lacks T t held ended f =
        if_some (remaining s) (λ input. FirstAreAnswered answers refuses first (lines_of input) f.1)
        (λ input. TalkAnswers answers refuses {T = T} first (lines_of input) (contents s) (Err Memory) (contents t))
        (λ input h. (f.1, h, f.4)) (first_answered t held ended f)

    -- of what waits to be written a device took some, or nothing
    pub device_fails : (T : Type 0) (t u : P) (held : List ℕ) (ended : Bool) → Far first s now t number held ended →
        contents u ≡ contents t
        → Answers {T = T} first s (Err Device) u
    device_fails T t u held ended f same =
        if_some (remaining s) (λ input. FirstAreAnswered answers refuses first (lines_of input) f.1)
        (λ input. TalkAnswers answers refuses {T = T} first (lines_of input) (contents s) (Err Device) (contents u))
        (λ input h. (f.1, h, (f.1, [], subst (λ c. Appends (contents s) c f.1) (sym same) f.4, append-nil f.1)))
        (first_answered t held ended f)

    module _ (read_keeps : (u v : P) → reads u v → contents v ≡ contents u) (failed_keeps : (u v : P) →
        read_fails u v → contents v ≡ contents u) where
      far_on : (n : ℕ) (m t : P) (held held' : List ℕ) → LineReads remaining reads read_fails n m held t held' →
          Far first s now m number held false → Far first s now t number held' false
      far_on n m t held held' made f =
          reads_on answers refuses remaining contents reads read_fails writes write_fails first s now number
          read_keeps n m t held held' made f

      is_ready : (t : P) (held : List ℕ) → HasNoFeed held → Far first s now t number held false →
          IsAnswered answers refuses remaining contents first s t
      is_ready t held unfed f = ready answers refuses remaining contents reads read_fails writes write_fails first s
          now number t held unfed f

      many_reads : (n : ℕ) (m t : P) (held held' : List ℕ) → LineReads remaining reads read_fails n m held t held' →
          Far first s now m number held false
          → (k : ℕ) × (n ≤ k) × Talks reads read_fails writes write_fails
          (IsAnswered answers refuses remaining contents first s) k s t
      many_reads zero m t held held' (same, is) f = (
        f.5.0,
        omega arith,
        subst (λ p. Talks reads read_fails writes write_fails
            (IsAnswered answers refuses remaining contents first s) f.5.0 s p) same f.5.1,
      )
      many_reads (suc n) m t held held' (u, before, earlier, unfed, once, bytes) f =
          let (k, more, made) = many_reads n m u held before earlier f in (
            suc k,
            omega (arith, more),
            (
              u,
              made,
              inl (
                is_ready u before unfed (far_on n m u held before earlier f),
                once,
              ),
            ),
          )

      -- the next line can't be read
      reading_lacks : (T : Type 0) (n : ℕ) (m u t : P) (held held' : List ℕ) →
          LineReads remaining reads read_fails n m held u held'
          → (u ≡ t) ⊎ (HasNoFeed held' × reads u t) → Far first s now m number held false →
          Answers {T = T} first s (Err Memory) t × Ends {T = T} first s (Err Memory) t
      reading_lacks T n m u t held held' made (inl same) f =
          let g = far_on n m u held held' made f in
          subst (λ p. Answers {T = T} first s (Err Memory) p × Ends {T = T} first s (Err Memory) p) same
          (memory_lacks T u held' false g, g.5)
      reading_lacks T n m u t held held' made (inr (unfed, once)) f =
          let g = far_on n m u held held' made f in (
            if_some (remaining s) (λ input. FirstAreAnswered answers refuses first (lines_of input) g.1)
                (λ input. TalkAnswers answers refuses {T = T} first (lines_of input) (contents s) (Err Memory)
                (contents t))
                (λ input h. (g.1, h, subst (λ c. Appends (contents s) c g.1) (sym (read_keeps u t once)) g.4))
                (first_answered u held' false g),
            (suc g.5.0, (u, g.5.1, inl (is_ready u held' unfed g, once))),
          )

      reading_fails : (T : Type 0) (m t : P) (held : List ℕ)
          → ((n : ℕ) × (u : P) × (held' : List ℕ) × LineReads remaining reads read_fails n m held u held'
          × HasNoFeed held' × read_fails u t)
          ⊎ ((n : ℕ) × (held' : List ℕ) × (2 ^ 32 ≤ n) × LineReads remaining reads read_fails n m held t held')
          → Far first s now m number held false → Answers {T = T} first s (Err Device) t
          × Ends {T = T} first s (Err Device) t
      reading_fails T m t held (inl (n, u, held', made, unfed, once)) f =
          let g = far_on n m u held held' made f in (
            device_fails T u t held' false g (failed_keeps u t once),
            inl (g.5.0, u, g.5.1, inl (is_ready u held' unfed g, once)),
          )
      reading_fails T m t held (inr (n, held', many, made)) f =
          let g = far_on n m t held held' made f in
          let (k, more, calls) = many_reads n m t held held' made f in
          (device_fails T t t held' false g refl, inr (k, calls, inl (omega (arith, many, more))))

      pub line_fails : (T : Type 0) (m t : P) (held : List ℕ) (ended : Bool) (r : Result T ScriptFault)
          (e : ScriptFault) → r ≡ Err e
          → NextLineFails remaining reads read_fails ended m held e t → Far first s now m number held ended →
          Answers first s r t × Ends first s r t
      line_fails T m t held ended r e is h f =
          subst (λ x. Answers first s x t × Ends first s x t) (sym is) (by e h)
        where
          memory : (b : Bool) → b ≡ ended → NextLineFails remaining reads read_fails b m held Memory t →
              Answers {T = T} first s (Err Memory) t × Ends {T = T} first s (Err Memory) t
          memory false same (n, u, held', made, none, inl at) =
              reading_lacks T n m u t held held' made (inl at) (subst (Far first s now m number held) (sym same) f)
          memory false same (n, u, held', made, none, inr (isnt, unfed, once)) =
              reading_lacks T n m u t held held' made (inr (unfed, once))
              (subst (Far first s now m number held) (sym same) f)
          memory true same (n, u, held', made, none, inl at) =
              let start : LineReads remaining reads read_fails 0 m held u held' =
              subst (λ k. LineReads remaining reads read_fails k m held u held') (none refl) made in
              subst (λ p. Answers {T = T} first s (Err Memory) p × Ends {T = T} first s (Err Memory) p) (start.0
              ∙ at) (memory_lacks T m held ended f, f.5)
          memory true same (n, u, held', made, none, inr (isnt, unfed, once)) = absurd (not_both true refl isnt)

          by : (e : ScriptFault) → NextLineFails remaining reads read_fails ended m held e t →
              Answers {T = T} first s (Err e) t × Ends {T = T} first s (Err e) t
          by (Unreadable n) h = absurd h
          by Memory h = memory ended refl h
          by Device h = reading_fails T m t held h.1 (subst (Far first s now m number held) h.0 f)

    -- no line is left
    pub all_answered : (T : Type 0) (x : T) (t : P) (line held : List ℕ) (ended : Bool) → IsTaken line ended held →
        (ended ≡ true → IsAtEnd (remaining t)) → lines_of line ≡ []
        → Far first s now t number (line ++ held) ended → Answers first s (Ok x) t × Ends first s (Ok x) t
    all_answered T x t line held ended (inl fed) at_end none f = absurd (fed_not_empty line fed none)
    all_answered T x t line held ended (inr last) at_end none (done, own, goes_on, count, written, made, said) = (
      if_some (remaining s) (Said done (line ++ held) ended (remaining t))
          (λ input. TalkAnswers answers refuses first (lines_of input) (contents s) (Ok x) (contents t)) each said,
      made,
    )
      where
        each : (input : List ℕ) → Said done (line ++ held) ended (remaining t) input →
            TalkAnswers answers refuses first (lines_of input) (contents s) (Ok x) (contents t)
        each input (left, there, lines, whole) =
            let nothing : held ++ left ≡ [] = ap (λ l. l ++ left) last.2
            ∙ none_left (remaining t) left there (at_end last.0) in
            let all : lines_of input ≡ done ++ [] =
            lines ∙ ap (λ ls. done ++ ls) (ap lines_of (append_assoc line held left ∙ ap (λ l. line ++ l) nothing
            ∙ append-nil line) ∙ none) in (
              own,
              subst (λ ls. AreAnswered answers refuses first 0 ls own None) (sym all)
                  (subst (λ w. AreAnswered answers refuses first 0 (done ++ []) w None) (append-nil own)
                  (goes_on [] [] None (refl, refl))),
              written,
            )

    -- a line more
    module _ (t : P) (line held start : List ℕ) (others : List (List ℕ)) (ended : Bool)
        (taken : IsTaken line ended held) (at_end : ended ≡ true → IsAtEnd (remaining t))
        (is : lines_of line ≡ start ∷ others) (f : Far first s now t number (line ++ held) ended) where
      split : (done : List (List ℕ)) (left : List ℕ) → remaining t ≡ Some left →
          done ++ lines_of ((line ++ held) ++ left) ≡ (done ++ start ∷ []) ++ lines_of (held ++ left)
      split done left there =
          ap (λ ls. done ++ ls) (lines_taken line held left ended taken
          (λ h. none_left (remaining t) left there (at_end h))
          ∙ ap (λ ls. ls ++ lines_of (held ++ left)) (one_taken line held start ended others taken is))
          ∙ sym (append_assoc done (start ∷ []) (lines_of (held ++ left)))

      goes_after : (done : List (List ℕ)) (before own : List ℕ) (next : A) → answers now start own next →
          GoOn answers refuses remaining contents reads read_fails writes write_fails first done before now number
          → GoOn answers refuses remaining contents reads read_fails writes write_fails first (done ++ start ∷ [])
          (before ++ own) next (number + 1)
      goes_after done before own next answered goes_on some rest faulty h =
          subst (λ ls. AreAnswered answers refuses first 0 ls ((before ++ own) ++ rest) faulty)
          (sym (append_assoc done (start ∷ []) some))
          (subst (λ w. AreAnswered answers refuses first 0 (done ++ start ∷ some) w faulty)
          (sym (append_assoc before own rest))
          (goes_on (start ∷ some) (own ++ rest) faulty (inr (own, rest, next, answered, refl, h))))

      -- it was answered, and that was written
      pub answered_on : (u : P) (own : List ℕ) (next : A) → ((v w : P) → writes v w → remaining w ≡ remaining v) →
          answers now start own next
          → Appends (contents t) (contents u) own → GoesWell writes write_fails t u →
          Far first s next u (number + 1) held ended
      answered_on u own next keeps answered appended (k, calls) =
          let (done, before, goes_on, count, written, made, said) = f in
          let on = writes_on first s t u made.0 k made.1 calls in (
            done ++ start ∷ [],
            before ++ own,
            goes_after done before own next answered goes_on,
            length-append done (start ∷ []) ∙ ap (λ n. n + 1) count,
            Appends-trans (contents s) (contents t) (contents u) before own written appended,
            (on.0, on.2),
            if_some (remaining s) (Said done (line ++ held) ended (remaining t))
                (Said (done ++ start ∷ []) held ended (remaining u)) (each done) said,
          )
        where
          each : (done : List (List ℕ)) (input : List ℕ) → Said done (line ++ held) ended (remaining t) input →
              Said (done ++ start ∷ []) held ended (remaining u) input
          each done input (left, there, lines, whole) = (
            left,
            calls_keep remaining writes keeps k t u calls ∙ there,
            lines ∙ split done left there,
            λ isnt. (
              (whole isnt).0,
              (whole isnt).1,
              λ z. (whole isnt).2 z ∙ ap (λ ls. done ++ ls) (whole_taken line held z ended taken isnt
                  ∙ ap (λ ls. ls ++ whole_lines (held ++ z)) (one_taken line held start ended others taken is))
                  ∙ sym (append_assoc done (start ∷ []) (whole_lines (held ++ z))),
            ),
          )

      -- it is unreadable, or memory was refused for it
      pub line_faulty : (T : Type 0) (fault : LineFault) → (fault ≡ OfLine.Unreadable → refuses now start)
          → Answers {T = T} first s (Err (fault_at (number + 1) fault)) t
          × Ends {T = T} first s (Err (fault_at (number + 1) fault)) t
      line_faulty T OfLine.Memory refused = (memory_lacks T t (line ++ held) ended f, f.5)
      line_faulty T OfLine.Unreadable refused = (
        if_some (remaining s) (Said f.0 (line ++ held) ended (remaining t))
            (λ input. TalkAnswers answers refuses {T = T} first (lines_of input) (contents s)
            (Err (Unreadable (number + 1))) (contents t)) each f.6,
        f.5,
      )
        where
          each : (input : List ℕ) → Said f.0 (line ++ held) ended (remaining t) input
              → TalkAnswers answers refuses {T = T} first (lines_of input) (contents s)
              (Err (Unreadable (number + 1))) (contents t)
          each input (left, there, lines, whole) =
              let all : lines_of input ≡ f.0 ++ (start ∷ lines_of (held ++ left)) = lines ∙ split f.0 left there
              ∙ append_assoc f.0 (start ∷ []) (lines_of (held ++ left)) in (
                f.1,
                subst (λ ls. AreAnswered answers refuses first 0 ls f.1 (Some (number + 1))) (sym all)
                    (subst (λ w. AreAnswered answers refuses first 0 (f.0 ++ start ∷ lines_of (held ++ left)) w
                    (Some (number + 1))) (append-nil f.1)
                    (f.2 (start ∷ lines_of (held ++ left)) [] (Some (number + 1)) (inl (refused refl, refl, refl)))),
                f.4,
              )

      pub line_faulty_at : (T : Type 0) (fault : LineFault) (e : ScriptFault) → e ≡ fault_at (number + 1) fault →
          (fault ≡ OfLine.Unreadable → refuses now start)
          → Answers {T = T} first s (Err e) t × Ends {T = T} first s (Err e) t
      line_faulty_at T fault e at refused =
          subst (λ x. Answers {T = T} first s (Err x) t × Ends {T = T} first s (Err x) t) (sym at)
          (line_faulty T fault refused)

      -- the writer failed
      pub writing_fails : (T : Type 0) (u : P) (own : List ℕ) (next : A) (r : Result T ScriptFault) →
          r ≡ Err Device → answers now start own next
          → TakesSome (contents t) own (contents u) → GivesUp writes write_fails t u → Answers first s r u
          × Ends first s r u
      writing_fails T u own next r device answered some given =
          subst (λ x. Answers first s x u × Ends first s x u) (sym device) (
            if_some (remaining s) (Said f.0 (line ++ held) ended (remaining t))
                (λ input. TalkAnswers answers refuses {T = T} first (lines_of input) (contents s) (Err Device)
                (contents u)) each f.6,
            given_up given,
          )
        where
          each : (input : List ℕ) → Said f.0 (line ++ held) ended (remaining t) input
              → TalkAnswers answers refuses {T = T} first (lines_of input) (contents s) (Err Device) (contents u)
          each input (left, there, lines, whole) =
              let (front, back, appended, cut) = some in (
                f.1 ++ own,
                answered_first answers refuses remaining contents reads read_fails writes write_fails first next
                    (number + 1) (f.0 ++ start ∷ []) (lines_of input) (lines_of (held ++ left)) (f.1 ++ own)
                    (goes_after f.0 f.1 own next answered f.2) (lines ∙ split f.0 left there),
                (
                  f.1 ++ front,
                  back,
                  Appends-trans (contents s) (contents t) (contents u) f.1 front f.4 appended,
                  append_assoc f.1 front back ∙ ap (λ l. f.1 ++ l) cut,
                ),
              )

          given_up : GivesUp writes write_fails t u → Ends {T = T} first s (Err Device) u
          given_up (inl (m, (k, calls), failed)) =
              let on = writes_on first s t m f.5.0 k f.5.1 calls in inl (on.0, m, on.2, inr failed)
          given_up (inr (k, many, calls)) =
              let on = writes_on first s t u f.5.0 k f.5.1 calls in
              let enough : 2 ^ 32 ≤ 2 ^ 64 - 1 = omega arith in
              inr (on.0, on.2, inl (omega (arith, many, on.1, enough)))

    -- there are too many lines
    pub too_many : (T : Type 0) (r : Result T ScriptFault) (t : P) (held : List ℕ) (ended : Bool) → r ≡ Err Device →
        2 ^ 64 - 1 ≤ number → Far first s now t number held ended
        → Answers first s r t × Ends first s r t
    too_many T r t held ended is many f =
        subst (λ x. Answers first s x t × Ends first s x t) (sym is) (
          device_fails T t t held ended f refl,
          inr (
            f.5.0,
            f.5.1,
            inr (if_some (remaining s) (Said f.0 held ended (remaining t))
                (λ input. 2 ^ 64 - 1 ≤ length (lines_of input)) each f.6),
          ),
        )
      where
        each : (input : List ℕ) → Said f.0 held ended (remaining t) input → 2 ^ 64 - 1 ≤ length (lines_of input)
        each input (left, there, lines, whole) =
            let all : length (lines_of input) ≡ length f.0 + length (lines_of (held ++ left)) = ap length lines
            ∙ length-append f.0 (lines_of (held ++ left)) in
            let count = f.3 in omega (arith, all, count, many)
