-- One line more of a transcript.
use Rattle.std.proofs.Common.{◌≡◌, ℕ, ◌+◌, List, [], ◌∷◌, ◌++◌, ◌⊎◌, Option, None, Some, Result, Ok}
use Rattle.std.proofs.Common.{Err, length, drop, refl, sym, ap, subst, inl, inr, ◌∙◌, append_assoc, append-nil}
use Rattle.std.proofs.KnownBytes.{starts_with_rest}
use Rattle.resolvo_store.specs.Command.{Command}
use Rattle.resolvo_store.specs.Store.{Store}
use Rattle.script_text.specs.declared.fault.LineFault.{LineFault}
use Rattle.script_text.specs.declared.fault.LineFault.TheVariants as OfLine
use Rattle.script_text.specs.declared.fault.ScriptFault.{ScriptFault}
use Rattle.script_text.specs.declared.fault.ScriptFault.TheVariants as OfScript
use Rattle.script_text.specs.declared.statement.Line.{Line}
use Rattle.script_text.specs.declared.statement.Statement.{Statement}
use Rattle.script_text.specs.declared.statement.Line.TheVariants.{Skipped, Unreadable, Says}
use Rattle.script_text.specs.Output.{HandsOn, TakesSome}
use Rattle.script_text.specs.Status.{fault_at}
use Rattle.script_text.specs.Statements.{MeansWords}
use Rattle.script_text.proofs.Handing.{HandsOn-trans, HandsOn-wait, HandsOn-on, TakesSome-after}
use Rattle.script_text.proofs.Statements.{meant_by}
use Rattle.scripts.specs.Commands.{Ids, command_line_of, command_meant, command_said}
use Rattle.scripts.specs.Replies.{reply_text}
use Rattle.scripts.specs.Ends.{FirstAnswered, HandsAnswer}
use Rattle.scripts.specs.Transcript.{BeginsCommand, HasCommand, RefusesLine, ObeysLine, LineAnswered, Answered}

refused_begins : {N S : Type 0} (now new : Store N S) (said : Line (Command N S)) (w w' : List ℕ) (after : Type 0) →
    RefusesLine now said w w' new → BeginsCommand said after
refused_begins now new Skipped w w' after h = absurd h
refused_begins now new Unreadable w w' after h = absurd h
refused_begins now new (Says c) w w' after h = tt

unreadable_lacks_nothing : (number : ℕ) → fault_at number OfLine.Unreadable ≡ OfScript.Memory → ⊥
unreadable_lacks_nothing number h = cc

module _ {N S : Type 0} (ids : Ids N S) where
  -- lines were obeyed so far, with this text: however some lines go on from the store of now, so they do after those
  abbrev pub SoFar : Store N S → ℕ → List (List ℕ) → Option (List ℕ) → List ℕ → Store N S → ℕ → List (List ℕ) →
      Option (List ℕ) → List ℕ → Type 0
  SoFar first before lines held waiting now number left held' waiting' =
      (own : List ℕ) × (obeyed : List (List ℕ)) × (lines ≡ obeyed ++ left) × HandsOn held waiting held' waiting' own
      × ((some : List (List ℕ)) (text : List ℕ) (faulty : Option ℕ) → Answered ids now number some text faulty →
      Answered ids first before (obeyed ++ some) (own ++ text) faulty)

  -- at first no line was obeyed
  pub so_far_none : (first : Store N S) (before : ℕ) (lines : List (List ℕ)) (held : Option (List ℕ)) (waiting : List ℕ)
      → SoFar first before lines held waiting first before lines held waiting
  so_far_none first before lines held waiting = (
    [],
    [],
    refl,
    HandsOn-wait held waiting waiting [] (sym (append-nil waiting)),
    λ some text faulty goes_on. goes_on,
  )

  -- the text of an obeyed line, and how some lines go on after it
  line_obeyed : {T : Type 0} (old new : Store N S) (number : ℕ) (said : Line (Command N S))
      (waiting waiting' : List ℕ) (t : T)
      → ObeysLine old said waiting (Ok t) waiting' new
      → (own : List ℕ) × (waiting' ≡ waiting ++ own)
      × ((some : List (List ℕ)) (rest : List ℕ) (faulty : Option ℕ) → Answered ids new number some rest faulty →
      LineAnswered old number said (λ mid r. Answered ids mid number some r faulty) (own ++ rest) faulty)
  line_obeyed old new number Skipped waiting waiting' t h = (
    [],
    h.0 ∙ sym (append-nil waiting),
    λ some rest faulty g. subst
        (λ st. Answered ids st number some rest faulty) h.1 g,
  )
  line_obeyed old new number Unreadable waiting waiting' t h = absurd h
  line_obeyed old new number (Says c) waiting waiting' t h =
      (reply_text h.0, h.2, λ some rest faulty g. (h.0, new, rest, h.1, refl, g))

  -- an obeyed line more, of which it was read what it says
  pub so_far_more : {T : Type 0} (first now new : Store N S) (before number : ℕ) (all left lines : List (List ℕ))
      (line : List ℕ) (said : Line Statement)
      (held held' : Option (List ℕ)) (w w' w'' : List ℕ) (t : T)
      → left ≡ line ∷ lines → MeansWords line said → ObeysLine now (command_meant ids said) w' (Ok t) w'' new
      → SoFar first before all held w now number left held' w' →
      SoFar first before all held w new (number + 1) lines held' w''
  so_far_more {T} first now new before number all left lines line said held held' w w' w'' t behind means obeys so_far =
      let meant = subst (λ l. ObeysLine {T = T} now l w' (Ok t) w'' new)
      (meant_by (command_said ids) line said means) obeys in
      let more = line_obeyed now new (number + 1) (command_line_of ids line) w' w'' t meant in
      let (own, obeyed, whole, handed, goes_on) = so_far in (
        own ++ more.0,
        obeyed ++ line ∷ [],
        whole ∙ ap (λ l. obeyed ++ l) behind ∙ sym (append_assoc obeyed (line ∷ []) lines),
        HandsOn-trans held held' held' w w' w'' own more.0 handed (HandsOn-wait held' w' w'' more.0 more.1),
        λ some text faulty after.
            subst (λ ls. Answered ids first before ls ((own ++ more.0) ++ text) faulty)
            (sym (append_assoc obeyed (line ∷ []) some))
            (subst (λ l. Answered ids first before (obeyed ++ line ∷ some) l faulty)
            (sym (append_assoc own more.0 text))
            (goes_on (line ∷ some) (more.0 ++ text) faulty (more.2 some text faulty after))),
      )

  -- what waits goes on to be written
  pub so_far_written : (first now : Store N S) (before number : ℕ) (all left : List (List ℕ))
      (held held' held'' : Option (List ℕ)) (w w' v : List ℕ)
      → HandsOn held' w' held'' v [] → SoFar first before all held w now number left held' w' →
      SoFar first before all held w now number left held'' v
  so_far_written first now before number all left held held' held'' w w' v written so_far =
      let (own, obeyed, whole, handed, goes_on) = so_far in
      (own, obeyed, whole, HandsOn-on held held' held'' w w' v own handed written, goes_on)

  module _ (first : Store N S) (before : ℕ) (all : List (List ℕ)) (held : Option (List ℕ)) (w : List ℕ) where
    -- the lines so far are answered by their text
    so_far_first : (now : Store N S) (number : ℕ) (left : List (List ℕ)) (held' : Option (List ℕ)) (w' : List ℕ)
        (so_far : SoFar first before all held w now number left held' w') →
        FirstAnswered (Answered ids first before) all so_far.0
    so_far_first now number left held' w' so_far =
        let (own, obeyed, whole, handed, goes_on) = so_far in (
          obeyed ++ [],
          left,
          own ++ [],
          None,
          whole ∙ ap (λ l. l ++ left) (sym (append-nil obeyed)),
          goes_on [] [] None (refl, refl),
          sym (append-nil own) ∙ sym (append-nil (own ++ [])),
        )

    -- the end of the lines
    pub ended_well : (T : Type 0) (now : Store N S) (number : ℕ) (left : List (List ℕ)) (held' : Option (List ℕ))
        (w' : List ℕ) (t : T)
        → left ≡ [] → SoFar first before all held w now number left held' w' →
        HandsAnswer (Answered ids first before) {T = T} all held w (Ok t) held' w'
    ended_well T now number left held' w' t none so_far =
        let (own, obeyed, whole, handed, goes_on) = so_far in (
          own ++ [],
          subst (λ ls. Answered ids first before ls (own ++ []) None) (sym (whole ∙ ap (λ l. obeyed ++ l) none))
              (goes_on [] [] None (refl, refl)),
          subst (HandsOn held w held' w') (sym (append-nil own)) handed,
        )

    -- the writer failed
    pub ended_cut : (T : Type 0) (now : Store N S) (number : ℕ) (left : List (List ℕ)) (held' held'' : Option (List ℕ))
        (w' v : List ℕ) (r : Result T ScriptFault)
        → r ≡ Err OfScript.Device → TakesSome held' w' held'' → SoFar first before all held w now number left held' w'
        → HandsAnswer (Answered ids first before) all held w r held'' v
    ended_cut T now number left held' held'' w' v r is taken so_far =
        subst (λ e. HandsAnswer (Answered ids first before) all held w e held'' v) (sym is) (
          so_far.0,
          so_far_first now number left held' w' so_far,
          TakesSome-after held held' held'' w w' so_far.0 so_far.3 taken,
        )

    module _ (now new : Store N S) (number : ℕ) (left lines : List (List ℕ)) (line : List ℕ)
        (behind : left ≡ line ∷ lines) (held' : Option (List ℕ)) (w' w'' : List ℕ)
        (so_far : SoFar first before all held w now number left held' w') where
      -- the line is answered by this text, and then no line is read
      abbrev LineLast : Line (Command N S) → List ℕ → Option ℕ → Type 0
      LineLast said text faulty = LineAnswered now (number + 1) said
          (λ mid r. Answered ids mid (number + 1) [] r faulty) text faulty

      -- memory was refused before the line was obeyed, or its reply's line is left unfinished
      refused_line : (said : Line (Command N S)) → RefusesLine now said w' w'' new
          → (w'' ≡ w') ⊎ ((text lost : List ℕ) × (w' ++ text ≡ w'' ++ lost) × LineLast said text None)
      refused_line Skipped h = absurd h
      refused_line Unreadable h = absurd h
      refused_line (Says c) (inl same) = inl same.0
      refused_line (Says c) (inr h) =
          inr (
            reply_text h.0,
            drop (length w'') (w' ++ reply_text h.0),
            starts_with_rest (w' ++ reply_text h.0) w'' h.2,
            (h.0, new, [], h.1, sym (append-nil (reply_text h.0)), (refl, refl)),
          )

      ended_refused : (T : Type 0) → (w'' ≡ w') ⊎ ((text lost : List ℕ) × (w' ++ text ≡ w'' ++ lost)
          × LineLast (command_line_of ids line) text None)
          → HandsAnswer (Answered ids first before) {T = T} all held w (Err OfScript.Memory) held' w''
      ended_refused T (inl same) = (
        so_far.0,
        [],
        so_far_first now number left held' w' so_far,
        subst (λ l. HandsOn held w held' l so_far.0) (sym (append-nil w'' ∙ same)) so_far.3,
      )
      ended_refused T (inr h) =
          let (own, obeyed, whole, handed, goes_on) = so_far in
          let (text, lost, joined, answered) = h in (
            own ++ text,
            lost,
            (
              obeyed ++ line ∷ [],
              lines,
              own ++ text,
              None,
              whole ∙ ap (λ l. obeyed ++ l) behind ∙ sym (append_assoc obeyed (line ∷ []) lines),
              goes_on (line ∷ []) text None answered,
              sym (append-nil (own ++ text)),
            ),
            HandsOn-trans held held' held' w w' (w'' ++ lost) own text handed
                (HandsOn-wait held' w' (w'' ++ lost) text (sym joined)),
          )

      -- the first unreadable line
      unreadable_here : (said : Line (Command N S)) (goes_on : Store N S → List ℕ → Type 0) → said ≡ Unreadable
          → LineAnswered now (number + 1) said goes_on [] (Some (number + 1))
      unreadable_here said goes_on e =
          subst (λ l. LineAnswered now (number + 1) l goes_on [] (Some (number + 1))) (sym e) (refl, refl)

      -- the end at a faulty line
      pub ended_faulty : (T U : Type 0) (said : Line Statement) (fault : LineFault) → MeansWords line said →
          ObeysLine {T = T} now (command_meant ids said) w' (Err fault) w'' new
          → HandsAnswer (Answered ids first before) {T = U} all held w (Err (fault_at (number + 1) fault)) held' w''
      ended_faulty T U said OfLine.Memory means obeys =
          ended_refused U (refused_line (command_line_of ids line)
          (subst (λ l. RefusesLine now l w' w'' new) (meant_by (command_said ids) line said means) obeys))
      ended_faulty T U said OfLine.Unreadable means obeys =
          let (own, obeyed, whole, handed, goes_on) = so_far in (
            own ++ [],
            subst (λ ls. Answered ids first before ls (own ++ []) (Some (number + 1)))
                (sym (whole ∙ ap (λ l. obeyed ++ l) behind))
                (goes_on (line ∷ lines) [] (Some (number + 1))
                (unreadable_here (command_line_of ids line) (λ mid r. Answered ids mid (number + 1) lines r
                (Some (number + 1))) (sym (meant_by (command_said ids) line said means) ∙ obeys.0))),
            HandsOn-trans held held' held' w w' w'' own [] handed (HandsOn-wait held' w' w'' [] (obeys.1
                ∙ sym (append-nil w'))),
          )

  -- a line for which memory was refused says a command
  pub command_here : (T : Type 0) (number : ℕ) (fault : LineFault) (now new : Store N S) (left lines : List (List ℕ))
      (line : List ℕ) (said : Line Statement)
      (w w' : List ℕ) → left ≡ line ∷ lines → MeansWords line said →
      ObeysLine {T = T} now (command_meant ids said) w (Err fault) w' new
      → fault_at number fault ≡ OfScript.Memory → HasCommand ids left
  command_here T number OfLine.Unreadable now new left lines line said w w' behind means obeyed memory =
      absurd (unreadable_lacks_nothing number memory)
  command_here T number OfLine.Memory now new left lines line said w w' behind means obeyed memory =
      subst (HasCommand ids) (sym behind) (refused_begins now new (command_line_of ids line) w w' (HasCommand ids lines)
      (subst (λ l. RefusesLine now l w w' new) (meant_by (command_said ids) line said means) obeyed))

  passes : {T : Type 0} (now new : Store N S) (said : Line (Command N S)) (w w' : List ℕ) (t : T) (after : Type 0)
      → ObeysLine now said w (Ok t) w' new → after → BeginsCommand said after
  passes now new Skipped w w' t after h more = more
  passes now new Unreadable w w' t after h more = absurd h
  passes now new (Says c) w w' t after h more = tt

  -- a command after a line that was obeyed
  pub command_after : {T : Type 0} (now new : Store N S) (left lines : List (List ℕ)) (line : List ℕ)
      (said : Line Statement) (w w' : List ℕ) (t : T)
      → left ≡ line ∷ lines → MeansWords line said → ObeysLine now (command_meant ids said) w (Ok t) w' new →
      HasCommand ids lines → HasCommand ids left
  command_after {T} now new left lines line said w w' t behind means obeyed more =
      subst (HasCommand ids) (sym behind) (passes now new (command_line_of ids line) w w' t (HasCommand ids lines)
      (subst (λ l. ObeysLine {T = T} now l w (Ok t) w' new) (meant_by (command_said ids) line said means) obeyed) more)
