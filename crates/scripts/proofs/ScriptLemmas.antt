-- From the parts of a script to the whole.
use Rattle.std.proofs.Common.{◌≡◌, ℕ, ◌+◌, List, [], ◌∷◌, ◌++◌, Option, None, Some, Result, Ok, Err, IfSome}
use Rattle.std.proofs.Common.{length, drop, refl, sym, ap, subst, inl, inr, ◌∙◌, append_assoc, append-nil}
use Rattle.std.specs.Io.{StartsWith}
use Rattle.std.proofs.KnownBytes.{Appends-nil, starts_with_rest}
use Rattle.resolvo_store.specs.Store.{Provider, new_store}
use Rattle.script_text.specs.declared.fault.ScriptFault.{ScriptFault}
use Rattle.script_text.specs.declared.fault.ScriptFault.TheVariants.{Unreadable, Device, Memory}
use Rattle.script_packages.specs.declared.packages.Packages.{Packages}
use Rattle.script_packages.specs.CatalogueLines.{catalogue_line_of}
use Rattle.script_packages.specs.Catalogues.{AreListed}
use Rattle.script_packages.specs.Listing.{Listing, nothing_listed}
use Rattle.script_packages.specs.CatalogueEnds.{NeverBegins, CommandsBegin, CatalogueFault, LineEffect, GoesOn, Ends}
use Rattle.script_packages.specs.CatalogueEnds.{Faulty, OnEffect, effect_of}
use Rattle.script_text.specs.Lines.{lines as lines_of}
use Rattle.script_text.specs.Output.{HandsOn, TakesSome, Writes}
use Rattle.script_text.proofs.Handing.{HandsOn-trans, HandsOn-wait, HandsOn-on, TakesSome-after, Writes-handed}
use Rattle.scripts.specs.Ends.{FirstAnswered, HandsAnswer, TakesBeginning, named_text}
use Rattle.scripts.specs.ScriptStore.{numbers, provider_of}
use Rattle.scripts.specs.Commands.{Ids}
use Rattle.scripts.specs.Scripts.{CommandsFrom, ScriptLinesAnswered, ScriptAnswered, faulty_text}
use Rattle.scripts.specs.Transcript.{Answered, IfRead}

-- where the commands begin, there they begin if the script ends among them
module _ (before : ℕ) (left first rest : List (List ℕ)) (packages : Packages) (is : left ≡ first ++ rest) where
  abbrev BeginsBefore : Listing → ℕ → List (List ℕ) → Type 0
  BeginsBefore l n lines = (front : List (List ℕ)) × (lines ≡ front ++ rest)
      × CommandsBegin l n front before first packages

  begin_after : (l : Listing) (n : ℕ) (line : List ℕ) (lines : List (List ℕ)) (effect : LineEffect) →
      effect_of l (catalogue_line_of line) ≡ effect
      → ((more : Listing) → CommandsBegin more (n + 1) lines before left packages → BeginsBefore more (n + 1) lines)
      → OnEffect effect (λ more. CommandsBegin more (n + 1) lines before left packages) ((before ≡ n + 1)
      × (left ≡ lines) × AreListed packages l) ⊥
      → BeginsBefore l n (line ∷ lines)
  begin_after l n line lines (GoesOn more) e rec h =
      let later = rec more h in (
        line ∷ later.0,
        ap (λ ls. line ∷ ls) later.1,
        subst (λ f. OnEffect f (λ m. CommandsBegin m (n + 1) later.0 before first packages)
            ((before ≡ n + 1) × (first ≡ later.0) × AreListed packages l) ⊥) (sym e) later.2,
      )
  begin_after l n line lines Ends e rec h = (
    line ∷ first,
    ap (λ ls. line ∷ ls) (sym h.1 ∙ is),
    subst (λ f. OnEffect f (λ m. CommandsBegin m (n + 1) first before first packages)
        ((before ≡ n + 1) × (first ≡ first) × AreListed packages l) ⊥) (sym e) (h.0, refl, h.2),
  )
  begin_after l n line lines Faulty e rec h = absurd h

  begin_before : (l : Listing) (n : ℕ) (lines : List (List ℕ)) → CommandsBegin l n lines before left packages →
      BeginsBefore l n lines
  begin_before l n [] h = absurd h
  begin_before l n (line ∷ lines) h =
      begin_after l n line lines (effect_of l (catalogue_line_of line)) refl
      (λ more later. begin_before more (n + 1) lines later) h

-- over what is known of the packages
module _ {N S : Type 0} (ids : Ids N S) (provided : Packages → Provider N S) where
  commands_of : (lines : List (List ℕ)) (text : List ℕ) (faulty : Option ℕ) →
      CommandsFrom ids provided nothing_listed 0 lines text faulty
      → ScriptLinesAnswered ids provided lines text faulty
  commands_of lines text None h = inr h
  commands_of lines text (Some number) h = inr h

  module _ (lines : List (List ℕ)) (packages : Packages) (before : ℕ) (left : List (List ℕ))
      (begun : CommandsBegin nothing_listed 0 lines before left packages) where
    first_commands : (text : List ℕ) → FirstAnswered (Answered ids (new_store (provided packages)) before) left text
        → FirstAnswered (ScriptLinesAnswered ids provided) lines text
    first_commands text (first, rest, answer, faulty, is, answered, whole) =
        let front = begin_before before left first rest packages is nothing_listed 0 lines begun in (
          front.0,
          rest,
          answer,
          faulty,
          front.1,
          commands_of front.0 answer faulty (
            packages,
            before,
            first,
            front.2,
            answered,
          ),
          whole,
        )

    -- the commands are answered, and so the script is
    pub commands_answered : {T : Type 0} (r : Result T ScriptFault) (held held' : Option (List ℕ)) (w w' : List ℕ)
        → HandsAnswer (Answered ids (new_store (provided packages)) before) left held w r held' w'
        → HandsAnswer (ScriptLinesAnswered ids provided) lines held w r held' w'
    commands_answered (Ok t) held held' w w' h = (h.0, inr (packages, before, left, begun, h.1), h.2)
    commands_answered (Err (Unreadable number)) held held' w w' h = (h.0, inr (packages, before, left, begun, h.1), h.2)
    commands_answered (Err Memory) held held' w w' h = (h.0, h.1, first_commands h.0 h.2, h.3)
    commands_answered (Err Device) held held' w w' h = (h.0, first_commands h.0 h.1, h.2)

  -- to no line there is no answer
  pub nothing_first : (lines : List (List ℕ)) → FirstAnswered (ScriptLinesAnswered ids provided) lines []
  nothing_first lines = ([], lines, [], None, refl, inl (tt, refl), refl)

  -- memory was refused before any command
  pub nothing_answered : (T : Type 0) (lines : List (List ℕ)) (held : Option (List ℕ)) (w : List ℕ)
      → HandsAnswer (ScriptLinesAnswered ids provided) {T = T} lines held w (Err Memory) held w
  nothing_answered T lines held w = ([], [], nothing_first lines, HandsOn-wait held w (w ++ []) [] refl)

  -- a fault of the catalogue
  pub catalogue_faulty : (T : Type 0) (e : ScriptFault) (lines : List (List ℕ)) (held : Option (List ℕ))
      (w : List ℕ) → CatalogueFault lines e
      → HandsAnswer (ScriptLinesAnswered ids provided) {T = T} lines held w (Err e) held w
  catalogue_faulty T (Unreadable number) lines held w h =
      ([], inl (h, refl), HandsOn-wait held w w [] (sym (append-nil w)))
  catalogue_faulty T Device lines held w h = absurd h
  catalogue_faulty T Memory lines held w h = nothing_answered T lines held w

  -- no line begins the commands
  pub never_begun : (T : Type 0) (t : T) (lines : List (List ℕ)) (held : Option (List ℕ)) (w : List ℕ) →
      NeverBegins nothing_listed lines
      → HandsAnswer (ScriptLinesAnswered ids provided) {T = T} lines held w (Ok t) held w
  never_begun T t lines held w h = ([], inl (h, refl), HandsOn-wait held w w [] (sym (append-nil w)))

-- nothing was written
pub nothing_taken : (lines : List (List ℕ)) (held : Option (List ℕ)) → TakesBeginning lines held held
nothing_taken lines held = ([], nothing_first numbers provider_of lines, ([], [], Appends-nil held, refl))

-- the writer failed
pub failed_taken : {T : Type 0} (lines : List (List ℕ)) (held held' : Option (List ℕ)) (first w : List ℕ)
    (r : Result T ScriptFault) → r ≡ Err Device → first ≡ []
    → HandsAnswer ScriptAnswered lines held first r held' w → TakesBeginning lines held held'
failed_taken {T} lines held held' first w r is none h =
    let cut : HandsAnswer ScriptAnswered {T = T} lines held first (Err Device) held' w =
    subst (λ e. HandsAnswer ScriptAnswered lines held first e held' w) is h in
    (cut.0, cut.1, subst (λ l. TakesSome held (l ++ cut.0) held') none cut.2)

-- of a beginning of some text, and so of that text
takes_longer : (held held' : Option (List ℕ)) (short rest long : List ℕ) → long ≡ short ++ rest →
    TakesSome held short held' → TakesSome held long held'
takes_longer held held' short rest long e (front, back, taken, split) =
    (front, back ++ rest, taken, sym (append_assoc front back rest) ∙ ap (λ l. l ++ rest) split ∙ sym e)

-- a writer that took all took some
pub all_taken : (held held' : Option (List ℕ)) (w v : List ℕ) → HandsOn held w held' v [] → v ≡ [] →
    TakesSome held w held'
all_taken held held' w v (front, taken, split) none = (front, v, taken, split ∙ append-nil w)

module _ (lines : List (List ℕ)) (held held' held'' : Option (List ℕ)) where
  -- what waits is written, or some of it
  rest_taken : (answer text w w' lost : List ℕ) (faulty : Option ℕ) (first left : List (List ℕ)) →
      lines ≡ first ++ left → ScriptAnswered first answer faulty
      → text ≡ answer ++ faulty_text faulty → HandsOn held [] held' (w' ++ lost) text → TakesSome held' w' held'' →
      TakesBeginning lines held held''
  rest_taken answer text w w' lost faulty first left is answered whole handed taken = (
    text,
    (first, left, answer, faulty, is, answered, whole),
    TakesSome-after held held' held'' [] (w' ++ lost) text handed
        (takes_longer held' held'' w' lost (w' ++ lost) refl taken),
  )

  -- after all of an answer was handed on and its unreadable line named, or a beginning of that line
  named_taken : (answer w w' : List ℕ) (faulty : Option ℕ) → ScriptAnswered lines answer faulty →
      HandsOn held [] held' w answer
      → StartsWith (w ++ faulty_text faulty) w' → TakesSome held' w' held'' → TakesBeginning lines held held''
  named_taken answer w w' faulty answered handed begins taken =
      let lost = drop (length w') (w ++ faulty_text faulty) in
      rest_taken answer (answer ++ faulty_text faulty) w w' lost faulty lines [] (sym (append-nil lines)) answered refl
      (HandsOn-trans held held' held' [] w (w' ++ lost) answer (faulty_text faulty) handed
      (HandsOn-wait held' w (w' ++ lost) (faulty_text faulty)
      (sym (starts_with_rest (w ++ faulty_text faulty) w' begins)))) taken

  -- after what was answered was handed on, the writer takes a beginning
  pub beginning_taken : {T : Type 0} (first w w' : List ℕ) (ended : Result T ScriptFault) →
      (ended ≡ Err Device → ⊥) → first ≡ []
      → StartsWith (w ++ named_text ended) w' → TakesSome held' w' held'' →
      HandsAnswer ScriptAnswered lines held first ended held' w → TakesBeginning lines held held''
  beginning_taken first w w' (Ok t) other none begins taken h =
      named_taken h.0 w w' None h.1 (subst (λ l. HandsOn held l held' w h.0) none h.2) begins taken
  beginning_taken first w w' (Err (Unreadable n)) other none begins taken h =
      named_taken h.0 w w' (Some n) h.1 (subst (λ l. HandsOn held l held' w h.0) none h.2) begins taken
  beginning_taken first w w' (Err Device) other none begins taken h = absurd (other refl)
  beginning_taken first w w' (Err Memory) other none begins taken (text, lost, answered, handed) =
      let left = drop (length w') (w ++ []) in
      let kept : w ≡ w' ++ left = sym (append-nil w) ∙ starts_with_rest (w ++ []) w' begins in
      rest_taken answered.2 text w w' (left ++ lost) answered.3 answered.0 answered.1 answered.4 answered.5 answered.6
      (subst (λ l. HandsOn held [] held' l text) (ap (λ l. l ++ lost) kept ∙ append_assoc w' left lost)
      (subst (λ l. HandsOn held l held' (w ++ lost) text) none handed)) taken

-- the whole text of a script, once its unreadable line is named and all is written
whole : (lines : List (List ℕ)) (faulty was : Option ℕ) (held held' held'' : Option (List ℕ)) (w w' v : List ℕ) →
    faulty ≡ was → w' ≡ w ++ faulty_text was
    → HandsOn held' w' held'' v [] → v ≡ []
    → (answer : List ℕ) × ScriptAnswered lines answer was × HandsOn held [] held' w answer
    → (text : List ℕ) × ScriptAnswered lines text faulty × Writes held [] held'' [] (text ++ faulty_text faulty)
whole lines faulty was held held' held'' w w' v same named rest empty h =
    let handed = HandsOn-on held held' held'' [] w' v (h.0 ++ faulty_text was)
    (HandsOn-trans held held' held' [] w w' h.0 (faulty_text was) h.2
    (HandsOn-wait held' w w' (faulty_text was) named)) rest in (
      h.0,
      subst (λ f. ScriptAnswered lines h.0 f) (sym same) h.1,
      subst (λ f. Writes held [] held'' [] (h.0 ++ faulty_text f)) (sym same)
          (Writes-handed held held'' [] [] (h.0 ++ faulty_text was)
          (subst (λ l. HandsOn held [] held'' l (h.0 ++ faulty_text was)) empty handed)),
    )

other_end : {T : Type 0} (t : T) (e : ScriptFault) → Ok t ≡ Err e → ⊥
other_end t e h = cc

other_fault : {T : Type 0} (n : ℕ) (r : Result T ScriptFault) → r ≡ Err (Unreadable n) → r ≡ Err Device → ⊥
other_fault n r h k = cc

not_memory : {T : Type 0} (n : ℕ) (r : Result T ScriptFault) → r ≡ Err (Unreadable n) → r ≡ Err Memory → ⊥
not_memory n r h k = cc

module _ {T : Type 0} (lines : List (List ℕ)) (held held' held'' : Option (List ℕ)) (w w' v : List ℕ) where
  named_end : (faulty : Option ℕ) (ended : Result T ScriptFault) → (ended ≡ Err Device → ⊥) → (ended ≡ Err Memory → ⊥)
      → IfRead ended (λ was. (faulty ≡ was) × (w' ≡ w ++ faulty_text was)) → HandsOn held' w' held'' v [] → v ≡ []
      → HandsAnswer ScriptAnswered lines held [] ended held' w
      → (text : List ℕ) × ScriptAnswered lines text faulty × Writes held [] held'' [] (text ++ faulty_text faulty)
  named_end faulty (Ok t) nd nm named rest empty h =
      whole lines faulty None held held' held'' w w' v named.0 named.1 rest empty h
  named_end faulty (Err (Unreadable n)) nd nm named rest empty h =
      whole lines faulty (Some n) held held' held'' w w' v named.0 named.1 rest empty h
  named_end faulty (Err Device) nd nm named rest empty h = absurd (nd refl)
  named_end faulty (Err Memory) nd nm named rest empty h = absurd (nm refl)

  all_named : (ended named : Result T ScriptFault) → (ended ≡ Err Device → named ≡ Err Device) →
      (ended ≡ Err Memory → named ≡ Err Memory)
      → IfRead named (λ faulty. IfRead ended (λ was. (faulty ≡ was) × (w' ≡ w ++ faulty_text was))) →
      HandsOn held' w' held'' v [] → v ≡ []
      → HandsAnswer ScriptAnswered lines held [] ended held' w
      → IfRead named (λ faulty. (text : List ℕ) × ScriptAnswered lines text faulty
      × Writes held [] held'' [] (text ++ faulty_text faulty))
  all_named ended (Ok t) device memory named rest empty h =
      named_end None ended (λ e. other_end t Device (device e)) (λ e. other_end t Memory (memory e)) named rest empty h
  all_named ended (Err (Unreadable n)) device memory named rest empty h =
      named_end (Some n) ended (λ e. other_fault n _ refl (device e))
      (λ e. not_memory n _ refl (memory e)) named rest empty h
  all_named ended (Err Device) device memory named rest empty h = tt
  all_named ended (Err Memory) device memory named rest empty h = tt

-- a fact of the text that was read is one of the bytes that the reader had, where they are known
pub of_known : (known : Option (List ℕ)) (input text : List ℕ) (P : List ℕ → Type 0) →
    IfSome known (λ bytes. input ≡ bytes) → text ≡ input → P text → IfSome known P
of_known None input text P same is h = tt
of_known (Some bytes) input text P same is h = subst P (is ∙ same) h

-- a fact of any bytes is one of those that the reader has
pub of_any : (known : Option (List ℕ)) (P : List ℕ → Type 0) → ((bytes : List ℕ) → P bytes) → IfSome known P
of_any None P h = tt
of_any (Some bytes) P h = h bytes

-- a whole script, where it is known what the reader gives
pub script_answered : {T : Type 0} (known : Option (List ℕ)) (input text : List ℕ) (held held' held'' : Option (List ℕ))
    (first w w' v : List ℕ) (ended named : Result T ScriptFault)
    → IfSome known (λ bytes. input ≡ bytes) → text ≡ input → first ≡ [] → (ended ≡ Err Device → named ≡ Err Device) →
    (ended ≡ Err Memory → named ≡ Err Memory)
    → IfRead named (λ faulty. IfRead ended (λ was. (faulty ≡ was) × (w' ≡ w ++ faulty_text was))) →
    HandsOn held' w' held'' v [] → v ≡ []
    → HandsAnswer ScriptAnswered (lines_of text) held first ended held' w
    → IfSome known (λ bytes. IfRead named (λ faulty. (answer : List ℕ) × ScriptAnswered (lines_of bytes) answer faulty ×
    Writes held [] held'' [] (answer ++ faulty_text faulty)))
script_answered {T} known input text held held' held'' first w w' v ended named same is none device memory said rest
    empty h =
    of_known known input text (λ bytes. IfRead named (λ faulty. (answer : List ℕ) ×
    ScriptAnswered (lines_of bytes) answer faulty ×
    Writes held [] held'' [] (answer ++ faulty_text faulty))) same is
    (all_named (lines_of text) held held' held'' w w' v ended named device memory said rest empty
    (subst (λ l. HandsAnswer ScriptAnswered (lines_of text) held l ended held' w) none h))
