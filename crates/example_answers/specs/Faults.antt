-- Why there is no answer, and what is said of it.
use Rattle.std.specs.Prelude.{◌≡◌, ℕ, List, Option, None, Some, Result, Err, ⊤}
use Rattle.index_text.specs.Index.{IndexText}
use Rattle.example_index.specs.declared.fault.IndexFault.{IndexFault}
use Rattle.example_index.specs.declared.fault.IndexFault.TheVariants.{Unreadable, Refused}
use Rattle.example_answers.specs.Answers.{refused_text, unreadable_text}
use Rattle.example_answers.specs.declared.outcome.Outcome.{Outcome}
use Rattle.example_answers.specs.declared.outcome.Outcome.TheVariants as Is

-- the fault of lines that say this
abbrev pub IsFault : Result IndexText ℕ → IndexFault → Type 0
IsFault said (Unreadable number) = said ≡ Err number
IsFault said (Refused refused) = ⊤

-- what each outcome says of the text
abbrev pub SaysFault : IndexFault → Outcome → List ℕ → Type 0
SaysFault (Unreadable number) Is.Unreadable text = text ≡ unreadable_text number
SaysFault (Refused refused) Is.GaveUp text = text ≡ refused_text refused
SaysFault _ _ text = ⊥

-- the number of the unreadable line of what is said, if that is the outcome
abbrev pub unreadable_in : {X : Type 0} → Result X ℕ → Outcome → Option ℕ
unreadable_in (Err number) Is.Unreadable = Some number
unreadable_in said outcome = None
