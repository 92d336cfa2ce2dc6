-- What answers an index.
use Rattle.std.proofs.Common.{◌≡◌, ℕ, List, None, Some, Result, Ok, Err, ap, refl, sym, inl, inr}
use Rattle.example_answers.proofs.Words.{AnswersIndex, AreRead, Failed, GaveUp, IndexFault, IndexText, IsAnswer}
use Rattle.example_answers.proofs.Words.{IsAnswerOf, IsFault, IsIndex, NoSolution, Outcome, Picked, Provider, SaysFault}
use Rattle.example_answers.proofs.Words.{SmallIndex, Texts, Unreadable, unreadable_in}
use Rattle.example_index.specs.declared.fault.IndexFault.TheVariants as Fault

-- an index is what is said
abbrev pub IsSaid : IndexText → SmallIndex → Type 0
IsSaid said index = IsIndex index said

-- of what was read no line is unreadable
pub none_unreadable : (said : Result IndexText ℕ) (index : SmallIndex) (outcome : Outcome) → AreRead IsSaid said
    (Ok index)
    → None ≡ unreadable_in said outcome
none_unreadable (Ok meant) index outcome read = refl
none_unreadable (Err number) index outcome read = absurd read

-- the fault of what wasn't read
pub read_fault : (said : Result IndexText ℕ) (fault : IndexFault) → AreRead IsSaid said (Err fault) → IsFault said fault
read_fault (Ok meant) (Fault.Unreadable n) read = absurd read
read_fault (Err number) (Fault.Unreadable n) read = ap Err (sym read)
read_fault said (Fault.Refused refused) read = tt

-- where something was refused no line is unreadable
pub refused_unreadable : (said : Result IndexText ℕ) → None ≡ unreadable_in said GaveUp
refused_unreadable (Ok meant) = refl
refused_unreadable (Err number) = refl

module _ {N S : Type 0} (functions : SmallIndex → Provider N S) (texts : SmallIndex → Texts N S) where
  -- what a search answers to an index
  pub index_answered : (index : SmallIndex) (outcome : Outcome) (text : List ℕ)
      → IsAnswer (functions index) (texts index) index.request.items outcome text
      → AnswersIndex functions texts index outcome text
  index_answered index Picked text says meant is =
      record { meant = meant; index = index; says_index = refl; is_index = is; says = says }
  index_answered index NoSolution text says meant is =
      record { meant = meant; index = index; says_index = refl; is_index = is; says = says }
  index_answered index GaveUp text says meant is =
      inr (record { meant = meant; index = index; says_index = refl; is_index = is; says = says })
  index_answered index Unreadable text says meant is = absurd says
  index_answered index Failed text says meant is = absurd says

  -- what answers an index that was read answers what is said
  pub of_read : (said : Result IndexText ℕ) (index : SmallIndex) (outcome : Outcome) (text : List ℕ)
      → AreRead IsSaid said (Ok index) → AnswersIndex functions texts index outcome text
      → IsAnswerOf functions texts said outcome text
  of_read (Ok meant) index outcome text read says = says meant read
  of_read (Err number) index outcome text read says = absurd read

  -- what a fault says answers what has it
  pub of_fault : (said : Result IndexText ℕ) (fault : IndexFault) (outcome : Outcome) (text : List ℕ)
      → IsFault said fault → SaysFault fault outcome text → IsAnswerOf functions texts said outcome text
  of_fault said (Fault.Unreadable n) Unreadable text is says = (n, is, says)
  of_fault said (Fault.Unreadable n) Picked text is says = absurd says
  of_fault said (Fault.Unreadable n) NoSolution text is says = absurd says
  of_fault said (Fault.Unreadable n) GaveUp text is says = absurd says
  of_fault said (Fault.Unreadable n) Failed text is says = absurd says
  of_fault said (Fault.Refused refused) GaveUp text is says = inl (refused, says)
  of_fault said (Fault.Refused refused) Picked text is says = absurd says
  of_fault said (Fault.Refused refused) NoSolution text is says = absurd says
  of_fault said (Fault.Refused refused) Unreadable text is says = absurd says
  of_fault said (Fault.Refused refused) Failed text is says = absurd says
