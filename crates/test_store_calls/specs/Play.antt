-- The replies of the abstract store, computed: with ample memory.
use Rattle.std.specs.Prelude.{◌≡◌, false, if◌then◌else◌, List, [], ◌∷◌, All, Option, Some, None}
use Rattle.resolvo_ids.specs.Types.StoreError.{StoreError}
use Rattle.resolvo_ids.specs.Types.StoreError.TheVariants.{IdSpace}
use Rattle.resolvo_store.specs.Command.{Command, Reply, Refused, is_saturate}
use Rattle.resolvo_store.specs.Store.{Store}
use Rattle.resolvo_store.specs.Refusals.{first_refusal}
use Rattle.resolvo_store.specs.Outcome.{Outcome, outcome}
use Rattle.resolvo_store.specs.Step.{Run, lacks_ids}

module _ {N S : Type 0} where
  -- the reply to a command and the store after it, by the first refusal that applies
  abbrev pub answered : Store N S → Command N S → Option StoreError → Outcome N S
  answered st c (Some e) = record { reply = Refused e; store = st }
  answered st c None = if lacks_ids st c then record { reply = Refused IdSpace; store = st } else outcome st c

  abbrev pub answer : Store N S → Command N S → Outcome N S
  answer st c = answered st c (first_refusal st c)

  -- the replies to commands in turn
  abbrev pub play : Store N S → List (Command N S) → List Reply
  play st [] = []
  play st (c ∷ cs) = let o = answer st c in o.reply ∷ play o.store cs

  -- the store after them
  abbrev pub store_after : Store N S → List (Command N S) → Store N S
  store_after st [] = st
  store_after st (c ∷ cs) = let o = answer st c in store_after o.store cs

-- what is computed is a run, where no command is a Saturate: which has no one outcome to compute
abbrev pub PlayIsRun : Type 0 → Type 0 → Type 0
PlayIsRun N S = (st : Store N S) (cs : List (Command N S)) → All (λ c. is_saturate c ≡ false) cs →
    Run st cs (play st cs) (store_after st cs)
