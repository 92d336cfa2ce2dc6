-- The lines of replies, and the line of an unreadable line.
use Rattle.std.specs.Prelude.{◌≡◌, ℕ, ◌+◌, ◌/◌, ◌%◌, List, [], ◌∷◌, ◌++◌, Result, Ok, Err, codes, decimal}
use Rattle.std.specs.Io.{StartsWith}
use Rattle.resolvo_store.specs.Command.{Reply}
use Rattle.resolvo_store.specs.ReplyTexts.{reply_words}

-- the line of a reply: its words
abbrev pub reply_text : Reply → List ℕ
reply_text reply = reply_words reply ++ codes "\n"

-- the line that names an unreadable line
abbrev pub unreadable_text : ℕ → List ℕ
unreadable_text n = codes "line " ++ (decimal n ++ codes " unreadable\n")

-- a text has this one behind it; or memory was refused, and it is a beginning of that
abbrev pub Pushes : {T E : Type 0} → Result T E → List ℕ → List ℕ → List ℕ → Type 0
Pushes (Ok _) old new more = new ≡ old ++ more
Pushes (Err _) old new more = StartsWith (old ++ more) new

-- the two digits of a number below 100
abbrev pub digit_pair : ℕ → List ℕ
digit_pair n = (48 + n / 10) ∷ (48 + n % 10) ∷ []
