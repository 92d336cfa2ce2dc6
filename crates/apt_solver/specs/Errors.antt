-- That there is no answer, or why none is given, as apt reads it.
use Rattle.std.specs.Prelude.{◌≡◌, ℕ, ◌==◌, ◌++◌, List, [], ◌∷◌, codes, flat_map, if◌then◌else◌}
use Rattle.debian_scenario.specs.FaultTexts.{place_text}
use Rattle.debian_scenario.specs.declared.fault.ReadError.{ReadError}
use Rattle.debian_scenario.specs.declared.fault.ReadError.TheVariants.{Faulty, OutOfMemory}

-- a byte of a field's value: a line feed has a blank behind it, so it ends no field
abbrev pub byte_text : ℕ → List ℕ
byte_text c = c ∷ (if c == 10 then 32 ∷ [] else [])

abbrev pub lines_text : List ℕ → List ℕ
lines_text text = flat_map byte_text text

-- one stanza, whose message has two parts
abbrev pub error_text : List ℕ → List ℕ → List ℕ
error_text kind rest =
    codes "Error: apt_solver\nMessage: " ++ (lines_text kind ++ (lines_text rest ++ codes "\n\n"))

-- no packages are an answer, with the reasons
abbrev pub none_text : List ℕ → List ℕ
none_text reasons = error_text (codes "there is no solution") reasons

-- the scenario isn't answered, and why
abbrev pub not_answered : List ℕ → List ℕ
not_answered why = error_text (codes "not answered: ") why

abbrev pub SaysFault : List ℕ → Type 0
SaysFault said = (why : List ℕ) × (said ≡ not_answered why)

-- what is said to a scenario that wasn't read: which stanza can't be, and why
abbrev pub unread_text : ReadError → List ℕ
unread_text OutOfMemory = not_answered (codes "out of memory")
unread_text (Faulty fault) = not_answered (place_text fault)
