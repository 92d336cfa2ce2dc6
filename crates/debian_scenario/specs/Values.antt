-- The values of a stanza's fields.
use Rattle.std.specs.Prelude.{ℕ, Bool, true, false, List, [], ◌∷◌, Option, None, Some, Result, Ok, Err, codes}
use Rattle.std.specs.Prelude.{is_some, slice_index_or, slice_set, unwrap_or, if◌then◌else◌}
use Rattle.std.proofs.Math.ListN.{replicate}
use Rattle.std.specs.Str.{bytes_eq}
use Rattle.debian_text.specs.Words.{cut_at, trimmed, version_of, word_of}
use Rattle.debian_scenario.specs.Keys.{key_of, place}
use Rattle.debian_scenario.specs.Results.{◌>>=◌}
use Rattle.debian_scenario.specs.declared.fault.StanzaFault.{StanzaFault}
use Rattle.debian_scenario.specs.declared.fault.StanzaFault.TheVariants.{Missing, NoColon, Twice, Unreadable}
use Rattle.debian_scenario.specs.declared.key.Key.{Key}

-- the value of each field that counts
abbrev pub Values : Type 0
Values = List (Option (List ℕ))

abbrev pub no_values : Values
no_values = replicate 27 None

abbrev pub value_in : Key → Values → Option (List ℕ)
value_in key values = slice_index_or values (place key) None

-- one value more, of a field that isn't there yet
abbrev pub with_value : Values → List ℕ → Option Key → Result Values StanzaFault
with_value values value None = Ok values
with_value values value (Some key) =
    if is_some (value_in key values) then Err (Twice key) else Ok (slice_set values (place key) (Some value))

abbrev pub with_parts : Values → Option (List ℕ × List ℕ) → Result Values StanzaFault
with_parts values None = Err NoColon
with_parts values (Some parts) = with_value values parts.1 (key_of parts.0)

-- one field more: its name is before the first colon
abbrev pub with_field : Values → List ℕ → Result Values StanzaFault
with_field values field = with_parts values (cut_at 58 field)

abbrev pub values_from : Values → List (List ℕ) → Result Values StanzaFault
values_from values [] = Ok values
values_from values (field ∷ rest) = with_field values field >>= (λ more. values_from more rest)

-- the values of these fields, of which no two that count have one name
abbrev pub values_of : List (List ℕ) → Result Values StanzaFault
values_of fields = values_from no_values fields

-- the value of a field, or an empty text
abbrev pub text_in : Key → Values → List ℕ
text_in key values = unwrap_or (value_in key values) []

abbrev pub needed : {A : Type 0} → Key → Option A → Result A StanzaFault
needed key None = Err (Missing key)
needed key (Some x) = Ok x

abbrev pub readable : {A : Type 0} → Key → Option A → Result A StanzaFault
readable key None = Err (Unreadable key)
readable key (Some x) = Ok x

abbrev pub required_in : Key → Values → Result (List ℕ) StanzaFault
required_in key values = needed key (value_in key values)

-- the word of a field that has to be there
abbrev pub word_in : Key → Values → Result (List ℕ) StanzaFault
word_in key values = required_in key values >>= (λ text. readable key (word_of text))

-- the version of a field that has to be there
abbrev pub version_in : Key → Values → Result (List ℕ) StanzaFault
version_in key values = required_in key values >>= (λ text. readable key (version_of text))

-- `yes` or `no`
abbrev pub flag_of : Key → List ℕ → Result Bool StanzaFault
flag_of key text =
    if bytes_eq (trimmed text) (codes "yes") then Ok true
    else if bytes_eq (trimmed text) (codes "no") then Ok false
    else Err (Unreadable key)

abbrev pub flag_found : Key → Bool → Option (List ℕ) → Result Bool StanzaFault
flag_found key default None = Ok default
flag_found key default (Some text) = flag_of key text

-- what a field says by `yes` or `no`, or else the default
abbrev pub flag_in : Key → Bool → Values → Result Bool StanzaFault
flag_in key default values = flag_found key default (value_in key values)
