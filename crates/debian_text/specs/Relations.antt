-- Relations between packages, as `git (>= 1:2.0)` or `python3:any`.
use Rattle.std.specs.Prelude.{ℕ, ◌-◌, ◌==◌, ◌||◌, ◌&&◌, Bool, nat_le, List, Option, None, Some, codes, drop, length}
use Rattle.std.specs.Prelude.{option_and_then, option_map, slice_index_or, take, if◌then◌else◌}
use Rattle.std.specs.List.{prefix_len}
use Rattle.std.specs.Str.{bytes_eq}
use Rattle.debian_text.specs.Words.{cut_at, trimmed, version_of, word_of}
use Rattle.debian_text.specs.declared.relation.Operator.{Operator}
use Rattle.debian_text.specs.declared.relation.Operator.TheVariants.{Earlier, EarlierOrEqual, Equal, LaterOrEqual}
use Rattle.debian_text.specs.declared.relation.Operator.TheVariants.{Later}

pub record BoundText : Type 0 where
  pub operator : Operator
  pub version : List ℕ

pub record RelationText : Type 0 where
  pub name : List ℕ
  pub qualifier : Option (List ℕ)
  pub bound : Option BoundText

-- `<`, `=` or `>`
abbrev pub is_of_sign : ℕ → Bool
is_of_sign c = nat_le 60 c && nat_le c 62

-- `<` and `>` are old for `<=` and `>=`
abbrev pub operator_of : List ℕ → Option Operator
operator_of sign =
    if bytes_eq sign (codes "<<") then Some Earlier
    else if bytes_eq sign (codes "<") || bytes_eq sign (codes "<=") then Some EarlierOrEqual
    else if bytes_eq sign (codes "=") then Some Equal
    else if bytes_eq sign (codes ">") || bytes_eq sign (codes ">=") then Some LaterOrEqual
    else if bytes_eq sign (codes ">>") then Some Later
    else None

-- `>= 1:2.0`: an operator, and a version behind it
abbrev pub bound_signed : ℕ → List ℕ → Option BoundText
bound_signed length text =
    option_and_then (λ operator. option_map (λ version. record { operator = operator; version = version })
    (version_of (drop length text)))
    (operator_of (take length text))

abbrev pub bound_of : List ℕ → Option BoundText
bound_of text = bound_signed (prefix_len is_of_sign (trimmed text)) (trimmed text)

-- the bound behind a `(`: there is a `)` at the end
abbrev pub bound_closed : List ℕ → Option BoundText
bound_closed text =
    if slice_index_or text (length text - 1) 0 == 41 then bound_of (take (length text - 1) text) else None

abbrev pub bound_in : List ℕ → Option BoundText
bound_in text = bound_closed (trimmed text)

-- a package's name, and perhaps a qualifier behind a colon; both are words
abbrev pub relation_split : Option BoundText → List ℕ → Option (List ℕ × List ℕ) → Option RelationText
relation_split bound name None = Some (record { name = name; qualifier = None; bound = bound })
relation_split bound name (Some parts) =
    if (length parts.0 == 0) || (length parts.1 == 0) then None
    else Some (record { name = parts.0; qualifier = Some parts.1; bound = bound })

abbrev pub relation_named : Option BoundText → List ℕ → Option RelationText
relation_named bound text = option_and_then (λ name. relation_split bound name (cut_at 58 name)) (word_of text)

-- a package, and perhaps a bound in parentheses
abbrev pub relation_bound : List ℕ → Option (List ℕ × List ℕ) → Option RelationText
relation_bound text None = relation_named None text
relation_bound text (Some parts) = option_and_then (λ bound. relation_named (Some bound) parts.0) (bound_in parts.1)

abbrev pub relation_of : List ℕ → Option RelationText
relation_of text = relation_bound text (cut_at 40 text)
