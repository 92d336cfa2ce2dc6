-- The texts of versions and of version sets.
use Rattle.std.specs.Prelude.{ℕ, List, [], ◌++◌, Option, None, Some, codes, if◌then◌else◌}
use Rattle.std.specs.Str.{bytes_eq}
use Rattle.std.specs.Str.Lossy.{utf8_lossy}
use Rattle.debian_text.specs.Relations.{BoundText, RelationText}
use Rattle.debian_text.specs.declared.relation.Operator.{Operator}
use Rattle.debian_text.specs.declared.relation.Operator.TheVariants.{Earlier, EarlierOrEqual, Equal, LaterOrEqual}
use Rattle.debian_text.specs.declared.relation.Operator.TheVariants.{Later}
use Rattle.debian_scenario.specs.declared.package.Package.{Package}
use Rattle.debian_provider.specs.Sets.{SetText, All, Meeting, Spared, Beside}

abbrev pub sign : Operator → List ℕ
sign Earlier = codes "<<"
sign EarlierOrEqual = codes "<="
sign Equal = codes "="
sign LaterOrEqual = codes ">="
sign Later = codes ">>"

-- as (>= 1:2.0)
abbrev pub bound_text : Option BoundText → List ℕ
bound_text None = []
bound_text (Some bound) = codes "(" ++ sign bound.operator ++ codes " " ++ bound.version ++ codes ")"

-- by which other name versions of this one are meant
abbrev pub other_name : List ℕ → List ℕ → List ℕ
other_name name other = if bytes_eq other name then [] else codes "as " ++ other ++ codes " "

abbrev pub relation_text : List ℕ → RelationText → List ℕ
relation_text name relation = other_name name relation.name ++ bound_text relation.bound

abbrev pub set_text : List ℕ → SetText → List ℕ
set_text name All = []
set_text name (Meeting relation architecture) = relation_text name relation
set_text name (Spared relation) = relation_text name relation
set_text name (Beside version) = codes "(of another architecture)"

-- a package's name, a blank and its version; nothing if there is none
abbrev pub package_text : Option Package → List ℕ
package_text None = []
package_text (Some p) = utf8_lossy (p.identity.name.now ++ codes " " ++ p.identity.version.now)
