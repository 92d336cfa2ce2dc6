use Rattle.std.proofs.Common.{◌≡◌, ◌++◌, ◌∷◌, map}
use Rattle.std.specs.Prelude.{option_map}
use Rattle.std.specs.Str.{bytes_eq}
use Rattle.index_text.proofs.Cuts.{words_left}
use Rattle.index_text.specs.Plain.{plain_set}
use Rattle.index_text.specs.PlainFormats.{plain_format}
use Rattle.index_text.specs.Sets.{texts, set_of, sets_of, each_of, parts_behind}
use Rattle.index_text.proofs.set.read_sets.Given as goal

-- the sets so far, and those of the parts behind
abbrev pub invariant-parts : goal.invariant-parts
invariant-parts l =
    option_map (λ more. plain_set l.first ∷ map plain_set l.others.items ++ more)
    (each_of (set_of (plain_format l.format)) (parts_behind (bytes_eq l.between) l.rest))
    ≡ sets_of (plain_format l.format) l.between (texts l.words)

abbrev pub decreases-parts : goal.decreases-parts
decreases-parts l = words_left l.rest
