use Rattle.std.proofs.Common.{◌≡◌, ◌++◌}
use Rattle.std.specs.Prelude.{option_map, codes}
use Rattle.std.specs.Str.{bytes_eq}
use Rattle.index_text.proofs.Cuts.{words_left}
use Rattle.index_text.specs.Plain.{plain_lists}
use Rattle.index_text.specs.PlainFormats.{plain_format}
use Rattle.index_text.specs.Sets.{texts, sets_of, alternatives_of, each_of, parts_behind}
use Rattle.index_text.proofs.set.alternatives.Given as goal

-- the lists so far, and those of the parts behind
abbrev pub invariant-parts : goal.invariant-parts
invariant-parts l =
    option_map (λ more. plain_lists l.found ++ more)
    (each_of (sets_of (plain_format l.format) (codes "and")) (parts_behind (bytes_eq (codes "or")) l.rest))
    ≡ alternatives_of (plain_format l.format) (texts l.words)

abbrev pub decreases-parts : goal.decreases-parts
decreases-parts l = words_left l.rest
