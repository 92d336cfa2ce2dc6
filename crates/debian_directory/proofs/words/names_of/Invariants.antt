use Rattle.std.proofs.Common.{◌≡◌, map}
use Rattle.debian_directory.specs.Answers.{named}
use Rattle.debian_directory.specs.Plain.{plain_name}
use Rattle.debian_directory.proofs.words.names_of.Given as goal

-- the names of the words so far
abbrev pub invariant-loop-word : goal.invariant-loop-word
invariant-loop-word l = map plain_name l.names.items ≡ map (λ word. named l.native word.now) l.yielded
