use Rattle.std.proofs.Common.{◌≡◌, ℕ, true, List}
use Rattle.std.specs.List.{list_any}
use Rattle.debian_text.specs.Relations.{relation_of}
use Rattle.debian_directory.specs.Directory.{has_name, is_placed, IsInStep, Keeps}
use Rattle.debian_directory.proofs.directory.Directory.add_provided.Given as goal

-- the place is under the names of the parts so far
abbrev pub invariant-loop-part : goal.invariant-loop-part
invariant-loop-part l = record {
  in_step : IsInStep l.self;
  kept : Keeps l.initial.self l.self;
  added : (name : List ℕ) → list_any (λ part. has_name name (relation_of part.now)) l.yielded ≡ true →
      is_placed l.self name l.place ≡ true;
}
