use Rattle.std.proofs.Common.{◌+◌, ◌≤◌, length, ℕ, List}
use Rattle.script_text.specs.Lines.{lines as lines_of}
use Rattle.script_packages.proofs.Words.{CommandsBegin, FaultyAt, listing_of, NeedMemory, NeverBegins, nothing_listed}
use Rattle.script_packages.proofs.Words.{Packages}
use Rattle.script_packages.proofs.catalogue.list_packages.Given as goal

-- how what is left of the lines ends after what is listed, so all of them do
abbrev pub invariant-loop-said : goal.invariant-loop-said
invariant-loop-said l = record {
  fits : l.count + length l.rest ≤ length l.text;
  never : NeverBegins (listing_of l.packages) (lines_of l.rest) → NeverBegins nothing_listed (lines_of l.text);
  begins : (before : ℕ) (left : List (List ℕ)) (packages : Packages) →
      CommandsBegin (listing_of l.packages) l.count (lines_of l.rest) before left packages
      → CommandsBegin nothing_listed 0 (lines_of l.text) before left packages;
  faulty : (number : ℕ) → FaultyAt (listing_of l.packages) l.count (lines_of l.rest) number →
      FaultyAt nothing_listed 0 (lines_of l.text) number;
  need : NeedMemory (listing_of l.packages) (lines_of l.rest) → NeedMemory nothing_listed (lines_of l.text);
}

abbrev pub decreases-loop-said : goal.decreases-loop-said
decreases-loop-said l = length l.rest
