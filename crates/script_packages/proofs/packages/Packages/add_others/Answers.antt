use Rattle.std.proofs.Common.{◌≡◌, ◌+◌, ◌∙◌, Some, ap, sym, length, rules, arith}
use Rattle.std.proofs.lemmas.List.{length-append, length-map}
use Rattle.script_packages.proofs.Words.{listed_versions, Listing, listing_of, option_and_then, string_bytes}
use Rattle.script_packages.proofs.Words.{version_of, words}
use Rattle.script_packages.specs.Listing.{with_version}
use Rattle.script_packages.proofs.packages.Packages.add_others.Goals as goal

pub loop-word-preserved : goal.loop-word-preserved
loop-word-preserved c =
    let name = c.args.name in
    let old = listing_of c.loop-word.self in
    let left = words c.in-Some.others.now in
    let more = c.in_ok-last-in-Some-version_of.ensures in
    let number : version_of c.in-Some.word.word.now ≡ Some c.in-Some-version_of.version = search rules in
    let solvables : length c.add_version.new.self.pool.solvables ≡ length c.loop-word.self.pool.solvables + 1 =
    ap (λ (l : Listing). length l.pool.solvables) more.ok ∙ length-append c.loop-word.self.pool.solvables _ in
    let names : length c.add_version.new.self.pool.names ≡ length c.loop-word.self.pool.names =
    sym (length-map c.add_version.new.self.pool.names string_bytes) ∙
    (ap (λ (l : Listing). length l.pool.names) more.ok ∙ length-map c.loop-word.self.pool.names string_bytes) in
    record {
      listed =
          ap (λ (l : Listing). listed_versions l name left) more.ok
          ∙ (sym (ap (option_and_then (λ v. listed_versions (with_version old name v) name left)) number)
          ∙ (sym (ap (listed_versions old name) c.in-Some.ensures.first) ∙ c.loop-word.invariant.listed));
      last = omega (arith, more.id, solvables);
      spans = more.spans ∙ c.loop-word.invariant.spans;
      name = omega (arith, c.loop-word.invariant.name, names);
    }
