use Rattle.std.proofs.Common.{◌∙◌, map, arith, sym}
use Rattle.std.proofs.lemmas.Bool.{not-false, not-true}
use Rattle.std.proofs.lemmas.List.{length-map}
use Rattle.example_index.proofs.Words.{IsOf, needs_of, plain_version, string_bytes, with_bytes}
use Rattle.example_index.proofs.Fresh.{added_none, added_some, same_known}
use Rattle.example_index.proofs.Kept.{kept_same}
use Rattle.example_index.proofs.Later.{later_bytes, named_here}
use Rattle.example_index.proofs.index.SmallIndex.add_version.Goals as goal

pub returns-then-not-branch-clause-is : goal.returns-then-not-branch-clause-is
returns-then-not-branch-clause-is c versions kept =
    let first = c.args.self.now.pool in
    let pool = c.intern_name-name.new.pool in
    let x = plain_version c.args.version.now in
    let same = same_known (with_bytes first) (with_bytes pool) (later_bytes first pool c.in_ok-name.ensures.later)
    c.in_ok-name.name x c.in_ok-name.ensures.is c.args.known.now.keys c.requires versions kept.versions_are in
    added_none _ versions x (same ∙ not-false _ (sym c.in_ok-insert.ensures.added ∙ c.if-not-branch.true))

pub add_fresh-requires-clause-name : goal.add_fresh-requires-clause-name
add_fresh-requires-clause-name c =
    let names = c.intern_name-name.new.pool.names in
    omega (
      arith,
      named_here c.args.version.now.name.now (map string_bytes names) c.in_ok-name.name
          c.in_ok-name.ensures.is,
      length-map names string_bytes,
    )

pub returns-clause-is : goal.returns-clause-is
returns-clause-is c versions kept =
    let first = c.args.self.now.pool in
    let pool = c.intern_name-name.new.pool in
    let packages = c.reach.new.packages.items in
    let needs = map needs_of c.args.self.now.needs.items in
    let x = plain_version c.args.version.now in
    let later = later_bytes first pool c.in_ok-name.ensures.later in
    let same = same_known (with_bytes first) (with_bytes pool) later c.in_ok-name.name x c.in_ok-name.ensures.is
    c.args.known.now.keys c.requires versions kept.versions_are in
    let kept_now = kept_same (with_bytes first) (with_bytes pool) later c.in_ok-name.ensures.solvables
    c.args.self.now.packages.items packages needs versions c.in_ok-reach.ensures.same kept in
    added_some (IsOf c.add_fresh.new.self) versions x
    (same ∙ not-true _ (sym c.in_ok-insert.ensures.added ∙ c.if-not-branch.false))
    (c.in_ok-add_fresh.ensures.is versions kept_now c.in_ok-name.ensures.is)
