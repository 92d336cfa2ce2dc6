use Rattle.std.proofs.Common.{map}
use Rattle.example_index.proofs.Words.{needs_of, slice_get, with_bytes}
use Rattle.example_index.proofs.Kept.{kept_same, same_itself}
use Rattle.example_index.proofs.Later.{later_bytes}
use Rattle.example_index.proofs.index.SmallIndex.add_request.Goals as goal

pub returns-in_err-self-clause-kept : goal.returns-in_err-self-clause-kept
returns-in_err-self-clause-kept c versions kept =
    let first = c.args.self.now.pool in
    let pool = c.intern_entries-needs.new.pool in
    let packages = c.args.self.now.packages.items in
    kept_same (with_bytes first) (with_bytes pool) (later_bytes first pool c.intern_entries-needs.ensures.later)
    c.intern_entries-needs.ensures.solvables
    packages packages (map needs_of c.args.self.now.needs.items) versions (λ m. same_itself (slice_get packages m)) kept

pub returns-clause-kept : goal.returns-clause-kept
returns-clause-kept c versions kept =
    let first = c.args.self.now.pool in
    let pool = c.intern_entries-needs.new.pool in
    let packages = c.args.self.now.packages.items in
    kept_same (with_bytes first) (with_bytes pool) (later_bytes first pool c.intern_entries-needs.ensures.later)
    c.intern_entries-needs.ensures.solvables
    packages packages (map needs_of c.args.self.now.needs.items) versions (λ m. same_itself (slice_get packages m)) kept
