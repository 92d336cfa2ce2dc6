use Rattle.std.proofs.Common.{◌≡◌, ◌<◌, ◌≤◌, ℕ, [], false, map, get_or, length}
use Rattle.script_packages.proofs.Words.{bytes_eq, string_bytes}
use Rattle.script_packages.proofs.packages.Packages.is_listed.Given as goal

abbrev pub invariant-loop-index : goal.invariant-loop-index
invariant-loop-index l =
    let names = map string_bytes l.self.pool.names in
    record {
      within : l.index ≤ length names;
      others : (k : ℕ) → k < l.index → bytes_eq l.name (get_or names k []) ≡ false;
    }
