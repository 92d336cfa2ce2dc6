use Rattle.std.proofs.Common.{◌≡◌, List, map, drop}
use Rattle.index_text.specs.Index.{versions_of}
use Rattle.example_index.proofs.Words.{IsLater, IsOf, numbered, plain_format, plain_line, VersionText}
use Rattle.example_index.proofs.index.SmallIndex.add_versions.Given as goal

-- the versions so far, and those of the lines that are left
abbrev pub invariant-loop-line : goal.invariant-loop-line
invariant-loop-line l = record {
  are : (versions : List VersionText) → IsOf l.fn.self versions → (more : List VersionText) × IsOf l.self more
      × (versions_of (plain_format l.fn.reader.format) more (map plain_line (drop l.line-index l.lines))
      ≡ versions_of (plain_format l.fn.reader.format) versions (map plain_line l.lines));
  known : l.known.keys ≡ map numbered l.self.pool.solvables;
  later : IsLater l.fn.self.pool l.self.pool;
  request : l.self.request ≡ l.fn.self.request;
  format : l.reader.format ≡ l.fn.reader.format;
}
