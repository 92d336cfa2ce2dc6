use Rattle.std.proofs.Common.{◌∙◌, arith, map, take, sym, subst}
use Rattle.std.proofs.lemmas.List.{take_all}
use Rattle.example_index.proofs.Words.{AreEntries, plain_entry, with_bytes}
use Rattle.example_index.proofs.Later.{later_twice, map_with}
use Rattle.example_index.proofs.states.intern_entries.Goals as goal

pub loop-entry-preserved : goal.loop-entry-preserved
loop-entry-preserved c =
    let entries = c.args.entries.now in
    let i = c.loop-entry.entry-index in
    record {
      are = subst (AreEntries (with_bytes c.intern_entry.new.pool) c.intern_entry.new.found)
          (sym (map_with plain_entry entries i c.entry-item.result c.loop-entry-test.true c.entry-item.is))
          (c.in_ok-intern_entry.ensures.is (map plain_entry (take i entries)) c.loop-entry.invariant.are);
      later = later_twice c.args.pool.now c.loop-entry.pool c.intern_entry.new.pool c.loop-entry.invariant.later
          c.in_ok-intern_entry.ensures.later;
      solvables = c.in_ok-intern_entry.ensures.solvables ∙ c.loop-entry.invariant.solvables;
    }

pub returns-clause-are : goal.returns-clause-are
returns-clause-are c =
    subst (λ entries. AreEntries (with_bytes c.loop-entry.pool) c.loop-entry.found (map plain_entry entries))
    (take_all c.loop-entry.entry-index c.args.entries.now (omega (arith, c.loop-entry-test.false)))
    c.loop-entry.invariant.are

pub returns-in_err-intern_entry-clause-later : goal.returns-in_err-intern_entry-clause-later
returns-in_err-intern_entry-clause-later c =
    later_twice c.args.pool.now c.loop-entry.pool c.intern_entry.new.pool c.loop-entry.invariant.later
    c.intern_entry.ensures.later
