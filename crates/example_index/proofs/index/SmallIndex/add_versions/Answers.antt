use Rattle.std.proofs.Common.{◌∙◌, ◌+◌, List, arith, map, drop, ap, sym, subst}
use Rattle.std.proofs.Math.ListN.{drop_of_length-le}
use Rattle.std.proofs.lemmas.Result.{err_from_is_err_and}
use Rattle.index_text.specs.Index.{versions_of}
use Rattle.index_text.specs.declared.format.VersionFormat.{VersionFormat as Written}
use Rattle.example_index.proofs.Words.{AreRead, Err, IsLineAdded, IsOf, Line, Ok, option_and_then, or_fault}
use Rattle.example_index.proofs.Words.{plain_format, plain_line, version_said, with_version, ⊤}
use Rattle.example_index.proofs.Later.{later_twice}
use Rattle.example_index.proofs.LineLemmas.{line_added, fault_read, versions_step}
use Rattle.example_index.proofs.index.SmallIndex.add_versions.Goals as goal

pub returns-in_err-add_line-clause-are : goal.returns-in_err-add_line-clause-are
returns-in_err-add_line-clause-are c versions kept =
    let format = plain_format c.args.reader.now.format in
    let err = err_from_is_err_and c.from_residual-in_err-add_line.result
    c.from_residual-in_err-add_line.ensures.1 in
    let more = c.loop-line.invariant.are versions kept in
    let line = c.line-item.result in
    let added = subst (λ (written : Written). IsLineAdded (IsOf c.add_line.new.self)
    (option_and_then (with_version more.0) (option_and_then (version_said (plain_format written))
    (plain_line line).words))
    line.number (Err c.in_err-add_line.field-0.0)) c.loop-line.invariant.format
    (c.in_err-add_line.ensures.is more.0 more.1) in
    let rest = map plain_line (drop (c.loop-line.line-index + 1) c.args.lines.now) in
    let all = versions_of format versions (map plain_line c.args.lines.now) in
    let step = versions_step format c.args.lines.now c.loop-line.line-index line c.loop-line-test.true c.line-item.is
    more.0 all more.2 in
    subst (AreRead (λ said done. IsOf c.add_line.new.self said) all) (sym (err.1 ∙ ap Err err.2))
    (fault_read (λ said (done : ⊤). IsOf c.add_line.new.self said) line.number _ (IsOf c.add_line.new.self) all
    c.in_err-add_line.field-0.0 added
    (λ none. sym step ∙ ap (or_fault line.number (λ said. versions_of format said rest)) none))

pub loop-line-preserved : goal.loop-line-preserved
loop-line-preserved c = record {
  are = λ versions kept.
      let more = c.loop-line.invariant.are versions kept in
      let format = plain_format c.args.reader.now.format in
      line_added format (IsOf c.add_line.new.self) c.line-item.result.number
      (map plain_line (drop (c.loop-line.line-index + 1) c.args.lines.now))
      (versions_of format versions (map plain_line c.args.lines.now)) _ c.in_ok-add_line.field-0
      (subst (λ (written : Written). IsLineAdded (IsOf c.add_line.new.self)
      (option_and_then (with_version more.0)
      (option_and_then (version_said (plain_format written)) (plain_line c.line-item.result).words))
      c.line-item.result.number (Ok c.in_ok-add_line.field-0)) c.loop-line.invariant.format
      (c.in_ok-add_line.ensures.is more.0 more.1))
      (versions_step format c.args.lines.now c.loop-line.line-index c.line-item.result c.loop-line-test.true
      c.line-item.is
      more.0 _ more.2);
  known = c.in_ok-add_line.ensures.known;
  later = later_twice c.args.self.now.pool c.loop-line.self.pool c.add_line.new.self.pool
      c.loop-line.invariant.later c.in_ok-add_line.ensures.later;
  request = c.in_ok-add_line.ensures.request ∙ c.loop-line.invariant.request;
  format = c.in_ok-add_line.ensures.format ∙ c.loop-line.invariant.format;
}

pub returns-in_err-add_line-clause-later : goal.returns-in_err-add_line-clause-later
returns-in_err-add_line-clause-later c =
    later_twice c.args.self.now.pool c.loop-line.self.pool c.add_line.new.self.pool c.loop-line.invariant.later
    c.add_line.ensures.later

pub returns-clause-are : goal.returns-clause-are
returns-clause-are c versions kept =
    let format = plain_format c.args.reader.now.format in
    let more = c.loop-line.invariant.are versions kept in
    let none = drop_of_length-le c.args.lines.now {i = c.loop-line.line-index}
    (omega (arith, c.loop-line-test.false)) in
    let all = ap (λ (rest : List Line). versions_of format more.0 (map plain_line rest)) none in
    subst (λ said. AreRead (λ text (done : ⊤). IsOf c.loop-line.self text) said (Ok tt)) (sym all ∙ more.2) more.1
