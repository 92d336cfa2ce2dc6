use Rattle.std.proofs.Common.{◌∙◌, ◌-◌, [], length, map, take, drop, arith, ap, sym, subst, refl}
use Rattle.index_text.specs.Index.{versions_of}
use Rattle.example_index.proofs.Words.{AllZip, AreRead, index_in_format, IsNeed, IsOf, IsRead, needs_in, or_fault}
use Rattle.example_index.proofs.Words.{plain_format, plain_line, with_bytes, with_request, ⊤}
use Rattle.example_index.proofs.Later.{later_bytes, needs_still}
use Rattle.example_index.proofs.LineLemmas.{request_read, request_is, lines_begin}
use Rattle.example_index.proofs.index.SmallIndex.add_lines.Goals as goal

pub returns-clause-are : goal.returns-clause-are
returns-clause-are c empty =
    let format = plain_format c.args.reader.now.format in
    let lines = c.args.lines.now in
    let others = map plain_line (take (length lines - 1) (drop 1 lines)) in
    let before = c.add_request.new.self in
    let after = c.add_versions.new.self in
    let kept = c.in_ok-add_request.ensures.kept [] empty in
    let request = request_is before _ _ _ c.in_ok-add_request.ensures.is in
    let read = c.add_versions.ensures.are [] kept in
    let begin = ap (index_in_format format) (lines_begin lines c.first-item.result
    (omega (arith, c.in-len1-up.len_at_least))
    c.first-item.is)
    ∙ ap (or_fault c.first-item.result.number (λ entries. with_request format entries
    (versions_of format [] others))) request.1 in
    subst (λ said. AreRead (λ text (done : ⊤). IsRead format after text) said c.add_versions.result) (sym begin)
    (request_read format (λ text (done : ⊤). IsRead format after text) (λ more (done : ⊤). IsOf after more) request.0
    (λ versions done h. record {
      format_is = refl;
      request = subst (λ items. AllZip (IsNeed (with_bytes after.pool)) items.items (needs_in request.0))
          (sym c.add_versions.ensures.request)
          (needs_still (with_bytes before.pool) (with_bytes after.pool)
          (later_bytes before.pool after.pool c.add_versions.ensures.later)
          before.request.items (needs_in request.0) request.2);
      versions = h;
    }) (versions_of format [] others) c.add_versions.result
    (subst (λ written. AreRead (λ more (done : ⊤). IsOf after more) (versions_of (plain_format written) [] others)
    c.add_versions.result) c.in_ok-add_request.ensures.format read))
