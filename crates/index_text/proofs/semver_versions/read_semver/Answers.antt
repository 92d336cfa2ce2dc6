use Rattle.std.proofs.Common.{◌∙◌, inl, inr, sym}
use Rattle.index_text.proofs.SemverTexts.{semver_none, semver_said, semver_refused}
use Rattle.semver.specs.Identifiers.{parts_of}
use Rattle.index_text.proofs.semver_versions.read_semver.Goals as goal

pub returns-in_default : goal.returns-in_default
returns-in_default c = semver_none c.args.word.now c.in_default.ensures.cases.0

pub returns-in-Ok-parse : goal.returns-in-Ok-parse
returns-in-Ok-parse c =
    semver_said c.in-Ok.text.now c.args.word.now (parts_of c.in-Ok-parse.version) c.in-Ok.ensures.cases.0
    c.in-Ok-parse.ensures.ok

pub returns-else-eq : goal.returns-else-eq
returns-else-eq c = elim c.in-Err.ensures.err [
  | inl memory ↦ cc (sym c.if-eq.false ∙ rw (memory, c.from.ensures) at c.eq.ensures)
  | inr refused ↦ semver_refused c.in-Ok.text.now c.args.word.now c.in-Err.error c.in-Ok.ensures.cases.0 refused
]
