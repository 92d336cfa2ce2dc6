use Rattle.std.proofs.Common.{◌==◌, ap, ◌∙◌, sym, inl, inr, rules, tests}
use Rattle.std.specs.List.{list_any}
use Rattle.std.proofs.lemmas.Iterator.Consumers.{YieldsList-end}
use Rattle.std.proofs.lemmas.Iterator.Splits.{YieldsList-from_slice_split}
use Rattle.debian_installable.proofs.ListLemmas.{list_any-map}
use Rattle.debian_text.specs.Relations.{relation_of}
use Rattle.debian_directory.specs.Directory.{has_name}
use Rattle.debian_directory.proofs.Directories.{list_any-push}
use Rattle.debian_directory.proofs.directory.Directory.add_provided.Goals as goal

pub loop-part-preserved : goal.loop-part-preserved
loop-part-preserved c =
    let done = c.in_ok-add_part.ensures in
    record {
      in_step = done.in_step;
      kept = λ name place h. done.kept name place (c.loop-part.invariant.kept name place h);
      added = λ name h. elim (list_any-push (λ part. has_name name (relation_of part.now)) c.loop-part.yielded
          c.in-Some.part h) [
            | inl e ↦ done.kept name c.args.place (c.loop-part.invariant.added name e)
            | inr e ↦ done.added name e
          ];
    }

pub returns-clause-added : goal.returns-clause-added
returns-clause-added c =
    let whole = YieldsList-end (YieldsList-from_slice_split _ (λ b. b == 44) c.args.provides.now (cc) (cc) (cc)
    (λ x b q k. search (rules, tests))) c.loop-part.yielded _ c.loop-part.yielded_by _ _ c.in-None.is
    c.next.ensures.steps in
    λ name h. c.loop-part.invariant.added name
    (sym (list_any-map (λ part. has_name name (relation_of part)) (λ y. y.now) c.loop-part.yielded)
    ∙ ap (list_any (λ part. has_name name (relation_of part))) whole.0 ∙ h)
