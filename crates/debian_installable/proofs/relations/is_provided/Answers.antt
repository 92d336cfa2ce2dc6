use Rattle.std.proofs.Common.{◌==◌, not, rules, tests}
use Rattle.std.proofs.lemmas.Iterator.Consumers.{YieldsList-from_filter}
use Rattle.std.proofs.lemmas.Iterator.Search.{any_from_yields_List}
use Rattle.std.proofs.lemmas.Iterator.Splits.{YieldsList-from_slice_split}
use Rattle.debian_installable.specs.Fields.{is_blank}
use Rattle.debian_installable.specs.Installable.{is_meant}
use Rattle.debian_text.specs.Plain.{plain_relation}
use Rattle.debian_text.specs.Relations.{relation_of}
use Rattle.debian_installable.proofs.relations.is_provided.Goals as goal

pub returns : goal.returns
returns c =
    any_from_yields_List (λ part. is_meant (plain_relation c.args.relation.now) (relation_of part)) _ _ _
    c.any.ensures.ran
    (YieldsList-from_filter _ (λ part. not (is_blank part))
    (YieldsList-from_slice_split _ (λ b. b == 44) c.args.field.now (cc) (cc) (cc)
    (λ x b q k. search (rules, tests))) c.filter.ensures.closure (λ x b q k. search (rules, tests)))
    (λ x b q k. search (rules, tests))
