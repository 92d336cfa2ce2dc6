-- Bounds and relations without where their bytes lie.
use Rattle.std.specs.Prelude.{option_map}
use Rattle.debian_text.specs.Relations.{BoundText, RelationText}
use Rattle.debian_text.specs.declared.relation.Bound.{Bound}
use Rattle.debian_text.specs.declared.relation.Relation.{Relation}

abbrev pub plain_bound : Bound → BoundText
plain_bound bound = record { operator = bound.operator; version = bound.version.now }

abbrev pub plain_relation : Relation → RelationText
plain_relation relation = record {
  name = relation.name.now;
  qualifier = option_map (λ q. q.now) relation.qualifier;
  bound = option_map plain_bound relation.bound;
}
