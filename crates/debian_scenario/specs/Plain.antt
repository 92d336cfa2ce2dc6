-- What was read, without where its bytes lie.
use Rattle.std.specs.Prelude.{List, map, option_map}
use Rattle.std.specs.declared.vec.Vec.{Vec}
use Rattle.debian_scenario.specs.Packages.{IdentityText, PackageText, RelationsText}
use Rattle.debian_scenario.specs.Requests.{RequestText}
use Rattle.debian_scenario.specs.Scenarios.{ScenarioText}
use Rattle.debian_scenario.specs.Values.{Values}
use Rattle.debian_scenario.specs.declared.package.Identity.{Identity}
use Rattle.debian_scenario.specs.declared.package.Package.{Package}
use Rattle.debian_scenario.specs.declared.package.Relations.{Relations}
use Rattle.debian_scenario.specs.declared.request.Request.{Request}
use Rattle.debian_scenario.specs.declared.scenario.Scenario.{Scenario}
use Rattle.debian_scenario.specs.declared.stanza.Stanza.{Stanza}

abbrev pub plain_stanza : Stanza → Values
plain_stanza stanza = map (option_map (λ v. v.now)) stanza.values

abbrev pub plain_identity : Identity → IdentityText
plain_identity identity = record {
  name = identity.name.now;
  architecture = identity.architecture.now;
  version = identity.version.now;
  id = identity.id.now;
}

abbrev pub plain_relations : Relations → RelationsText
plain_relations relations = record {
  depends = relations.depends.now;
  pre_depends = relations.pre_depends.now;
  conflicts = relations.conflicts.now;
  breaks = relations.breaks.now;
  provides = relations.provides.now;
  recommends = relations.recommends.now;
  pin = relations.pin.now;
}

abbrev pub plain_package : Package → PackageText
plain_package read = record {
  identity = plain_identity read.identity;
  state = read.state;
  multi_arch = read.multi_arch;
  relations = plain_relations read.relations;
}

abbrev pub plain_packages : {A : Type 0} → Vec Package A → List PackageText
plain_packages packages = map plain_package packages.items

abbrev pub plain_request : Request → RequestText
plain_request request = record {
  architecture = request.architecture.now;
  install = request.install.now;
  remove = request.remove.now;
  actions = request.actions;
}

abbrev pub plain_scenario : Scenario → ScenarioText
plain_scenario scenario = record {
  request = plain_request scenario.request;
  packages = plain_packages scenario.packages;
}
