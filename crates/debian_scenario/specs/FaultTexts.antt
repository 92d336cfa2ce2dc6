-- The texts of faults.
use Rattle.std.specs.Prelude.{ℕ, ◌++◌, List, codes, decimal}
use Rattle.debian_scenario.specs.Keys.{name_of}
use Rattle.debian_scenario.specs.declared.fault.ScenarioFault.{ScenarioFault}
use Rattle.debian_scenario.specs.declared.fault.ScenarioFault.TheVariants as In
use Rattle.debian_scenario.specs.declared.fault.StanzaFault.{StanzaFault}
use Rattle.debian_scenario.specs.declared.fault.StanzaFault.TheVariants.{Missing, NoColon, Twice, Unreadable}

abbrev pub fault_text : StanzaFault → List ℕ
fault_text NoColon = codes "a field without a colon"
fault_text (Twice key) = codes "two fields " ++ name_of key
fault_text (Missing key) = codes "no field " ++ name_of key
fault_text (Unreadable key) = codes "the field " ++ (name_of key ++ codes " can't be read")

-- which stanza it is, and what is wrong with it
abbrev pub place_text : ScenarioFault → List ℕ
place_text (In.Request fault) = codes "the request of the scenario: " ++ fault_text fault
place_text (In.Package before fault) =
    codes "package " ++ (decimal before ++ (codes " of the scenario: " ++ fault_text fault))
