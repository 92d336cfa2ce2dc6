-- What a stanza asks for.
use Rattle.std.specs.Prelude.{ℕ, true, false, List, Result, Ok, Err, codes, if◌then◌else◌}
use Rattle.std.specs.Str.{bytes_eq}
use Rattle.debian_text.specs.Words.{trimmed}
use Rattle.debian_scenario.specs.Results.{◌>>=◌}
use Rattle.debian_scenario.specs.Values.{Values, flag_in, required_in, text_in, values_of, word_in}
use Rattle.debian_scenario.specs.declared.fault.StanzaFault.{StanzaFault}
use Rattle.debian_scenario.specs.declared.fault.StanzaFault.TheVariants.{Unreadable}
use Rattle.debian_scenario.specs.declared.key.Key.TheVariants as Field
use Rattle.debian_scenario.specs.declared.request.Actions.{Actions}

pub record RequestText : Type 0 where
  pub architecture : List ℕ
  pub install : List ℕ
  pub remove : List ℕ
  pub actions : Actions

abbrev pub actions_in : Values → Result Actions StanzaFault
actions_in values = do
  upgrade ← flag_in Field.Upgrade false values
  dist_upgrade ← flag_in Field.DistUpgrade false values
  upgrade_all ← flag_in Field.UpgradeAll false values
  autoremove ← flag_in Field.Autoremove false values
  forbid_new_install ← flag_in Field.ForbidNewInstall false values
  forbid_remove ← flag_in Field.ForbidRemove false values
  strict_pinning ← flag_in Field.StrictPinning true values
  Ok (record {
    upgrade = upgrade;
    dist_upgrade = dist_upgrade;
    upgrade_all = upgrade_all;
    autoremove = autoremove;
    forbid_new_install = forbid_new_install;
    forbid_remove = forbid_remove;
    strict_pinning = strict_pinning;
  })

-- there is one protocol
abbrev pub protocol_of : List ℕ → Result (List ℕ) StanzaFault
protocol_of text = if bytes_eq (trimmed text) (codes "EDSP 0.5") then Ok text else Err (Unreadable Field.Request)

abbrev pub protocol_in : Values → Result (List ℕ) StanzaFault
protocol_in values = required_in Field.Request values >>= protocol_of

abbrev pub request_in : Values → Result RequestText StanzaFault
request_in values = do
  protocol ← protocol_in values
  architecture ← word_in Field.Architecture values
  actions ← actions_in values
  Ok (record {
    architecture = architecture;
    install = text_in Field.Install values;
    remove = text_in Field.Remove values;
    actions = actions;
  })

-- the request that a stanza says
abbrev pub request_of : List (List ℕ) → Result RequestText StanzaFault
request_of stanza = values_of stanza >>= request_in
