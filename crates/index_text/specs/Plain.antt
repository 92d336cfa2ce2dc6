-- What was read, as lists and numbers.
use Rattle.std.specs.Prelude.{List, ◌∷◌, map}
use Rattle.index_text.specs.Entries.{NeedText, EntryText, Needs, Limits, Favored, Locked}
use Rattle.index_text.specs.Lines.{VersionText, VersionIs, Offered, Excluded, Unknown}
use Rattle.index_text.specs.Sets.{SetText}
use Rattle.index_text.specs.declared.entry.Entry.{Entry}
use Rattle.index_text.specs.declared.entry.Entry.TheVariants as Read
use Rattle.index_text.specs.declared.entry.Need.{Need}
use Rattle.index_text.specs.declared.set.Set.{Set}
use Rattle.index_text.specs.declared.set.Sets.{Sets}
use Rattle.index_text.specs.declared.version.State.{State}
use Rattle.index_text.specs.declared.version.State.TheVariants as Is
use Rattle.index_text.specs.declared.version.Version.{Version}
use Rattle.std.specs.String.{string_bytes}
use Rattle.std.specs.declared.vec.Vec.{Vec}

abbrev pub plain_set : Set → SetText
plain_set set = record { name = set.name.now; low = set.low; high = set.high }

abbrev pub plain_sets : Sets → List SetText
plain_sets sets = plain_set sets.first ∷ map plain_set sets.others.items

abbrev pub plain_lists : {A : Type 0} → Vec Sets A → List (List SetText)
plain_lists lists = map plain_sets lists.items

abbrev pub plain_need : Need → NeedText
plain_need need = record { union = plain_sets need.union; condition = plain_lists need.condition }

abbrev pub plain_entry : Entry → EntryText
plain_entry (Read.Needs need) = Needs (plain_need need)
plain_entry (Read.Limits set) = Limits (plain_set set)
plain_entry Read.Favored = Favored
plain_entry Read.Locked = Locked

abbrev pub plain_entries : {A : Type 0} → Vec Entry A → List EntryText
plain_entries entries = map plain_entry entries.items

abbrev pub plain_state : State → VersionIs
plain_state (Is.Offered entries) = Offered (plain_entries entries)
plain_state (Is.Excluded reason) = Excluded (string_bytes reason)
plain_state (Is.Unknown reason) = Unknown (string_bytes reason)

abbrev pub plain_version : Version → VersionText
plain_version version = record { name = version.name.now; version = version.version; is = plain_state version.state }
