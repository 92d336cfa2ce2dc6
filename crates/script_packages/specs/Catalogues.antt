-- What the lines of a catalogue list.
use Rattle.std.specs.Prelude.{◌≡◌, [], Option, Some, true, false, length, ⊤}
use Rattle.script_packages.specs.declared.packages.Packages.{Packages}
use Rattle.script_packages.specs.CatalogueLines.{Said, Lists, Bounds, Unites, Conditions, Strings, Begins}
use Rattle.package_pool.specs.Pool.{with_string}
use Rattle.script_packages.specs.Versions.{are_versions}
use Rattle.script_packages.specs.Listing.{Listing, listing_of, with_pool, named, name_number}
use Rattle.script_packages.specs.Listing.{with_versions, with_set, listed_sets, with_some_union}
use Rattle.script_packages.specs.Listing.{with_listed_condition, are_sets, is_listed, is_made_of_listed}

-- the packages are those that are listed
abbrev pub AreListed : Packages → Listing → Type 0
AreListed packages l = listing_of packages ≡ l

-- what is listed after an entry, unless it is the second package line of a name, or has a word that is no version, or
-- two with a star, or an id of nothing that is listed
abbrev pub listed : Listing → Said → Option Listing
listed l (Lists name words) = with_versions (named l name) (name_number l name) words
listed l (Bounds name low high) =
    Some (with_set (named l name) (name_number l name) (record { low = low; high = high }))
listed l (Unites words) = with_some_union l (listed_sets (length l.pool.version_sets) [] words)
listed l (Conditions c) = with_listed_condition l c
listed l (Strings text) = Some (with_pool l (with_string l.pool text))
listed l Begins = Some l

-- what an entry says is in the format: its words are versions of a name that isn't listed yet, or ids of what is listed
abbrev pub CanBeListed : Listing → Said → Type 0
CanBeListed l (Lists name words) = (are_versions words ≡ true) × (is_listed l name ≡ false)
CanBeListed l (Bounds name low high) = ⊤
CanBeListed l (Unites words) = are_sets (length l.pool.version_sets) words ≡ true
CanBeListed l (Conditions c) = is_made_of_listed l c ≡ true
CanBeListed l (Strings text) = ⊤
CanBeListed l Begins = ⊥
