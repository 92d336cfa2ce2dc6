use Rattle.std.proofs.Common.{◌<◌, ◌∙◌, ◌∷◌, ◌++◌, [], map, ap, sym, subst}
use Rattle.std.specs.Prelude.{option_map}
use Rattle.std.proofs.lemmas.List.{map-append}
use Rattle.index_text.proofs.Cuts.{words_left, fewer_left, shorter_some, some_left}
use Rattle.index_text.proofs.EachLemmas.{one_more}
use Rattle.index_text.specs.Entries.{entry_of, entries_of, entries_behind}
use Rattle.index_text.specs.Plain.{plain_entry, plain_entries}
use Rattle.index_text.specs.PlainFormats.{plain_format}
use Rattle.index_text.specs.Sets.{texts, each_of}
use Rattle.index_text.proofs.entry.entries.Goals as goal

pub entries-smaller : goal.entries-smaller
entries-smaller c =
    subst (λ rest. words_left c.first_entry.result.1 < words_left rest) (sym c.in-Some.is)
    (fewer_left c.first_entry.result.1 c.in-Some.words
    (shorter_some c.first_entry.result.1 c.in-Some.words c.first_entry.ensures.shorter))

pub entries-preserved : goal.entries-preserved
entries-preserved c = record {
  entries = one_more (entry_of (plain_format c.args.format.now)) (plain_entries c.entries.found)
      (plain_entries c.push.new.self) (texts c.first_entry.result.0.now) (plain_entry c.in-Some-2.entry)
      (entries_behind c.first_entry.result.1)
      (entries_of (plain_format c.args.format.now) (texts c.args.words.now))
      (sym c.in_ok-entry.ensures ∙ ap (option_map plain_entry) c.in-Some-2.is)
      (ap (map plain_entry) c.in_ok-push.ensures.items
      ∙ map-append plain_entry c.entries.found.items (c.in-Some-2.entry ∷ []))
      (ap (λ parts. option_map (λ more. plain_entries c.entries.found ++ more)
      (each_of (entry_of (plain_format c.args.format.now)) parts))
      (sym (ap entries_behind c.in-Some.is ∙ c.first_entry.ensures.first)) ∙ c.entries.invariant.entries);
  some = some_left c.first_entry.result.1 c.in-Some.words c.first_entry.ensures.shorter;
}
