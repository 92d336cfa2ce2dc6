use Rattle.std.proofs.Common.{◌≡◌, ◌∙◌, ◌++◌, List, [], ap, sym}
use Rattle.example_json.proofs.Words.{array_of, lines, notes_from, string, VersionSetId}
use Rattle.example_json.proofs.ShownLemmas.{sets_by_place}
use Rattle.example_json.proofs.answering.notes_value.Goals as goal

pub returns : goal.returns
returns c =
    let index = c.args.index.now in
    let told = λ (sets : List VersionSetId). notes_from index 20 [] sets in
    c.in_ok-lines_value.ensures
    ∙ ap (λ t. array_of string (lines t)) (c.as_str.ensures.value ∙ c.in_ok-write_notes.ensures.told
    ∙ ap (λ before. before ++ told c.deref.result.now) c.new-notes.ensures.bytes
    ∙ ap told (c.deref.ensures.value ∙ sets_by_place index c.in_ok-sets.sets.items c.in_ok-sets.ensures.are))
