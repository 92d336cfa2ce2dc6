use Rattle.std.proofs.Common.{List, sym, subst}
use Rattle.std.specs.Prelude.{not}
use Rattle.std.proofs.lemmas.List.Elements.{All-filter}
use Rattle.watch_map.proofs.Words.{All, is_from, Mark, marks_below, newest_mark, Place}
use Rattle.watch_map.specs.Marks.{IsBehind}
use Rattle.watch_map.proofs.StackLaws.{all_behind}
use Rattle.watch_map.proofs.marks.Marks.push.Goals as goal

pub push_behind-requires : goal.push_behind-requires
push_behind-requires g c =
    let mark = c.args.mark in
    let marks = c.self.inside.marks.items in
    let behind = subst (λ (ms : List Mark). IsBehind (newest_mark ms) mark) (sym c.self.view_is) c.requires in
    let kept = All-filter (λ m. not (is_from (Place mark.place) m)) (λ m. IsBehind m mark) marks
    (all_behind marks mark c.self.invariant behind) in
    subst (All (λ (m : Mark). IsBehind m mark)) (sym c.forget.ensures)
    (subst (λ (ms : List Mark). All (λ (m : Mark). IsBehind m mark) (marks_below (Place mark.place) ms))
    c.self.view_is kept)
