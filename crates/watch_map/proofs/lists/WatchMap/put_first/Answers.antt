use Rattle.std.proofs.Common.{◌≡◌, ◌<◌, ◌∙◌, false, true, length, ap, subst, sym}
use Rattle.watch_map.proofs.Words.{literal_index}
use Rattle.watch_map.proofs.LinkLaws.{slot_within}
use Rattle.watch_map.proofs.lists.WatchMap.put_first.Goals as goal

pub unreachable-requires : goal.unreachable-requires
unreachable-requires g c =
    let within : literal_index c.args.literal < length c.self.inside.firsts =
    subst (λ m. literal_index c.args.literal < length m) (sym c.self.view_is)
    (slot_within c.args.self.now c.args.literal 1 c.requires) in
    let z : false ≡ true = (c.in-Err.ensures.room within).0 in cc

pub returns-clause-slots : goal.returns-clause-slots
returns-clause-slots g c =
    let within : literal_index c.args.literal < length c.self.inside.firsts =
    subst (λ m. literal_index c.args.literal < length m) (sym c.self.view_is)
    (slot_within c.args.self.now c.args.literal 1 c.requires) in
    (c.in-Ok.ensures.room within).1 ∙ ap length c.self.view_is
