use Rattle.std.proofs.Common.{◌++◌, map}
use Rattle.std.specs.Prelude.{flat_map, option_to_list}
use Rattle.decisions.specs.Literals.{Pos}
use Rattle.clauses.proofs.WalkLemmas.{first-front, first-rest}
use Rattle.clauses.proofs.literal_walk.LiteralWalk.find_in_order.Goals as goal

pub returns-in-Some-find_stored : goal.returns-in-Some-find_stored
returns-in-Some-find_stored g c =
    let answers = goal.F-post g c.args.test in
    let walk = c.args.self.now in
    let lists = flat_map (map Pos) (map (λ l. l.items) walk.lists.now) in
    let others = map Pos walk.candidates.now ++ lists in
    first-rest answers (option_to_list walk.first) (option_to_list walk.second ++ (walk.stored.now ++ others)) _
    c.in_default.ensures
    (first-rest answers (option_to_list walk.second) (walk.stored.now ++ others) _ c.in_default-find_own.ensures
    (first-front answers walk.stored.now others _ c.in-Some-find_stored.ensures))

pub returns-in-Some-find_candidate : goal.returns-in-Some-find_candidate
returns-in-Some-find_candidate g c =
    let answers = goal.F-post g c.args.test in
    let walk = c.args.self.now in
    let lists = flat_map (map Pos) (map (λ l. l.items) walk.lists.now) in
    let others = map Pos walk.candidates.now ++ lists in
    first-rest answers (option_to_list walk.first) (option_to_list walk.second ++ (walk.stored.now ++ others)) _
    c.in_default.ensures
    (first-rest answers (option_to_list walk.second) (walk.stored.now ++ others) _ c.in_default-find_own.ensures
    (first-rest answers walk.stored.now others _ c.in_default-find_stored.ensures
    (first-front answers (map Pos walk.candidates.now) lists _ c.in-Some-find_candidate.ensures)))

pub returns : goal.returns
returns g c =
    let answers = goal.F-post g c.args.test in
    let walk = c.args.self.now in
    let lists = flat_map (map Pos) (map (λ l. l.items) walk.lists.now) in
    let others = map Pos walk.candidates.now ++ lists in
    first-rest answers (option_to_list walk.first) (option_to_list walk.second ++ (walk.stored.now ++ others)) _
    c.in_default.ensures
    (first-rest answers (option_to_list walk.second) (walk.stored.now ++ others) _ c.in_default-find_own.ensures
    (first-rest answers walk.stored.now others _ c.in_default-find_stored.ensures
    (first-rest answers (map Pos walk.candidates.now) lists _ c.in_default-find_candidate.ensures
    c.find_in_lists.ensures)))
