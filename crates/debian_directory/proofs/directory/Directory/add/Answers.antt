use Rattle.std.proofs.Common.{set, ap, ◌∙◌}
use Rattle.std.specs.Prelude.{[], option_map, unwrap_or}
use Rattle.std.specs.Vec.{with_item}
use Rattle.debian_directory.specs.Directory.{items_at}
use Rattle.debian_directory.proofs.Directories.{among-push, grows-push, items_at-set, items_at-set_same, Keeps-from}
use Rattle.debian_directory.proofs.Places.{is_among}
use Rattle.debian_directory.proofs.directory.Directory.add.Goals as goal

pub returns-clause-kept : goal.returns-clause-kept
returns-clause-kept c =
    let mid = c.index_of.new.self in
    let index = c.in_ok-index.index in
    let more = grows-push mid.places.items index c.index_mut.result.now c.args.place c.push.new.self.items
    c.in_ok-index.ensures.within c.index_mut.ensures.value c.in_ok-push.ensures.items in
    let kept = Keeps-from mid (record { names = mid.names; places = with_item mid.places index c.push.new.self })
    (λ name i h. h) (items_at-set mid.places.items index c.push.new.self more) in
    λ name place h. kept name place (c.in_ok-index.ensures.kept name place h)

pub returns-clause-added : goal.returns-clause-added
returns-clause-added c =
    let lists = c.index_of.new.self.places.items in
    let index = c.in_ok-index.index in
    ap (λ o. is_among (unwrap_or (option_map (items_at (set lists index c.push.new.self)) o) []) c.args.place)
    c.in_ok-index.ensures.index
    ∙ ap (λ list. is_among list c.args.place)
    (items_at-set_same lists index c.push.new.self c.in_ok-index.ensures.within ∙ c.in_ok-push.ensures.items)
    ∙ among-push c.index_mut.result.now.items c.args.place
