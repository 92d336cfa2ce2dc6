use Rattle.std.proofs.Common.{◌≡◌, true, Some, sym, subst}
use Rattle.std.specs.List.{position}
use Rattle.std.specs.Str.{bytes_eq}
use Rattle.debian_directory.specs.Directory.{items_at}
use Rattle.debian_directory.proofs.Directories.{items_at-push, position-insert, Keeps-from}
use Rattle.debian_directory.proofs.Places.{is_among}
use Rattle.debian_directory.proofs.directory.Directory.index_of.Goals as goal

pub returns-in_ok-push-clause-kept : goal.returns-in_ok-push-clause-kept
returns-in_ok-push-clause-kept c =
    let old = c.args.self.now in
    Keeps-from old (record { names = c.insert_full.new.self; places = c.push.new.self })
    (λ name i h. subst (λ keys. position (λ key. bytes_eq name key.now) keys ≡ Some i) (sym c.in_ok-index.ensures.keys)
    (position-insert (λ key. bytes_eq name key.now) _ old.names.keys c.args.name i h))
    (λ i place h. subst (λ lists. is_among (items_at lists i) place ≡ true) (sym c.in_ok-push.ensures.items)
    (items_at-push old.places.items c.in_ok-places.places i place h))
