use Rattle.std.proofs.Common.{length, subst, sym, ap, ◌<◌, ◌∙◌, Some, string_bytes}
use Rattle.std.proofs.lemmas.List.{length-map}
use Rattle.package_pool.specs.PoolView.{lists_in}
use Rattle.package_pool.proofs.PoolLemmas.{read_at, got_map}
use Rattle.package_pool.proofs.pool.Pool.resolve_string.Goals as goal

pub returns : goal.returns
returns g c =
    let keys = c.self.inside.strings.keys in
    let item = c.index-as_slice-to_index.result in
    let seen : c.args.string.0 < length (lists_in c.self.inside).strings =
    subst (λ p. c.args.string.0 < length p.strings) (sym c.self.view_is) c.requires in
    let within : c.args.string.0 < length keys = subst (λ n. c.args.string.0 < n) (length-map keys string_bytes) seen in
    rw (← c.self.view_is)
    (got_map string_bytes keys c.args.string.0 item
    (read_at keys _ _ _ item within c.as_slice.ensures.keys c.to_index.ensures.value c.index-as_slice-to_index.is)
    ∙ ap Some (sym c.as_str.ensures.value))
