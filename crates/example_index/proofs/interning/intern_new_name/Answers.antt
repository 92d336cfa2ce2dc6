use Rattle.std.proofs.Common.{◌≡◌, ◌∙◌, ap, map, subst, sym, Some}
use Rattle.example_index.proofs.Words.{first_place, string_bytes}
use Rattle.example_index.proofs.Interned.{name_at}
use Rattle.example_index.proofs.interning.intern_new_name.Goals as goal

pub returns-in-Ok-clause-is : goal.returns-in-Ok-clause-is
returns-in-Ok-clause-is c =
    let names = c.args.pool.now.names in
    let name = c.in_ok-name.name in
    subst (λ text. first_place text (map string_bytes c.intern_package_name.new.self.names) ≡ Some c.in-Ok.id)
    c.in_ok-name.ensures.ok
    (ap (λ pool. first_place (string_bytes name) (map string_bytes pool.names)) c.in-Ok.ensures.ok
    ∙ name_at name names ∙ ap Some (sym c.in-Ok.ensures.id))
