use Rattle.std.proofs.Common.{◌≡◌, [], ◌∷◌, ◌++◌, map, length, sym, subst, ap, ◌∙◌, arith}
use Rattle.std.proofs.lemmas.List.{length-map, map-append}
use Rattle.resolvo_queue.proofs.Words.{ArePlaced, fresh, HasNoPlace, record_seen, with_entry}
use Rattle.resolvo_queue.proofs.Clauses.Entries.{no_entry, placed_more}
use Rattle.resolvo_queue.proofs.requirements.Requirements.add.Goals as goal

pub invariant_of-self-2 : goal.invariant_of-self-2
invariant_of-self-2 g c =
    let records = c.self.inside.records.items in
    let ts = map record_seen records in
    let r = c.args.requirement in
    let here : c.len-place.result ≡ length ts =
    omega (arith, c.len-place.ensures, c.self.inside.records.ok, length-map records record_seen) in
    let whole : map record_seen c.push_reserved.new.self.items ≡ ts ++ fresh r ∷ [] =
    ap (map record_seen) (c.push_reserved.ensures.items ∙
    ap (λ l. l ++ c.new_record-record.result ∷ []) c.reserve.ensures.items)
    ∙ (map-append record_seen records (c.new_record-record.result ∷ []) ∙
    ap (λ t. ts ++ t ∷ []) c.new_record-record.ensures) in
    subst (λ l. ArePlaced l c.insert.new.self) (sym whole)
    (subst (ArePlaced (ts ++ fresh r ∷ [])) (sym (c.in-Ok.ensures.ok ∙ ap (with_entry c.self.inside.places r) here))
    (placed_more ts c.self.inside.places r c.self.invariant (no_entry ts c.self.inside.places r c.self.invariant
    (subst (λ l. HasNoPlace l r) (sym c.self.view_is) c.requires))))
