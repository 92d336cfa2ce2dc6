use Rattle.resolvo_queue.proofs.ByHand.{[], ◌∷◌, refl, proved, ftrue, flft, inst_fn, ‵, raw, ◌⊛◌, ◌$◌, ◌∵◌}
use Rattle.resolvo_queue.proofs.ByHand.{done, !, qed, keep, move, split, fjoin, suffices, enter, returns, and_then}
use Rattle.resolvo_queue.proofs.ByHand.{no_more, alloc_all, pass_all, free_all, look_at, get, sets, agg, param}
use Rattle.resolvo_queue.proofs.ByHand.{nothing, owned, shape, Struct, Struct-Makes, walk_of, says, ends_at}
use Rattle.resolvo_queue.proofs.ByHand.{mark, marked, names_of}
use Rattle.resolvo_queue.specs.contracts.names.NameLog.new as f
use Rattle.resolvo_queue.specs.contracts.names.NameLog.{the_type as Log}
use Rattle.resolvo_queue.proofs.names.NameLog.new.Statement.{statement}
use Rattle.resolvo_queue.proofs.names.NameLog.new.Code as code

pub new_spec : {M : Type 1} → statement M
new_spec 𝓤 𝓛 𝓜 𝓡 wired N laws =
    let ended = f.ended N in let c = f.clauses N 𝓛 𝓜.mem 𝓡.returns in let W = walk_of 𝓛 ended tt c in
    let log = shape (Log (param 0 N)) in
    proved 𝓛 ended tt c 𝓜 𝓡 tt
    (f.Key.name (names_of N)) (inst_fn (names_of N) code.function) (code.unfolded 𝓤 𝓛.H 𝓜 𝓡 wired (N, tt))
    (λ κs. tt) (λ κs. tt) (λ κs qs bounds a _ are.
    let y : W.Ghost = ((κs, qs, bounds, a, tt), tt) in
    qed 𝓛 (((‵ (flft κs.0 qs.0) ⊛ ‵ ftrue) ⊛ ‵ ftrue) ∷ raw ((c κs a).requires tt) ∷ []) ∵ split ! $ keep ! (0 ∷ []) $
    enter ! _ _ _ _ _ $ alloc_all ! (λ l. pass_all ! refl tt $ sets ! (agg ! (no_more !)) refl (tt, tt) $
    sets ! (agg ! (and_then ! (get ! refl) (no_more !))) refl (tt, (tt, tt)) $
    returns ! (look_at ! 0 refl) $ free_all ! refl $
    suffices ! _ (ends_at 𝓛 ended tt c y marked (record { of = record {}; items = [] }) tt tt) $ says ! refl $
    nothing ! $ owned ! (Struct log) _ (Struct-Makes 𝓛 log ((λ x vs vss. (tt, tt)), tt)) (record {}, tt) _
    ((mark ∷ [], tt), (refl, ((tt, (refl, tt)), tt))) $ fjoin ! $ nothing ! $ move ! (2 ∷ []) $ done !))
