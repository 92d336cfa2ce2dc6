use Rattle.resolvo_queue.proofs.ByHand.{[], ◌∷◌, ◌++◌, refl, proved, ftrue, flft, named, inst_fn, ‵, raw, ◌⊛◌, ◌$◌, ◌∵◌}
use Rattle.resolvo_queue.proofs.ByHand.{done, !, qed, keep, move, split, join, fjoin, suffices, enter, returns}
use Rattle.resolvo_queue.proofs.ByHand.{and_then, no_more, alloc_all, pass_all, free_all, look_at, get, sets, agg}
use Rattle.resolvo_queue.proofs.ByHand.{param, nothing, owned, shape, Struct, Struct-Makes, Stays, walk_of, says}
use Rattle.resolvo_queue.proofs.ByHand.{stay_dropped, Goes-dropped, ends_at, yes, plain, RefOf, SliceRefOf, ShrRef}
use Rattle.resolvo_queue.proofs.ByHand.{shr_vals, shr_Tells, ShrSlice, shr_slice_vals, shr_slice_Tells, mark, marked}
use Rattle.resolvo_queue.proofs.ByHand.{names_of}
use Rattle.resolvo_queue.specs.contracts.names.NameLog.and as f
use Rattle.resolvo_queue.specs.contracts.names.NameLog.{the_type as Log, the_row as LogRow}
use Rattle.resolvo_queue.proofs.names.NameLog.and.Statement.{statement}
use Rattle.resolvo_queue.proofs.names.NameLog.and.Code as code

pub and_spec : {M : Type 1} → statement M
and_spec 𝓤 𝓛 𝓜 𝓡 wired N laws =
    let ended = f.ended N in let c = f.clauses N 𝓛 𝓜.mem 𝓡.returns in
    let Row = param 0 N in let Kept = LogRow Row in let log = shape (Log Row) in
    let stayed : Stays ended.signature.params ended.kept = (stay_dropped _ yes, (stay_dropped _ yes, tt)) in
    let W = walk_of 𝓛 ended stayed c in
    proved 𝓛 ended stayed c 𝓜 𝓡 (
      Goes-dropped 𝓛 3 (RefOf (0 ∷ []) tt (plain (λ _. Kept)) (λ κs. tt)) yes (λ κs x w. refl),
      (Goes-dropped 𝓛 3 (SliceRefOf (1 ∷ []) tt (plain (λ _. Row)) (λ κs. tt)) yes (λ κs x w. refl), tt),
    ) (f.Key.name (names_of N)) (inst_fn (names_of N) code.function) (code.unfolded 𝓤 𝓛.H 𝓜 𝓡 wired (N, tt))
    (λ κs. (shr_vals, (shr_slice_vals, tt)))
    (λ κs. (shr_Tells (named 0) κs.0 Kept, (shr_slice_Tells (named 1) κs.1.0 Row, tt))) (λ κs qs bounds a _ are.
    let old = a.0 in let names = a.1.0 in
    let y : W.Ghost = ((κs, qs, bounds, a, (shr_vals old, (shr_slice_vals names, tt))), tt) in
    qed 𝓛 (((‵ (flft κs.0 qs.0) ⊛ ‵ (flft κs.1.0 qs.1.0) ⊛ ‵ (flft κs.1.1.0 qs.1.1.0) ⊛ ‵ ftrue) ⊛ ‵
    ((ShrRef (named 0) κs.0 Kept).own_val old (shr_vals old))
    ⊛ ‵ ((ShrSlice (named 1) κs.1.0 Row).own_val names (shr_slice_vals names)) ⊛ ‵ ftrue)
    ∷ raw ((c κs a).requires tt) ∷ []) ∵ split ! $ keep ! (0 ∷ []) $ enter ! _ _ _ _ _ $
    alloc_all ! (λ l. pass_all ! refl ((tt, tt), ((tt, (tt, (record { fits = are.1.0.0.1.0 }, tt))), tt)) $
    sets ! (agg ! (no_more !)) refl (tt, tt) $
    sets ! (agg ! (and_then ! (get ! refl) (no_more !))) refl (tt, (tt, tt)) $
    returns ! (look_at ! 0 refl) $ free_all ! refl $ suffices ! _ (ends_at 𝓛 ended stayed c y marked
    (record { of = record {}; items = old.now.items ++ names.now ∷ [] }) (tt, (tt, tt)) (tt, (tt, tt))) $ says ! refl $
    nothing ! $ owned ! (Struct log) _ (Struct-Makes 𝓛 log ((λ x vs vss. (tt, tt)), tt)) (record {}, tt) _
    ((mark ∷ [], tt), (refl, ((tt, (refl, tt)), tt))) $ fjoin ! $
    nothing ! $ nothing ! $ join ! $ nothing ! $ join ! $ move ! (2 ∷ []) $ done !))
