use Rattle.falsified_clauses.proofs.ByHand.{[], ◌∷◌, refl, proved, ‵, raw, ◌$◌, ◌∵◌, !, qed, done, drop}
use Rattle.falsified_clauses.proofs.ByHand.{fjoin, enter, alloc_all, pass_all, sets, agg, no_more, returns}
use Rattle.falsified_clauses.proofs.ByHand.{look_at, free_all, suffices, says, ends_at, owned, nothing, shape}
use Rattle.falsified_clauses.proofs.ByHand.{Struct, Struct-Makes, vstruct, vnil, ftrue, on_entry, walk_of}
use Rattle.falsified_clauses.specs.contracts.key_log.KeyLog.{the_type as Log}
use Rattle.falsified_clauses.proofs.key_log.KeyLog.new.Statement.{statement}
use Rattle.falsified_clauses.specs.contracts.key_log.KeyLog.new as f
use Rattle.falsified_clauses.proofs.key_log.KeyLog.new.Code as code

pub new_spec : {M : Type 1} → statement M
new_spec 𝓤 𝓛 𝓜 𝓡 wired =
    let c = f.clauses 𝓛 𝓜.mem 𝓡.returns in let W = walk_of 𝓛 f.ended tt c in
    proved 𝓛 f.ended tt c 𝓜 𝓡 tt
    f.Key.name code.function (code.unfolded 𝓤 𝓛.H 𝓜 𝓡 wired)
    (λ κs. tt) (λ κs. tt) (λ κs qs bounds a _ are.
    let y : W.Ghost = ((κs, qs, bounds, a, tt), tt) in
    qed 𝓛 (raw (on_entry 𝓛 f.signature κs qs a tt) ∷ ‵ ftrue ∷ []) ∵ drop ! $ drop ! $
    enter ! _ _ _ _ _ $ alloc_all ! (λ l. pass_all ! refl tt $
    sets ! (agg ! (no_more !)) refl (tt, tt) $
    returns ! (look_at ! 0 refl) $ free_all ! refl $
    suffices ! _ (ends_at 𝓛 f.ended tt c y (vstruct vnil) (record { items = [] }) tt tt) $ says ! refl $
    nothing ! $ owned ! (Struct (shape Log)) _ (Struct-Makes 𝓛 (shape Log) tt) tt _ (tt, (refl, tt)) $ fjoin ! $
    nothing ! $ nothing ! $ done !))
