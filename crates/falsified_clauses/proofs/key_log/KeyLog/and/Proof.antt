use Rattle.falsified_clauses.proofs.ByHand.{[], ◌∷◌, ◌++◌, refl, proved, ‵, ◌⊛◌, ◌$◌, ◌∵◌, !, qed, done, move, keep}
use Rattle.falsified_clauses.proofs.ByHand.{split, join, fjoin, enter, alloc_all, pass_all, sets, agg, no_more, returns}
use Rattle.falsified_clauses.proofs.ByHand.{look_at, free_all, suffices, says, ends_at, owned, nothing, shape, Struct}
use Rattle.falsified_clauses.proofs.ByHand.{Struct-Makes, vstruct, vnil, ftrue, flft, named, plain, RefOf, ShrRef}
use Rattle.falsified_clauses.proofs.ByHand.{shr_vals, shr_Tells, yes, Stays, stay_dropped, Goes-dropped, walk_of}
use Rattle.falsified_clauses.specs.contracts.key_log.KeyLog.{the_type as Log, the_row as LogRow}
use Rattle.falsified_clauses.specs.contracts.group_key.GroupKey.{the_row as KeyRow}
use Rattle.falsified_clauses.proofs.key_log.KeyLog.and.Statement.{statement}
use Rattle.falsified_clauses.specs.contracts.key_log.KeyLog.and as f
use Rattle.falsified_clauses.proofs.key_log.KeyLog.and.Code as code

abbrev stayed : Stays f.ended.signature.params f.ended.kept
stayed = (stay_dropped _ yes, (stay_dropped _ yes, tt))

pub and_spec : {M : Type 1} → statement M
and_spec 𝓤 𝓛 𝓜 𝓡 wired =
    let c = f.clauses 𝓛 𝓜.mem 𝓡.returns in let W = walk_of 𝓛 f.ended stayed c in
    proved 𝓛 f.ended stayed c 𝓜 𝓡 (
      Goes-dropped 𝓛 2 (RefOf (0 ∷ []) tt (plain (λ _. LogRow)) (λ κs. tt)) yes (λ κs x w. refl),
      (Goes-dropped 𝓛 2 (RefOf (1 ∷ []) tt (plain (λ _. KeyRow)) (λ κs. tt)) yes (λ κs x w. refl), tt),
    )
    f.Key.name code.function (code.unfolded 𝓤 𝓛.H 𝓜 𝓡 wired)
    (λ κs. (shr_vals, (shr_vals, tt)))
    (λ κs. (shr_Tells (named 0) κs.0 LogRow, (shr_Tells (named 1) κs.1.0 KeyRow, tt))) (λ κs qs bounds a _ are.
    let log = a.0 in let key = a.1.0 in
    let y : W.Ghost = ((κs, qs, bounds, a, (shr_vals log, (shr_vals key, tt))), tt) in
    qed 𝓛 (((‵ (flft κs.0 qs.0) ⊛ ‵ (flft κs.1.0 qs.1.0) ⊛ ‵ ftrue) ⊛ ‵
    ((ShrRef (named 0) κs.0 LogRow).own_val log (shr_vals log))
    ⊛ ‵ ((ShrRef (named 1) κs.1.0 KeyRow).own_val key (shr_vals key)) ⊛ ‵ ftrue) ∷ ‵ ftrue ∷ [])
    ∵
    split ! $ keep ! (0 ∷ []) $
    enter ! _ _ _ _ _ $ alloc_all ! (λ l. pass_all ! refl ((tt, tt), ((tt, tt), tt)) $
    sets ! (agg ! (no_more !)) refl (tt, tt) $
    returns ! (look_at ! 0 refl) $ free_all ! refl $
    suffices ! _ (ends_at 𝓛 f.ended stayed c y (vstruct vnil)
    (record { items = log.now.items ++ key.now ∷ [] }) (tt, (tt, tt)) (tt, (tt, tt))) $
    says ! refl $
    nothing ! $ owned ! (Struct (shape Log)) _ (Struct-Makes 𝓛 (shape Log) tt) tt _ (tt, (refl, tt)) $ fjoin ! $
    nothing ! $ nothing ! $ join ! $ nothing ! $ join ! $ move ! (2 ∷ []) $ done !))
