use Rattle.std.proofs.Common.{◌≡◌, ◌<◌, ◌≤◌, ℕ, get_or}
use Rattle.id_maps.proofs.dense_map.VecIdMap.update_all.Given as goal

-- what comes before the index is changed, and the rest is as it was
abbrev pub invariant-loop-value : goal.invariant-loop-value
invariant-loop-value g l =
    let default = g.V.DefaultValue.default_value in
    record {
      done : (k : ℕ) → k < l.value-index →
          goal.F-post g l.f (get_or l.initial.value-items k default) (get_or l.value-items k default);
      left : (k : ℕ) → l.value-index ≤ k → get_or l.value-items k default ≡ get_or l.initial.value-items k default;
    }
