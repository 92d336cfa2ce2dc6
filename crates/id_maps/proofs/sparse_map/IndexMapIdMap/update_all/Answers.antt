use Rattle.std.proofs.Common.{rules, ◌≡◌, length, sym, ◌∙◌, ap, subst, Some}
use Rattle.std.specs.Prelude.{slice_get}
use Rattle.std.specs.Option.{option_copied_mut}
use Rattle.std.specs.Map.{values_of}
use Rattle.indexmap.proofs.CallerLemmas.{index_map_len-with_value_at}
use Rattle.id_maps.proofs.Changed.{Changed, change_one, changed_value, changed_keys}
use Rattle.id_maps.proofs.sparse_map.IndexMapIdMap.update_all.Goals as goal
use Rattle.id_maps.proofs.sparse_map.IndexMapIdMap.update_all.Goals.{in-Some, in_default, After-drop-f}

pub loop-index-preserved : goal.loop-index-preserved
loop-index-preserved g c =
    elim c.match-get_index_mut.branch [
      | in-Some w ↦ (
          let stood : slice_get (values_of c.loop-index.self.entries) c.loop-index.index ≡ Some w.in-Some.value.now =
          sym c.get_index_mut.ensures.value ∙ ap option_copied_mut w.in-Some.is in
          rw w.self-is record {
            changed = change_one (goal.F-post g c.args.f) c.loop-index.index _ _ _ _ c.loop-index.invariant.changed
                stood w.f.ensures;
            len = index_map_len-with_value_at c.loop-index.self c.loop-index.index w.f.result
                ∙ c.loop-index.invariant.len;
          })
      | in_default w ↦ (let no : ⊥ = search rules in absurd no)
    ]

-- at the end all are changed
whole : (g : _) (c : After-drop-f g) →
    Changed (goal.F-post g c.args.f) (length c.args.self.now.entries) c.args.self.now.entries c.loop-index.self.entries
whole g c =
    let ended : c.loop-index.index ≡ length c.args.self.now.entries = search rules in
    subst (λ n. Changed (goal.F-post g c.args.f) n c.args.self.now.entries c.loop-index.self.entries) ended
    c.loop-index.invariant.changed

pub returns-clause-changed : goal.returns-clause-changed
returns-clause-changed g c k =
    changed_value (goal.F-post g c.args.f) (g.K.PartialEq.eq k) g.V.DefaultValue.default_value
    (c.requires.keeps_default g.V.DefaultValue.default_value g.met.V.DefaultValue.default_is) _ _ (whole g c)

pub returns-clause-keeps : goal.returns-clause-keeps
returns-clause-keeps g c k h = changed_keys (goal.F-post g c.args.f) (g.K.PartialEq.eq k) _ _ (whole g c) ∙ h
