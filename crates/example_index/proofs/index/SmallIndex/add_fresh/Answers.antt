use Rattle.std.proofs.Common.{◌≡◌, ◌∙◌, ℕ, false, ◌∷◌, ◌++◌, [], length, map, ap, sym, subst, refl}
use Rattle.std.specs.Prelude.{◌==◌}
use Rattle.std.proofs.lemmas.List.{map-append}
use Rattle.example_index.proofs.Words.{IsKept, IsLater, IsSame, IsVersion, IsWith, needs_of, plain_version, slice_get}
use Rattle.example_index.proofs.Words.{Solvable, with_bytes}
use Rattle.example_index.proofs.EntryLemmas.{state_grown}
use Rattle.example_index.proofs.Kept.{kept_more}
use Rattle.example_index.proofs.Later.{later_bytes, later_twice, named_still, later_with_solvable}
use Rattle.example_index.proofs.Places.{zip_length}
use Rattle.example_index.proofs.index.SmallIndex.add_fresh.Goals as goal

pub returns-clause-is : goal.returns-clause-is
returns-clause-is c versions kept named =
    let first = c.args.self.now.pool in
    let before = c.intern_state-state.new.pool in
    let after = c.intern_solvable.new.self in
    let solvable : Solvable _ = record { name = c.args.name; payload = c.args.version.now.version } in
    let x = plain_version c.args.version.now in
    let old = c.args.self.now.packages.items in
    let new = c.add.new.packages.items in
    let last = subst (λ pool. IsLater before pool) (sym c.in-Ok.ensures.ok) (later_with_solvable before solvable) in
    let later = later_bytes first after (later_twice first before after c.in_ok-state.ensures.later last) in
    let count = zip_length (IsVersion (with_bytes first)) first.solvables versions kept.versions_are in
    let id : c.in-Ok.solvable ≡ length versions = c.in-Ok.ensures.id ∙ ap length c.in_ok-state.ensures.solvables ∙
    count in
    let state = state_grown (with_bytes before) (with_bytes after) (later_bytes before after last)
    c.in_ok-state.state x.is c.in_ok-state.ensures.is in
    subst (λ needs. IsKept (with_bytes after) c.add.new.packages.items needs (versions ++ x ∷ []))
    (sym (ap (map needs_of) c.in_ok-push.ensures.items ∙ map-append needs_of c.args.self.now.needs.items
    (c.in_ok-state.state.needs ∷ [])))
    (kept_more (with_bytes first) (with_bytes after) later solvable
    (ap (λ pool. pool.solvables) c.in-Ok.ensures.ok ∙ ap (λ solvables. solvables ++ solvable ∷ [])
    c.in_ok-state.ensures.solvables)
    versions x count old new c.in_ok-state.state (map needs_of c.args.self.now.needs.items)
    (needs_of c.in_ok-state.state.needs) kept
    (named_still (with_bytes first) (with_bytes after) later c.args.name x.name named, refl) state state.needs
    (subst (λ s. IsWith (slice_get old c.args.name) (slice_get new c.args.name) s c.in_ok-state.state) id
    (subst (λ k. IsWith (slice_get old k) (slice_get new k) c.in-Ok.solvable c.in_ok-state.state)
    c.to_index.ensures.value c.in_ok-add.ensures.with))
    (subst (λ k. (m : ℕ) → (k == m) ≡ false → IsSame (slice_get old m) (slice_get new m)) c.to_index.ensures.value
    c.in_ok-add.ensures.same))
