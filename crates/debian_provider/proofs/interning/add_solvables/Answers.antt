use Rattle.std.proofs.Common.{◌∙◌, ℕ, ◌≤◌, ◌+◌, [], ◌∷◌, ◌++◌, ap, arith, get_or, length, subst, sym, take}
use Rattle.std.proofs.lemmas.List.{take_all, take_more}
use Rattle.debian_provider.proofs.Words.{AllZip, AreHere, IsAt, IsLater, slice_get, Solvable}
use Rattle.debian_provider.proofs.Growing.{here_pushed, here_still}
use Rattle.debian_provider.proofs.Later.{extended_longer, later_twice, later_with_solvable}
use Rattle.debian_provider.proofs.More.{at_end}
use Rattle.debian_provider.proofs.Versions.{solvable_still, zip_push, zip_weaker}
use Rattle.debian_provider.proofs.interning.add_solvables.Goals as goal

pub loop-place-preserved : goal.loop-place-preserved
loop-place-preserved c =
    let before = c.loop-place.pool in
    let after = c.intern_solvable.new.self in
    let later : IsLater before after = subst (IsLater before) (sym c.in-Ok.ensures.ok) (later_with_solvable before _) in
    let more : length before.solvables ≤ length after.solvables =
    extended_longer before.solvables after.solvables later.solvables in
    let places = c.args.places.now in
    let i = c.loop-place.place-index in
    let x : Solvable ℕ = record { name = c.args.name; payload = get_or places i 0 } in
    record {
      known = subst (AreHere after) (sym c.in_ok-push.ensures.items)
          (here_pushed after c.loop-place.solvables.items c.in-Ok.solvable
          (here_still before after c.loop-place.solvables.items more c.loop-place.invariant.known)
          c.in-Ok.ensures.here);
      at = subst (λ l. AllZip (IsAt after c.args.name) l (take (i + 1) places)) (sym c.in_ok-push.ensures.items)
          (subst (AllZip (IsAt after c.args.name) (c.loop-place.solvables.items ++ c.in-Ok.solvable ∷ []))
          (sym (take_more places i 0 (omega arith)))
          (zip_push (IsAt after c.args.name) c.loop-place.solvables.items (take i places) c.in-Ok.solvable
          (get_or places i 0)
          (zip_weaker (IsAt before c.args.name) (IsAt after c.args.name)
          (λ s place h. solvable_still before after later s _ h) c.loop-place.solvables.items (take i places)
          c.loop-place.invariant.at)
          (ap (λ pool. slice_get pool.solvables c.in-Ok.solvable) c.in-Ok.ensures.ok
          ∙ ap (slice_get (before.solvables ++ x ∷ [])) c.in-Ok.ensures.id ∙ at_end before.solvables x)));
      longer = omega (arith, more, c.loop-place.invariant.longer);
      names = ap (λ pool. pool.names) c.in-Ok.ensures.ok ∙ c.loop-place.invariant.names;
      later = later_twice c.args.pool.now before after c.loop-place.invariant.later later;
    }

pub returns-clause-at : goal.returns-clause-at
returns-clause-at c = subst (AllZip (IsAt c.loop-place.pool c.args.name) c.loop-place.solvables.items)
    (take_all _ _ (omega arith)) c.loop-place.invariant.at
