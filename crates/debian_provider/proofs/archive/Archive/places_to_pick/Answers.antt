use Rattle.std.proofs.Common.{below_more, get_or, arith, subst, sym}
use Rattle.std.specs.Prelude.{All}
use Rattle.std.proofs.lemmas.List.Elements.{All-nil}
use Rattle.debian_provider.proofs.Words.{Contains, IsPlaceOf, plain_name}
use Rattle.debian_provider.proofs.Picks.{all_found}
use Rattle.debian_provider.proofs.archive.Archive.places_to_pick.Goals as goal

pub loop-place-init : goal.loop-place-init
loop-place-init c = record {
  each = subst (All (IsPlaceOf c.args.self.now.rules (plain_name c.args.name))) (sym c.new-found.ensures.items)
      (All-nil (IsPlaceOf c.args.self.now.rules (plain_name c.args.name)));
  all = λ k lt. absurd (omega arith);
}

pub loop-place-preserved : goal.loop-place-preserved
loop-place-preserved c =
    let step = c.in_ok-add_place.ensures in
    let so_far = c.loop-place.invariant in
    record {
      each = step.each so_far.each;
      all = below_more (λ k. IsPlaceOf c.args.self.now.rules (plain_name c.args.name)
          (get_or c.places-places.result.now k 0)
          → Contains c.add_place.new.found.items (get_or c.places-places.result.now k 0)) c.loop-place.place-index
          (λ k lt is. step.kept _ (so_far.all k lt is)) step.added;
    }

pub returns-clause-all : goal.returns-clause-all
returns-clause-all c =
    all_found c.args.self.now.rules c.args.name c.places-places.result.now c.places-places.ensures
    c.loop-place.found.items
    (λ k lt. c.loop-place.invariant.all k (omega (arith, lt)))
