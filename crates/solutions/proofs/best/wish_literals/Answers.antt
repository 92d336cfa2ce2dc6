use Rattle.std.proofs.Common.{◌≡◌, ◌∙◌, ◌+◌, ◌<◌, ◌++◌, ◌∷◌, [], length, ltb-true, map, take, ap, slice_index, sym}
use Rattle.std.proofs.Common.{rules, arith}
use Rattle.std.proofs.lemmas.List.{length-append}
use Rattle.solutions.proofs.Words.{alternatives_of, is_so, rank, truth}
use Rattle.solutions.proofs.BestLemmas.{rank_at, ranks_length, same_more, same_past}
use Rattle.solutions.proofs.best.wish_literals.Invariants.{provided}
use Rattle.solutions.proofs.best.wish_literals.Goals as goal

pub loop-place-init : goal.loop-place-init
loop-place-init g c = record { count = search rules; same = λ other place less. absurd (omega arith) }

pub loop-place-preserved : goal.loop-place-preserved
loop-place-preserved g c =
    let p = provided g c.args.encoder.now.provider.now in
    let ranks = c.args.ranks.now in
    let wishes = c.args.wishes.now in
    let place = c.loop-place.place in
    let wish = c.in-Some.wish.now in
    let inside : place < length wishes = ltb-true place (length wishes) (sym c.in-Some.ensures.lookup.0) in
    let lists = c.loop-place.lists.items in
    let list = c.in_ok-list.list in
    let pushed : c.push.new.self.items ≡ lists ++ list ∷ [] = search rules in
    let so_far = c.loop-place.invariant in
    record {
      count = ap length pushed ∙ simp length-append (ap (λ n. n + 1) so_far.count);
      same = λ other. same_more (is_so p other) (truth p other) place ranks
          (map (rank p other) (alternatives_of wishes)) lists c.push.new.self.items list
          wish.alternatives.items so_far.count pushed
          (rank_at p other wishes place wish inside c.in-Some.ensures.lookup.1)
          (c.in_ok-list.ensures other ∙ ap (map (is_so p other)) (c.up_to.ensures
          ∙ ap (take (slice_index ranks place + 1)) c.deref.ensures.value))
          (so_far.same other);
    }

pub returns-in_default : goal.returns-in_default
returns-in_default g c =
    let p = provided g c.args.encoder.now.provider.now in
    let wishes = c.args.wishes.now in
    let place = c.loop-place.place in
    λ other.
    let size : length (map (rank p other) (alternatives_of wishes)) ≡ length wishes = ranks_length p other wishes in
    same_past (truth p other) place (length c.args.ranks.now) c.args.ranks.now
    (map (rank p other) (alternatives_of wishes)) c.loop-place.lists.items
    c.loop-place.invariant.count (let end = c.in_default.ensures.lookup.3 in
    omega arith) (c.loop-place.invariant.same other)

pub returns : goal.returns
returns g c = λ other place less.
    let end = c.loop-place-test.false in
    c.loop-place.invariant.same other place (omega arith)
