use Rattle.std.proofs.Common.{◌≡◌, ◌∙◌, ◌+◌, ◌++◌, ◌∷◌, ◌||◌, ◌&&◌, [], List, ap, sym, take, true, false, rules}
use Rattle.std.proofs.lemmas.List.{take_more}
use Rattle.solutions.proofs.Words.{IsOneVersion, truth}
use Rattle.solutions.proofs.MemberLemmas.{one_more}
use Rattle.solutions.proofs.ReasonLemmas.{next_is, not_both_so}
use Rattle.solutions.proofs.encoding.Encoder.climb.Invariants.{provided}
use Rattle.solutions.proofs.EncodingLemmas as L
use Rattle.solutions.proofs.encoding.Encoder.climb.Goals as goal

pub loop-place-init : goal.loop-place-init
loop-place-init g c =
    let p = provided g c.args.self.now.provider.now in
    record {
      before = c.in_ok-before.ensures;
      seen = λ s. search rules;
      still = L.still p (λ picked. IsOneVersion p picked c.args.name) c.args.theory.now.clauses.items;
    }

pub loop-place-preserved : goal.loop-place-preserved
loop-place-preserved g c =
    let p = provided g c.args.self.now.provider.now in
    let versions = c.args.versions.now in
    let i = c.loop-place.place in
    let v = c.index-versions-place.result in
    let so_far = c.loop-place.invariant in
    let before = c.loop-place.before.fact in
    let version = c.in_ok-atom.atom.fact in
    let next = c.in_ok-next.next.fact in
    let One = λ (q : List g.row.D-SolvableId.Denot). IsOneVersion p q c.args.name in
    let start = c.args.theory.now.clauses.items in
    let now = c.loop-place.theory.clauses.items in
    let one = c.say_next.new.theory.clauses.items in
    let two = c.say_not_both.new.theory.clauses.items in
    let more : take (i + 1) versions ≡ take i versions ++ v ∷ [] =
    take_more versions i v c.loop-place-test.true
    ∙ ap (λ y. take i versions ++ y ∷ []) (sym c.index-versions-place.is) in
    record {
      before = c.in_ok-next.ensures;
      seen = rw more (one_more g.D.SolvableId.PartialEq.eq g.met.D.SolvableId.Eq.laws.refl
          g.met.D.SolvableId.SameValue.same
          _ _ (take i versions) v so_far.seen c.in_ok-is_new.ensures.ok);
      still = L.still_then p One start now two so_far.still (L.still_then p One now one two
          (L.still_where p (λ q. truth p q next ≡ (truth p q before || truth p q version)) One now one
          (λ q has. next_is p c.args.name versions c.requires.all i v c.loop-place-test.true
          c.index-versions-place.is before version so_far.before
          c.in_ok-atom.ensures.fact next c.in_ok-next.ensures q) c.in_ok-say_next.ensures)
          (L.still_where p (λ q. c.in_ok-is_new.is_new ≡ true → (truth p q before && truth p q version) ≡ false) One
          one two
          (λ q has. not_both_so p c.args.name versions c.requires.all i v c.loop-place-test.true
          c.index-versions-place.is before version so_far.before
          c.in_ok-atom.ensures.fact g.met.D.SolvableId.Eq.laws.refl c.requires.named
          (g.D.SolvableId.Set.IdSet.has c.loop-place.seen v) c.in_ok-is_new.is_new
          (so_far.seen v) c.in_ok-is_new.ensures.added q has) c.in_ok-say_not_both.ensures));
    }

pub returns : goal.returns
returns g c = c.loop-place.invariant.still
