use Rattle.std.proofs.Common.{◌≡◌, ◌∙◌, ◌++◌, ◌∷◌, ◌+◌, [], subst, sym, take, rules}
use Rattle.corrections.proofs.Words.{ConditionalRequirement, kept, Vec}
use Rattle.corrections.proofs.MarkLemmas.{kept_nothing, kept_passed, kept_pushed}
use Rattle.corrections.proofs.without.kept.Goals.{then-not-is_marked+in_ok-push, else-not-is_marked}
use Rattle.corrections.proofs.without.kept.Goals as goal

pub loop-place-init : goal.loop-place-init
loop-place-init g c = c.new-rest.ensures.items ∙ sym (kept_nothing c.args.left_out.now)

pub loop-place-preserved : goal.loop-place-preserved
loop-place-preserved g c =
    let marks = c.args.left_out.now in
    let requested = c.args.requested.now in
    let at = c.loop-place.place in
    let Are = λ (v : Vec ConditionalRequirement g.row.A.Denot). v.items ≡ kept marks (take (at + 1) requested) in
    elim c.if-not-is_marked.branch [
      | then-not-is_marked+in_ok-push w ↦
          let x = c.index-requested-place.result in
          let pushed : w.push.new.self.items ≡ c.loop-place.rest.items ++ x ∷ [] = search rules in
          subst Are (sym w.rest-is) (kept_pushed marks requested at x c.loop-place.rest.items w.push.new.self.items
          c.loop-place-test.true
          c.index-requested-place.is (sym c.is_marked.ensures ∙ w.if-not-is_marked.true) pushed c.loop-place.invariant)
      | else-not-is_marked w ↦
          subst Are (sym w.rest-is) (kept_passed marks requested at c.loop-place.rest.items
          (sym c.is_marked.ensures ∙ w.if-not-is_marked.false)
          c.loop-place.invariant)
    ]
