use Rattle.std.proofs.Common.{rules, ◌≡◌, ◌==◌, true, false}
use Rattle.test_support.specs.Listed.{package_at}
use Rattle.test_support.proofs.ListedLemmas.{named_one, named_other}
use Rattle.test_support.proofs.listed.named.Goals as goal
use Rattle.test_support.proofs.listed.named.Goals.{then-package-name+in_ok-push, else-package-name}

pub loop-i-preserved : goal.loop-i-preserved
loop-i-preserved g c =
    let id_of = g.S.Numbered.id_of in
    let ps = c.args.packages.now in
    elim c.if-package-name.branch [
      | then-package-name+in_ok-push w ↦ (
          let same : ((package_at ps c.loop-i.i).name == c.args.name) ≡ true = search rules in
          rw (w.found-is, w.in_ok-push.ensures.items, w.numbered.ensures)
          (named_one id_of c.loop-i.found.items c.args.name c.loop-i.i ps c.loop-i-test.true same c.loop-i.invariant))
      | else-package-name w ↦ (
          let other : ((package_at ps c.loop-i.i).name == c.args.name) ≡ false = search rules in
          rw w.found-is
          (named_other id_of c.loop-i.found.items c.args.name c.loop-i.i ps c.loop-i-test.true other
          c.loop-i.invariant))
    ]
