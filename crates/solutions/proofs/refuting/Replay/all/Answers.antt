use Rattle.std.proofs.Common.{◌≡◌, true, false, rules, subst}
use Rattle.solutions.proofs.Words.{Replayed}
use Rattle.solutions.proofs.ReplayLemmas.{replayed_by, replayed_then}
use Rattle.solutions.proofs.refuting.Replay.all.Goals as goal

pub returns-then-branch : goal.returns-then-branch
returns-then-branch g c =
    let yes : c.in_ok-propagate_all.field-0 ≡ true = search rules in
    replayed_by c.args.self.now.theory.clauses.items c.rules.result.clauses.now c.args.self.now.trail.literals.items
    c.propagate_all.new.trail.literals.items c.in_ok-propagate_all.field-0 true yes c.rules.ensures
    c.in_ok-propagate_all.ensures

pub loop-package_literals-init : goal.loop-package_literals-init
loop-package_literals-init g c =
    let no : c.in_ok-propagate_all.field-0 ≡ false = search rules in
    replayed_by c.args.self.now.theory.clauses.items c.rules.result.clauses.now c.args.self.now.trail.literals.items
    c.propagate_all.new.trail.literals.items c.in_ok-propagate_all.field-0 false no c.rules.ensures
    c.in_ok-propagate_all.ensures

pub loop-package_literals-preserved : goal.loop-package_literals-preserved
loop-package_literals-preserved g c =
    let no : c.in_ok-one.field-0 ≡ false = search rules in
    subst (Replayed c.args.self.now.theory.clauses.items c.args.self.now.trail.literals.items
    c.one.new.self.theory.clauses.items c.one.new.self.trail.literals.items) no
    (replayed_then c.args.self.now.theory.clauses.items c.args.self.now.trail.literals.items
    c.loop-package_literals.self.theory.clauses.items c.loop-package_literals.self.trail.literals.items
    c.one.new.self.theory.clauses.items c.one.new.self.trail.literals.items false c.in_ok-one.field-0
    c.loop-package_literals.invariant c.in_ok-one.ensures)

pub returns-then-branch-2 : goal.returns-then-branch-2
returns-then-branch-2 g c =
    let yes : c.in_ok-one.field-0 ≡ true = search rules in
    subst (Replayed c.args.self.now.theory.clauses.items c.args.self.now.trail.literals.items
    c.one.new.self.theory.clauses.items c.one.new.self.trail.literals.items) yes
    (replayed_then c.args.self.now.theory.clauses.items c.args.self.now.trail.literals.items
    c.loop-package_literals.self.theory.clauses.items c.loop-package_literals.self.trail.literals.items
    c.one.new.self.theory.clauses.items c.one.new.self.trail.literals.items false c.in_ok-one.field-0
    c.loop-package_literals.invariant c.in_ok-one.ensures)
