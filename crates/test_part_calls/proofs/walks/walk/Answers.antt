use Rattle.std.proofs.Common.{◌∙◌, ◌++◌, ◌∷◌, [], sym, ap, subst}
use Rattle.test_part_calls.proofs.WalkLaws.{Walked, begins, keeps, moves, is_beginning, is_beginning_after}
use Rattle.test_part_calls.specs.Walks.{IsBeginning}
use Rattle.watch_map.specs.WatchLists.{watchers}
use Rattle.test_part_calls.proofs.walks.walk.Goals as goal

pub loop-cursor-init : goal.loop-cursor-init
loop-cursor-init g c = begins c.args.literal
    (g.R.Rewatch.choice c.args.rewatch.now) c.args.map.now c.args.watches.now c.args.met.now.items
    c.cursor-cursor.result c.requires.watched c.cursor-cursor.ensures.list c.cursor-cursor.ensures.stands

pub returns-in-Err-clause-err : goal.returns-in-Err-clause-err
returns-in-Err-clause-err g c =
    subst (λ met. IsBeginning met (c.args.met.now.items ++ watchers c.args.map.now c.args.watches.now
    c.args.literal)) (sym c.in-Err.ensures.items)
    (is_beginning c.args.literal (g.R.Rewatch.choice c.args.rewatch.now) c.args.map.now c.args.watches.now
    c.args.met.now.items
    c.loop-cursor.map c.loop-cursor.watches c.loop-cursor.met.items c.in-Some.at
    (subst (λ o. Walked c.args.literal (g.R.Rewatch.choice c.args.rewatch.now) c.args.map.now c.args.watches.now
    c.args.met.now.items o c.loop-cursor.map c.loop-cursor.watches c.loop-cursor.met.items) c.in-Some.is
    c.loop-cursor.invariant))

pub returns-in-Err-update-clause-err : goal.returns-in-Err-update-clause-err
returns-in-Err-update-clause-err g c =
    is_beginning_after c.args.literal (g.R.Rewatch.choice c.args.rewatch.now) c.args.map.now c.args.watches.now
    c.args.met.now.items
    c.loop-cursor.map c.loop-cursor.watches c.loop-cursor.met.items c.in-Some.at
    (subst (λ o. Walked c.args.literal (g.R.Rewatch.choice c.args.rewatch.now) c.args.map.now c.args.watches.now
    c.args.met.now.items o c.loop-cursor.map c.loop-cursor.watches c.loop-cursor.met.items) c.in-Some.is
    c.loop-cursor.invariant)
    c.push.new.self.items (c.in-Ok.ensures.items
    ∙ ap (λ x. c.loop-cursor.met.items ++ x ∷ []) c.clause_id-clause_id.ensures)

pub loop-cursor-preserved-in-None : goal.loop-cursor-preserved-in-None
loop-cursor-preserved-in-None g c =
    keeps c.args.literal (g.R.Rewatch.choice c.args.rewatch.now) c.args.map.now c.args.watches.now c.args.met.now.items
    c.loop-cursor.map c.loop-cursor.watches c.loop-cursor.met.items c.in-Some.at
    (subst (λ o. Walked c.args.literal (g.R.Rewatch.choice c.args.rewatch.now) c.args.map.now c.args.watches.now
    c.args.met.now.items o c.loop-cursor.map c.loop-cursor.watches c.loop-cursor.met.items) c.in-Some.is
    c.loop-cursor.invariant)
    c.push.new.self.items (c.in-Ok.ensures.items
    ∙ ap (λ x. c.loop-cursor.met.items ++ x ∷ []) c.clause_id-clause_id.ensures)
    c.next-cursor.result (ap (g.R.Rewatch.choice c.args.rewatch.now) (sym c.clause_id-clause_id.ensures) ∙
    (sym c.new_watch.ensures ∙ c.in-None.is)) c.next-cursor.ensures.list c.next-cursor.ensures.stands

pub loop-cursor-preserved : goal.loop-cursor-preserved
loop-cursor-preserved g c =
    moves c.args.literal (g.R.Rewatch.choice c.args.rewatch.now) c.args.map.now c.args.watches.now c.args.met.now.items
    c.loop-cursor.map c.loop-cursor.watches c.loop-cursor.met.items c.in-Some.at
    (subst (λ o. Walked c.args.literal (g.R.Rewatch.choice c.args.rewatch.now) c.args.map.now c.args.watches.now
    c.args.met.now.items o c.loop-cursor.map c.loop-cursor.watches c.loop-cursor.met.items) c.in-Some.is
    c.loop-cursor.invariant)
    c.push.new.self.items (c.in-Ok.ensures.items
    ∙ ap (λ x. c.loop-cursor.met.items ++ x ∷ []) c.clause_id-clause_id.ensures)
    c.in-Ok-update.next c.in-Some-new_watch.new_watch c.update.new.map c.update.new.watches
    (ap (g.R.Rewatch.choice c.args.rewatch.now) (sym c.clause_id-clause_id.ensures) ∙
    (sym c.new_watch.ensures ∙ c.in-Some-new_watch.is))
    c.in-Ok-update.ensures.lists c.in-Ok-update.ensures.list c.in-Ok-update.ensures.stands
