use Rattle.std.proofs.Common.{ap, sym, subst, ◌∙◌}
use Rattle.resolvo_queue.proofs.Words.{IsListedWell, known_at, OwesSame, SameFound, walk_of, walked, WalksOnce}
use Rattle.resolvo_queue.proofs.Rows.Listing.{found_walked, listed_more, listed_walked, owes_walked}
use Rattle.resolvo_queue.proofs.Clauses.Records.{is_at_place}
use Rattle.resolvo_queue.proofs.Syncs.Forgetting.{place_within}
use Rattle.resolvo_queue.proofs.Walks.Counts.{walks_nothing, walks_one}
use Rattle.resolvo_queue.proofs.inspection.requirement_frontier.Goals as goal

pub returns-in_ok-list_once-in-Unknown-clause-known : goal.returns-in_ok-list_once-in-Unknown-clause-known
returns-in_ok-list_once-in-Unknown-clause-known g c =
    ap (λ ts. known_at ts c.args.clause.now.record) c.store_walk.ensures.walked
    ∙ ap walk_of (is_at_place (walked c.walk-frontier.result) c.args.requirements.now c.args.clause.now.record
    c.requires.place.0 c.requires.place.1)

pub returns-in_ok-list_once-in-Unknown-clause-listed : goal.returns-in_ok-list_once-in-Unknown-clause-listed
returns-in_ok-list_once-in-Unknown-clause-listed g c =
    subst (λ ts. IsListedWell c.args.reader.now.lists c.list_once.new.occurrences ts) (sym c.store_walk.ensures.walked)
    (listed_walked c.args.reader.now.lists c.args.clause.now.requirement c.list_once.new.occurrences
    c.args.requirements.now c.args.clause.now.record c.walk-frontier.result
    c.requires.place c.in_ok-list_once-in-Unknown.ensures.listed
    (listed_more c.args.reader.now.lists c.args.clause.now.requirement c.args.occurrences.now
    c.list_once.new.occurrences c.args.requirements.now c.requires.walkable.entry c.list_once.ensures.grows
    c.list_once.ensures.lists c.requires.listed))

pub returns-in_ok-list_once-in-Unknown-clause-owes : goal.returns-in_ok-list_once-in-Unknown-clause-owes
returns-in_ok-list_once-in-Unknown-clause-owes g c =
    subst (λ ts. OwesSame c.args.requirements.now ts) (sym c.store_walk.ensures.walked)
    (owes_walked c.args.requirements.now c.args.clause.now.record c.walk-frontier.result (sym c.in-Unknown.ensures))

pub store_walk-requires : goal.store_walk-requires
store_walk-requires g c = place_within c.args.requirements.now c.args.clause.now.requirement
    c.args.clause.now.record c.requires.place

pub returns-in_err-list_once-in-Unknown-clause-listed : goal.returns-in_err-list_once-in-Unknown-clause-listed
returns-in_err-list_once-in-Unknown-clause-listed g c =
    listed_more c.args.reader.now.lists c.args.clause.now.requirement c.args.occurrences.now c.list_once.new.occurrences
    c.args.requirements.now c.requires.walkable.entry c.list_once.ensures.grows c.list_once.ensures.lists
    c.requires.listed

pub returns-in_ok-list_once-in-Unknown-clause-found : goal.returns-in_ok-list_once-in-Unknown-clause-found
returns-in_ok-list_once-in-Unknown-clause-found g c =
    subst (λ ts. SameFound c.args.requirements.now ts) (sym c.store_walk.ensures.walked)
    (found_walked c.args.requirements.now c.args.clause.now.record c.walk-frontier.result)

pub returns-in_ok-list_once-in-Unknown-clause-once : goal.returns-in_ok-list_once-in-Unknown-clause-once
returns-in_ok-list_once-in-Unknown-clause-once g c =
    subst (λ ts. WalksOnce c.args.requirements.now ts c.args.reader.now.walked c.walk-frontier.new.self.walked)
    (sym c.store_walk.ensures.walked)
    (subst (WalksOnce c.args.requirements.now _ c.args.reader.now.walked) (sym c.walk-frontier.ensures.walked)
    (walks_one c.args.clause.now.requirement c.args.clause.now.record c.walk-frontier.result c.args.requirements.now
    c.args.reader.now.walked c.requires.place
    (λ k p. c.store_walk.ensures.only c.args.clause.now.requirement k c.requires.place p) (sym c.in-Unknown.ensures)))

pub returns-in_err-list_once-in-Unknown-clause-once : goal.returns-in_err-list_once-in-Unknown-clause-once
returns-in_err-list_once-in-Unknown-clause-once g c = walks_nothing c.args.requirements.now c.args.reader.now.walked

pub returns-in-Known-clause-once : goal.returns-in-Known-clause-once
returns-in-Known-clause-once g c = walks_nothing c.args.requirements.now c.args.reader.now.walked
