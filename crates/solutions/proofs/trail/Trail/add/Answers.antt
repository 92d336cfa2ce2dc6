use Rattle.solutions.proofs.FollowsLemmas.{follows_known}
use Rattle.solutions.proofs.trail.Trail.add.Goals as goal

pub returns-in-Some : goal.returns-in-Some
returns-in-Some g c =
    follows_known c.args.literal c.args.self.now.literals.items c.in-Some.value
    (λ holds true_ones. c.in-Some.ensures holds true_ones)
