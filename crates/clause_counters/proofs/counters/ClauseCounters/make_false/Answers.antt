use Rattle.std.proofs.Common.{true, subst}
use Rattle.clause_counters.proofs.Words.{has_index, IsSameButRoom, literal_index, with_false, with_flag}
use Rattle.clause_counters.proofs.ShownLaws.{shows_told, or_is, shows_room}
use Rattle.clause_counters.proofs.counters.ClauseCounters.make_false.Goals as goal

pub returns-clause-represents : goal.returns-clause-represents
returns-clause-represents g c s shows =
    shows_room (with_flag true (literal_index c.args.literal) c.args.self.now) c.close.new.self
    (with_false c.args.literal s)
    (subst (λ i. IsSameButRoom (with_flag true i c.args.self.now) c.close.new.self) c.to_index.ensures.value
    c.close.ensures)
    (shows_told c.args.self.now s c.args.literal true (with_false c.args.literal s).is_false
    (λ other. or_is (has_index (literal_index c.args.literal) other) (s.is_false other)) shows)
