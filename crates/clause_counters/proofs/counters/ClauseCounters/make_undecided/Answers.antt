use Rattle.std.proofs.Common.{false, subst}
use Rattle.clause_counters.proofs.Words.{has_index, IsSameButRoom, literal_index, with_flag, with_undecided}
use Rattle.clause_counters.proofs.ShownLaws.{shows_told, not_and_is, shows_room}
use Rattle.clause_counters.proofs.counters.ClauseCounters.make_undecided.Goals as goal

pub returns-clause-represents : goal.returns-clause-represents
returns-clause-represents g c s shows =
    shows_room (with_flag false (literal_index c.args.literal) c.args.self.now) c.reopen.new.self
    (with_undecided c.args.literal s)
    (subst (λ i. IsSameButRoom (with_flag false i c.args.self.now) c.reopen.new.self) c.to_index.ensures.value
    c.reopen.ensures)
    (shows_told c.args.self.now s c.args.literal false (with_undecided c.args.literal s).is_false
    (λ other. not_and_is (has_index (literal_index c.args.literal) other) (s.is_false other)) shows)
