-- Each reading is that of its own event.
use Rattle.run_times.proofs.Stamped.{each_end, each_fork, each_open, each_start}
use Rattle.run_times.proofs.laws.times_are_their_own.Goals as goal

pub returns-clause-forks : goal.returns-clause-forks
returns-clause-forks c = each_fork

pub returns-clause-starts : goal.returns-clause-starts
returns-clause-starts c = each_start

pub returns-clause-opens : goal.returns-clause-opens
returns-clause-opens c = each_open

pub returns-clause-ends : goal.returns-clause-ends
returns-clause-ends c = each_end
