-- What a progress of the code keeps.
use Rattle.join_rules.specs.{JoinerStanding.JoinerStanding, declared.counting.Progress.Progress}

abbrev pub standing_of : {g : _} {f : _} {m : _} → Progress g f m → JoinerStanding
standing_of progress = progress.account
