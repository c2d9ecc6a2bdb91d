use Rattle.realm_lock.proofs.MarksStay.{accepted_marks_agree}
use Rattle.realm_lock.proofs.laws.accepted_marks_agree.Goals as goal

pub returns : goal.returns
returns c = accepted_marks_agree
