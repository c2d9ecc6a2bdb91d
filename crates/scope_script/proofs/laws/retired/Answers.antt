use Rattle.scope_script.proofs.Retiring.{replies_stay, text_stays}
use Rattle.scope_script.proofs.laws.retired.Goals as goal

pub returns-clause-replies : goal.returns-clause-replies
returns-clause-replies c = replies_stay

pub returns-clause-text : goal.returns-clause-text
returns-clause-text c = text_stays
