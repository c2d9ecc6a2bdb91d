use Rattle.scopectl.proofs.Words.{refl}
use Rattle.scopectl.proofs.Acted.{acts_refused}
use Rattle.scopectl.proofs.threads.act_on.Goals as goal

pub returns-in_default : goal.returns-in_default
returns-in_default g c = acts_refused _ _ _ refl refl c.requires.sound (c.refuse_words.ensures.memory refl)
