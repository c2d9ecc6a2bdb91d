-- At first there is none.
use Rattle.run_picture.specs.{length, nat_eq}
use Rattle.run_picture.proofs.Lemmas.{ap, arith, common_steps}
use Rattle.run_picture.proofs.Searched.{last_none}
use Rattle.std.specs.HashMap as hash
use Rattle.run_picture.proofs.arounds.owns_of.Goals as goal

pub loop-index-init : goal.loop-index-init
loop-index-init g c = record {
  owns = record { long = ap length c.new-scopes.ensures.items; each = λ k small. absurd (omega arith) };
  lasts = record { each = λ a. last_none (g.R.Readings.history c.args.readings.now) a (hash.get nat_eq c.new-last.result a) (grind (arith, common_steps)) };
}
