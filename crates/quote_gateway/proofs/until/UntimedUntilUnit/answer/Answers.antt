-- The moment is never before 0.
use Rattle.std.specs.Prelude.{◌≤◌}
use Rattle.quote_gateway.specs.{history_seen, moment}
use Rattle.quote_gateway.proofs.Words.{arith}
use Rattle.quote_gateway.proofs.Telling.{on_ok_so}
use Rattle.quote_gateway.proofs.until.UntimedUntilUnit.answer.Goals as goal

pub returns-clause-told : goal.returns-clause-told
returns-clause-told g c = on_ok_so (0 ≤ moment (history_seen c.join_and_answer.new.ctx.token)) c.join_and_answer.result (omega arith)
