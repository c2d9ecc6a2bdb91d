use Rattle.quote_gateway.proofs.{Telling.pulse_told, Timed.back_told, Turned.pulse_keeps}
use Rattle.quote_gateway.proofs.until.tell.Goals as goal

pub returns-in-Ok-clause-keeps : goal.returns-in-Ok-clause-keeps
returns-in-Ok-clause-keeps g c = pulse_keeps c.args.ctx.now.token c.pulse.new.ctx.token (g.K.Clock.reading c.pulse.new.clock) c.pulse.result c.pulse.ensures.read c.pulse.ensures.answer

pub returns-in-Ok-clause-told : goal.returns-in-Ok-clause-told
returns-in-Ok-clause-told g c = pulse_told c.args.ctx.now.token c.pulse.new.ctx.token (g.K.Clock.reading c.pulse.new.clock) c.in-Ok.field-0 c.in-Ok.ensures.read c.in-Ok.ensures.answer

pub returns-in-Err-ClockBack-clause-keeps : goal.returns-in-Err-ClockBack-clause-keeps
returns-in-Err-ClockBack-clause-keeps g c = pulse_keeps c.args.ctx.now.token c.pulse.new.ctx.token (g.K.Clock.reading c.pulse.new.clock) c.pulse.result c.pulse.ensures.read c.pulse.ensures.answer

pub returns-in-Err-ClockBack-clause-told : goal.returns-in-Err-ClockBack-clause-told
returns-in-Err-ClockBack-clause-told g c =
    back_told c.args.ctx.now.token c.pulse.new.ctx.token (g.K.Clock.reading c.pulse.new.clock) c.in-Err-ClockBack.field-0 c.in-Err-ClockBack.field-0-is c.in-Err-ClockBack.ensures.read c.in-Err-ClockBack.ensures.answer

pub returns-in-Err-clause-keeps : goal.returns-in-Err-clause-keeps
returns-in-Err-clause-keeps g c = pulse_keeps c.args.ctx.now.token c.pulse.new.ctx.token (g.K.Clock.reading c.pulse.new.clock) c.pulse.result c.pulse.ensures.read c.pulse.ensures.answer
