use Rattle.std.specs.Prelude.{◌+◌, ◌∷◌}
use Rattle.command_line.specs.{[], delay_of, map, option_map}
use Rattle.command_line.proofs.Words.{◌∙◌, ap, inr, map-append, sym}
use Rattle.command_line.proofs.EachDelay.{behind, each_end, each_none, each_some}
use Rattle.command_line.proofs.delays.each_delay.Goals as goal

pub returns-in-None-clause-refused : goal.returns-in-None-clause-refused
returns-in-None-clause-refused c =
    inr (c.loop-text.invariant ∙ each_none c.args.texts.now c.loop-text.text-index (map delay_of c.loop-text.delays.items) _ c.loop-text-test.true (sym c.delay_said.ensures ∙ ap (option_map delay_of) c.in-None.is))

pub loop-text-preserved : goal.loop-text-preserved
loop-text-preserved c =
    c.loop-text.invariant
    ∙ (each_some c.args.texts.now c.loop-text.text-index (map delay_of c.loop-text.delays.items) _ c.loop-text-test.true (delay_of c.in-Some.delay) (sym c.delay_said.ensures ∙ ap (option_map delay_of) c.in-Some.is)
    ∙ ap (λ found. behind found c.args.texts.now (c.loop-text.text-index + 1)) (sym (ap (map delay_of) c.in-Ok.ensures.items ∙ map-append delay_of c.loop-text.delays.items (c.in-Some.delay ∷ []))))

pub returns-clause-said : goal.returns-clause-said
returns-clause-said c = c.loop-text.invariant ∙ each_end c.args.texts.now c.loop-text.text-index (map delay_of c.loop-text.delays.items) c.loop-text-test.false
