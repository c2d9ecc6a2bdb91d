-- The row has the owner, whose next scope is the one inside.
use Rattle.scope_rows.specs.{Opening, inner, next_unclosed, option_and_then}
use Rattle.scope_rows.proofs.Words.{◌∙◌, ap, sym}
use Rattle.scope_rows.proofs.nests.inner.Goals as goal

pub returns-in_err-row : goal.returns-in_err-row
unfolding inner
returns-in_err-row c = λ L h legal are. c.from_residual.ensures ∙ ap (option_and_then (λ (o : Opening). next_unclosed h o.actor c.args.scope)) (sym (c.in_err-row.ensures.agrees h are))

pub returns : goal.returns
unfolding inner
returns c = λ L h legal are. c.next_unclosed.ensures L h legal are ∙ ap (option_and_then (λ (o : Opening). next_unclosed h o.actor c.args.scope)) (sym (c.in_ok-row.ensures.agrees h are).opening)
