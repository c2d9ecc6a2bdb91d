use Rattle.std.specs.Prelude.{◌++◌, ◌+◌, ◌-◌, ◌≡◌, ◌≤◌}
use Rattle.script_jobs.specs.{Begun.Begun, false, grown_by, length, take, true}
use Rattle.script_jobs.proofs.Words.{◌∙◌, ap, arith, subst}
use Rattle.script_jobs.proofs.Growing.{fits_take, grown_so}
use Rattle.script_jobs.proofs.begun.BegunLine.extend.Goals as goal

pub unreachable-requires : goal.unreachable-requires
unreachable-requires c =
    let fits : length c.self.inside.first.items + length c.beginning-fitting.result.now ≤ 201 = omega (arith, c.len-room.ensures.value, c.len-room.ensures.fits, c.beginning-fitting.ensures.short) in
    let no : false ≡ true = c.in-Err.ensures.variant.1 fits in
    cc

pub returns-clause-grown : goal.returns-clause-grown
returns-clause-grown c =
    let first = c.self.inside.first.items in
    let short : length first ≤ 201 = omega (arith, c.len-room.ensures.value, c.len-room.ensures.fits) in
    let fitting = c.beginning-fitting.ensures.is ∙ ap (λ n. take (201 - n) c.args.bytes.now) c.len-room.ensures.value in
    let first_is = c.in-Ok.ensures.ok ∙ (ap (λ bs. first ++ bs) fitting ∙ fits_take 201 first c.args.bytes.now short) in
    grown_so _ _ _ _ first_is c.saturating_add-self-inside.ensures ∙ ap (λ k. grown_by k c.args.bytes.now) c.self.view_is

pub returns-clause-within : goal.returns-clause-within
returns-clause-within c =
    let short : length c.self.inside.first.items ≤ 201 = omega (arith, c.len-room.ensures.value, c.len-room.ensures.fits) in
    subst (λ (k : Begun). length k.first ≤ 201) c.self.view_is short
