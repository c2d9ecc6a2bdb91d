use Rattle.std.proofs.Common.{[], ◌++◌, ◌+◌, ◌∙◌, ◌∷◌, ◌≡◌, ap, drop, length, refl, rules, subst, sym, take}
use Rattle.realm_lock.specs.{CoreValue, ForksAll}
use Rattle.realm_lock.proofs.Words.{take-length, take_more}
use Rattle.realm_lock.proofs.Batching.{forks_begin, forks_on, forks_stop, parted_at}
use Rattle.realm_lock.proofs.locked.LockedRealm.fork_all.Goals as goal

pub loop-label-init : goal.loop-label-init
loop-label-init g c =
    let forking = forks_begin c.args.token.now c.look.new.token c.look.new.self c.args.scope [] c.args.forked.now.items c.look.ensures.looks (ap (λ (k : CoreValue). k.steps) c.look.ensures.steps.0) refl c.requires.empty in (
      forking,
      search rules,
      c.requires.room,
      search rules,
    )

pub loop-label-preserved : goal.loop-label-preserved
loop-label-preserved g c =
    let labels = c.args.labels.now in
    let i = c.loop-label.label-index in
    let label = c.label-item.result in
    let so_far = c.loop-label.invariant in
    let more : take (i + 1) labels ≡ take i labels ++ label ∷ [] = take_more labels i label c.loop-label-test.true ∙ ap (λ l. take i labels ++ l ∷ []) (sym c.label-item.is) in
    let forking = forks_on c.args.token.now c.loop-label.token c.fork_next.new.token c.loop-label.self c.fork_next.new.self c.args.scope (take i labels) c.loop-label.forked.items label so_far.0 c.in-Ok.next c.in-Ok.ensures.steps c.in-Ok.ensures.answer c.in-Ok.ensures.ticket in (
      rw (more, c.push_reserved.ensures.items) forking,
      search rules,
      search rules,
      c.in-Ok.ensures.fitting,
    )

pub returns-in-Err-clause-some : goal.returns-in-Err-clause-some
returns-in-Err-clause-some g c =
    let labels = c.args.labels.now in
    let i = c.loop-label.label-index in
    let label = c.label-item.result in
    let are = parted_at labels i label c.loop-label-test.true ∙ ap (λ l. take i labels ++ l ∷ drop (i + 1) labels) (sym c.label-item.is) in
    (forks_stop c.args.token.now c.loop-label.token c.fork_next.new.token c.loop-label.self c.fork_next.new.self c.args.scope (take i labels) c.loop-label.forked.items label c.loop-label.invariant.0 c.in-Err.refusal labels (drop (i + 1) labels) are c.in-Err.ensures.steps c.in-Err.ensures.answer).1

pub returns-clause-all : goal.returns-clause-all
returns-clause-all g c =
    let labels = c.args.labels.now in
    let i = c.loop-label.label-index in
    let full : i ≡ length labels = search rules in
    subst (λ ls. ForksAll c.args.token.now c.loop-label.token c.args.scope ls c.loop-label.forked.items) (ap (λ n. take n labels) full ∙ take-length labels) c.loop-label.invariant.0.all
