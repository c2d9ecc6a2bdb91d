-- A scope without a first cancel is listed, and there is room for it.
use Rattle.std.proofs.Common.{[], ◌++◌, ◌-◌, ◌<◌, ◌∙◌, ◌∷◌, ◌≡◌, None, Some, ap, arith, length, not, set, subst, suc, sym}
use Rattle.cancel_tree.specs.{IsListOf}
use Rattle.cancel_tree.proofs.{ListLaws.fewer_listed, ListLaws.listed_already, ListLaws.listed_put, spread.put.Goals.else-is_none, spread.put.Goals.then-is_none}
use Rattle.cancel_tree.proofs.spread.put.Goals as goal

pub push-requires : goal.push-requires
push-requires c =
    let r = c.requires in
    let few = fewer_listed c.args.cancels.now c.args.listed.now.scopes.items (c.args.scope - 1) None (omega (arith, r.number, r.within)) (c.is_none.ensures ∙ ap not c.if-is_none.true) r.whole in
    record { room = omega (arith, few, r.room) }

pub returns-clause-whole : goal.returns-clause-whole
returns-clause-whole c =
    let r = c.requires in
    let cancels = c.args.cancels.now in
    let new = set cancels (c.args.scope - 1) (Some c.args.first_cancel) in
    let lt : c.args.scope - 1 < length cancels = omega (arith, r.number, r.within) in
    let here : suc (c.args.scope - 1) ≡ c.args.scope = omega (arith, r.number) in
    elim c.if-is_none.branch [
      | then-is_none w ↦ subst (λ l. IsListOf new l.scopes.items) (sym w.listed-is) (subst (IsListOf new) (sym (w.push.ensures.scopes ∙ ap (λ s. c.args.listed.now.scopes.items ++ s ∷ []) (sym here)))
          (listed_put cancels c.args.listed.now.scopes.items (c.args.scope - 1) c.args.first_cancel None lt (c.is_none.ensures ∙ ap not w.if-is_none.true) r.whole))
      | else-is_none w ↦ subst (λ l. IsListOf new l.scopes.items) (sym w.listed-is)
          (listed_already cancels c.args.listed.now.scopes.items (c.args.scope - 1) c.args.first_cancel None lt (c.is_none.ensures ∙ ap not w.if-is_none.false) r.whole)
    ]
