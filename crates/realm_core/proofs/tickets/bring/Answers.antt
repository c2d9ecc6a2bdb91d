use Rattle.std.proofs.Common.{◌∙◌, ◌≡◌, Some, arith, length, refl, slice_get, subst, sym}
use Rattle.realm_core.proofs.Words.{IsPermutation-swap, get_or_from_slice_get, slice_get_read, slice_get_within}
use Rattle.realm_core.proofs.tickets.bring.Goals as goal

pub returns-clause-same : goal.returns-clause-same
returns-clause-same c =
    let found = c.in-Some.ensures.1 in
    let at = subst (λ xs. slice_get xs c.in-Some.at ≡ Some found.0) c.deref.ensures.value found.1 in
    let under = slice_get_within c.args.tickets.now.items c.in-Some.at found.0 at in
    IsPermutation-swap c.args.tickets.now.items c.swap.new.self.items c.args.place c.in-Some.at (omega (arith, under, c.in-Some.ensures.0)) under c.swap.ensures.items

pub returns-clause-brought : goal.returns-clause-brought
returns-clause-brought c =
    let found = c.in-Some.ensures.1 in
    let at = subst (λ xs. slice_get xs c.in-Some.at ≡ Some found.0) c.deref.ensures.value found.1 in
    let under = slice_get_within c.args.tickets.now.items c.in-Some.at found.0 at in
    let here = c.swap.ensures.by_index.0 found.0 ∙ get_or_from_slice_get c.args.tickets.now.items c.in-Some.at found.0 found.0 at in
    (found.0, slice_get_read c.swap.new.self.items (length c.swap.new.self.items) c.args.place found.0 refl (omega (arith, under, c.in-Some.ensures.0, c.swap.ensures.len, c.swap.new.self.ok.0, c.args.tickets.now.ok.0)) (sym here), found.2)
