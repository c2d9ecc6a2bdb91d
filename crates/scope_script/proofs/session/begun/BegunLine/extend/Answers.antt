use Rattle.std.proofs.Common.{◌≡◌, ◌≢◌, ◌⊎◌, arith, false, inl, inr, length, refl, subst, sym, true}
use Rattle.scope_script.specs.{grown_by}
use Rattle.scope_script.proofs.Lemmas.{nat_tests}
use Rattle.scope_script.proofs.{Growing.grows_past, Growing.grows_within, Growing.stays, session.begun.BegunLine.extend.Goals.then-self-via-else-self+then-is_empty, session.begun.BegunLine.extend.Goals.then-self-via-then-self}
use Rattle.scope_script.proofs.session.begun.BegunLine.extend.Goals as goal

pub returns-then-self : goal.returns-then-self
returns-then-self c =
    let which : (c.self.inside.overlong ≡ true) ⊎ (length c.args.bytes.now ≡ 0) =
    elim c.then-self.branch [
      | then-self-via-then-self w ↦ inl w.if-self.true
      | then-self-via-else-self+then-is_empty w ↦ inr (grind (arith, nat_tests, w.is_empty.ensures, w.if-is_empty.true))
    ] in
    subst (λ k. k ≡ grown_by k c.args.bytes.now) c.self.view_is (stays c.self.inside.overlong c.self.inside.bytes.items c.args.bytes.now which)

pub returns-in-Ok : goal.returns-in-Ok
returns-in-Ok c =
    rw (c.if-self.false, c.in-Ok.ensures.ok) (rw (sym c.self.view_is, c.if-self.false) (grows_within c.self.inside.bytes.items c.args.bytes.now (c.in-Ok.ensures.variant.0 refl)))

pub returns-in-Err : goal.returns-in-Err
returns-in-Err c =
    let some : length c.args.bytes.now ≢ 0 = grind (arith, nat_tests, c.is_empty.ensures, c.if-is_empty.false) in
    rw (sym c.self.view_is, c.if-self.false) (grows_past c.self.inside.bytes.items c.args.bytes.now some (λ fits. let no : false ≡ true = c.in-Err.ensures.variant.1 fits in cc))
