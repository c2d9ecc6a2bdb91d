-- Where the close of a scope can end, nothing refuses it.
use Rattle.std.proofs.Common.{[], ℕ, ◌==◌, ◌∷◌, ◌≡◌, Bool, Ok, cond, false, inl, inr, not, refl, subst, true}
use Rattle.realm_core.specs.{CanEnd, Checked, EndClose, History, Legal, Limits, WrongStage, actor_check, check_of, checks, is_innermost, is_running, known_actor, owns, refuse_if, row_check, stage, task_check, then_check}
use Rattle.realm_core.proofs.Words.{IsActor, eq-eqb, owners_act, running_forked, scope_passes, task_passes}

task_acts : (h : History) (a : ℕ) → is_running (stage h a) ≡ true → checks (task_check h a ∷ refuse_if (not (is_running (stage h a))) WrongStage ∷ []) ≡ Ok tt
unfolding checks then_check
task_acts h a runs =
    let it = running_forked h a runs in
    rw (task_passes h a it.forked it.is, runs) refl

either_way : (b : Bool) (c : Checked) → c ≡ Ok tt → cond b (Ok tt) c ≡ Ok tt
either_way true c so = refl
either_way false c so = so

pub actor_passes : (h : History) (a : ℕ) → IsActor h a → actor_check h a ≡ Ok tt
unfolding known_actor
actor_passes h a acts =
    elim acts [
      | inl main ↦ rw main refl
      | inr runs ↦ either_way (a == 0) _ (task_acts h a runs)
    ]

pub end_passes : (L : Limits) (h : History) (a s : ℕ) → Legal L h → CanEnd h a s → check_of L h (EndClose a s) ≡ Ok tt
unfolding row_check checks then_check owns is_innermost
end_passes L h a s legal can =
    let acts = subst (IsActor h) can.by (owners_act L h s can.opened legal can.is can.unclosed) in
    let owner : (can.opened.actor == a) ≡ true = eq-eqb can.opened.actor a can.by in
    let itself : (s == s) ≡ true = eq-eqb s s refl in
    rw (actor_passes h a acts, scope_passes h s can.opened can.is, can.is, owner, can.begun, can.unclosed, can.innermost, itself, can.settled) refl
