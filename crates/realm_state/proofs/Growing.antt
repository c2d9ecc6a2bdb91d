-- A fitting history stays fitting with one more event that fits.
use Rattle.std.proofs.Common.{[], ◌∙◌, ◌≡◌, Bool, Result, Some, arith, false, if◌then◌else◌, inl, inr, is_ok, slice_get, subst, sym, true}
use Rattle.realm_state.specs.{EndValue, Event, EventReply, FitsEvent, Fitting, History, LabelValue, Origin, Realm, Refusal, after_retiring, after_telling, base_of, before, followed, records, starting, with_event}
use Rattle.realm_state.proofs.Words.{before_all, before_push, entry_of_push}

-- a history without events is fitting
pub fitting_at_start : (F : LabelValue → EndValue → Type 0) (b : Origin) → Fitting F (record { base = b; events = [] })
unfolding Fitting
fitting_at_start F b i e at = absurd cc

pub fitting_at_base : (F : LabelValue → EndValue → Type 0) (h : History) → h.events ≡ [] → Fitting F h
unfolding Fitting
fitting_at_base F h none i e is =
    let here : slice_get [] i ≡ Some e = rw none at is in
    absurd cc

pub fitting_push : (F : LabelValue → EndValue → Type 0) (h : History) (e : Event) → Fitting F h → FitsEvent F h e → Fitting F (followed h e)
unfolding Fitting
fitting_push F h e fitting ok i x at =
    elim (entry_of_push h.events e x i at) [
      | inl here ↦ subst (λ (g : History). FitsEvent F g x) (sym (before_push h e i (omega (arith, here.0)))) (fitting i x here.1)
      | inr here ↦
          let whole : before (followed h e) i ≡ h = before_push h e i (omega (arith, here.0)) ∙ before_all h i (omega (arith, here.0)) in
          subst (λ (g : History). FitsEvent F g x) (sym whole) (subst (λ (y : Event). FitsEvent F h y) (sym here.1) ok)
    ]

fitting_if : (F : LabelValue → EndValue → Type 0) (realm : Realm) (e : Event) (b : Bool) → Fitting F realm.history → FitsEvent F realm.history e → Fitting F (if b then with_event realm e else realm).history
fitting_if F realm e true fitting ok = fitting_push F realm.history e fitting ok
fitting_if F realm e false fitting ok = fitting

-- a realm to which a command has added its event, or nothing
pub fitting_after : (F : LabelValue → EndValue → Type 0) (old new : Realm) (e : Event) (result : Result EventReply Refusal) → Fitting F old.history → FitsEvent F old.history e → new ≡ after_telling old e result → Fitting F new.history
fitting_after F old new e result fitting ok is =
    subst (λ (r : Realm). Fitting F r.history) (sym is) (fitting_if F old e (records result) fitting ok)

retiring_if : (F : LabelValue → EndValue → Type 0) (realm : Realm) (b : Bool) → Fitting F realm.history → Fitting F (if b then starting realm.limits (base_of realm.history) else realm).history
retiring_if F realm true fitting = fitting_at_start F (base_of realm.history)
retiring_if F realm false fitting = fitting

pub fitting_after_retiring : {A : Type 0} (F : LabelValue → EndValue → Type 0) (old new : Realm) (result : Result A Refusal) → Fitting F old.history → new ≡ after_retiring old result → Fitting F new.history
fitting_after_retiring F old new result fitting is =
    subst (λ (r : Realm). Fitting F r.history) (sym is) (retiring_if F old (is_ok result) fitting)
