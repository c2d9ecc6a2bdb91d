-- What was told of the moment stays told.
use Rattle.std.specs.Prelude.{◌++◌, ◌∷◌, ◌≡◌, ◌≤◌}
use Rattle.quote_gateway.specs.{[], ℕ, Accepts, Ask, Asked, EndClose, EndsScope, Err, Event, GoesOn, History, IsOpenHere, IsOpenOf, IsSome, IsTold, KeepsTasks, Limits, List, None}
use Rattle.quote_gateway.specs.{OnOk, Option, OwnerValue, Pulsed, RealmStep, Result, Some, ended, followed, history_of, history_seen, moment, row_check, shapes}
use Rattle.quote_gateway.proofs.Words.{◌∙◌, Ok, ap, arith, checks_at, history_ended, ltb-false, moment_grows, not_refused, refl}
use Rattle.scope_rules.specs.declared.types.events.Event.TheVariants.{Tick}
use Rattle.quote_gateway.proofs.Going.{history_added, shapes_find, walked}

-- a tick that is accepted is not back
not_back : (L : Limits) (h : History) (now : ℕ) → Accepts L h (Tick now) → moment h ≤ now
unfolding row_check
not_back L h now ok = ltb-false now (moment h) (not_refused _ _ (checks_at _ 0 _ ok.passed refl))

-- so the moment never falls
moment_later : (L : Limits) (h : History) (e : Event) → Accepts L h e → moment h ≤ moment (followed h e)
moment_later L h (Tick now) ok = let grown : moment (followed h (Tick now)) ≡ now = moment_grows h (Tick now) in omega (arith, not_back L h now ok, grown)
moment_later L h e ok = let grown : moment (followed h e) ≡ moment h = moment_grows h e in omega (arith, grown)

come_going : (L : Limits) (a s now : ℕ) (old new : List RealmStep) → GoesOn L (shapes a) old new → IsOpenOf (history_of old) a s → now ≤ moment (history_of old) → now ≤ moment (history_of new)
come_going L a s now old new on it told =
    (walked L a s (shapes a) (shapes_find a) (λ h. now ≤ moment h) (λ h e legal was ok none so. omega (arith, so, moment_later L h e ok)) old new on it told).1

-- an end of a close leaves it
moment_ended : (h : History) (a : ℕ) (ts : List ℕ) → moment (ended h a ts) ≡ moment h
moment_ended h a [] = refl
moment_ended h a (t ∷ ts) = moment_ended (followed h (EndClose a t)) a ts ∙ moment_grows h (EndClose a t)

-- what the clock read is told by the pulse
tick_told : (old new : OwnerValue) (now : ℕ) (h : History) → history_seen new ≡ followed h (Tick now) → now ≤ moment (history_seen new)
tick_told old new now h is =
    let grown : moment (followed h (Tick now)) ≡ now = moment_grows h (Tick now) in
    omega (arith, ap moment is, grown)

pub pulse_told : (old new : OwnerValue) (reading : Option ℕ) (moment_told : ℕ) → IsSome reading → Pulsed old new reading (Ok moment_told) → IsTold (history_seen new) reading
pulse_told old new None told read it = absurd cc
pulse_told old new (Some now) told read it =
    let adds = it.1.adds in
    tick_told old new now (history_of adds.there) (history_added old.limits old.actor old.seen new.seen (Asked old.actor (Ask.Tick now)) adds)

-- and stays so
pub told_still : (old new : OwnerValue) (s : ℕ) (reading : Option ℕ) → KeepsTasks old new → IsOpenHere old s → IsTold (history_seen old) reading → IsTold (history_seen new) reading
told_still old new s None on here told = absurd told
told_still old new s (Some now) on here told = come_going old.limits old.actor s now old.seen new.seen on here.of told

come_over : (old new : OwnerValue) (s now : ℕ) → EndsScope old new s → IsOpenHere old s → now ≤ moment (history_seen old) → now ≤ moment (history_seen new)
come_over old new s now ends here told =
    let there = come_going old.limits old.actor s now old.seen ends.before ends.goes here.of told in
    let is = history_ended old.actor ends.before new.seen (ends.nested ++ s ∷ []) ends.ends.are in
    omega (arith, there, ap moment is, moment_ended (history_of ends.before) old.actor (ends.nested ++ s ∷ []))

-- when the scope is closed too
pub told_over : (old new : OwnerValue) (s : ℕ) (reading : Option ℕ) → EndsScope old new s → IsOpenHere old s → IsTold (history_seen old) reading → IsTold (history_seen new) reading
told_over old new s None ends here told = absurd told
told_over old new s (Some now) ends here told = come_over old new s now ends here told

pub on_ok_so : {A E : Type 0} (P : Type 0) (result : Result A E) → P → OnOk result P
on_ok_so P (Ok x) so = so
on_ok_so P (Err e) so = tt

pub on_ok_then : {A E : Type 0} (P Q : Type 0) (result : Result A E) → (P → Q) → OnOk result P → OnOk result Q
on_ok_then P Q (Ok x) on so = on so
on_ok_then P Q (Err e) on so = tt
