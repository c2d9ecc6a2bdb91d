-- By what calls do, setters come to lag behind at most so far that they can be brought up.
use Rattle.std.proofs.Common.{[], ℕ, ◌&&◌, ◌++◌, ◌+◌, ◌<◌, ◌∙◌, ◌∷◌, ◌≡◌, Bool, Err, IfOk, List, None, Ok, Option, Result, Some, ap, append-nil, append_assoc, arith, cond, false, is_ok, is_some, length, length-append, map, nat_le}
use Rattle.std.proofs.Common.{nat_lt, not, refl, slice_get, subst, suc, sym, true, zero}
use Rattle.realm_lock.specs.{AddsSetter, AreBehind, AreMarks, Ask, Asked, CellValue, CloseReport, CoreValue, DidPerform, EndedThere, Event, EventReply, Happened, History, IsCellAt, IsLegal, Legal, Limits, MarksValue, NoScope}
use Rattle.realm_lock.specs.{Opening, Options, Origin, OwnerValue, Policy, RealmStep, Refusal, ReportedThere, Retired, Retirement, SetterValue, Stepped, Verdict, Words.Ends, advance, asked, end_step, followed, fresh, history_of}
use Rattle.realm_lock.specs.{history_seen, is_open, known_scope, next_scope, numbers, opening, records, refuse_if, scope_check, step_by, stepping}
use Rattle.realm_lock.proofs.Words.{beginning_legal, count_push, history-push, legal_history, open_told, opened_after, same_from_push}
use Rattle.realm_lock.proofs.CancelsGrow.{grows_by, grows_on, mark_there, marked, no_more}
use Rattle.scope_rules.specs.declared.types.events.Event.TheVariants as event
use Rattle.share_ledger.specs.declared.steps.Ask.TheVariants as ask
use Rattle.scope_checks.specs.declared.event_replies.EventReply.TheVariants as told

-- the step neither opens a scope nor lets any go
abbrev pub keeps_scopes : RealmStep → Bool
keeps_scopes (Happened e) = not (is_open e)
keeps_scopes (Asked actor q) = true
keeps_scopes Retirement = false

pub behind_now : (h : History) (marks : MarksValue) → AreMarks h marks → AreBehind h marks
behind_now h marks are = record {
  then = h;
  grows = no_more h;
  old = marks.setters;
  fresh = [];
  are = sym (append-nil marks.setters);
  were = are;
  unused = λ i x at. absurd cc;
  each = are.setters.each;
}

behind_event : (L : Limits) (h : History) (e : Event) (marks : MarksValue) → Legal L h → is_open e ≡ false → AreBehind h marks → AreBehind (followed h e) marks
behind_event L h e marks legal other behind = record {
  then = behind.then;
  grows = grows_on behind.then h (followed h e) behind.grows (grows_by L h e legal);
  old = behind.old;
  fresh = behind.fresh;
  are = behind.are;
  were = behind.were;
  unused = behind.unused;
  each = behind.each ∙ sym (count_push is_open h.events e ∙ rw other (omega arith));
}

asks_for_no_scope : (q : Ask) → is_open (asked q) ≡ false
asks_for_no_scope (ask.Cancel scope) = refl
asks_for_no_scope (ask.Move scope deadline) = refl
asks_for_no_scope (ask.Tick now) = refl

not_open : (b : Bool) → not b ≡ true → b ≡ false
not_open false is = refl
not_open true is = absurd cc

behind_step : (L : Limits) (h : History) (x : RealmStep) (marks : MarksValue) → Legal L h → keeps_scopes x ≡ true → AreBehind h marks → AreBehind (advance h x) marks
behind_step L h (Happened e) marks legal keeps behind = behind_event L h e marks legal (not_open (is_open e) keeps) behind
behind_step L h (Asked actor q) marks legal keeps behind = behind_event L h (asked q) marks legal (asks_for_no_scope q) behind
behind_step L h Retirement marks legal keeps behind = absurd cc

-- a call that added the step, or none
pub behind_stepped : (old new : CoreValue) (x : RealmStep) (recorded : Bool) (marks : MarksValue) → IsLegal old.limits old.steps → keeps_scopes x ≡ true → new ≡ stepping old x recorded → AreMarks (history_of old.steps) marks → AreBehind (history_of new.steps) marks
behind_stepped old new x true marks lawful keeps is are =
    let next = ap (λ (k : CoreValue). history_of k.steps) is ∙ history-push old.steps x in
    subst (λ (h : History). AreBehind h marks) (sym next) (behind_step old.limits (history_of old.steps) x marks (legal_history old.limits old.steps lawful) keeps (behind_now (history_of old.steps) marks are))
behind_stepped old new x false marks lawful keeps is are =
    subst (λ (k : CoreValue). AreBehind (history_of k.steps) marks) (sym is) (behind_now (history_of old.steps) marks are)

-- and one that added it
pub behind_added : (old new : CoreValue) (x : RealmStep) (marks : MarksValue) → IsLegal old.limits old.steps → keeps_scopes x ≡ true → new ≡ record old { steps = old.steps ++ x ∷ [] } → AreMarks (history_of old.steps) marks → AreBehind (history_of new.steps) marks
behind_added old new x marks lawful keeps is are = behind_stepped old new x true marks lawful keeps is are

-- the step of an event that opens no scope
pub step_keeps : (a : ℕ) (e : Event) → is_open e ≡ false → keeps_scopes (step_by a e) ≡ true
step_keeps a (event.Open actor policy options) other = absurd cc
step_keeps a (event.Cancel scope) other = refl
step_keeps a (event.Move scope deadline) other = refl
step_keeps a (event.Tick now) other = refl
step_keeps a (event.Fork actor scope label) other = refl
step_keeps a (event.Reject task) other = refl
step_keeps a (event.Start task) other = refl
step_keeps a (event.Finish task end) other = refl
step_keeps a (event.Bind actor pair) other = refl
step_keeps a (event.Unbind actor) other = refl
step_keeps a (event.Join actor scope) other = refl
step_keeps a (event.BeginClose actor scope) other = refl
step_keeps a (event.EndClose actor scope) other = refl

-- the ends of a close
behind_ends : (L : Limits) (a : ℕ) (ts : List ℕ) (old : List RealmStep) (marks : MarksValue) → IsLegal L (old ++ map (end_step a) ts) → AreBehind (history_of old) marks → AreBehind (history_of (old ++ map (end_step a) ts)) marks
behind_ends L a [] old marks lawful behind = subst (λ xs. AreBehind (history_of xs) marks) (sym (append-nil old)) behind
behind_ends L a (t ∷ ts) old marks lawful behind =
    let rest = map (end_step a) ts in
    let same : old ++ end_step a t ∷ rest ≡ (old ++ end_step a t ∷ []) ++ rest = sym (append_assoc old (end_step a t ∷ []) rest) in
    let legal = legal_history L old (beginning_legal L old (end_step a t ∷ rest) lawful) in
    let one = subst (λ (h : History). AreBehind h marks) (sym (history-push old (end_step a t))) (behind_step L (history_of old) (end_step a t) marks legal refl behind) in
    subst (λ xs. AreBehind (history_of xs) marks) (sym same) (behind_ends L a ts (old ++ end_step a t ∷ []) marks (subst (IsLegal L) same lawful) one)

pub behind_ended : (L : Limits) (a s : ℕ) (nested : List ℕ) (old new : CoreValue) (marks : MarksValue) → Ends L a s nested old.steps new.steps → AreMarks (history_of old.steps) marks → AreBehind (history_of new.steps) marks
behind_ended L a s nested old new marks ends are =
    subst (λ xs. AreBehind (history_of xs) marks) (sym ends.are) (behind_ends L a (nested ++ s ∷ []) old.steps marks (subst (IsLegal L) ends.are ends.legal) (behind_now (history_of old.steps) marks are))

-- an open, and the setter of its scope
pub behind_opened : (L : Limits) (h : History) (a : ℕ) (policy : Policy) (options : Options) (s : ℕ) (cell : CellValue) (marks now : MarksValue) → Legal L h → s ≡ next_scope h → AreMarks h marks → AddsSetter marks now s cell
    → AreBehind (followed h (event.Open a policy options)) now
behind_opened L h a policy options s cell marks now legal is are adds = record {
  then = h;
  grows = grows_by L h (event.Open a policy options) legal;
  old = marks.setters;
  fresh = adds.setter ∷ [];
  are = setters;
  were = record { setters = are.setters; order = are.order; ordered = are.ordered; counted = are.counted ∙ sym (ap (λ (v : MarksValue). v.marked) adds.is) };
  unused = unused;
  each = ap length setters ∙ (length-append marks.setters (adds.setter ∷ []) ∙ (omega (arith, are.setters.each, count_push is_open h.events (event.Open a policy options))));
}
  where
    setters : now.setters ≡ marks.setters ++ adds.setter ∷ []
    setters = ap (λ (v : MarksValue). v.setters) adds.is

    number : adds.setter.cell.scope ≡ h.base.scopes + 1 + length marks.setters + 0
    number = ap (λ (c : CellValue). c.scope) adds.cell_is ∙ (adds.of ∙ (is ∙ omega (arith, are.setters.each)))

    unused : (i : ℕ) (x : SetterValue) → slice_get (adds.setter ∷ []) i ≡ Some x → (x.cell.scope ≡ h.base.scopes + 1 + length marks.setters + i) × (x.used ≡ None)
    unused zero x at =
        let same : adds.setter ≡ x = cc at in
        subst (λ (y : SetterValue). (y.cell.scope ≡ h.base.scopes + 1 + length marks.setters + 0) × (y.used ≡ None)) same (number, adds.unused)
    unused (suc i) x at = absurd cc

-- what a hold left that ends a close, if it can end
pub behind_closed : (L : Limits) (a s : ℕ) (old new : CoreValue) (result : Option Verdict) (marks : MarksValue) → EndedThere L a s old new result → AreMarks (history_of old.steps) marks → AreBehind (history_of new.steps) marks
behind_closed L a s old new None marks it are = subst (λ (k : CoreValue). AreBehind (history_of k.steps) marks) (sym it) (behind_now (history_of old.steps) marks are)
behind_closed L a s old new (Some how) marks it are = behind_ended L a s it.0 old new marks it.1 are

-- and with a report
pub behind_reported : (L : Limits) (a s : ℕ) (old new : CoreValue) (result : Option (Result CloseReport Refusal)) (marks : MarksValue) → ReportedThere L a s old new result → AreMarks (history_of old.steps) marks → AreBehind (history_of new.steps) marks
behind_reported L a s old new None marks it are = subst (λ (k : CoreValue). AreBehind (history_of k.steps) marks) (sym it) (behind_now (history_of old.steps) marks are)
behind_reported L a s old new (Some (Err refusal)) marks it are = subst (λ (k : CoreValue). AreBehind (history_of k.steps) marks) (sym it) (behind_now (history_of old.steps) marks are)
behind_reported L a s old new (Some (Ok report)) marks it are = behind_ended L a s (numbers report.nested.items) old new marks it are

-- if no event is, there is no scope, and none is cancelled
marks_of_none : (b : Origin) (marks : MarksValue) → marks.setters ≡ [] → marks.marked ≡ 0 → AreMarks (record { base = b; events = [] }) marks
marks_of_none b marks none zeroed = record {
  setters = record { each = ap length none; own = λ i x at. absurd (let past = ap (λ l. slice_get l i) none in cc (past, at)) };
  order = [];
  ordered = record {
    all = λ s is. absurd (let m = mark_there (record { base = b; events = [] }) s is in let it = marked (record { base = b; events = [] }) s m.0 m.1 in let n = (opened_after (record { base = b; events = [] }) s it.opened it.is).1 in omega (arith, n));
    only = λ s there. absurd (let n = there.1 in omega (arith, n));
    ascends = λ i j d lt within. absurd (omega (arith, within));
  };
  counted = sym zeroed;
}

-- as a realm begins
pub marks_begin : (core : CoreValue) (marks : MarksValue) → core.steps ≡ [] → marks.setters ≡ [] → marks.marked ≡ 0 → AreMarks (history_of core.steps) marks
unfolding history_of
marks_begin core marks begins none zeroed = subst (λ xs. AreMarks (history_of xs) marks) (sym begins) (marks_of_none fresh.base marks none zeroed)

-- as it is retired
pub marks_retired : (result : Result Origin Refusal) (core : CoreValue) (token : OwnerValue) (marks : MarksValue) → is_ok result ≡ true → core.steps ≡ token.seen → IfOk result (λ b. history_seen token ≡ record { base = b; events = [] })
    → marks.setters ≡ [] → marks.marked ≡ 0 → AreMarks (history_of core.steps) marks
marks_retired (Ok b) core token marks ok same is none zeroed = subst (λ (h : History). AreMarks h marks) (sym (ap history_of same ∙ is)) (marks_of_none b marks none zeroed)
marks_retired (Err refusal) core token marks ok same is none zeroed = absurd cc

-- a scope that is there has the place of one of the setters
pub scope_place : (h : History) (s : ℕ) (marks : MarksValue) → AreMarks h marks → scope_check h s ≡ Ok tt → (i : ℕ) × (i < length marks.setters) × (h.base.scopes + 1 + i ≡ s)
unfolding known_scope
scope_place h s marks are ok = by (opening h s) refl
  where
    found : (b : Bool) → cond b (Err Retired) (refuse_if true NoScope) ≡ Ok tt → ⊥
    found true is = absurd cc
    found false is = absurd cc

    by : (o : Option Opening) → opening h s ≡ o → (i : ℕ) × (i < length marks.setters) × (h.base.scopes + 1 + i ≡ s)
    by None none = absurd (found (nat_lt 0 s && nat_le s h.base.scopes) (let passed = ap (λ x. cond (nat_lt 0 s && nat_le s h.base.scopes) (Err Retired) (refuse_if (not (is_some x)) NoScope)) (sym none) ∙ ok in passed))
    by (Some o) is = let it = opened_after h s o is in (it.0, omega (arith, it.1, are.setters.each), it.2)

-- and its cell is that of the setter there
pub cell_there : (h : History) (s i : ℕ) (marks : MarksValue) (cell : CellValue) → AreMarks h marks → h.base.scopes + 1 + i ≡ s → IsCellAt marks.setters i cell → cell.scope ≡ s
cell_there h s i marks cell are place it = ap (λ (c : CellValue). c.scope) it.2 ∙ ((are.setters.own i it.0 it.1).of ∙ place)

-- an open that was accepted, whose setter was added
pub behind_open : (old new : CoreValue) (token before : OwnerValue) (a : ℕ) (policy : Policy) (options : Options) (result : Result EventReply Refusal) (t : EventReply) (s : ℕ) (cell : CellValue) (marks now : MarksValue)
    → IsLegal old.limits old.steps → result ≡ Ok t → t ≡ told.Scope s → Stepped old new token (Happened (event.Open a policy options)) (records result) → DidPerform before token (event.Open a policy options) (Ok t)
    → AreMarks (history_of old.steps) marks → AddsSetter marks now s cell → AreBehind (history_of new.steps) now
behind_open old new token before a policy options result t s cell marks now lawful is told_is stepped did are adds =
    let x = Happened (event.Open a policy options) in
    let recorded : records result ≡ true = ap records (is ∙ ap Ok told_is) in
    let steps : new.steps ≡ old.steps ++ x ∷ [] = ap (λ (k : CoreValue). k.steps) (stepped.1 ∙ ap (stepping old x) recorded) in
    let accepted = open_told before token a policy options s (subst (λ (y : EventReply). DidPerform before token (event.Open a policy options) (Ok y)) told_is did) in
    let there : accepted.adds.there ≡ old.steps = (same_from_push accepted.adds.there old.steps x x (sym accepted.adds.is ∙ (sym (ap (λ (k : CoreValue). k.steps) stepped.0) ∙ steps))).0 in
    let number : s ≡ next_scope (history_of old.steps) = accepted.replied ∙ ap (λ xs. next_scope (history_of xs)) there in
    let behind = behind_opened old.limits (history_of old.steps) a policy options s cell marks now (legal_history old.limits old.steps lawful) number are adds in
    subst (λ (h : History). AreBehind h now) (sym (ap history_of steps ∙ history-push old.steps x)) behind

-- more room changes no mark
pub same_marks : {h : History} (marks now : MarksValue) → now ≡ record marks { room = now.room } → AreMarks h marks → AreMarks h now
same_marks {h} marks now is are = subst (AreMarks h) (sym is) (record { setters = are.setters; order = are.order; ordered = are.ordered; counted = are.counted })
