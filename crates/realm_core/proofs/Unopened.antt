-- An actor's innermost scope is moved by nobody else; so the end of a task that has none is not refused.
use Rattle.std.proofs.Common.{[], ℕ, ◌==◌, ◌∙◌, ◌≡◌, ◌≢◌, List, None, Ok, Option, Some, arith, false, refl, sym}
use Rattle.realm_core.specs.{Accepts, Agrees, Ask, Asked, EndClose, EndValue, Event, Finish, Happened, History, IsLegal, Legal, Limits, Open, Origin, Passes, RealmStep, Retirement, Running, TokenOf, advance, asked, base_of}
use Rattle.realm_core.specs.{check_of, checks, closed, followed, history_of, innermost, is_own, row_check, stage, then_check}
use Rattle.realm_core.proofs.Words.{both_ways, eq-eqb, innermost_end_other, innermost_is_none, innermost_open_other, innermost_same, innermost_unclosed, nothing_open, opened_after, retired_without_scopes, running_forked}
use Rattle.realm_core.proofs.Words.{task_passes}
use Rattle.realm_core.proofs.Others.{still}
use Rattle.share_ledger.specs.declared.steps.Ask.TheVariants as ask

another : (b a : ℕ) → (b == a) ≡ false → b ≢ a
another b a other same = both_ways (b == a) other (eq-eqb b a same)

-- no event of another's moves it
same_event : (L : Limits) (h : History) (a : ℕ) (e : Event) → Accepts L h e → is_own (TokenOf a) (Happened e) ≡ false → innermost (followed h e) a ≡ innermost h a
same_event L h a (Open b policy options) ok other = innermost_open_other h a b policy options (another b a other)
same_event L h a (EndClose b s) ok other = innermost_end_other L h a b s ok (another b a other)
same_event L h a e ok other = innermost_same h e a refl (λ s. refl)

same_asked : (h : History) (a : ℕ) (q : Ask) → innermost (followed h (asked q)) a ≡ innermost h a
same_asked h a (ask.Cancel scope) = innermost_same h (asked (ask.Cancel scope)) a refl (λ s. refl)
same_asked h a (ask.Move scope deadline) = innermost_same h (asked (ask.Move scope deadline)) a refl (λ s. refl)
same_asked h a (ask.Tick now) = innermost_same h (asked (ask.Tick now)) a refl (λ s. refl)

-- a retirement finds no scope open
none_retired : (L : Limits) (h : History) (a : ℕ) (i : Option ℕ) → Legal L h → Passes L h Retirement → innermost h a ≡ i → i ≡ None
none_retired L h a None legal ok is = refl
none_retired L h a (Some s) legal ok is =
    let own = innermost_unclosed h a s is in
    absurd (both_ways (closed h s) own.unclosed (nothing_open L h s own.opened legal (retired_without_scopes h ok) own.is))

-- and leaves none
none_fresh : (b : Origin) (a : ℕ) → innermost (record { base = b; events = [] }) a ≡ None
none_fresh b a =
    innermost_is_none (record { base = b; events = [] }) a
    (λ t o is by.
    let it = opened_after (record { base = b; events = [] }) t o is in
    absurd (omega (arith, it.1)))

same_step : (L : Limits) (a : ℕ) (i : Option ℕ) (h : History) (x : RealmStep) → Legal L h → innermost h a ≡ i → Passes L h x → is_own (TokenOf a) x ≡ false → innermost (advance h x) a ≡ i
same_step L a i h (Happened e) legal is ok other = same_event L h a e ok other ∙ is
same_step L a i h (Asked actor q) legal is ok other = same_asked h a q ∙ is
same_step L a i h Retirement legal is ok other = none_fresh (base_of h) a ∙ sym (none_retired L h a i legal ok is)

-- an actor's innermost scope is the same, whatever others do
pub innermost_still : (L : Limits) (a : ℕ) (old new : List RealmStep) → Agrees (TokenOf a) old new → IsLegal L new → innermost (history_of new) a ≡ innermost (history_of old) a
innermost_still L a old new agrees lawful =
    let i = innermost (history_of old) a in
    still L a (λ h. innermost h a ≡ i) (same_step L a i) old new agrees lawful refl

-- the end of a task that runs and has no open scope
pub may_finish : (L : Limits) (h : History) (k : ℕ) (end : EndValue) → stage h k ≡ Running → innermost h k ≡ None → check_of L h (Finish k end) ≡ Ok tt
unfolding row_check checks then_check
may_finish L h k end runs none =
    let it = running_forked h k (rw runs refl) in
    rw (task_passes h k it.forked it.is, runs, none) refl
