-- The events that the plain evaluator keeps stay the history's.
use Rattle.std.specs.Prelude.{◌++◌, ◌+◌, ◌<◌, ◌∷◌, ◌≡◌, ◌≤◌}
use Rattle.scope_model.specs.{[], ℕ, Accepts, AnswersOrMemory, AreEventsOf, Checked, Event, Words.History, JournalTable, Words.Legal, Limits, List, Ok, Words.Origin, Realm}
use Rattle.scope_model.specs.{Refusal, base_check, base_of, length, load, realm_given, starting, weight, with_event}
use Rattle.scope_model.proofs.Words.{◌∙◌, Err, Result, ap, arith, event_paid, inl, inr, load_push, stack_within, subst, sym}

base_load : (b : Origin) → load (record { base = b; events = [] }) ≡ length b.binds
unfolding load
base_load b = omega arith

-- a base alone has no events
pub events_start : (r : Realm) (L : Limits) (b : Origin) (events : List Event) (capacity : ℕ) → r ≡ starting L b → events ≡ [] → length b.binds ≤ capacity → AreEventsOf r.history events capacity
events_start r L b events capacity fresh none enough =
    subst (λ (s : Realm). AreEventsOf s.history events capacity) (sym fresh) (record { same = none; room = omega (arith, base_load b, enough) })

-- one event more
pub events_more : (r s : Realm) (e : Event) (events more : List Event) (before capacity : ℕ) → AreEventsOf r.history events before → s ≡ with_event r e → more ≡ events ++ e ∷ [] → load r.history + weight e ≤ capacity → AreEventsOf s.history more capacity
events_more r s e events more before capacity are next added enough =
    subst (λ (t : Realm). AreEventsOf t.history more capacity) (sym next) (record {
      same = added ∙ ap (λ es. es ++ e ∷ []) are.same;
      room = omega (arith, load_push r.history e, enough);
    })

-- more room
pub events_roomier : (h : History) (events same : List Event) (before capacity : ℕ) → AreEventsOf h events before → same ≡ events → before ≤ capacity → AreEventsOf h same capacity
events_roomier h events same before capacity are is more = record { same = is ∙ are.same; room = omega (arith, are.room, more) }

-- an accepted event finds room, with room for the load
pub event_fits : (L : Limits) (h : History) (e : Event) (events : List Event) (before capacity : ℕ) → Legal L h → Accepts L h e → AreEventsOf h events before → load h + weight e ≤ capacity → length events < capacity
event_fits L h e events before capacity legal ok are enough = omega (arith, event_paid L h e legal ok, load_push h e, ap length are.same, enough)

-- the base that a history leaves has no more pairs than the history's load
pub base_fits : (h : History) (events : List Event) (capacity : ℕ) → AreEventsOf h events capacity → length (base_of h).binds ≤ capacity
unfolding base_of
base_fits h events capacity are = omega (arith, stack_within h, are.room)

answered : (check : Checked) (value r : Realm) (result : Result Realm Refusal) → AnswersOrMemory check value result → result ≡ Ok r → r ≡ value
answered (Ok done) value r result (inl same) is = cc
answered (Ok done) value r result (inr memory) is = absurd cc
answered (Err refusal) value r result refused is = absurd cc

-- a realm that was made of a base begins with it
pub made_start : (L : Limits) (b : Origin) (made : Result JournalTable Refusal) (j : JournalTable) → AnswersOrMemory (base_check L b) (starting L b) (realm_given made) → made ≡ Ok j → j.realm ≡ starting L b
made_start L b made j answers is = answered (base_check L b) (starting L b) j.realm (realm_given made) answers (ap realm_given is)
