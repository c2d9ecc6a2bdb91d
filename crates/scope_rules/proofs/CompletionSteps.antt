-- What one event more makes of the completions of a scope.
use Rattle.std.proofs.Common.{[], ℕ, ◌++◌, ◌∙◌, ◌∷◌, ◌≡◌, List, None, Option, Some, ap, cond, refl, slice_get, suc}
use Rattle.scope_rules.specs.{Accepts, Event, Finish, Forking, History.History, Legal.Legal, Limits, before, completion_of, completions, cons_option, filter_map, followed, forking, is_task_of}
use Rattle.scope_rules.proofs.{Completions.filter_map-push, Earlier.forking_since, Forkings.IsForked, Growing.forking_stays, PassedRows.finish_passed, Stages.running_forked}

filter_map_same : {B : Type 0} (f g : Event → Option B) (es : List Event) → ((i : ℕ) (e : Event) → slice_get es i ≡ Some e → f e ≡ g e) → filter_map f es ≡ filter_map g es
filter_map_same f g [] same = refl
filter_map_same f g (e ∷ es) same = rw (same 0 e refl) (ap (cons_option (g e)) (filter_map_same f g es (λ i x at. same (suc i) x at)))

-- whether a forked task is one of a scope stays
pub is_task_stays : (h : History) (e : Event) (s k : ℕ) (f : Forking) → forking h k ≡ Some f → is_task_of (followed h e) s k ≡ is_task_of h s k
unfolding is_task_of
is_task_stays h e s k f is = rw (forking_stays h e k f is) (rw is refl)

-- what ended was forked
ended_forked : (L : Limits) (h : History) (i k : ℕ) (end : _) → Accepts L (before h i) (Finish k end) → IsForked h k
ended_forked L h i k end ok =
    let it = running_forked (before h i) k (finish_passed L (before h i) k end ok).runs in
    record { forked = it.forked; is = forking_since h k i it.forked it.is }

completion_stays : (L : Limits) (h : History) (more : Event) (s i : ℕ) (e : Event) → Legal L h → slice_get h.events i ≡ Some e → completion_of (followed h more) s e ≡ completion_of h s e
unfolding Legal
completion_stays L h more s i (Finish k end) legal at =
    let it = ended_forked L h i k end (legal i (Finish k end) at) in
    ap (λ b. cond b (Some (record { task = k; end = end })) None) (is_task_stays h more s k it.forked it.is)
completion_stays L h more s i _ legal at = refl

-- the completions of a scope go on with the event's, if it ends a task of the scope
pub completions_grow : (L : Limits) (h : History) (e : Event) (s : ℕ) → Legal L h → completions (followed h e) s ≡ completions h s ++ cons_option (completion_of (followed h e) s e) []
unfolding completions
completions_grow L h e s legal =
    filter_map-push (completion_of (followed h e) s) h.events e
    ∙ ap (λ ds. ds ++ cons_option (completion_of (followed h e) s e) []) (filter_map_same (completion_of (followed h e) s) (completion_of h s) h.events (λ i x at. completion_stays L h e s i x legal at))
