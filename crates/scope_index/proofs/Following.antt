-- What is kept follows each event, part by part.
use Rattle.std.proofs.Common.{ℕ, ◌+◌, ◌∙◌, ◌≡◌, ◌≤◌, ap, arith, false, length, slice_get, subst, sym, true}
use Rattle.scope_index.specs.{Accepts, AreAlike, AreCancelsOf, AreDeadlinesOf, AreEnvsOf, AreForksOf, AreRowsOf, CancelTable, Event, HasApplied, HasAppliedAt, HasRoomForEnds, History, IndexTable, IndexTables.forks_in, IsIndexOf}
use Rattle.scope_index.specs.{IsReadyAt, IsReadyFor, Legal, Limits, followed, forks_of, moves_deadlines, moves_envs, moves_forks}
use Rattle.scope_index.proofs.Words.{count_same, deadlines_stay, envs_stay}
use Rattle.scope_index.proofs.{Alike.alike, EventSteps.cancels_stay, EventSteps.leaves_cancels, ForkSteps.forks_stay}

-- parts of one history are alike
pub kept_alike : (h : History) (t : IndexTable) → IsIndexOf h t → AreAlike t.rows t.cancels t.envs t.forks t.deadlines
kept_alike h t kept = alike h t.rows t.cancels t.envs t.forks t.deadlines kept.rows kept.cancels kept.envs kept.forks kept.deadlines

-- what followed an event has parts that are alike
pub alike_next : (old new : IndexTable) (e : Event) → IsReadyFor old e → HasApplied old e new → AreAlike new.rows new.cancels new.envs new.forks new.deadlines
alike_next old new e ready next = kept_alike (followed ready.history e) new (next ready.limits ready.history ready.legal ready.accepted ready.kept)

pub alike_next_at : (old new : IndexTable) (e : Event) (place : ℕ) → IsReadyAt old e place → HasAppliedAt old e place new → AreAlike new.rows new.cancels new.envs new.forks new.deadlines
alike_next_at old new e place ready next = kept_alike (followed ready.0.history e) new (next ready.0.limits ready.0.history ready.0.legal ready.0.accepted ready.0.kept ready.1)

-- an event that forks none leaves the room of the same accounts
pub room_stays : (h : History) (e : Event) (old new : CancelTable) → HasRoomForEnds h old → new.before ≡ old.before → new.accounts ≡ old.accounts → ((s : ℕ) → forks_in s e ≡ false) → HasRoomForEnds (followed h e) new
room_stays h e old new room before accounts none i a at listed =
    let was : forks_of h (old.before + 1 + i) ≤ length a.seen + a.room = room i a (sym (ap (λ xs. slice_get xs i) accounts) ∙ at) listed in
    let same : forks_of (followed h e) (old.before + 1 + i) ≡ forks_of h (old.before + 1 + i) = count_same (forks_in (old.before + 1 + i)) h e (none (old.before + 1 + i)) in
    subst (λ b. forks_of (followed h e) (b + 1 + i) ≤ length a.seen + a.room) (sym before) (omega (arith, was, same))

-- an event that leaves cancels, environments, forks and own deadlines: what is kept follows it if its rows do
pub rows_follow : (old new : IndexTable) (e : Event) → leaves_cancels e ≡ true → moves_envs e ≡ false → moves_forks e ≡ false → moves_deadlines e ≡ false → ((s : ℕ) → forks_in s e ≡ false) → new.cancels ≡ old.cancels → new.envs ≡ old.envs → new.forks ≡ old.forks → new.deadlines ≡ old.deadlines
    → ((L : Limits) (h : History) → Legal L h → Accepts L h e → AreRowsOf h old.rows → AreRowsOf (followed h e) new.rows) → HasApplied old e new
rows_follow old new e leaves still kept_forks kept_deadlines none cancels envs forks deadlines rows L h legal ok kept = record {
  rows = rows L h legal ok kept.rows;
  cancels = subst (AreCancelsOf (followed h e)) (sym cancels) (cancels_stay L h e old.cancels legal kept.cancels leaves);
  envs = subst (AreEnvsOf (followed h e)) (sym envs) (envs_stay h e old.envs still kept.envs);
  forks = subst (AreForksOf (followed h e)) (sym forks) (forks_stay h e old.forks kept_forks kept.forks);
  deadlines = subst (AreDeadlinesOf (followed h e)) (sym deadlines) (deadlines_stay h e old.deadlines kept_deadlines kept.deadlines);
  room = room_stays h e old.cancels new.cancels kept.room (ap (λ (t : CancelTable). t.before) cancels) (ap (λ (t : CancelTable). t.accounts) cancels) none;
}

-- an event that moves cancels, and perhaps own deadlines: what is kept follows it if these do, with the same accounts
pub cancels_follow : (old new : IndexTable) (e : Event) (place : ℕ) → moves_envs e ≡ false → moves_forks e ≡ false → ((s : ℕ) → forks_in s e ≡ false) → new.rows ≡ old.rows → new.envs ≡ old.envs → new.forks ≡ old.forks → new.cancels.accounts ≡ old.cancels.accounts
    → ((h : History) → AreDeadlinesOf h old.deadlines → AreDeadlinesOf (followed h e) new.deadlines)
    → ((L : Limits) (h : History) → Legal L h → AreRowsOf h old.rows → AreRowsOf (followed h e) old.rows)
    → ((L : Limits) (h : History) → Legal L h → Accepts L h e → AreCancelsOf h old.cancels → place ≡ length h.events → AreCancelsOf (followed h e) new.cancels) → HasAppliedAt old e place new
cancels_follow old new e place still kept_forks none rows envs forks accounts deadlines stay cancels L h legal ok kept at =
    let next = cancels L h legal ok kept.cancels at in
    record {
      rows = subst (AreRowsOf (followed h e)) (sym rows) (stay L h legal kept.rows);
      cancels = next;
      envs = subst (AreEnvsOf (followed h e)) (sym envs) (envs_stay h e old.envs still kept.envs);
      forks = subst (AreForksOf (followed h e)) (sym forks) (forks_stay h e old.forks kept_forks kept.forks);
      deadlines = deadlines h kept.deadlines;
      room = room_stays h e old.cancels new.cancels kept.room (next.numbered ∙ sym kept.cancels.numbered) accounts none;
    }

-- an event that moves environments alone, and forks none: what is kept follows it if they do
pub envs_follow : (old new : IndexTable) (e : Event) → leaves_cancels e ≡ true → moves_forks e ≡ false → moves_deadlines e ≡ false → ((s : ℕ) → forks_in s e ≡ false) → new.rows ≡ old.rows → new.cancels ≡ old.cancels → new.forks ≡ old.forks → new.deadlines ≡ old.deadlines
    → ((L : Limits) (h : History) → Legal L h → AreRowsOf h old.rows → AreRowsOf (followed h e) old.rows)
    → ((h : History) → AreEnvsOf h old.envs → AreEnvsOf (followed h e) new.envs) → HasApplied old e new
envs_follow old new e leaves kept_forks kept_deadlines none rows cancels forks deadlines stay envs L h legal ok kept = record {
  rows = subst (AreRowsOf (followed h e)) (sym rows) (stay L h legal kept.rows);
  cancels = subst (AreCancelsOf (followed h e)) (sym cancels) (cancels_stay L h e old.cancels legal kept.cancels leaves);
  envs = envs h kept.envs;
  forks = subst (AreForksOf (followed h e)) (sym forks) (forks_stay h e old.forks kept_forks kept.forks);
  deadlines = subst (AreDeadlinesOf (followed h e)) (sym deadlines) (deadlines_stay h e old.deadlines kept_deadlines kept.deadlines);
  room = room_stays h e old.cancels new.cancels kept.room (ap (λ (t : CancelTable). t.before) cancels) (ap (λ (t : CancelTable). t.accounts) cancels) none;
}
