-- What a close with a report comes to in a context, once it has begun.
use Rattle.std.proofs.Common.{ℕ, ◌≡◌, ◌⊎◌, Err, IfErr, IfOk, List, MatchResult, Ok, Result, inl, inr}
use Rattle.job_runner.specs.{CloseReport, ClosesHere, EndsOwn, Held, JoinsHere, Memory, NotReady, OwnerValue, Refusal, StaysHere, TeamValue, TicketValue}

pub comes_here : (old begun new : OwnerValue) (s : ℕ) (team joined left : TeamValue) (result : Result CloseReport Refusal) → JoinsHere old begun s team joined → IfOk result (λ report. EndsOwn s joined.returned begun new report) → IfErr result (λ refusal. Held s joined.returned left.returned begun new refusal) → left.running ≡ joined.running
    → MatchResult result (λ report. ClosesHere old new s team report) (λ refusal. StaysHere old new s team left refusal)
comes_here old begun new s team joined left (Ok report) here ends held running = record { begun = begun; joined = joined; here = here; ends = ends }
comes_here old begun new s team joined left (Err refusal) here ends held running = inr (record { begun = begun; joined = joined; here = here; held = held; running = running })

held_for : (s : ℕ) (returned kept : List TicketValue) (begun new : OwnerValue) (refusal : Refusal) → Held s returned kept begun new refusal → (refusal ≡ NotReady) ⊎ (refusal ≡ Memory)
held_for s returned kept begun new refusal (inl held) = elim held.holds.still.why [ inl why ↦ inl why.0 | inr why ↦ inr why.0 ]
held_for s returned kept begun new refusal (inr held) = inr held.1

pub held_why : (s : ℕ) (returned kept : List TicketValue) (begun new : OwnerValue) (result : Result CloseReport Refusal) → IfErr result (λ refusal. Held s returned kept begun new refusal) → IfErr result (λ refusal. (refusal ≡ NotReady) ⊎ (refusal ≡ Memory))
held_why s returned kept begun new (Ok report) held = tt
held_why s returned kept begun new (Err refusal) held = held_for s returned kept begun new refusal held

-- one half of what is said of a result, beside what is so in any case
pub if_ok_beside : {A E : Type 0} (So : Type 0) (P : A → Type 0) (Q : E → Type 0) (result : Result A E) → So → MatchResult result P Q → IfOk result (λ x. So × P x)
if_ok_beside So P Q (Ok x) so it = (so, it)
if_ok_beside So P Q (Err e) so it = tt

pub if_err_beside : {A E : Type 0} (So : Type 0) (P : A → Type 0) (Q : E → Type 0) (result : Result A E) → So → MatchResult result P Q → IfErr result (λ e. So × Q e)
if_err_beside So P Q (Ok x) so it = tt
if_err_beside So P Q (Err e) so it = (so, it)
