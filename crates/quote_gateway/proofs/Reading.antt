-- How the states of a request's tasks are read, once its scope is joined.
use Rattle.std.specs.Prelude.{if◌then◌else◌, ◌++◌, ◌+◌, ◌<◌, ◌∷◌, ◌≡◌}
use Rattle.quote_gateway.specs.{[], ℕ, Bool, Checked, Err, HasForked, HasJoined, History, IsOpenHere, IsTaskHere, Joined, Joins, KeepsTasks, LabelValue, List, Looked, Outcome}
use Rattle.quote_gateway.specs.{OwnerValue, Refusal, Result, SeesMore, Some, State, TaskState, answering, entry_in, false, history_seen, is_task_of, listing_by, outcome, shapes, slice_index_or, state}
use Rattle.quote_gateway.specs.{task_check, task_numbers, tasks_of, true}
use Rattle.quote_gateway.proofs.Words.{◌∙◌, Ok, ap, filter_passes, legal_history, length, map-append, subst, sym, take, take-map, take_more, task_passes, task_there}
use Rattle.quote_gateway.proofs.Following.{Follows, listing_joined, outcome_after, task_after, tasks_joined}
use Rattle.quote_gateway.proofs.{Asking.forked_still, Asking.here_still, Ending.follows_going, Going.looked, Going.shapes_find, Turned.join_keeps}

-- which of two it is
pub chosen : {A : Type 0} (b : Bool) (new one other : A) → new ≡ (if b then one else other) → b ≡ true → new ≡ one
chosen true new one other is so = is
chosen false new one other is so = absurd cc

-- ---- one state

-- a task of an open scope is known, whatever others did
pub task_known : (old new : OwnerValue) (s k : ℕ) → Looked old new → IsTaskHere old s k → task_check (history_seen new) k ≡ Ok tt
task_known old new s k looks it =
    let on = looked old.limits old.actor old.seen new.seen looks.1 in
    let follows = follows_going old.limits old.actor s (shapes old.actor) old.seen new.seen (shapes_find old.actor) on it.here.of in
    let task = task_there (history_seen new) s k (task_after (history_seen old) (history_seen new) s k follows it.of) in
    task_passes (history_seen new) k task.forked task.is

pub never_refused : (check : Checked) (value : State) (result : Result State Refusal) (refusal : Refusal) → check ≡ Ok tt → result ≡ answering check value → result ≡ Err refusal → ⊥
never_refused (Ok done) value result refusal passed is err = cc
never_refused (Err r) value result refusal passed is err = absurd cc

pub read_is : (check : Checked) (value : State) (result : Result State Refusal) (read : State) → check ≡ Ok tt → result ≡ answering check value → result ≡ Ok read → read ≡ value
read_is (Ok done) value result read passed is so = cc
read_is (Err r) value result read passed is so = absurd cc

-- ---- all of them

pub follows_still : (old new : OwnerValue) (s : ℕ) → KeepsTasks old new → IsOpenHere old s → Follows (history_seen old) (history_seen new)
follows_still old new s on here = follows_going old.limits old.actor s (shapes old.actor) old.seen new.seen (shapes_find old.actor) on here.of

-- a join joins the scope, and leaves its tasks
pub joined_here : (old new : OwnerValue) (s : ℕ) (ls : List LabelValue) (ks : List ℕ) (joined : Joined) → Joins old new s (Ok joined) → HasForked old s ls ks → HasJoined new s ks
joined_here old new s ls ks joined it was =
    let next = forked_still old new s ls ks it.0 (join_keeps old new s (Ok joined) it) was in
    record { here = next.here; are = next.are; came = joined.outcome; joined = it.1.1.decided }

-- a joined scope stays so
pub joined_still : (old new : OwnerValue) (s : ℕ) (ks : List ℕ) → SeesMore old new → KeepsTasks old new → HasJoined old s ks → HasJoined new s ks
joined_still old new s ks same on it =
    let g = history_seen old in
    let h = history_seen new in
    let follows = follows_still old new s on it.here in
    record {
      here = here_still old new s same on it.here;
      are = tasks_joined old.limits g h s it.came (legal_history old.limits old.seen it.here.legal) (legal_history old.limits new.seen on.legal) follows it.joined ∙ it.are;
      came = it.came;
      joined = outcome_after g h s it.came follows it.joined;
    }

pub outcome_still : (old new : OwnerValue) (s : ℕ) (o : Outcome) → KeepsTasks old new → IsOpenHere old s → outcome (history_seen old) s ≡ Some o → outcome (history_seen new) s ≡ Some o
outcome_still old new s o on here is = outcome_after (history_seen old) (history_seen new) s o (follows_still old new s on here) is

-- and its tasks keep their states
listing_still : (old new : OwnerValue) (s : ℕ) (ks : List ℕ) → SeesMore old new → KeepsTasks old new → HasJoined old s ks → listing_by (state (history_seen new)) ks ≡ listing_by (state (history_seen old)) ks
listing_still old new s ks same on it =
    let g = history_seen old in
    let h = history_seen new in
    let next = joined_still old new s ks same on it in
    ap (listing_by (state h)) (sym next.are)
    ∙ (listing_joined old.limits g h s it.came (legal_history old.limits old.seen it.here.legal) (legal_history old.limits new.seen on.legal) (follows_still old new s on it.here) it.joined ∙ ap (listing_by (state g)) it.are)

-- so do the first of them
pub front_still : (old new : OwnerValue) (s i : ℕ) (ks : List ℕ) → SeesMore old new → KeepsTasks old new → HasJoined old s ks → listing_by (state (history_seen new)) (take i ks) ≡ listing_by (state (history_seen old)) (take i ks)
front_still old new s i ks same on it =
    let f : ℕ → TaskState = λ k. entry_in k (state (history_seen new) k) in
    let e : ℕ → TaskState = λ k. entry_in k (state (history_seen old) k) in
    sym (take-map f i ks) ∙ (ap (take i) (listing_still old new s ks same on it) ∙ take-map e i ks)

-- each of the tasks is one of the scope
pub task_at : (h : History) (s : ℕ) (ks : List ℕ) (i : ℕ) → tasks_of h s ≡ ks → i < length ks → is_task_of h s (slice_index_or ks i 0) ≡ true
unfolding tasks_of
task_at h s ks i are within =
    let all = filter_passes (is_task_of h s) (task_numbers h) in
    subst (λ (l : List ℕ). (n : ℕ) → n < length l → is_task_of h s (slice_index_or l n 0) ≡ true) are (λ n less. all n 0 less) i within

-- with one state more these are the states of one task more
pub read_next : (h : History) (ks : List ℕ) (i : ℕ) (states more : List TaskState) (read : TaskState) → i < length ks → states ≡ listing_by (state h) (take i ks) → read ≡ entry_in (slice_index_or ks i 0) (state h (slice_index_or ks i 0)) → more ≡ states ++ read ∷ [] → more ≡ listing_by (state h) (take (i + 1) ks)
read_next h ks i states more read within so is items =
    let f : ℕ → TaskState = λ k. entry_in k (state h k) in
    let k = slice_index_or ks i 0 in
    items
    ∙ (ap (λ (l : List TaskState). l ++ read ∷ []) so
    ∙ (ap (λ (r : TaskState). listing_by (state h) (take i ks) ++ r ∷ []) is ∙ (sym (map-append f (take i ks) (k ∷ [])) ∙ ap (listing_by (state h)) (sym (take_more ks i 0 within)))))
