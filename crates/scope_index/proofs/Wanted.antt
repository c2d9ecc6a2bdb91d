-- What the parts want before each event, if the event is accepted.
use Rattle.std.proofs.Common.{ℕ, ◌+◌, ◌-◌, ◌<◌, ◌^◌, ◌≡◌, ◌≤◌, None, Option, Some, arith, false, length, option_map, refl, subst, sym}
use Rattle.scope_index.specs.{Accepts, AreCancelsOf, Bind, Cancel, CancelTable, Event, HasEnv, HasRow, History, IfSome, IndexTable, IsLatest, IsReadyAt, IsReadyFor, Join, LEVEL_LIMIT, Legal, Limits, Move, Open, Options, Policy}
use Rattle.scope_index.specs.{Tick, Unbind, joined, level_in, moment, next_level, row_check, surrounding}
use Rattle.scope_index.proofs.Words.{IsActor, IsOpened, actor_passed, checks_at, has_env_of_actor, join_passed, ltb-false, not_refused, open_number, open_passed, scope_passed, surrounding_opened}
use Rattle.scope_index.proofs.CancelReadings.{has_row, latest_place, level_in_read}

-- ---- what accepted events say

pub cancel_opened : (L : Limits) (h : History) (s : ℕ) → Accepts L h (Cancel s) → IsOpened h s
unfolding row_check
cancel_opened L h s ok = scope_passed h s (checks_at _ 0 _ ok.passed refl)

pub record MoveRow (h : History) (s : ℕ) : Type 0 where
  pub opened : IsOpened h s
  pub unjoined : joined h s ≡ false

pub move_passed : (L : Limits) (h : History) (s : ℕ) (d : Option ℕ) → Accepts L h (Move s d) → MoveRow h s
unfolding row_check
move_passed L h s d ok = record {
  opened = scope_passed h s (checks_at _ 0 _ ok.passed refl);
  unjoined = not_refused _ _ (checks_at _ 2 _ ok.passed refl);
}

pub tick_passed : (L : Limits) (h : History) (now : ℕ) → Accepts L h (Tick now) → moment h ≤ now
unfolding row_check
tick_passed L h now ok = ltb-false now (moment h) (not_refused _ _ (checks_at _ 0 _ ok.passed refl))

pub bind_passed : (L : Limits) (h : History) (a : ℕ) (pair : _) → Accepts L h (Bind a pair) → IsActor h a
unfolding row_check
bind_passed L h a pair ok = actor_passed h a (checks_at _ 0 _ ok.passed refl)

pub unbind_passed : (L : Limits) (h : History) (a : ℕ) → Accepts L h (Unbind a) → IsActor h a
unfolding row_check
unbind_passed L h a ok = actor_passed h a (checks_at _ 0 _ ok.passed refl)

pub level_passed : (L : Limits) (h : History) (a : ℕ) (policy : Policy) (options : Options) → Accepts L h (Open a policy options) → next_level h a ≤ LEVEL_LIMIT
unfolding row_check
level_passed L h a policy options ok = ltb-false LEVEL_LIMIT (next_level h a) (not_refused _ _ (checks_at _ 2 _ ok.passed refl))

-- ---- what cancels want

pub cancel_row : (t : IndexTable) (s : ℕ) → IsReadyFor t (Cancel s) → HasRow t.cancels s
cancel_row t s ready = has_row ready.history t.cancels s ready.kept.cancels (cancel_opened ready.limits ready.history s ready.accepted)

pub move_row : (t : IndexTable) (s : ℕ) (d : Option ℕ) → IsReadyFor t (Move s d) → HasRow t.cancels s
move_row t s d ready = has_row ready.history t.cancels s ready.kept.cancels (move_passed ready.limits ready.history s d ready.accepted).opened

pub join_row : (t : IndexTable) (a s : ℕ) → IsReadyFor t (Join a s) → HasRow t.cancels s
join_row t a s ready = has_row ready.history t.cancels s ready.kept.cancels (join_passed ready.limits ready.history a s ready.accepted).0

-- no own cancel stands after the place
pub latest : (t : IndexTable) (e : Event) (place : ℕ) → IsReadyAt t e place → IsLatest t.cancels.nodes place
latest t e place ready = subst (IsLatest t.cancels.nodes) (sym ready.1) (latest_place ready.0.history t.cancels ready.0.kept.cancels)

pub tick_forward : (t : IndexTable) (now : ℕ) → IsReadyFor t (Tick now) → t.cancels.moment ≤ now
tick_forward t now ready = subst (λ m. m ≤ now) (sym ready.kept.cancels.moment) (tick_passed ready.limits ready.history now ready.accepted)

-- what lies around an actor has a row
pub around_row : (L : Limits) (h : History) (t : CancelTable) (a : ℕ) (parent : Option ℕ) → Legal L h → AreCancelsOf h t → parent ≡ surrounding h a → IfSome parent (HasRow t)
around_row L h t a None legal cancels is = tt
around_row L h t a (Some p) legal cancels is = has_row h t p cancels (surrounding_opened L h a p legal (sym is))

pub open_level : (L : Limits) (h : History) (t : CancelTable) (a : ℕ) (policy : Policy) (options : Options) (parent : Option ℕ) → Legal L h → Accepts L h (Open a policy options) → AreCancelsOf h t → parent ≡ surrounding h a
    → level_in t.nodes (option_map (λ p. p - t.before) parent) ≤ LEVEL_LIMIT
open_level L h t a policy options parent legal ok cancels is =
    subst (λ n. n ≤ LEVEL_LIMIT) (sym (level_in_read L h t a parent legal cancels is (around_row L h t a parent legal cancels is))) (level_passed L h a policy options ok)

pub open_numbers : (L : Limits) (h : History) (t : CancelTable) (a : ℕ) (policy : Policy) (options : Options) → Accepts L h (Open a policy options) → AreCancelsOf h t → t.before + length t.nodes + 1 < 2 ^ 32
open_numbers L h t a policy options ok cancels = let few = (open_number L h a policy options ok.passed).1 in omega (arith, few, cancels.numbered, cancels.count)

-- ---- what environments want

pub bind_env : (t : IndexTable) (a : ℕ) (pair : _) → IsReadyFor t (Bind a pair) → HasEnv t.envs a
bind_env t a pair ready = has_env_of_actor ready.history t.envs a ready.kept.envs (bind_passed ready.limits ready.history a pair ready.accepted)

pub unbind_env : (t : IndexTable) (a : ℕ) → IsReadyFor t (Unbind a) → HasEnv t.envs a
unbind_env t a ready = has_env_of_actor ready.history t.envs a ready.kept.envs (unbind_passed ready.limits ready.history a ready.accepted)

pub open_env : (t : IndexTable) (a : ℕ) (policy : Policy) (options : Options) → IsReadyFor t (Open a policy options) → HasEnv t.envs a
open_env t a policy options ready = has_env_of_actor ready.history t.envs a ready.kept.envs (open_passed ready.limits ready.history a policy options ready.accepted)
