-- What is kept if room is made for a fork, and after it.
use Rattle.std.proofs.Common.{ℕ, ◌+◌, ◌-◌, ◌<◌, ◌==◌, ◌^◌, ◌∙◌, ◌≡◌, ◌≢◌, ◌≤◌, Bool, None, Some, ap, arith, cond, eqb, false, length, refl, slice_get, subst, suc, sym, true, zero}
use Rattle.scope_index.specs.{Accepts, AreCancelsOf, AreRowsOf, CancelTable, Counts, Fork, HasEnv, HasForks, HasReserved, HasRoomForEnds, HasRoomToFork, HasRow, History, IndexTable, IndexTables.forks_in, IsAccountOf, IsNodeOf}
use Rattle.scope_index.specs.{IsReadyFor, JoinerStanding, Label, Legal, Limits, RowTable, StandsFor, account_at, all_counts, counts, followed, forks_of, opening}
use Rattle.scope_index.proofs.Words.{IsOpened, count_push, eq-eqb, eqb-false, eqb-true, fork_number, fork_passed, has_env_of_actor, ne_eqb, tallies_of}
use Rattle.scope_index.proofs.{Balance.balanced, CancelReadings.has_row, Held.opened_has_forks, Opening.forks_opened}
use Rattle.cancel_tree.specs.Rows as rows

-- ---- what a fork wants

pub fork_opened : (L : Limits) (h : History) (a s : ℕ) (label : Label) → Accepts L h (Fork a s label) → IsOpened h s
fork_opened L h a s label ok = let owner = (fork_passed L h a s label ok).owner in record { opened = owner.opened; is = owner.is }

pub fork_row : (t : IndexTable) (a s : ℕ) (label : Label) → IsReadyFor t (Fork a s label) → HasRow t.cancels s
fork_row t a s label ready = has_row ready.history t.cancels s ready.kept.cancels (fork_opened ready.limits ready.history a s label ready.accepted)

pub fork_env : (t : IndexTable) (a s : ℕ) (label : Label) → IsReadyFor t (Fork a s label) → HasEnv t.envs a
fork_env t a s label ready = has_env_of_actor ready.history t.envs a ready.kept.envs (fork_passed ready.limits ready.history a s label ready.accepted).acts

pub fork_numbers : (L : Limits) (h : History) (t : RowTable) (a s : ℕ) (label : Label) → Accepts L h (Fork a s label) → AreRowsOf h t → t.tasks_before + length t.tasks + 1 < 2 ^ 32
fork_numbers L h t a s label ok are = let few = (fork_number L h a s label ok.passed).1 in omega (arith, few, are.tasks_before, are.task_count)

pub fork_list : (t : IndexTable) (a s : ℕ) (label : Label) → IsReadyFor t (Fork a s label) → HasForks t.forks s
fork_list t a s label ready = opened_has_forks ready.history t.forks s ready.kept.forks (fork_opened ready.limits ready.history a s label ready.accepted)

-- ---- how much room

-- the tasks that the row counts are at least those that were forked
pub forks_counted : (L : Limits) (h : History) (s : ℕ) (n : Counts) → Legal L h → counts h s ≡ n → forks_of h s ≤ all_counts n
forks_counted L h s n legal is =
    let t = tallies_of h s n is in
    omega (arith, (balanced L h legal s).all, t.never, t.waiting, t.running, t.finished)

-- in a scope that was never opened nothing was forked
pub unforked : (L : Limits) (h : History) (s : ℕ) → Legal L h → opening h s ≡ None → forks_of h s ≤ 0
unforked L h s legal none = by (forks_of h s) refl
  where
    by : (n : ℕ) → forks_of h s ≡ n → forks_of h s ≤ 0
    by zero is = omega (arith, is)
    by (suc n) is = let it = forks_opened L h s legal (omega (arith, is)) in absurd (cc (none, it.is))

-- ---- tables with more room

-- the account at a place, before more room was made in that of scope s
pub record Was (old : CancelTable) (s more i : ℕ) (a : JoinerStanding) : Type 0 where
  pub account : JoinerStanding
  pub is : slice_get old.accounts i ≡ Some account
  pub policy : a.policy ≡ account.policy
  pub has_closure : a.has_closure ≡ account.has_closure
  pub totals : a.totals ≡ account.totals
  pub seen : a.seen ≡ account.seen
  pub room : a.has_closure ≡ true → ((i ≡ s - old.before - 1) → more ≤ a.room) × ((i ≢ s - old.before - 1) → a.room ≡ account.room)

pub reserved_was : (old new : CancelTable) (s more i : ℕ) (a : JoinerStanding) → HasReserved old new s more → slice_get new.accounts i ≡ Some a → Was old s more i a
reserved_was old new s more i a step at = by (eqb i (s - old.before - 1)) refl
  where
    by : (b : Bool) → eqb i (s - old.before - 1) ≡ b → Was old s more i a
    by true is =
        let same : i ≡ s - old.before - 1 = eqb-true i (s - old.before - 1) is in
        let from = step.here a (sym (ap (slice_get new.accounts) same) ∙ at) in
        record {
          account = from.0;
          is = ap (slice_get old.accounts) same ∙ from.1.0;
          policy = from.1.1.0.policy;
          has_closure = from.1.1.0.has_closure;
          totals = from.1.1.0.totals;
          seen = from.1.1.0.seen;
          room = λ listed. (λ here. from.1.1.1 listed, λ apart. absurd (apart same));
        }
    by false is =
        let apart = eqb-false i (s - old.before - 1) is in
        record { account = a; is = sym (step.others i apart) ∙ at; policy = refl; has_closure = refl; totals = refl; seen = refl; room = λ listed. (λ here. absurd (apart here), λ other. refl) }

stands_roomier : (old new : JoinerStanding) (list : _) → new.has_closure ≡ old.has_closure → new.totals ≡ old.totals → new.seen ≡ old.seen → StandsFor old list → StandsFor new list
stands_roomier old new list closure totals seen stands = record { totals = stands.totals ∙ sym totals; seen = λ listed. seen ∙ stands.seen (sym closure ∙ listed) }

-- cancels with more room in an account are cancels of the same history
pub cancels_roomier : (h : History) (old new : CancelTable) (s more : ℕ) → HasReserved old new s more → AreCancelsOf h old → AreCancelsOf h new
cancels_roomier h old new s more step was = record {
  numbered = step.before ∙ was.numbered;
  moment = step.moment ∙ was.moment;
  count = ap length step.nodes ∙ was.count;
  counted = step.length ∙ was.counted;
  rows = λ n row at. subst (λ b. IsNodeOf h b (b + n) row) (sym step.before) (was.rows n row (sym (ap (λ ts. rows.row ts n) step.nodes) ∙ at));
  accounts = λ i a at.
      let from = reserved_was old new s more i a step at in
      let it = was.accounts i from.account from.is in
      subst (λ b. IsAccountOf h (b + 1 + i) a) (sym step.before) (record { opened = it.opened; is = it.is; policy = from.policy ∙ it.policy; stands = stands_roomier from.account a _ from.has_closure from.totals from.seen it.stands });
}

-- if the room was made for one task more of scope s, so it is when that is forked
room_then : (h : History) (old new : CancelTable) (s more : ℕ) → HasRow old s → HasReserved old new s more → HasRoomToFork h old s more → HasRoomForEnds h old
    → (i : ℕ) (a : JoinerStanding) → slice_get new.accounts i ≡ Some a → a.has_closure ≡ true → forks_of h (old.before + 1 + i) + cond {A = ℕ} (s == old.before + 1 + i) 1 0 ≤ length a.seen + a.room
room_then h old new s more has step enough room i a at listed =
    let from = reserved_was old new s more i a step at in
    let seen : length a.seen ≡ length from.account.seen = ap length from.seen in
    by from seen (eqb i (s - old.before - 1)) refl
  where
    by : (from : Was old s more i a) → length a.seen ≡ length from.account.seen → (b : Bool) → eqb i (s - old.before - 1) ≡ b → forks_of h (old.before + 1 + i) + cond {A = ℕ} (s == old.before + 1 + i) 1 0 ≤ length a.seen + a.room
    by from seen true is =
        let same : i ≡ s - old.before - 1 = eqb-true i (s - old.before - 1) is in
        let number : s ≡ old.before + 1 + i = omega (arith, same, has.after) in
        let here : account_at old s ≡ Some from.account = ap (slice_get old.accounts) (sym same) ∙ from.is in
        let wanted = enough from.account here in
        let made = (from.room listed).0 same in
        let one : cond {A = ℕ} (s == old.before + 1 + i) 1 0 ≡ 1 = ap (λ b. cond {A = ℕ} b 1 0) (eq-eqb s (old.before + 1 + i) number) in
        let forks : forks_of h (old.before + 1 + i) ≡ forks_of h s = ap (forks_of h) (sym number) in
        omega (arith, wanted, made, one, forks, seen)
    by from seen false is =
        let apart = eqb-false i (s - old.before - 1) is in
        let other : cond {A = ℕ} (s == old.before + 1 + i) 1 0 ≡ 0 = ap (λ b. cond {A = ℕ} b 1 0) (ne_eqb s (old.before + 1 + i) (λ same. apart (omega (arith, same)))) in
        let stays = (from.room listed).1 apart in
        let was = room i from.account from.is (sym from.has_closure ∙ listed) in
        omega (arith, was, other, stays, seen)

pub room_reserved : (h : History) (old new : CancelTable) (s more : ℕ) → HasRow old s → HasReserved old new s more → HasRoomToFork h old s more → HasRoomForEnds h old → HasRoomForEnds h new
room_reserved h old new s more has step enough room i a at listed =
    let then = room_then h old new s more has step enough room i a at listed in
    subst (λ b. forks_of h (b + 1 + i) ≤ length a.seen + a.room) (sym step.before) (omega (arith, then))

pub room_forked : (h : History) (old new : CancelTable) (a s : ℕ) (label : Label) (more : ℕ) → HasRow old s → HasReserved old new s more → HasRoomToFork h old s more → HasRoomForEnds h old → HasRoomForEnds (followed h (Fork a s label)) new
room_forked h old new a s label more has step enough room i x at listed =
    let then = room_then h old new s more has step enough room i x at listed in
    subst (λ b. forks_of (followed h (Fork a s label)) (b + 1 + i) ≤ length x.seen + x.room) (sym step.before)
    (omega (arith, then, count_push (forks_in (old.before + 1 + i)) h.events (Fork a s label)))
