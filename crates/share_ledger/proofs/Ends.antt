-- Of a task that was forked since the last retirement, the list says how it ended and what its fork
-- gave, as the history does.
use Rattle.std.proofs.Common.{[], ℕ, ◌+◌, ◌<◌, ◌==◌, ◌∙◌, ◌∷◌, ◌≡◌, ◌≤◌, Bool, List, None, Option, Some, ap, arith, cond, false, length, refl, subst, sym, true}
use Rattle.share_ledger.specs.{Asked, EndValue, Ending, Event, Finish, Fork, Forking, Happened, History, IsLegal, Legal, LegalFrom, Limits, Origin, Passes, RealmStep, Retirement, TellsHistory, advance, advanced, asked}
use Rattle.share_ledger.specs.{cancelled_before, end_in, end_of, end_shown, ending, ending_of, finished, finishes, followed, forking, fresh, grant_in, grant_of, grant_shown, granted, history_of, is_event, is_fork, option_or}
use Rattle.share_ledger.specs.{tasks}
use Rattle.share_ledger.proofs.Words.{IsOpened, both_ways, cancelled_before_stays, cancelled_by_now, ending_grows, fork_passed, forked_after, forked_opened, forking_stays, forking_within, next_forking, no_ending, option_or-assoc}
use Rattle.share_ledger.proofs.Words.{option_or-none}
use Rattle.share_ledger.proofs.{Asks.asks_no_end, Asks.asks_no_fork, GrantWalks.to_fork, Histories.base_advanced, Histories.legal_advance, Histories.legal_empty, Ties.base_after, Ties.finished_found, Ties.none_before}
use Rattle.share_ledger.proofs.{Ties.rejected_told, Ties.started_told}

shown_or : (o p : Option Ending) → end_shown (option_or o p) ≡ option_or (end_shown o) (end_shown p)
shown_or None p = refl
shown_or (Some e) p = refl

ending_said : (b : Bool) (i : ℕ) (end : EndValue) → end_shown (cond b (Some (record { place = i; end = end })) None) ≡ cond b (Some end) None
ending_said true i end = refl
ending_said false i end = refl

end_said : (k i : ℕ) (e : Event) → end_shown (ending_of k i e) ≡ end_of k (Happened e)
end_said k i (Finish task end) = ending_said (task == k) i end
end_said k i _ = refl

unfinished_start : (b : Origin) (k : ℕ) → ending (record { base = b; events = [] }) k ≡ None
unfolding finished
unfinished_start b k = no_ending (record { base = b; events = [] }) k refl

unfinished_before : (L : Limits) (k : ℕ) (h : History) (xs : List RealmStep) → Legal L h → (advanced (advance h Retirement) xs).base.tasks < k → ending h k ≡ None
unfolding finished
unfinished_before L k h xs legal above = no_ending h k (none_before L k (finishes k) (λ g. finished_found L g k) h xs legal above)

end_tied : (L : Limits) (k : ℕ) (h : History) (xs : List RealmStep) → Legal L h → LegalFrom L h xs → (advanced h xs).base.tasks < k → end_shown (ending (advanced h xs) k) ≡ option_or (end_shown (ending h k)) (end_in k xs)
unfolding end_in
end_tied L k h [] legal lawful above = sym (option_or-none (end_shown (ending h k)))
end_tied L k h (Happened e ∷ xs) legal lawful above =
    end_tied L k (advance h (Happened e)) xs (legal_advance L h (Happened e) legal lawful.0) lawful.1 above
    ∙ (ap (λ (o : Option Ending). option_or (end_shown o) (end_in k xs)) (ending_grows h e k)
    ∙ (ap (λ (o : Option EndValue). option_or o (end_in k xs)) (shown_or (ending h k) (ending_of k (length h.events) e) ∙ ap (option_or (end_shown (ending h k))) (end_said k (length h.events) e))
    ∙ option_or-assoc (end_shown (ending h k)) (end_of k (Happened e)) (end_in k xs)))
end_tied L k h (Asked actor q ∷ xs) legal lawful above =
    end_tied L k (followed h (asked q)) xs (legal_advance L h (Asked actor q) legal lawful.0) lawful.1 above
    ∙ (ap (λ (o : Option Ending). option_or (end_shown o) (end_in k xs)) (ending_grows h (asked q) k)
    ∙ (ap (λ (o : Option Ending). option_or (end_shown (option_or (ending h k) o)) (end_in k xs)) (asks_no_end k (length h.events) q)
    ∙ ap (λ (o : Option Ending). option_or (end_shown o) (end_in k xs)) (option_or-none (ending h k))))
end_tied L k h (Retirement ∷ xs) legal lawful above =
    end_tied L k (advance h Retirement) xs (legal_advance L h Retirement legal lawful.0) lawful.1 above
    ∙ (ap (λ (o : Option Ending). option_or (end_shown o) (end_in k xs)) (unfinished_start (advance h Retirement).base k)
    ∙ sym (ap (λ (o : Option Ending). option_or (end_shown o) (end_in k xs)) (unfinished_before L k h xs legal above)))

-- the list says how the task ended
pub end_told : (L : Limits) (xs : List RealmStep) (k : ℕ) → IsLegal L xs → (history_of xs).base.tasks < k → end_shown (ending (history_of xs) k) ≡ end_in k xs
unfolding history_of IsLegal
end_told L xs k lawful above =
    end_tied L k fresh xs (legal_empty L fresh.base) lawful above ∙ ap (λ (o : Option Ending). option_or (end_shown o) (end_in k xs)) (unfinished_start fresh.base k)

-- a forking stays if no retirement passes, and so does whether it came after a cancel
record Stays (h g : History) (k : ℕ) (f : Forking) : Type 0 where
  forked : forking g k ≡ Some f
  cancelled : cancelled_before g f.scope f.place ≡ cancelled_before h f.scope f.place

forked_on : (L : Limits) (k : ℕ) (h : History) (xs : List RealmStep) (f : Forking) → Legal L h → LegalFrom L h xs → (advanced h xs).base.tasks < k → forking h k ≡ Some f → Stays h (advanced h xs) k f
forked_on L k h [] f legal lawful above is = record { forked = is; cancelled = refl }
forked_on L k h (Happened e ∷ xs) f legal lawful above is =
    let within = forking_within h k f is in
    let rest = forked_on L k (advance h (Happened e)) xs f (legal_advance L h (Happened e) legal lawful.0) lawful.1 above (forking_stays h e k f is) in
    record { forked = rest.forked; cancelled = rest.cancelled ∙ cancelled_before_stays L h e f.scope f.place legal (forked_opened L h k f legal is) (omega arith) }
forked_on L k h (Asked actor q ∷ xs) f legal lawful above is =
    let within = forking_within h k f is in
    let rest = forked_on L k (followed h (asked q)) xs f (legal_advance L h (Asked actor q) legal lawful.0) lawful.1 above (forking_stays h (asked q) k f is) in
    record { forked = rest.forked; cancelled = rest.cancelled ∙ cancelled_before_stays L h (asked q) f.scope f.place legal (forked_opened L h k f legal is) (omega arith) }
forked_on L k h (Retirement ∷ xs) f legal lawful above is =
    let number = forked_after h k f is in
    absurd (omega (arith, number.1, number.2, base_after h, base_advanced (advance h Retirement) xs))

-- the forking that a fork makes, and what the fork gives
record Forks (h : History) (x : RealmStep) : Type 0 where
  new : Forking
  forked : forking (advance h x) (tasks h + 1) ≡ Some new
  gives : grant_of h x ≡ grant_shown (cancelled_before (advance h x) new.scope new.place) new

fork_made : (L : Limits) (h : History) (x : RealmStep) → Legal L h → Passes L h x → is_event is_fork x ≡ true → Forks h x
fork_made L h (Happened (Fork a s label)) legal ok so =
    let owner = (fork_passed L h a s label ok).owner in
    let opened : IsOpened h s = record { opened = owner.opened; is = owner.is } in
    let f : Forking = record { place = length h.events; actor = a; scope = s; label = label } in
    let now = cancelled_before_stays L h (Fork a s label) s (length h.events) legal opened (omega arith) ∙ cancelled_by_now h s opened in
    record { new = f; forked = next_forking h a s label; gives = sym (ap (λ b. grant_shown b f) now) }
fork_made L h (Asked actor q) legal ok so = absurd (both_ways (is_fork (asked q)) (asks_no_fork q) so)
fork_made L h _ legal ok so = absurd cc

same_forking : (f g : Forking) (o : Option Forking) → o ≡ Some f → o ≡ Some g → f ≡ g
same_forking f g o is so = cc

-- what the n-th fork gave, which is task k's, is what the history says that it gave
abbrev TellsFork : ℕ → Forking → History → ℕ → List RealmStep → Type 0
TellsFork k f h n xs = (advanced h xs).base.tasks < k → forking (advanced h xs) k ≡ Some f → granted h n xs ≡ grant_shown (cancelled_before (advanced h xs) f.scope f.place) f

grants_on : (L : Limits) (k : ℕ) (h : History) (n : ℕ) (xs : List RealmStep) (f : Forking) → Legal L h → LegalFrom L h xs → tasks h + n ≡ k → 1 ≤ n → TellsFork k f h n xs
grants_on L k h n xs f =
    to_fork L k (TellsFork k f) (λ h n below above is. let it = forked_after h k f is in absurd (omega (arith, it.1, it.2, below)))
    (λ h x xs n legal ok lawful forks first gives above is.
    let it = fork_made L h x legal ok forks in
    let made : forking (advance h x) k ≡ Some it.new = subst (λ (m : ℕ). forking (advance h x) m ≡ Some it.new) first it.forked in
    let on = forked_on L k (advance h x) xs it.new (legal_advance L h x legal ok) lawful above made in
    let same = same_forking it.new f (forking (advanced h (x ∷ xs)) k) on.forked is in
    let P : Forking → Type 0 = λ (w : Forking). grant_of h x ≡ grant_shown (cancelled_before (advanced h (x ∷ xs)) w.scope w.place) w in
    gives ∙ subst P same (it.gives ∙ ap (λ b. grant_shown b it.new) (sym on.cancelled))) (λ h x xs n m legal ok below gives rest above is. gives ∙ rest above is) h n xs

-- the list says what the task's fork gave
pub grant_told : (L : Limits) (xs : List RealmStep) (k : ℕ) (f : Forking) → IsLegal L xs → (history_of xs).base.tasks < k → forking (history_of xs) k ≡ Some f → grant_in k xs ≡ grant_shown (cancelled_before (history_of xs) f.scope f.place) f
unfolding history_of IsLegal grant_in
grant_told L xs k f lawful above is = grants_on L k fresh k xs f (legal_empty L fresh.base) lawful (omega arith) (omega arith) above is

-- of a task that was forked since the last retirement, the list says what the history says
pub tells_history : (L : Limits) (xs : List RealmStep) (k : ℕ) → IsLegal L xs → (history_of xs).base.tasks < k → TellsHistory k xs
tells_history L xs k lawful above = record {
  grant = λ f is. grant_told L xs k f lawful above is;
  rejected = rejected_told L xs k lawful above;
  started = started_told L xs k lawful above;
  end = sym (end_told L xs k lawful above);
}
