-- Of a task that was forked since the last retirement, the list says what the history says.
use Rattle.std.proofs.Common.{[], ℕ, ◌<◌, ◌||◌, ◌∙◌, ◌∷◌, ◌≡◌, Bool, List, ap, arith, false, refl, sym, true}
use Rattle.share_ledger.specs.{Asked, Event, Happened, History, IsLegal, Legal, LegalFrom, Limits, RealmStep, Retirement, Words.rejected, Words.started, advance, advanced, asked, base_of, finished, finishes, followed, fresh}
use Rattle.share_ledger.specs.{history_of, is_event, list_any, rejected_in, rejects, started_in, starts, tasks}
use Rattle.share_ledger.proofs.Words.{IsForked, false_from_ne_true, finished_forked, forked_after, list_any-push, or-false, or_assoc, rejected_forked, started_forked}
use Rattle.share_ledger.proofs.Histories.{base_advanced, legal_advance, legal_empty}

-- a retirement leaves as many numbers before the base as were given
pub base_after : (h : History) → (base_of h).tasks ≡ tasks h
unfolding base_of
base_after h = refl

-- a search for events of task k, which are accepted only once it is forked
module _ (L : Limits) (k : ℕ) (test : Event → Bool) (forked : (h : History) → Legal L h → list_any test h.events ≡ true → IsForked h k) where
  pub none_before : (h : History) (xs : List RealmStep) → Legal L h → (advanced (advance h Retirement) xs).base.tasks < k → list_any test h.events ≡ false
  none_before h xs legal above =
      false_from_ne_true (list_any test h.events)
      (λ found.
      let it = forked h legal found in
      let number = forked_after h k it.forked it.is in
      absurd (omega (arith, number.1, number.2, base_after h, base_advanced (advance h Retirement) xs)))

  search_tied : (h : History) (xs : List RealmStep) → Legal L h → LegalFrom L h xs → (advanced h xs).base.tasks < k → list_any test (advanced h xs).events ≡ (list_any test h.events || list_any (is_event test) xs)
  search_tied h [] legal lawful above = sym (or-false (list_any test h.events))
  search_tied h (Happened e ∷ xs) legal lawful above =
      search_tied (advance h (Happened e)) xs (legal_advance L h (Happened e) legal lawful.0) lawful.1 above
      ∙ (ap (λ b. b || list_any (is_event test) xs) (list_any-push test h.events e) ∙ or_assoc (list_any test h.events) (test e) (list_any (is_event test) xs))
  search_tied h (Asked actor q ∷ xs) legal lawful above =
      search_tied (followed h (asked q)) xs (legal_advance L h (Asked actor q) legal lawful.0) lawful.1 above
      ∙ (ap (λ b. b || list_any (is_event test) xs) (list_any-push test h.events (asked q)) ∙ or_assoc (list_any test h.events) (test (asked q)) (list_any (is_event test) xs))
  search_tied h (Retirement ∷ xs) legal lawful above =
      search_tied (advance h Retirement) xs (legal_advance L h Retirement legal lawful.0) lawful.1 above
      ∙ sym (ap (λ b. b || list_any (is_event test) xs) (none_before h xs legal above))

rejected_found : (L : Limits) (h : History) (k : ℕ) → Legal L h → list_any (rejects k) h.events ≡ true → IsForked h k
unfolding rejected
rejected_found L h k legal found = rejected_forked L h k legal found

started_found : (L : Limits) (h : History) (k : ℕ) → Legal L h → list_any (starts k) h.events ≡ true → IsForked h k
unfolding started
started_found L h k legal found = started_forked L h k legal found

pub finished_found : (L : Limits) (h : History) (k : ℕ) → Legal L h → list_any (finishes k) h.events ≡ true → IsForked h k
unfolding finished
finished_found L h k legal found = finished_forked L h k legal found

-- the list says whether the task was rejected and started
pub rejected_told : (L : Limits) (xs : List RealmStep) (k : ℕ) → IsLegal L xs → (history_of xs).base.tasks < k → rejected_in k xs ≡ rejected (history_of xs) k
unfolding history_of IsLegal rejected rejected_in
rejected_told L xs k lawful above = sym (search_tied L k (rejects k) (λ h. rejected_found L h k) fresh xs (legal_empty L fresh.base) lawful above)

pub started_told : (L : Limits) (xs : List RealmStep) (k : ℕ) → IsLegal L xs → (history_of xs).base.tasks < k → started_in k xs ≡ started (history_of xs) k
unfolding history_of IsLegal started started_in
started_told L xs k lawful above = sym (search_tied L k (starts k) (λ h. started_found L h k) fresh xs (legal_empty L fresh.base) lawful above)
