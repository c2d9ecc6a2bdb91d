-- The first cancel of a scope before a place is its first cancel now, if that came before the place, and else none.
use Rattle.std.proofs.Common.{[], ℕ, ◌<◌, ◌∙◌, ◌∷◌, ◌≡◌, ◌≤◌, None, Option, Some, ap, arith, cond, length, length-append, option_map, refl, sym, take}
use Rattle.scope_index.specs.{Accepts, Event, FirstCancel, History, Legal, Limits, before, cause, cause_before, first_cancel, followed}
use Rattle.scope_index.proofs.Words.{Grows, IsOpened, cancel_grows, cancel_within_history, le-ltb, length-take, lt-ltb, opening_stays}
use Rattle.scope_index.proofs.Since.{since}

-- a first cancel that goes on from place m says the same before an earlier place
same_before : (n m : ℕ) (o p : Option FirstCancel) → n ≤ m → Grows m o p → cause_before p n ≡ cause_before o n
same_before n m (Some c) p within grows = ap (λ (x : Option FirstCancel). cause_before x n) (grows.kept c refl).0
same_before n m None None within grows = refl
same_before n m None (Some c) within grows = ap (λ b. cond b (Some c.cause) None) (le-ltb c.place n (omega (arith, within, grows.fresh c refl refl)))

-- a first cancel that came by now
all_before : (n : ℕ) (o : Option FirstCancel) → ((c : FirstCancel) → o ≡ Some c → c.place < n) → cause_before o n ≡ option_map (λ (c : FirstCancel). c.cause) o
all_before n None within = refl
all_before n (Some c) within = ap (λ b. cond b (Some c.cause) None) (lt-ltb c.place n (within c refl))

-- the cause of scope s in a shorter history is what the first cancel says before place n
record SaysBefore (g : History) (s n : ℕ) (h : History) : Type 0 where
  opened : IsOpened h s
  within : n ≤ length h.events
  says : cause g s ≡ cause_before (first_cancel h s) n

says_next : (L : Limits) (g : History) (s n : ℕ) (h : History) (e : Event) → Legal L h → Accepts L h e → SaysBefore g s n h → SaysBefore g s n (followed h e)
says_next L g s n h e legal ok was = record {
  opened = record { opened = was.opened.opened; is = opening_stays h e s was.opened.opened was.opened.is };
  within = let longer = length-append h.events (e ∷ []) in omega (arith, was.within, longer);
  says = was.says ∙ sym (same_before n (length h.events) (first_cancel h s) (first_cancel (followed h e) s) was.within (cancel_grows L h e s legal was.opened));
}

-- the cause of an opened scope before a place
pub cause_at : (L : Limits) (h : History) (s n : ℕ) → Legal L h → n ≤ length h.events → IsOpened (before h n) s → cause (before h n) s ≡ cause_before (first_cancel h s) n
unfolding cause
cause_at L h s n legal within it =
    let size : length (take n h.events) ≡ n = length-take n h.events ∙ omega (arith, within) in
    let start : SaysBefore (before h n) s n (before h n) = record {
      opened = it;
      within = omega (arith, size);
      says = sym (all_before n (first_cancel (before h n) s) (λ c is. let inside = cancel_within_history (before h n) s c is in omega (arith, inside, size)));
    } in
    (since L (SaysBefore (before h n) s n) (λ g e lawful ok was. says_next L (before h n) s n g e lawful ok was) h n within legal start).says
