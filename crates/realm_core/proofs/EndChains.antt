-- What the ends of a close leave as it was, and what they add to logs.
use Rattle.std.proofs.Common.{[], ℕ, ◌++◌, ◌+◌, ◌==◌, ◌||◌, ◌∙◌, ◌∷◌, ◌≡◌, ◌≢◌, Bool, List, None, Some, ap, arith, cond, false, inl, inr, map, refl, subst, sym, true}
use Rattle.realm_core.specs.{Accepts, AreInnermost, EndClose, History, InEndOrder, Legal, LegalFrom, Limits, LogValue, advanced, closed, closing, cons_option, end_step, ended, entries_next, entry_of, followed, forked_count}
use Rattle.realm_core.specs.{has_tasks, innermost, is_cancelled, is_fork, is_task_of, joined, list_any, log, mark_next, opening, range_with_len, verdict, violated, with_end}
use Rattle.realm_core.proofs.Words.{append-nil, both_ways, cases_eq, closed_grows, closed_stays, closing_stays, count_push, eq-eqb, forking_same, innermost_unclosed, joined_grows, legal_push, log_grows, ne_eqb, opening_same}
use Rattle.realm_core.proofs.Words.{or_from, violated_grows}
use Rattle.realm_core.proofs.ClosingCancels.{closing_cancelled}
use Rattle.scope_log.specs.declared.entries.LogEntry.TheVariants as entry

-- ---- lists of ends

pub ended-append : (h : History) (a : ℕ) (xs ys : List ℕ) → ended h a (xs ++ ys) ≡ ended (ended h a xs) a ys
ended-append h a [] ys = refl
ended-append h a (x ∷ xs) ys = ended-append (followed h (EndClose a x)) a xs ys

pub innermost-append : (h : History) (a : ℕ) (xs ys : List ℕ) → AreInnermost h a xs → AreInnermost (ended h a xs) a ys → AreInnermost h a (xs ++ ys)
innermost-append h a [] ys first then = then
innermost-append h a (x ∷ xs) ys first then = (first.0, innermost-append (followed h (EndClose a x)) a xs ys first.1 then)

pub advanced_ends : (h : History) (a : ℕ) (ts : List ℕ) → advanced h (map (end_step a) ts) ≡ ended h a ts
advanced_ends h a [] = refl
advanced_ends h a (t ∷ ts) = advanced_ends (followed h (EndClose a t)) a ts

-- ---- what stays

pub opening_ended : (h : History) (a s : ℕ) (ts : List ℕ) → opening (ended h a ts) s ≡ opening h s
opening_ended h a s [] = refl
opening_ended h a s (t ∷ ts) = opening_ended (followed h (EndClose a t)) a s ts ∙ opening_same h (EndClose a t) s refl

pub closed_still : (h : History) (a s : ℕ) (ts : List ℕ) → closed h s ≡ true → closed (ended h a ts) s ≡ true
closed_still h a s [] so = so
closed_still h a s (t ∷ ts) so = closed_still (followed h (EndClose a t)) a s ts (closed_stays h (EndClose a t) s so)

or_false : (b : Bool) → (b || false) ≡ b
or_false true = refl
or_false false = refl

any_same : {A : Type 0} (p q : A → Bool) (xs : List A) → ((x : A) → p x ≡ q x) → list_any p xs ≡ list_any q xs
any_same p q [] same = refl
any_same p q (x ∷ xs) same = rw (same x, any_same p q xs same) refl

forked_same : (h : History) (a t : ℕ) → forked_count (followed h (EndClose a t)) ≡ forked_count h
forked_same h a t = count_push is_fork h.events (EndClose a t) ∙ omega arith

task_same : (h : History) (a t s k : ℕ) → is_task_of (followed h (EndClose a t)) s k ≡ is_task_of h s k
unfolding is_task_of
task_same h a t s k = rw (forking_same h (EndClose a t) k refl) refl

has_tasks_same : (h : History) (a t s : ℕ) → has_tasks (followed h (EndClose a t)) s ≡ has_tasks h s
unfolding has_tasks
has_tasks_same h a t s =
    any_same (is_task_of (followed h (EndClose a t)) s) (is_task_of h s) _ (task_same h a t s)
    ∙ ap (λ n. list_any (is_task_of h s) (range_with_len (h.base.tasks + 1) n)) (forked_same h a t)

pub verdict_same : (h : History) (a t s : ℕ) → verdict (followed h (EndClose a t)) s ≡ verdict h s
unfolding verdict
verdict_same h a t s =
    rw (violated_grows h (EndClose a t) s, joined_grows h (EndClose a t) s, has_tasks_same h a t s, or_false (violated h s), or_false (joined h s)) refl

pub verdict_ended : (h : History) (a s : ℕ) (ts : List ℕ) → verdict (ended h a ts) s ≡ verdict h s
verdict_ended h a s [] = refl
verdict_ended h a s (t ∷ ts) = verdict_ended (followed h (EndClose a t)) a s ts ∙ verdict_same h a t s

-- ---- logs

marked_already : (h : History) (a t s : ℕ) → is_cancelled h s ≡ true → mark_next h (EndClose a t) s ≡ None
marked_already h a t s so = rw so refl

own_entry : (h : History) (a s : ℕ) → is_cancelled h s ≡ true → entries_next h (EndClose a s) s ≡ entry.EndClose a ∷ []
own_entry h a s so =
    ap (λ o. cons_option (entry_of h s (EndClose a s)) (cons_option o [])) (marked_already h a s s so)
    ∙ ap (λ b. cons_option (cond b (Some (entry.EndClose a)) None) []) (eq-eqb s s refl)

no_entry : (h : History) (a t s : ℕ) → t ≢ s → is_cancelled h s ≡ true → entries_next h (EndClose a t) s ≡ []
no_entry h a t s other so =
    ap (λ o. cons_option (entry_of h s (EndClose a t)) (cons_option o [])) (marked_already h a t s so)
    ∙ ap (λ b. cons_option (cond b (Some (entry.EndClose a)) None) []) (ne_eqb t s other)

-- the log of scope s, which is closing, with the end of its own close
log_at_end : (L : Limits) (h : History) (a s : ℕ) (l : LogValue) → Legal L h → Accepts L h (EndClose a s) → closing h s ≡ true → log h s ≡ Some l → log (followed h (EndClose a s)) s ≡ Some (with_end a l)
log_at_end L h a s l legal ok begun is =
    (log_grows L h (EndClose a s) s legal ok).kept l is
    ∙ ap (λ es. Some (record l { entries = l.entries ++ es })) (own_entry h a s (closing_cancelled L h s legal begun))

-- and with the end of another's
log_at_other : (L : Limits) (h : History) (a t s : ℕ) (l : LogValue) → Legal L h → Accepts L h (EndClose a t) → t ≢ s → closing h s ≡ true → log h s ≡ Some l → log (followed h (EndClose a t)) s ≡ Some l
log_at_other L h a t s l legal ok other begun is =
    (log_grows L h (EndClose a t) s legal ok).kept l is
    ∙ (ap (λ es. Some (record l { entries = l.entries ++ es })) (no_entry h a t s other (closing_cancelled L h s legal begun))
    ∙ ap (λ es. Some (record l { entries = es })) (append-nil l.entries))

pub closed_now : (h : History) (a t : ℕ) → closed (followed h (EndClose a t)) t ≡ true
closed_now h a t = closed_grows h (EndClose a t) t ∙ last_so (closed h t) (t == t) (eq-eqb t t refl)
  where
    last_so : (b c : Bool) → c ≡ true → (b || c) ≡ true
    last_so true c so = refl
    last_so false c so = so

-- the log of a closed scope stays
log_past : (L : Limits) (h : History) (a s : ℕ) (l : LogValue) (ts : List ℕ) → Legal L h → LegalFrom L h (map (end_step a) ts) → AreInnermost h a ts → closing h s ≡ true → closed h s ≡ true → log h s ≡ Some l → log (ended h a ts) s ≡ Some l
log_past L h a s l [] legal lawful inner begun so is = is
log_past L h a s l (t ∷ ts) legal lawful inner begun so is =
    let own = innermost_unclosed h a t inner.0 in
    let other : t ≢ s = λ same. both_ways (closed h s) (subst (λ (n : ℕ). closed h n ≡ false) same own.unclosed) so in
    log_past L (followed h (EndClose a t)) a s l ts (legal_push L h (EndClose a t) legal lawful.0) lawful.1 inner.1
    (closing_stays h (EndClose a t) s begun) (closed_stays h (EndClose a t) s so) (log_at_other L h a t s l legal lawful.0 other begun is)

-- a scope that these ends close has its own end in its log, and nothing else more
pub log_ended : (L : Limits) (h : History) (a s : ℕ) (l : LogValue) (ts : List ℕ) → Legal L h → LegalFrom L h (map (end_step a) ts) → AreInnermost h a ts → closing h s ≡ true → closed h s ≡ false → closed (ended h a ts) s ≡ true → log h s ≡ Some l → log (ended h a ts) s ≡ Some (with_end a l)
log_ended L h a s l [] legal lawful inner begun unclosed so is = absurd (both_ways (closed h s) unclosed so)
log_ended L h a s l (t ∷ ts) legal lawful inner begun unclosed so is =
    let next = legal_push L h (EndClose a t) legal lawful.0 in
    elim (cases_eq t s) [
      | inl same ↦
          let own : Accepts L h (EndClose a s) = subst (λ (n : ℕ). Accepts L h (EndClose a n)) same lawful.0 in
          let then : log (followed h (EndClose a t)) s ≡ Some (with_end a l) = subst (λ (n : ℕ). log (followed h (EndClose a n)) s ≡ Some (with_end a l)) (sym same) (log_at_end L h a s l legal own begun is) in
          let over : closed (followed h (EndClose a t)) s ≡ true = subst (λ (n : ℕ). closed (followed h (EndClose a t)) n ≡ true) same (closed_now h a t) in
          log_past L (followed h (EndClose a t)) a s (with_end a l) ts next lawful.1 inner.1 (closing_stays h (EndClose a t) s begun) over then
      | inr other ↦
          let still : closed (followed h (EndClose a t)) s ≡ false = closed_grows h (EndClose a t) s ∙ or_from (closed h s) (t == s) unclosed (ne_eqb t s other) in
          log_ended L (followed h (EndClose a t)) a s l ts next lawful.1 inner.1 (closing_stays h (EndClose a t) s begun) still so (log_at_other L h a t s l legal lawful.0 other begun is)
    ]

-- ---- the order is one

not_in : (h : History) (a s : ℕ) (ts : List ℕ) → closed h s ≡ true → InEndOrder h a s ts → ⊥
not_in h a s [] so inner = both_ways (closed h s) (innermost_unclosed h a s inner.0).unclosed so
not_in h a s (t ∷ ts) so inner = not_in (followed h (EndClose a t)) a s ts (closed_stays h (EndClose a t) s so) inner.1

not_again : (h : History) (a s x : ℕ) (xs : List ℕ) → innermost h a ≡ Some s → InEndOrder h a s (x ∷ xs) → ⊥
not_again h a s x xs is inner =
    let both : Some x ≡ Some s = sym inner.0 ∙ is in
    let same : x ≡ s = cc in
    not_in (followed h (EndClose a x)) a s xs (subst (λ (n : ℕ). closed (followed h (EndClose a x)) n ≡ true) same (closed_now h a x)) inner.1

-- scopes in the order of their ends, up to the same one, are the same
pub same_order : (h : History) (a s : ℕ) (xs ys : List ℕ) → InEndOrder h a s xs → InEndOrder h a s ys → xs ≡ ys
same_order h a s [] [] first second = refl
same_order h a s [] (y ∷ ys) first second = absurd (not_again h a s y ys first.0 second)
same_order h a s (x ∷ xs) [] first second = absurd (not_again h a s x xs second.0 first)
same_order h a s (x ∷ xs) (y ∷ ys) first second =
    let both : Some x ≡ Some y = sym first.0 ∙ second.0 in
    let same : x ≡ y = cc in
    let rest : InEndOrder (followed h (EndClose a x)) a s ys = subst (λ (n : ℕ). InEndOrder (followed h (EndClose a n)) a s ys) (sym same) second.1 in
    rw (same_order (followed h (EndClose a x)) a s xs ys first.1 rest) (ap (λ n. n ∷ ys) same)

-- all of them are closed by then
pub all_closed : (h : History) (a s : ℕ) (ts : List ℕ) → closed (ended h a (ts ++ s ∷ [])) s ≡ true
all_closed h a s [] = closed_now h a s
all_closed h a s (t ∷ ts) = all_closed (followed h (EndClose a t)) a s ts

abbrev pub AllClosed : History → List ℕ → Type 0
AllClosed h [] = Unit {0}
AllClosed h (t ∷ ts) = (closed h t ≡ true) × AllClosed h ts

-- each of these is closed once its end stands, whatever ends follow
pub members_closed : (h : History) (a : ℕ) (ts rest : List ℕ) → AllClosed (ended h a (ts ++ rest)) ts
members_closed h a [] rest = tt
members_closed h a (t ∷ ts) rest = (closed_still (followed h (EndClose a t)) a t (ts ++ rest) (closed_now h a t), members_closed (followed h (EndClose a t)) a ts rest)
