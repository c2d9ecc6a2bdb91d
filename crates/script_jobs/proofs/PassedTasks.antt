-- How far the tasks of scopes have ended, after one more of them, an event and a command.
use Rattle.std.specs.Prelude.{◌++◌, ◌+◌, ◌<◌, ◌==◌, ◌∷◌, ◌≡◌, ◌≤◌, ◌⊎◌}
use Rattle.script_jobs.specs.{[], ℕ, ArePassed, Ask, Bool, Checked, Command, Do, Equal-is, Err, Event, Fork, Forking, History, IfOk, Knows, Legal, Limits}
use Rattle.script_jobs.specs.{List, None, Ok, OnErr, Option, Performs, Realm, Reply, Result, Retire, Some, after_retiring, base_of, count_by, false, filter, find, followed, forking, is_accepted}
use Rattle.script_jobs.specs.{is_at, is_fork, is_join, is_pending, is_settled, is_task_of, length, lookup, nat_cmp, option_map_or, range_with_len, realm_after, realm_stopped, retire_check, slice_get}
use Rattle.script_jobs.specs.{stage, take, task_numbers, tasks, tasks_of, true, with_event}
use Rattle.script_jobs.proofs.Words.{◌∙◌, ap, append-nil, arith, cond, exact_unsigned, if_one, inl, inr, length-append, refl, same_Some, settled_stays, subst, suc, sym, tasks_forked, tasks_kept, zero}
use Rattle.std.specs.BTreeMap as tree

-- ---- one scope

pub none_passed : (h : History) (s : ℕ) → ArePassed h s 0
none_passed h s = record { within = omega arith; settled = λ i k sooner at. absurd (omega (arith, sooner)) }

within_get : {A : Type 0} (xs : List A) (i : ℕ) (x : A) → slice_get xs i ≡ Some x → i < length xs
within_get [] i x at = absurd cc
within_get (y ∷ xs) zero x at = omega arith
within_get (y ∷ xs) (suc i) x at = omega (arith, within_get xs i x at)

get_before : {A : Type 0} (xs ys : List A) (i : ℕ) → i < length xs → slice_get (xs ++ ys) i ≡ slice_get xs i
get_before [] ys i within = absurd (omega (arith, within))
get_before (x ∷ xs) ys zero within = refl
get_before (x ∷ xs) ys (suc i) within = get_before xs ys i (omega (arith, within))

-- one task more
pub one_passed : (h : History) (s n k : ℕ) → slice_get (tasks_of h s) n ≡ Some k → is_settled (stage h k) ≡ true → ArePassed h s n → ArePassed h s (n + 1)
one_passed h s n k at over was = record {
  within = omega (arith, within_get (tasks_of h s) n k at);
  settled = λ i l sooner there. by i l (cases_le i n sooner) there;
}
  where
    cases_le : (i n : ℕ) → i < n + 1 → (i < n) ⊎ (i ≡ n)
    cases_le zero zero sooner = inr refl
    cases_le zero (suc n) sooner = inl (omega arith)
    cases_le (suc i) zero sooner = absurd (omega (arith, sooner))
    cases_le (suc i) (suc n) sooner = elim (cases_le i n (omega (arith, sooner))) [ inl less ↦ inl (omega (arith, less)) | inr same ↦ inr (ap suc same) ]

    by : (i l : ℕ) → (i < n) ⊎ (i ≡ n) → slice_get (tasks_of h s) i ≡ Some l → is_settled (stage h l) ≡ true
    by i l (inl less) there = was.settled i l less there
    by i l (inr same) there = ap (λ x. is_settled (stage h x)) (same_Some l k (sym there ∙ (ap (slice_get (tasks_of h s)) same ∙ at))) ∙ over

-- a search passes them over
none_found : (p : ℕ → Bool) (xs : List ℕ) (n : ℕ) → ((i k : ℕ) → i < n → slice_get xs i ≡ Some k → p k ≡ false) → find p (take n xs) ≡ None
none_found p xs zero fails = refl
none_found p [] (suc n) fails = refl
none_found p (x ∷ xs) (suc n) fails =
    rw (fails 0 x (omega arith) refl) (none_found p xs n (λ i k sooner at. fails (suc i) k (omega (arith, sooner)) at))

pub passed_over : (h : History) (s n : ℕ) → ArePassed h s n → find (is_pending h) (take n (tasks_of h s)) ≡ None
passed_over h s n it = none_found (is_pending h) (tasks_of h s) n (λ i k sooner at. rw (it.settled i k sooner at) refl)

-- ---- an event

listed_holds : (p : ℕ → Bool) (ks : List ℕ) (j k : ℕ) → slice_get (filter p ks) j ≡ Some k → p k ≡ true
listed_holds p [] j k at = absurd cc
listed_holds p (x ∷ ks) j k at = by (p x) refl j at (λ i there. listed_holds p ks i k there)
  where
    by : (b : Bool) → p x ≡ b → (j : ℕ) → slice_get (cond b (x ∷ filter p ks) (filter p ks)) j ≡ Some k → ((i : ℕ) → slice_get (filter p ks) i ≡ Some k → p k ≡ true) → p k ≡ true
    by true is zero at rest = ap p (sym (same_Some x k at)) ∙ is
    by true is (suc j) at rest = rest j at
    by false is j at rest = rest j at

-- a task of a scope was forked
forked : (h : History) (s i k : ℕ) → slice_get (tasks_of h s) i ≡ Some k → (f : Forking) × (forking h k ≡ Some f)
unfolding tasks_of is_task_of
forked h s i k at = by (forking h k) refl (listed_holds (is_task_of h s) (task_numbers h) i k at)
  where
    by : (o : Option Forking) → forking h k ≡ o → option_map_or (λ (f : Forking). f.scope == s) o false ≡ true → (f : Forking) × (forking h k ≡ Some f)
    by None is holds = absurd cc
    by (Some f) is holds = (f, is)

-- the tasks of a scope grow at the end
grown : (h : History) (e : Event) (s : ℕ) → (more : List ℕ) × (tasks_of (followed h e) s ≡ tasks_of h s ++ more)
grown h (Fork a n label) s = (if_one (n == s) (tasks h + 1), tasks_forked h a n s label)
grown h e s = ([], tasks_kept h e s refl ∙ sym (append-nil (tasks_of h s)))

passed_follows : (L : Limits) (h : History) (e : Event) (s n : ℕ) → Legal L h → ArePassed h s n → ArePassed (followed h e) s n
passed_follows L h e s n legal was =
    let more = grown h e s in
    record {
      within = omega (arith, was.within, ap length more.1, length-append (tasks_of h s) more.0);
      settled = λ i k sooner at.
          let there : slice_get (tasks_of h s) i ≡ Some k = sym (get_before (tasks_of h s) more.0 i (omega (arith, sooner, was.within))) ∙ (sym (ap (λ xs. slice_get xs i) more.1) ∙ at) in
          let it = forked h s i k there in
          settled_stays L h e k it.0 legal it.1 (was.settled i k sooner there);
    }

pub knows_follows : (L : Limits) (h : History) (e : Event) (table : tree.BTreeMap ℕ ℕ) → Legal L h → Knows h table → Knows (followed h e) table
knows_follows L h e table legal knows s n at = passed_follows L h e s n legal (knows s n at)

-- ---- a command

no_tasks : (h : History) (s : ℕ) → length h.events ≡ 0 → tasks_of h s ≡ []
unfolding tasks_of
no_tasks h s none = by h.events refl none
  where
    by : (es : List Event) → h.events ≡ es → length h.events ≡ 0 → filter (is_task_of h s) (task_numbers h) ≡ []
    by [] is none = ap (λ (xs : List Event). filter (is_task_of h s) (range_with_len (h.base.tasks + 1) (count_by is_fork xs))) is
    by (e ∷ es) is none = absurd (omega (arith, none, ap length is))

-- a realm that begins anew has no tasks, nor had it before if it had no events
knows_anew : (h new : History) (table : tree.BTreeMap ℕ ℕ) → length h.events ≡ 0 → Knows h table → Knows new table
knows_anew h new table none knows s n at =
    let none_there : n ≡ 0 = omega (arith, (knows s n at).within, ap length (no_tasks h s none)) in
    subst (ArePassed new s) (sym none_there) (none_passed new s)

-- what a command leaves, if there are not fewer events
pub knows_after : (realm new : Realm) (c : Command) (table : tree.BTreeMap ℕ ℕ) → Legal realm.limits realm.history → new ≡ realm_after realm c → length realm.history.events ≤ length new.history.events → Knows realm.history table → Knows new.history table
unfolding realm_after base_of
knows_after realm new (Do e) table legal is more knows = by (is_accepted realm e) is
  where
    by : (b : Bool) → new ≡ cond b (with_event realm e) realm → Knows new.history table
    by true is = subst (λ (r : Realm). Knows r.history table) (sym is) (knows_follows realm.limits realm.history e table legal knows)
    by false is = subst (λ (r : Realm). Knows r.history table) (sym is) knows
knows_after realm new (Retire a) table legal is more knows = by (retire_check realm.history a) is
  where
    by : (o : Checked) → new ≡ after_retiring realm o → Knows new.history table
    by (Ok done) is = knows_anew realm.history new.history table (omega (arith, more, ap (λ (r : Realm). length r.history.events) is)) knows
    by (Err r) is = subst (λ (r : Realm). Knows r.history table) (sym is) knows
knows_after realm new (Ask asked) table legal is more knows = subst (λ (r : Realm). Knows r.history table) (sym is) knows

-- the same if memory was refused for it
pub knows_stopped : (realm new : Realm) (c : Command) (table : tree.BTreeMap ℕ ℕ) → Legal realm.limits realm.history → new ≡ realm_stopped realm c → length realm.history.events ≤ length new.history.events → Knows realm.history table → Knows new.history table
knows_stopped realm new c table legal is more knows = by (is_join c) is
  where
    by : (b : Bool) → new ≡ cond b (realm_after realm c) realm → Knows new.history table
    by true is = knows_after realm new c table legal is more knows
    by false is = subst (λ (r : Realm). Knows r.history table) (sym is) knows

-- the same of what was performed, or not
pub knows_performed : {E : Type 0} (realm new : Realm) (c : Command) (table : tree.BTreeMap ℕ ℕ) (done : Result Reply E) → IfOk done (λ said. Performs realm c new said) → OnErr done (new ≡ realm_stopped realm c)
    → Legal realm.limits realm.history → length realm.history.events ≤ length new.history.events → Knows realm.history table → Knows new.history table
knows_performed realm new c table (Ok said) performs stopped legal more knows = knows_after realm new c table legal performs.realm more knows
knows_performed realm new c table (Err error) performs stopped legal more knows = knows_stopped realm new c table legal stopped more knows

-- ---- the table

-- an empty one
pub knows_none : (h : History) (table : tree.BTreeMap ℕ ℕ) → table.entries ≡ [] → Knows h table
knows_none h table empty s n at =
    let none : Some n ≡ None = sym at ∙ ap (lookup (is_at (nat_cmp s))) empty in
    absurd cc

-- a number more
pub knows_more : (h : History) (old new : tree.BTreeMap ℕ ℕ) (s n : ℕ) → ((q : ℕ) → tree.get nat_cmp new q ≡ cond (is_at (nat_cmp s) q) (Some n) (tree.get nat_cmp old q)) → ArePassed h s n → Knows h old → Knows h new
knows_more h old new s n writes passed knows q m at = by (is_at (nat_cmp s) q) refl (sym (writes q) ∙ at)
  where
    by : (b : Bool) → is_at (nat_cmp s) q ≡ b → cond b (Some n) (tree.get nat_cmp old q) ≡ Some m → ArePassed h q m
    by true is there =
        let same : s ≡ q = exact_unsigned s q ((Equal-is (nat_cmp s q)).0 is) in
        subst (λ x. ArePassed h x m) same (subst (ArePassed h s) (same_Some n m there) passed)
    by false is there = knows q m there
