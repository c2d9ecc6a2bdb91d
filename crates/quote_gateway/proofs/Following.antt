-- What a history says that goes on by events, and what it said before.
use Rattle.std.specs.Prelude.{◌++◌, ◌||◌, ◌∷◌, ◌≡◌, ◌≤◌}
use Rattle.quote_gateway.specs.{[], ℕ, Bool, Event, Forking, History, LabelValue, Legal, Limits, List, None, Opening, Option, Outcome, Some, before, entry_in, false, filter}
use Rattle.quote_gateway.specs.{followed, forking, is_task_of, joining, label, listing_by, map, opening, outcome, outcome_of, rejected, rejects, state, task_numbers, tasks_of, true}
use Rattle.quote_gateway.proofs.Words.{◌∙◌, and_then_some, ap, append-nil, append_assoc, arith, cases_Bool, eq-eqb, forking_stays, inl, inr, joining_inside, joining_stays, later, length}
use Rattle.quote_gateway.proofs.Words.{like_at_join, opening_stays, option_map, outcome_stays, refl, rejected_grows, subst, sym, take-append-le, take_all, task_there}

-- h begins as g did, with the events of g, and goes on
pub record Follows (g h : History) : Type 0 where
  pub more : List Event
  pub is : h ≡ record { base = g.base; events = g.events ++ more }

pub follows_same : (h : History) → Follows h h
follows_same h = record { more = []; is = ap (λ (es : List Event). record { base = h.base; events = es }) (sym (append-nil h.events)) }

pub follows_event : (g h : History) (e : Event) → Follows g h → Follows g (followed h e)
follows_event g h e on = record {
  more = on.more ++ e ∷ [];
  is = ap (λ (k : History). followed k e) on.is ∙ ap (λ (es : List Event). record { base = g.base; events = es }) (append_assoc g.events on.more (e ∷ []));
}

pub follows_on : (f g h : History) → Follows f g → Follows g h → Follows f h
follows_on f g h first second = record {
  more = first.more ++ second.more;
  is = second.is ∙ (ap (λ (k : History). record { base = k.base; events = k.events ++ second.more }) first.is ∙ ap (λ (es : List Event). record { base = f.base; events = es }) (append_assoc f.events first.more second.more));
}

-- a prefix of g is that of h
pub before_earlier : (g h : History) (i : ℕ) → Follows g h → i ≤ length g.events → before h i ≡ before g i
before_earlier g h i on within = ap (λ (k : History). before k i) on.is ∙ ap (λ (es : List Event). record { base = g.base; events = es }) (take-append-le i g.events on.more within)

-- and g is one
pub before_there : (g h : History) → Follows g h → before h (length g.events) ≡ g
before_there g h on =
    before_earlier g h (length g.events) on (omega arith)
    ∙ ap (λ (es : List Event). record { base = g.base; events = es }) (take_all (length g.events) g.events (omega arith))

-- so what each event keeps is so still
pub kept_after : (P : History → Type 0) → ((k : History) (e : Event) → P k → P (followed k e)) → (g h : History) → Follows g h → P g → P h
kept_after P kept g h on so = later P kept h (length g.events) (subst P (sym (before_there g h on)) so)

pub opening_after : (g h : History) (s : ℕ) (o : Opening) → Follows g h → opening g s ≡ Some o → opening h s ≡ Some o
opening_after g h s o on is = kept_after (λ k. opening k s ≡ Some o) (λ k e was. opening_stays k e s o was) g h on is

pub outcome_after : (g h : History) (s : ℕ) (o : Outcome) → Follows g h → outcome g s ≡ Some o → outcome h s ≡ Some o
outcome_after g h s o on is = kept_after (λ k. outcome k s ≡ Some o) (λ k e was. outcome_stays k e s o was) g h on is

joining_after : (g h : History) (s i : ℕ) → Follows g h → joining g s ≡ Some i → joining h s ≡ Some i
joining_after g h s i on is = kept_after (λ k. joining k s ≡ Some i) (λ k e was. joining_stays k e s i was) g h on is

-- ---- tasks

pub task_is : (h : History) (s k : ℕ) (f : Forking) → forking h k ≡ Some f → f.scope ≡ s → is_task_of h s k ≡ true
unfolding is_task_of
task_is h s k f is of = rw is (eq-eqb f.scope s of)

task_stays : (h : History) (e : Event) (s k : ℕ) → is_task_of h s k ≡ true → is_task_of (followed h e) s k ≡ true
task_stays h e s k so =
    let it = task_there h s k so in
    task_is (followed h e) s k it.forked (forking_stays h e k it.forked it.is) it.of

pub task_after : (g h : History) (s k : ℕ) → Follows g h → is_task_of g s k ≡ true → is_task_of h s k ≡ true
task_after g h s k on so = kept_after (λ f. is_task_of f s k ≡ true) (λ f e was. task_stays f e s k was) g h on so

or_stays : (b c : Bool) → b ≡ true → (b || c) ≡ true
or_stays true c so = refl
or_stays false c so = absurd cc

pub rejected_after : (g h : History) (k : ℕ) → Follows g h → rejected g k ≡ true → rejected h k ≡ true
rejected_after g h k on so = kept_after (λ f. rejected f k ≡ true) (λ f e was. rejected_grows f e k ∙ or_stays (rejected f k) (rejects k e) was) g h on so

label_by : (h : History) (e : Event) (k : ℕ) (l : LabelValue) (o : Option Forking) → forking h k ≡ o → option_map (λ (f : Forking). f.label) o ≡ Some l → option_map (λ (f : Forking). f.label) (forking (followed h e) k) ≡ Some l
label_by h e k l None is so = absurd cc
label_by h e k l (Some f) is so = ap (option_map (λ (x : Forking). x.label)) (forking_stays h e k f is) ∙ so

label_stays : (h : History) (e : Event) (k : ℕ) (l : LabelValue) → label h k ≡ Some l → label (followed h e) k ≡ Some l
unfolding label
label_stays h e k l so = label_by h e k l (forking h k) refl so

pub label_after : (g h : History) (k : ℕ) (l : LabelValue) → Follows g h → label g k ≡ Some l → label h k ≡ Some l
label_after g h k l on so = kept_after (λ f. label f k ≡ Some l) (λ f e was. label_stays f e k l was) g h on so

-- tasks keep their labels
pub labels_stay : (h : History) (e : Event) (ks : List ℕ) (ls : List LabelValue) → map (label h) ks ≡ map Some ls → map (label (followed h e)) ks ≡ map Some ls
labels_stay h e [] ls so = so
labels_stay h e (k ∷ ks) [] so = absurd cc
labels_stay h e (k ∷ ks) (l ∷ ls) so =
    let first : label h k ≡ Some l = cc in
    let rest : map (label h) ks ≡ map Some ls = cc in
    rw (label_stays h e k l first, labels_stay h e ks ls rest) refl

pub labels_after : (g h : History) (ks : List ℕ) (ls : List LabelValue) → Follows g h → map (label g) ks ≡ map Some ls → map (label h) ks ≡ map Some ls
labels_after g h ks ls on so = kept_after (λ f. map (label f) ks ≡ map Some ls) (λ f e was. labels_stay f e ks ls was) g h on so

-- ---- after a join

mapped_alike : {A : Type 0} (p : ℕ → Bool) (f g : ℕ → A) (ns : List ℕ) → ((k : ℕ) → p k ≡ true → f k ≡ g k) → map f (filter p ns) ≡ map g (filter p ns)
mapped_alike p f g [] same = refl
mapped_alike p f g (n ∷ ns) same =
    let rest = mapped_alike p f g ns same in
    elim (cases_Bool (p n)) [
      | inl so ↦ let here = same n so in rw so (rw (here, rest) refl)
      | inr other ↦ rw other rest
    ]

-- the tasks and their states are those at the join
listed_at_join : (L : Limits) (h : History) (s i : ℕ) → Legal L h → joining h s ≡ Some i → listing_by (state h) (tasks_of h s) ≡ listing_by (state (before h i)) (tasks_of (before h i) s)
unfolding tasks_of
listed_at_join L h s i legal is =
    let like = like_at_join L h s i legal is in
    mapped_alike (is_task_of h s) (λ k. entry_in k (state h k)) (λ k. entry_in k (state (before h i) k)) (task_numbers h) (λ k so. ap (entry_in k) (like.states k (task_there h s k so)))
    ∙ ap (listing_by (state (before h i))) like.tasks

joining_of : (h : History) (s : ℕ) (o : Outcome) → outcome h s ≡ Some o → (i : ℕ) × (joining h s ≡ Some i)
unfolding outcome
joining_of h s o is =
    let it = and_then_some (λ (i : ℕ). option_map (outcome_of (before h i) s) (opening h s)) (joining h s) o is in
    (it.0, it.1)

-- what is joined keeps its tasks
pub tasks_joined : (L : Limits) (g h : History) (s : ℕ) (o : Outcome) → Legal L g → Legal L h → Follows g h → outcome g s ≡ Some o → tasks_of h s ≡ tasks_of g s
tasks_joined L g h s o legal_g legal_h on is =
    let at = joining_of g s o is in
    let there = joining_after g h s at.0 on at.1 in
    let inside = joining_inside g s at.0 at.1 in
    (like_at_join L h s at.0 legal_h there).tasks
    ∙ (ap (λ (k : History). tasks_of k s) (before_earlier g h at.0 on (omega (arith, inside))) ∙ sym (like_at_join L g s at.0 legal_g at.1).tasks)

-- and their states
pub listing_joined : (L : Limits) (g h : History) (s : ℕ) (o : Outcome) → Legal L g → Legal L h → Follows g h → outcome g s ≡ Some o → listing_by (state h) (tasks_of h s) ≡ listing_by (state g) (tasks_of g s)
listing_joined L g h s o legal_g legal_h on is =
    let at = joining_of g s o is in
    let there = joining_after g h s at.0 on at.1 in
    let inside = joining_inside g s at.0 at.1 in
    listed_at_join L h s at.0 legal_h there
    ∙ (ap (λ (k : History). listing_by (state k) (tasks_of k s)) (before_earlier g h at.0 on (omega (arith, inside))) ∙ sym (listed_at_join L g s at.0 legal_g at.1))
