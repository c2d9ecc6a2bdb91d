-- How lists of steps go on one after the other, and what stays so if an actor's scope is open.
use Rattle.std.specs.Prelude.{◌++◌, ◌||◌, ◌∷◌, ◌≡◌}
use Rattle.quote_gateway.specs.{[], ℕ, Accepts, Adds, Agrees, Ask, Asked, Bool, EndClose, Event, Fork, GoesOn, Happened, History, IsBeginning, IsLegal, IsOpenOf, Legal, LegalFrom}
use Rattle.quote_gateway.specs.{Limits, List, Looks, Open, Opening, OwnerValue, Passes, RealmStep, Retirement, SeesMore, Some, TokenOf, advance, advanced, asked, closed, ends, false, followed, fresh}
use Rattle.quote_gateway.specs.{history_of, is_event, is_own, list_any, nests, shapes, true}
use Rattle.quote_gateway.proofs.Words.{◌∙◌, advanced-append, ap, append-nil, append_assoc, beginning_legal, both_ways, closed_grows, ender_passed, eq-eqb, false_from_ne_true, history-push}
use Rattle.quote_gateway.proofs.Words.{legal_advance, legal_beginning, legal_history, list_any-append, none_narrower, nothing_open, opening_stays, or_from, refl, retired_without_scopes, subst, sym}

-- ---- whose such steps are

asks_none : (a : ℕ) (q : Ask) → shapes a (asked q) ≡ false
asks_none a (Ask.Cancel scope) = refl
asks_none a (Ask.Move scope deadline) = refl
asks_none a (Ask.Tick now) = refl

asks_no_nest : (a : ℕ) (q : Ask) → nests a (asked q) ≡ false
asks_no_nest a (Ask.Cancel scope) = refl
asks_no_nest a (Ask.Move scope deadline) = refl
asks_no_nest a (Ask.Tick now) = refl

own_shape : (a : ℕ) (x : RealmStep) → is_event (shapes a) x ≡ true → is_own (TokenOf a) x ≡ true
own_shape a (Happened (Open actor policy options)) so = so
own_shape a (Happened (Fork actor scope label)) so = so
own_shape a (Happened (EndClose actor scope)) so = so
own_shape a (Asked actor q) so = absurd (both_ways (shapes a (asked q)) (asks_none a q) so)
own_shape a _ so = absurd cc

nests_shape : (a : ℕ) (x : RealmStep) → is_event (nests a) x ≡ true → is_event (shapes a) x ≡ true
nests_shape a (Happened (Open actor policy options)) so = so
nests_shape a (Happened (EndClose actor scope)) so = so
nests_shape a (Asked actor q) so = absurd (both_ways (nests a (asked q)) (asks_no_nest a q) so)
nests_shape a _ so = absurd cc

own_nest : (a : ℕ) (x : RealmStep) → is_event (nests a) x ≡ true → is_own (TokenOf a) x ≡ true
own_nest a x so = own_shape a x (nests_shape a x so)

-- ---- one after the other

pub begins_same : (xs : List RealmStep) → IsBeginning xs xs
begins_same xs = record { later = []; is = sym (append-nil xs) }

pub begins_on : (xs ys zs : List RealmStep) → IsBeginning xs ys → IsBeginning ys zs → IsBeginning xs zs
begins_on xs ys zs first second = record {
  later = first.later ++ second.later;
  is = second.is ∙ (ap (λ (l : List RealmStep). l ++ second.later) first.is ∙ append_assoc xs first.later second.later);
}

pub begins_going : (L : Limits) (test : Event → Bool) (xs ys : List RealmStep) → GoesOn L test xs ys → IsBeginning xs ys
begins_going L test xs ys it = record { later = it.later; is = it.is }

pub begins_agreeing : (a : ℕ) (xs ys : List RealmStep) → Agrees (TokenOf a) xs ys → IsBeginning xs ys
begins_agreeing a xs ys it = record { later = it.later; is = it.is }

-- what is there at first goes on to itself
pub goes_nowhere : (L : Limits) (test : Event → Bool) (xs : List RealmStep) → IsLegal L xs → GoesOn L test xs xs
goes_nowhere L test xs lawful = record { later = []; is = sym (append-nil xs); none = refl; legal = lawful }

pub goes_on : (L : Limits) (test : Event → Bool) (xs ys zs : List RealmStep) → GoesOn L test xs ys → GoesOn L test ys zs → GoesOn L test xs zs
goes_on L test xs ys zs first second = record {
  later = first.later ++ second.later;
  is = second.is ∙ (ap (λ (l : List RealmStep). l ++ second.later) first.is ∙ append_assoc xs first.later second.later);
  none = list_any-append (is_event test) first.later second.later ∙ or_from (list_any (is_event test) first.later) (list_any (is_event test) second.later) first.none second.none;
  legal = second.legal;
}

-- if nothing is forked too, no scope is opened or closed
pub scopes_kept : (L : Limits) (a : ℕ) (xs ys : List RealmStep) → GoesOn L (shapes a) xs ys → GoesOn L (nests a) xs ys
scopes_kept L a xs ys it = record {
  later = it.later;
  is = it.is;
  none = none_narrower (is_event (nests a)) (is_event (shapes a)) it.later (nests_shape a) it.none;
  legal = it.legal;
}

-- the steps of others are none
pub agreed : (L : Limits) (a : ℕ) (xs ys : List RealmStep) → Agrees (TokenOf a) xs ys → IsLegal L ys → GoesOn L (shapes a) xs ys
agreed L a xs ys it lawful = record {
  later = it.later;
  is = it.is;
  none = none_narrower (is_event (shapes a)) (is_own (TokenOf a)) it.later (own_shape a) it.others;
  legal = lawful;
}

pub looked : (L : Limits) (a : ℕ) (xs ys : List RealmStep) → Looks (TokenOf a) L xs ys → GoesOn L (shapes a) xs ys
looked L a xs ys it = agreed L a xs ys it.agrees it.legal

one_none : (test : Event → Bool) (x : RealmStep) → is_event test x ≡ false → list_any (is_event test) (x ∷ []) ≡ false
one_none test x none = or_from (is_event test x) false none refl

-- the list before the last step is legal
pub legal_there : (L : Limits) (a : ℕ) (xs ys : List RealmStep) (x : RealmStep) (it : Adds (TokenOf a) L xs x ys) → IsLegal L it.there
legal_there L a xs ys x it = beginning_legal L it.there (x ∷ []) (subst (λ (l : List RealmStep). IsLegal L l) it.is it.legal)

-- and the history is that step's
pub history_added : (L : Limits) (a : ℕ) (xs ys : List RealmStep) (x : RealmStep) (it : Adds (TokenOf a) L xs x ys) → history_of ys ≡ advance (history_of it.there) x
history_added L a xs ys x it = ap history_of it.is ∙ history-push it.there x

module _ (L : Limits) (a : ℕ) (xs ys : List RealmStep) (x : RealmStep) (it : Adds (TokenOf a) L xs x ys) where
  -- a step that is none was added
  pub added : is_event (shapes a) x ≡ false → GoesOn L (shapes a) xs ys
  added none =
      goes_on L (shapes a) xs it.there ys (agreed L a xs it.there it.agrees (legal_there L a xs ys x it)) (record { later = x ∷ []; is = it.is; none = one_none (shapes a) x none; legal = it.legal })

  pub added_inside : is_event (nests a) x ≡ false → GoesOn L (nests a) xs ys
  added_inside none =
      goes_on L (nests a) xs it.there ys (scopes_kept L a xs it.there (agreed L a xs it.there it.agrees (legal_there L a xs ys x it))) (record { later = x ∷ []; is = it.is; none = one_none (nests a) x none; legal = it.legal })

-- ---- tokens

pub same_actor : (old new : OwnerValue) → SeesMore old new → new.actor ≡ old.actor
same_actor old new same = ap (λ (t : OwnerValue). t.actor) same

pub same_limits : (old new : OwnerValue) → SeesMore old new → new.limits ≡ old.limits
same_limits old new same = ap (λ (t : OwnerValue). t.limits) same

-- a token that has seen more, and then more, has seen more
pub sees_on : (old mid new : OwnerValue) → SeesMore old mid → SeesMore mid new → SeesMore old new
sees_on old mid new first second = second ∙ ap (λ (m : OwnerValue). record m { seen = new.seen }) first

-- what is said of the later token's steps is said of the earlier one's
pub for_first : (old mid : OwnerValue) (tests : ℕ → Event → Bool) (xs ys : List RealmStep) → SeesMore old mid → GoesOn mid.limits (tests mid.actor) xs ys → GoesOn old.limits (tests old.actor) xs ys
for_first old mid tests xs ys same it =
    subst (λ (a : ℕ). GoesOn old.limits (tests a) xs ys) (same_actor old mid same)
    (subst (λ (L : Limits). GoesOn L (tests mid.actor) xs ys) (same_limits old mid same) it)

pub tokens_on : (old mid new : OwnerValue) (tests : ℕ → Event → Bool) → SeesMore old mid → GoesOn old.limits (tests old.actor) old.seen mid.seen → GoesOn mid.limits (tests mid.actor) mid.seen new.seen → GoesOn old.limits (tests old.actor) old.seen new.seen
tokens_on old mid new tests same first second = goes_on old.limits (tests old.actor) old.seen mid.seen new.seen first (for_first old mid tests mid.seen new.seen same second)

-- ---- what stays

not_or : (b c : Bool) → (b || c) ≡ false → (b ≡ false) × (c ≡ false)
not_or false false so = (refl, refl)
not_or _ _ so = absurd cc

legal_rest : (L : Limits) (h : History) (xs ys : List RealmStep) → LegalFrom L h (xs ++ ys) → LegalFrom L (advanced h xs) ys
legal_rest L h [] ys lawful = lawful
legal_rest L h (x ∷ xs) ys lawful = legal_rest L (advance h x) xs ys lawful.1

-- the scope stays open at an event that doesn't end it
pub open_followed : (h : History) (a s : ℕ) (e : Event) → IsOpenOf h a s → ends s e ≡ false → IsOpenOf (followed h e) a s
open_followed h a s e it other = record {
  opened = it.opened;
  is = opening_stays h e s it.opened it.is;
  by = it.by;
  unclosed = closed_grows h e s ∙ or_from (closed h s) (ends s e) it.unclosed other;
}

-- the test finds each end of a close of the actor's
abbrev pub FindsEnds : ℕ → (Event → Bool) → Type 0
FindsEnds a test = (t : ℕ) → test (EndClose a t) ≡ true

pub nests_find : (a : ℕ) → FindsEnds a (nests a)
nests_find a t = eq-eqb a a refl

pub shapes_find : (a : ℕ) → FindsEnds a (shapes a)
shapes_find a t = eq-eqb a a refl

-- so if it finds none, the scope stays open
unended : (L : Limits) (h : History) (a s : ℕ) (test : Event → Bool) (e : Event) → FindsEnds a test → IsOpenOf h a s → Accepts L h e → test e ≡ false → ends s e ≡ false
unended L h a s test e finds it ok none =
    false_from_ne_true (ends s e) (λ ended.
    let row = ender_passed L h e s ended ok in
    let owner = row.2.owner in
    let both : Some it.opened ≡ Some owner.opened = sym it.is ∙ owner.is in
    let same : it.opened ≡ owner.opened = cc in
    let actor : row.0 ≡ a = sym owner.by ∙ (ap (λ (o : Opening). o.actor) (sym same) ∙ it.by) in
    let found : test e ≡ true = ap test row.1 ∙ (ap (λ (b : ℕ). test (EndClose b s)) actor ∙ finds s) in
    both_ways (test e) none found)

module _ (L : Limits) (a s : ℕ) (test : Event → Bool) (finds : FindsEnds a test) (P : History → Type 0) (keeps : (h : History) (e : Event) → Legal L h → IsOpenOf h a s → Accepts L h e → test e ≡ false → P h → P (followed h e)) where
  step : (h : History) (x : RealmStep) → Legal L h → IsOpenOf h a s → P h → Passes L h x → is_event test x ≡ false → IsOpenOf (advance h x) a s × P (advance h x)
  step h (Happened e) legal it so ok none = (open_followed h a s e it (unended L h a s test e finds it ok none), keeps h e legal it ok none so)
  step h (Asked b q) legal it so ok none = (open_followed h a s (asked q) it (unended L h a s test (asked q) finds it ok none), keeps h (asked q) legal it ok none so)
  step h Retirement legal it so ok none = absurd (both_ways (closed h s) it.unclosed (nothing_open L h s it.opened legal (retired_without_scopes h ok) it.is))

  walk : (h : History) (later : List RealmStep) → Legal L h → IsOpenOf h a s → P h → LegalFrom L h later → list_any (is_event test) later ≡ false → IsOpenOf (advanced h later) a s × P (advanced h later)
  walk h [] legal it so lawful none = (it, so)
  walk h (x ∷ later) legal it so lawful none =
      let both = not_or (is_event test x) (list_any (is_event test) later) none in
      let next = step h x legal it so lawful.0 both.0 in
      walk (advance h x) later (legal_advance L h x legal lawful.0) next.0 next.1 lawful.1 both.1

  -- an actor's scope stays open, and what each event keeps is so still
  pub walked : (old new : List RealmStep) → GoesOn L test old new → IsOpenOf (history_of old) a s → P (history_of old) → IsOpenOf (history_of new) a s × P (history_of new)
  unfolding history_of IsLegal
  walked old new on it so =
      let lawful : IsLegal L (old ++ on.later) = subst (λ (l : List RealmStep). IsLegal L l) on.is on.legal in
      let there : advanced (history_of old) on.later ≡ history_of new = sym (ap history_of on.is ∙ advanced-append fresh old on.later) in
      subst (λ (h : History). IsOpenOf h a s × P h) there
      (walk (history_of old) on.later (legal_history L old (legal_beginning L fresh old on.later lawful)) it so (legal_rest L fresh old on.later lawful) on.none)

-- it stays open
pub open_going : (L : Limits) (a s : ℕ) (test : Event → Bool) (old new : List RealmStep) → FindsEnds a test → GoesOn L test old new → IsOpenOf (history_of old) a s → IsOpenOf (history_of new) a s
open_going L a s test old new finds on it = (walked L a s test finds (λ h. Unit {0}) (λ h e legal was ok none so. tt) old new on it tt).0
