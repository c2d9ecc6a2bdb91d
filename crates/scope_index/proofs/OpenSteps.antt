-- What an open makes of the table.
use Rattle.std.proofs.Common.{[], ℕ, ◌++◌, ◌+◌, ◌||◌, ◌∙◌, ◌∷◌, ◌≡◌, Bool, None, Option, Some, ap, arith, cond, false, inl, inr, length, length-append, option_map, refl, slice_get, subst, suc, sym, true, zero}
use Rattle.scope_index.specs.{AreCancelsOf, CancelTable, Deadline, Event, FirstCancel, History, IsAccountOf, IsNodeOf, JoinerStanding, Legal, Limits, Open, Opening, Options, OwnCancel, Policy, ScopeNode, StandsFor, before}
use Rattle.scope_index.specs.{cancel_at, completions, counting_deadline, deadline, followed, forking, is_open, is_past, joined, joiner_fires, last_of, moment, move_of, opened_count, opening, option_and_then, option_map_or}
use Rattle.scope_index.specs.{option_or, own, own_cancel, scopes, shifted, surrounding}
use Rattle.scope_index.proofs.Words.{HasNoTask, IsOpened, before_last, count_push, forked_opened, forking_same, joined_grows, joined_opened, last_of-push, moved_opened, next_opening, no_completions, own_unopened, push_cases}
use Rattle.scope_index.proofs.Words.{scope_given}
use Rattle.scope_index.proofs.{EventSteps.moment_same, OwnCancels.own_cancel_next, RowSteps.row_stays, TableSteps.account_stays}
use Rattle.scope_rules.specs.Scopes as rules
use Rattle.cancel_tree.specs.Rows as rows

-- the row of a scope that is opened: with its own cancel, if its deadline has passed
abbrev pub opened_row : ℕ → ℕ → ℕ → Option ℕ → Options → ScopeNode
opened_row now place n parent options = record { parent = parent; shield = options.shield; opened = place; own = cond (is_past now options.deadline) (Some (cancel_at place n Deadline)) None; deadline = options.deadline }

-- the number of the next scope was not given yet
next_unopened : (h : History) → IsOpened h (scopes h + 1) → ⊥
next_unopened h it = absurd (omega (arith, (scope_given h (scopes h + 1) it.opened it.is).1))

pub none_by : {A : Type 0} (o : Option A) → ((x : A) → o ≡ Some x → ⊥) → o ≡ None
none_by None no_one = refl
none_by (Some x) no_one = absurd (no_one x refl)

pub false_by : (b : Bool) → (b ≡ true → ⊥) → b ≡ false
false_by true never = absurd (never refl)
false_by false never = refl

next_none : (h : History) → opening h (scopes h + 1) ≡ None
next_none h = none_by (opening h (scopes h + 1)) (λ o is. next_unopened h (record { opened = o; is = is }))

next_unjoined : (L : Limits) (h : History) → Legal L h → joined h (scopes h + 1) ≡ false
next_unjoined L h legal = false_by (joined h (scopes h + 1)) (λ it. next_unopened h (joined_opened L h (scopes h + 1) legal it))

next_unmoved : (L : Limits) (h : History) → Legal L h → last_of (move_of (scopes h + 1)) h.events ≡ None
next_unmoved L h legal = none_by (last_of (move_of (scopes h + 1)) h.events) (λ d it. next_unopened h (moved_opened L h (scopes h + 1) d legal it))

next_without_cancel : (h : History) → own_cancel h (scopes h + 1) ≡ None
next_without_cancel h = ap (option_map (λ (w : OwnCancel). cancel_at w.place (scopes h + 1) w.kind)) (own_unopened h (scopes h + 1) (own h (scopes h + 1)) (next_none h) refl)

-- the deadline of a new scope is that of its opening
next_deadline : (L : Limits) (h : History) (a : ℕ) (policy : Policy) (options : Options) → Legal L h → counting_deadline (followed h (Open a policy options)) (scopes h + 1) ≡ options.deadline
unfolding counting_deadline deadline
next_deadline L h a policy options legal =
    let e = Open a policy options in
    let s = scopes h + 1 in
    ap (λ j. cond j None (deadline (followed h e) s)) (joined_grows h e s ∙ ap (λ j. j || false) (next_unjoined L h legal))
    ∙ (ap (λ m. option_map_or (λ d. d) m (option_and_then (λ (o : Opening). o.options.deadline) (opening (followed h e) s))) (last_of-push (move_of s) h.events e ∙ next_unmoved L h legal)
    ∙ ap (λ (o : Option Opening). option_and_then (λ (x : Opening). x.options.deadline) o) (next_opening h a policy options))

-- what lies outside a new scope
next_outer : (h : History) (a : ℕ) (policy : Policy) (options : Options) → rules.outer (followed h (Open a policy options)) (scopes h + 1) ≡ cond options.shield None (surrounding h a)
unfolding rules.outer
next_outer h a policy options =
    let e = Open a policy options in
    ap (λ (o : Option Opening). option_and_then (λ (x : Opening). cond x.options.shield None (surrounding (before (followed h e) x.place) x.actor)) o) (next_opening h a policy options)
    ∙ ap (λ (g : History). cond options.shield None (surrounding g a)) (before_last h e)

-- and what lies around it
next_parent : (h : History) (a : ℕ) (policy : Policy) (options : Options) → rules.parent (followed h (Open a policy options)) (scopes h + 1) ≡ surrounding h a
unfolding rules.parent
next_parent h a policy options =
    let e = Open a policy options in
    ap (λ (o : Option Opening). option_and_then (λ (x : Opening). surrounding (before (followed h e) x.place) x.actor) o) (next_opening h a policy options)
    ∙ ap (λ (g : History). surrounding g a) (before_last h e)

shielded : (b : ℕ) (shield : Bool) (p : Option ℕ) → cond shield None (option_map (λ x. b + x) p) ≡ option_map (λ x. b + x) (cond shield None p)
shielded b true p = refl
shielded b false p = refl

own_when : (b place n : ℕ) (past : Bool) → option_or None (option_map (λ k. cancel_at place (b + n) k) (cond past (Some Deadline) None)) ≡ option_map (shifted b) (cond past (Some (cancel_at place n Deadline)) None)
own_when b place n true = refl
own_when b place n false = refl

-- the row of the new scope
new_row : (L : Limits) (h : History) (a b n : ℕ) (policy : Policy) (options : Options) (parent : Option ℕ) → Legal L h → b + n ≡ scopes h + 1 → surrounding h a ≡ option_map (λ p. b + p) parent
    → IsNodeOf (followed h (Open a policy options)) b (scopes h + 1) (opened_row (moment h) (length h.events) n parent options)
unfolding joiner_fires
new_row L h a b n policy options parent legal number around =
    let e = Open a policy options in
    let s = scopes h + 1 in
    let deadline = next_deadline L h a policy options legal in
    let now = moment_same h e refl in
    let kind : Option FirstCancel = option_map (λ k. cancel_at (length h.events) s k) (cond (is_past (moment h) options.deadline) (Some Deadline) None) in
    record {
      opened = record { place = length h.events; actor = a; policy = policy; options = options };
      is = next_opening h a policy options;
      place = refl;
      parent = next_parent h a policy options ∙ around;
      outer = next_outer h a policy options ∙ (ap (λ p. cond options.shield None p) around ∙ shielded b options.shield parent);
      own =
          own_cancel_next h e s _ (next_opening h a policy options)
          ∙ (ap (λ d. option_or (own_cancel h s) (option_map (λ k. cancel_at (length h.events) s k) (cond (is_past (moment (followed h e)) d) (Some Deadline) None))) deadline
          ∙ (ap (λ m. option_or (own_cancel h s) (option_map (λ k. cancel_at (length h.events) s k) (cond (is_past m options.deadline) (Some Deadline) None))) now
          ∙ (ap (λ o. option_or o kind) (next_without_cancel h)
          ∙ (ap (λ t. option_or None (option_map (λ k. cancel_at (length h.events) t k) (cond (is_past (moment h) options.deadline) (Some Deadline) None))) (sym number)
          ∙ own_when b (length h.events) n (is_past (moment h) options.deadline)))));
      deadline = deadline;
    }

-- no task was forked in a new scope
no_task : (L : Limits) (h : History) (a : ℕ) (policy : Policy) (options : Options) → Legal L h → HasNoTask (followed h (Open a policy options)) (scopes h + 1)
no_task L h a policy options legal k f is same =
    let was : forking h k ≡ Some f = sym (forking_same h (Open a policy options) k refl) ∙ is in
    next_unopened h (subst (IsOpened h) same (forked_opened L h k f legal was))

pub opened_next : (L : Limits) (h : History) (a : ℕ) (policy : Policy) (options : Options) (old new : CancelTable) (parent : Option ℕ) (account : JoinerStanding) → Legal L h → AreCancelsOf h old
    → surrounding h a ≡ option_map (λ p. old.before + p) parent
    → new.before ≡ old.before → new.moment ≡ old.moment
    → new.nodes ≡ old.nodes ++ opened_row old.moment (length h.events) (length old.nodes + 1) parent options ∷ []
    → new.accounts ≡ old.accounts ++ account ∷ [] → account.policy ≡ policy → StandsFor account []
    → AreCancelsOf (followed h (Open a policy options)) new
unfolding joiner_fires
opened_next L h a policy options old new parent account legal was around before moment_is nodes accounts rule stands = record {
  numbered = before ∙ was.numbered;
  moment = moment_is ∙ (was.moment ∙ sym now);
  count = ap length nodes ∙ omega (arith, length-append old.nodes (row ∷ []), was.count, grown);
  counted = ap length accounts ∙ omega (arith, length-append old.accounts (account ∷ []), was.counted, grown);
  rows = λ n t is. subst (λ b. IsNodeOf (followed h e) b (b + n) t) (sym before) (row_at n t (sym (ap (λ rs. rows.row rs n) nodes) ∙ is));
  accounts = λ i x is. subst (λ b. IsAccountOf (followed h e) (b + 1 + i) x) (sym before) (account_at i x (sym (ap (λ xs. slice_get xs i) accounts) ∙ is));
}
  where
    e : Event
    e = Open a policy options

    now : moment (followed h (Open a policy options)) ≡ moment h
    now = moment_same h (Open a policy options) refl

    grown : opened_count (followed h (Open a policy options)) ≡ opened_count h + 1
    grown = count_push is_open h.events (Open a policy options)

    row : ScopeNode
    row = opened_row old.moment (length h.events) (length old.nodes + 1) parent options

    number : old.before + (length old.nodes + 1) ≡ scopes h + 1
    number = omega (arith, was.numbered, was.count)

    newest : IsNodeOf (followed h (Open a policy options)) old.before (old.before + (length old.nodes + 1)) (opened_row old.moment (length h.events) (length old.nodes + 1) parent options)
    newest = subst (λ s. IsNodeOf (followed h (Open a policy options)) old.before s (opened_row old.moment (length h.events) (length old.nodes + 1) parent options)) (sym number)
        (subst (λ m. IsNodeOf (followed h (Open a policy options)) old.before (scopes h + 1) (opened_row m (length h.events) (length old.nodes + 1) parent options)) (sym was.moment)
        (new_row L h a old.before (length old.nodes + 1) policy options parent legal number around))

    row_at : (n : ℕ) (t : ScopeNode) → rows.row (old.nodes ++ opened_row old.moment (length h.events) (length old.nodes + 1) parent options ∷ []) n ≡ Some t → IsNodeOf (followed h (Open a policy options)) old.before (old.before + n) t
    row_at zero t is = absurd cc
    row_at (suc i) t is =
        elim (push_cases old.nodes (opened_row old.moment (length h.events) (length old.nodes + 1) parent options) i t is) [
          | inl here ↦ (let same : suc i ≡ length old.nodes + 1 = omega (arith, here.0) in
              subst (λ m. IsNodeOf (followed h (Open a policy options)) old.before (old.before + m) t) (sym same)
              (subst (IsNodeOf (followed h (Open a policy options)) old.before (old.before + (length old.nodes + 1))) (sym here.1) newest))
          | inr there ↦ row_stays L h (Open a policy options) old.before (suc i) t legal (was.rows (suc i) t there.1) now refl refl refl refl
        ]

    account_at : (i : ℕ) (x : JoinerStanding) → slice_get (old.accounts ++ account ∷ []) i ≡ Some x → IsAccountOf (followed h (Open a policy options)) (old.before + 1 + i) x
    account_at i x is =
        elim (push_cases old.accounts account i x is) [
          | inl here ↦ (let same : scopes h + 1 ≡ old.before + 1 + i = omega (arith, here.0, was.numbered, was.counted) in
              subst (λ s. IsAccountOf (followed h (Open a policy options)) s x) same (record {
                opened = record { place = length h.events; actor = a; policy = policy; options = options };
                is = next_opening h a policy options;
                policy = ap (λ (y : JoinerStanding). y.policy) here.1 ∙ rule;
                stands = subst (λ y. StandsFor y (completions (followed h (Open a policy options)) (scopes h + 1))) (sym here.1)
                    (subst (StandsFor account) (sym (no_completions (followed h (Open a policy options)) (scopes h + 1) (no_task L h a policy options legal))) stands);
              }))
          | inr there ↦ account_stays L h (Open a policy options) (old.before + 1 + i) x legal refl (was.accounts i x there.1)
        ]
