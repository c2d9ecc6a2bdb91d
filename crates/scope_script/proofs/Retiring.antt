-- The run of a list of commands with its retirements, beside its run without them.
use Rattle.std.proofs.Common.{[], ℕ, ◌&&◌, ◌++◌, ◌∙◌, ◌∷◌, ◌≡◌, Bool, Err, List, None, Ok, Option, Some, ap, cond, false, inl, inr, is_ok, is_some, not, refl, subst, sym, true}
use Rattle.script_words.specs.declared.commands.Command.{Command}
use Rattle.scope_script.specs.{Accepts, Ask, Checked, Do, Event, History, Legal, Limits, NamesNone, Query, Realm, RepliesStay, Reply, ReplyTextStays, Retirable, Retire, RetiresFreely, TooMany, after_retiring, asks_let_go, base_of}
use Rattle.scope_script.specs.{check_of, fresh, innermost, is_already, is_retirement, is_too_many, last_of, latest, left, lines_of, list_any, moment, names_let_go, passed_reply, realm_after, realm_after_all, refused_or}
use Rattle.scope_script.specs.{replies_aside, replies_in_turn, reply_to, retire_check, retired, stack, starting, tell_let_go, tells_let_go, the_start, unretired, with_event, without_retirements}
use Rattle.scope_script.proofs.Lemmas.{answers_alike, append-nil, checks_at, legal_push, not_refused, or_left, or_right, retired_again, same_innermost}
use Rattle.scope_script.proofs.AnsweredAlike.{answers_to, event_more, names_more, passed_alike}

-- what was retired of the run so far, and what came since
pub record Folded : Type 0 where
  pub past : Retirable
  pub since : List Event
  pub none : NamesNone past since
  pub legal : Legal past.limits (unretired past since)

-- the realm of the run without retirements, and of the run with them
abbrev pub whole : Folded → Realm
whole f = record { limits = f.past.limits; history = unretired f.past f.since }

abbrev pub rest : Folded → Realm
rest f = record { limits = f.past.limits; history = retired f.past f.since }

-- both realms after one more command
pub record StepsAlike (f : Folded) (without rest_now : Realm) : Type 0 where
  pub next : Folded
  pub limits : next.past.limits ≡ f.past.limits
  pub is_whole : without ≡ whole next
  pub is_rest : rest_now ≡ rest next

stays : (f : Folded) → StepsAlike f (whole f) (rest f)
stays f = record { next = f; limits = refl; is_whole = refl; is_rest = refl }

-- ---- an event

adds : (f : Folded) (e : Event) → names_let_go (left f.past) e ≡ false → Accepts f.past.limits (unretired f.past f.since) e → StepsAlike f (with_event (whole f) e) (with_event (rest f) e)
adds f e new ok =
    let more = event_more f.past f.since e in
    record {
      next = record {
        past = f.past;
        since = f.since ++ e ∷ [];
        none = names_more f.past f.since e f.none new;
        legal = subst (λ (g : History). Legal f.past.limits g) more (legal_push f.past.limits (unretired f.past f.since) e f.legal ok);
      };
      limits = refl;
      is_whole = ap (λ (g : History). record { limits = f.past.limits; history = g }) more;
      is_rest = refl;
    }

adds_by : (f : Folded) (e : Event) (c d : Checked) (a b : Bool) → names_let_go (left f.past) e ≡ false → check_of f.past.limits (unretired f.past f.since) e ≡ c → is_already (unretired f.past f.since) e ≡ a → c ≡ d → a ≡ b
    → StepsAlike f (cond (is_ok c && not a) (with_event (whole f) e) (whole f)) (cond (is_ok d && not b) (with_event (rest f) e) (rest f))
adds_by f e c d a b new passed recorded same alike =
    let P : Checked → Type 0 = λ x. StepsAlike f (cond (is_ok c && not a) (with_event (whole f) e) (whole f)) (cond (is_ok x && not b) (with_event (rest f) e) (rest f)) in
    let Q : Bool → Type 0 = λ x. StepsAlike f (cond (is_ok c && not a) (with_event (whole f) e) (whole f)) (cond (is_ok c && not x) (with_event (rest f) e) (rest f)) in
    subst P same (subst Q alike (both c a passed recorded))
  where
    both : (c : Checked) (a : Bool) → check_of f.past.limits (unretired f.past f.since) e ≡ c → is_already (unretired f.past f.since) e ≡ a → StepsAlike f (cond (is_ok c && not a) (with_event (whole f) e) (whole f)) (cond (is_ok c && not a) (with_event (rest f) e) (rest f))
    both (Err x) a passed recorded = stays f
    both (Ok tt) true passed recorded = stays f
    both (Ok tt) false passed recorded = adds f e new (record { passed = passed; recorded = recorded })

refused_full : (c : Checked) (said : Reply) → c ≡ Err TooMany → is_too_many (refused_or c said) ≡ true
refused_full c said full = ap (λ x. is_too_many (refused_or x said)) full

-- the check is the same, since the reply is no `too-many`
same_check : (f : Folded) (e : Event) → names_let_go (left f.past) e ≡ false → is_too_many (refused_or (check_of f.past.limits (unretired f.past f.since) e) (passed_reply (unretired f.past f.since) e)) ≡ false
    → check_of f.past.limits (unretired f.past f.since) e ≡ check_of f.past.limits (retired f.past f.since) e
same_check f e new enough =
    elim ((answers_alike f.past f.since f.none).events e new).refused [
      | inl same ↦ same
      | inr full ↦ absurd (cc (refused_full (check_of f.past.limits (unretired f.past f.since) e) (passed_reply (unretired f.past f.since) e) full, enough))
    ]

-- ---- a retirement

retires : (f : Folded) → innermost (retired f.past f.since) 0 ≡ None → StepsAlike f (whole f) (starting f.past.limits (base_of (retired f.past f.since)))
unfolding base_of
retires f closed =
    let none : innermost (unretired f.past f.since) 0 ≡ None = same_innermost f.past f.since 0 ∙ closed in
    let nothing_more : unretired f.past f.since ≡ record { base = f.past.past.base; events = (f.past.past.events ++ f.since) ++ [] } = ap (λ xs. record { base = f.past.past.base; events = xs }) (sym (append-nil (f.past.past.events ++ f.since))) in
    record {
      next = record {
        past = record { limits = f.past.limits; past = unretired f.past f.since; legal = f.legal; none = none };
        since = [];
        none = λ i e at. absurd cc;
        legal = subst (λ (g : History). Legal f.past.limits g) nothing_more f.legal;
      };
      limits = refl;
      is_whole = ap (λ (g : History). record { limits = f.past.limits; history = g }) nothing_more;
      is_rest = ap (λ b. starting f.past.limits b) (sym (retired_again f.past f.since f.none));
    }

no_scope : (o : Option ℕ) → is_some o ≡ false → o ≡ None
no_scope None is = refl
no_scope (Some s) is = absurd cc

retires_by : (f : Folded) (a : ℕ) (c : Checked) → retire_check (retired f.past f.since) a ≡ c → StepsAlike f (whole f) (after_retiring (rest f) c)
unfolding retire_check
retires_by f a (Err x) is = stays f
retires_by f a (Ok tt) is = retires f (no_scope (innermost (retired f.past f.since) 0) (not_refused _ _ (checks_at _ 2 _ is refl)))

-- ---- the start

pub starts : (L : Limits) → Folded
unfolding Legal innermost latest
starts L = record {
  past = record { limits = L; past = record { base = the_start; events = [] }; legal = λ i e at. absurd cc; none = refl };
  since = [];
  none = λ i e at. absurd cc;
  legal = λ i e at. absurd cc;
}

starts_whole : (L : Limits) → fresh L ≡ whole (starts L)
unfolding starts
starts_whole L = refl

starts_rest : (L : Limits) → fresh L ≡ rest (starts L)
unfolding starts moment last_of stack
starts_rest L = refl

-- ---- the run

-- the two runs from here on: what they answer, and what they leave
pub record RunsAlike (f : Folded) (without with_them : List Command) : Type 0 where
  pub replies : replies_in_turn (whole f) without ≡ replies_aside (rest f) with_them
  pub last : Folded
  pub is_whole : realm_after_all (whole f) without ≡ whole last
  pub is_rest : realm_after_all (rest f) with_them ≡ rest last

ends : (f : Folded) → RunsAlike f [] []
unfolding replies_in_turn replies_aside realm_after_all
ends f = record { replies = refl; last = f; is_whole = refl; is_rest = refl }

-- a command that is no retirement
goes_on : (f : Folded) (command : Command) (ws cs : List Command) → is_retirement command ≡ false → reply_to (whole f) command ≡ reply_to (rest f) command → (step : StepsAlike f (realm_after (whole f) command) (realm_after (rest f) command)) → RunsAlike step.next ws cs → RunsAlike f (command ∷ ws) (command ∷ cs)
unfolding replies_in_turn replies_aside realm_after_all
goes_on f command ws cs kept same step run = record {
  replies =
      ap (λ said. said ∷ replies_in_turn (realm_after (whole f) command) ws) same
      ∙ (ap (λ (g : Realm). reply_to (rest f) command ∷ replies_in_turn g ws) step.is_whole
      ∙ (ap (λ rs. reply_to (rest f) command ∷ rs) run.replies
      ∙ (sym (ap (λ (g : Realm). reply_to (rest f) command ∷ replies_aside g cs) step.is_rest)
      ∙ sym (ap (λ b. cond b (replies_aside (realm_after (rest f) command) cs) (reply_to (rest f) command ∷ replies_aside (realm_after (rest f) command) cs)) kept))));
  last = run.last;
  is_whole = ap (λ (g : Realm). realm_after_all g ws) step.is_whole ∙ run.is_whole;
  is_rest = ap (λ (g : Realm). realm_after_all g cs) step.is_rest ∙ run.is_rest;
}

-- a retirement, which stands in the one run alone
goes_past : (f : Folded) (actor : ℕ) (ws cs : List Command) → (step : StepsAlike f (whole f) (realm_after (rest f) (Retire actor))) → RunsAlike step.next ws cs → RunsAlike f ws (Retire actor ∷ cs)
unfolding replies_aside realm_after_all
goes_past f actor ws cs step run = record {
  replies = ap (λ (g : Realm). replies_in_turn g ws) step.is_whole ∙ (run.replies ∙ sym (ap (λ (g : Realm). replies_aside g cs) step.is_rest));
  last = run.last;
  is_whole = ap (λ (g : Realm). realm_after_all g ws) step.is_whole ∙ run.is_whole;
  is_rest = ap (λ (g : Realm). realm_after_all g cs) step.is_rest ∙ run.is_rest;
}

-- the runs go alike, if the one meets no limit and the other names no number that was discarded
abbrev MeetsNone : Realm → List Command → Type 0
MeetsNone realm commands = list_any is_too_many (replies_in_turn realm commands) ≡ false

met_here : (realm : Realm) (command : Command) (commands : List Command) → MeetsNone realm (command ∷ commands) → (is_too_many (reply_to realm command) ≡ false) × MeetsNone (realm_after realm command) commands
unfolding replies_in_turn
met_here realm command commands none = (or_left _ _ none, or_right _ _ none)

told_here : (realm : Realm) (command : Command) (commands : List Command) → tell_let_go realm (command ∷ commands) ≡ false → (tells_let_go realm.history.base command ≡ false) × (tell_let_go (realm_after realm command) commands ≡ false)
unfolding tell_let_go
told_here realm command commands none = (or_left _ _ none, or_right _ _ none)

does : (f : Folded) (e : Event) → names_let_go (left f.past) e ≡ false → is_too_many (reply_to (whole f) (Do e)) ≡ false → (reply_to (whole f) (Do e) ≡ reply_to (rest f) (Do e)) × StepsAlike f (realm_after (whole f) (Do e)) (realm_after (rest f) (Do e))
unfolding reply_to realm_after
does f e new enough =
    let same = same_check f e new enough in
    let already = ((answers_alike f.past f.since f.none).events e new).already in (
      ap (λ c. refused_or c (passed_reply (unretired f.past f.since) e)) same ∙ ap (refused_or (check_of f.past.limits (retired f.past f.since) e)) (passed_alike f.past f.since f.none e new),
      adds_by f e (check_of f.past.limits (unretired f.past f.since) e) (check_of f.past.limits (retired f.past f.since) e) (is_already (unretired f.past f.since) e) (is_already (retired f.past f.since) e) new refl refl same already,
    )

retires_here : (f : Folded) (actor : ℕ) → StepsAlike f (whole f) (realm_after (rest f) (Retire actor))
unfolding realm_after
retires_here f actor = retires_by f actor (retire_check (retired f.past f.since) actor) refl

asks : (f : Folded) (asked : Query) → asks_let_go (left f.past) asked ≡ false → (reply_to (whole f) (Ask asked) ≡ reply_to (rest f) (Ask asked)) × StepsAlike f (realm_after (whole f) (Ask asked)) (realm_after (rest f) (Ask asked))
unfolding reply_to realm_after
asks f asked new = (answers_to f.past f.since f.none asked new, stays f)

pub runs_alike : (f : Folded) (commands : List Command) → MeetsNone (whole f) (without_retirements commands) → tell_let_go (rest f) commands ≡ false → RunsAlike f (without_retirements commands) commands
runs_alike f [] enough known = ends f
runs_alike f (Do e ∷ commands) enough known =
    let met = met_here (whole f) (Do e) (without_retirements commands) enough in
    let told = told_here (rest f) (Do e) commands known in
    let it = does f e told.0 met.0 in
    goes_on f (Do e) (without_retirements commands) commands refl it.0 it.1
    (runs_alike it.1.next commands (subst (λ (g : Realm). MeetsNone g (without_retirements commands)) it.1.is_whole met.1) (subst (λ (g : Realm). tell_let_go g commands ≡ false) it.1.is_rest told.1))
runs_alike f (Retire actor ∷ commands) enough known =
    let told = told_here (rest f) (Retire actor) commands known in
    let step = retires_here f actor in
    goes_past f actor (without_retirements commands) commands step
    (runs_alike step.next commands (subst (λ (g : Realm). MeetsNone g (without_retirements commands)) step.is_whole enough) (subst (λ (g : Realm). tell_let_go g commands ≡ false) step.is_rest told.1))
runs_alike f (Ask asked ∷ commands) enough known =
    let met = met_here (whole f) (Ask asked) (without_retirements commands) enough in
    let told = told_here (rest f) (Ask asked) commands known in
    let it = asks f asked told.0 in
    goes_on f (Ask asked) (without_retirements commands) commands refl it.0 it.1
    (runs_alike it.1.next commands (subst (λ (g : Realm). MeetsNone g (without_retirements commands)) it.1.is_whole met.1) (subst (λ (g : Realm). tell_let_go g commands ≡ false) it.1.is_rest told.1))

-- from a fresh realm
pub fresh_alike : (L : Limits) (commands : List Command) → RetiresFreely L commands → RunsAlike (starts L) (without_retirements commands) commands
fresh_alike L commands free =
    runs_alike (starts L) commands (subst (λ (g : Realm). MeetsNone g (without_retirements commands)) (starts_whole L) free.enough) (subst (λ (g : Realm). tell_let_go g commands ≡ false) (starts_rest L) free.known)

-- what the two runs leave
pub record LeavesAlike (without with_them : Realm) : Type 0 where
  pub last : Folded
  pub is_whole : without ≡ whole last
  pub is_rest : with_them ≡ rest last

pub leaves_alike : (L : Limits) (commands : List Command) → RetiresFreely L commands → LeavesAlike (realm_after_all (fresh L) (without_retirements commands)) (realm_after_all (fresh L) commands)
leaves_alike L commands free =
    let run = fresh_alike L commands free in
    record {
      last = run.last;
      is_whole = ap (λ (g : Realm). realm_after_all g (without_retirements commands)) (starts_whole L) ∙ run.is_whole;
      is_rest = ap (λ (g : Realm). realm_after_all g commands) (starts_rest L) ∙ run.is_rest;
    }

pub replies_stay : RepliesStay
replies_stay L commands free =
    ap (λ (g : Realm). replies_in_turn g (without_retirements commands)) (starts_whole L)
    ∙ ((fresh_alike L commands free).replies
    ∙ sym (ap (λ (g : Realm). replies_aside g commands) (starts_rest L)))

pub text_stays : ReplyTextStays
text_stays L commands free = ap lines_of (replies_stay L commands free)
