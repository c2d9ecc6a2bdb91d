-- That want of memory is no reply: a command that would be told so leaves the realm as it was.
use Rattle.std.proofs.Common.{◌&&◌, ◌∙◌, ◌≡◌, Bool, Err, None, Ok, Option, Some, false, if◌then◌else◌, inl, inr, is_ok, not, ok_or, refl, subst, sym, true}
use Rattle.script_words.specs.declared.commands.Command.{Command}
use Rattle.scope_script.specs.{Ask, Checked, Do, Event, History, Memory, NotJoined, Origin, Outcome, Performs, PerformsOrStops, Realm, Reply, Retire, after_retiring, answering, base_of, check_of, event_reply_of, followed}
use Rattle.scope_script.specs.{is_already, is_join, outcome, realm_after, realm_stopped, refused_or, replied, reply_to, retire_check, told_base, with_event}
use Rattle.scope_rules.specs.declared.types.events.Event.TheVariants as event
use Rattle.script_words.specs.declared.reply.Reply.TheVariants as reply

outcome_is_told : (o : Option Outcome) → replied reply.Outcome (ok_or o NotJoined) ≡ reply.Refused Memory → ⊥
outcome_is_told (Some x) is = cc
outcome_is_told None is = cc

-- no event is told that memory was refused
event_is_told : (h : History) (e : Event) → event_reply_of h e ≡ reply.Refused Memory → ⊥
event_is_told h (event.Join actor scope) is = outcome_is_told (outcome (followed h (event.Join actor scope)) scope) is
event_is_told h _ is = cc

refused_by_check : (old : Realm) (e : Event) (check : Checked) (already : Bool) (told : Reply) → (told ≡ reply.Refused Memory → ⊥) → reply.Refused Memory ≡ refused_or check (if already then reply.Already else told) → (if is_ok check && not already then with_event old e else old) ≡ old
refused_by_check old e (Ok done) true told never is = refl
refused_by_check old e (Ok done) false told never is = absurd (never (sym is))
refused_by_check old e (Err r) already told never is = refl

retire_refused : (old : Realm) (check : Checked) (value : Origin) → reply.Refused Memory ≡ replied told_base (answering check value) → after_retiring old check ≡ old
retire_refused old (Ok done) value is = absurd cc
retire_refused old (Err r) value is = refl

-- a command that is told so changes nothing
leaves_all : (old : Realm) (c : Command) → reply.Refused Memory ≡ reply_to old c → realm_after old c ≡ old
unfolding reply_to realm_after
leaves_all old (Do e) is = refused_by_check old e (check_of old.limits old.history e) (is_already old.history e) (event_reply_of old.history e) (event_is_told old.history e) is
leaves_all old (Retire actor) is = retire_refused old (retire_check old.history actor) (base_of old.history) is
leaves_all old (Ask asked) is = refl

stopped_if : (old left new : Realm) (join : Bool) → new ≡ left → left ≡ old → new ≡ (if join then left else old)
stopped_if old left new true is same = is
stopped_if old left new false is same = is ∙ same

stopped_of_performed : (old : Realm) (c : Command) (new : Realm) → Performs old c new (reply.Refused Memory) → new ≡ realm_stopped old c
stopped_of_performed old c new done = stopped_if old (realm_after old c) new (is_join c) done.realm (leaves_all old c done.reply)

-- at want of memory the command has stopped
pub stopped_at : (old : Realm) (c : Command) (new : Realm) (said : Reply) → said ≡ reply.Refused Memory → PerformsOrStops old c new said → new ≡ realm_stopped old c
stopped_at old c new said is (inl none) = none.stopped
stopped_at old c new said is (inr done) = stopped_of_performed old c new (subst (Performs old c new) is done)
