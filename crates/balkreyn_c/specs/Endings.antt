-- An end that also tells what it changed.
use Rattle.std.specs.Prelude.{ℕ, ℤ, ◌≡◌, ◌⊎◌, Bool, Err, List, None, Ok, Option, Result, Some, false, length, true}
use Rattle.balkreyn_c.specs.Words.{Event, EventReply, History, IsCancelOrderOf, IsNextDeadline, News, NoDeadlineComes, Realm, Refusal, Tells, TimedRealm, forked_in, option_map_or, settled}
use Rattle.balkreyn_c.specs.{Acting.Answers, Acting.Refuses, Numbers.number_of, Numbers.told_number, Timed.with_realm}

-- so many scopes are cancelled
pub record HasCancelled (h : History) (count : ℕ) : Type 0 where
  pub list : List ℕ
  pub order : IsCancelOrderOf h list
  pub counted : count ≡ length list

-- a deadline comes next, and it is this one
pub record HasNext (h : History) (comes : Bool) (deadline : ℕ) : Type 0 where
  pub comes_is : comes ≡ true
  pub next : IsNextDeadline h deadline

-- none comes next
pub record HasNone (h : History) (comes : Bool) (deadline : ℕ) : Type 0 where
  pub comes_is : comes ≡ false
  pub none : NoDeadlineComes h
  pub nothing : deadline ≡ 0

-- the news of the history, as they are told of the task
pub record IsNewsOf (h : History) (task : ℕ) (news : News) : Type 0 where
  pub scope : news.scope ≡ option_map_or (λ s. s) (forked_in h task) 0
  pub quiet : news.quiet ≡ option_map_or (settled h) (forked_in h task) true
  pub cancelled : HasCancelled h news.cancelled
  pub deadline : HasNext h news.comes news.deadline ⊎ HasNone h news.comes news.deadline

-- they are told if the end is recorded
abbrev pub NewsAfter : Result EventReply Refusal → History → ℕ → News → News → Type 0
NewsAfter (Ok reply) h task was now = IsNewsOf h task now
NewsAfter (Err r) h task was now = now ≡ was

-- the end is tried, and the news are told
pub record Ends (old : Realm) (e : Event) (task : ℕ) (answer : ℤ) (new : Realm) (was now : News) : Type 0 where
  pub reply : Result EventReply Refusal
  pub tells : Tells old e reply new
  pub number : answer ≡ number_of told_number reply
  pub news : NewsAfter reply new.history task was now

pub record EndsNone (answer : ℤ) (new : Option TimedRealm) (was now : News) : Type 0 where
  pub answers : Answers answer new
  pub kept : now ≡ was

pub record EndsBad (old : TimedRealm) (answer : ℤ) (new : Option TimedRealm) (was now : News) : Type 0 where
  pub refuses : Refuses old answer new
  pub kept : now ≡ was

pub record EndsIn (old : TimedRealm) (e : Event) (task : ℕ) (answer : ℤ) (new : Option TimedRealm) (was now : News) : Type 0 where
  pub realm : Realm
  pub holds : new ≡ Some (with_realm old realm)
  pub ends : Ends old.realm e task answer realm was now

abbrev pub EndsTold : Option TimedRealm → Option Event → ℕ → ℤ → Option TimedRealm → News → News → Type 0
EndsTold None e task answer new was now = EndsNone answer new was now
EndsTold (Some old) None task answer new was now = EndsBad old answer new was now
EndsTold (Some old) (Some e) task answer new was now = EndsIn old e task answer new was now
