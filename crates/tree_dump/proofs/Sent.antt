-- How an object's members and a list's items follow one another, and how many tasks a scope has.
use Rattle.std.proofs.Common.{[], ℕ, ◌&&◌, ◌+◌, ◌∙◌, ◌∷◌, ◌≡◌, ◌≤◌, Bool, List, None, Option, Some, ap, arith, codes, cond, count_by, drop, false, length, map, option_map, refl, slice_get, subst, suc, sym, true}
use Rattle.tree_dump.specs.{Data, Finished, History, Items, Log, Logs, Members, Never, Running, ScopeInfo, SendsItems, SendsMember, SendsMembers, SendsMore, SendsSince, SendsValue, Stage, TaskTimes, TaskTold, Waiting, array}
use Rattle.tree_dump.specs.{boolean, cause_or_null, counts, expiry_word, is_at, is_stage, is_task_of, items_len, items_of, joiner_text, map_begins, map_ends, member, members_len, no_members, number, number_or_null, object}
use Rattle.tree_dump.specs.{result_data, scope_members, scope_object, scope_stage_word, seq_ends, stage, stage_word, state_word, string, task_members, task_numbers, task_object, tasks_of, text_of, unsigned, with_more, with_since}
use Rattle.tree_dump.proofs.Lemmas.{drop_all, drop_more, get_or_from_slice_get, length-filter, slice_get_within, sum_by-cons}

-- ---- members and items

pub member_sent : (key : List ℕ) (value : Data) (rest : Members) (old mid new : Log) → SendsMember key value old mid → SendsMembers rest mid new → SendsMembers (member key value rest) old new
member_sent key value rest old mid new one more = (one.0, mid, one.1, one.2, more)

pub object_sent : (ms : Members) (n : ℕ) (old first new : Log) → n ≡ members_len ms → Logs old first (map_begins (Some n)) → SendsMembers ms first new → SendsValue (object ms) old new
object_sent ms n old first new many begun more = (first, subst (λ k. Logs old first (map_begins (Some k))) many begun, more)

-- one item more is sent
pub item_sent : (f : ℕ → Data) (ks : List ℕ) (i k : ℕ) (old mid end : Log) → slice_get ks i ≡ Some k → SendsValue (f k) old mid →
    SendsItems (items_of (map f (drop (i + 1) ks))) mid end → SendsItems (items_of (map f (drop i ks))) old end
item_sent f ks i k old mid end at one more =
    let first = drop_more ks i k (slice_get_within ks i k at) ∙ ap (λ x. x ∷ drop (i + 1) ks) (get_or_from_slice_get ks i k k at) in
    subst (λ xs. SendsItems (items_of (map f xs)) old end) (sym first) (mid, one, more)

-- if none is left, the list ends
pub items_end : (f : ℕ → Data) (ks : List ℕ) (i : ℕ) (old end : Log) → length ks ≤ i → Logs old end seq_ends → SendsItems (items_of (map f (drop i ks))) old end
items_end f ks i old end past last = subst (λ xs. SendsItems (items_of (map f xs)) old end) (sym (drop_all i ks past)) last

pub member_as : (key : List ℕ) (value other : Data) (old new : Log) → value ≡ other → SendsMember key value old new → SendsMember key other old new
member_as key value other old new same sent = subst (λ d. SendsMember key d old new) same sent

-- ---- the objects

-- a member more, if there is one, and then the rest
more_sent : (key : List ℕ) (value : Option Data) (rest : Members) (old mid new : Log) → SendsMore key value old mid → SendsMembers rest mid new → SendsMembers (with_more key value rest) old new
more_sent key None rest old mid new same more = subst (λ l. SendsMembers rest l new) same more
more_sent key (Some value) rest old mid new one more = (one.0, mid, one.1, one.2, more)

since_sent : (since : Option (Option ℕ)) (rest : Members) (old mid new : Log) → SendsSince since old mid → SendsMembers rest mid new → SendsMembers (with_since since rest) old new
since_sent since rest old mid new one more = more_sent _ (option_map number_or_null since) rest old mid new one more

pub scope_sent : (i : ScopeInfo) (since : Option (Option ℕ)) (inside : Data) (tasks : Items) (expiry how : List ℕ) (old l0 l1 l2 l3 l4 l5 l6 l7 l8 l9 l10 l11 l12 new : Log) →
    expiry ≡ expiry_word i.expiry → how ≡ scope_stage_word i.stage → Logs old l0 (map_begins (Some (scope_members since))) →
    SendsMember (codes "cause") (cause_or_null i.cause) l0 l1 → SendsMember (codes "deadline") (number_or_null i.deadline) l1 l2 →
    SendsMember (codes "expiry") (string expiry) l2 l3 → SendsMember (codes "id") (number (unsigned i.scope)) l3 l4 → SendsMember (codes "inner") inside l4 l5 →
    SendsMember (codes "joined") (boolean i.joined) l5 l6 → SendsMember (codes "joiner") (string (joiner_text i.policy)) l6 l7 →
    SendsMember (codes "owner") (number (unsigned i.owner)) l7 l8 → SendsMember (codes "shield") (boolean i.shield) l8 l9 → SendsSince since l9 l10 →
    SendsMember (codes "stage") (string how) l10 l11 → SendsMember (codes "tasks") (array tasks) l11 l12 → Logs l12 new map_ends →
    SendsValue (scope_object i since inside tasks) old new
unfolding scope_object
scope_sent i since inside tasks expiry how old l0 l1 l2 l3 l4 l5 l6 l7 l8 l9 l10 l11 l12 new e s begun cause deadline by id inner joined joiner owner shield from at list ended =
    let by : SendsMember (codes "expiry") (string (expiry_word i.expiry)) l2 l3 = member_as (codes "expiry") _ _ l2 l3 (ap string e) by in
    let at : SendsMember (codes "stage") (string (scope_stage_word i.stage)) l10 l11 = member_as (codes "stage") _ _ l10 l11 (ap string s) at in (
      l0,
      subst (λ n. Logs old l0 (map_begins (Some n))) (many since) begun,
      (
        cause.0,
        l1,
        cause.1,
        cause.2,
        (
          deadline.0,
          l2,
          deadline.1,
          deadline.2,
          (
            by.0,
            l3,
            by.1,
            by.2,
            (
              id.0,
              l4,
              id.1,
              id.2,
              (
                inner.0,
                l5,
                inner.1,
                inner.2,
                (
                  joined.0,
                  l6,
                  joined.1,
                  joined.2,
                  (
                    joiner.0,
                    l7,
                    joiner.1,
                    joiner.2,
                    (
                      owner.0,
                      l8,
                      owner.1,
                      owner.2,
                      (
                        shield.0,
                        l9,
                        shield.1,
                        shield.2,
                        since_sent since stage_on l9 l10 new from (at.0, l11, at.1, at.2, (list.0, l12, list.1, list.2, ended)),
                      ),
                    ),
                  ),
                ),
              ),
            ),
          ),
        ),
      ),
    )
  where
    stage_on : Members
    stage_on = member (codes "stage") (string (scope_stage_word i.stage)) (member (codes "tasks") (array tasks) no_members)

    many : (since : Option (Option ℕ)) → scope_members since ≡ suc (suc (suc (suc (suc (suc (suc (suc (suc (members_len (with_since since stage_on))))))))))
    many None = refl
    many (Some reading) = refl

pub task_sent : (t : TaskTold) (times : Option TaskTimes) (inside : Data) (name how state : List ℕ) (old l0 l1 l2 l3 l4 l5 l6 l7 l8 new : Log) →
    name ≡ text_of t.label.name → how ≡ stage_word t.stage → state ≡ state_word t.state → Logs old l0 (map_begins (Some (task_members times))) →
    SendsMore (codes "ended") (option_map (λ x. number_or_null x.ended) times) l0 l1 → SendsMember (codes "id") (number (unsigned t.task)) l1 l2 → SendsMember (codes "inner") inside l2 l3 →
    SendsMember (codes "name") (string name) l3 l4 → SendsMore (codes "result") (option_map (λ x. result_data t.state) times) l4 l5 → SendsSince (option_map (λ x. x.since) times) l5 l6 →
    SendsMember (codes "stage") (string how) l6 l7 → SendsMember (codes "state") (string state) l7 l8 → Logs l8 new map_ends →
    SendsValue (task_object t times inside) old new
unfolding task_object
task_sent t times inside name how state old l0 l1 l2 l3 l4 l5 l6 l7 l8 new n g s begun ended id inner named result from staged stated end =
    let named : SendsMember (codes "name") (string (text_of t.label.name)) l3 l4 = member_as (codes "name") _ _ l3 l4 (ap string n) named in
    let staged : SendsMember (codes "stage") (string (stage_word t.stage)) l6 l7 = member_as (codes "stage") _ _ l6 l7 (ap string g) staged in
    let stated : SendsMember (codes "state") (string (state_word t.state)) l7 l8 = member_as (codes "state") _ _ l7 l8 (ap string s) stated in (
      l0,
      subst (λ n. Logs old l0 (map_begins (Some n))) (many times) begun,
      more_sent (codes "ended") (option_map (λ x. number_or_null x.ended) times) (others times) l0 l1 new ended (
        id.0,
        l2,
        id.1,
        id.2,
        (
          inner.0,
          l3,
          inner.1,
          inner.2,
          (
            named.0,
            l4,
            named.1,
            named.2,
            more_sent (codes "result") (option_map (λ x. result_data t.state) times) (since_on times) l4 l5 new result
                (since_sent (option_map (λ x. x.since) times) stage_on l5 l6 new from (staged.0, l7, staged.1, staged.2, (stated.0, l8, stated.1, stated.2, end))),
          ),
        ),
      ),
    )
  where
    stage_on : Members
    stage_on = member (codes "stage") (string (stage_word t.stage)) (member (codes "state") (string (state_word t.state)) no_members)

    since_on : Option TaskTimes → Members
    since_on o = with_since (option_map (λ x. x.since) o) stage_on

    others : Option TaskTimes → Members
    others o =
        member (codes "id") (number (unsigned t.task))
        (member (codes "inner") inside (member (codes "name") (string (text_of t.label.name)) (with_more (codes "result") (option_map (λ x. result_data t.state) o) (since_on o))))

    many : (o : Option TaskTimes) → task_members o ≡ members_len (with_more (codes "ended") (option_map (λ x. number_or_null x.ended) o) (others o))
    many None = refl
    many (Some x) = refl

-- ---- how many there are

pub shown_len : (f : ℕ → Data) (ks : List ℕ) → items_len (items_of (map f ks)) ≡ length ks
shown_len f [] = refl
shown_len f (k ∷ ks) = ap suc (shown_len f ks)

one : (b : Bool) (x : Stage) → cond (b && is_stage Never x) 1 0 + (cond (b && is_stage Waiting x) 1 0 + (cond (b && is_stage Running x) 1 0 + cond (b && is_stage Finished x) 1 0)) ≡ cond {A = ℕ} b 1 0
one false x = refl
one true Never = refl
one true Waiting = refl
one true Running = refl
one true Finished = refl

each_at_one : (h : History) (s : ℕ) (ks : List ℕ) → count_by (is_at h s Never) ks + (count_by (is_at h s Waiting) ks + (count_by (is_at h s Running) ks + count_by (is_at h s Finished) ks)) ≡ count_by (is_task_of h s) ks
each_at_one h s [] = refl
each_at_one h s (k ∷ ks) =
    omega (
      arith,
      sum_by-cons (λ x. cond (is_at h s Never x) 1 0) k ks,
      sum_by-cons (λ x. cond (is_at h s Waiting x) 1 0) k ks,
      sum_by-cons (λ x. cond (is_at h s Running x) 1 0) k ks,
      sum_by-cons (λ x. cond (is_at h s Finished x) 1 0) k ks,
      sum_by-cons (λ x. cond (is_task_of h s x) 1 0) k ks,
      one (is_task_of h s k) (stage h k),
      each_at_one h s ks,
    )

-- the counts of a scope's stages are those of its tasks
pub tasks_counted : (h : History) (s : ℕ) → (counts h s).never + (counts h s).waiting + (counts h s).running + (counts h s).finished ≡ length (tasks_of h s)
unfolding counts tasks_of
tasks_counted h s = omega (arith, each_at_one h s (task_numbers h), length-filter (is_task_of h s) (task_numbers h))
