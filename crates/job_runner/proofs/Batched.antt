-- How a batch of jobs is forked, and gets its threads one after the other.
use Rattle.std.proofs.Common.{[], ℕ, ◌++◌, ◌∙◌, ◌∷◌, ◌≡◌, ◌≤◌, Err, List, None, Ok, Option, Result, Some, ap, arith, inl, inr, length, refl, reverse, subst, suc, sym}
use Rattle.realm_core.specs.declared.forking.Forked.TheVariants.{Never, Thread}
use Rattle.job_runner.specs.{AreReady, ForkRefusal, ForkReply, Forked, ForksEach, ForksJobs, ForksLabels, ForksNext, IsReadyOne, IsSameTeam, IsStarting, LabelValue, Memory, NamedValue, OwnerValue, Refusal, SeesMore, StartsEach}
use Rattle.job_runner.specs.{StartsFirst, StartsOne, TableId, TeamValue, TicketValue, forking, labels_of}
use Rattle.job_runner.proofs.Words.{append-nil, append_assoc, length-append, nil_from_length, reverse-append, reverse-reverse}

-- ---- the tickets that a batch of forks gives

ready_one : {J : Type 0} (name : TableId) (s : ℕ) (there : OwnerValue) (job : NamedValue J) (l : LabelValue) (f : Forked) → there.table ≡ name → job.label ≡ l → ForksNext there s l f → IsReadyOne name s job f
ready_one name s there job l (Thread ticket) named label next =
    let fresh = next.gives in (
      record {
        named = ap (λ (t : TicketValue). t.table) fresh.is ∙ named;
        labelled = ap (λ (t : TicketValue). t.label) fresh.is ∙ sym label;
        waiting = fresh.waiting;
        unended = fresh.unended;
      },
      ap (λ (t : TicketValue). t.scope) fresh.is,
    )
ready_one name s there job l (Never task) named label next = tt

ready_each : {J : Type 0} (name : TableId) (s : ℕ) (there mid : OwnerValue) (jobs : List (NamedValue J)) (forked : List Forked) (first rest : List LabelValue) → there.table ≡ name → labels_of jobs ≡ first ++ rest → ForksEach there mid s first forked → AreReady name s jobs forked
ready_each name s there mid jobs [] first rest named are each = tt
ready_each name s there mid jobs (f ∷ fs) [] rest named are each = absurd each
ready_each name s there mid [] (f ∷ fs) (l ∷ ls) rest named are each = absurd (cc are)
ready_each name s there mid (job ∷ jobs) (f ∷ fs) (l ∷ ls) rest named are each =
    let label : job.label ≡ l = cc are in
    let others : labels_of jobs ≡ ls ++ rest = cc are in (
      ready_one name s there job l f named label each.0,
      ready_each name s (forking there s l) mid jobs fs ls rest named others each.1,
    )

-- each may be given to the work of its own job
pub labels_ready : {J : Type 0} (name : TableId) (s : ℕ) (old mid : OwnerValue) (jobs : List (NamedValue J)) (forked : List Forked) (refusal : Option Refusal) → old.table ≡ name → ForksLabels old mid s (labels_of jobs) forked refusal → AreReady name s jobs forked
labels_ready name s old mid jobs forked None named forks =
    let table = ap (λ (t : OwnerValue). t.table) forks.looked.0 ∙ named in
    ready_each name s forks.there mid jobs forked (labels_of jobs) [] table (sym (append-nil (labels_of jobs))) forks.each
labels_ready name s old mid jobs forked (Some refusal) named (inl some) =
    let table = ap (λ (t : OwnerValue). t.table) some.forks.looked.0 ∙ named in
    ready_each name s some.forks.there mid jobs forked some.first (some.next ∷ some.rest) table some.are some.forks.each
labels_ready name s old mid jobs forked (Some refusal) named (inr nothing) = subst (AreReady name s jobs) (sym nothing.none) tt

-- by the token and the labels that the forks began with
pub labels_forked : (old there mid : OwnerValue) (s : ℕ) (labels listed : List LabelValue) (forked : List Forked) (refusal : Option Refusal) → there ≡ old → listed ≡ labels → ForksLabels there mid s listed forked refusal → ForksLabels old mid s labels forked refusal
labels_forked old there mid s labels listed forked refusal same list forks =
    subst (λ (t : OwnerValue). ForksLabels t mid s labels forked refusal) same (subst (λ (ls : List LabelValue). ForksLabels there mid s ls forked refusal) list forks)

-- there are no more of them than jobs
pub ready_length : {J : Type 0} (name : TableId) (s : ℕ) (jobs : List (NamedValue J)) (forked : List Forked) → AreReady name s jobs forked → length forked ≤ length jobs
ready_length name s jobs [] ready = omega arith
ready_length name s [] (f ∷ fs) ready = absurd ready
ready_length name s (job ∷ jobs) (f ∷ fs) ready = let shorter = ready_length name s jobs fs ready.1 in omega (arith, shorter)

-- ---- lists that are taken from their ends

pub reverse_popped : {A : Type 0} (xs ys : List A) (x : A) → xs ≡ ys ++ x ∷ [] → reverse xs ≡ x ∷ reverse ys
reverse_popped xs ys x is = ap reverse is ∙ reverse-append ys (x ∷ [])

-- those that are left, once the first is taken, are of the jobs that are left then
pub ready_rest : {J : Type 0} (name : TableId) (s : ℕ) (jobs rest : List (NamedValue J)) (forked others : List Forked) (job : NamedValue J) (f : Forked) → AreReady name s jobs forked → jobs ≡ job ∷ rest → forked ≡ f ∷ others → AreReady name s rest others
ready_rest {J} name s jobs rest forked others job f ready next gives = (subst (λ fs. AreReady {J = J} name s (job ∷ rest) fs) gives (subst (λ js. AreReady {J = J} name s js forked) next ready)).1

-- the first may be given to the work of the first job
pub ready_first : {J : Type 0} (name : TableId) (s : ℕ) (jobs rest : List (NamedValue J)) (forked others : List Forked) (job : NamedValue J) (f : Forked) → AreReady name s jobs forked → jobs ≡ job ∷ rest → forked ≡ f ∷ others → IsReadyOne name s job f
ready_first {J} name s jobs rest forked others job f ready next gives = (subst (λ fs. AreReady {J = J} name s (job ∷ rest) fs) gives (subst (λ js. AreReady {J = J} name s js forked) next ready)).0

-- those behind as many tickets as jobs are of the jobs behind these
ready_behind : {J : Type 0} (name : TableId) (s : ℕ) (first jobs : List (NamedValue J)) (given forked : List Forked) → length first ≡ length given → AreReady name s (first ++ jobs) (given ++ forked) → AreReady name s jobs forked
ready_behind name s [] jobs [] forked same ready = ready
ready_behind name s [] jobs (g ∷ given) forked same ready = absurd (omega (arith, same))
ready_behind name s (j ∷ first) jobs [] forked same ready = absurd (omega (arith, same))
ready_behind name s (j ∷ first) jobs (g ∷ given) forked same ready = let less : length first ≡ length given = omega (arith, same) in ready_behind name s first jobs given forked less ready.1

-- ---- how they get their threads

forks_length : (old new : OwnerValue) (s : ℕ) (labels : List LabelValue) (fs : List Forked) → ForksEach old new s labels fs → length labels ≡ length fs
forks_length old new s [] [] each = refl
forks_length old new s [] (f ∷ fs) each = absurd each
forks_length old new s (l ∷ ls) [] each = absurd each
forks_length old new s (l ∷ ls) (f ∷ fs) each = ap suc (forks_length (forking old s l) new s ls fs each.1)

length_labels : {J : Type 0} (jobs : List (NamedValue J)) → length (labels_of jobs) ≡ length jobs
length_labels [] = refl
length_labels (job ∷ jobs) = ap suc (length_labels jobs)

module _ {C J : Type 0} where
  -- whatever room was made before
  pub starts_from : (old new : OwnerValue) (was roomy is : TeamValue) (job : NamedValue J) (f : Forked) (answer : Result ForkReply (ForkRefusal C J)) → IsSameTeam was roomy → StartsOne old new roomy is job f answer → StartsOne old new was is job f answer
  starts_from old new was roomy is job (Thread ticket) (Ok reply) same starts = (starts.0, starts.1, starts.2, (starts.3.0 ∙ ap (λ ts. ts ++ ticket ∷ []) same.0, starts.3.1 ∙ same.1))
  starts_from old new was roomy is job (Thread ticket) (Err e) same starts = (starts.0, starts.1, starts.2, (starts.3.0 ∙ same.0, starts.3.1 ∙ same.1))
  starts_from old new was roomy is job (Never task) answer same starts = (starts.0, starts.1, (starts.2.0 ∙ same.0, starts.2.1 ∙ same.1))

  pub each_from : (old new : OwnerValue) (was roomy is : TeamValue) (jobs : List (NamedValue J)) (fs : List Forked) (answers : List (Result ForkReply (ForkRefusal C J))) → IsSameTeam was roomy → StartsEach old new roomy is jobs fs answers → StartsEach old new was is jobs fs answers
  each_from old new was roomy is [] [] [] same each = (each.0, (each.1.0 ∙ same.0, each.1.1 ∙ same.1))
  each_from old new was roomy is (job ∷ jobs) (f ∷ fs) (answer ∷ answers) same each = (each.0, each.1, starts_from old each.0 was roomy each.1 job f answer same each.2, each.3)
  each_from old new was roomy is [] [] (answer ∷ answers) same each = absurd each
  each_from old new was roomy is [] (f ∷ fs) answers same each = absurd each
  each_from old new was roomy is (job ∷ jobs) [] answers same each = absurd each
  each_from old new was roomy is (job ∷ jobs) (f ∷ fs) [] same each = absurd each

  -- one more, behind the others
  pub starts_more : (old mid new : OwnerValue) (was team is : TeamValue) (jobs : List (NamedValue J)) (fs : List Forked) (answers : List (Result ForkReply (ForkRefusal C J))) (job : NamedValue J) (f : Forked) (answer : Result ForkReply (ForkRefusal C J)) → StartsEach old mid was team jobs fs answers → StartsOne mid new team is job f answer → StartsEach old new was is (jobs ++ job ∷ []) (fs ++ f ∷ []) (answers ++ answer ∷ [])
  starts_more old mid new was team is [] [] [] job f answer each one =
      (new, is, starts_from old new was team is job f answer each.1 (subst (λ (t : OwnerValue). StartsOne t new team is job f answer) each.0 one), (refl, (refl, refl)))
  starts_more old mid new was team is (j ∷ jobs) (g ∷ fs) (a ∷ answers) job f answer each one =
      (each.0, each.1, each.2, starts_more each.0 mid new each.1 team is jobs fs answers job f answer each.3 one)
  starts_more old mid new was team is [] [] (a ∷ answers) job f answer each one = absurd each
  starts_more old mid new was team is [] (g ∷ fs) answers job f answer each one = absurd each
  starts_more old mid new was team is (j ∷ jobs) [] answers job f answer each one = absurd each
  starts_more old mid new was team is (j ∷ jobs) (g ∷ fs) [] job f answer each one = absurd each

  -- as many jobs as forks
  starts_length : (old new : OwnerValue) (was is : TeamValue) (jobs : List (NamedValue J)) (fs : List Forked) (answers : List (Result ForkReply (ForkRefusal C J))) → StartsEach old new was is jobs fs answers → length jobs ≡ length fs
  starts_length old new was is [] [] [] each = refl
  starts_length old new was is (j ∷ jobs) (g ∷ fs) (a ∷ answers) each = ap suc (starts_length each.0 new each.1 is jobs fs answers each.3)
  starts_length old new was is [] [] (a ∷ answers) each = absurd each
  starts_length old new was is [] (g ∷ fs) answers each = absurd each
  starts_length old new was is (j ∷ jobs) [] answers each = absurd each
  starts_length old new was is (j ∷ jobs) (g ∷ fs) [] each = absurd each

  -- the batch: its forks, and then the starts, whatever room was made before
  pub forks_jobs : (old mid new : OwnerValue) (was roomy is : TeamValue) (s : ℕ) (jobs left : List (NamedValue J)) (forked : List Forked) (answers : List (Result ForkReply (ForkRefusal C J))) (refusal : Option Refusal) → IsSameTeam was roomy → ForksLabels old mid s (labels_of jobs) forked refusal → StartsFirst mid new roomy is jobs left forked answers → ForksJobs old new was is s jobs left answers refusal
  forks_jobs old mid new was roomy is s jobs left forked answers refusal same forks starts = record {
    mid = mid;
    forked = forked;
    forks = forks;
    starts = record { first = starts.first; are = starts.are; each = each_from mid new was roomy is starts.first forked answers same starts.each };
  }

  -- or none, for want of room
  pub forks_nothing : (old new : OwnerValue) (was is : TeamValue) (s : ℕ) (jobs : List (NamedValue J)) (answers : List (Result ForkReply (ForkRefusal C J))) → new ≡ old → IsSameTeam was is → answers ≡ [] → ForksJobs old new was is s jobs jobs answers (Some Memory)
  forks_nothing old new was is s jobs answers same team none = record {
    mid = old;
    forked = [];
    forks = inr (record { same = refl; none = refl; memory = refl });
    starts = record { first = []; are = refl; each = subst (λ xs. StartsEach old new was is [] [] xs) (sym none) (same, team) };
  }

  -- if no fork was refused, no job is left
  pub none_left : (old new : OwnerValue) (was is : TeamValue) (s : ℕ) (jobs left : List (NamedValue J)) (answers : List (Result ForkReply (ForkRefusal C J))) (refusal : Option Refusal) → ForksJobs old new was is s jobs left answers refusal → refusal ≡ None → left ≡ []
  none_left old new was is s jobs left answers None it none =
      let forks = it.forks in
      let starts = it.starts in
      let forked = forks_length forks.there it.mid s (labels_of jobs) it.forked forks.each in
      let started = starts_length it.mid new was is starts.first it.forked answers starts.each in
      let all = ap length starts.are ∙ length-append starts.first left in
      nil_from_length left (omega (arith, forked, started, all, length_labels jobs))
  none_left old new was is s jobs left answers (Some refusal) it none = absurd (cc none)

  -- ---- the loop that starts them

  pub starting_on : (old now new : OwnerValue) (was team is : TeamValue) (jobs left rest : List (NamedValue J)) (forked later others : List Forked) (answers : List (Result ForkReply (ForkRefusal C J))) (job : NamedValue J) (f : Forked) (answer : Result ForkReply (ForkRefusal C J)) → IsStarting old now was team jobs left forked later answers → left ≡ job ∷ rest → later ≡ f ∷ others → SeesMore now new → StartsOne now new team is job f answer → IsStarting old new was is jobs rest forked others (answers ++ answer ∷ [])
  starting_on old now new was team is jobs left rest forked later others answers job f answer so_far next gives sees one = record {
    first = so_far.first ++ job ∷ [];
    given = so_far.given ++ f ∷ [];
    are = so_far.are ∙ (ap (λ xs. so_far.first ++ xs) next ∙ sym (append_assoc so_far.first (job ∷ []) rest));
    gave = so_far.gave ∙ (ap (λ xs. so_far.given ++ xs) gives ∙ sym (append_assoc so_far.given (f ∷ []) others));
    sees = sees ∙ ap (λ (t : OwnerValue). record t { seen = new.seen }) so_far.sees;
    each = starts_more old now new was team is so_far.first so_far.given answers job f answer so_far.each one;
  }

  -- the same of lists that are turned twice
  pub starting_turned : (old now : OwnerValue) (was is : TeamValue) (jobs turned left : List (NamedValue J)) (forked turning later : List Forked) (answers : List (Result ForkReply (ForkRefusal C J))) → turned ≡ reverse jobs → turning ≡ reverse forked → IsStarting old now was is (reverse turned) left (reverse turning) later answers → IsStarting old now was is jobs left forked later answers
  starting_turned old now was is jobs turned left forked turning later answers js fs so_far = record {
    first = so_far.first;
    given = so_far.given;
    are = sym (ap (λ xs. reverse xs) js ∙ reverse-reverse jobs) ∙ so_far.are;
    gave = sym (ap (λ xs. reverse xs) fs ∙ reverse-reverse forked) ∙ so_far.gave;
    sees = so_far.sees;
    each = so_far.each;
  }

  -- the tickets that are left then are of the jobs that are left
  pub starting_ready : (name : TableId) (s : ℕ) (old now : OwnerValue) (was is : TeamValue) (jobs left : List (NamedValue J)) (forked later : List Forked) (answers : List (Result ForkReply (ForkRefusal C J))) → IsStarting old now was is jobs left forked later answers → AreReady name s jobs forked → AreReady name s left later
  starting_ready name s old now was is jobs left forked later answers so_far ready =
      ready_behind name s so_far.first left so_far.given later (starts_length old now was is so_far.first so_far.given answers so_far.each) (subst (λ fs. AreReady {J = J} name s (so_far.first ++ left) fs) so_far.gave (subst (λ js. AreReady {J = J} name s js forked) so_far.are ready))
