-- Works that are made of the first jobs of a batch, and how they are started together.
use Rattle.std.proofs.Common.{[], ℕ, ◌++◌, ◌+◌, ◌∙◌, ◌∷◌, ◌≡◌, List, Ok, Option, Result, ap, arith, drop, length, map, refl, subst, sym, take}
use Rattle.realm_core.specs.declared.forking.Forked.TheVariants.{Thread}
use Rattle.job_runner.specs.{All, ArePaired, ForkRefusal, ForkReply, Forked, HasThreadsMore, IsMarkOf, IsReadyFor, IsReadyOne, IsSameTeam, IsStarting, NamedValue, OpenScope, OwnerValue, Seen, StartsEach, TableId, TeamValue}
use Rattle.job_runner.specs.{TicketValue, started}
use Rattle.job_runner.proofs.Words.{All-drop, All-map, All-push, All-same, All-take, append-nil, append_assoc, drop-append_seam, length-append, length-map, map-append, map_push, take-append_seam, take-map}
use Rattle.job_runner.proofs.Batched.{each_from}
use Rattle.scope_rules.specs.declared.types.answers.ForkReply.TheVariants as reply

-- one element crosses the seam
crossed : {I X : Type 0} (f : I → X) (less more : List I) (i : I) (rest : List X) → more ≡ less ++ i ∷ [] → map f less ++ f i ∷ rest ≡ map f more ++ rest
crossed f less more i rest is = sym (append_assoc (map f less) (f i ∷ []) rest) ∙ ap (λ xs. xs ++ rest) (sym (map_push f less i) ∙ ap (λ xs. map f xs) (sym is))

pub item_back : {I X : Type 0} (f : I → X) (all old new : List X) (items less : List I) (i : I) → map f items ++ old ≡ all → items ≡ less ++ i ∷ [] → new ≡ f i ∷ old → map f less ++ new ≡ all
item_back f all old new items less i are is put = ap (λ xs. map f less ++ xs) put ∙ (crossed f less items i old is ∙ are)

-- what holds of all works holds of the first, and of those behind them
module _ {I : Type 0} (P : I → Type 0) (all first rest : List I) where
  pub All-first : all ≡ first ++ rest → All P all → All P first
  All-first are holds = All-same P first (take (length first) all) (sym (ap (λ xs. take (length first) xs) are ∙ take-append_seam first rest)) (All-take P (length first) all holds)

  pub All-behind : all ≡ first ++ rest → All P all → All P rest
  All-behind are holds = All-same P rest (drop (length first) (first ++ rest)) (sym (drop-append_seam first rest)) (All-drop P (length first) (first ++ rest) (All-same P (first ++ rest) all (sym are) holds))

-- one work more
pub paired_more : {J W : Type 0} (name : TableId) (s : ℕ) (opened : List OpenScope) (job : W → NamedValue J) (around : W → Option Seen) (works more : List (TicketValue × W)) (jobs left rest : List (NamedValue J)) (forked later others : List Forked) (t : TicketValue) (w : W) → more ≡ works ++ (t, w) ∷ [] → ArePaired name s opened job around works jobs left forked later → left ≡ job w ∷ rest → later ≡ Thread t ∷ others → IsReadyOne name s (job w) (Thread t) → IsMarkOf s opened (around w) → ArePaired name s opened job around more jobs rest forked others
paired_more {J} {W} name s opened job around works more jobs left rest forked later others t w is so_far next gives one mark = record {
  jobs_are = so_far.jobs_are ∙ (ap (λ xs. map (λ (w : TicketValue × W). job w.1) works ++ xs) next ∙ crossed (λ (w : TicketValue × W). job w.1) works more (t, w) rest is);
  forked_are = so_far.forked_are ∙ (ap (λ xs. map (λ (w : TicketValue × W). Thread w.0) works ++ xs) gives ∙ crossed (λ (w : TicketValue × W). Thread w.0) works more (t, w) others is);
  ready = All-same (λ (w : TicketValue × W). IsReadyFor name (job w.1).label w.0) more (works ++ (t, w) ∷ []) is (All-push (λ (w : TicketValue × W). IsReadyFor name (job w.1).label w.0) works (t, w) so_far.ready one.0);
  scopes = All-same (λ (w : TicketValue × W). w.0.scope ≡ s) more (works ++ (t, w) ∷ []) is (All-push (λ (w : TicketValue × W). w.0.scope ≡ s) works (t, w) so_far.scopes one.1);
  marked = All-same (λ (w : TicketValue × W). IsMarkOf s opened (around w.1)) more (works ++ (t, w) ∷ []) is (All-push (λ (w : TicketValue × W). IsMarkOf s opened (around w.1)) works (t, w) so_far.marked mark);
}

-- as many handles as works that were taken
pub taken_fits : {H W : Type 0} (first_of : H → TicketValue) (handles : List H) (works taken back : List (TicketValue × W)) → works ≡ taken ++ back → map first_of handles ≡ map (λ w. w.0) taken → length handles + length back ≡ length works
taken_fits first_of handles works taken back split of =
    omega (arith, ap length split, length-append taken back, ap length of, length-map handles first_of, length-map taken (λ w. w.0))

-- and they are of that scope
pub scopes_taken : {H W : Type 0} (first_of : H → TicketValue) (s : ℕ) (handles : List H) (works taken back : List (TicketValue × W)) → works ≡ taken ++ back → map first_of handles ≡ map (λ w. w.0) taken → All (λ w. w.0.scope ≡ s) works → All (λ (t : TicketValue). t.scope ≡ s) (map first_of handles)
scopes_taken {H} {W} first_of s handles works taken back split of scopes =
    All-same (λ (t : TicketValue). t.scope ≡ s) (map first_of handles) (map (λ w. w.0) taken) of (All-map (λ (t : TicketValue). t.scope ≡ s) (λ (w : TicketValue × W). w.0) taken (All-first (λ (w : TicketValue × W). w.0.scope ≡ s) works taken back split scopes))

module _ {C J W : Type 0} where
  -- and its answer
  pub answers_more : (works more : List (TicketValue × W)) (t : TicketValue) (w : W) (answers new : List (Result ForkReply (ForkRefusal C J))) (task : ℕ) → more ≡ works ++ (t, w) ∷ [] → answers ≡ started works → new ≡ answers ++ Ok (reply.Thread task) ∷ [] → task ≡ t.task → new ≡ started more
  answers_more works more t w answers new task is so_far put of =
      put ∙ (ap (λ xs. xs ++ Ok (reply.Thread task) ∷ []) so_far ∙ (ap (λ n. started works ++ Ok (reply.Thread n) ∷ []) of ∙ (sym (map_push (λ (w : TicketValue × W). Ok (reply.Thread w.0.task)) works (t, w)) ∙ ap (λ ws. started ws) (sym is))))

  pub started_length : (works : List (TicketValue × W)) (answers : List (Result ForkReply (ForkRefusal C J))) → answers ≡ started works → length answers ≡ length works
  started_length works answers are = ap length are ∙ length-map works (λ (w : TicketValue × W). Ok (reply.Thread w.0.task))

module _ {J W : Type 0} where
  -- each of them has its thread, and nothing was recorded for that
  threads_each : (C : Type 0) (old : OwnerValue) (was is : TeamValue) (job : W → NamedValue J) (taken : List (TicketValue × W)) → is.running ≡ was.running ++ map (λ w. w.0) taken → is.returned ≡ was.returned → StartsEach {C = C} {J = J} old old was is (map (λ w. job w.1) taken) (map (λ w. Thread w.0) taken) (started taken)
  threads_each C old was is job [] running returned = (refl, (running ∙ append-nil was.running, returned))
  threads_each C old was is job (w ∷ ws) running returned =
      let team = record was { running = was.running ++ w.0 ∷ [] } in
      (old, team, (refl, (refl, refl), tt, (refl, refl)), threads_each C old team is job ws (running ∙ sym (append_assoc was.running (w.0 ∷ []) (map (λ w. w.0) ws))) returned)

module _ {C J W : Type 0} where
  -- the first of the works were taken, and the others are among the jobs that are left again
  pub starting_first : (old now : OwnerValue) (was roomy is : TeamValue) (job : W → NamedValue J) (works taken back : List (TicketValue × W)) (jobs between left : List (NamedValue J)) (forked among later : List Forked) (firsts : List TicketValue) (all answers : List (Result ForkReply (ForkRefusal C J))) (n : ℕ) → now ≡ old → IsSameTeam was roomy → HasThreadsMore firsts roomy is → works ≡ taken ++ back → firsts ≡ map (λ w. w.0) taken → jobs ≡ map (λ w. job w.1) works ++ between → left ≡ map (λ w. job w.1) back ++ between → forked ≡ map (λ w. Thread w.0) works ++ among → later ≡ map (λ w. Thread w.0) back ++ among → all ≡ started works → answers ≡ take n all → n ≡ length firsts → IsStarting old now was is jobs left forked later answers
  starting_first old now was roomy is job works taken back jobs between left forked among later firsts all answers n same team more split of jobs_are left_are forked_are later_are all_are kept count =
      let count_taken : n ≡ length taken = count ∙ (ap length of ∙ length-map taken (λ w. w.0)) in
      let first : List (Result ForkReply (ForkRefusal C J)) = started taken in
      let answers_are : answers ≡ first = kept ∙ (ap (λ xs. take n xs) all_are ∙ (take-map (λ (w : TicketValue × W). Ok (reply.Thread w.0.task)) n works ∙ ap (λ ws. started ws) (ap (λ m. take m works) count_taken ∙ (ap (λ ws. take (length taken) ws) split ∙ take-append_seam taken back)))) in
      let each : StartsEach old old was is (map (λ w. job w.1) taken) (map (λ w. Thread w.0) taken) first = each_from old old was roomy is (map (λ w. job w.1) taken) (map (λ w. Thread w.0) taken) first team (threads_each C old roomy is job taken (more.0 ∙ ap (λ ts. roomy.running ++ ts) of) more.1) in
      record {
        first = map (λ w. job w.1) taken;
        given = map (λ w. Thread w.0) taken;
        are = jobs_are ∙ (ap (λ ws. map (λ w. job w.1) ws ++ between) split ∙ (ap (λ xs. xs ++ between) (map-append (λ w. job w.1) taken back) ∙ (append_assoc (map (λ w. job w.1) taken) (map (λ w. job w.1) back) between ∙ ap (λ xs. map (λ w. job w.1) taken ++ xs) (sym left_are))));
        gave = forked_are ∙ (ap (λ ws. map (λ w. Thread w.0) ws ++ among) split ∙ (ap (λ xs. xs ++ among) (map-append (λ w. Thread w.0) taken back) ∙ (append_assoc (map (λ w. Thread w.0) taken) (map (λ w. Thread w.0) back) among ∙ ap (λ xs. map (λ w. Thread w.0) taken ++ xs) (sym later_are))));
        sees = subst (λ (t : OwnerValue). t ≡ record old { seen = t.seen }) (sym same) refl;
        each = subst (λ (t : OwnerValue). StartsEach old t was is (map (λ w. job w.1) taken) (map (λ w. Thread w.0) taken) answers) (sym same) (subst (λ xs. StartsEach old old was is (map (λ w. job w.1) taken) (map (λ w. Thread w.0) taken) xs) (sym answers_are) each);
      }
