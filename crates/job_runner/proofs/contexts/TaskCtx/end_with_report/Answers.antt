use Rattle.std.proofs.Common.{◌++◌, ◌≡◌, ap, arith, inl, subst, sym}
use Rattle.job_runner.specs.{EndsReported, HoldsBack, OwnerValue, TicketValue}
use Rattle.job_runner.proofs.Words.{All-permutation, IsPermutation-append_comm, IsPermutation-append_right, IsPermutation-trans, length_permutation}
use Rattle.job_runner.proofs.contexts.TaskCtx.end_with_report.Goals as goal

pub returns-in-Ok-clause-closed : goal.returns-in-Ok-clause-closed
returns-in-Ok-clause-closed g c =
    let tickets = c.in-Some.tickets.items in
    let ended = subst (λ (t : OwnerValue). EndsReported t c.end_reporting.new.token c.args.scope tickets c.in-Ok.report) c.token.view_is c.in-Ok.ensures.done in
    record {
      tickets = tickets;
      others = c.take_from.new.self.returned;
      parted = c.in-Some.ensures.parted;
      ends = subst (λ (t : OwnerValue). EndsReported c.args.self.now.token t c.args.scope tickets c.in-Ok.report) (sym (ap (λ x. x.token) c.forget.ensures.rest)) ended;
    }

pub put_back-requires : goal.put_back-requires
put_back-requires g c =
    let back = c.in-Err.ensures.not.still.back in
    let few = length_permutation _ _ back in
    record {
      named = All-permutation (λ (t : TicketValue). t.table ≡ g.N.RealmName.table) _ _ back c.in-Some.ensures.named;
      room = omega (arith, few, c.in-Some.ensures.room);
    }

pub returns-in-Err-clause-refused : goal.returns-in-Err-clause-refused
returns-in-Err-clause-refused g c =
    let tickets = c.in-Some.tickets.items in
    let left = c.end_reporting.new.tickets.items in
    let others = c.take_from.new.self.returned in
    let parted = c.in-Some.ensures.parted in
    inl (record {
      tickets = tickets;
      others = others;
      left = left;
      parted = parted;
      holds = subst (λ (t : OwnerValue). HoldsBack t c.end_reporting.new.token c.args.scope tickets left c.in-Err.refusal) c.token.view_is c.in-Err.ensures.not;
      there = IsPermutation-trans _ (tickets ++ others) _ parted.same (IsPermutation-trans _ (others ++ tickets) _ (IsPermutation-append_comm tickets others) (IsPermutation-trans _ (others ++ left) _ (IsPermutation-append_right others tickets left c.in-Err.ensures.not.still.back) c.put_back.ensures.returned));
    })
