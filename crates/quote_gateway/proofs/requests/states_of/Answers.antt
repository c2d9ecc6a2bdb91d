use Rattle.quote_gateway.specs.{history_seen, shapes}
use Rattle.quote_gateway.proofs.Words.{◌∙◌, sym}
use Rattle.quote_gateway.proofs.{Going.sees_on, Going.tokens_on, Reading.front_still, Reading.joined_still, Reading.read_next, Reading.task_at}
use Rattle.quote_gateway.proofs.requests.states_of.Goals as goal

pub state_of-read-requires : goal.state_of-read-requires
state_of-read-requires g c =
    let old = c.args.ctx.now.token in
    let now = c.loop-task.ctx.token in
    let tasks = c.args.tasks.now in
    let inv = c.loop-task.invariant in
    let it = c.requires.joined in
    let here = joined_still old now it.0 tasks inv.0 inv.1 it.1 in
    record { forked = (it.0, record { here = here.here; of = task_at (history_seen now) it.0 tasks c.loop-task.task-index here.are c.loop-task-test.true }) }

pub loop-task-preserved : goal.loop-task-preserved
loop-task-preserved g c =
    let old = c.args.ctx.now.token in
    let mid = c.loop-task.ctx.token in
    let new = c.state_of-read.new.ctx.token in
    let tasks = c.args.tasks.now in
    let i = c.loop-task.task-index in
    let inv = c.loop-task.invariant in
    let it = c.requires.joined in
    let here = joined_still old mid it.0 tasks inv.0 inv.1 it.1 in
    let front = front_still mid new it.0 i tasks c.state_of-read.ensures.token c.state_of-read.ensures.keeps here in (
      sees_on old mid new inv.0 c.state_of-read.ensures.token,
      tokens_on old mid new shapes inv.0 inv.1 c.state_of-read.ensures.keeps,
      read_next (history_seen new) tasks i c.loop-task.states.items c.push.new.self.items c.state_of-read.result c.loop-task-test.true (inv.2 ∙ sym front) c.state_of-read.ensures.read c.in_ok-push.ensures.items,
    )
