use Rattle.balkreyn.proofs.Words.{nil_from_length, rules}
use Rattle.balkreyn.proofs.{Collected.first_cut, Collected.next_cut, Collected.one_value, Collected.one_was_cut, act.came.all_values.Goals.in-None-cut, act.came.all_values.Goals.in-Some-cut}
use Rattle.balkreyn.proofs.act.came.all_values.Goals as goal

-- a value more
pub loop-came-preserved-in-Continue-1 : goal.loop-came-preserved-in-Continue-1
loop-came-preserved-in-Continue-1 g c = one_value c.args.found.items c.loop-came.came-iterator.rest.items c.next.new.self.rest.items c.loop-came.values.items c.push.new.self.items c.loop-came.cut c.in-Value.value (search rules) (search rules) c.loop-came.invariant

-- a mark more
pub loop-came-preserved-then-if-drop : goal.loop-came-preserved-then-if-drop
loop-came-preserved-then-if-drop g c = elim c.match-cut-3.branch [
  | in-Some-cut w ↦ next_cut c.args.found.items c.loop-came.came-iterator.rest.items c.next.new.self.rest.items c.loop-came.values.items c.loop-came.cut c.match-cut-3.cut w.in-Some-cut.first c.in-Cut.mark (search rules) w.in-Some-cut.is w.cut-is c.loop-came.invariant
  | in-None-cut w ↦ first_cut c.args.found.items c.loop-came.came-iterator.rest.items c.next.new.self.rest.items c.loop-came.values.items c.loop-came.cut c.match-cut-3.cut c.in-Cut.mark (search rules) w.in-None-cut.is w.cut-is c.loop-came.invariant
]

pub loop-came-preserved : goal.loop-came-preserved
loop-came-preserved g c = elim c.match-cut-3.branch [
  | in-Some-cut w ↦ next_cut c.args.found.items c.loop-came.came-iterator.rest.items c.next.new.self.rest.items c.loop-came.values.items c.loop-came.cut c.match-cut-3.cut w.in-Some-cut.first c.in-Cut.mark (search rules) w.in-Some-cut.is w.cut-is c.loop-came.invariant
  | in-None-cut w ↦ first_cut c.args.found.items c.loop-came.came-iterator.rest.items c.next.new.self.rest.items c.loop-came.values.items c.loop-came.cut c.match-cut-3.cut c.in-Cut.mark (search rules) w.in-None-cut.is w.cut-is c.loop-came.invariant
]

-- all were seen, and one was cut
pub returns-in-Some-cut-2 : goal.returns-in-Some-cut-2
returns-in-Some-cut-2 g c = one_was_cut c.args.found.items c.loop-came.came-iterator.rest.items c.loop-came.values.items c.loop-came.cut c.in-Some-cut-2.mark (nil_from_length c.loop-came.came-iterator.rest.items (search rules)) c.in-Some-cut-2.is c.loop-came.invariant
