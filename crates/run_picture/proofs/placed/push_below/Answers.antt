-- All below are left at first, and one after the other is pending.
use Rattle.std.specs.Prelude.{◌+◌, ◌==◌, ◌≡◌}
use Rattle.run_picture.specs.{None, get_or, latest, length, times}
use Rattle.run_picture.proofs.Lemmas.{◌∙◌, ap, arith, get_or_default, sum_by_push, sym}
use Rattle.run_picture.proofs.Placing.{latest_left, latest_there, left_next, one_if, smaller, times_left}
use Rattle.run_picture.proofs.placed.push_below.Goals as goal

pub loop-next-init : goal.loop-next-init
loop-next-init c =
    let keys = c.args.keys.now in
    let is : c.index-next.result.now ≡ latest keys c.args.key (length keys) = c.index-next.ensures ∙ (get_or_default c.args.forest.now.last.items c.args.key c.index-next.result.now None (omega (arith, c.requires.key, c.requires.forest.wide)) ∙ c.requires.forest.lasts c.args.key c.requires.key) in
    record {
      there = λ n some. (latest_there keys c.args.key (length keys) n (sym is ∙ some)).0;
      key = λ n some. (latest_there keys c.args.key (length keys) n (sym is ∙ some)).1;
      whole = λ n. ap (λ o. times n c.args.pending.now.items + times_left keys c.args.key o n) is ∙ ap (λ t. times n c.args.pending.now.items + t) (latest_left keys c.args.key (length keys) n);
    }

pub loop-next-smaller : goal.loop-next-smaller
loop-next-smaller c =
    let keys = c.args.keys.now in
    let node = c.in-Some.node in
    let small = c.loop-next.invariant.there node c.in-Some.is in
    let is : c.index-next-in-Some.result.now ≡ latest keys (get_or keys node 0) node = c.index-next-in-Some.ensures ∙ (get_or_default c.args.forest.now.before.items node c.index-next-in-Some.result.now None (omega (arith, small, c.requires.forest.long)) ∙ c.requires.forest.befores node small) in
    smaller keys (get_or keys node 0) node c.index-next-in-Some.result.now c.loop-next.next is c.in-Some.is

pub loop-next-preserved : goal.loop-next-preserved
loop-next-preserved c =
    let keys = c.args.keys.now in
    let node = c.in-Some.node in
    let small = c.loop-next.invariant.there node c.in-Some.is in
    let is : c.index-next-in-Some.result.now ≡ latest keys (get_or keys node 0) node = c.index-next-in-Some.ensures ∙ (get_or_default c.args.forest.now.before.items node c.index-next-in-Some.result.now None (omega (arith, small, c.requires.forest.long)) ∙ c.requires.forest.befores node small) in
    let key = c.loop-next.invariant.key node c.in-Some.is in
    record {
      there = λ n some. let it = latest_there keys (get_or keys node 0) node n (sym is ∙ some) in omega (arith, it.0, small);
      key = λ n some. (latest_there keys (get_or keys node 0) node n (sym is ∙ some)).1 ∙ key;
      whole = λ n.
          let was = c.loop-next.invariant.whole n in
          let left : times_left keys c.args.key c.loop-next.next n ≡ one_if (node == n) + times_left keys c.args.key c.index-next-in-Some.result.now n =
          ap (λ o. times_left keys c.args.key o n) c.in-Some.is ∙ (left_next keys c.args.key node n key ∙ ap (λ o. one_if (node == n) + times_left keys c.args.key o n) (sym is)) in
          let pushed : times n c.push.new.self.items ≡ times n c.loop-next.pending.items + one_if (node == n) = ap (times n) c.in_ok-push.ensures.items ∙ sum_by_push (λ p. one_if (p.node == n)) c.loop-next.pending.items _ in
          omega (arith, was, left, pushed);
    }

pub returns : goal.returns
returns c n =
    let whole = c.loop-next.invariant.whole n in
    let none : times_left c.args.keys.now c.args.key c.loop-next.next n ≡ 0 = ap (λ o. times_left c.args.keys.now c.args.key o n) c.in_default.is in
    omega (arith, whole, none)
