-- What was sent is the tree with times and limits.
use Rattle.tree_dump.specs.{SendsMember, SendsValue, Tree.nested, amounts, clock_of, levels, limits_data, load, moment, number, number_or_null, opened_count, outermost, unsigned, used_data}
use Rattle.tree_dump.proofs.Lemmas.{◌∙◌, Some, ap, codes, on_ok_weaker, subst}
use Rattle.tree_dump.proofs.Sent.{member_as}
use Rattle.tree_dump.proofs.timed.TimedTreeSerialize.serialize.Goals as goal

pub returns : goal.returns
returns g c =
    let tree = c.args.self.now in
    let h = g.R.Readings.history tree.readings.now in
    let clock = clock_of tree.ages.now in
    let w = g.S.Serializer.written in
    let format = c.in_ok-send_number.ensures in
    let limits_is : SendsValue (limits_data tree.limits) (w c.key.new.self) (w c.send_amounts.new.out) =
    subst (λ d. SendsValue d (w c.key.new.self) (w c.send_amounts.new.out)) (ap (λ n. amounts n tree.limits.scopes tree.limits.tasks) c.from.ensures) c.in_ok-send_amounts.ensures in
    let moment_is : SendsMember (codes "moment") (number (unsigned (moment h))) (w c.send_amounts.new.out) (w c.send_time.new.out) =
    member_as (codes "moment") _ _ _ _ (ap (λ n. number (unsigned n)) c.moment.ensures) c.in_ok-send_time.ensures in
    let now_is : SendsMember (codes "now") (number_or_null clock.now) (w c.send_time.new.out) (w c.send_time-2.new.out) =
    member_as (codes "now") _ _ _ _ (ap number_or_null c.last_reading.ensures) c.in_ok-send_time-2.ensures in
    let root : SendsValue (nested (Some clock) h levels (outermost h 0)) (w c.key-2.new.self) (w c.send_scope.new.out) =
    subst (λ p. SendsValue (nested (Some clock) h levels p) (w c.key-2.new.self) (w c.send_scope.new.out)) c.outermost.ensures c.in_ok-send_scope.ensures in
    let used : SendsValue (used_data h) (w c.key-3.new.self) (w c.send_amounts-2.new.out) =
    subst (λ d. SendsValue d (w c.key-3.new.self) (w c.send_amounts-2.new.out)) (ap (λ n. amounts n c.opened.result c.forked.result) c.load.ensures ∙ (ap (λ n. amounts (load h) n c.forked.result) c.opened.ensures ∙ ap (λ n. amounts (load h) (opened_count h) n) c.forked.ensures)) c.in_ok-send_amounts-2.ensures in
    on_ok_weaker c.end_map.result (λ e. (
      w c.begin_map.new.self,
      c.in_ok-begin_map.ensures,
      (
        format.0,
        w c.send_number.new.out,
        format.1,
        format.2,
        (
          w c.key.new.self,
          w c.send_amounts.new.out,
          c.in_ok-key.ensures,
          limits_is,
          (
            moment_is.0,
            w c.send_time.new.out,
            moment_is.1,
            moment_is.2,
            (
              now_is.0,
              w c.send_time-2.new.out,
              now_is.1,
              now_is.2,
              (
                w c.key-2.new.self,
                w c.send_scope.new.out,
                c.in_ok-key-2.ensures,
                root,
                (w c.key-3.new.self, w c.send_amounts-2.new.out, c.in_ok-key-3.ensures, used, e),
              ),
            ),
          ),
        ),
      ),
    )) c.end_map.ensures
