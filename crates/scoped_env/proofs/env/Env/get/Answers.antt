-- What a look-up gives, in words of the list alone.
use Rattle.scoped_env.specs.{all_pairs}
use Rattle.scoped_env.proofs.LastBound.{last_from_bound_to, none_from_bound_to}
use Rattle.scoped_env.proofs.env.Env.get.Goals as goal

pub returns : goal.returns
returns c =
    let pairs = all_pairs c.args.self.now in
    record {
      value = c.value_of.ensures;
      last = rw c.value_of.ensures (last_from_bound_to c.args.key pairs);
      none = rw c.value_of.ensures (none_from_bound_to c.args.key pairs);
    }
