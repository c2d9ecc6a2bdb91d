use Rattle.std.proofs.Common.{ap, ◌∙◌}
use Rattle.share_ledger.specs.Steps.{history_of}
use Rattle.share_ledger.specs.Values.{KeeperValue, OwnerValue}
use Rattle.scope_rules.specs.History.{tasks, opened_count}
use Rattle.pool_tests.proofs.ledgers.Ledger.new.Goals as goal

pub invariant_of-result : goal.invariant_of-result
unfolding history_of
invariant_of-result g c = record {
  plain = record {
    kept = ap (λ (k : KeeperValue). k.table) c.begin-keeper.ensures.keeper ∙ c.requires;
    owned = ap (λ (o : OwnerValue). o.table) c.begin-keeper.ensures.share ∙ c.requires;
    counted = ap (λ (k : KeeperValue). tasks (history_of k.steps)) c.begin-keeper.ensures.keeper;
    unopened = ap (λ (k : KeeperValue). opened_count (history_of k.steps)) c.begin-keeper.ensures.keeper;
  };
}
