use Rattle.scope_rules.proofs.Nesting.{chain_outwards, outer_smaller}
use Rattle.scope_rules.proofs.laws.chain_goes_outwards.Goals as goal

pub returns-clause-chain : goal.returns-clause-chain
returns-clause-chain c = chain_outwards

pub returns-clause-smaller : goal.returns-clause-smaller
returns-clause-smaller c = outer_smaller
