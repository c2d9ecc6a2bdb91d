-- What the definitions of this crate take from the libraries below and from the types of its code, from one place.
pub use Rattle.scope_rules.specs.Chains.{IsInward, effective_by, least_on, nearer, onward, outwards, sooner}
pub use Rattle.std.specs.{Borrow.Fml, Borrow.MutBor, Borrow.follows_so, Borrow.sem, List.All, List.Contains, List.Sorted.IsNonDecreasing, Option.IfSome, Option.option_and_then, Option.option_map, Option.option_or, Prelude.is_some}
pub use Rattle.scope_rules.specs.Earliest.{IsEarliest}
pub use Rattle.scope_rules.specs.declared.types.{answers.Cause.Cause, answers.CauseKind.CauseKind, answers.Effective.Effective, capacity.TheConstants.LEVEL_LIMIT, records.FirstCancel.FirstCancel}
pub use Rattle.scope_rules.specs.declared.types.{refusals.Refusal.TheVariants.Memory, refusals.Refusal.TheVariants.TooDeep}
pub use Rattle.cancel_tree.specs.declared.{cancel_order.CancelOrder.CancelOrder, rows.Links.Links, rows.ScopeNode.ScopeNode}
unfoldable pub use Rattle.scope_rules.specs.Chains.{chain_by, first_cancel_by}
