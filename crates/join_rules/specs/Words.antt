-- What the definitions of this crate take from the libraries below and from the types of its code, from one place.
pub use Rattle.std.specs.{Int.w64, List.find, List.list_any, Option.ForSome, Option.option_or, Prelude.Bool, Prelude.false, Prelude.true, Vec.vec_capacity}
pub use Rattle.scope_rules.specs.Joining.{has_failed, has_succeeded, summand_of_end}
pub use Rattle.scope_rules.specs.declared.types.{capacity.TheConstants.TASK_LIMIT, joiners.Policy.Policy, joiners.Policy.TheVariants.Any, joiners.Policy.TheVariants.AwaitAll, joiners.Policy.TheVariants.AwaitOk}
pub use Rattle.scope_rules.specs.declared.types.{joiners.Policy.TheVariants.Until, joiners.Rule.Rule, joiners.Rule.TheVariants.FailuresAtLeast, joiners.Rule.TheVariants.SuccessesAtLeast, joiners.Rule.TheVariants.SumAtLeast}
pub use Rattle.scope_rules.specs.declared.types.{values.Completion.Completion}
unfoldable pub use Rattle.scope_rules.specs.Joining.{fires, meets, total_of}
