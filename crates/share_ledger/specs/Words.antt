-- What the definitions of this crate take from the libraries below and from the types of its code, from one place.
pub use Rattle.scope_rules.specs.Tasks.{ending_of, finishes, is_running, is_settled, is_waiting, rejects, starts}
pub use Rattle.scope_rules.specs.declared.types.events.Event.TheVariants.{BeginClose, Bind, Cancel, EndClose, Finish, Fork, Join, Move, Open, Reject, Start, Tick, Unbind}
pub use Rattle.std.specs.{List.list_any, List.sum_by, Option.option_or, Prelude.[]}
pub use Rattle.atomic_table.specs.{Seated.TableId, Table.Allows, Table.Joins, Table.Me, Table.Splits, Table.State, Table.keeps}
pub use Rattle.scope_rules.specs.{Ends.EndValue, Ends.LabelValue, History.History, History.followed, History.is_fork, History.tasks, Legal.Accepts, Origin.Origin, Origin.the_start}
pub use Rattle.scope_rules.specs.declared.types.{answers.Stage.Stage, answers.Stage.TheVariants.Never, answers.Stage.TheVariants.Running, answers.Stage.TheVariants.Waiting, capacity.Limits.Limits, events.Event.Event}
pub use Rattle.scope_rules.specs.declared.types.{events.Expiry.Expiry, events.Expiry.TheVariants.Fail, events.Expiry.TheVariants.MoveOn, events.Options.Options, records.Ending.Ending, records.Forking.Forking, values.Label.Label}
pub use Rattle.share_ledger.specs.declared.{steps.Ask.Ask, steps.Holder.Holder, steps.Holder.TheVariants.TicketOf, steps.Holder.TheVariants.TokenOf, steps.RealmStep.RealmStep, steps.RealmStep.TheVariants.Asked}
pub use Rattle.share_ledger.specs.declared.{steps.RealmStep.TheVariants.Happened, steps.RealmStep.TheVariants.Retirement, views.LedgerView.LedgerView, views.LedgerView.TheVariants.Holding, views.LedgerView.TheVariants.Keeping}
pub use Rattle.share_ledger.specs.declared.{views.LedgerView.TheVariants.Opening, views.LedgerView.TheVariants.Spent, views.Said.Said, views.Said.TheVariants.Limited, views.Said.TheVariants.Stepped, views.Share.Share}
unfoldable pub use Rattle.scope_rules.specs.{Cancels.cancelled_before, Cancels.is_cancelled, History.forking, Legal.Legal, Replies.base_of, Scopes.innermost, Table.retire_check, Tasks.ending, Tasks.finished, Tasks.rejected}
unfoldable pub use Rattle.scope_rules.specs.{Tasks.stage, Tasks.started}
