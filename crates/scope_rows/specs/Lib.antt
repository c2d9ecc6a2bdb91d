pub mod Table
pub mod Agreement
pub mod Steps
pub mod Wants
pub mod DeadlineTable
pub mod DeadlinesOf
pub mod Numbered
pub mod NumberedLends
pub mod Words
unfoldable pub use Words.*
pub use Agreement.*
pub use DeadlineTable.*
pub use DeadlinesOf.*
pub use Numbered.*
pub use Steps.{altered, below_of, close_begun, close_ended, closed_row, closing_row, count_finish, count_fork, count_taken, ended_row, forked, is_this, joined_row, main_with, marked_within, moved, new_scope_row, new_task_row}
pub use Steps.{no_counts, onward_from, opened, recount, rejected, restarted, stage_row, started, state_at_end, taken, tasks_with, violated_row, walk_length, with_inner, with_innermost, with_scope}
unfoldable pub use Steps.{marked}
pub use Table.*
pub use Wants.*
