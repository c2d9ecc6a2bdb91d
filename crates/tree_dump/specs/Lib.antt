pub mod Ages
pub mod Kept
pub mod Waits
pub mod Objects
pub mod Tree
pub mod TreeParts
pub mod Words
pub mod Retiring
pub mod TextLines
pub mod TextTree
pub mod Sent
pub mod RetiringText
pub mod Once
pub mod Awaits
pub mod Timed
pub mod TimedAdds
pub mod ShowsLevels
pub mod Terms
unfoldable pub use Terms.*
unfoldable pub use Ages.*
pub use Awaits.*
unfoldable pub use Kept.*
unfoldable pub use Objects.*
pub use Once.*
pub use Retiring.*
pub use RetiringText.*
pub use Sent.*
pub use ShowsLevels.*
unfoldable pub use TextLines.*
pub use TextTree.{Line, OfScope, OfTask, line, line_text, lines_at, of_scope, of_task, scope_line, task_ages, tree_lines, tree_text}
unfoldable pub use TextTree.{aged_scope, task_line, tree_by}
unfoldable pub use Timed.*
pub use TimedAdds.*
pub use Tree.{dump_data, levels, scope_shown, task_shown, tasks_shown}
unfoldable pub use Tree.{dump_text, task_told}
unfoldable pub use TreeParts.*
unfoldable pub use Waits.*
pub use Words.*
