pub mod Acting
pub mod Bodies
pub mod Channels
pub mod Coming
pub mod Looking
pub mod Looks
pub mod Names
pub mod Parts
pub mod Rooms
pub mod Slots
pub mod Together
pub mod Told
pub mod Turns
pub mod Times
pub mod Words
unfoldable pub use Words.*
pub use Acting.{ClosesNow, EndsTries, Failed, Heard, JoinsFrom, Pauses, RemainsNow, Repeated, Repeats, Retries, RunsBound, Sleeps, Slept, left_in, more, round, start}
pub use Bodies.*
pub use Channels.{Handled, HandsBack, Receives, ReceivesEach, Sends, one}
pub use Coming.*
pub use Looking.*
pub use Looks.{IsCopyOf, SaysWaits}
pub use Names.*
pub use Parts.*
pub use Rooms.*
pub use Slots.{ForksInto, ForksUnder, SlotValue, Takes, label_of, task_of}
pub use Times.*
pub use Together.*
pub use Told.*
pub use Turns.*
