pub use Rattle.thread_local_base.specs.Held
pub mod Limits
pub mod Moves
pub mod Words
pub mod Faults
