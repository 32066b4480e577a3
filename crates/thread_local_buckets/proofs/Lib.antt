pub mod LentPointer
pub mod ContentsOf
pub mod Announcing
pub mod Passing
pub mod Clearing
pub mod Summing
pub mod Counting
pub mod PointerSteps
pub mod LentValue
pub mod CountingLaws
pub mod FlagLaws
pub mod NextValue
pub mod Each
pub mod ChunkFlags
pub mod Flags
pub mod Rooms
pub mod Slots
pub mod BlockFields
pub mod Making
pub mod Rounding
pub mod Sent
pub mod EmptyingBlocks
pub mod AddingSlots
mod DrainLaws
mod EntriesLaws
mod Refilling
mod Reserving
mod Filling
mod Frames
mod Reading
mod Shapes
mod Giving
pub mod LoanFields
mod Left
mod Blocks
mod Taking
mod Refills
mod PointerCells
pub mod LoanBegins
mod Crosses
