mod Calls
mod Fields
mod Guards
mod Handed
mod SharedLock
pub mod Logs
mod Ordered
pub mod ReturnLaws
mod LockSteps
mod Begun
mod BothLent
mod Facts
pub mod TokenListLaws
pub mod Made
pub mod TokenFields
pub mod MoveElements
pub mod NotedElements
pub mod NoteElements
pub mod NoteLaws
pub mod ReachedElements
pub mod Markers
pub mod RightElements
mod RightStates
pub mod BlankLaws
pub mod BookElements
pub mod ToldNotes
pub mod Rows
pub mod ToldElements
pub mod FirstLaws
pub mod FirstElements
mod FurtherLaws
pub mod Twice
mod TwoLent
mod LowestUnset
mod Whole
