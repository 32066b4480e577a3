pub mod PlaceLaws
pub mod HeldLaws
pub mod IdMoveLaws
pub mod WalkLaws
pub mod EntriesLaws
pub mod CapacityLaws
pub mod SlotsLaws
pub mod AnswersLaws
pub mod CursorLaws
pub mod RowLaws
pub mod ValueLaws
pub mod TakingLaws
pub mod StandingLaws
pub mod ClearingLaws
pub mod FillingLaws
pub mod InsertingLaws
pub mod RefilledLaws
pub mod EmptyingLaws
pub mod Bodies
pub mod Names
pub mod Pairs
pub mod Word
pub mod WordBits
pub mod Opened
pub mod Pointers
pub mod SharedWord
pub mod Signs
pub mod Walking
mod Words
mod Returned
mod Views
pub mod Alike
