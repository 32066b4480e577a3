pub mod Lists
pub mod Redeemed
pub mod ToldLaws
pub mod CompleteWalks
mod Turned
pub mod Fields
pub mod GrownLaws
mod CountedSlots
pub mod AnnouncingLaws
pub mod AnnouncingSent
pub mod AnnouncedTokens
pub mod StepLaws
pub mod MoveLaws
pub mod WalkLaws
pub mod OwnFlagLaws
mod BlockLaws
mod BlankRows
pub mod Findings
pub mod OwnLaws
pub mod PassLaws
pub mod LookLaws
pub mod AtHandLaws
pub mod NextLaws
pub mod ClaimLaws
mod ClaimedFields
mod IdLaws
mod StateLaws
pub mod Agreed
pub mod Early
pub mod Installs
pub mod Learning
pub mod ClaimedValue
pub mod Moves
pub mod Sent
pub mod ClaimSteps
pub mod Surrender
pub mod RoomForTokens
pub mod RowFields
pub mod SeenFields
pub mod TurnBegins
pub mod PointerValue
pub mod Inside
pub mod Loads
pub mod Looks
pub mod ChunkLooks
pub mod Offers
pub mod Rested
pub mod BucketSent
pub mod SlotSteps
pub mod ClaimTokens
mod Fills
