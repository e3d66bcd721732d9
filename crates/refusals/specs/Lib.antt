-- The refusals 8 to 19, 21 and 24 to 27 of events and questions, and what may be counted on where there is none.
pub mod Refusals
pub mod Reasons
pub mod Parts
pub mod AcceptedEvent
pub mod Accepting
pub mod EventBytes
