pub mod FetchedLaws
pub mod PartLaws
pub mod PartSteps
pub mod ReadSteps
pub mod ReadBackLaws
