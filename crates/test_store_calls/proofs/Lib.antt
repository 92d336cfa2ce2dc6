pub mod AnswerLaws
pub mod ClauseLaws
pub mod ExampleProofs
pub mod LoadLaws
pub mod PlayLaws
pub mod SaturationProofs
pub mod StayingLaws
pub mod Words
