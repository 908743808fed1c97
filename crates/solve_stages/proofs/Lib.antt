-- Laws that the proofs cite.
pub mod StagesHeld
pub mod StagesBetter
pub mod StagesOthers
pub mod StagesCounted
pub mod StagesAll
