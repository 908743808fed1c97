-- A path for a stage of a plan, judged.
pub mod PathRefusals
