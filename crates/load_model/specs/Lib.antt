-- Where the roots of a model's diagrams stand, and what a load leaves.
pub mod ModelRoots
