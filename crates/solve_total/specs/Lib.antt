-- An action's total on a table with its roots.
pub mod StageTable
