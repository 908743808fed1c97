-- How the facts that the code keeps stand for those of document 01's definitions.
pub mod Seen
