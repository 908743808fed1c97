-- How what the code keeps stands for what document 01's definitions keep of the commands so far.
pub mod GivenFlags
