-- The worked steps of the rules, on the model of the desk.
pub mod Worked
