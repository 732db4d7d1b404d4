pub mod Case
pub mod Examples
pub mod Printed
