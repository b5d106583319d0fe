pub mod Held
pub mod Numbers
pub mod Calls
pub mod Served
pub mod Exports
pub mod Interrupts
pub mod Printed
