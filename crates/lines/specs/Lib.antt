pub mod Printed
pub mod Requests
