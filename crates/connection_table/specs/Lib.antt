pub mod CarryOut
pub mod Over
pub mod Tables
pub mod Directories
pub mod RisingNumbers
