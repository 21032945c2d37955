pub mod Held
pub mod Loans
pub mod Looking
pub mod Tables
