pub mod Cutting
pub mod Taking
pub mod Accounts
pub mod Dealing
pub mod Ending
pub mod Overwriting
