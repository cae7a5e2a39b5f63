pub mod Accounts
pub mod MidTouch
pub mod AccountLaws
pub mod PageStates
pub mod OwnStates
pub mod ViewAccounts
pub mod WorkedAccounts
pub mod WorkedViews
