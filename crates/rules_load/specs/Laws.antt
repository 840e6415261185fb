-- Laws on the conditions of a text.
pub mod Lists
pub mod Claims
pub mod Rule
pub mod Cycles
pub mod Chains
pub mod Sorting
pub mod One
pub mod Unqueued
pub mod Joining
pub mod JoiningFits
pub mod JoiningUnqueued
pub mod JoiningServed
