mod Laws
mod Words
mod Ports
mod Rows
mod Only
mod Held
mod Rounds
mod Hold
