mod Behind
mod Bits
mod Noted
mod Rows
