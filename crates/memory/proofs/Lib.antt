mod Codes
mod Search
