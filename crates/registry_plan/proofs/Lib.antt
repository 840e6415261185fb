mod Rises
mod Moves
mod Covers
mod Places
mod Laws
mod Plans
mod Told
