mod Bringing
mod Complete
mod Halting
mod Lacking
mod Leaving
mod Opening
mod Plays
mod Puts
