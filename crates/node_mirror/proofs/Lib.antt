mod Beginning
mod Causes
mod Ending
mod Faults
mod Pieces
mod Rounds
mod Shipping
