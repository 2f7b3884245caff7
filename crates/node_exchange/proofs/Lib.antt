mod Places
mod Playing
mod Taking
mod Coming
