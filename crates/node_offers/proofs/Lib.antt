mod Offers
mod Known
mod Lent
