mod Giving
mod Holding
mod Lists
mod Meeting
mod Sharing
