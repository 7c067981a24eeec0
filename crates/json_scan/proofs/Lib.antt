mod Fuel
mod Turns
mod Parts
mod Lists
mod Pairs
mod TwoItems
