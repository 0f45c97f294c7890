mod Comparing
mod Multiples
mod Ends
mod Variables
mod Elements
mod Growth
mod FirstBytes
