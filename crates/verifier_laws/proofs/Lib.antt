mod Ranges
mod Refined
mod Unfollowed
mod States
mod Checks
mod Flow
mod Sharpened
mod Profiles
