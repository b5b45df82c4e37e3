mod Growing
mod Hiding
mod Worked
