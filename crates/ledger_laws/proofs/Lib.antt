mod Agreeing
mod Telling
