mod Keys
mod KeyLemmas
mod Founds
