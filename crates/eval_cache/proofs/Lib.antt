mod OneStep
mod Entries
mod Shards
