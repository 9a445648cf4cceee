mod Entries
mod Declared
