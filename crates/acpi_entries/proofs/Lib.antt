mod Linking
mod DeclaringBodies
mod TurnLiterals
