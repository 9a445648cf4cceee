mod Reaching
mod Declarations
mod Rounds
mod EachBelow
mod MethodMarks
mod Objects
