pub mod MethodBodies
