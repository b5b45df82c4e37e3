mod Certificate
mod Executed
mod Listed
mod Clients
mod Heard
