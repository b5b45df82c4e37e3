mod Diagrams
mod Drawing
