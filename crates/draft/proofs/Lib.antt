mod Held
mod Shape
