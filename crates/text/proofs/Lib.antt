mod Dots
mod Glyphs
mod Hexes
mod Reading
mod Values
