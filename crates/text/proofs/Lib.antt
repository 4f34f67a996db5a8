-- Laws of text: parts and numbers, digits one by one, a number at a place, and tables filled block by block.
pub mod Tests
pub mod Parts
pub mod Blocks
pub mod Numbers
pub mod Digits
pub mod Decimals
pub mod Bytes
pub mod OneNumber
