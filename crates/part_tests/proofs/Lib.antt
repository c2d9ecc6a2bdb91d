mod Fresh
mod Counting
