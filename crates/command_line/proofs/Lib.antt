mod Built
mod Cutting
mod EachDelay
mod Numbers
mod Parsed
mod Words
