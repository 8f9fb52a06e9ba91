mod Continuing
mod Exchanges
mod LineEnds
mod Splitting
mod StrictIntegers
