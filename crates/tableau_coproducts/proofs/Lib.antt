pub mod ClassCuts
pub mod ClassNumbers
pub mod ClassSizes
pub mod Classes
pub mod KnuthShuffles
pub mod ReadingPairs
pub mod ShuffledInverses
pub mod ShufflePlaces
