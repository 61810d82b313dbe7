pub mod Laws
pub mod PairLists
