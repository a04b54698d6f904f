-- For callers: `Members`, which entries are held after a call, and `Fields`, what an order by fields says.
pub mod Members
pub mod Fields
-- For the crate's own proofs: the order, exchanges, a turn of each sift, and what each call does.
pub mod Ranking
pub mod Stirring
pub mod Sifting
pub mod Holding
