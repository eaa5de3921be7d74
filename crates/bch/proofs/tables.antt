-- The tables of a code in one list: what they hold, how they are filled, and the syndromes from them.
pub mod Placing
pub mod RootTables
pub mod CodeTables
pub mod RootFills
pub mod TableFills
pub mod TableLoops
pub mod TablesThere
pub mod SyndromeSums
