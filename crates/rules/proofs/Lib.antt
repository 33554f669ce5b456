-- Laws of the rules. Each module assumes nothing.
-- notation: tests, sums, lists
pub mod Logic
pub mod Sums
-- soundness while an operation is under way, and the moves that keep it
pub mod Moves
pub mod Rank
pub mod Release
pub mod Build
pub mod Room
pub mod Chain
-- which chains a change leaves alone
pub mod Meets
pub mod Hang
pub mod Contents
pub mod Overlaps
-- the audit's test, and the recount: what is in use stands on a slip's chain
pub mod Audit
pub mod Recount
-- what the calls share: codes, sizes, what slips read, what is taken; and what is proved of every call
pub mod Codes
pub mod Sizes
pub mod Storage
pub mod After
pub mod Takes
pub mod Stays
pub mod Freed
pub mod Caused
pub mod Aged
pub mod Lawful
-- each call that works on a pool, in document 01's order: it is lawful, and what it has besides
pub mod Put
pub mod Free
pub mod Dup
pub mod Cut
pub mod Append
pub mod Drop
pub mod Keep
pub mod Pullup
pub mod Pack
pub mod Length
pub mod Read
pub mod Show
pub mod List
-- the reader without a pool
pub mod Gather
-- all calls together
pub mod Calls
-- bytes, and any call on them
pub mod Bounds
pub mod Bytes
pub mod Blind
pub mod Step
pub mod Places
pub mod Causes
-- what is read again, answered, left alone and filled, and which pieces are own
pub mod RoundTrip
pub mod Answers
pub mod Still
pub mod Fills
pub mod Own
-- what is given back first; demand 3, the most of a pool, lists of calls, the ten rows
pub mod Back
pub mod Demand
pub mod Full
pub mod Most
pub mod Lists
pub mod Serials
pub mod Clean
pub mod Cleaned
pub mod Settles
pub mod Morning
