-- tests, and one name that opens every definition
pub mod Tests
pub mod Opened
-- floats
pub mod Constants
pub mod Order
pub mod Sign
pub mod Rounding
pub mod Finite
pub mod Addition
pub mod Descent
pub mod Steps
-- vectors and lists
pub mod Vectors
pub mod Lists
-- setups
pub mod Accepted
pub mod SetupWords
pub mod SetupRead
-- steps of a fit
pub mod Turns
pub mod Leads
-- counts, bound, statuses, sizes
pub mod Counts
pub mod Probed
pub mod Bound
pub mod Statuses
pub mod Sizes
pub mod Lengths
-- point, value, box
pub mod Trials
pub mod Inside
pub mod Questions
pub mod Own
pub mod Value
pub mod Box
-- records
pub mod Bytes
pub mod Frames
pub mod OneWord
pub mod Entries
pub mod RoundTrip
-- history
pub mod Numbered
pub mod Plenty
pub mod Histories
pub mod TakenBack
pub mod Ordered
-- path
pub mod Path
-- starred and example
pub mod Starred
pub mod Example
