-- What is proved of the definitions of `rules`.

-- reading: it never runs out of fuel, and gives only its own numbers; how long texts are; first bytes rise by the numbers
pub mod Walks
pub mod Scanning
pub mod Lengths
pub mod PathsEnd
pub mod PiecesEnd
pub mod ReadingEnds
pub mod ValueSteps
pub mod Rising
pub mod FirstBytes
-- resolving: what is needed has a number, and values end
pub mod Numbering
pub mod Ends
pub mod Reach
pub mod Rules
pub mod Resolving
pub mod RuleRefusals
pub mod TreeParts
pub mod ReadingPlaces
pub mod DocumentPlaces
pub mod Settled
pub mod Heights
pub mod Depths
pub mod SettledAnswers
-- the sheet: its layout, read back; what is accepted
pub mod Layout
pub mod Entries
pub mod Fits
pub mod SameMeaning
pub mod ReadBack
pub mod Accepted
-- look-up: in any table, and in one that was laid out
pub mod TableSteps
pub mod Tables
pub mod LookUpSteps
pub mod PathNumbers
pub mod PathPlaces
pub mod LookUps
pub mod LaidOut
pub mod NamedValues
pub mod SheetLookUps
pub mod TrailAnswers
-- lengths
pub mod Micrometres
-- the jobs: resolve and check held against each other
pub mod Jobs
pub mod BothJobs
pub mod Buffers
pub mod Reordered
pub mod Counts
pub mod JobRefusals
-- finished values: no key stands twice, and merged objects are what their layers give
pub mod DistinctKeys
pub mod DistinctAnswers
pub mod MergedValues
-- how much room layers and keys take on one stack
pub mod Room
-- what a reader should know of the jobs, each as one statement
pub mod Demands
pub mod Promises
