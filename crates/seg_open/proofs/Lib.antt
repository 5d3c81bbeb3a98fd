pub mod Exports
mod AliveFileReads
mod IncompleteFiles
mod FacetFields
mod FittingFields
mod HeldFields
mod DocumentMarks
mod OpeningReads
mod OpenContents
mod OpeningOutcomes
mod OpenedSegments
mod OpeningOnDisk
mod OpeningSteps
mod OpenedPlaces
mod ReadFiles
mod OpeningStages
mod UnopenedFiles
