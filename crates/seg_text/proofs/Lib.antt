pub mod Exports
mod AliveSegments
mod DeadIds
mod FileOrder
mod KnownTexts
mod MemberPlaces
mod PlainTerms
mod PrintedCounts
mod PrintedFronts
mod PrintedMembers
mod PrintedRows
mod PrintedStored
mod PrintedTokens
mod PrintedTrees
mod QuotedDates
mod QuotedTexts
