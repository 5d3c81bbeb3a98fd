mod LengthTable
mod NormsLists
mod NormsOfFields
mod NormsOfParts
mod PartIds
