mod AllGroups
mod DefaultTokens
mod InputParts
mod NumberedLists
mod PushedOperations
mod Seeds
mod ValidInputs
