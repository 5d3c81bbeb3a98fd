mod DecodedTexts
mod FacetTexts
mod TwoMembers
mod WrittenAddresses
