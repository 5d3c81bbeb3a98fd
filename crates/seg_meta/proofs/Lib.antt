pub mod Exports
mod IdDigits
mod JsonOfBytes
mod ReadLists
mod MetaRoundTrips
mod FloatFreeMetas
mod PartRoundTrips
mod PlainJson
mod PrettyJson
mod SegmentIds
mod TextRoundTrips
mod MetaLoads
