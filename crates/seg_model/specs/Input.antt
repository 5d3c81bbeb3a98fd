-- What an index is built from: fields, settings, operations, and how these are cut, filtered and named.
use Rattle.std.specs.Prelude.{ℕ, List, Option, Bool, false}
use Rattle.seg_values.specs.Tree.{Document}
use Rattle.seg_model.specs.Fields.{Schema, Analyzer}
use Rattle.seg_model.specs.Operations.{Operation, Batch, batches, survivors}

-- how the blocks of stored documents are compressed
pub data Compression : Type 0 where
  uncompressed : Compression
  lz4 : Compression
  zstd : Compression

-- the settings of an index: its store's compression, the bytes that close a block, if a thread of its own compresses
pub record Settings : Type 0 where
  pub compression : Compression
  pub block_size : ℕ
  pub dedicated_thread : Bool

-- the bytes from which a block is closed where nothing else is said
abbrev pub default_block_size : ℕ
default_block_size = 16384

-- no compression, and blocks of 16 KiB
abbrev pub default_settings : Settings
default_settings = record { compression = uncompressed; block_size = default_block_size; dedicated_thread = false }

-- for each addition of a batch, whether it is kept: a filter's size is its length
abbrev pub Filter : Type 0
Filter = List Bool

-- one filter, or none, a batch; one id a batch and a last one for the output
pub record Input : Type 0 where
  pub schema : Schema
  pub settings : Settings
  pub operations : List Operation
  pub cuts : List ℕ
  pub filters : List (Option Filter)
  pub ids : List ℕ

-- the batches of an input
abbrev pub input_batches : Analyzer → Input → List Batch
input_batches analyzer input = batches input.schema analyzer input.cuts input.operations

-- the added documents that are indexed in the output
abbrev pub input_survivors : Analyzer → Input → List Document
input_survivors analyzer input = survivors input.schema analyzer input.filters input.cuts input.operations
