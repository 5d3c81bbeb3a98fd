-- The settings that a JSON value says.
use Rattle.std.specs.Prelude.{◌^◌, false, Option, Some, codes}
use Rattle.serde_json.specs.Data.{Data}
use Rattle.serde_json.specs.Find.{as_bool}
use Rattle.seg_model.specs.Input.{default_block_size, uncompressed, Settings}
pub use Rattle.seg_model.specs.Input.{default_settings}
use Rattle.seg_meta.specs.ParsedMetaParts.{settings_members, compressions}
use Rattle.seg_meta.specs.JsonReaders.{given, provided, below, word_of, has_only}
use Rattle.seg_script_values.specs.OptionalMembers.{optional}

-- settings, of which each member has its default
abbrev pub settings_from : Data → Option Settings
settings_from d =
    provided (has_only settings_members d)
    (given (optional default_block_size (below (2 ^ 32)) (codes "docstore_blocksize") d) (λ block_size.
    given (optional false as_bool (codes "docstore_compress_dedicated_thread") d) (λ dedicated_thread.
    given (optional uncompressed (word_of compressions) (codes "docstore_compression") d) (λ compression.
    Some (record { compression = compression; block_size = block_size; dedicated_thread = dedicated_thread })))))
