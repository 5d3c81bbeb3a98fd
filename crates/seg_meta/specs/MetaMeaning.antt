-- What the metas mean, in the words of an index.
use Rattle.seg_model.specs.Input.{Compression, uncompressed, lz4, zstd, Settings}
use Rattle.seg_meta.specs.IndexOfFiles.{Meta}
use Rattle.seg_values.specs.declared.compressor.Compressor.{Compressor}
use Rattle.seg_values.specs.declared.compressor.Compressor.TheVariants as compressor
use Rattle.seg_meta.specs.declared.index_settings.IndexSettings.{IndexSettings}
use Rattle.seg_meta.specs.declared.index_meta.IndexMeta.{IndexMeta}

-- how blocks are compressed
abbrev pub compression_of : Compressor → Compression
compression_of compressor.None = uncompressed
compression_of compressor.Lz4 = lz4
compression_of compressor.Zstd = zstd

-- the settings of an index
abbrev pub settings_of : IndexSettings → Settings
settings_of s = record {
  compression = compression_of s.docstore_compression;
  block_size = s.docstore_blocksize;
  dedicated_thread = s.docstore_compress_dedicated_thread;
}

-- the whole meta
abbrev pub meta_of : IndexMeta → Meta
meta_of m = record {
  settings = settings_of m.index_settings;
  schema = m.schema;
  stamp = m.opstamp;
  payload = m.payload;
  segments = m.segments;
}
