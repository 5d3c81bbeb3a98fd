-- The sizes of the six files of a segment.
use Rattle.std.specs.Prelude.{length}
use Rattle.seg_segment.specs.declared.segment_files.SegmentFiles.{SegmentFiles}
use Rattle.seg_open.specs.declared.file_sizes.FileSizes.{FileSizes}

-- how many bytes each has
abbrev pub sizes_of : SegmentFiles → FileSizes
sizes_of files = record {
  terms = length files.terms;
  store = length files.store;
  postings = length files.postings;
  positions = length files.positions;
  fast_fields = length files.fast_fields;
  field_norms = length files.field_norms;
}

-- those of no files
abbrev pub no_sizes : FileSizes
no_sizes = record { terms = 0; store = 0; postings = 0; positions = 0; fast_fields = 0; field_norms = 0 }
