-- The JSON value of a meta. The members of each object are in the order of their names.
use Rattle.std.specs.Prelude.{ℕ, List, Option, Some, None, map, codes}
use Rattle.serde_json.specs.Data.{Data, null, boolean, number, unsigned, string, array, object, no_members, member}
use Rattle.serde_json.specs.View.{items_of}
use Rattle.seg_common.specs.SegmentIds.{id_text}
use Rattle.seg_values.specs.declared.schema.FieldEntry.{FieldEntry}
use Rattle.seg_model.specs.Input.{Settings}
use Rattle.seg_meta.specs.IndexOfFiles.{Deletes, ListedSegment, Meta}
use Rattle.seg_meta.specs.MetaWords.{compression_word, kind_word, index_word, precision_word}

-- a natural number
abbrev pub count_json : ℕ → Data
count_json n = number (unsigned n)

-- a text, or null where there is none
abbrev pub text_json : Option (List ℕ) → Data
text_json None = null
text_json (Some text) = string text

-- the settings of an index
abbrev pub settings_json : Settings → Data
settings_json s =
    object
    (member (codes "docstore_blocksize") (count_json s.block_size)
    (member (codes "docstore_compress_dedicated_thread") (boolean s.dedicated_thread)
    (member (codes "docstore_compression") (string (compression_word s.compression))
    no_members)))

-- a field of the schema
abbrev pub entry_json : FieldEntry → Data
entry_json e =
    object
    (member (codes "expand_dots") (boolean e.expand_dots)
    (member (codes "fast") (boolean e.fast)
    (member (codes "fast_tokenizer") (text_json e.fast_tokenizer)
    (member (codes "index") (string (index_word e.index))
    (member (codes "kind") (string (kind_word e.kind))
    (member (codes "name") (string e.name)
    (member (codes "norms") (boolean e.norms)
    (member (codes "precision") (string (precision_word e.precision))
    (member (codes "stored") (boolean e.stored)
    (member (codes "tokenizer") (text_json e.tokenizer)
    no_members))))))))))

-- the deletes of a segment, or null where there are none
abbrev pub deletes_json : Option Deletes → Data
deletes_json None = null
deletes_json (Some d) = object (member (codes "num_deleted_docs") (count_json d.number)
    (member (codes "opstamp") (count_json d.stamp) no_members))

-- the id of a segment
abbrev pub id_json : ℕ → Data
id_json id = string (id_text id)

-- a segment
abbrev pub segment_json : ListedSegment → Data
segment_json s =
    object
    (member (codes "deletes") (deletes_json s.deletes)
    (member (codes "max_doc") (count_json s.documents)
    (member (codes "segment_id") (id_json s.id)
    no_members)))

-- the whole meta
abbrev pub meta_json : Meta → Data
meta_json m =
    object
    (member (codes "index_settings") (settings_json m.settings)
    (member (codes "opstamp") (count_json m.stamp)
    (member (codes "payload") (text_json m.payload)
    (member (codes "schema") (array (items_of (map entry_json m.schema)))
    (member (codes "segments") (array (items_of (map segment_json m.segments)))
    no_members)))))
