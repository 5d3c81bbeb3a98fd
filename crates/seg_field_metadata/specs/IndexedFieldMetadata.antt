-- What the parts of indexed fields say, as entries of metadata.
use Rattle.std.specs.Prelude.{◌≡◌, ℕ, ◌+◌, ◌*◌, ◌-◌, ◌/◌, ◌==◌, ◌++◌, Bool, true, false, List, [], ◌∷◌, length, map, Some, None, if◌then◌else◌, String, string_bytes}
use Rattle.std.specs.HashMap.{HashMap}
use Rattle.std.specs.declared.alloc.Global.{Global}
use Rattle.std.specs.List.{flat_map, sum_by}
use Rattle.seg_values.specs.FieldTypes.{type_of}
use Rattle.seg_values.specs.declared.field_type.FieldType.{FieldType}
use Rattle.seg_values.specs.declared.schema.FieldEntry.{FieldEntry}
use Rattle.seg_model.specs.SaturatedNumbers.{saturated}
use Rattle.seg_model.specs.Fields.{is_json}
use Rattle.seg_termdict.specs.Dictionary.{Term}
use Rattle.seg_postings.specs.JsonSpaces.{AreSpaces}
use Rattle.seg_postings.specs.declared.field_space.InvertedIndexFieldSpace.{InvertedIndexFieldSpace}
use Rattle.seg_field_metadata.specs.MetadataEntries.{Entry}
use Rattle.seg_field_metadata.specs.ListedNames.{EscapedName, HasNames, escaped_names, listed_name}

-- ---- how many bytes the parts of a field have, by its terms

-- the key of a term with where it ends and its info, and 48 bytes more
abbrev pub dictionary_size : List Term → ℕ
dictionary_size terms = 48 + sum_by (λ t. 28 + length t.0) terms

-- the total of tokens in eight bytes, and the ranges of the terms
abbrev pub postings_size : List Term → ℕ
postings_size terms = 8 + sum_by (λ t. t.1.postings_end - t.1.postings_start) terms

abbrev pub positions_size : List Term → ℕ
positions_size terms = sum_by (λ t. t.1.positions_end - t.1.positions_start) terms

-- ---- entries

-- how many bytes the terms of an entry have in each part of their field
pub record Sizes : Type 0 where
  pub terms : ℕ
  pub postings : ℕ
  pub positions : ℕ

-- these sizes of terms, as they are kept: a part has fewer than 2^64 bytes
abbrev pub sizes_of : List Term → Sizes
sizes_of terms = record {
  terms = saturated (dictionary_size terms);
  postings = saturated (postings_size terms);
  positions = saturated (positions_size terms);
}

abbrev pub indexed_entry : FieldEntry → List ℕ → FieldType → Sizes → Entry
indexed_entry entry name type sizes = (
  record { name = name; type = type },
  record {
    stored = entry.stored;
    fast = None;
    terms = Some sizes.terms;
    postings = Some sizes.postings;
    positions = Some sizes.positions;
  },
)

-- the share of some terms in the bytes of a dictionary, rounded down
abbrev pub share : ℕ → ℕ → ℕ → ℕ
share size some all = if all == 0 then 0 else (size * some) / all

-- the terms of a path and a type
abbrev pub space_entry : FieldEntry → List Term → InvertedIndexFieldSpace → Entry
space_entry entry terms space =
    indexed_entry entry (listed_name entry (string_bytes space.field_name)) space.field_type (record {
      terms = share (sizes_of terms).terms space.num_terms (length terms);
      postings = space.postings_size.0;
      positions = space.positions_size.0;
    })

-- the entries of a field, and the escaped names of its paths
pub record Said : Type 0 where
  pub entries : List Entry
  pub escaped : List EscapedName

-- those of some paths and types
abbrev pub said_by : FieldEntry → List Term → List InvertedIndexFieldSpace → Said
said_by entry terms spaces = record {
  entries = map (space_entry entry terms) spaces;
  escaped = flat_map (λ space. escaped_names entry (string_bytes space.field_name)) spaces;
}

-- a JSON field says something of each path and type, every other one of all its terms
abbrev pub FieldSaysBy : Bool → FieldEntry → List Term → Said → Type 0
FieldSaysBy true entry terms said =
    (spaces : List InvertedIndexFieldSpace) × AreSpaces terms spaces × (said ≡ said_by entry terms spaces)
FieldSaysBy false entry terms said =
    said ≡ record {
      entries = indexed_entry entry entry.name (type_of entry.kind) (sizes_of terms) ∷ [];
      escaped = [];
    }

abbrev pub FieldSays : FieldEntry → List Term → Said → Type 0
FieldSays entry terms said = FieldSaysBy (is_json entry.kind) entry terms said

-- what is said is added to entries, and its escaped names to those of a map
pub record Adds {S : Type 0} (Says : Said → Type 0) (old new : List Entry)
    (before after : HashMap (String Global) (String Global) S) : Type 0 where
  pub said : Said
  pub says : Says said
  pub added : new ≡ old ++ said.entries
  pub named : (names : List EscapedName) → HasNames before names → HasNames after (names ++ said.escaped)
