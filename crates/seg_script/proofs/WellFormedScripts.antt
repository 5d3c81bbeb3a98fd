-- Every script has fields whose options go with their kinds, and operations on them.
use Rattle.std.proofs.Common.{◌≡◌, ℕ, zero, suc, ◌-◌, ◌^◌, List, [], length, Bool, true, false, ◌&&◌, ◌≤◌, if◌then◌else◌, cond, Option, None, Some, option_map, nat_le, nat_lt, refl, subst, arith}
use Rattle.std.specs.Prelude.{codes, unwrap_or, replicate, ◌+◌}
use Rattle.std.specs.List.{list_all, range_with_len, slice_get}
use Rattle.std.specs.Str.{bytes_eq}
use Rattle.std.proofs.lemmas.Bool.Decides.{nat_tests}
use Rattle.std.proofs.lemmas.Option.{same_Some}
use Rattle.std.proofs.lemmas.Bool.{and_parts}
use Rattle.serde_json.specs.Data.{Data, null, boolean, number, string, array, object, no_members, member}
use Rattle.serde_json.specs.Find.{get, as_bool, as_str}
use Rattle.seg_common.specs.declared.precision.DateTimePrecision.TheVariants.{Seconds}
use Rattle.seg_common.specs.SegmentIds.{id_text}
use Rattle.seg_values.specs.FieldNames.{is_allowed, kept_entry}
use Rattle.seg_values.specs.SchemaRules.{is_entry}
use Rattle.seg_values.specs.declared.schema.FieldEntry.{FieldEntry}
use Rattle.seg_values.specs.declared.schema.FieldKind.{FieldKind}
use Rattle.seg_values.specs.declared.schema.FieldKind.TheVariants as kind
use Rattle.seg_values.specs.declared.schema.IndexOption.TheVariants as index
use Rattle.seg_values.specs.Tree.{Tree}
use Rattle.seg_values.specs.ValueBytes.{TermKey}
use Rattle.seg_model.specs.Fields.{is_text, is_on}
use Rattle.seg_model.specs.Input.{default_block_size, uncompressed, Settings, Filter, Input}
use Rattle.seg_model.specs.Operations.{Operation, add, delete}
use Rattle.seg_meta.specs.ParsedMetaParts.{digits_value, entry_members, id_from, index_options, compressions, kinds, precisions, settings_members}
use Rattle.seg_meta.specs.JsonReaders.{required, natural, below, nullable, word_of, list_of, has_only}
use Rattle.seg_script_values.specs.OptionalMembers.{read_or, optional}
use Rattle.seg_script.specs.Deletes.{term_bytes, term_from}
use Rattle.seg_script.specs.Fields.{entry_from, are_distinct, schema_from, field_or_past}
use Rattle.seg_script.specs.Settings.{default_settings, settings_from}
use Rattle.seg_script.specs.Filters.{ascends, all_but, filter_members, filter_from}
use Rattle.seg_script.specs.Operations.{operation_from}
use Rattle.seg_script.specs.Pairs.{two_or_three, kind_of, reading_of, tree_by, pair_from}
use Rattle.seg_script.specs.Script.{script_members, id_of, script_from, json_of}
use Rattle.seg_script.specs.Laws.{names_fields, is_small_filter, is_id, IsWellFormed, ScriptsAreWellFormed}
use Rattle.seg_script.proofs.ReadingChains.{given-some, provided-some, option_map-some, all-list_of, list_all-true}
use Rattle.seg_script.proofs.RemainingDocuments.{length-all_but}
use Rattle.seg_script.proofs.Limits.{range_below}

-- what holds of the default and of all that is read holds of a member
optional-some : {A : Type 0} (P : A → Type 0) (default : A) (read : Data → Option A) → P default → ((d : Data) (a : A) → read d ≡ Some a → P a) → (o : Option Data) (a : A) → read_or default read o ≡ Some a → P a
optional-some P default read first holds None a h = subst P (same_Some default a h) first
optional-some P default read first holds (Some d) a h = holds d a h

-- ---- the schema

-- an entry whose option goes with its kind is kept as one of a schema
kept-entry : (k : FieldKind) (e : FieldEntry) → e.kind ≡ k → is_allowed k e.index ≡ true → is_entry (kept_entry e) ≡ true
kept-entry kind.Text e is h = rw is refl
kept-entry kind.U64 e is h = rw (is, h) refl
kept-entry kind.I64 e is h = rw (is, h) refl
kept-entry kind.Bool e is h = rw (is, h) refl
kept-entry kind.Date e is h = rw (is, h) refl
kept-entry kind.Facet e is h = rw is refl
kept-entry kind.Bytes e is h = rw (is, h) refl
kept-entry kind.IpAddr e is h = rw (is, h) refl
kept-entry kind.Json e is h = rw is refl

entry-good : (d : Data) (e : FieldEntry) → entry_from d ≡ Some e → is_entry e ≡ true
entry-good d e h =
    let only = provided-some (has_only entry_members d) _ e h in
    let name = given-some (required as_str (codes "name") d) _ e only.1 in
    let kind_read = given-some (required (word_of kinds) (codes "kind") d) _ e name.1.1 in
    let stored = given-some (optional false as_bool (codes "stored") d) _ e kind_read.1.1 in
    let index_read = given-some (optional index.No (word_of index_options) (codes "index") d) _ e stored.1.1 in
    let tokenizer = given-some (optional None (nullable as_str) (codes "tokenizer") d) _ e index_read.1.1 in
    let norms = given-some (optional (is_text kind_read.0 && is_on index_read.0) as_bool (codes "norms") d) _ e tokenizer.1.1 in
    let fast = given-some (optional false as_bool (codes "fast") d) _ e norms.1.1 in
    let fast_tokenizer = given-some (optional None (nullable as_str) (codes "fast_tokenizer") d) _ e fast.1.1 in
    let precision = given-some (optional Seconds (word_of precisions) (codes "precision") d) _ e fast_tokenizer.1.1 in
    let expand_dots = given-some (optional false as_bool (codes "expand_dots") d) _ e precision.1.1 in
    let allowed = provided-some (is_allowed kind_read.0 index_read.0) _ e expand_dots.1.1 in
    subst (λ e. is_entry e ≡ true) (same_Some _ e allowed.1) (kept-entry kind_read.0 _ refl allowed.0)

-- such fields under distinct names, fewer than a meta can say
record IsGoodSchema (schema : List FieldEntry) : Type 0 where
  entries : list_all is_entry schema ≡ true
  names : are_distinct schema ≡ true
  few : nat_lt (length schema) (2 ^ 32 - 1) ≡ true

schema-good : (d : Data) (schema : List FieldEntry) → schema_from d ≡ Some schema → IsGoodSchema schema
schema-good d schema h =
    let entries = given-some (list_of entry_from d) _ schema h in
    let distinct = provided-some (are_distinct entries.0 && nat_lt (length entries.0) (2 ^ 32 - 1)) _ schema entries.1.1 in
    let parts = and_parts (are_distinct entries.0) (nat_lt (length entries.0) (2 ^ 32 - 1)) distinct.0 in
    subst IsGoodSchema (same_Some entries.0 schema distinct.1)
    (record { entries = list_all-true is_entry entries.0 (all-list_of entry_from (λ e. is_entry e ≡ true) entry-good d entries.0 entries.1.0); names = parts.0; few = parts.1 })

-- ---- the operations

at_most : (l n : ℕ) → nat_le (unwrap_or (cond (nat_lt n l) (Some n) None) l) l ≡ true
at_most l n = by (nat_lt n l) refl
  where
    by : (b : Bool) → nat_lt n l ≡ b → nat_le (unwrap_or (cond b (Some n) None) l) l ≡ true
    by true is = grind (arith, nat_tests)
    by false is = grind (arith, nat_tests)

-- a field of the schema, or the number just past them
known_or_past : (schema : List FieldEntry) (name : List ℕ) → nat_le (field_or_past schema name) (length schema) ≡ true
known_or_past schema name = at_most (length schema) _

abbrev NamesField : List FieldEntry → ℕ × Tree → Type 0
NamesField schema p = nat_le p.0 (length schema) ≡ true

pair-names : (schema : List FieldEntry) (d : Data) (p : ℕ × Tree) → pair_from schema d ≡ Some p → NamesField schema p
pair-names schema null p h = cc
pair-names schema (boolean b) p h = cc
pair-names schema (number n) p h = cc
pair-names schema (string s) p h = cc
pair-names schema (object ms) p h = cc
pair-names schema (array ds) p h =
    let parts = given-some (two_or_three ds) _ p h in
    let name = given-some (as_str parts.0.0) _ p parts.1.1 in
    let field = field_or_past schema name.0 in
    let reading = given-some (reading_of (kind_of schema field) parts.0.2) _ p name.1.1 in
    let tree = option_map-some (λ (t : Tree). (field, t)) (tree_by reading.0 parts.0.1) p reading.1.1 in
    subst (NamesField schema) tree.1.1 (known_or_past schema name.0)

term-names : (schema : List FieldEntry) (d : Data) (t : TermKey) → term_from schema d ≡ Some t → nat_le t.field (length schema) ≡ true
term-names schema null t h = cc
term-names schema (boolean b) t h = cc
term-names schema (number n) t h = cc
term-names schema (string s) t h = cc
term-names schema (object ms) t h = cc
term-names schema (array ds) t h =
    let parts = given-some (two_or_three ds) _ t h in
    let name = given-some (as_str parts.0.0) _ t parts.1.1 in
    let field = field_or_past schema name.0 in
    let bytes = option_map-some (λ (bytes : List ℕ). record { field = field; bytes = bytes }) (term_bytes (slice_get schema field) parts.0.1 parts.0.2) t name.1.1 in
    subst (λ (t : TermKey). nat_le t.field (length schema) ≡ true) bytes.1.1 (known_or_past schema name.0)

abbrev NamesFields : List FieldEntry → Operation → Type 0
NamesFields schema o = names_fields schema o ≡ true

deleting-names : (schema : List FieldEntry) (b : Bool) (d : Data) (o : Operation) → cond b (option_map delete (term_from schema d)) None ≡ Some o → NamesFields schema o
deleting-names schema true d o h =
    let term = option_map-some delete (term_from schema d) o h in
    subst (NamesFields schema) term.1.1 (term-names schema d term.0 term.1.0)
deleting-names schema false d o h = cc

named-names : (schema : List FieldEntry) (b c : Bool) (d : Data) (o : Operation)
    → cond b (option_map add (list_of (pair_from schema) d)) (cond c (option_map delete (term_from schema d)) None) ≡ Some o → NamesFields schema o
named-names schema true c d o h =
    let document = option_map-some add (list_of (pair_from schema) d) o h in
    subst (NamesFields schema) document.1.1
    (list_all-true (λ (p : ℕ × Tree). nat_le p.0 (length schema)) document.0 (all-list_of (pair_from schema) (NamesField schema) (pair-names schema) d document.0 document.1.0))
named-names schema false c d o h = deleting-names schema c d o h

operation-names : (schema : List FieldEntry) (d : Data) (o : Operation) → operation_from schema d ≡ Some o → NamesFields schema o
operation-names schema null o h = cc
operation-names schema (boolean b) o h = cc
operation-names schema (number n) o h = cc
operation-names schema (string s) o h = cc
operation-names schema (array ds) o h = cc
operation-names schema (object no_members) o h = cc
operation-names schema (object (member word d no_members)) o h = named-names schema (bytes_eq word (codes "add")) (bytes_eq word (codes "delete")) d o h
operation-names schema (object (member word d (member k e ms))) o h = cc

-- ---- the settings

abbrev IsSmall : ℕ → Type 0
IsSmall n = nat_lt n (2 ^ 32) ≡ true

below-small : (d : Data) (n : ℕ) → below (2 ^ 32) d ≡ Some n → IsSmall n
below-small d n h =
    let said = given-some (natural d) _ n h in
    let small = provided-some (nat_lt said.0 (2 ^ 32)) (Some said.0) n said.1.1 in
    subst IsSmall (same_Some said.0 n small.1) small.0

settings-small : (d : Data) (s : Settings) → settings_from d ≡ Some s → IsSmall s.block_size
settings-small d s h =
    let only = provided-some (has_only settings_members d) _ s h in
    let block_size = given-some (optional default_block_size (below (2 ^ 32)) (codes "docstore_blocksize") d) _ s only.1 in
    let thread = given-some (optional false as_bool (codes "docstore_compress_dedicated_thread") d) _ s block_size.1.1 in
    let compression = given-some (optional uncompressed (word_of compressions) (codes "docstore_compression") d) _ s thread.1.1 in
    subst (λ (s : Settings). IsSmall s.block_size) (same_Some _ s compression.1.1)
    (optional-some IsSmall default_block_size (below (2 ^ 32)) refl below-small (get (codes "docstore_blocksize") d) block_size.0 block_size.1.0)

-- ---- the filters

abbrev IsSmallFilter : Option Filter → Type 0
IsSmallFilter filter = is_small_filter filter ≡ true

filter-small : (d : Data) (filter : Filter) → filter_from d ≡ Some filter → IsSmallFilter (Some filter)
filter-small d filter h =
    let only = provided-some (has_only filter_members d) _ filter h in
    let size = given-some (required (below (2 ^ 32)) (codes "size") d) _ filter only.1 in
    let dropped = given-some (required (list_of (below size.0)) (codes "drop") d) _ filter size.1.1 in
    let all = provided-some (ascends dropped.0) (Some (all_but size.0 dropped.0)) filter dropped.1.1 in
    let there = given-some (get (codes "size") d) (below (2 ^ 32)) size.0 size.1.0 in
    subst (λ filter. IsSmallFilter (Some filter)) (same_Some (all_but size.0 dropped.0) filter all.1)
    (rw (length-all_but size.0 dropped.0) (below-small there.0 size.0 there.1.1))

some-small : (d : Data) (filter : Option Filter) → option_map Some (filter_from d) ≡ Some filter → IsSmallFilter filter
some-small d filter h =
    let said = option_map-some Some (filter_from d) filter h in
    subst IsSmallFilter said.1.1 (filter-small d said.0 said.1.0)

nullable-small : (d : Data) (filter : Option Filter) → nullable filter_from d ≡ Some filter → IsSmallFilter filter
nullable-small null filter h = subst IsSmallFilter (same_Some None filter h) refl
nullable-small (boolean b) filter h = some-small (boolean b) filter h
nullable-small (number n) filter h = some-small (number n) filter h
nullable-small (string s) filter h = some-small (string s) filter h
nullable-small (array ds) filter h = some-small (array ds) filter h
nullable-small (object ms) filter h = some-small (object ms) filter h

unfiltered-small : (n : ℕ) → list_all is_small_filter (replicate n None) ≡ true
unfiltered-small zero = refl
unfiltered-small (suc n) = unfiltered-small n

filters-small : (d : Data) (filters : List (Option Filter)) → list_of (nullable filter_from) d ≡ Some filters → list_all is_small_filter filters ≡ true
filters-small d filters h = list_all-true is_small_filter filters (all-list_of (nullable filter_from) IsSmallFilter nullable-small d filters h)

-- ---- the ids

abbrev AreIds : List ℕ → Type 0
AreIds ids = list_all is_id ids ≡ true

said_where : (t : Bool) (n id : ℕ) → (if t then Some n else None) ≡ Some id → (t ≡ true) × (n ≡ id)
said_where true n id h = (refl, same_Some n id h)
said_where false n id h = cc

id-small : (d : Data) (id : ℕ) → id_of d ≡ Some id → is_id id ≡ true
id-small d id h =
    let said = given-some (as_str d) id_from id h in
    let n = digits_value 0 said.0 in
    let read = said_where (is_id n && bytes_eq said.0 (id_text n)) n id said.1.1 in
    subst (λ n. is_id n ≡ true) read.1 (and_parts (is_id n) (bytes_eq said.0 (id_text n)) read.0).0

ids-small : (d : Data) (ids : List ℕ) → list_of id_of d ≡ Some ids → AreIds ids
ids-small d ids h = list_all-true is_id ids (all-list_of id_of (λ id. is_id id ≡ true) id-small d ids h)

few_cuts : (count : ℕ) → nat_lt count (2 ^ 64) ≡ true → 1 + (count + 2) ≤ 2 ^ 128
few_cuts count h = grind (arith, nat_tests)

-- ---- the script

whole : (d : Data) (input : Input) → script_from d ≡ Some input → IsWellFormed input
whole d input h =
    let only = provided-some (has_only script_members d) _ input h in
    let schema = given-some (required schema_from (codes "schema") d) _ input only.1 in
    let settings = given-some (optional default_settings settings_from (codes "settings") d) _ input schema.1.1 in
    let cuts = given-some (optional [] (list_of natural) (codes "cuts") d) _ input settings.1.1 in
    let filters = given-some (optional (replicate (length cuts.0 + 1) None) (list_of (nullable filter_from)) (codes "filters") d) _ input cuts.1.1 in
    let ids = given-some (optional (range_with_len 1 (length cuts.0 + 2)) (list_of id_of) (codes "ids") d) _ input filters.1.1 in
    let operations = given-some (required (list_of (operation_from schema.0)) (codes "operations") d) _ input ids.1.1 in
    let fields = given-some (get (codes "schema") d) schema_from schema.0 schema.1.0 in
    let items = given-some (get (codes "operations") d) (list_of (operation_from schema.0)) operations.0 operations.1.0 in
    let is : IsGoodSchema schema.0 = schema-good fields.0 schema.0 fields.1.1 in
    subst IsWellFormed (same_Some _ input operations.1.1)
    (record {
      entries = is.entries;
      names = is.names;
      few = is.few;
      operations = list_all-true (names_fields schema.0) operations.0 (all-list_of (operation_from schema.0) (NamesFields schema.0) (operation-names schema.0) items.0 operations.0 items.1.1);
      block_size = optional-some (λ (s : Settings). IsSmall s.block_size) default_settings settings_from refl settings-small (get (codes "settings") d) settings.0 settings.1.0;
      filters = optional-some (λ fs. list_all is_small_filter fs ≡ true) (replicate (length cuts.0 + 1) None) (list_of (nullable filter_from)) (unfiltered-small (length cuts.0 + 1)) filters-small (get (codes "filters") d) filters.0 filters.1.0;
      ids = λ few. optional-some AreIds (range_with_len 1 (length cuts.0 + 2)) (list_of id_of) (range_below (2 ^ 128) 1 (length cuts.0 + 2) (few_cuts (length cuts.0) few)) ids-small (get (codes "ids") d) ids.0 ids.1.0;
    })

pub scripts_are_well_formed : ScriptsAreWellFormed
scripts_are_well_formed bytes input is =
    let json = given-some (json_of bytes) script_from input is in
    whole json.0 input json.1.1
