-- The text of what is read, one term, one field or one document more, and of a segment, part by part.
use Rattle.std.proofs.Common.{◌≡◌, ℕ, zero, suc, ◌+◌, ◌<◌, ◌≤◌, List, [], ◌∷◌, ◌++◌, map, drop, length, Option, Some, None, true, false, refl, sym, ap, ◌∙◌, append_assoc, arith, add-one, get_or}
use Rattle.std.specs.Prelude.{Any, Bool, IsSomeAnd, count_by, is_some, nat_lt, if◌then◌else◌, replicate, unwrap_or, Result, OnOk}
use Rattle.std.specs.FinMap.{entries}
use Rattle.std.specs.List.{slice_get, slice_index_or, enumerate_from, flat_map, AllByRecursion}
use Rattle.std.proofs.lemmas.Bool.{ltb-false}
use Rattle.std.proofs.lemmas.List.{append-nil, drop_all, length-map}
use Rattle.std.proofs.lemmas.Option.{same_Some}
use Rattle.std.proofs.lemmas.Result.{on_ok_weaker}
use Rattle.seg_segment.proofs.Exports.{pair_of, term_of}
use Rattle.seg_common.specs.declared.term_info.TermInfo.{TermInfo}
use Rattle.seg_common.proofs.Lists.{drop-slice_get}
use Rattle.seg_values.specs.Tree.{Document}
use Rattle.seg_values.specs.declared.schema.FieldEntry.{FieldEntry}
use Rattle.seg_directory.specs.CompositeFiles.{Part, field_of}
use Rattle.seg_model.specs.Columns.{Columns}
use Rattle.seg_model.specs.Fields.{Schema, has_lengths, is_indexed}
use Rattle.seg_model.specs.DocumentTerms.{Posting}
use Rattle.seg_norms.specs.StoredNorms.{norms_of}
use Rattle.seg_termdict.specs.Dictionary.{Term}
use Rattle.seg_termdict.specs.SortedTerms.{RankedTerm}
use Rattle.seg_termdict.specs.TermStreams.{Stream, no_term, current, advanced, ranked_terms}
use Rattle.seg_termdict.proofs.Exports.{ranked_length}
use Rattle.seg_postings.specs.OpenedFields.{ReadTerm, OpenField, dictionary_terms}
use Rattle.seg_open.specs.OpenSegment.{terms_in}
use Rattle.seg_text.specs.DocumentText.{document_line, documents_from, documents_text}
use Rattle.seg_text.specs.FieldText.{field_text, fields_text, term_line}
use Rattle.seg_text.specs.HeaderText.{dead_text, header_text}
use Rattle.seg_text.specs.NormsText.{norms_line, norms_text}
use Rattle.seg_text.specs.SegmentText.{PrintedSegment, segment_text}
use Rattle.seg_text.proofs.Exports.{dead_text-replicate}
use Rattle.seg_text.specs.ColumnText.{columns_text}
use Rattle.seg_tool.specs.Printing.{opened_text, printed_text}
use Rattle.seg_tool.specs.declared.words.Detail.TheVariants.{Full}
use Rattle.seg_tool.proofs.Streamed.{come_to, further, within}

-- ---- fields

place_text : (e : FieldEntry) (o : Option OpenField) → is_some o ≡ is_indexed e → (if is_indexed e then field_text e.name (entries (terms_in o)) else []) ≡ opened_text e.name (Some o)
place_text e None is = rw (sym is)
place_text e (Some f) is = rw (sym is)

here : (schema : Schema) (fields : List (Option OpenField)) (i : ℕ) (e : FieldEntry) → map is_some fields ≡ map is_indexed schema → slice_get schema i ≡ Some e
    → fields_text (drop i schema) (map terms_in (drop i fields)) ≡ opened_text e.name (slice_get fields i) ++ fields_text (drop (suc i) schema) (map terms_in (drop (suc i) fields))
here [] fields i e same at = absurd cc
here (x ∷ schema) [] i e same at = absurd cc
here (x ∷ schema) (o ∷ fields) zero e same at =
    let is : is_some o ≡ is_indexed x = cc in
    let name : x ≡ e = cc in
    ap (λ xs. xs ++ fields_text schema (map terms_in fields)) (place_text x o is ∙ ap (λ (y : FieldEntry). opened_text y.name (Some o)) name)
here (x ∷ schema) (o ∷ fields) (suc i) e same at =
    let rest : map is_some fields ≡ map is_indexed schema = cc in
    here schema fields i e rest at

-- one field more
pub places_more : (before : List ℕ) (schema : Schema) (fields : List (Option OpenField)) (i : ℕ) (e : FieldEntry) → map is_some fields ≡ map is_indexed schema → slice_get schema i ≡ Some e
    → (before ++ opened_text e.name (slice_get fields i)) ++ fields_text (drop (i + 1) schema) (map terms_in (drop (i + 1) fields)) ≡ before ++ fields_text (drop i schema) (map terms_in (drop i fields))
places_more before schema fields i e same at =
    append_assoc before (opened_text e.name (slice_get fields i)) (fields_text (drop (i + 1) schema) (map terms_in (drop (i + 1) fields)))
    ∙ ap (λ k. before ++ (opened_text e.name (slice_get fields i) ++ fields_text (drop k schema) (map terms_in (drop k fields)))) (add-one i)
    ∙ ap (λ xs. before ++ xs) (sym (here schema fields i e same at))

-- ---- terms

-- the term at a place, whose key and info are known, and those after it
next_term : (ts : List ReadTerm) (i : ℕ) (key : List ℕ) (info : TermInfo) (left : List Posting) → i < length ts → key ≡ (get_or (map term_of ts) i no_term).0 → info ≡ (get_or (map term_of ts) i no_term).1 → AllByRecursion (λ (t : ReadTerm). t.info ≡ info → left ≡ t.postings) ts → map pair_of (drop i ts) ≡ (key, left) ∷ map pair_of (drop (suc i) ts)
next_term [] i key info left lt key_is info_is all = absurd (omega (arith, lt))
next_term (t ∷ ts) zero key info left lt key_is info_is all =
    let k : key ≡ t.bytes = key_is in
    let p : left ≡ t.postings = all.0 (sym info_is) in
    λ j. (sym k j, sym p j) ∷ map pair_of ts
next_term (t ∷ ts) (suc i) key info left lt key_is info_is all = next_term ts i key info left (omega (arith, lt)) key_is info_is all.1

-- an item at a place, whatever is answered elsewhere
index_as : {X : Type 0} (xs : List X) (i : ℕ) (d : X) → slice_index_or xs i (get_or xs i d) ≡ get_or xs i d
index_as [] i d = refl
index_as (x ∷ xs) zero d = refl
index_as (x ∷ xs) (suc i) d = index_as xs i d

module _ (f : OpenField) (s after : Stream) (of : s.terms ≡ ranked_terms (dictionary_terms f)) (more : nat_lt s.taken (length s.terms) ≡ true) (is : after ≡ advanced s) where
  -- the info is that of a term
  pub info_held : (info : TermInfo) → info ≡ (current after).info → Any (λ (t : Term). t.1 ≡ info) (dictionary_terms f)
  info_held info info_is = (
    s.taken,
    get_or (dictionary_terms f) s.taken no_term,
    omega (arith, within f s after of more is, length-map f.terms term_of),
    index_as (dictionary_terms f) s.taken no_term,
    sym (info_is ∙ ap (λ (t : RankedTerm TermInfo). t.info) (come_to f s after of more is)),
  )

  -- one term more
  pub terms_more : (before key : List ℕ) (info : TermInfo) (left : List Posting) → key ≡ (current after).key → info ≡ (current after).info → AllByRecursion (λ (t : ReadTerm). t.info ≡ info → left ≡ t.postings) f.terms
      → (before ++ term_line (key, left)) ++ flat_map term_line (map pair_of (drop after.taken f.terms)) ≡ before ++ flat_map term_line (map pair_of (drop s.taken f.terms))
  terms_more before key info left key_is info_is all =
      ap (λ (x : Stream). (before ++ term_line (key, left)) ++ flat_map term_line (map pair_of (drop x.taken f.terms))) (further s after more is)
      ∙ append_assoc before (term_line (key, left)) (flat_map term_line (map pair_of (drop (s.taken + 1) f.terms)))
      ∙ ap (λ k. before ++ (term_line (key, left) ++ flat_map term_line (map pair_of (drop k f.terms)))) (add-one s.taken)
      ∙ ap (λ ts. before ++ flat_map term_line ts) (sym (next_term f.terms s.taken key info left (within f s after of more is) (key_is ∙ ap (λ (t : RankedTerm TermInfo). t.key) (come_to f s after of more is)) (info_is ∙ ap (λ (t : RankedTerm TermInfo). t.info) (come_to f s after of more is)) all))

-- no term is left after the last
pub terms_done : (f : OpenField) (s : Stream) → s.terms ≡ ranked_terms (dictionary_terms f) → nat_lt s.taken (length s.terms) ≡ false → (before all : List ℕ)
    → before ++ flat_map term_line (map pair_of (drop s.taken f.terms)) ≡ all → before ≡ all
terms_done f s of done before all is =
    let le : length s.terms ≤ s.taken = ltb-false s.taken (length s.terms) done in
    let none : drop s.taken f.terms ≡ [] = drop_all s.taken f.terms (omega (arith, le, ap length of, ranked_length (dictionary_terms f), length-map f.terms term_of)) in
    sym (append-nil before) ∙ ap (λ (ts : List ReadTerm). before ++ flat_map term_line (map pair_of ts)) (sym none) ∙ is

-- ---- documents

-- one document more
pub document_more : (before after : List ℕ) (schema : Schema) (documents : List Document) (i : ℕ) (o : Option Document) → slice_get documents i ≡ o
    → IsSomeAnd o (λ d. after ≡ before ++ document_line schema i d)
    → after ++ documents_from schema (i + 1) (drop (i + 1) documents) ≡ before ++ documents_from schema i (drop i documents)
document_more before after schema documents i None is line = absurd line
document_more before after schema documents i (Some d) is line =
    ap (λ xs. xs ++ documents_from schema (i + 1) (drop (i + 1) documents)) line
    ∙ append_assoc before (document_line schema i d) (documents_from schema (i + 1) (drop (i + 1) documents))
    ∙ ap (λ ds. before ++ documents_from schema i ds) (sym (drop-slice_get documents i d is))

-- ---- the segment

-- where all are alive, no line tells of deleted documents
pub none_deleted : (out : List ℕ) (n : ℕ) (alive : List Bool) → alive ≡ replicate n true → out ≡ out ++ dead_text alive
none_deleted out n alive is = sym (ap (λ xs. out ++ xs) (ap dead_text is ∙ dead_text-replicate n) ∙ append-nil out)

-- the first lines, the fields and the documents make it
pub segment_read : {T E : Type 0} (r : Result T E) (schema same : Schema) (segment : PrintedSegment) (documents : List Document) (out one two three : List ℕ)
    → same ≡ schema → documents ≡ segment.reading.stored
    → one ≡ out ++ (header_text segment.label segment.id segment.reading.documents (count_by (λ b. b) segment.alive) ++ dead_text segment.alive)
    → two ≡ one ++ fields_text schema segment.reading.terms
    → OnOk r (three ≡ two ++ documents_text same documents)
    → OnOk r (three ≡ out ++ segment_text schema segment)
segment_read r schema same segment documents out one two three schema_is stored header fields =
    let line = header_text segment.label segment.id segment.reading.documents (count_by (λ b. b) segment.alive) in
    let dead = dead_text segment.alive in
    let texts = fields_text schema segment.reading.terms in
    let lines = documents_text schema segment.reading.stored in
    on_ok_weaker r (λ e.
    e
    ∙ ap (λ s. two ++ documents_text s documents) schema_is
    ∙ ap (λ ds. two ++ documents_text schema ds) stored
    ∙ ap (λ xs. xs ++ lines) (fields ∙ ap (λ xs. xs ++ texts) header)
    ∙ append_assoc (out ++ (line ++ dead)) texts lines
    ∙ append_assoc out (line ++ dead) (texts ++ lines)
    ∙ ap (λ xs. out ++ xs) (append_assoc line dead (texts ++ lines)))

-- ---- length ids

-- one entry more
pub norms_more : (before : List ℕ) (schema : Schema) (norms : List (List ℕ)) (i : ℕ) (e : FieldEntry) (ids : List ℕ)
    → slice_get schema i ≡ Some e → slice_get norms i ≡ Some ids
    → (before ++ (if has_lengths e then norms_line e.name ids else [])) ++ norms_text (drop (i + 1) schema) (drop (i + 1) norms)
    ≡ before ++ norms_text (drop i schema) (drop i norms)
norms_more before schema norms i e ids at in_place =
    append_assoc before (if has_lengths e then norms_line e.name ids else []) (norms_text (drop (i + 1) schema) (drop (i + 1) norms))
    ∙ ap (λ k. before ++ ((if has_lengths e then norms_line e.name ids else []) ++ norms_text (drop k schema) (drop k norms))) (add-one i)
    ∙ ap (λ xs. before ++ xs) (sym (norms_here schema norms i e ids at in_place))
  where
    norms_here : (schema : Schema) (norms : List (List ℕ)) (i : ℕ) (e : FieldEntry) (ids : List ℕ)
        → slice_get schema i ≡ Some e → slice_get norms i ≡ Some ids
        → norms_text (drop i schema) (drop i norms) ≡ (if has_lengths e then norms_line e.name ids else []) ++ norms_text (drop (suc i) schema) (drop (suc i) norms)
    norms_here [] norms i e ids at in_place = absurd cc
    norms_here (x ∷ schema) [] i e ids at in_place = absurd cc
    norms_here (x ∷ schema) (n ∷ norms) zero e ids at in_place =
        ap (λ (y : FieldEntry). (if has_lengths y then norms_line y.name n else []) ++ norms_text schema norms) (same_Some x e at)
        ∙ ap (λ (k : List ℕ). (if has_lengths e then norms_line e.name k else []) ++ norms_text schema norms) (same_Some n ids in_place)
    norms_here (x ∷ schema) (n ∷ norms) (suc i) e ids at in_place = norms_here schema norms i e ids at in_place

-- the ids of the field at a place, of numbered fields
fields_at : (parts : List Part) (first : ℕ) (schema : Schema) (i : ℕ) (e : FieldEntry) → slice_get schema i ≡ Some e
    → slice_get (map (λ (f : ℕ × FieldEntry). unwrap_or (field_of parts f.0) []) (enumerate_from first schema)) i ≡ Some (unwrap_or (field_of parts (first + i)) [])
fields_at parts first [] i e at = absurd cc
fields_at parts first (x ∷ schema) zero e at = let same : first ≡ first + zero = omega arith in ap (λ k. Some (unwrap_or (field_of parts k) [])) same
fields_at parts first (x ∷ schema) (suc i) e at =
    let same : first + 1 + i ≡ first + suc i = omega arith in
    fields_at parts (first + 1) schema i e at ∙ ap (λ k. Some (unwrap_or (field_of parts k) [])) same

pub norms_at_place : (parts : List Part) (schema : Schema) (i : ℕ) (e : FieldEntry) → slice_get schema i ≡ Some e
    → slice_get (norms_of schema parts) i ≡ Some (unwrap_or (field_of parts i) [])
norms_at_place parts schema i e at =
    let same : 0 + i ≡ i = omega arith in
    fields_at parts 0 schema i e at ∙ ap (λ k. Some (unwrap_or (field_of parts k) [])) same

-- ---- in full

-- the text, then the columns, and then the length ids
pub full_read : {T E : Type 0} (r : Result T E) (schema : Schema) (segment : PrintedSegment) (columns : Columns)
    (norms : List (List ℕ)) (out one two three : List ℕ) → one ≡ out ++ segment_text schema segment
    → two ≡ one ++ columns_text columns → OnOk r (three ≡ two ++ norms_text schema norms)
    → OnOk r (three ≡ out ++ printed_text Full schema segment columns norms)
full_read r schema segment columns norms out one two three first second =
    let text = segment_text schema segment in
    let rest = norms_text schema norms in
    on_ok_weaker r (λ e.
    e
    ∙ ap (λ xs. xs ++ rest) (second ∙ ap (λ xs. xs ++ columns_text columns) first)
    ∙ append_assoc (out ++ text) (columns_text columns) rest
    ∙ append_assoc out text (columns_text columns ++ rest))
