-- Worked rows: what the definitions say about small documents.
use Rattle.std.proofs.Common.{◌≡◌, ℕ, zero, suc, ◌+◌, true, false, List, [], ◌∷◌, ◌++◌, map, Some, None, Option, refl}
use Rattle.std.specs.Prelude.{pos, negsuc, ◌==◌, if◌then◌else◌, codes, is_some}
use Rattle.seg_tokens.specs.declared.token.Token.{Token}
use Rattle.seg_values.specs.declared.schema.FieldEntry.{FieldEntry}
use Rattle.seg_values.specs.declared.schema.FieldKind.{FieldKind}
use Rattle.seg_values.specs.declared.schema.FieldKind.TheVariants.{Text, U64, I64, Date, Facet, IpAddr, Json}
use Rattle.seg_values.specs.declared.schema.IndexOption.TheVariants.{Positions}
use Rattle.seg_common.specs.declared.precision.DateTimePrecision.TheVariants.{Seconds}
use Rattle.seg_common.specs.declared.column_type.ColumnType.{ColumnType}
use Rattle.seg_common.specs.declared.column_type.ColumnType.TheVariants as types
use Rattle.seg_values.specs.Tree.{Leaf, null, text, unsigned, signed, date, facet, ip, Tree, leaf, array, object, no_trees, tree, no_members, member, Document}
use Rattle.seg_model.specs.Fields.{Schema, Analyzer}
use Rattle.seg_model.specs.Occurrences.{Occurrence, occurrences}
use Rattle.seg_model.specs.DocumentTerms.{Posting, presence, positions, postings_of}
use Rattle.seg_model.specs.Norms.{length_id, length_of_id, field_length}
use Rattle.seg_model.specs.Operations.{Operation, add, delete, delete_all, TermKey, is_removed, batches, Batch}
use Rattle.seg_common.specs.Varint.{varint_within}
use Rattle.seg_model.specs.DocumentCheck.{document_refusal, wrong_value, unknown_field, json_leaf, json_key, past_limit}
use Rattle.seg_model.specs.Join.{Part}
use Rattle.seg_model.specs.TokenEstimate.{estimate}
use Rattle.seg_model.specs.Leaves.{joined_path}
use Rattle.std.specs.FinMap.{empty}
use Rattle.seg_model.specs.Columns.{ColumnKey, ColumnValue, number, text_value, columns, column_at, fast_values, declared_columns, values_at, FastValue}

abbrev token : ℕ → List ℕ → Token
token p w = record { offset_from = 0; offset_to = 0; position = p; position_length = 1; text = w }

-- the words of a text with one space between each two, from the position p on, of which `so_far` is begun
abbrev words : ℕ → List ℕ → List ℕ → List Token
words p so_far [] = token p so_far ∷ []
words p so_far (b ∷ bs) = if b == 32 then token p so_far ∷ words (p + 1) [] bs else words p (so_far ++ b ∷ []) bs

abbrev analyzer : Analyzer
analyzer name s = words 0 [] s

abbrev entry : FieldKind → FieldEntry
entry kind = record { name = codes "f"; kind = kind; stored = true; index = Positions; tokenizer = None; norms = true; fast = true; fast_tokenizer = None; precision = Seconds; expand_dots = false }

abbrev schema : FieldKind → Schema
schema kind = entry kind ∷ []

abbrev said : List ℕ → Tree
said s = leaf (text s)

abbrev at : List ℕ → ℕ → Occurrence
at bytes position = record { bytes = bytes; position = position }

abbrev posting : ℕ → List ℕ → Posting
posting document ps = record { document = document; recorded = positions ps }

abbrev alone : ℕ → Posting
alone document = record { document = document; recorded = presence }

-- the titles "a b" and "c": a at 0, b at 1, c at 3; length 3
two_titles : occurrences (schema Text) analyzer ((0, said (codes "a b")) ∷ (0, said (codes "c")) ∷ []) 0 ≡ at (codes "a") 0 ∷ at (codes "b") 1 ∷ at (codes "c") 3 ∷ []
two_titles = refl

three_tokens : field_length analyzer (entry Text) (said (codes "a b") ∷ said (codes "c") ∷ []) ≡ 3
three_tokens = refl

-- {"mykey": "repeated token token"}
abbrev repeated : Tree
repeated = object (member (codes "mykey") (said (codes "repeated token token")) no_members)

abbrev mykey_s : List ℕ
mykey_s = codes "mykey" ++ 0 ∷ 115 ∷ []

repeated_token : occurrences (schema Json) analyzer ((0, repeated) ∷ []) 0 ≡ at (mykey_s ++ codes "repeated") 0 ∷ at (mykey_s ++ codes "token") 1 ∷ at (mykey_s ++ codes "token") 2 ∷ []
repeated_token = refl

repeated_postings : postings_of (entry Json) (mykey_s ++ codes "token") (map (λ d. occurrences (schema Json) analyzer d 0) (((0, repeated) ∷ []) ∷ [])) ≡ posting 0 (1 ∷ 2 ∷ []) ∷ []
repeated_postings = refl

-- the number 55 in a JSON field
abbrev fifty_five : List ℕ
fifty_five = 0 ∷ 105 ∷ 128 ∷ 0 ∷ 0 ∷ 0 ∷ 0 ∷ 0 ∷ 0 ∷ 55 ∷ []

number_in_json : occurrences (schema Json) analyzer ((0, leaf (unsigned 55)) ∷ []) 0 ≡ at fifty_five 0 ∷ []
number_in_json = refl

number_postings : postings_of (entry Json) fifty_five (map (λ d. occurrences (schema Json) analyzer d 0) (((0, leaf (unsigned 55)) ∷ []) ∷ [])) ≡ alone 0 ∷ []
number_postings = refl

-- 40 and 41 have the id 40, 42 has the id 41, which stands for 42
lengths : map length_id (0 ∷ 23 ∷ 24 ∷ 40 ∷ 41 ∷ 42 ∷ []) ≡ 0 ∷ 23 ∷ 24 ∷ 40 ∷ 40 ∷ 41 ∷ []
unfolding length_id
lengths = refl

length_of_41 : length_of_id 41 ≡ 42
length_of_41 = refl

-- -1 and 5 in an i64 field; length 2
signed_terms : occurrences (schema I64) analyzer ((0, leaf (signed (negsuc 0))) ∷ (0, leaf (signed (pos 5))) ∷ []) 0 ≡ at (127 ∷ 255 ∷ 255 ∷ 255 ∷ 255 ∷ 255 ∷ 255 ∷ 255 ∷ []) 0 ∷ at (128 ∷ 0 ∷ 0 ∷ 0 ∷ 0 ∷ 0 ∷ 0 ∷ 5 ∷ []) 0 ∷ []
signed_terms = refl

two_values : field_length analyzer (entry I64) (leaf (signed (negsuc 0)) ∷ leaf (signed (pos 5)) ∷ []) ≡ 2
two_values = refl

-- half a second before and after 1970 have one term
abbrev half : ℕ
half = 500000000

dates : postings_of (entry Date) (128 ∷ 0 ∷ 0 ∷ 0 ∷ 0 ∷ 0 ∷ 0 ∷ 0 ∷ []) (map (λ d. occurrences (schema Date) analyzer d 0) (((0, leaf (date (negsuc 499999999))) ∷ []) ∷ ((0, leaf (date (pos half))) ∷ []) ∷ [])) ≡ alone 0 ∷ alone 1 ∷ []
dates = refl

-- {"k": ["a b", "c"]}
abbrev k_array : Tree
k_array = object (member (codes "k") (array (tree (said (codes "a b")) (tree (said (codes "c")) no_trees))) no_members)

abbrev k_s : List ℕ
k_s = codes "k" ++ 0 ∷ 115 ∷ []

array_of_texts : occurrences (schema Json) analyzer ((0, k_array) ∷ []) 0 ≡ at (k_s ++ codes "a") 0 ∷ at (k_s ++ codes "b") 1 ∷ at (k_s ++ codes "c") 3 ∷ []
array_of_texts = refl

-- a facet: one term per prefix, the empty one included
facet_terms : map (λ s. occurrences (schema Facet) analyzer ((0, leaf (facet s)) ∷ []) 0) ((97 ∷ 0 ∷ 98 ∷ []) ∷ [] ∷ []) ≡ (at [] 0 ∷ at (97 ∷ []) 0 ∷ at (97 ∷ 0 ∷ 98 ∷ []) 0 ∷ []) ∷ (at [] 0 ∷ []) ∷ []
facet_terms = refl

-- a number n of a JSON field: 5 alone is I64, with 2^63 it is U64, and -1 with 2^63 has no type
abbrev n_is : Leaf → Document
n_is l = (0, object (member (codes "n") (leaf l) no_members)) ∷ []

abbrev n_at : ColumnType → ColumnKey
n_at type = record { path = codes "f" ++ 1 ∷ codes "n"; type = type }

-- what some documents record at a key
abbrev recorded : List Document → ColumnKey → List (List ColumnValue)
recorded ds k = map (values_at k) (map (fast_values (schema Json) analyzer) ds)

-- the column of some documents at a key
abbrev column : List Document → ColumnKey → Option (List (List ColumnValue))
column ds k = column_at (declared_columns (schema Json)) k (recorded ds k)

five : column (n_is (unsigned 5) ∷ []) (n_at types.I64) ≡ Some ((number (pos 5) ∷ []) ∷ [])
five = refl

no_u64 : column (n_is (unsigned 5) ∷ []) (n_at types.U64) ≡ None
no_u64 = refl

large : column (n_is (unsigned 9223372036854775808) ∷ []) (n_at types.U64) ≡ Some ((number (pos 9223372036854775808) ∷ []) ∷ [])
large = refl

both : column (n_is (unsigned 5) ∷ n_is (unsigned 9223372036854775808) ∷ []) (n_at types.U64) ≡ Some ((number (pos 5) ∷ []) ∷ (number (pos 9223372036854775808) ∷ []) ∷ [])
both = refl

both_no_i64 : column (n_is (unsigned 5) ∷ n_is (unsigned 9223372036854775808) ∷ []) (n_at types.I64) ≡ None
both_no_i64 = refl

both_defined : is_some (columns (schema Json) analyzer (n_is (unsigned 5) ∷ n_is (unsigned 9223372036854775808) ∷ [])) ≡ true
both_defined = refl

-- the join of these readings is undefined
mixed : columns (schema Json) analyzer (n_is (signed (negsuc 0)) ∷ n_is (unsigned 9223372036854775808) ∷ []) ≡ None
mixed = refl

-- the number 1 inside this many arrays, below the key o
abbrev in_arrays : ℕ → Tree
in_arrays zero = leaf (unsigned 1)
in_arrays (suc n) = array (tree (in_arrays n) no_trees)

abbrev o_is : ℕ → Document
o_is n = (0, object (member (codes "o") (in_arrays n) no_members)) ∷ []

nineteen : map (λ (v : FastValue). v.value) (fast_values (schema Json) analyzer (o_is 19)) ≡ number (pos 1) ∷ []
nineteen = refl

twenty : fast_values (schema Json) analyzer (o_is 20) ≡ []
twenty = refl

-- {"field.with.dots": {"child.with.dot": "hello"}} without expansion
dots : fast_values (schema Json) analyzer ((0, object (member (codes "field.with.dots") (object (member (codes "child.with.dot") (said (codes "hello")) no_members)) no_members)) ∷ []) ≡ record { path = codes "f" ++ 1 ∷ codes "field.with.dots" ++ 1 ∷ codes "child.with.dot"; value = text_value (codes "hello") } ∷ []
dots = refl

-- {"": 5}
empty_key : fast_values (schema Json) analyzer ((0, object (member [] (leaf (unsigned 5)) no_members)) ∷ []) ≡ record { path = codes "f" ++ 1 ∷ []; value = number (pos 5) } ∷ []
empty_key = refl

-- facets of one document are sorted
facets : fast_values (schema Facet) analyzer ((0, leaf (facet (98 ∷ []))) ∷ (0, leaf (facet (97 ∷ 0 ∷ 99 ∷ []))) ∷ []) ≡ record { path = codes "f"; value = text_value (97 ∷ 0 ∷ 99 ∷ []) } ∷ record { path = codes "f"; value = text_value (98 ∷ []) } ∷ []
facets = refl

-- add "a", delete `a`, add "a": the first is removed, whatever the cuts
abbrev a_twice : List Operation
a_twice = add ((0, said (codes "a")) ∷ []) ∷ delete (record { field = 0; bytes = codes "a" }) ∷ add ((0, said (codes "a")) ∷ []) ∷ []

no_cuts : map (λ (b : Batch). b.alive) (batches (schema Text) analyzer [] a_twice) ≡ (false ∷ true ∷ []) ∷ []
no_cuts = refl

cut_at_1 : map (λ (b : Batch). b.alive) (batches (schema Text) analyzer (1 ∷ []) a_twice) ≡ (false ∷ []) ∷ (true ∷ []) ∷ []
cut_at_1 = refl

cut_at_2 : map (λ (b : Batch). b.alive) (batches (schema Text) analyzer (2 ∷ []) a_twice) ≡ (false ∷ []) ∷ (true ∷ []) ∷ []
cut_at_2 = refl

cut_twice : map (λ (b : Batch). b.alive) (batches (schema Text) analyzer (1 ∷ 2 ∷ []) a_twice) ≡ (false ∷ []) ∷ [] ∷ (true ∷ []) ∷ []
cut_twice = refl

-- what is not taken, and why
null_value : document_refusal (schema U64) analyzer ((0, leaf null) ∷ []) ≡ Some (wrong_value 0)
null_value = refl

number_as_title : document_refusal (schema Text) analyzer ((0, leaf (unsigned 1)) ∷ []) ≡ Some (wrong_value 0)
number_as_title = refl

no_such_field : document_refusal (schema Text) analyzer ((1, said (codes "a")) ∷ []) ≡ Some unknown_field
no_such_field = refl

facet_in_json : document_refusal (schema Json) analyzer ((0, array (tree (leaf (facet (codes "a"))) no_trees)) ∷ []) ≡ Some json_leaf
facet_in_json = refl

zero_in_key : document_refusal (schema Json) analyzer ((0, object (member (97 ∷ 0 ∷ []) (leaf null) no_members)) ∷ []) ≡ Some json_key
zero_in_key = refl

taken : document_refusal (schema Json) analyzer ((0, repeated) ∷ []) ≡ None
unfolding varint_within
taken = refl

too_deep : document_refusal (schema Json) analyzer ((0, in_arrays 200) ∷ []) ≡ Some past_limit
unfolding varint_within
too_deep = refl

deep : document_refusal (schema Json) analyzer ((0, in_arrays 199) ∷ []) ≡ None
unfolding varint_within
deep = refl

-- deletes of several terms, and of none
abbrev of_word : List ℕ → TermKey
of_word w = record { field = 0; bytes = w }

all_terms_needed : map (λ terms. is_removed (schema Text) analyzer ((0, said (codes "red pan")) ∷ []) (delete_all terms ∷ [])) ((of_word (codes "red") ∷ of_word (codes "pan") ∷ []) ∷ (of_word (codes "mug") ∷ of_word (codes "pan") ∷ []) ∷ [] ∷ []) ≡ true ∷ false ∷ false ∷ []
all_terms_needed = refl

-- lengths 41 and 1, of which the second is dead: the estimate is 40
abbrev long_and_short : Part
long_and_short = record { contents = record { documents = 2; terms = []; stored = []; norms = (40 ∷ 1 ∷ []) ∷ []; columns = empty }; alive = true ∷ false ∷ [] }

estimated : estimate (0, entry Text) long_and_short 42 ≡ 40
estimated = refl

-- a dot in a key, with expansion and without
dots_expanded : map (λ expand. joined_path expand (codes "a.b" ∷ codes "c" ∷ [])) (true ∷ false ∷ []) ≡ (97 ∷ 1 ∷ 98 ∷ 1 ∷ 99 ∷ []) ∷ (97 ∷ 46 ∷ 98 ∷ 1 ∷ 99 ∷ []) ∷ []
dots_expanded = refl

-- an address: sixteen octets as they are
address : occurrences (schema IpAddr) analyzer ((0, leaf (ip (0 ∷ 0 ∷ 0 ∷ 0 ∷ 0 ∷ 0 ∷ 0 ∷ 0 ∷ 0 ∷ 0 ∷ 255 ∷ 255 ∷ 127 ∷ 0 ∷ 0 ∷ 1 ∷ []))) ∷ []) 0 ≡ at (0 ∷ 0 ∷ 0 ∷ 0 ∷ 0 ∷ 0 ∷ 0 ∷ 0 ∷ 0 ∷ 0 ∷ 255 ∷ 255 ∷ 127 ∷ 0 ∷ 0 ∷ 1 ∷ []) 0 ∷ []
address = refl
