-- The tokens of documents that are alive, one document and one segment after another.
use Rattle.std.proofs.Common.{◌≡◌, ℕ, ◌+◌, ◌-◌, ◌*◌, ◌^◌, ◌≤◌, ◌<◌, Bool, true, false, cond, List, [], ◌∷◌, map, length, min, take, drop, get_or, Some, None, Option, refl, sym, ap, ◌∙◌, arith}
use Rattle.std.specs.Prelude.{◌/◌, IsSomeAnd, not, sum, unwrap_or}
use Rattle.std.specs.List.{list_all, slice_get, AllByRecursion}
use Rattle.std.proofs.lemmas.Bool.{false≢true}
use Rattle.std.proofs.lemmas.List.{drop_more, drop_all, map-append}
use Rattle.std.proofs.lemmas.List.Sums.{sum_by-append, sum_by-cons}
use Rattle.seg_directory.specs.CompositeFiles.{field_of}
use Rattle.seg_values.specs.declared.schema.FieldEntry.{FieldEntry}
use Rattle.seg_model.specs.Contents.{norms_at}
use Rattle.seg_model.specs.TokenEstimate.{estimate, live_count}
use Rattle.seg_model.specs.Fields.{Schema, has_lengths}
use Rattle.seg_model.specs.Join.{Part}
use Rattle.seg_model.specs.Norms.{length_of_id}
use Rattle.seg_model.specs.Operations.{kept}
use Rattle.seg_model.specs.Shape.{HasFullShape}
use Rattle.seg_open.specs.OpenSegment.{IsOfSchema, OpenSegment, contents_of, part_of}
use Rattle.seg_merger.specs.JoinedTotals.{have_lengths, joined_total, tokens_at, tokens_in, total_read}
use Rattle.seg_merger.specs.NewIds.{NumberedSegment, parts_of}
use Rattle.seg_merger.proofs.KeptLists.{kept_marked, kept_next, kept_past}
use Rattle.seg_merger.proofs.JoinedNorms.{made_at}

-- ---- counting up to a greatest number

-- one more is counted, and what is left is counted after it
pub more_counted : (most so_far one told rest left next all : ℕ) → min most (so_far + left) ≡ min most all → left ≡ one + rest → min most told ≡ min most one → next ≡ min (so_far + told) most → min most (next + rest) ≡ min most all
more_counted most so_far one told rest left next all before split is pushed = omega (arith, before, split, is, pushed)

-- nothing is left
pub all_counted : (most so_far left all : ℕ) → min most (so_far + left) ≡ min most all → left ≡ 0 → so_far ≤ most → so_far ≡ min most all
all_counted most so_far left all is none within = omega (arith, is, none, within)

-- a number that fits is at most the greatest
pub within : (n : ℕ) → n < 2 ^ 64 → n ≡ min (2 ^ 64 - 1) n
within n fits = omega (arith, fits)

-- ---- the documents of a segment

abbrev lengths : List Bool → List ℕ → ℕ
lengths marks ids = sum (map length_of_id (kept marks ids))

-- the document at a place, and those after it
pub lengths_next : (marks : List Bool) (ids : List ℕ) (i : ℕ) → lengths (drop i marks) (drop i ids) ≡ lengths (take 1 (drop i marks)) (take 1 (drop i ids)) + lengths (drop (i + 1) marks) (drop (i + 1) ids)
lengths_next marks ids i =
    let here = kept (take 1 (drop i marks)) (take 1 (drop i ids)) in
    let rest = kept (drop (i + 1) marks) (drop (i + 1) ids) in
    ap (λ xs. sum (map length_of_id xs)) (kept_next marks ids i)
    ∙ ap sum (map-append length_of_id here rest)
    ∙ sum_by-append (λ (n : ℕ). n) (map length_of_id here) (map length_of_id rest)

-- the length of a document that is alive
pub one_length : (marks : List Bool) (ids : List ℕ) (i n : ℕ) → get_or marks i false ≡ true → IsSomeAnd (slice_get ids i) (λ id. n ≡ length_of_id id) → n ≡ lengths (take 1 (drop i marks)) (take 1 (drop i ids))
one_length marks ids i n alive at = by (slice_get ids i) refl at
  where
    by : (o : Option ℕ) → slice_get ids i ≡ o → IsSomeAnd o (λ id. n ≡ length_of_id id) → n ≡ lengths (take 1 (drop i marks)) (take 1 (drop i ids))
    by None is h = absurd h
    by (Some id) is h =
        let one : n ≡ sum (length_of_id id ∷ []) = omega (arith, h) in
        one ∙ sym (ap (λ xs. sum (map length_of_id xs)) (kept_marked marks ids i id alive is))

-- none is after the last place
pub lengths_past : (marks : List Bool) (ids : List ℕ) (i : ℕ) → length ids ≤ i → lengths (drop i marks) (drop i ids) ≡ 0
lengths_past marks ids i past = ap (λ xs. sum (map length_of_id xs)) (kept_past marks ids i past)

-- ---- a field of a segment that has lengths

record HasEntry (s : OpenSegment) (field : ℕ) : Type 0 where
  entry : FieldEntry
  at : slice_get s.schema field ≡ Some entry
  has : has_lengths entry ≡ true

has_entry : (s : OpenSegment) (field : ℕ) (o : Option FieldEntry) → slice_get s.schema field ≡ o → have_lengths o ≡ true → HasEntry s field
has_entry s field None at h = absurd (false≢true h)
has_entry s field (Some e) at h = record { entry = e; at = at; has = h }

module _ (s : OpenSegment) (field : ℕ) (has : have_lengths (slice_get s.schema field) ≡ true) where
  pub ids_are : norms_at (contents_of s) field ≡ unwrap_or (field_of s.norms field) []
  ids_are =
      let e = has_entry s field (slice_get s.schema field) refl has in
      made_at s.schema field e.entry e.at (λ f. unwrap_or (field_of s.norms f.0) [])

  -- there is one for each document
  pub ids_many : HasFullShape s.schema (contents_of s) → (ids : List ℕ) → field_of s.norms field ≡ Some ids → length ids ≡ s.documents
  ids_many shape ids at =
      let e = has_entry s field (slice_get s.schema field) refl has in
      sym (ap length (ids_are ∙ ap (λ o. unwrap_or o []) at)) ∙ (shape.norms field e.entry e.at e.has).0

  pub ids_there : (ids : List ℕ) → field_of s.norms field ≡ Some ids → norms_at (contents_of s) field ≡ ids
  ids_there ids at = ids_are ∙ ap (λ o. unwrap_or o []) at

  pub ids_none : field_of s.norms field ≡ None → norms_at (contents_of s) field ≡ []
  ids_none at = ids_are ∙ ap (λ o. unwrap_or o []) at

-- ---- a segment

so : (b : Bool) (x y : ℕ) → not b ≡ false → cond b x y ≡ x
so true x y e = refl
so false x y e = absurd (false≢true (sym e))

not_so : (b : Bool) (x y : ℕ) → not b ≡ true → cond b x y ≡ y
not_so true x y e = absurd (false≢true e)
not_so false x y e = refl

module _ (field : ℕ) (s : OpenSegment) where
  abbrev total : ℕ
  total = total_read (slice_get s.fields field)

  abbrev summed : ℕ
  summed = sum (map length_of_id (kept s.alive (norms_at (contents_of s) field)))

  abbrev shared : ℕ
  shared = total * live_count s.alive / s.documents

  abbrev cut : ℕ
  cut = cond (have_lengths (slice_get s.schema field)) summed shared

  -- all documents are alive
  pub tokens_whole : not (list_all (λ b. b) s.alive) ≡ false → tokens_at field s ≡ total
  tokens_whole e = so (list_all (λ b. b) s.alive) total cut e

  module _ (some : not (list_all (λ b. b) s.alive) ≡ true) where
    pub tokens_summed : have_lengths (slice_get s.schema field) ≡ true → tokens_at field s ≡ summed
    tokens_summed has = not_so (list_all (λ b. b) s.alive) total cut some ∙ ap (λ b. cond b summed shared) has

    pub tokens_shared : have_lengths (slice_get s.schema field) ≡ false → tokens_at field s ≡ shared
    tokens_shared has = not_so (list_all (λ b. b) s.alive) total cut some ∙ ap (λ b. cond b summed shared) has

  pub shared_is : (t n d : ℕ) → t ≡ total → n ≡ live_count s.alive → d ≡ s.documents → t * n / d ≡ shared
  shared_is t n d e f g = ap (λ x. x * n / d) e ∙ ap (λ x. total * x / d) f ∙ ap (λ x. total * live_count s.alive / x) g

-- some document is there where one is not alive
pub some_there : (alive : List Bool) → not (list_all (λ b. b) alive) ≡ true → 1 ≤ length alive
some_there [] e = absurd (false≢true e)
some_there (b ∷ bs) e = omega arith

-- ---- segments

-- the tokens of the segment at a place, and of those after it
pub tokens_next : (field : ℕ) (ns : List NumberedSegment) (i : ℕ) (n : NumberedSegment) → i < length ns → n ≡ get_or ns i n → sum (map (tokens_at field) (parts_of (drop i ns))) ≡ tokens_at field n.part + sum (map (tokens_at field) (parts_of (drop (i + 1) ns)))
tokens_next field ns i n lt is =
    ap (λ xs. sum (map (tokens_at field) (parts_of xs))) (drop_more ns i n lt ∙ ap (λ x. x ∷ drop (i + 1) ns) (sym is))
    ∙ sum_by-cons (λ (m : ℕ). m) (tokens_at field n.part) (map (tokens_at field) (parts_of (drop (i + 1) ns)))

-- none is after the last place
pub tokens_past : (field : ℕ) (ns : List NumberedSegment) (i : ℕ) → length ns ≤ i → sum (map (tokens_at field) (parts_of (drop i ns))) ≡ 0
tokens_past field ns i past = ap (λ xs. sum (map (tokens_at field) (parts_of xs))) (drop_all i ns past)

-- segments of a schema have it
pub all_of_schema : (schema : Schema) (parts : List OpenSegment) → AllByRecursion (IsOfSchema schema) parts → AllByRecursion (λ (s : OpenSegment). s.schema ≡ schema) parts
all_of_schema schema [] are = tt
all_of_schema schema (p ∷ ps) are = (are.0.0, all_of_schema schema ps are.1)

-- ---- by the entry of the field

module _ (schema : Schema) (field : ℕ) (entry : FieldEntry) (at : slice_get schema field ≡ Some entry) where
  one_agrees : (s : OpenSegment) → s.schema ≡ schema → tokens_at field s ≡ estimate (field, entry) (part_of s) (total_read (slice_get s.fields field))
  one_agrees s same =
      ap (λ b. cond (list_all (λ b. b) s.alive) (total field s) (cond b (summed field s) (shared field s)))
      (ap (λ (l : Schema). have_lengths (slice_get l field)) same ∙ ap have_lengths at)

  each_agrees : (parts : List OpenSegment) → AllByRecursion (λ (s : OpenSegment). s.schema ≡ schema) parts
      → map (tokens_at field) parts ≡ map (λ (p : Part × ℕ). estimate (field, entry) p.0 p.1) (map (λ (s : OpenSegment). (part_of s, total_read (slice_get s.fields field))) parts)
  each_agrees [] same = refl
  each_agrees (s ∷ ss) same = let here = one_agrees s same.0 in let rest = each_agrees ss same.1 in λ i. here i ∷ rest i

  pub totals_agree : (parts : List OpenSegment) → AllByRecursion (λ (s : OpenSegment). s.schema ≡ schema) parts → tokens_in field parts ≡ joined_total parts (field, entry)
  totals_agree parts same = ap (λ ns. min (2 ^ 64 - 1) (sum ns)) (each_agrees parts same)
