-- Fields whose terms are written one by one, from the first on; those that are not indexed are passed over.
use Rattle.std.proofs.Common.{◌≡◌, ◌≢◌, ℕ, zero, suc, ◌+◌, ◌<◌, ◌≤◌, ◌⊎◌, inl, inr, Bool, true, false, cond, List, [], ◌∷◌, ◌++◌, map, length, take, Some, None, Option, sym, refl, ap, ◌∙◌, subst, arith, eq-eqb, ne_eqb, append_assoc, append-nil}
use Rattle.std.specs.Prelude.{◌==◌, IfSome, IsSomeAnd}
use Rattle.std.specs.FinMap.{entries, empty}
use Rattle.std.specs.List.{slice_get, slice_index_or, enumerate_from, flat_map, AllByRecursion}
use Rattle.std.proofs.lemmas.Bool.{false≢true}
use Rattle.std.proofs.lemmas.Bool.Decides.{nat_tests}
use Rattle.std.proofs.lemmas.List.{map-append, take_all}
use Rattle.std.proofs.lemmas.Option.{none-some, same_Some, slice_get_within}
use Rattle.seg_common.specs.WriterGrowth.{HasGrown}
use Rattle.seg_common.specs.LittleEndian.{u64_at}
use Rattle.seg_values.specs.declared.schema.FieldEntry.{FieldEntry}
use Rattle.seg_model.specs.Fields.{Schema, is_indexed}
use Rattle.seg_model.specs.DocumentTerms.{Terms, term_option}
use Rattle.seg_directory.specs.CompositeFiles.{Part, composite, field_of, low_after}
use Rattle.seg_postings.specs.FieldSerializers.{TermWritten, FieldWriting, fresh}
use Rattle.seg_postings.specs.FieldFiles.{FieldFiles, AddsField, no_fields, with_field}
use Rattle.seg_postings.specs.RecordKinds.{kind_of}
use Rattle.seg_segment.specs.WrittenFields.{whole_field, IsWhole, AddsTerms, AddsIfIndexed, HasField, HaveFields}
use Rattle.seg_segment.specs.TermFiles.{HoldTerms}
use Rattle.seg_segment.specs.WrittenTerms.{with_terms}

-- ---- parts of indexed fields, which ascend

-- the indexed fields among some entries, of which the first has this place
abbrev indexed_from : ℕ → Schema → List ℕ
indexed_from first schema = flat_map (λ f. cond (is_indexed f.1) (f.0 ∷ []) []) (enumerate_from first schema)

-- all are parts of fields below n
abbrev AllBelow : ℕ → List Part → Type 0
AllBelow n ps = AllByRecursion (λ p. p.0 < n) ps

-- the parts are those of the indexed fields among the first n
pub record AreOf (schema : Schema) (n : ℕ) (ps : List Part) : Type 0 where
  are : map (λ p. p.0) ps ≡ indexed_from 0 (take n schema)
  below : AllBelow n ps

low_after_below : (low n : ℕ) (ps : List Part) → low ≤ n → AllBelow n ps → low_after low ps ≤ n
low_after_below low n [] le h = le
low_after_below low n (p ∷ ps) le h = let lt : p.0 < n = h.0 in low_after_below (p.0 + 1) n ps (omega (arith, lt)) h.1

still_below : (n : ℕ) (ps : List Part) → AllBelow n ps → AllBelow (n + 1) ps
still_below n [] h = tt
still_below n (p ∷ ps) h = let lt : p.0 < n = h.0 in (omega (arith, lt), still_below n ps h.1)

below_more : (n : ℕ) (bytes : List ℕ) (ps : List Part) → AllBelow n ps → AllBelow (n + 1) (ps ++ (n, bytes) ∷ [])
below_more n bytes [] h = (omega arith, tt)
below_more n bytes (p ∷ ps) h = let lt : p.0 < n = h.0 in (omega (arith, lt), below_more n bytes ps h.1)

-- the fields with one more entry
indexed_next : (first n : ℕ) (schema : Schema) (e : FieldEntry) → slice_get schema n ≡ Some e → indexed_from first (take (suc n) schema) ≡ indexed_from first (take n schema) ++ cond (is_indexed e) ((first + n) ∷ []) []
indexed_next first n [] e at = absurd (none-some e at)
indexed_next first zero (x ∷ xs) e at =
    ap (λ (y : FieldEntry). cond (is_indexed y) (first ∷ []) [] ++ []) (same_Some x e at)
    ∙ append-nil (cond (is_indexed e) (first ∷ []) [])
    ∙ ap (λ m. cond (is_indexed e) (m ∷ []) []) (let z : first ≡ first + 0 = omega arith in z)
indexed_next first (suc n) (x ∷ xs) e at =
    ap (λ l. cond (is_indexed x) (first ∷ []) [] ++ l) (indexed_next (first + 1) n xs e at ∙ ap (λ m. indexed_from (first + 1) (take n xs) ++ cond (is_indexed e) (m ∷ []) []) (let z : first + 1 + n ≡ first + suc n = omega arith in z))
    ∙ sym (append_assoc (cond (is_indexed x) (first ∷ []) []) (indexed_from (first + 1) (take n xs)) (cond (is_indexed e) ((first + suc n) ∷ []) []))

module _ (schema : Schema) (n : ℕ) (e : FieldEntry) (at : slice_get schema n ≡ Some e) where
  next_fields : (b : Bool) → is_indexed e ≡ b → indexed_from 0 (take (n + 1) schema) ≡ indexed_from 0 (take n schema) ++ cond b (n ∷ []) []
  next_fields b is =
      ap (λ m. indexed_from 0 (take m schema)) (let z : n + 1 ≡ suc n = omega arith in z)
      ∙ indexed_next 0 n schema e at
      ∙ ap (λ c. indexed_from 0 (take n schema) ++ cond c ((0 + n) ∷ []) []) is
      ∙ ap (λ m. indexed_from 0 (take n schema) ++ cond b (m ∷ []) []) (let z : 0 + n ≡ n = omega arith in z)

  passed : (ps : List Part) → is_indexed e ≡ false → AreOf schema n ps → AreOf schema (n + 1) ps
  passed ps off h = record { are = h.are ∙ sym (append-nil (indexed_from 0 (take n schema))) ∙ sym (next_fields false off); below = still_below n ps h.below }

  with_part : (bytes : List ℕ) (ps : List Part) → is_indexed e ≡ true → AreOf schema n ps → AreOf schema (n + 1) (ps ++ (n, bytes) ∷ [])
  with_part bytes ps on h = record {
    are = map-append (λ (p : Part). p.0) ps ((n, bytes) ∷ []) ∙ ap (λ l. l ++ n ∷ []) h.are ∙ sym (next_fields true on);
    below = below_more n bytes ps h.below;
  }

-- ---- a part among parts

kept_if : (b : Bool) (x y : List ℕ) (o more : Option (List ℕ)) → (o ≡ Some y → more ≡ Some y) → cond b (Some x) o ≡ Some y → cond b (Some x) more ≡ Some y
kept_if true x y o more h e = e
kept_if false x y o more h e = h e

-- a part stays in its place
found_before : (ps more : List Part) (field : ℕ) (bytes : List ℕ) → field_of ps field ≡ Some bytes → field_of (ps ++ more) field ≡ Some bytes
found_before [] more field bytes e = absurd (none-some bytes e)
found_before (p ∷ ps) more field bytes e = kept_if (p.0 == field) p.1 bytes (field_of ps field) (field_of (ps ++ more) field) (found_before ps more field bytes) e

-- and a new one is found
found_last : (n : ℕ) (bytes : List ℕ) (ps : List Part) → AllBelow n ps → field_of (ps ++ (n, bytes) ∷ []) n ≡ Some bytes
found_last n bytes [] h = ap (λ b. cond b (Some bytes) None) (eq-eqb n n refl)
found_last n bytes (p ∷ ps) h =
    let lt : p.0 < n = h.0 in
    let other : p.0 ≢ n = λ same. omega (arith, lt, same) in
    ap (λ b. cond b (Some p.1) (field_of (ps ++ (n, bytes) ∷ []) n)) (ne_eqb p.0 n other) ∙ found_last n bytes ps h.1

-- what is found was there, or is new
abbrev WasOrIsNew : List Part → ℕ → List ℕ → ℕ → List ℕ → Type 0
WasOrIsNew ps n bytes field part = (field_of ps field ≡ Some part) ⊎ ((n ≡ field) × (bytes ≡ part))

new_if : (b : Bool) (n field : ℕ) (bytes part : List ℕ) → (n == field) ≡ b → cond b (Some bytes) None ≡ Some part → WasOrIsNew [] n bytes field part
new_if true n field bytes part is e = inr (grind (arith, nat_tests), same_Some bytes part e)
new_if false n field bytes part is e = absurd (none-some part e)

was_if : (b : Bool) (x part : List ℕ) (o more : Option (List ℕ)) (N : Type 0) → (more ≡ Some part → (o ≡ Some part) ⊎ N) → cond b (Some x) more ≡ Some part → (cond b (Some x) o ≡ Some part) ⊎ N
was_if true x part o more N h e = inl e
was_if false x part o more N h e = h e

found_where : (ps : List Part) (n : ℕ) (bytes : List ℕ) (field : ℕ) (part : List ℕ) → field_of (ps ++ (n, bytes) ∷ []) field ≡ Some part → WasOrIsNew ps n bytes field part
found_where [] n bytes field part e = new_if (n == field) n field bytes part refl e
found_where (p ∷ ps) n bytes field part e =
    was_if (p.0 == field) p.1 part (field_of ps field) (field_of (ps ++ (n, bytes) ∷ []) field) ((n ≡ field) × (bytes ≡ part)) (found_where ps n bytes field part) e

split_last : (i n : ℕ) → i < n + 1 → (i < n) ⊎ (i ≡ n)
split_last zero zero lt = inr refl
split_last zero (suc n) lt = inl (omega arith)
split_last (suc i) zero lt = absurd (omega (arith, lt))
split_last (suc i) (suc n) lt = elim (split_last i n (omega (arith, lt))) [
  | inl low ↦ inl (omega (arith, low))
  | inr last ↦ inr (ap suc last)
]

-- ---- fields

module _ (total : ℕ → ℕ) (Has : ℕ → List TermWritten → Type 0) where
  -- one that isn't indexed adds nothing
  pub none_added : (b : Bool) (field : ℕ) (files : Option FieldFiles) → b ≡ false → AddsIfIndexed total Has b field files files
  none_added true field files off = absurd (false≢true (sym off))
  none_added false field files off = refl

  some_added : (b : Bool) (field : ℕ) (old new : Option FieldFiles) → b ≡ true → AddsTerms total Has field old new → AddsIfIndexed total Has b field old new
  some_added true field old new on adds = adds
  some_added false field old new on adds = absurd (false≢true on)

  module _ (field : ℕ) (writing closing : Option FieldWriting) (whole : IsWhole total Has field writing) (same : closing ≡ writing) where
    -- what holds of the field as a whole holds of what was written
    pub of_whole : (Q : FieldWriting → Type 0) → Q (whole_field field (total field) whole.written) → IfSome closing Q
    of_whole Q here = subst (λ o. IfSome o Q) (sym (same ∙ whole.is)) here

    pub adds_whole : (b : Bool) (old new : Option FieldFiles) → b ≡ true → ((w : FieldWriting) × (closing ≡ Some w) × AddsField old new w) → AddsIfIndexed total Has b field old new
    adds_whole b old new on (w, is, adds) = some_added b field old new on (record {
      written = whole.written;
      are = whole.are;
      adds = subst (AddsField old new) (same_Some w (whole_field field (total field) whole.written) (sym is ∙ same ∙ whole.is)) adds;
    })

  -- a field that was begun, and has been given its terms, is whole
  pub is_whole : (field : ℕ) (written : List TermWritten) (begun after : Option FieldWriting) → Has field written → begun ≡ Some (fresh field (total field)) → HasGrown begun after (with_terms written) → IsWhole total Has field after
  is_whole field written begun after are begins grown = record {
    written = written;
    are = are;
    is = grown.is ∙ ap (λ w. Some (with_terms written w)) (same_Some grown.kept (fresh field (total field)) (sym grown.was ∙ begins));
  }

  stays : (files : FieldFiles) (i field : ℕ) (dictionary postings positions : List ℕ) → HasField total Has files i → HasField total Has (with_field field dictionary postings positions files) i
  stays files i field dictionary postings positions h = record {
    dictionary = h.dictionary;
    postings = h.postings;
    positions = h.positions;
    in_terms = found_before files.terms ((field, dictionary) ∷ []) i h.dictionary h.in_terms;
    in_postings = found_before files.postings ((field, postings) ∷ []) i h.postings h.in_postings;
    in_positions = found_before files.positions ((field, positions) ∷ []) i h.positions h.in_positions;
    written = h.written;
    are = h.are;
    spells = h.spells;
  }

  -- there are the parts of the indexed fields among the first n, they spell their terms, and begin with their totals
  pub record AreWritten (schema : Schema) (n : ℕ) (files : Option FieldFiles) : Type 0 where
    kept : FieldFiles
    is : files ≡ Some kept
    terms : AreOf schema n kept.terms
    postings : AreOf schema n kept.postings
    positions : AreOf schema n kept.positions
    each : (field : ℕ) (e : FieldEntry) → field < n → slice_get schema field ≡ Some e → is_indexed e ≡ true → HasField total Has kept field
    totals : (field : ℕ) (part : List ℕ) → field_of kept.postings field ≡ Some part → u64_at part 0 ≡ total field

  module _ (schema : Schema) where
    pub none_written : (files : Option FieldFiles) → files ≡ Some no_fields → AreWritten schema 0 files
    none_written files begins = record {
      kept = no_fields;
      is = begins;
      terms = record { are = refl; below = tt };
      postings = record { are = refl; below = tt };
      positions = record { are = refl; below = tt };
      each = λ field e lt at on. absurd (omega (arith, lt));
      totals = λ field part has. absurd (none-some part has);
    }

    module _ (n : ℕ) (before : Option FieldFiles) (so_far : AreWritten schema n before) where
      pub ascends : IfSome before (λ f. (low_after 0 f.terms ≤ n) × (low_after 0 f.postings ≤ n) × (low_after 0 f.positions ≤ n))
      ascends = subst (λ o. IfSome o (λ f. (low_after 0 f.terms ≤ n) × (low_after 0 f.postings ≤ n) × (low_after 0 f.positions ≤ n))) (sym so_far.is)
          (low_after_below 0 n so_far.kept.terms (omega arith) so_far.terms.below, low_after_below 0 n so_far.kept.postings (omega arith) so_far.postings.below, low_after_below 0 n so_far.kept.positions (omega arith) so_far.positions.below)

      module _ (e : FieldEntry) (at_e : slice_get schema n ≡ Some e) where
        not_indexed : is_indexed e ≡ false → AreWritten schema (n + 1) before
        not_indexed off = record {
          kept = so_far.kept;
          is = so_far.is;
          terms = passed schema n e at_e so_far.kept.terms off so_far.terms;
          postings = passed schema n e at_e so_far.kept.postings off so_far.postings;
          positions = passed schema n e at_e so_far.kept.positions off so_far.positions;
          each = λ i x lt at_x on. elim (split_last i n lt) [
            | inl low ↦ so_far.each i x low at_x on
            | inr last ↦
                let same : e ≡ x = same_Some e x (sym at_e ∙ ap (slice_get schema) (sym last) ∙ at_x) in
                absurd (false≢true (sym off ∙ ap is_indexed same ∙ on))
          ];
          totals = so_far.totals;
        }

        module _ (after : Option FieldFiles) (added : AddsTerms total Has n before after) where
          abbrev files : FieldFiles
          files = with_field n added.adds.dictionary added.adds.postings added.adds.positions so_far.kept

          here : HasField total Has files n
          here = record {
            dictionary = added.adds.dictionary;
            postings = added.adds.postings;
            positions = added.adds.positions;
            in_terms = found_last n added.adds.dictionary so_far.kept.terms so_far.terms.below;
            in_postings = found_last n added.adds.postings so_far.kept.postings so_far.postings.below;
            in_positions = found_last n added.adds.positions so_far.kept.positions so_far.positions.below;
            written = added.written;
            are = added.are;
            spells = added.adds.spells;
          }

          indexed : is_indexed e ≡ true → AreWritten schema (n + 1) after
          indexed on =
              let same = same_Some added.adds.grown.kept so_far.kept (sym added.adds.grown.was ∙ so_far.is) in
              record {
                kept = files;
                is = added.adds.grown.is ∙ ap (λ f. Some (with_field n added.adds.dictionary added.adds.postings added.adds.positions f)) same;
                terms = with_part schema n e at_e added.adds.dictionary so_far.kept.terms on so_far.terms;
                postings = with_part schema n e at_e added.adds.postings so_far.kept.postings on so_far.postings;
                positions = with_part schema n e at_e added.adds.positions so_far.kept.positions on so_far.positions;
                each = λ i x lt at_x on_x. elim (split_last i n lt) [
                  | inl low ↦ stays so_far.kept i n added.adds.dictionary added.adds.postings added.adds.positions (so_far.each i x low at_x on_x)
                  | inr last ↦ subst (HasField total Has files) (sym last) here
                ];
                totals = λ i part has. elim (found_where so_far.kept.postings n added.adds.postings i part has) [
                  | inl was ↦ so_far.totals i part was
                  | inr new ↦ ap (λ p. u64_at p 0) (sym new.1) ∙ added.adds.spells.counted ∙ ap total new.0
                ];
              }

        next_written : (b : Bool) → is_indexed e ≡ b → (after : Option FieldFiles) → AddsIfIndexed total Has b n before after → AreWritten schema (n + 1) after
        next_written true on after adds = indexed after adds on
        next_written false off after same = subst (AreWritten schema (n + 1)) (sym same) (not_indexed off)

        pub one_written : (after : Option FieldFiles) → AddsIfIndexed total Has (is_indexed e) n before after → AreWritten schema (n + 1) after
        one_written after adds = next_written (is_indexed e) refl after adds

      -- ---- what the files hold at the end

      all_fields : length schema ≤ n → (ps : List Part) → AreOf schema n ps → map (λ p. p.0) ps ≡ indexed_from 0 schema
      all_fields all ps h = h.are ∙ ap (indexed_from 0) (take_all n schema all)

      pub have_fields : length schema ≤ n → IsSomeAnd before (HaveFields total Has schema)
      have_fields all = subst (λ o. IsSomeAnd o (HaveFields total Has schema)) (sym so_far.is) (record {
        term_fields = all_fields all so_far.kept.terms so_far.terms;
        posting_fields = all_fields all so_far.kept.postings so_far.postings;
        position_fields = all_fields all so_far.kept.positions so_far.positions;
        each = λ field e at on.
            let within = slice_get_within schema field e at in
            so_far.each field e (omega (arith, within, all)) at on;
        totals = so_far.totals;
      })

-- the terms of a field, each recorded as the field asks
pub record AreTermsOf (entry : FieldEntry) (written : List TermWritten) (held : Terms) : Type 0 where
  pub kinds : AllByRecursion (λ t. t.kind ≡ kind_of (term_option entry t.bytes)) written
  pub are : map (λ t. (t.bytes, t.postings)) written ≡ entries held

-- three files have these parts
abbrev pub AreParts : List ℕ → List ℕ → List ℕ → FieldFiles → Type 0
AreParts terms postings positions f = (composite terms ≡ Some f.terms) × (composite postings ≡ Some f.postings) × (composite positions ≡ Some f.positions)

pub hold_terms : (total : ℕ → ℕ) (Has : ℕ → List TermWritten → Type 0) (schema : Schema) (files : FieldFiles) → HaveFields total Has schema files → (terms postings positions : List ℕ) → AreParts terms postings positions files → (held : List Terms)
    → ((field : ℕ) (entry : FieldEntry) (written : List TermWritten) → slice_get schema field ≡ Some entry → is_indexed entry ≡ true → Has field written → AreTermsOf entry written (slice_index_or held field empty))
    → HoldTerms schema terms postings positions held
hold_terms total Has schema files have terms postings positions parts held of = record {
  term_parts = files.terms;
  posting_parts = files.postings;
  position_parts = files.positions;
  term_file = parts.0;
  posting_file = parts.1;
  position_file = parts.2;
  term_fields = have.term_fields;
  posting_fields = have.posting_fields;
  position_fields = have.position_fields;
  each = λ field entry at on.
      let h = have.each field entry at on in
      let are = of field entry h.written at on h.are in
      record {
        dictionary = h.dictionary;
        postings_part = h.postings;
        positions_part = h.positions;
        in_terms = h.in_terms;
        in_postings = h.in_postings;
        in_positions = h.in_positions;
        total = total field;
        written = h.written;
        spells = h.spells;
        kinds = are.kinds;
        are = are.are;
      };
}
