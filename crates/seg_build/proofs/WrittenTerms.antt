-- Terms that are written one by one.
use Rattle.std.proofs.Common.{◌≡◌, ℕ, zero, suc, ◌+◌, ◌<◌, true, List, [], ◌∷◌, ◌++◌, map, length, take, Some, None, Option, Less, sym, refl, ap, ◌∙◌, subst, arith}
use Rattle.std.specs.Prelude.{is_some, IfSome, IsSomeAnd}
use Rattle.std.specs.FinMap.{is_sorted}
use Rattle.std.specs.FinMap.Entries.{below_all}
use Rattle.std.specs.List.{slice_get, AllByRecursion}
use Rattle.std.specs.Map.{keys_of, values_of}
use Rattle.std.specs.Ordering.{nat_cmp, is_lt}
use Rattle.std.specs.Cmp.Lexicographic.{slice_cmp}
use Rattle.std.proofs.lemmas.Bool.{false≢true, and_parts}
use Rattle.std.proofs.lemmas.Option.{same_Some}
use Rattle.seg_common.specs.WriterGrowth.{HasGrown}
use Rattle.seg_model.specs.DocumentTerms.{Posting}
use Rattle.seg_postings.specs.declared.asked_kind.AskedKind.{AskedKind}
use Rattle.seg_postings.specs.declared.record_kind.RecordKind.{RecordKind}
use Rattle.seg_postings.specs.FieldSerializers.{TermWritten, FieldWriting, with_open, last_written, MayOpen}
use Rattle.seg_postings.specs.WritablePostings.{AreWritable}
use Rattle.seg_terms.specs.TermEntries.{TermEntries}
use Rattle.seg_build.specs.FieldTerms.{FieldTerms, kind_in}
use Rattle.seg_segment.specs.WrittenTerms.{term_with, with_terms, with_whole_term}
use Rattle.seg_build.specs.WrittenTerms.{written}
use Rattle.seg_build.specs.WritableTerms.{CanBeWritten}
use Rattle.seg_common.proofs.Numbers.{is_less}
use Rattle.seg_build.proofs.WrittenHits.{first_keeps}

below_at : (k : List ℕ) (es : TermEntries) (i : ℕ) (b : List ℕ) → below_all (slice_cmp nat_cmp) k es ≡ true
    → slice_get (keys_of es) i ≡ Some b → slice_cmp nat_cmp k b ≡ Less
below_at k [] i b h at = absurd (false≢true (ap is_some at))
below_at k (e ∷ es) zero b h at =
    ap (slice_cmp nat_cmp k) (sym (same_Some e.0 b at))
    ∙ is_less _ (and_parts (is_lt (slice_cmp nat_cmp k e.0)) (below_all (slice_cmp nat_cmp) k es) h).0
below_at k (e ∷ es) (suc i) b h at =
    below_at k es i b (and_parts (is_lt (slice_cmp nat_cmp k e.0)) (below_all (slice_cmp nat_cmp) k es) h).1 at

-- the term at a place is greater than the last before it
ascends_at : (asked : AskedKind) (before : Option TermWritten) (es : TermEntries) (i : ℕ) (b : List ℕ)
    → is_sorted (slice_cmp nat_cmp) es ≡ true → slice_get (keys_of es) i ≡ Some b
    → IfSome before (λ t. slice_cmp nat_cmp t.bytes b ≡ Less)
    → IfSome (last_written before (map (written asked) (take i es))) (λ t. slice_cmp nat_cmp t.bytes b ≡ Less)
ascends_at asked before [] i b up at h = absurd (false≢true (ap is_some at))
ascends_at asked before (e ∷ es) zero b up at h = h
ascends_at asked before (e ∷ es) (suc i) b up at h =
    let two = and_parts (below_all (slice_cmp nat_cmp) e.0 es) (is_sorted (slice_cmp nat_cmp) es) up in
    ascends_at asked (Some (written asked e)) es i b two.1 at (below_at e.0 es i b two.0 at)

at_place : (Q : List ℕ → List Posting → Type 0) (es : TermEntries) (i : ℕ) (b : List ℕ) (ps : List Posting) → AllByRecursion (λ e. Q e.0 e.1) es
    → slice_get (keys_of es) i ≡ Some b → slice_get (values_of es) i ≡ Some ps → Q b ps
at_place Q [] i b ps all at_key at_value = absurd (false≢true (ap is_some at_key))
at_place Q (e ∷ es) zero b ps all at_key at_value = subst (λ q. Q q ps) (same_Some e.0 b at_key) (subst (Q e.0) (same_Some e.1 ps at_value) all.0)
at_place Q (e ∷ es) (suc i) b ps all at_key at_value = at_place Q es i b ps all.1 at_key at_value

one_more : (asked : AskedKind) (es : TermEntries) (i : ℕ) (b : List ℕ) (ps : List Posting)
    → slice_get (keys_of es) i ≡ Some b → slice_get (values_of es) i ≡ Some ps
    → map (written asked) (take (suc i) es) ≡ map (written asked) (take i es) ++ written asked (b, ps) ∷ []
one_more asked [] i b ps at_key at_value = absurd (false≢true (ap is_some at_key))
one_more asked (e ∷ es) zero b ps at_key at_value =
    ap (λ x. written asked (x, e.1) ∷ []) (same_Some e.0 b at_key)
    ∙ ap (λ x. written asked (b, x) ∷ []) (same_Some e.1 ps at_value)
one_more asked (e ∷ es) (suc i) b ps at_key at_value =
    ap (λ l. written asked e ∷ l) (one_more asked es i b ps at_key at_value)

-- the first terms of a field
abbrev pub first_written : ℕ → FieldTerms → List TermWritten
first_written n field = map (written field.asked) (take n field.terms)

-- a term that occurs is whole
whole_term : (asked : AskedKind) (bytes : List ℕ) (ps : List Posting) → 0 < length ps → AreWritable (kind_in asked bytes) 0 0 ps
    → term_with bytes ps ≡ Some (written asked (bytes, ps))
whole_term asked bytes [] some h = absurd (omega (arith, some))
whole_term asked bytes (p ∷ ps) some h =
    ap (λ (k : RecordKind). Some (record { bytes = bytes; kind = k; postings = p ∷ ps })) (first_keeps (kind_in asked bytes) p ps h)

module _ (field : FieldTerms) (can : CanBeWritten field) (before now : Option FieldWriting) (i : ℕ) (g : HasGrown before now (with_terms (first_written i field))) where
  pub may_open : (bytes : List ℕ) → slice_get (keys_of field.terms) i ≡ Some bytes
      → IsSomeAnd now (λ w. MayOpen w bytes)
  may_open bytes at =
      subst (λ o. IsSomeAnd o (λ w. MayOpen w bytes)) (sym g.is) (record { closed = refl; ascends = ascends_at field.asked None field.terms i bytes can.ascend at tt })

  module _ (bytes : List ℕ) (postings : List Posting) (at_key : slice_get (keys_of field.terms) i ≡ Some bytes) (at_value : slice_get (values_of field.terms) i ≡ Some postings) where
    is_term : term_with bytes postings ≡ Some (written field.asked (bytes, postings))
    is_term =
        whole_term field.asked bytes postings (at_place (λ _ ps. 0 < length ps) field.terms i bytes postings can.occur at_key at_value) (at_place (λ q ps. AreWritable (kind_in field.asked q) 0 0 ps) field.terms i bytes postings can.writable at_key at_value)

    pub term_more : (after : Option FieldWriting) → HasGrown now after (with_whole_term bytes postings)
        → HasGrown before after (with_terms (first_written (i + 1) field))
    term_more after k =
        let next : suc i ≡ i + 1 = omega arith in
        record {
          kept = g.kept;
          was = g.was;
          is = k.is
              ∙ ap (λ w. Some (with_whole_term bytes postings w)) (same_Some k.kept (with_terms (first_written i field) g.kept) (sym k.was ∙ g.is))
              ∙ ap (λ o. Some (record g.kept { terms = with_open (first_written i field) o; current = None })) is_term
              ∙ ap (λ ts. Some (record g.kept { terms = ts; current = None })) (sym (one_more field.asked field.terms i bytes postings at_key at_value) ∙ ap (λ m. first_written m field) next);
        }

pub writable_at : (field : FieldTerms) → CanBeWritten field → (i : ℕ) (bytes : List ℕ) (postings : List Posting)
    → slice_get (keys_of field.terms) i ≡ Some bytes → slice_get (values_of field.terms) i ≡ Some postings
    → AreWritable (kind_in field.asked bytes) 0 0 postings
writable_at field can i bytes postings at_key at_value =
    at_place (λ q ps. AreWritable (kind_in field.asked q) 0 0 ps) field.terms i bytes postings can.writable at_key at_value
