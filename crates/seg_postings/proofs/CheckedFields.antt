-- A field that is checked is read, and a field that is read passes its check.
use Rattle.std.proofs.Common.{◌≡◌, ℕ, zero, suc, ◌<◌, ◌&&◌, true, false, List, [], ◌∷◌, length, map, Option, Some, None, refl, sym, ap, ◌∙◌, arith, subst, slice_range}
use Rattle.std.specs.Prelude.{nat_eq, nat_lt, option_map, option_and_then, unwrap_or}
use Rattle.std.specs.List.{list_all, AllByRecursion}
use Rattle.std.proofs.lemmas.Bool.{lt-ltb, ltb-true, and_parts, and_from, false≢true}
use Rattle.std.proofs.lemmas.Option.{same_Some}
use Rattle.seg_common.specs.declared.term_info.TermInfo.{TermInfo}
use Rattle.seg_termdict.specs.Dictionary.{Term}
use Rattle.seg_model.specs.DocumentTerms.{Recorded, Posting}
use Rattle.seg_postings.specs.declared.record_kind.RecordKind.{RecordKind}
use Rattle.seg_postings.specs.declared.record_kind.RecordKind.TheVariants.{Documents, Counts, Positions}
use Rattle.seg_postings.specs.RecordKinds.{kind_byte, kind_of_byte}
use Rattle.seg_postings.specs.Postings.{counts_at, with_positions, postings_of_kind, TermPostings, term_postings}
use Rattle.seg_postings.specs.RemainingPostings.{counted_at, recorded_at, postings_at, postings_from, is_term_of}
use Rattle.seg_postings.specs.Field.{term_at, terms_at}
use Rattle.seg_postings.specs.FieldSerializers.{TermWritten}
use Rattle.seg_postings.specs.OpenedFields.{FieldRules, kind_by, is_read, postings_in}
use Rattle.seg_postings.proofs.GrownTerms.{Both, both}
use Rattle.seg_postings.proofs.PostingsByDocument.{first_document, with_first, first_recorded}

-- ---- as many postings as documents

pub none_length : (kind : RecordKind) (before least : ℕ) (bytes qs : List ℕ) (ps : List Posting) → postings_at kind 0 before least bytes qs ≡ Some ps → length ps ≡ 0
unfolding postings_at counts_at with_positions
none_length kind before least (b ∷ bytes) qs ps e = absurd cc
none_length Documents before least [] [] ps e = sym (ap length (same_Some _ _ e))
none_length Documents before least [] (q ∷ qs) ps e = absurd cc
none_length Counts before least [] [] ps e = sym (ap length (same_Some _ _ e))
none_length Counts before least [] (q ∷ qs) ps e = absurd cc
none_length Positions before least [] [] ps e = sym (ap length (same_Some _ _ e))
none_length Positions before least [] (q ∷ qs) ps e = absurd cc

module _ (kind : RecordKind) (n : ℕ) (as_many : (document : ℕ) (bytes qs : List ℕ) (ps : List Posting) → postings_at kind n document 1 bytes qs ≡ Some ps → length ps ≡ n) where
  one_longer : (document : ℕ) (recorded : Recorded) (bytes qs : List ℕ) (ps : List Posting) (o : Option (List Posting)) → postings_at kind n document 1 bytes qs ≡ o → option_map (λ xs. with_first document recorded xs) o ≡ Some ps → length ps ≡ suc n
  one_longer document recorded bytes qs ps None is e = absurd cc
  one_longer document recorded bytes qs ps (Some xs) is e = sym (ap length (same_Some _ _ e)) ∙ ap suc (as_many document bytes qs xs is)

  with_recorded : (document : ℕ) (bytes : List ℕ) (ps : List Posting) (o : Option (Recorded × List ℕ)) → option_and_then (λ r. option_map (λ xs. with_first document r.0 xs) (postings_at kind n document 1 bytes r.1)) o ≡ Some ps → length ps ≡ suc n
  with_recorded document bytes ps None e = absurd cc
  with_recorded document bytes ps (Some r) e = one_longer document r.0 bytes r.1 ps (postings_at kind n document 1 bytes r.1) refl e

  with_document : (qs : List ℕ) (ps : List Posting) (o : Option (ℕ × ℕ × List ℕ)) → option_and_then (λ t. postings_from kind t.0 t.1 n t.2 qs) o ≡ Some ps → length ps ≡ suc n
  with_document qs ps None e = absurd cc
  with_document qs ps (Some t) e = with_recorded t.0 t.2 ps (recorded_at kind t.1 qs) (sym (first_recorded kind t.0 t.1 n t.2 qs) ∙ e)

pub length_at : (kind : RecordKind) (n before least : ℕ) (bytes qs : List ℕ) (ps : List Posting) → postings_at kind n before least bytes qs ≡ Some ps → length ps ≡ n
length_at kind zero before least bytes qs ps e = none_length kind before least bytes qs ps e
length_at kind (suc n) before least bytes qs ps e =
    with_document kind n (λ document rest more xs is. length_at kind n document 1 rest more xs is) qs ps (counted_at kind before least bytes) (sym (first_document kind n before least bytes qs) ∙ e)

pub length_of_term : (n : ℕ) (bytes qs : List ℕ) (t : TermPostings) → term_postings n bytes qs ≡ Some t → length t.postings ≡ n
unfolding postings_at
length_of_term n [] qs t e = absurd cc
length_of_term n (b ∷ bytes) qs t e = by_kind (kind_of_byte b) e
  where
    by_postings : (kind : RecordKind) (o : Option (List Posting)) → postings_at kind n 0 0 bytes qs ≡ o → option_map (λ ps. record { kind = kind; postings = ps }) o ≡ Some t → length t.postings ≡ n
    by_postings kind None is e = absurd cc
    by_postings kind (Some ps) is e = sym (ap (λ (x : TermPostings). length x.postings) (same_Some _ _ e)) ∙ length_at kind n 0 0 bytes qs ps is

    by_kind : (o : Option RecordKind) → option_and_then (postings_of_kind n bytes qs) o ≡ Some t → length t.postings ≡ n
    by_kind None e = absurd cc
    by_kind (Some kind) e = by_postings kind (postings_at kind n 0 0 bytes qs) refl e

-- ---- a term

same_kinds : (a b : RecordKind) → nat_eq (kind_byte a) (kind_byte b) ≡ true → a ≡ b
same_kinds Documents Documents e = refl
same_kinds Documents Counts e = absurd cc
same_kinds Documents Positions e = absurd cc
same_kinds Counts Documents e = absurd cc
same_kinds Counts Counts e = refl
same_kinds Counts Positions e = absurd cc
same_kinds Positions Documents e = absurd cc
same_kinds Positions Counts e = absurd cc
same_kinds Positions Positions e = refl

one_kind : (a b : RecordKind) → a ≡ b → nat_eq (kind_byte a) (kind_byte b) ≡ true
one_kind Documents b e = rw (sym e) refl
one_kind Counts b e = rw (sym e) refl
one_kind Positions b e = rw (sym e) refl

all_low : (max_doc : ℕ) (ps : List Posting) → list_all (λ p. nat_lt p.document max_doc) ps ≡ true → AllByRecursion (λ (p : Posting). p.document < max_doc) ps
all_low max_doc [] e = tt
all_low max_doc (p ∷ ps) e =
    let both = and_parts (nat_lt p.document max_doc) (list_all (λ (p : Posting). nat_lt p.document max_doc) ps) e in
    (ltb-true p.document max_doc both.0, all_low max_doc ps both.1)

are_all_low : (max_doc : ℕ) (ps : List Posting) → AllByRecursion (λ (p : Posting). p.document < max_doc) ps → list_all (λ p. nat_lt p.document max_doc) ps ≡ true
are_all_low max_doc [] all = refl
are_all_low max_doc (p ∷ ps) all = and_from (nat_lt p.document max_doc) (list_all (λ (p : Posting). nat_lt p.document max_doc) ps) (lt-ltb p.document max_doc all.0) (are_all_low max_doc ps all.1)

module _ (rules : FieldRules) (postings positions : List ℕ) where
  abbrev in_ranges : TermInfo → Option TermPostings
  in_ranges info = term_postings info.doc_freq (slice_range postings info.postings_start info.postings_end) (slice_range positions info.positions_start info.positions_end)

  abbrev pub written : Term → TermWritten
  written t = record { bytes = t.0; kind = (postings_in postings positions t.1).kind; postings = (postings_in postings positions t.1).postings }

  -- a term that was read
  pub record Reads (t : Term) : Type 0 where
    pub read : in_ranges t.1 ≡ Some (postings_in postings positions t.1)
    pub number : 0 < t.1.doc_freq
    pub occurs : 0 < length (postings_in postings positions t.1).postings
    pub kind : (postings_in postings positions t.1).kind ≡ kind_by rules t.0
    pub low : AllByRecursion (λ (p : Posting). p.document < rules.max_doc) (postings_in postings positions t.1).postings

  reads_by : (t : Term) (o : Option TermPostings) → in_ranges t.1 ≡ o → (nat_lt 0 t.1.doc_freq && is_term_of (kind_by rules t.0) rules.max_doc o) ≡ true → Reads t
  reads_by t None is e =
      let both = and_parts (nat_lt 0 t.1.doc_freq) false e in
      absurd (false≢true both.1)
  reads_by t (Some p) is e =
      let both = and_parts (nat_lt 0 t.1.doc_freq) (is_term_of (kind_by rules t.0) rules.max_doc (Some p)) e in
      let more = and_parts (nat_eq (kind_byte p.kind) (kind_byte (kind_by rules t.0))) (list_all (λ (q : Posting). nat_lt q.document rules.max_doc) p.postings) both.1 in
      let same : p ≡ postings_in postings positions t.1 = sym (ap (λ (o : Option TermPostings). unwrap_or o (record { kind = Documents; postings = [] })) is) in
      let some : 0 < length p.postings = omega (arith, ltb-true 0 t.1.doc_freq both.0, length_of_term t.1.doc_freq (slice_range postings t.1.postings_start t.1.postings_end) (slice_range positions t.1.positions_start t.1.positions_end) p is) in
      record {
        read = is ∙ ap (λ x. Some x) same;
        number = ltb-true 0 t.1.doc_freq both.0;
        occurs = subst (λ (x : TermPostings). 0 < length x.postings) same some;
        kind = subst (λ (x : TermPostings). x.kind ≡ kind_by rules t.0) same (same_kinds p.kind (kind_by rules t.0) more.0);
        low = subst (λ (x : TermPostings). AllByRecursion (λ (q : Posting). q.document < rules.max_doc) x.postings) same (all_low rules.max_doc p.postings more.1);
      }

  pub reads : (t : Term) → is_read rules postings positions t ≡ true → Reads t
  reads t e = reads_by t (in_ranges t.1) refl e

  -- ---- all terms

  pub record ReadsAll (terms : List Term) : Type 0 where
    pub read : terms_at postings positions terms ≡ Some (map written terms)
    pub occur : AllByRecursion (λ (t : TermWritten). 0 < length t.postings) (map written terms)
    pub kinds : AllByRecursion (λ (t : TermWritten). t.kind ≡ kind_by rules t.bytes) (map written terms)
    pub low : AllByRecursion (λ (t : TermWritten). AllByRecursion (λ (p : Posting). p.document < rules.max_doc) t.postings) (map written terms)

  first_read : (t : Term) (terms : List Term) → Reads t → terms_at postings positions terms ≡ Some (map written terms) → terms_at postings positions (t ∷ terms) ≡ Some (written t ∷ map written terms)
  unfolding terms_at
  first_read t terms here others = rw (here.read, others) refl

  no_terms_read : terms_at postings positions [] ≡ Some []
  unfolding terms_at
  no_terms_read = refl

  pub reads_all : (terms : List Term) → list_all (is_read rules postings positions) terms ≡ true → ReadsAll terms
  reads_all [] e = record { read = no_terms_read; occur = tt; kinds = tt; low = tt }
  reads_all (t ∷ terms) e =
      let both = and_parts (is_read rules postings positions t) (list_all (is_read rules postings positions) terms) e in
      let here = reads t both.0 in
      let others = reads_all terms both.1 in
      record {
        read = first_read t terms here others.read;
        occur = (here.occurs, others.occur);
        kinds = (here.kind, others.kinds);
        low = (here.low, others.low);
      }

  -- ---- and back

  passes_by : (t : Term) (w : TermWritten) (o : Option TermPostings) → in_ranges t.1 ≡ o → option_map (λ (p : TermPostings). record { bytes = t.0; kind = p.kind; postings = p.postings }) o ≡ Some w → 0 < length w.postings → w.kind ≡ kind_by rules w.bytes → AllByRecursion (λ (p : Posting). p.document < rules.max_doc) w.postings
      → (nat_lt 0 t.1.doc_freq && is_term_of (kind_by rules t.0) rules.max_doc o) ≡ true
  passes_by t w None is e some kind low = absurd cc
  passes_by t w (Some p) is e some kind low =
      let same : w ≡ record { bytes = t.0; kind = p.kind; postings = p.postings } = sym (same_Some _ _ e) in
      let number : length p.postings ≡ t.1.doc_freq = length_of_term t.1.doc_freq (slice_range postings t.1.postings_start t.1.postings_end) (slice_range positions t.1.positions_start t.1.positions_end) p is in
      let some_here : 0 < length p.postings = subst (λ (x : TermWritten). 0 < length x.postings) same some in
      let kind_here : p.kind ≡ kind_by rules t.0 = subst (λ (x : TermWritten). x.kind ≡ kind_by rules x.bytes) same kind in
      let low_here : AllByRecursion (λ (q : Posting). q.document < rules.max_doc) p.postings = subst (λ (x : TermWritten). AllByRecursion (λ (q : Posting). q.document < rules.max_doc) x.postings) same low in
      and_from (nat_lt 0 t.1.doc_freq) (is_term_of (kind_by rules t.0) rules.max_doc (Some p)) (lt-ltb 0 t.1.doc_freq (omega (arith, some_here, number)))
      (and_from (nat_eq (kind_byte p.kind) (kind_byte (kind_by rules t.0))) (list_all (λ (q : Posting). nat_lt q.document rules.max_doc) p.postings) (one_kind p.kind (kind_by rules t.0) kind_here) (are_all_low rules.max_doc p.postings low_here))

  split_terms : (t : Term) (terms : List Term) (all : List TermWritten) → terms_at postings positions (t ∷ terms) ≡ Some all → Both (term_at postings positions t) (terms_at postings positions terms) all
  unfolding terms_at
  split_terms t terms all e = both (term_at postings positions t) (terms_at postings positions terms) all e

  pub passes_all : (terms : List Term) (ws : List TermWritten) → terms_at postings positions terms ≡ Some ws → AllByRecursion (λ (t : TermWritten). 0 < length t.postings) ws → AllByRecursion (λ (t : TermWritten). t.kind ≡ kind_by rules t.bytes) ws → AllByRecursion (λ (t : TermWritten). AllByRecursion (λ (p : Posting). p.document < rules.max_doc) t.postings) ws
      → list_all (is_read rules postings positions) terms ≡ true
  passes_all [] ws e occur kinds low = refl
  passes_all (t ∷ terms) ws e occur kinds low =
      let s = split_terms t terms ws e in
      let o = subst (λ (xs : List TermWritten). AllByRecursion (λ (t : TermWritten). 0 < length t.postings) xs) (sym s.are_all) occur in
      let k = subst (λ (xs : List TermWritten). AllByRecursion (λ (t : TermWritten). t.kind ≡ kind_by rules t.bytes) xs) (sym s.are_all) kinds in
      let l = subst (λ (xs : List TermWritten). AllByRecursion (λ (t : TermWritten). AllByRecursion (λ (p : Posting). p.document < rules.max_doc) t.postings) xs) (sym s.are_all) low in
      and_from (is_read rules postings positions t) (list_all (is_read rules postings positions) terms)
      (passes_by t s.w (in_ranges t.1) refl s.is_first o.0 k.0 l.0)
      (passes_all terms s.ws s.are_others o.1 k.1 l.1)
