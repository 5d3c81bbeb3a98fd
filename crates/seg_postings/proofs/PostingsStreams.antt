-- Postings that are read one after another.
use Rattle.std.proofs.Common.{◌≡◌, ℕ, suc, ◌+◌, ◌-◌, ◌^◌, ◌<◌, ◌≤◌, true, List, [], ◌∷◌, ◌++◌, length, drop, Option, Some, None, refl, sym, ap, ◌∙◌, arith, subst, append_assoc, MatchOption}
use Rattle.std.specs.Prelude.{is_some, option_map, option_and_then, unwrap_or}
use Rattle.std.proofs.lemmas.Bool.{false≢true}
use Rattle.std.proofs.lemmas.List.{append-nil}
use Rattle.std.proofs.lemmas.Option.{same_Some}
use Rattle.seg_common.proofs.Numbers.{one_left}
use Rattle.seg_model.specs.DocumentTerms.{Recorded, positions, Posting}
use Rattle.seg_postings.specs.declared.documents.CountedDocument.{CountedDocument}
use Rattle.seg_postings.specs.declared.record_kind.RecordKind.{RecordKind}
use Rattle.seg_postings.specs.declared.record_kind.RecordKind.TheVariants.{Documents, Counts, Positions}
use Rattle.seg_postings.specs.RecordKinds.{kind_of_byte}
use Rattle.seg_postings.specs.PassedBytes.{Passes}
use Rattle.seg_postings.specs.Postings.{number_at, positions_at, postings_of_kind, TermPostings, term_postings}
use Rattle.seg_postings.specs.RemainingPostings.{counted_at, recorded_at, postings_at, postings_from}
use Rattle.seg_postings.specs.OpenPostings.{kind_at, left_from, can_be_read, count_of, places_of, kind_kept}
use Rattle.seg_postings.proofs.PostingsByDocument.{first_document, with_first, first_recorded}
use Rattle.seg_postings.proofs.CheckedFields.{none_length}
use Rattle.seg_postings.proofs.AscendingPostings.{as_many}

-- ---- the current posting

pub record Headed (kind : RecordKind) (document count n : ℕ) (bytes qs : List ℕ) : Type 0 where
  pub recorded : Recorded
  pub after : List ℕ
  pub rest : List Posting
  pub is_recorded : recorded_at kind count qs ≡ Some (recorded, after)
  pub is_rest : postings_at kind n document 1 bytes after ≡ Some rest
  pub all : postings_from kind document count n bytes qs ≡ Some (with_first document recorded rest)

module _ (kind : RecordKind) (document count n : ℕ) (bytes qs : List ℕ) where
  with_rest : (r : Recorded × List ℕ) (o : Option (List Posting)) → recorded_at kind count qs ≡ Some r → postings_at kind n document 1 bytes r.1 ≡ o → is_some (option_map (λ ps. with_first document r.0 ps) o) ≡ true → Headed kind document count n bytes qs
  with_rest r None is e good = absurd (false≢true good)
  with_rest r (Some ps) is e good = record {
    recorded = r.0;
    after = r.1;
    rest = ps;
    is_recorded = is;
    is_rest = e;
    all = first_recorded kind document count n bytes qs ∙ ap (option_and_then (λ (x : Recorded × List ℕ). option_map (λ ps. with_first document x.0 ps) (postings_at kind n document 1 bytes x.1))) is ∙ ap (option_map (λ ps. with_first document r.0 ps)) e;
  }

  with_recorded : (o : Option (Recorded × List ℕ)) → recorded_at kind count qs ≡ o → is_some (option_and_then (λ r. option_map (λ ps. with_first document r.0 ps) (postings_at kind n document 1 bytes r.1)) o) ≡ true → Headed kind document count n bytes qs
  with_recorded None is good = absurd (false≢true good)
  with_recorded (Some r) is good = with_rest r (postings_at kind n document 1 bytes r.1) is refl good

  pub headed : is_some (postings_from kind document count n bytes qs) ≡ true → Headed kind document count n bytes qs
  headed good = with_recorded (recorded_at kind count qs) refl (sym (ap is_some (first_recorded kind document count n bytes qs)) ∙ good)

none_some : {A : Type 0} (x : A) → ◌≡◌ {A = Option A} None (Some x) → ⊥
none_some x e = cc

-- what a reader is seen as, where it is at a document
pub record Stands (kind : RecordKind) (current : Option CountedDocument) (d : CountedDocument) (n : ℕ) (bytes qs : List ℕ) : Type 0 where
  pub head : Headed kind d.document d.count n bytes qs
  pub left : left_from kind current n bytes qs ≡ with_first d.document head.recorded head.rest

at_document : (kind : RecordKind) (d : CountedDocument) (n : ℕ) (bytes qs : List ℕ) → can_be_read kind (Some d) n bytes qs ≡ true → Stands kind (Some d) d n bytes qs
unfolding left_from can_be_read
at_document kind d n bytes qs good =
    let h = headed kind d.document d.count n bytes qs good in
    record { head = h; left = ap (λ o. unwrap_or o []) h.all }

pub stands : (kind : RecordKind) (current : Option CountedDocument) (d : CountedDocument) (n : ℕ) (bytes qs : List ℕ) → current ≡ Some d → can_be_read kind current n bytes qs ≡ true → Stands kind current d n bytes qs
stands kind current d n bytes qs is good = subst (λ c. can_be_read kind c n bytes qs ≡ true → Stands kind c d n bytes qs) (sym is) (at_document kind d n bytes qs) good

at_end : (kind : RecordKind) (n : ℕ) (bytes qs : List ℕ) → left_from kind None n bytes qs ≡ []
unfolding left_from
at_end kind n bytes qs = refl

pub ended : (kind : RecordKind) (current : Option CountedDocument) (n : ℕ) (bytes qs : List ℕ) → current ≡ None → left_from kind current n bytes qs ≡ []
ended kind current n bytes qs is = ap (λ c. left_from kind c n bytes qs) is ∙ at_end kind n bytes qs

pub end_reads : (kind : RecordKind) (n : ℕ) (bytes qs : List ℕ) → can_be_read kind None n bytes qs ≡ true
unfolding can_be_read
end_reads kind n bytes qs = refl

-- ---- what is recorded

-- how often the term occurs by what the kind keeps
abbrev pub kept : RecordKind → ℕ → ℕ
kept Documents count = 1
kept _ count = count

positions_kept : (count : ℕ) (qs : List ℕ) (recorded : Recorded) (after : List ℕ) (o : Option (List ℕ × List ℕ)) → positions_at count 0 qs ≡ o → option_map {U = Recorded × List ℕ} (λ (r : List ℕ × List ℕ). (positions r.0, r.1)) o ≡ Some (recorded, after) → count_of recorded ≡ count
positions_kept count qs recorded after None is e = absurd cc
positions_kept count qs recorded after (Some r) is e =
    sym (ap (λ (y : Recorded × List ℕ). count_of y.0) (same_Some _ _ e)) ∙ as_many count 0 qs r is

pub count_kept : (kind : RecordKind) (count : ℕ) (qs : List ℕ) (recorded : Recorded) (after : List ℕ) → recorded_at kind count qs ≡ Some (recorded, after) → count_of recorded ≡ kept kind count
unfolding recorded_at
count_kept Documents count qs recorded after e = sym (ap (λ (y : Recorded × List ℕ). count_of y.0) (same_Some _ _ e))
count_kept Counts count qs recorded after e = sym (ap (λ (y : Recorded × List ℕ). count_of y.0) (same_Some _ _ e))
count_kept Positions count qs recorded after e = positions_kept count qs recorded after (positions_at count 0 qs) refl e

positions_recorded : (recorded : Recorded) (after : List ℕ) (o : Option (List ℕ × List ℕ)) → option_map {U = Recorded × List ℕ} (λ (r : List ℕ × List ℕ). (positions r.0, r.1)) o ≡ Some (recorded, after) → kind_kept recorded ≡ Positions
positions_recorded recorded after None e = absurd cc
positions_recorded recorded after (Some r) e = sym (ap (λ (y : Recorded × List ℕ). kind_kept y.0) (same_Some _ _ e))

-- what is recorded is what the kind keeps
pub recorded_kind : (kind : RecordKind) (count : ℕ) (qs : List ℕ) (recorded : Recorded) (after : List ℕ) → recorded_at kind count qs ≡ Some (recorded, after) → kind_kept recorded ≡ kind
unfolding recorded_at
recorded_kind Documents count qs recorded after e = sym (ap (λ (y : Recorded × List ℕ). kind_kept y.0) (same_Some _ _ e))
recorded_kind Counts count qs recorded after e = sym (ap (λ (y : Recorded × List ℕ). kind_kept y.0) (same_Some _ _ e))
recorded_kind Positions count qs recorded after e = positions_recorded recorded after (positions_at count 0 qs) e

pub documents_keep : (kind : RecordKind) (count : ℕ) → kind ≡ Documents → kept kind count ≡ 1
documents_keep kind count is = rw is refl

pub others_keep : (kind : RecordKind) (count : ℕ) → (kind ≡ Documents → ⊥) → kept kind count ≡ count
others_keep Documents count other = absurd (other refl)
others_keep Counts count other = refl
others_keep Positions count other = refl

pub record Placed (count : ℕ) (qs : List ℕ) (recorded : Recorded) : Type 0 where
  pub there : is_some (positions_at count 0 qs) ≡ true
  pub are : (out : List ℕ) → option_map (λ (r : List ℕ × List ℕ). [] ++ r.0) (positions_at count 0 qs) ≡ Some out → out ≡ places_of recorded

places_by : (count : ℕ) (qs : List ℕ) (recorded : Recorded) (after : List ℕ) (o : Option (List ℕ × List ℕ)) → positions_at count 0 qs ≡ o → option_map {U = Recorded × List ℕ} (λ (r : List ℕ × List ℕ). (positions r.0, r.1)) o ≡ Some (recorded, after) → Placed count qs recorded
places_by count qs recorded after None is e = absurd cc
places_by count qs recorded after (Some r) is e = record {
  there = ap is_some is;
  are = λ out h. sym (same_Some _ _ (sym (ap (option_map (λ (r : List ℕ × List ℕ). [] ++ r.0)) is) ∙ h)) ∙ ap (λ (y : Recorded × List ℕ). places_of y.0) (same_Some _ _ e);
}

positions_placed : (count : ℕ) (qs : List ℕ) (recorded : Recorded) (after : List ℕ) → recorded_at Positions count qs ≡ Some (recorded, after) → Placed count qs recorded
unfolding recorded_at
positions_placed count qs recorded after e = places_by count qs recorded after (positions_at count 0 qs) refl e

pub placed : (kind : RecordKind) (count : ℕ) (qs : List ℕ) (recorded : Recorded) (after : List ℕ) → kind ≡ Positions → recorded_at kind count qs ≡ Some (recorded, after) → Placed count qs recorded
placed kind count qs recorded after is e = positions_placed count qs recorded after (subst (λ k. recorded_at k count qs ≡ Some (recorded, after)) is e)

pub not_placed : (kind : RecordKind) (count : ℕ) (qs : List ℕ) (recorded : Recorded) (after : List ℕ) → (kind ≡ Positions → ⊥) → recorded_at kind count qs ≡ Some (recorded, after) → places_of recorded ≡ []
unfolding recorded_at
not_placed Documents count qs recorded after other e = sym (ap (λ (y : Recorded × List ℕ). places_of y.0) (same_Some _ _ e))
not_placed Counts count qs recorded after other e = sym (ap (λ (y : Recorded × List ℕ). places_of y.0) (same_Some _ _ e))
not_placed Positions count qs recorded after other e = absurd (other refl)

-- ---- the next document

pub record GoesOn (kind : RecordKind) (r : Option CountedDocument) (n : ℕ) (bytes qs : List ℕ) (rest : List Posting) : Type 0 where
  pub left : left_from kind r n bytes qs ≡ rest
  pub read : can_be_read kind r n bytes qs ≡ true

found : (kind : RecordKind) (d : CountedDocument) (n : ℕ) (bytes qs : List ℕ) (rest : List Posting) → postings_from kind d.document d.count n bytes qs ≡ Some rest → GoesOn kind (Some d) n bytes qs rest
unfolding left_from can_be_read
found kind d n bytes qs rest is = record { left = ap (λ o. unwrap_or o []) is; read = ap is_some is }

pub taken : (kind : RecordKind) (n before least : ℕ) (bytes more qs : List ℕ) (r : Option CountedDocument) (rest : List Posting) → 0 < n → postings_at kind n before least bytes qs ≡ Some rest → MatchOption r (counted_at kind before least bytes ≡ None) (λ d. counted_at kind before least bytes ≡ Some (d.document, d.count, more)) → GoesOn kind r (n - 1) more qs rest
taken kind n before least bytes more qs r rest some is took = by_result r took
  where
    one : n ≡ suc (n - 1)
    one = omega (arith, some)

    here : option_and_then (λ (t : ℕ × ℕ × List ℕ). postings_from kind t.0 t.1 (n - 1) t.2 qs) (counted_at kind before least bytes) ≡ Some rest
    here = sym (ap (λ k. postings_at kind k before least bytes qs) one ∙ first_document kind (n - 1) before least bytes qs) ∙ is

    by_result : (r : Option CountedDocument) → MatchOption r (counted_at kind before least bytes ≡ None) (λ d. counted_at kind before least bytes ≡ Some (d.document, d.count, more)) → GoesOn kind r (n - 1) more qs rest
    by_result None none = absurd (none_some rest (sym (ap (option_and_then (λ (t : ℕ × ℕ × List ℕ). postings_from kind t.0 t.1 (n - 1) t.2 qs)) none) ∙ here))
    by_result (Some d) took = found kind d (n - 1) more qs rest (sym (ap (option_and_then (λ (t : ℕ × ℕ × List ℕ). postings_from kind t.0 t.1 (n - 1) t.2 qs)) took) ∙ here)

passed_to : {A B : Type 0} (read : List ℕ → Option (A × List ℕ)) (bytes rest after : List ℕ) (x : A) (r : Option B) → Passes read bytes rest r → read bytes ≡ Some (x, after) → rest ≡ after
passed_to {A} read bytes rest after x None p is = absurd (none_some (x, after) (sym p ∙ is))
passed_to {A} read bytes rest after x (Some done) p is = ap (λ (y : A × List ℕ). y.1) (same_Some _ _ (sym p.is ∙ is))

no_rest : (rest : List Posting) → length rest ≡ 0 → rest ≡ []
no_rest [] e = refl
no_rest (p ∷ rest) e = absurd (omega (arith, e))

module _ {B : Type 0} (kind : RecordKind) (d : CountedDocument) (n : ℕ) (bytes qs left_qs : List ℕ) (q : Option B) (good : can_be_read kind (Some d) n bytes qs ≡ true) (passes : Passes (recorded_at kind d.count) qs left_qs q) where
  abbrev s : Stands kind (Some d) d n bytes qs
  s = at_document kind d n bytes qs good

  others : drop 1 (left_from kind (Some d) n bytes qs) ≡ s.head.rest
  others = ap (drop 1) s.left

  rest_at : postings_at kind n d.document 1 bytes left_qs ≡ Some s.head.rest
  rest_at = ap (λ l. postings_at kind n d.document 1 bytes l) (passed_to (recorded_at kind d.count) qs left_qs s.head.after s.head.recorded q passes s.head.is_recorded) ∙ s.head.is_rest

  pub last : n ≡ 0 → (more : List ℕ) → left_from kind None (n - 1) more left_qs ≡ drop 1 (left_from kind (Some d) n bytes qs)
  last none more =
      let empty : s.head.rest ≡ [] = no_rest s.head.rest (none_length kind d.document 1 bytes left_qs s.head.rest (ap (λ k. postings_at kind k d.document 1 bytes left_qs) (sym none) ∙ rest_at)) in
      at_end kind (n - 1) more left_qs ∙ sym (others ∙ empty)

  pub goes_on : 0 < n → (more : List ℕ) (r : Option CountedDocument) → MatchOption r (counted_at kind d.document 1 bytes ≡ None) (λ x. counted_at kind d.document 1 bytes ≡ Some (x.document, x.count, more)) → GoesOn kind r (n - 1) more left_qs (drop 1 (left_from kind (Some d) n bytes qs))
  goes_on some more r took = subst (GoesOn kind r (n - 1) more left_qs) (sym others) (taken kind n d.document 1 bytes more left_qs r s.head.rest some rest_at took)

-- ---- the first

front_kind : (n : ℕ) (bytes qs : List ℕ) → term_postings n bytes qs ≡ option_and_then (λ k. postings_of_kind n k.1 qs k.0) (kind_at bytes)
front_kind n [] qs = refl
front_kind n (b ∷ bytes) qs = by_kind (kind_of_byte b)
  where
    by_kind : (o : Option RecordKind) → option_and_then (postings_of_kind n bytes qs) o ≡ option_and_then (λ (k : RecordKind × List ℕ). postings_of_kind n k.1 qs k.0) (option_map (λ kind. (kind, bytes)) o)
    by_kind None = refl
    by_kind (Some k) = refl

pub record Begins (kind : RecordKind) (n : ℕ) (rest qs : List ℕ) (whole : Option TermPostings) : Type 0 where
  pub all : List Posting
  pub is_all : postings_at kind n 0 0 rest qs ≡ Some all
  pub whole_is : option_map (λ (t : TermPostings). t.postings) whole ≡ Some all

pub begins : (kind : RecordKind) (n : ℕ) (bytes rest qs : List ℕ) → kind_at bytes ≡ Some (kind, rest) → is_some (term_postings n bytes qs) ≡ true → Begins kind n rest qs (term_postings n bytes qs)
unfolding postings_at
begins kind n bytes rest qs front good =
    subst (Begins kind n rest qs) (sym whole) (by_postings (postings_at kind n 0 0 rest qs) refl (sym (ap is_some whole) ∙ good))
  where
    whole : term_postings n bytes qs ≡ postings_of_kind n rest qs kind
    whole = front_kind n bytes qs ∙ ap (option_and_then (λ (k : RecordKind × List ℕ). postings_of_kind n k.1 qs k.0)) front

    by_postings : (o : Option (List Posting)) → postings_at kind n 0 0 rest qs ≡ o → is_some (option_map (λ (ps : List Posting). let t : TermPostings = record { kind = kind; postings = ps } in t) o) ≡ true → Begins kind n rest qs (postings_of_kind n rest qs kind)
    by_postings None is g = absurd (false≢true g)
    by_postings (Some ps) is g = record { all = ps; is_all = is; whole_is = ap (λ o. option_map (λ (t : TermPostings). t.postings) (option_map (λ (xs : List Posting). let t : TermPostings = record { kind = kind; postings = xs } in t) o)) is }

-- ---- positions, one after another

abbrev pub put : List ℕ → Option (List ℕ × List ℕ) → Option (List ℕ)
put out o = option_map (λ r. out ++ r.0) o

one_put : (out : List ℕ) (p : ℕ) (o : Option (List ℕ × List ℕ)) → put out (option_map (λ r. (p ∷ r.0, r.1)) o) ≡ put (out ++ p ∷ []) o
one_put out p None = refl
one_put out p (Some x) = ap (λ l. Some l) (sym (append_assoc out (p ∷ []) x.0))

module _ (count i before : ℕ) (bytes : List ℕ) (lt : i < count) where
  more : (d : ℕ) (rest : List ℕ) → number_at 0 (2 ^ 32 - before) bytes ≡ Some (d, rest) → positions_at (count - i) before bytes ≡ option_map (λ r. ((before + d) ∷ r.0, r.1)) (positions_at (count - (i + 1)) (before + d) rest)
  unfolding positions_at
  more d rest e = rw (one_left count i lt, e) refl

  pub put_turn : (out : List ℕ) (d : ℕ) (rest : List ℕ) → number_at 0 (2 ^ 32 - before) bytes ≡ Some (d, rest) → put (out ++ (before + d) ∷ []) (positions_at (count - (i + 1)) (before + d) rest) ≡ put out (positions_at (count - i) before bytes)
  put_turn out d rest e = sym (ap (put out) (more d rest e) ∙ one_put out (before + d) (positions_at (count - (i + 1)) (before + d) rest))

  still : (p : ℕ) (o : Option (List ℕ × List ℕ)) → is_some (option_map {U = List ℕ × List ℕ} (λ (r : List ℕ × List ℕ). (p ∷ r.0, r.1)) o) ≡ is_some o
  still p None = refl
  still p (Some x) = refl

  pub still_there : (d : ℕ) (rest : List ℕ) → number_at 0 (2 ^ 32 - before) bytes ≡ Some (d, rest) → is_some (positions_at (count - i) before bytes) ≡ true → is_some (positions_at (count - (i + 1)) (before + d) rest) ≡ true
  still_there d rest e good = sym (still (before + d) (positions_at (count - (i + 1)) (before + d) rest)) ∙ sym (ap is_some (more d rest e)) ∙ good

  nothing : number_at 0 (2 ^ 32 - before) bytes ≡ None → positions_at (count - i) before bytes ≡ None
  unfolding positions_at
  nothing e = rw (one_left count i lt, e) refl

  pub always_there : number_at 0 (2 ^ 32 - before) bytes ≡ None → is_some (positions_at (count - i) before bytes) ≡ true → ⊥
  always_there e good = false≢true (sym (ap is_some (nothing e)) ∙ good)

all_put : (before : ℕ) (bytes out : List ℕ) → put out (positions_at 0 before bytes) ≡ Some out
unfolding positions_at
all_put before bytes out = ap (λ l. Some l) (append-nil out)

pub put_ends : (count i before : ℕ) (bytes out : List ℕ) → count ≤ i → put out (positions_at (count - i) before bytes) ≡ Some out
put_ends count i before bytes out past =
    let none : count - i ≡ 0 = omega (arith, past) in
    ap (λ n. put out (positions_at n before bytes)) none ∙ all_put before bytes out
