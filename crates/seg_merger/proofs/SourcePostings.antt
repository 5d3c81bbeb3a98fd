-- The postings that a term has in a segment, under new ids.
use Rattle.std.proofs.Common.{◌≡◌, ℕ, suc, ◌<◌, Bool, true, false, cond, List, [], ◌∷◌, ◌++◌, map, length, take, drop, get_or, Some, None, Option, sym, refl, ap, ◌∙◌, subst, arith, append-nil}
use Rattle.std.specs.Prelude.{IsSomeAnd, option_map, unwrap_or}
use Rattle.std.specs.List.{AllByRecursion, Any, slice_get}
use Rattle.std.specs.Ordering.{nat_cmp, eq_by_cmp}
use Rattle.std.specs.Cmp.Lexicographic.{slice_cmp}
use Rattle.std.proofs.lemmas.Option.{none-some, same_Some, get_or_from_slice_get}
use Rattle.seg_segment.proofs.Exports.{term_of}
use Rattle.seg_common.specs.declared.term_info.TermInfo.{TermInfo}
use Rattle.seg_model.specs.DocumentTerms.{Posting}
use Rattle.seg_postings.specs.declared.record_kind.RecordKind.{RecordKind}
use Rattle.seg_postings.specs.OpenedFields.{ReadTerm}
use Rattle.seg_postings.specs.OpenPostings.{document_of, kept_kind_of}
use Rattle.seg_termdict.specs.Dictionary.{Term}
use Rattle.seg_merger.specs.MovedPostings.{SourceTerms, under, under_id, moved, term_at, postings_with, terms_of}

-- ---- the term with a key

abbrev is_at : List ℕ → ReadTerm → Bool
is_at key t = eq_by_cmp (slice_cmp nat_cmp) key t.bytes

-- what holds of each term holds of the one that is found
pub of_term : (P : ReadTerm → Type 0) (key : List ℕ) (ts : List ReadTerm) (found : ReadTerm) → AllByRecursion P ts → term_at key ts ≡ Some found → P found
of_term P key [] found all is = absurd (none-some found is)
of_term P key (t ∷ ts) found all is = by (is_at key t) is (of_term P key ts found all.1)
  where
    by : (b : Bool) → cond b (Some t) (term_at key ts) ≡ Some found → (term_at key ts ≡ Some found → P found) → P found
    by true e later = subst P (same_Some t found e) all.0
    by false e later = later e

record Found (key : List ℕ) (info : TermInfo) (ts : List ReadTerm) : Type 0 where
  term : ReadTerm
  is : term_at key ts ≡ Some term
  has : term.info ≡ info

found : (key : List ℕ) (info : TermInfo) (ts : List ReadTerm) → IsSomeAnd (term_at key ts) (λ t. t.info ≡ info) → Found key info ts
found key info ts h = by (term_at key ts) refl h
  where
    by : (o : Option ReadTerm) → term_at key ts ≡ o → IsSomeAnd o (λ t. t.info ≡ info) → Found key info ts
    by None e k = absurd k
    by (Some t) e k = record { term = t; is = e; has = k }

any_at : (key : List ℕ) (info : TermInfo) (ts : List ReadTerm) (f : ReadTerm) → term_at key ts ≡ Some f → f.info ≡ info → Any (λ t. t.1 ≡ info) (map term_of ts)
any_at key info [] f is has = absurd (none-some f is)
any_at key info (t ∷ ts) f is has = by (is_at key t) is (λ e. any_at key info ts f e has)
  where
    one_later : Any (λ (x : Term). x.1 ≡ info) (map term_of ts) → Any (λ (x : Term). x.1 ≡ info) (map term_of (t ∷ ts))
    one_later (k, x, lt, at, e) = (suc k, x, omega (arith, lt), at, e)

    by : (b : Bool) → cond b (Some t) (term_at key ts) ≡ Some f → (term_at key ts ≡ Some f → Any (λ (x : Term). x.1 ≡ info) (map term_of ts)) → Any (λ (x : Term). x.1 ≡ info) (map term_of (t ∷ ts))
    by true e later = (0, term_of t, omega arith, refl, ap (λ (x : ReadTerm). x.info) (same_Some t f e) ∙ has)
    by false e later = one_later (later e)

module _ (key : List ℕ) (info : TermInfo) (source : SourceTerms) (has : IsSomeAnd (term_at key source.terms) (λ t. t.info ≡ info)) where
  pub any_has : Any (λ t. t.1 ≡ info) (terms_of source)
  any_has = let f = found key info source.terms has in any_at key info source.terms f.term f.is f.has

  module _ (left : List Posting) (all : AllByRecursion (λ (t : ReadTerm). t.info ≡ info → left ≡ t.postings) source.terms) where
    pub left_are : left ≡ postings_with key source.terms
    left_are =
        let f = found key info source.terms has in
        of_term (λ (t : ReadTerm). t.info ≡ info → left ≡ t.postings) key source.terms f.term all f.is f.has
        ∙ sym (ap (λ o. unwrap_or (option_map (λ (t : ReadTerm). t.postings) o) []) f.is)

    pub left_within : AllByRecursion (λ (t : ReadTerm). AllByRecursion (λ p. p.document < length source.ids) t.postings) source.terms → AllByRecursion (λ p. p.document < length source.ids) left
    left_within within =
        let f = found key info source.terms has in
        let same = of_term (λ (t : ReadTerm). t.info ≡ info → left ≡ t.postings) key source.terms f.term all f.is f.has in
        subst (AllByRecursion (λ (p : Posting). p.document < length source.ids)) (sym same) (of_term (λ (t : ReadTerm). AllByRecursion (λ p. p.document < length source.ids) t.postings) key source.terms f.term within f.is)

-- ---- the current posting

module _ (ids : List (Option ℕ)) where
  abbrev moved_one : Posting → List Posting
  moved_one p = under_id (get_or ids p.document None) p

  -- the current one under a new id, where there is one
  abbrev pub current_under : Option ℕ → List Posting → List Posting
  current_under None left = []
  current_under (Some id) left = map (under id) (take 1 left)

  -- what is left, by the current one and those after it
  pub moved_next : (left : List Posting) → moved ids left ≡ moved ids (take 1 left) ++ moved ids (drop 1 left)
  moved_next [] = refl
  moved_next (p ∷ ps) = ap (λ l. l ++ moved ids ps) (sym (append-nil (moved_one p)))

  module _ (left : List Posting) (kind : RecordKind) (keeps : kept_kind_of left ≡ Some kind) (doc : ℕ) (is : doc ≡ document_of left) where
    pub doc_within : AllByRecursion (λ (p : Posting). p.document < length ids) left → doc < length ids
    doc_within within = by left keeps within is
      where
        by : (ps : List Posting) → kept_kind_of ps ≡ Some kind → AllByRecursion (λ (p : Posting). p.document < length ids) ps → doc ≡ document_of ps → doc < length ids
        by [] k w e = absurd (none-some kind k)
        by (p ∷ ps) k w e = subst (λ n. n < length ids) (sym e) w.0

    one : (x : Option ℕ) (p : Posting) (ps : List Posting) → under_id x p ≡ current_under x (p ∷ ps)
    one None p ps = refl
    one (Some id) p ps = refl

    pub current_moved : (o : Option ℕ) → slice_get ids doc ≡ Some o → moved ids (take 1 left) ≡ current_under o left
    current_moved o at = by left keeps is
      where
        by : (ps : List Posting) → kept_kind_of ps ≡ Some kind → doc ≡ document_of ps → moved ids (take 1 ps) ≡ current_under o ps
        by [] k e = absurd (none-some kind k)
        by (p ∷ ps) k e =
            append-nil (moved_one p)
            ∙ ap (λ n. under_id (get_or ids n None) p) (sym e)
            ∙ ap (λ x. under_id x p) (get_or_from_slice_get ids doc o None at)
            ∙ one o p ps

-- ---- the end

-- none is left where there is no current one
pub none_left : (left : List Posting) → kept_kind_of left ≡ None → left ≡ []
none_left [] e = refl
none_left (p ∷ ps) e = absurd (none-some _ (sym e))

pub all_after : {X : Type 0} (P : X → Type 0) (xs : List X) → AllByRecursion P xs → AllByRecursion P (drop 1 xs)
all_after P [] all = tt
all_after P (x ∷ xs) all = all.1
