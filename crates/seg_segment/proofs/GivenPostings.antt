-- Postings that are given to a term, some after others.
use Rattle.std.proofs.Common.{◌≡◌, ℕ, ◌+◌, ◌<◌, List, [], ◌∷◌, ◌++◌, length, Some, None, Option, sym, refl, ap, ◌∙◌, subst, arith, append_assoc, append-nil}
use Rattle.std.specs.Prelude.{IfSome, IsSomeAnd}
use Rattle.std.proofs.lemmas.Option.{same_Some}
use Rattle.seg_common.specs.WriterGrowth.{HasGrown}
use Rattle.seg_model.specs.DocumentTerms.{Posting}
use Rattle.seg_postings.specs.declared.record_kind.RecordKind.{RecordKind}
use Rattle.seg_postings.specs.FieldSerializers.{FieldWriting, MayOpen, closed, with_open}
use Rattle.seg_segment.specs.WrittenTerms.{IsUnwritten, with_terms, term_with, open_postings, with_more, with_whole_term, AscendBy, AreOfTerm, MayTake}

open_back : (key : List ℕ) (ps : List Posting) → open_postings (term_with key ps) ≡ ps
open_back key [] = refl
open_back key (p ∷ ps) = refl

first_ascend : (kind : RecordKind) (least : ℕ) (xs ys : List Posting) → AscendBy kind least (xs ++ ys) → AscendBy kind least xs
first_ascend kind least [] ys h = tt
first_ascend kind least (x ∷ xs) ys h = (h.0, h.1, h.2, h.3, first_ascend kind (x.document + 1) xs ys h.4)

-- the first of the postings of a term are postings of it
first_of_term : (xs ys : List Posting) → AreOfTerm (xs ++ ys) → AreOfTerm xs
first_of_term [] ys h = tt
first_of_term (x ∷ xs) ys h = first_ascend _ 0 (x ∷ xs) ys h

-- some were given, and with those that are left they are all
pub record AreGiven (key : List ℕ) (before now : Option FieldWriting) (all left : List Posting) : Type 0 where
  pub done : List Posting
  pub with_left : done ++ left ≡ all
  pub grown : HasGrown before now (with_more key done)

-- a field that may take postings
record Takes (key : List ℕ) (more : List Posting) (o : Option FieldWriting) : Type 0 where
  kept : FieldWriting
  was : o ≡ Some kept
  may : MayTake key more kept

takes : (key : List ℕ) (more : List Posting) (o : Option FieldWriting) → IsSomeAnd o (MayTake key more) → Takes key more o
takes key more None h = absurd h
takes key more (Some w) h = record { kept = w; was = refl; may = h }

-- none more leave a field as it is
none_more : (key : List ℕ) (more : List Posting) (w : FieldWriting) → MayTake key more w → with_more key [] w ≡ w
none_more key more w may = ap (λ c. record w { current = c }) (ap (term_with key) (append-nil (open_postings w.current)) ∙ sym may.is_open)

pub none_taken : (key : List ℕ) (more : List Posting) (o : Option FieldWriting) → IsSomeAnd o (MayTake key more) → more ≡ [] → HasGrown o o (with_more key more)
none_taken key more o may none =
    let t = takes key more o may in
    record { kept = t.kept; was = t.was; is = t.was ∙ ap Some (sym (none_more key more t.kept t.may)) ∙ ap (λ ps. Some (with_more key ps t.kept)) (sym none) }

module _ (key : List ℕ) (before : Option FieldWriting) (all : List Posting) (may : IsSomeAnd before (MayTake key all)) where
  pub none_given : AreGiven key before before all all
  none_given =
      let t = takes key all before may in
      record { done = []; with_left = refl; grown = record { kept = t.kept; was = t.was; is = t.was ∙ ap Some (sym (none_more key all t.kept t.may)) } }

  module _ (now : Option FieldWriting) (left : List Posting) (so_far : AreGiven key before now all left) where
    abbrev kept : FieldWriting
    kept = so_far.grown.kept

    had : MayTake key all kept
    had = subst (λ o. IsSomeAnd o (MayTake key all)) so_far.grown.was may

    abbrev given : List Posting
    given = open_postings kept.current ++ so_far.done

    module _ (next rest : List Posting) (split : left ≡ next ++ rest) where
      all_are : (given ++ next) ++ rest ≡ open_postings kept.current ++ all
      all_are =
          append_assoc given next rest
          ∙ append_assoc (open_postings kept.current) so_far.done (next ++ rest)
          ∙ ap (λ l. open_postings kept.current ++ (so_far.done ++ l)) (sym split)
          ∙ ap (λ l. open_postings kept.current ++ l) so_far.with_left

      pub may_take : IsSomeAnd now (MayTake key next)
      may_take =
          let back = open_back key given in
          let fit : AreOfTerm (given ++ next) = first_of_term (given ++ next) rest (subst AreOfTerm (sym all_are) had.are) in
          let there : MayTake key next (with_more key so_far.done kept) = record {
            ascends = had.ascends;
            is_open = ap (term_with key) (sym back);
            are = subst (λ ps. AreOfTerm (ps ++ next)) (sym back) fit;
          } in
          subst (λ o. IsSomeAnd o (MayTake key next)) (sym so_far.grown.is) there

      pub given_more : (after : Option FieldWriting) → HasGrown now after (with_more key next) → AreGiven key before after all rest
      given_more after g =
          let more : open_postings (term_with key given) ++ next ≡ open_postings kept.current ++ (so_far.done ++ next) =
          ap (λ ps. ps ++ next) (open_back key given) ∙ append_assoc (open_postings kept.current) so_far.done next in
          record {
            done = so_far.done ++ next;
            with_left = append_assoc so_far.done next rest ∙ ap (λ l. so_far.done ++ l) (sym split) ∙ so_far.with_left;
            grown = record {
              kept = kept;
              was = so_far.grown.was;
              is = g.is
                  ∙ ap (λ w. Some (with_more key next w)) (same_Some g.kept (with_more key so_far.done kept) (sym g.was ∙ so_far.grown.is))
                  ∙ ap (λ ps. Some (record kept { current = term_with key ps })) more;
            };
          }

    pub all_given : left ≡ [] → HasGrown before now (with_more key all)
    all_given none =
        let done : so_far.done ≡ all = sym (append-nil so_far.done) ∙ ap (λ l. so_far.done ++ l) (sym none) ∙ so_far.with_left in
        record { kept = kept; was = so_far.grown.was; is = so_far.grown.is ∙ ap (λ ps. Some (with_more key ps kept)) done }

-- ---- whole terms

-- a field of which nothing was written has no terms
pub no_terms : (o : Option FieldWriting) → IsSomeAnd o IsUnwritten → HasGrown o o (with_terms [])
no_terms None h = absurd h
no_terms (Some w) h = record { kept = w; was = refl; is = λ i. Some (record w { terms = h.empty i; current = h.closed i }) }

module _ (key : List ℕ) (all : List Posting) (are : AreOfTerm all) where
  pub may_begin : (o : Option FieldWriting) → IsSomeAnd o (λ w. MayOpen w key) → IsSomeAnd o (MayTake key all)
  may_begin None h = absurd h
  may_begin (Some w) h = record {
    ascends = h.ascends;
    is_open = h.closed ∙ ap (λ c. term_with key (open_postings c)) (sym h.closed);
    are = subst (λ c. AreOfTerm (open_postings c ++ all)) (sym h.closed) are;
  }

  some_given : (ps : List Posting) → IfSome (term_with key ps) (λ t. 0 < length t.postings)
  some_given [] = tt
  some_given (p ∷ ps) = omega arith

  module _ (before now : Option FieldWriting) (grown : HasGrown before now (with_more key all)) where
    pub may_end : IsSomeAnd now (λ w. IfSome w.current (λ t. 0 < length t.postings))
    may_end = subst (λ o. IsSomeAnd o (λ w. IfSome w.current (λ t. 0 < length t.postings))) (sym grown.is) (some_given (open_postings grown.kept.current ++ all))

    pub has_whole_term : IsSomeAnd before (λ w. MayOpen w key) → (after : Option FieldWriting) → HasGrown now after closed → HasGrown before after (with_whole_term key all)
    has_whole_term opens after g =
        let may : MayOpen grown.kept key = subst (λ o. IsSomeAnd o (λ w. MayOpen w key)) grown.was opens in
        record {
          kept = grown.kept;
          was = grown.was;
          is = g.is
              ∙ ap (λ w. Some (closed w)) (same_Some g.kept (with_more key all grown.kept) (sym g.was ∙ grown.is))
              ∙ ap (λ c. Some (record grown.kept { terms = with_open grown.kept.terms (term_with key (open_postings c ++ all)); current = None })) may.closed;
        }
