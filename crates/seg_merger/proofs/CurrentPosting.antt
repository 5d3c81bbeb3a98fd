-- What is told of the current posting of a term, under a new id of its document.
use Rattle.std.proofs.Common.{◌≡◌, ℕ, List, [], ◌∷◌, map, take, Some, sym, refl, ap, ◌∙◌}
use Rattle.std.proofs.lemmas.Option.{none-some, same_Some}
use Rattle.seg_model.specs.DocumentTerms.{Posting}
use Rattle.seg_postings.specs.declared.record_kind.RecordKind.{RecordKind}
use Rattle.seg_postings.specs.OpenPostings.{kind_kept, kept_kind_of, term_freq_of, positions_of}
use Rattle.seg_postings.specs.WritablePostings.{Rise}
use Rattle.seg_segment.specs.WrittenTerms.{AreOfKind, posting_of}
use Rattle.seg_segment.proofs.Exports.{IsRecorded, are_of_kind, posting_is}
use Rattle.seg_merger.specs.MovedPostings.{under}

module _ (id : ℕ) (left : List Posting) (kind : RecordKind) (keeps : kept_kind_of left ≡ Some kind) (count : ℕ) (counted : count ≡ term_freq_of left) (places : List ℕ) (placed : places ≡ positions_of left) (rise : Rise 0 (positions_of left)) where
  -- the current posting
  record Current : Type 0 where
    posting : Posting
    news : map (under id) (take 1 left) ≡ under id posting ∷ []
    is : IsRecorded kind posting.recorded count places

  current : Current
  current = by left keeps counted placed rise refl
    where
      by : (ps : List Posting) → kept_kind_of ps ≡ Some kind → count ≡ term_freq_of ps → places ≡ positions_of ps
          → Rise 0 (positions_of ps) → left ≡ ps → Current
      by [] k c p r same = absurd (none-some kind k)
      by (p ∷ ps) k c q r same = record {
        posting = p;
        news = ap (λ (xs : List Posting). map (under id) (take 1 xs)) same;
        is = record { keeps = same_Some (kind_kept p.recorded) kind k; counted = c; placed = q; rise = r };
      }

  pub is_told : AreOfKind kind count places
  is_told = are_of_kind kind current.posting.recorded count places current.is

  pub told_is : posting_of kind id count places ∷ [] ≡ map (under id) (take 1 left)
  told_is =
      ap (λ (p : Posting). p ∷ []) (posting_is kind current.posting.recorded count places current.is id)
      ∙ sym current.news
