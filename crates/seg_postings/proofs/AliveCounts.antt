-- The documents that are alive, counted one by one.
use Rattle.std.proofs.Common.{◌≡◌, ℕ, ◌+◌, ◌^◌, ◌<◌, Bool, true, false, List, [], ◌∷◌, length, drop, refl, ap, arith}
use Rattle.std.specs.Prelude.{Some, None, cond, get_or}
use Rattle.std.specs.Int.{from_bool}
use Rattle.std.proofs.lemmas.List.Sums.{sum_by-cons}
use Rattle.std.proofs.lemmas.Option.{none-some}
use Rattle.seg_model.specs.DocumentTerms.{Posting}
use Rattle.seg_postings.specs.declared.record_kind.RecordKind.{RecordKind}
use Rattle.seg_postings.specs.OpenPostings.{document_of, kept_kind_of, alive_count}

as_number : (b : Bool) → from_bool b ≡ cond b 1 0
as_number true = refl
as_number false = refl

at_most_one : (b : Bool) → from_bool b < 2
at_most_one true = omega arith
at_most_one false = omega arith

one_less : (left : List Posting) (kind : RecordKind) → kept_kind_of left ≡ Some kind → length left ≡ 1 + length (drop 1 left)
one_less [] kind some = absurd (none-some kind some)
one_less (p ∷ ps) kind some = omega arith

one_counted : (alive : List Bool) (left : List Posting) (kind : RecordKind) → kept_kind_of left ≡ Some kind → alive_count alive left ≡ cond (get_or alive (document_of left) false) 1 0 + alive_count alive (drop 1 left)
one_counted alive [] kind some = absurd (none-some kind some)
one_counted alive (p ∷ ps) kind some = sum_by-cons (λ (q : Posting). cond (get_or alive q.document false) 1 0) p ps

pub none_counted : (alive : List Bool) (left : List Posting) → kept_kind_of left ≡ None → alive_count alive left ≡ 0
none_counted alive [] none = refl
none_counted alive (p ∷ ps) none = absurd (cc none)

-- the current document is counted, then those after it
module _ (alive : List Bool) (left rest : List Posting) (kind : RecordKind) (some : kept_kind_of left ≡ Some kind) (document bit : ℕ) (is_document : document ≡ document_of left) (is_bit : bit ≡ from_bool (get_or alive document false)) where
  pub is_small : (count : ℕ) → count + length left < 2 ^ 32 → count + bit < 2 ^ 32
  is_small count few = omega (arith, few, one_less left kind some, is_bit, at_most_one (get_or alive document false))

  module _ (is_rest : rest ≡ drop 1 left) where
    pub counts_on : (count all : ℕ) → count + alive_count alive left ≡ all → (count + bit) + alive_count alive rest ≡ all
    counts_on count all counted =
        let here : bit ≡ cond (get_or alive (document_of left) false) 1 0 = rw (is_bit, is_document) (as_number (get_or alive (document_of left) false)) in
        omega (arith, counted, here, one_counted alive left kind some, ap (alive_count alive) is_rest)

    pub stays_few : (count : ℕ) → count + length left < 2 ^ 32 → (count + bit) + length rest < 2 ^ 32
    stays_few count few = omega (arith, few, one_less left kind some, is_bit, at_most_one (get_or alive document false), ap length is_rest)
