-- What the builder of a dictionary has been given, and what it may be given next.
use Rattle.std.specs.Prelude.{◌≡◌, ℕ, ◌≤◌, List, [], ◌∷◌, ◌++◌, Option, Some, None, IfSome, IsSomeAnd, unwrap_or}
use Rattle.std.specs.Ordering.{nat_cmp}
use Rattle.std.specs.Cmp.Lexicographic.{slice_cmp}
use Rattle.std.specs.declared.cmp.Ordering.TheVariants.{Less}
use Rattle.seg_common.specs.declared.term_info.TermInfo.{TermInfo}
use Rattle.seg_termdict.specs.declared.error.TermDictError.{TermDictError}
use Rattle.seg_termdict.specs.declared.error.TermDictError.TheVariants.{OutOfOrder, OutOfMemory}
use Rattle.seg_termdict.specs.Dictionary.{Term}

-- the terms so far, and the key that waits for its info
pub record Building : Type 0 where
  pub terms : List Term
  pub waiting : Option (List ℕ)

-- no key waits
abbrev pub complete : List Term → Building
complete terms = record { terms = terms; waiting = None }

-- a key came
abbrev pub with_key : List ℕ → Building → Building
with_key key b = record b { waiting = Some key }

-- the info of the waiting key came
abbrev pub with_info : TermInfo → Building → Building
with_info info b = complete (b.terms ++ (unwrap_or b.waiting [], info) ∷ [])

-- a key and its info came
abbrev pub with_term : List ℕ → TermInfo → Building → Building
with_term key info b = complete (b.terms ++ (key, info) ∷ [])

-- the last of some terms, or else the one before them
abbrev pub last_term : Option Term → List Term → Option Term
last_term before [] = before
last_term before (t ∷ ts) = last_term (Some t) ts

-- a key may come next: it is greater than the last
abbrev pub MayFollow : List Term → List ℕ → Type 0
MayFollow terms key = IfSome (last_term None terms) (λ t. slice_cmp nat_cmp t.0 key ≡ Less)

-- where the postings of the last term end
abbrev pub postings_end : Option Term → ℕ
postings_end None = 0
postings_end (Some t) = t.1.postings_end

-- where its positions end
abbrev pub positions_end : Option Term → ℕ
positions_end None = 0
positions_end (Some t) = t.1.positions_end

-- an info may come next: its ranges begin where those of the last term end, and don't end before they begin
pub record Continues (terms : List Term) (info : TermInfo) : Type 0 where
  pub postings : info.postings_start ≡ postings_end (last_term None terms)
  pub positions : info.positions_start ≡ positions_end (last_term None terms)
  pub postings_rise : info.postings_start ≤ info.postings_end
  pub positions_rise : info.positions_start ≤ info.positions_end

-- why a key isn't taken, and what the builder is then: as it was, or nothing
abbrev pub KeyRefused : Option Building → Option Building → List ℕ → TermDictError → Type 0
KeyRefused old new key OutOfOrder = (new ≡ old) × IsSomeAnd old (λ b. MayFollow b.terms key → ⊥)
KeyRefused old new key OutOfMemory = (new ≡ None) × IfSome old (λ b. MayFollow b.terms key)
KeyRefused old new key _ = ⊥
