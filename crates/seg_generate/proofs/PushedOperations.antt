-- One operation more.
use Rattle.std.proofs.Common.{◌≡◌, ℕ, List, [], ◌∷◌, ◌++◌, map, ap, ◌∙◌, append_assoc}
use Rattle.std.proofs.lemmas.List.{map-append}
use Rattle.seg_values.specs.Tree.{Document, unsigned}
use Rattle.seg_values.specs.ValueBytes.{TermKey, value_bytes}
use Rattle.seg_model.specs.Operations.{Operation, delete}
use Rattle.seg_check.specs.UserOperations.{operation_of}
use Rattle.seg_check.specs.declared.user_operation.UserOperation.{UserOperation}

pub pushed : (old new : List (UserOperation Document)) (o : UserOperation Document) (meant : Operation) → new ≡ old ++ o ∷ [] → operation_of o ≡ meant
    → map operation_of new ≡ map operation_of old ++ meant ∷ []
pushed old new o meant grown is =
    ap (map operation_of) grown ∙ map-append operation_of old (o ∷ []) ∙ ap (λ (x : Operation). map operation_of old ++ x ∷ []) is

-- the term of a number in a field
abbrev term_of : ℕ → ℕ → TermKey
term_of field number = record { field = field; bytes = value_bytes (unsigned number) }

pub deletes_as : (field number same : ℕ) → field ≡ 0 → number ≡ same → delete (term_of field number) ≡ delete (term_of 0 same)
deletes_as field number same first is = λ j. delete (term_of (first j) (is j))

-- a group: additions, and then a delete
pub grouped : (old mid new adds : List Operation) (number same : ℕ) → mid ≡ old ++ adds → number ≡ same → new ≡ mid ++ delete (term_of 0 number) ∷ []
    → new ≡ old ++ (adds ++ delete (term_of 0 same) ∷ [])
grouped old mid new adds number same added is deleted =
    deleted
    ∙ ap (λ (l : List Operation). l ++ delete (term_of 0 number) ∷ []) added
    ∙ append_assoc old adds (delete (term_of 0 number) ∷ [])
    ∙ ap (λ n. old ++ (adds ++ delete (term_of 0 n) ∷ [])) is
