use Rattle.std.proofs.Common.{◌≡◌, ℕ, List, Bool, true, false, None, refl}
use Rattle.std.specs.Prelude.{codes}
use Rattle.std.specs.Str.{bytes_eq}
use Rattle.std.proofs.lemmas.Slice.Eq.{bytes_eq-Decides}
use Rattle.serde_json.specs.Data.{Data}
use Rattle.serde_json.specs.View.{view}
use Rattle.seg_values.specs.declared.schema.FieldEntry.{FieldEntry}
use Rattle.seg_script.specs.Operations.{operation_named}
use Rattle.seg_script.proofs.operations.operation_named.Goals as goal

unlike : (a b : List ℕ) → (a ≡ b → ⊥) → bytes_eq a b ≡ false
unlike a b h = by (bytes_eq a b) (λ e. h ((bytes_eq-Decides a b).0 e))
  where
    by : (t : Bool) → (t ≡ true → ⊥) → t ≡ false
    by true h = absurd (h refl)
    by false h = refl

other_word : (schema : List FieldEntry) (word : List ℕ) (d : Data) → (word ≡ codes "add" → ⊥) → (word ≡ codes "delete" → ⊥) → operation_named schema word d ≡ None
other_word schema word d h k = rw (unlike word (codes "add") h, unlike word (codes "delete") k) refl

pub returns-in_default-clause-none : goal.returns-in_default-clause-none
returns-in_default-clause-none c _ = other_word c.args.schema.now c.args.word.now (view c.args.value) c.in_default.not-add c.in_default.not-delete
