-- The places of fields by their names.
use Rattle.std.proofs.Common.{◌≡◌, ℕ, ◌+◌, ◌≤◌, Bool, true, false, not, cond, List, [], ◌∷◌, ◌++◌, length, ltb, eqb, Some, None, Option, sym, refl, ap, ◌∙◌, arith, String, length-append}
use Rattle.std.specs.Prelude.{position}
use Rattle.std.specs.List.{position_or_len}
use Rattle.std.specs.Str.{bytes_eq}
use Rattle.std.specs.String.{string_bytes, string_eq}
use Rattle.std.specs.Cmp.Lexicographic.{bytes_decides}
use Rattle.std.specs.HashMap as hash
use Rattle.std.specs.HashMap.{HashMap}
use Rattle.std.proofs.lemmas.Bool.Decides.{nat_tests}
use Rattle.std.proofs.lemmas.List.Folds.{position_or_len_push}
use Rattle.std.proofs.lemmas.List.Sums.{prefix_len-le-length}
use Rattle.std.proofs.lemmas.Map.Text.{hash_map_updates_text}
use Rattle.seg_values.specs.declared.schema.FieldEntry.{FieldEntry}
use Rattle.seg_values.specs.declared.schema.FieldKind.{FieldKind}
use Rattle.seg_values.specs.declared.schema.FieldKind.TheVariants as kinds
use Rattle.seg_values.specs.FieldNames.{field_named, kept_as, kept_entry}

-- a name stays as it is
pub name-kept_entry : (e : FieldEntry) → (kept_entry e).name ≡ e.name
name-kept_entry e = each e.kind
  where
    each : (k : FieldKind) → (kept_as k e).name ≡ e.name
    each kinds.Text = refl
    each kinds.U64 = refl
    each kinds.I64 = refl
    each kinds.Bool = refl
    each kinds.Date = refl
    each kinds.Facet = refl
    each kinds.Bytes = refl
    each kinds.IpAddr = refl
    each kinds.Json = refl

-- a place in a list that is one longer
placed_more : (n len : ℕ) (passes : Bool) → n ≤ len →
    (let m : ℕ = cond (eqb n len) (len + cond passes 0 1) n in cond (ltb m (len + 1)) (Some m) None) ≡ cond (ltb n len) (Some n) (cond passes (Some len) None)
placed_more n len passes h = grind (arith, nat_tests)

position-more : {X : Type 0} (p : X → Bool) (xs : List X) (y : X) → position p (xs ++ y ∷ []) ≡ cond (ltb (position_or_len p xs) (length xs)) (Some (position_or_len p xs)) (cond (p y) (Some (length xs)) None)
position-more p xs y =
    ap (λ m. cond (ltb m (length (xs ++ y ∷ []))) (Some m) None) (position_or_len_push p xs y)
    ∙ ap (λ l. let m : ℕ = cond (eqb (position_or_len p xs) (length xs)) (length xs + cond (p y) 0 1) (position_or_len p xs) in cond (ltb m l) (Some m) None) (length-append xs (y ∷ []))
    ∙ placed_more (position_or_len p xs) (length xs) (p y) (prefix_len-le-length (λ x. not (p x)) xs)

none_then : (b : Bool) (n : ℕ) (o : Option ℕ) → cond b (Some n) None ≡ None → cond b (Some n) o ≡ o
none_then true n o h = cc
none_then false n o h = refl

position-push : {X : Type 0} (p : X → Bool) (xs : List X) (y : X) → position p xs ≡ None → position p (xs ++ y ∷ []) ≡ cond (p y) (Some (length xs)) None
position-push p xs y h = position-more p xs y ∙ none_then (ltb (position_or_len p xs) (length xs)) (position_or_len p xs) (cond (p y) (Some (length xs)) None) h

position-past : {X : Type 0} (p : X → Bool) (xs : List X) (y : X) → p y ≡ false → position p (xs ++ y ∷ []) ≡ position p xs
position-past p xs y h = position-more p xs y ∙ ap (λ b. cond (ltb (position_or_len p xs) (length xs)) (Some (position_or_len p xs)) (cond b (Some (length xs)) None)) h

-- a new name has the place at the end, and every other name the place that it had
pub field_named-push : (xs : List FieldEntry) (e : FieldEntry) (q : List ℕ) → field_named xs e.name ≡ None → field_named (xs ++ e ∷ []) q ≡ cond (bytes_eq e.name q) (Some (length xs)) (field_named xs q)
field_named-push xs e q none = each (bytes_eq e.name q) refl
  where
    each : (b : Bool) → bytes_eq e.name q ≡ b → field_named (xs ++ e ∷ []) q ≡ cond b (Some (length xs)) (field_named xs q)
    each true h = position-push (λ x. bytes_eq x.name q) xs e (ap (field_named xs) (sym ((bytes_decides e.name q).0 h)) ∙ none) ∙ ap (λ b. cond b (Some (length xs)) None) h
    each false h = position-past (λ x. bytes_eq x.name q) xs e h

-- a table of places that got the new name
pub places-push : {Y S : Type 0} (xs : List FieldEntry) (e : FieldEntry) (m n : HashMap (String Y) ℕ S) (k : String Y) → ((q : List ℕ) → hash.get_by_text m q ≡ field_named xs q) → field_named xs e.name ≡ None → string_bytes k ≡ e.name
    → hash.UpdatesBy string_eq (λ s. bytes_eq (string_bytes k) (string_bytes s)) m n (Some (length xs)) → (q : List ℕ) → hash.get_by_text n q ≡ field_named (xs ++ e ∷ []) q
places-push xs e m n k had none named updates q = hash_map_updates_text (string_bytes k) m n (Some (length xs)) updates q
    ∙ ap (λ bs. cond (bytes_eq bs q) (Some (length xs)) (hash.get_by_text m q)) named ∙ ap (cond (bytes_eq e.name q) (Some (length xs))) (had q) ∙ sym (field_named-push xs e q none)
