-- A script whose operations are read one by one.
use Rattle.std.proofs.Common.{◌≡◌, ℕ, List, [], ◌∷◌, ◌++◌, true, false, ◌&&◌, Option, Some, map, Ordering, Less, Equal, Greater, true≢false, refl, sym, ap, ◌∙◌}
use Rattle.std.specs.Prelude.{codes}
use Rattle.std.specs.List.{list_any}
use Rattle.std.specs.Ordering.{match_ordering}
use Rattle.std.specs.Str.{IsUtf8, bytes_eq}
use Rattle.std.proofs.lemmas.Slice.Eq.{bytes_eq-Decides}
use Rattle.json.specs.Json.{value}
use Rattle.json.specs.Lex.{tokens}
use Rattle.serde_json.specs.Data.{Data, object, Items, item, Members, no_members, member, put}
use Rattle.serde_json.specs.Find.{get_member}
use Rattle.serde_json.specs.Read.{of_json, converted}
use Rattle.serde_json.proofs.Views.{get_member-put, get_member-put_other}
use Rattle.seg_values.specs.declared.schema.FieldEntry.{FieldEntry}
use Rattle.seg_model.specs.Input.{Input}
use Rattle.seg_model.specs.Operations.{Operation}
use Rattle.seg_meta.specs.JsonReaders.{required, each, list_of, names_among}
use Rattle.seg_script.specs.Fields.{schema_from}
use Rattle.seg_script.specs.Operations.{operation_from}
use Rattle.seg_script.specs.Script.{input_with, script, script_from, script_members}
use Rattle.seg_script.proofs.JsonOfBytes.{json_of-read}
use Rattle.seg_script.proofs.Grammar.{whole_read}

among_at : (o : Ordering) (names : List (List ℕ)) (k l : List ℕ) (d e : Data) (ms : Members) → list_any (bytes_eq k) names ≡ true
    → names_among names (put k d ms) ≡ names_among names ms
    → names_among names (match_ordering o (member k d (member l e ms)) (member l d ms) (member l e (put k d ms))) ≡ names_among names (member l e ms)
among_at Less names k l d e ms known later = ap (λ b. b && names_among names (member l e ms)) known
among_at Equal names k l d e ms known later = refl
among_at Greater names k l d e ms known later = ap (λ b. list_any (bytes_eq l) names && b) later

-- a member with one of the names changes nothing of whether there are others
names_among-put : (names : List (List ℕ)) (k : List ℕ) (d : Data) (ms : Members) → list_any (bytes_eq k) names ≡ true → names_among names (put k d ms) ≡ names_among names ms
names_among-put names k d no_members known = ap (λ b. b && true) known
names_among-put names k d (member l e ms) known = among_at _ names k l d e ms known (names_among-put names k d ms known)

other : (q : List ℕ) (d : Data) (ms : Members) → bytes_eq q (codes "operations") ≡ false → get_member q (put (codes "operations") d ms) ≡ get_member q ms
other q d ms unlike = get_member-put_other q (codes "operations") d ms (λ same. true≢false (sym ((bytes_eq-Decides q (codes "operations")).1 same) ∙ unlike))

-- the script of the members before the operations, and the operations
pub script_of : (schema : List FieldEntry) (operations : List Operation) (d : Data) (ms : Members) (s : Input)
    → required schema_from (codes "schema") (object ms) ≡ Some schema → list_of (operation_from schema) d ≡ Some operations
    → input_with schema operations (object ms) ≡ Some s → script_from (object (put (codes "operations") d ms)) ≡ Some s
script_of schema operations d ms s known done said =
    rw (
      names_among-put script_members (codes "operations") d ms refl,
      get_member-put (codes "operations") d ms,
      other (codes "schema") d ms refl,
      other (codes "settings") d ms refl,
      other (codes "cuts") d ms refl,
      other (codes "filters") d ms refl,
      other (codes "ids") d ms refl,
      known,
      done,
    ) said

-- the script of a text's tokens
pub script_of_text : (bytes text : List ℕ) (s : Input) → text ≡ bytes → IsUtf8 text
    → (d : Data) × (converted of_json (value 127 (tokens text)) ≡ Some (d, [])) × (script_from d ≡ Some s) → script bytes ≡ Some s
script_of_text bytes text s same utf8 h = rw (json_of-read bytes text h.0 same (utf8, whole_read text h.0 h.1)) h.2

-- one more item that was read
pub each-item : {A : Type 0} (read : Data → Option A) (d : Data) (ds : Items) (a : A) (xs : List A) → read d ≡ Some a → each read ds ≡ Some xs → each read (item d ds) ≡ Some (a ∷ xs)
each-item read d ds a xs first rest = rw (first, rest) refl

map-last : {A B : Type 0} (f : A → B) (done : List A) (a : A) (xs : List B) → map f done ++ (f a ∷ xs) ≡ map f (done ++ a ∷ []) ++ xs
map-last f [] a xs = refl
map-last f (b ∷ done) a xs = ap (λ bs. f b ∷ bs) (map-last f done a xs)

-- one more that was made
pub map-push : {A B : Type 0} (f : A → B) (done new : List A) (a : A) (xs : List B) → new ≡ done ++ a ∷ [] → map f done ++ (f a ∷ xs) ≡ map f new ++ xs
map-push f done new a xs more = map-last f done a xs ∙ ap (λ as'. map f as' ++ xs) (sym more)
