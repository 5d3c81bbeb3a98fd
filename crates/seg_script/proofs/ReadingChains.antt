-- What a chain of readings says about its parts.
use Rattle.std.proofs.Common.{◌≡◌, List, [], ◌∷◌, Bool, true, false, Option, None, Some, option_map, refl, subst}
use Rattle.std.specs.List.{list_all, AllByRecursion}
use Rattle.serde_json.specs.Data.{Data, Items, no_items, item}
use Rattle.serde_json.specs.Find.{as_array}
use Rattle.seg_meta.specs.JsonReaders.{given, provided, each, list_of}

-- what was given
pub given-some : {A B : Type 0} (o : Option A) (f : A → Option B) (b : B) → given o f ≡ Some b → (a : A) × ((o ≡ Some a) × (f a ≡ Some b))
given-some None f b h = cc
given-some (Some a) f b h = (a, (refl, h))

-- what was tested, and what was there
pub provided-some : {B : Type 0} (t : Bool) (o : Option B) (b : B) → provided t o ≡ Some b → (t ≡ true) × (o ≡ Some b)
provided-some true o b h = (refl, h)
provided-some false o b h = cc

-- what was mapped
pub option_map-some : {A B : Type 0} (f : A → B) (o : Option A) (b : B) → option_map f o ≡ Some b → (a : A) × ((o ≡ Some a) × (f a ≡ b))
option_map-some f None b h = cc
option_map-some f (Some a) b h = (a, (refl, cc))

-- what holds of all that is read of an item holds of all that is read of a list's items
pub all-each : {A : Type 0} (read : Data → Option A) (P : A → Type 0) → ((d : Data) (a : A) → read d ≡ Some a → P a) → (ds : Items) (xs : List A) → each read ds ≡ Some xs → AllByRecursion P xs
all-each read P holds no_items xs h = let e : [] ≡ xs = cc in subst (AllByRecursion P) e tt
all-each read P holds (item d ds) xs h =
    let first = given-some (read d) (λ a. option_map (λ as'. a ∷ as') (each read ds)) xs h in
    let rest = option_map-some (λ as'. first.0 ∷ as') (each read ds) xs first.1.1 in
    subst (AllByRecursion P) rest.1.1 (holds d first.0 first.1.0, all-each read P holds ds rest.0 rest.1.0)

pub all-list_of : {A : Type 0} (read : Data → Option A) (P : A → Type 0) → ((d : Data) (a : A) → read d ≡ Some a → P a) → (d : Data) (xs : List A) → list_of read d ≡ Some xs → AllByRecursion P xs
all-list_of read P holds d xs h =
    let items = given-some (as_array d) (each read) xs h in
    all-each read P holds items.0 xs items.1.1

-- what holds of each, as a test
pub list_all-true : {A : Type 0} (test : A → Bool) (xs : List A) → AllByRecursion (λ a. test a ≡ true) xs → list_all test xs ≡ true
list_all-true test [] h = refl
list_all-true test (x ∷ xs) h = rw (h.0) (list_all-true test xs h.1)
