-- Marks of the rows that are kept, row by row.
use Rattle.std.proofs.Common.{◌≡◌, ℕ, zero, suc, ◌<◌, Bool, true, false, ◌||◌, List, [], ◌∷◌, length, map, get_or, set, replicate, refl, sym, ap, ◌∙◌, arith}
use Rattle.std.specs.Prelude.{◌&&◌, nat_eq}
use Rattle.std.proofs.lemmas.Bool.Decides.{nat_tests}
use Rattle.std.proofs.lemmas.List.{get_or-set_same, get_or-set_other, length-set, map-set, length-map, length-replicate, get_or-map, get_or-replicate}
use Rattle.std.proofs.Math.Bool.{or-true}
use Rattle.seg_column_file.specs.RowOrders.{Place}
use Rattle.seg_column_file.specs.KeptRows.{is_kept}

-- only files that are there have a row
pub file_below : (counts : List ℕ) (file row : ℕ) → row < get_or counts file 0 → file < length counts
file_below [] file row lt = absurd (omega (arith, lt))
file_below (c ∷ cs) zero row lt = omega arith
file_below (c ∷ cs) (suc file) row lt = omega (arith, file_below cs file row lt)

module _ (kept : List (List Bool)) (file row : ℕ) where
  -- with one more mark
  abbrev pub marked : List (List Bool)
  marked = set kept file (set (get_or kept file []) row true)

  module _ (there : file < length kept) (within : row < length (get_or kept file [])) where
    marked_file : get_or marked file [] ≡ set (get_or kept file []) row true
    marked_file = get_or-set_same kept file (set (get_or kept file []) row true) [] there

    pub same_lengths : (f : ℕ) → length (get_or marked f []) ≡ length (get_or kept f [])
    same_lengths f = by (nat_eq f file) refl
      where
        by : (b : Bool) → b ≡ nat_eq f file → length (get_or marked f []) ≡ length (get_or kept f [])
        by true e =
            let is : f ≡ file = grind (arith, nat_tests) in
            ap (λ k. length (get_or marked k [])) is ∙ ap length marked_file
            ∙ length-set (get_or kept file []) row true ∙ ap (λ k. length (get_or kept k [])) (sym is)
        by false e =
            let other : f ≡ file → ⊥ = λ is. grind (arith, nat_tests) in
            ap length (get_or-set_other kept file f (set (get_or kept file []) row true) [] other)

    module _ (f r : ℕ) where
      one_of_two : (a b : Bool) → a ≡ nat_eq f file → b ≡ nat_eq r row → (rest : Bool)
          → (get_or (get_or marked f []) r false || rest) ≡ (get_or (get_or kept f []) r false || ((a && b) || rest))
      one_of_two true true e h rest =
          let is : f ≡ file = grind (arith, nat_tests) in
          let at : r ≡ row = grind (arith, nat_tests) in
          let here : get_or (get_or marked f []) r false ≡ true =
          ap (λ k. get_or (get_or marked k []) r false) is ∙ ap (λ (m : List Bool). get_or m r false) marked_file
          ∙ ap (λ k. get_or (set (get_or kept file []) row true) k false) at
          ∙ get_or-set_same (get_or kept file []) row true false within in
          ap (λ b. b || rest) here ∙ sym (or-true (get_or (get_or kept f []) r false))
      one_of_two true false e h rest =
          let is : f ≡ file = grind (arith, nat_tests) in
          let other : r ≡ row → ⊥ = λ at. grind (arith, nat_tests) in
          let stays : get_or (get_or marked f []) r false ≡ get_or (get_or kept f []) r false =
          ap (λ k. get_or (get_or marked k []) r false) is ∙ ap (λ (m : List Bool). get_or m r false) marked_file
          ∙ get_or-set_other (get_or kept file []) row r true false other
          ∙ ap (λ k. get_or (get_or kept k []) r false) (sym is) in
          ap (λ b. b || rest) stays
      one_of_two false b e h rest =
          let other : f ≡ file → ⊥ = λ is. grind (arith, nat_tests) in
          ap (λ (m : List Bool). get_or m r false || rest)
          (get_or-set_other kept file f (set (get_or kept file []) row true) [] other)

      -- the mark of one takes it out of what is left
      pub one_marked : (new : List Place)
          → (get_or (get_or marked f []) r false || is_kept new f r)
          ≡ (get_or (get_or kept f []) r false || is_kept ((file, row) ∷ new) f r)
      one_marked new = one_of_two (nat_eq f file) (nat_eq r row) refl refl (is_kept new f r)

-- ---- before any mark

module _ (counts : List ℕ) where
  abbrev pub none : List (List Bool)
  none = map (λ (count : ℕ). replicate count false) counts

pub none_files : (counts : List ℕ) → length (none counts) ≡ length counts
none_files counts = length-map counts (λ (count : ℕ). replicate count false)

pub none_rows : (counts : List ℕ) (file : ℕ) → length (get_or (none counts) file []) ≡ get_or counts file 0
none_rows [] file = refl
none_rows (c ∷ cs) zero = length-replicate c false
none_rows (c ∷ cs) (suc file) = none_rows cs file

pub none_marked : (counts : List ℕ) (file row : ℕ) → row < get_or counts file 0
    → get_or (get_or (none counts) file []) row false ≡ false
none_marked [] file row lt = refl
none_marked (c ∷ cs) zero row lt = get_or-replicate c row false false lt
none_marked (c ∷ cs) (suc file) row lt = none_marked cs file row lt

-- ---- one item, in a list of lists of another type

-- only lists that are there have an item
inside : {X : Type 0} (lists : List (List X)) (i k : ℕ) → k < length (get_or lists i []) → i < length lists
inside [] i k lt = absurd (omega (arith, lt))
inside (l ∷ ls) zero k lt = omega arith
inside (l ∷ ls) (suc i) k lt = omega (arith, inside ls i k lt)

pub view_marked : {V X : Type 0} (f : V → List X) (files : List V) (seen : List (List X)) (file row : ℕ) (x : X)
    (old new : V) → map f files ≡ seen → row < length (get_or seen file []) → old ≡ get_or files file old
    → f new ≡ set (f old) row x → map f (set files file new) ≡ set seen file (set (get_or seen file []) row x)
view_marked {V} {X} f files seen file row x old new view lt read is =
    let there : file < length files = omega (arith, inside seen file row lt, ap length view, length-map files f) in
    let found : f old ≡ get_or seen file [] =
    ap f read ∙ sym (get_or-map f files file old [] there) ∙ ap (λ (l : List (List X)). get_or l file []) view in
    map-set f files file new
    ∙ ap (λ (l : List (List X)). set l file (f new)) view
    ∙ ap (set seen file) (is ∙ ap (λ (m : List X). set m row x) found)
