-- Parts that were read of documents, and what is kept of them.
use Rattle.std.proofs.Common.{◌≡◌, Bool, true, false, List, [], ◌∷◌, ◌++◌, map, Some, None, Option, sym, refl, ap, ◌∙◌}
use mathlib.Core.Bool.{true≢false}
use Rattle.std.specs.Prelude.{is_some}
use Rattle.std.specs.List.{flat_map}
use Rattle.std.specs.Option.{option_map}
use Rattle.std.proofs.lemmas.List.{map-append}
use Rattle.seg_values.specs.Tree.{Document}
use Rattle.seg_model.specs.Fields.{Schema, Analyzer}
use Rattle.seg_model.specs.Operations.{Batch, kept, live}
use Rattle.seg_model.specs.Columns.{Columns, columns}
use Rattle.seg_model.specs.Contents.{Contents, reading_part, reading_with, full_reading}
use Rattle.seg_model.specs.Join.{Part, live_of}
use Rattle.seg_model.specs.Laws.{IsReadingOf, AreReadingsOf, FullReadingsHaveTheReading}

pub kept-map : {X Y : Type 0} (f : X → Y) (bs : List Bool) (xs : List X) → kept bs (map f xs) ≡ map f (kept bs xs)
kept-map f [] xs = refl
kept-map f (b ∷ bs) [] = refl
kept-map f (true ∷ bs) (x ∷ xs) = ap (λ l. f x ∷ l) (kept-map f bs xs)
kept-map f (false ∷ bs) (x ∷ xs) = kept-map f bs xs

-- a part read of documents has columns, and with them their reading
pub record WasRead (schema : Schema) (analyzer : Analyzer) (ds : List Document) (contents : Contents) : Type 0 where
  pub columns_read : Columns
  pub are_columns : columns schema analyzer ds ≡ Some columns_read
  pub is_reading : contents ≡ reading_with schema analyzer ds columns_read

pub was_read : (schema : Schema) (analyzer : Analyzer) (ds : List Document) (contents : Contents) → full_reading schema analyzer ds ≡ Some contents → WasRead schema analyzer ds contents
was_read schema analyzer ds contents e = by (columns schema analyzer ds) refl e
  where
    by : (o : Option Columns) → columns schema analyzer ds ≡ o → option_map (reading_with schema analyzer ds) o ≡ Some contents → WasRead schema analyzer ds contents
    by None c h = absurd (true≢false (sym (ap is_some h)))
    by (Some cs) c h = record { columns_read = cs; are_columns = c; is_reading = same _ _ h }
      where
        same : (x y : Contents) → Some x ≡ Some y → y ≡ x
        same x y e = cc

module _ (schema : Schema) (analyzer : Analyzer) {X : Type 0} (f : Part → List X) (g : Document → X) (each : (b : Batch) (p : Part) → IsReadingOf schema analyzer b p → f p ≡ map g b.documents) where
  -- what parts have of each document is kept of the live ones
  pub live_of-map : (bs : List Batch) (ps : List Part) → AreReadingsOf schema analyzer bs ps → live_of f ps ≡ map g (flat_map live bs)
  live_of-map [] [] h = refl
  live_of-map [] (p ∷ ps) h = absurd h
  live_of-map (b ∷ bs) [] h = absurd h
  live_of-map (b ∷ bs) (p ∷ ps) h =
      ap (λ l. kept p.alive l ++ live_of f ps) (each b p h.0)
      ∙ ap (λ a. kept a (map g b.documents) ++ live_of f ps) h.0.alive
      ∙ ap (λ l. l ++ live_of f ps) (kept-map g b.alive b.documents)
      ∙ ap (λ l. map g (live b) ++ l) (live_of-map bs ps h.1)
      ∙ sym (map-append g (live b) (flat_map live bs))

pub reading_of_full : FullReadingsHaveTheReading
reading_of_full schema analyzer ds contents e = ap reading_part (was_read schema analyzer ds contents e).is_reading
