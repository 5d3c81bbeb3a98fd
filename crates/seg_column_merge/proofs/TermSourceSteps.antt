-- The sources of columns of texts or bytes, one after the other.
use Rattle.std.proofs.Common.{◌≡◌, ℕ, ◌+◌, ◌<◌, ◌≤◌, List, [], ◌∷◌, ◌++◌, length, map, take, drop, get_or, set, Option, Some, None, ◌⊎◌, inl, inr, refl, sym, ap, subst, ◌∙◌, arith}
use Rattle.std.specs.Prelude.{All, Vec, replicate}
use Rattle.std.specs.declared.alloc.Global.{Global}
use Rattle.std.proofs.lemmas.Bool.{cases_lt}
use Rattle.std.proofs.lemmas.List.{drop_all, drop_more, get_or-map, get_or_append_left, get_or_push, length-map, length-replicate, length_push, length-take-le, map-append, take_more}
use Rattle.seg_column_merge_parts.specs.ColumnSources.{source_of, with_map, with_maps}
use Rattle.seg_column_merge_parts.specs.MergedTerms.{ords_in, terms_in}
use Rattle.seg_column_merge_parts.specs.TermSources.{AddsSource, AreTermSources, MapsTo}
use Rattle.seg_column_merge_parts.specs.declared.number_map.NumberMap.{NumberMap}
use Rattle.seg_column_merge_parts.specs.declared.number_map.NumberMap.TheVariants.{Same, Ordinals}
use Rattle.seg_column_merge_parts.specs.declared.source.Source.{Source}
use Rattle.seg_column_merge_parts.specs.declared.source.Source.TheVariants.{Nothing}
use Rattle.seg_column_merge_parts.specs.declared.tables.FileColumn.{FileColumn}
use Rattle.seg_column_merge_parts.specs.declared.tables.TableRow.{TableRow}
use Rattle.seg_column_merge.proofs.SourceRows.{length-with_maps}

one_more : (cs : List (Option FileColumn)) (ms : List NumberMap) (o : Option FileColumn) (m : NumberMap)
    (sources : List Source)
    → length cs ≡ length ms → with_maps sources (cs ++ o ∷ []) (ms ++ m ∷ []) ≡ with_map (with_maps sources cs ms) o m
one_more [] [] o m sources same = refl
one_more [] (n ∷ ms) o m sources same = absurd (omega (arith, same))
one_more (c ∷ cs) [] o m sources same = absurd (omega (arith, same))
one_more (c ∷ cs) (n ∷ ms) o m sources same = one_more cs ms o m (with_map sources c n) (omega (arith, same))

module _ (start : List Source) (ordinals : List (List ℕ)) where
  pub no_columns : AreTermSources start [] ordinals start
  no_columns = record { written = []; many = refl; maps = λ at lt. absurd (omega (arith, lt)); are = refl }

  module _ (columns : List (Option FileColumn)) (o : Option FileColumn) (old new : List Source)
      (done : AreTermSources start columns ordinals old)
      (adds : AddsSource o (get_or ordinals (length columns) []) old new) where
    abbrev written : List NumberMap
    written = done.written ++ adds.written ∷ []

    maps : (at : ℕ) → at < length (columns ++ o ∷ [])
        → MapsTo (get_or (columns ++ o ∷ []) at None) (get_or ordinals at []) (get_or written at Same)
    maps at lt = by (cases_lt at (length columns))
      where
        by : (at < length columns) ⊎ (length columns ≤ at)
            → MapsTo (get_or (columns ++ o ∷ []) at None) (get_or ordinals at []) (get_or written at Same)
        by (inl below) =
            subst (λ (c : Option FileColumn). MapsTo c (get_or ordinals at []) (get_or written at Same))
            (sym (get_or_append_left columns (o ∷ []) None at below))
            (subst (MapsTo (get_or columns at None) (get_or ordinals at []))
            (sym (get_or_append_left done.written (adds.written ∷ []) Same at (omega (arith, below, done.many))))
            (done.maps at below))
        by (inr le) =
            let here : length columns ≡ at = omega (arith, le, lt, length_push columns o) in
            subst (λ (c : Option FileColumn). MapsTo c (get_or ordinals at []) (get_or written at Same))
            (sym (get_or_push columns o None at here))
            (subst (MapsTo o (get_or ordinals at []))
            (sym (get_or_push done.written adds.written Same at (sym done.many ∙ here)))
            (subst (λ (n : ℕ). MapsTo o (get_or ordinals n []) adds.written) here adds.maps))

    pub column_more : AreTermSources start (columns ++ o ∷ []) ordinals new
    column_more = record {
      written = written;
      many = length_push columns o ∙ ap (λ (n : ℕ). n + 1) done.many ∙ sym (length_push done.written adds.written);
      maps = maps;
      are = adds.is ∙ ap (λ (s : List Source). with_map s o adds.written) done.are
          ∙ sym (one_more columns done.written o adds.written start done.many);
    }

  -- by the rows of the columns
  pub row_more : (rows : List TableRow) (at : ℕ) (r : TableRow) (old new : List Source) → at < length rows
      → r ≡ get_or rows at r → AreTermSources start (map (λ t. t.column) (take at rows)) ordinals old
      → AddsSource r.column (get_or ordinals at []) old new
      → AreTermSources start (map (λ t. t.column) (take (at + 1) rows)) ordinals new
  row_more rows at r old new lt is done adds =
      let long : length (map (λ (t : TableRow). t.column) (take at rows)) ≡ at =
      length-map (take at rows) (λ (t : TableRow). t.column) ∙ length-take-le at rows (omega (arith, lt)) in
      let same : map (λ (t : TableRow). t.column) (take at rows) ++ r.column ∷ []
      ≡ map (λ (t : TableRow). t.column) (take (at + 1) rows) =
      sym (map-append (λ (t : TableRow). t.column) (take at rows) (r ∷ []))
      ∙ ap (map (λ (t : TableRow). t.column)) (ap (λ (t : TableRow). take at rows ++ t ∷ []) is
      ∙ sym (take_more rows at r lt)) in
      subst (λ (cs : List (Option FileColumn)). AreTermSources start cs ordinals new) same
      (column_more (map (λ (t : TableRow). t.column) (take at rows)) r.column old new done
      (subst (λ (n : ℕ). AddsSource r.column (get_or ordinals n []) old new) (sym long) adds))

-- the column of a row that was put
pub source_added : (c : FileColumn) (ordinals : List ℕ) (v : Vec ℕ Global) (old : List Source) (s : Source)
    → v.items ≡ ordinals → All (All (λ ord. ord < length (terms_in (c.handle).column))) (ords_in (c.handle).column)
    → s ≡ source_of (Ordinals v) (c.handle).column → AddsSource (Some c) ordinals old (set old c.file s)
source_added c ordinals v old s items below is = record {
  written = Ordinals v;
  maps = (items, below);
  is = ap (set old c.file) is;
}

pub as_long : (n : ℕ) (columns : List (Option FileColumn)) (ordinals : List (List ℕ)) (sources : List Source)
    → AreTermSources (replicate n Nothing) columns ordinals sources → length sources ≡ n
as_long n columns ordinals sources are =
    ap length are.are ∙ length-with_maps columns are.written (replicate n Nothing) ∙ length-replicate n Nothing

-- ---- lists of ordinals, taken one by one

module _ {V : Type 0} (all left rest : List V) (at : ℕ) (v : V) (is : left ≡ drop at all) (step : left ≡ v ∷ rest) where
  pub list_there : at < length all
  list_there = by (cases_lt at (length all))
    where
      by : (at < length all) ⊎ (length all ≤ at) → at < length all
      by (inl lt) = lt
      by (inr le) = absurd (omega (arith, ap length (sym step ∙ is ∙ drop_all at all le)))

  split : v ∷ rest ≡ get_or all at v ∷ drop (at + 1) all
  split = sym step ∙ is ∙ drop_more all at v list_there

  pub rest_is : rest ≡ drop (at + 1) all
  rest_is = ap (drop 1) split

  pub list_is : (f : V → List ℕ) → f v ≡ get_or (map f all) at []
  list_is f = ap (λ (l : List V). f (get_or l 0 v)) split ∙ sym (get_or-map f all at v [] list_there)
