-- Rows of a table, one after the other.
use Rattle.std.proofs.Common.{◌≡◌, List, [], ◌∷◌, ◌++◌, sym, subst}
use Rattle.std.specs.Prelude.{All, IsUtf8}
use Rattle.std.proofs.lemmas.List.Elements.{All-push}
use Rattle.seg_column_merge_parts.specs.declared.tables.TableRow.{TableRow}

-- all paths are texts
abbrev pub AreTexts : List TableRow → Type 0
AreTexts rows = All (λ (r : TableRow). IsUtf8 r.path.now) rows

-- one more row
pub pushed_utf8 : (old new : List TableRow) (row : TableRow) → new ≡ old ++ row ∷ [] → AreTexts old
    → IsUtf8 row.path.now
    → AreTexts new
pushed_utf8 old new row is all text =
    subst AreTexts (sym is) (All-push (λ (r : TableRow). IsUtf8 r.path.now) old row all text)
