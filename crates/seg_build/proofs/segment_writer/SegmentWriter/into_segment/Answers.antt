use Rattle.std.proofs.Common.{◌≡◌, ◌⊎◌, List, ℕ, None, Err, ◌∙◌, subst}
use Rattle.std.specs.Prelude.{IfErr}
use Rattle.std.proofs.lemmas.Result.{IfErr-weaker, IfOk-weaker}
use Rattle.seg_values.specs.declared.error.ArgumentCause.TheVariants.{Numbers}
use Rattle.seg_values.specs.declared.error.TantivyError.TheVariants.{InvalidArgument, SystemError, OutOfMemory}
use Rattle.seg_values.specs.Tree.{Document}
use Rattle.seg_model.specs.Columns.{columns}
use Rattle.seg_build.specs.FieldTerms.{fields_of}
use Rattle.seg_build.specs.FinishedFiles.{Fails, IsMadeOfKept}
use Rattle.seg_build.specs.SegmentWriters.{kept_of, IsKeptOf, Writes}
use Rattle.seg_build.specs.StoredBlocks.{HasBlocks}
use Rattle.seg_segment.specs.DocumentsOfFiles.{StandFor}
use Rattle.seg_build.proofs.WriterContents.{of_parts}
use Rattle.seg_build.proofs.KeptColumns.{must_fail, told_error}
use Rattle.seg_build.proofs.segment_writer.SegmentWriter.into_segment.Goals as goal

pub returns-clause-stands : goal.returns-clause-stands
returns-clause-stands g c =
    let tokens = g.Z.Analyzers.tokens_of in
    let F = tokens c.self.inside.analyzers.now in
    let schema = c.self.inside.segment.schema in
    let size = c.self.inside.block_size in
    IfOk-weaker c.memory_segment.result (IsMadeOfKept schema (kept_of c.in-Some.parts)) _ (λ made is.
    subst (λ v. (documents : List Document) (stamps : List ℕ) → Writes (tokens v.0) documents stamps v.1 → StandFor v.1.schema (tokens v.0) documents made.files) c.self.view_is
    (λ documents stamps w. is.stand F size documents stamps (of_parts (IsKeptOf schema F size documents stamps) c.self.inside.parts c.in-Some.parts c.in-Some.is w))) c.memory_segment.ensures.made

pub returns-clause-fields : goal.returns-clause-fields
returns-clause-fields g c =
    let tokens = g.Z.Analyzers.tokens_of in
    let F = tokens c.self.inside.analyzers.now in
    let schema = c.self.inside.segment.schema in
    let size = c.self.inside.block_size in
    IfOk-weaker c.memory_segment.result (IsMadeOfKept schema (kept_of c.in-Some.parts)) _ (λ made is.
    subst (λ v. (documents : List Document) (stamps : List ℕ) → Writes (tokens v.0) documents stamps v.1 → made.fields ≡ fields_of v.1.schema (tokens v.0) documents) c.self.view_is
    (λ documents stamps w. is.fields F size documents stamps (of_parts (IsKeptOf schema F size documents stamps) c.self.inside.parts c.in-Some.parts c.in-Some.is w))) c.memory_segment.ensures.made

pub returns-clause-totals : goal.returns-clause-totals
returns-clause-totals g c = IfOk-weaker c.memory_segment.result (IsMadeOfKept c.self.inside.segment.schema (kept_of c.in-Some.parts)) _ (λ made is. is.totals) c.memory_segment.ensures.made

pub returns-clause-blocks : goal.returns-clause-blocks
returns-clause-blocks g c =
    let tokens = g.Z.Analyzers.tokens_of in
    let F = tokens c.self.inside.analyzers.now in
    let schema = c.self.inside.segment.schema in
    let size = c.self.inside.block_size in
    IfOk-weaker c.memory_segment.result (IsMadeOfKept schema (kept_of c.in-Some.parts)) _ (λ made is.
    subst (λ v. (documents : List Document) (stamps : List ℕ) → Writes (tokens v.0) documents stamps v.1 → HasBlocks v.1.schema v.1.block_size documents made.files.store) c.self.view_is
    (λ documents stamps w. is.blocks F size documents stamps (of_parts (IsKeptOf schema F size documents stamps) c.self.inside.parts c.in-Some.parts c.in-Some.is w))) c.memory_segment.ensures.made

pub returns-clause-stamps : goal.returns-clause-stamps
returns-clause-stamps g c =
    let tokens = g.Z.Analyzers.tokens_of in
    let F = tokens c.self.inside.analyzers.now in
    let schema = c.self.inside.segment.schema in
    let size = c.self.inside.block_size in
    IfOk-weaker c.memory_segment.result (IsMadeOfKept schema (kept_of c.in-Some.parts)) _ (λ made is.
    subst (λ v. (documents : List Document) (stamps : List ℕ) → Writes (tokens v.0) documents stamps v.1 → made.stamps.items ≡ stamps) c.self.view_is
    (λ documents stamps w. is.stamps ∙ (of_parts (IsKeptOf schema F size documents stamps) c.self.inside.parts c.in-Some.parts c.in-Some.is w).stamped)) c.memory_segment.ensures.made

pub returns-clause-mixed : goal.returns-clause-mixed
returns-clause-mixed g c =
    let tokens = g.Z.Analyzers.tokens_of in
    let F = tokens c.self.inside.analyzers.now in
    let schema = c.self.inside.segment.schema in
    let size = c.self.inside.block_size in
    subst (λ v. (documents : List Document) (stamps : List ℕ) → Writes (tokens v.0) documents stamps v.1 → columns v.1.schema (tokens v.0) documents ≡ None → c.memory_segment.result ≡ Err (InvalidArgument Numbers)) c.self.view_is
    (λ documents stamps w none. must_fail schema (kept_of c.in-Some.parts) c.memory_segment.result c.memory_segment.ensures.made c.memory_segment.ensures.fails F size documents stamps (of_parts (IsKeptOf schema F size documents stamps) c.self.inside.parts c.in-Some.parts c.in-Some.is w) none)

pub returns-clause-errors : goal.returns-clause-errors
returns-clause-errors g c =
    let tokens = g.Z.Analyzers.tokens_of in
    let F = tokens c.self.inside.analyzers.now in
    let schema = c.self.inside.segment.schema in
    let size = c.self.inside.block_size in
    subst (λ v. IfErr c.memory_segment.result (λ e. ((e ≡ SystemError) × (v.1.kept ≡ None)) ⊎ ((e ≡ OutOfMemory) ⊎ ((e ≡ InvalidArgument Numbers) × ((documents : List Document) (stamps : List ℕ) → Writes (tokens v.0) documents stamps v.1 → columns v.1.schema (tokens v.0) documents ≡ None))))) c.self.view_is
    (IfErr-weaker c.memory_segment.result (Fails schema (kept_of c.in-Some.parts)) _ (λ e why.
    told_error schema (kept_of c.in-Some.parts) e why _ _ (λ mixed documents stamps w. mixed F size documents stamps (of_parts (IsKeptOf schema F size documents stamps) c.self.inside.parts c.in-Some.parts c.in-Some.is w))) c.memory_segment.ensures.fails)
