-- The steps by which the six files of a segment are opened.
use Rattle.std.proofs.Common.{◌≡◌, ◌∙◌, ℕ, List, [], ◌∷◌, Option, Some, refl, sym, subst}
use Rattle.std.specs.Prelude.{IfSome, IsSome}
use Rattle.std.specs.FinMap.{get}
use Rattle.std.specs.List.{AllByRecursion}
use Rattle.std.proofs.lemmas.Option.{same_Some}
use Rattle.seg_common.specs.declared.name.FileName.TheVariants.{Part}
use Rattle.seg_common.specs.declared.name.SegmentComponent.{SegmentComponent}
use Rattle.seg_common.specs.declared.name.SegmentComponent.TheVariants.{Terms, Store, Postings, Positions, FastFields, FieldNorms}
use Rattle.seg_model.specs.Contents.{Contents}
use Rattle.seg_model.specs.Fields.{Schema}
use Rattle.seg_directory.specs.Files.{NamedFiles}
use Rattle.seg_directory.specs.DirectorySteps.{AllSuit}
use Rattle.seg_segment.specs.FileContents.{Holds}
use Rattle.seg_segment.specs.ReadErrors.{IsNoDamage}
use Rattle.seg_segment.specs.SegmentFiles.{HasFiles, bytes_of}
use Rattle.seg_segment.specs.declared.segment_files.SegmentFiles.{SegmentFiles}
use Rattle.seg_segment.proofs.Exports.{FindWhole, FindsDamage, OnlyReads}
use Rattle.seg_open.specs.Disagreement.{up_to}
use Rattle.seg_open.specs.OpeningSteps.{AreChecked, Check, IsChecked, damaged, open_steps, refusal_of, sound, unfinished}

pub is_there : (o : Option (List ℕ)) (bytes : List ℕ) → o ≡ Some bytes → IsSome o
is_there o bytes is = subst IsSome (sym is) refl

module _ (id : ℕ) (files : SegmentFiles) (checks : SegmentComponent → Check) where
  -- a check tells of damage, or that memory runs out
  finds : (c : SegmentComponent) (check : Check) → FindsDamage (refusal_of id c check)
  finds c sound = tt
  finds c damaged = tt
  finds c unfinished = tt

  pub open_only : OnlyReads (open_steps id files checks)
  open_only = (
    finds Terms (checks Terms),
    (
      finds Store (checks Store),
      (
        finds Postings (checks Postings),
        (finds Positions (checks Positions), (finds FastFields (checks FastFields), (finds FieldNorms (checks FieldNorms), tt))),
      ),
    ),
  )

  -- files that were read and opened are there
  pub open_has : (directory : NamedFiles) → AllSuit (open_steps id files checks) directory → HasFiles directory id files
  open_has directory suits = (
    suits.0,
    (suits.1.1.0, (suits.1.1.1.1.0, (suits.1.1.1.1.1.1.0, (suits.1.1.1.1.1.1.1.1.0, (suits.1.1.1.1.1.1.1.1.1.1.0, tt))))),
  )

  module _ (schema : Schema) (documents : ℕ) (directory : NamedFiles) (contents : Contents) (held : Holds directory id schema contents)
      (number : contents.documents ≡ documents) where
    -- the file of a component is as it is there
    abbrev IsThere : SegmentComponent → Type 0
    IsThere c = get directory (Part id c) ≡ Some (bytes_of files c)

    there_held : (c : SegmentComponent) → get directory (Part id c) ≡ Some (bytes_of held.files c)
    there_held Terms = held.there.0
    there_held Store = held.there.1.0
    there_held Postings = held.there.1.1.0
    there_held Positions = held.there.1.1.1.0
    there_held FastFields = held.there.1.1.1.1.0
    there_held FieldNorms = held.there.1.1.1.1.1.0

    -- what is held goes on after what was read
    same_files : (cs : List SegmentComponent) → AllByRecursion IsThere cs → AllByRecursion (λ c. bytes_of held.files c ≡ bytes_of files c) cs
    same_files [] there = tt
    same_files (c ∷ cs) there = (same_Some (bytes_of held.files c) (bytes_of files c) (sym (there_held c) ∙ there.0), same_files cs there.1)

    no_damage : (c : SegmentComponent) → AllByRecursion IsThere (up_to c) → (check : Check) → IsChecked schema documents files c check
        → IfSome (refusal_of id c check) IsNoDamage
    no_damage c there sound is = tt
    no_damage c there damaged is = absurd (is held.files contents (same_files (up_to c) there) held.spelled number)
    no_damage c there unfinished is = tt

    some : (c : SegmentComponent) → IsSome (get directory (Part id c))
    some c = is_there (get directory (Part id c)) (bytes_of held.files c) (there_held c)

    -- files that hold contents of this many documents are not damaged
    pub open_whole : AreChecked schema documents files checks → FindWhole directory (open_steps id files checks)
    open_whole are = (
      some Terms,
      λ t. (
        no_damage Terms (t, tt) (checks Terms) are.0,
        λ _. (
          some Store,
          λ s. (
            no_damage Store (t, (s, tt)) (checks Store) are.1.0,
            λ _. (
              some Postings,
              λ p. (
                no_damage Postings (t, (s, (p, tt))) (checks Postings) are.1.1.0,
                λ _. (
                  some Positions,
                  λ q. (
                    no_damage Positions (t, (s, (p, (q, tt)))) (checks Positions) are.1.1.1.0,
                    λ _. (
                      some FastFields,
                      λ f. (
                        no_damage FastFields (t, (s, (p, (q, (f, tt))))) (checks FastFields) are.1.1.1.1.0,
                        λ _. (
                          some FieldNorms,
                          λ n. (
                            no_damage FieldNorms (t, (s, (p, (q, (f, (n, tt)))))) (checks FieldNorms) are.1.1.1.1.1.0,
                            λ _. tt,
                          ),
                        ),
                      ),
                    ),
                  ),
                ),
              ),
            ),
          ),
        ),
      ),
    )
