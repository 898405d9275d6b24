-- Examples for the definitions of `salvage`. They are the contract of the call `laws::cases`.
use Rattle.std.specs.Prelude.{◌≡◌, ℕ, ◌%◌, Bool, true, false, List, [], ◌∷◌, codes, Option, Some}
use Rattle.std.specs.Prelude.{None, get_or, slice_get}
use Rattle.tape_image.specs.Tape.{TapeItem, block, bad, mark}
use Rattle.tape_image.specs.Begins.{Stop, Begins}
use Rattle.tape_blocks.specs.Tight.{Filled}
use Rattle.tape_set.specs.Layout.{FileSet, Placed, Entry, nth, entries, is_data}
use Rattle.tape_set.specs.Reading.{Reading}
use Rattle.tape_run.specs.SalvageSets.{copies_on, HasVolume, IsReadAgain, HasBlocks, IsOnNone}
use Rattle.tape_run.specs.{declared.salvage.copies.SectionCopy.SectionCopy, SalvageWhole.Blocks}
use Rattle.tape_run.specs.SalvageWalk.{followed_by, with_data}
use Rattle.tape_run.specs.{declared.salvage.walk.Closing.Closing, SurveyDigest.digest_with}
use Rattle.tape_run.specs.{declared.salvage.walk.OpenSection.OpenSection, SalvageSections.filled_of}
use Rattle.tape_run.specs.declared.salvage.walk.Expected.TheVariants.{Data}
use Rattle.tape_run.specs.{SalvageBlocks.none_salvaged, SalvageConflicts.AreConflicts}
use Rattle.tape_run.specs.SalvageClosed.{IsNoMark, IsClosedIn, IsThere, digest_items}
use Rattle.tape_run.specs.SalvageDamaged.{AnySection, any_volume, IsPlain, AreApart, IsExact}
use Rattle.tape_run.specs.SalvageDamagedSets.{IsAnyImage, IsExactCopy}
use Rattle.tape_run.specs.SalvageGaps.{Gap, AreGaps, data_in, StartsReadable}
use Rattle.tape_run.specs.{SalvageReadings.IsReadVolume, Reeling.Mounting, Reeling.Took}
use Rattle.tape_run.specs.SalvageSets.{AreHad, joined, IsComplete, rank_of, items_read}
use Rattle.tape_run.specs.SalvageUnnamed.{IsNoFirst, IsUnnamedIn}
use Rattle.tape_run.specs.SalvagedSets.{AreItemsOf, IsImage, AreImages, IsReadToEnd}

-- ---- copies

-- a section with a number, of a number of blocks, which have this digest
abbrev pub section_with : ℕ → ℕ → ℕ → OpenSection
section_with sect blocks digest = record {
  key = record { set_id = []; file = 1; sect = sect };
  file_id = [];
  created = [];
  generation = [];
  form = None;
  has_no_second = false;
  blocks = blocks;
  certain = None;
  trailer = None;
  unreadable = 0;
  after = None;
  digest = digest;
}

-- a complete copy of it on an image
abbrev pub copy_on : ℕ → ℕ → ℕ → ℕ → SectionCopy
copy_on image sect blocks digest = record {
  image = image;
  section = section_with sect blocks digest;
  closed = Some (record { eof = true; count = blocks % 1000000; named = true });
  skip = None;
}

-- the same copy without its trailer label
abbrev pub unclosed : SectionCopy → SectionCopy
unclosed c = record { image = c.image; section = c.section; closed = None; skip = c.skip }

-- the same copy with labels that name another file
abbrev pub of_other_file : List ℕ → SectionCopy → SectionCopy
of_other_file file_id c = record c { section = record c.section { file_id = file_id } }

-- Complete copies of one section that differ in their number of blocks or their digest conflict;
-- sections whose labels name different files are reported.
pub record CasesOfConflicts : Type 0 where
  -- each section is reported, and none after the last
  pub no_sections : (cs : List SectionCopy) (text : List ℕ) (any : Bool)
      → AreConflicts cs 0 text any → (text ≡ []) × (any ≡ false)
  pub one_section : (text : List ℕ) (any : Bool)
      → AreConflicts (copy_on 0 1 2 7 ∷ copy_on 1 1 2 8 ∷ []) 1 text any
      → (text ≡ codes "CONFLICT 1 1 2\n") × (any ≡ true)
  pub two_files : (text : List ℕ) (any : Bool) → AreConflicts
      (copy_on 0 1 2 7 ∷ of_other_file (codes "STOCK") (copy_on 1 2 2 8) ∷ []) 2 text any
      → (text ≡ codes "LABELS DIFFER 2 2 1\n") × (any ≡ true)
  pub one_file : (text : List ℕ) (any : Bool) → AreConflicts
      (copy_on 0 1 2 7 ∷ copy_on 1 2 2 8 ∷ []) 2 text any → (text ≡ []) × (any ≡ false)

-- ---- gaps

pub record CasesOfGaps : Type 0 where
  -- one gap for a run of unreadable blocks, with the number of records before it
  pub one_run : (b : List ℕ) (gap : Gap)
      → AreGaps None 0 none_salvaged (block b ∷ bad ∷ bad ∷ []) (gap ∷ [])
      → (gap.first ≡ 1) × (gap.last ≡ 2) × (gap.records ≡ 1)
  pub reported : AreGaps None 0 none_salvaged (bad ∷ []) [] → ⊥
  pub not_split : (x y : Gap) → AreGaps None 0 none_salvaged (bad ∷ bad ∷ []) (x ∷ y ∷ []) → ⊥
  pub no_gap : (b : List ℕ) (gap : Gap)
      → AreGaps None 0 none_salvaged (block b ∷ []) (gap ∷ []) → ⊥
  -- the first blocks of the section, and no more than asked for
  pub most : (a b : List ℕ) → data_in (record { set_id = []; file = 1; sect = 1 }) 1
      (Data (section_with 1 0 0)) (block a ∷ block b ∷ []) ≡ block a ∷ []
  pub other_section : (a : List ℕ) → data_in (record { set_id = []; file = 1; sect = 2 }) 1
      (Data (section_with 1 0 0)) (block a ∷ []) ≡ []
  pub to_the_mark : (a : List ℕ) → data_in (record { set_id = []; file = 1; sect = 1 }) 9
      (Data (section_with 1 0 0)) (bad ∷ mark ∷ block a ∷ []) ≡ bad ∷ []
  pub starts : StartsReadable (bad ∷ []) → ⊥

-- ---- sections that close, and ends of those that do not

-- the trailer label of section 1 of file 1, without a block count
abbrev pub uncounted : List ℕ
uncounted =
    codes "EOF1PAYROLL          ABC00100010001000100 00000 00000                           "

-- the trailer label of section 1 of file 2, with three blocks, and without a block count
abbrev pub of_file_2 : List ℕ
of_file_2 =
    codes "EOF1STOCK            ABC00100010002000100 00000 00000 000003                    "

abbrev pub uncounted_of_file_2 : List ℕ
uncounted_of_file_2 =
    codes "EOF1STOCK            ABC00100010002000100 00000 00000                           "

-- A first trailer label among the data ends those that are certain, unless it is another section's;
-- before another section's label, those that it does not count are certain.
pub record CasesOfEnds : Type 0 where
  pub own : (with_data uncounted (section_with 1 2 0)).trailer ≡ Some 2
  pub other : (with_data of_file_2 (section_with 1 2 0)).trailer ≡ None
  pub before : (followed_by of_file_2 (section_with 1 5 0)).certain ≡ Some 2
  pub too_few : (followed_by of_file_2 (section_with 1 2 0)).certain ≡ Some 0
  pub no_count : (followed_by uncounted_of_file_2 (section_with 1 5 0)).certain ≡ Some 0
  pub own_follows : (followed_by uncounted (section_with 1 5 0)).certain ≡ None

pub record CasesOfClosed : Type 0 where
  pub no_mark : IsNoMark mark → ⊥
  -- only blocks that were read count in a digest
  pub digest : (a b : List ℕ)
      → digest_items 0 (block a ∷ bad ∷ block b ∷ []) ≡ digest_with (digest_with 0 a) b
  pub no_items : (u : OpenSection) (k : Closing) → IsClosedIn [] u k → ⊥
  pub too_few : (a b : List ℕ) (u : OpenSection) (k : Closing)
      → IsClosedIn (block a ∷ mark ∷ block b ∷ []) u k → ⊥
  pub without_hdr1 : (u : OpenSection) (k : Closing) → IsUnnamedIn [] u k → ⊥
  pub not_first : IsNoFirst bad
  -- a section that does not close is not claimed to be complete
  pub unclosed : (n : ℕ) (u : OpenSection) → IsThere [] (n, (u, None))

-- ---- volumes of which any items may be unreadable

-- a section of one block, of which only its HDR1, its block and its trailer label were read
abbrev pub any_section : Placed → Filled → List ℕ → List ℕ → AnySection
any_section p f header trailer = record {
  placed = p;
  hdr1 = true;
  headers = (false, header) ∷ [];
  first_mark = false;
  blocks = (true, f) ∷ [];
  second_mark = false;
  trailer = true;
  trailers = (false, trailer) ∷ [];
  last_mark = false;
}

pub record CasesOfDamaged : Type 0 where
  pub items : (p : Placed) (f : Filled) (a b c : List ℕ)
      → any_volume ((true, a) ∷ (false, b) ∷ []) (any_section p f b c ∷ []) true
      ≡ block a ∷ bad ∷ block p.section.hdr1 ∷ bad ∷ bad ∷ block f.bytes ∷ bad
      ∷ block p.section.trailer ∷ bad ∷ bad ∷ mark ∷ []
  pub no_last_mark : any_volume [] [] false ≡ bad ∷ []
  -- a block of another length than a label cannot be mistaken for one
  pub plain : IsPlain (codes "ABC001") (65 ∷ [])
  pub apart : (p : Placed) (f : Filled) (a : List ℕ)
      → AreApart (any_section p f a a ∷ any_section p f a a ∷ []) → ⊥
  pub among : (set_id : List ℕ) (items : List TapeItem) (u : OpenSection) (k : Closing)
      → IsExact set_id [] items u k → ⊥
  pub unknown_bytes : (set : FileSet) → IsAnyImage set (Some None) → ⊥
  pub not_opened : (set : FileSet) → IsAnyImage set None
  pub one_of_set : (set : FileSet) (c : SectionCopy) (k : Closing) → set.files ≡ []
      → IsExactCopy set c k → ⊥

-- ---- files of a valid set

-- opening an image yields the same reader each time
abbrev pub gives_again : {R : Type 0} → Mounting (List (Option R)) R
gives_again images n image left = (image ≡ get_or images n None) × (left ≡ images)

pub record CasesOfSalvagedSets : Type 0 where
  pub no_volume : (set : FileSet) (k : ℕ) (xs : List TapeItem) → nth set.volumes k ≡ None
      → IsReadVolume set k xs → ⊥
  pub no_images : (k : ℕ) → HasVolume [] k → ⊥
  pub an_image : (r : Reading) → HasVolume (None ∷ Some r ∷ []) r.volume
  pub other_volume : (r : Reading) (k : ℕ) → (r.volume ≡ k → ⊥) → HasVolume (Some r ∷ []) k → ⊥
  pub no_copies : (set : FileSet) (file : ℕ) → copies_on set file 0 (None ∷ None ∷ []) ≡ []
  pub not_read : (set : FileSet) (rs : List (Option Reading)) (c : SectionCopy)
      → IsReadAgain set rs c None → ⊥
  -- without an image of its volume no block of a section is there
  pub none_there : (p : Placed) (f : Filled) → IsOnNone [] p ((true, f) ∷ []) → ⊥
  pub all_blocks : (p : Placed) (bs : Blocks) → IsOnNone [] p bs
      → filled_of bs ≡ p.section.blocks
  -- with an image its blocks are those that the image has
  pub not_lost : (set : FileSet) (r : Reading) (cs : List SectionCopy) (p : Placed) (bs : Blocks)
      → r.volume ≡ p.section.volume → AreHad set (Some r ∷ []) cs (p ∷ []) (bs ∷ [])
      → HasBlocks set r p bs
  -- all blocks, then more blocks
  pub complete_first : (a : Filled) → rank_of ((true, a) ∷ []) ≡ 8589934595
  pub fewer : (a b : Filled) → rank_of ((true, a) ∷ (false, b) ∷ []) ≡ 3
  pub each_section : (set : FileSet) (rs : List (Option Reading)) (cs : List SectionCopy)
      (p : Placed) → AreHad set rs cs (p ∷ []) [] → ⊥
  pub in_order : (a b c : Bool × Filled) → joined ((a ∷ b ∷ []) ∷ [] ∷ (c ∷ []) ∷ [])
      ≡ a ∷ b ∷ c ∷ []
  -- a section whose second reading stopped was not read to its end
  pub stopped : (c : SectionCopy) → IsReadToEnd (record { copy = Some c; items = None }) → ⊥
  pub no_section : IsReadToEnd (record { copy = None; items = None })
  -- all labels and marks of a complete reading were readable
  pub bad_label : (set : FileSet) (k : ℕ) (e : Entry) (es : List Entry) → is_data e ≡ false
      → entries set k ≡ e ∷ es → IsComplete set (record { volume = k; good = false ∷ [] }) → ⊥
  pub nothing_found : (set : FileSet) → AreItemsOf set 1 None []
  pub must_open : (set : FileSet) (r : Reading)
      → IsImage {R = Option (List ℕ)} set 1 (λ d. d) (Some r) None → ⊥
  pub read_image : (set : FileSet) (r : Reading) (bytes : List ℕ) (end : ℕ) (stop : Stop)
      → Begins 0 bytes (items_read set r) end stop
      → IsImage {R = Option (List ℕ)} set 1 (λ d. d) (Some r) (Some (Some bytes))
  -- images that can be opened again meet the condition on a source; one that is opened only once
  -- does not
  pub opened_again : (set : FileSet) (file : ℕ) (rs : List (Option Reading))
      (images : List (Option (Option (List ℕ))))
      → ((n : ℕ) (r : Option Reading) → slice_get rs n ≡ Some r
      → IsImage {R = Option (List ℕ)} set file (λ d. d) r (get_or images n None))
      → AreImages {R = Option (List ℕ)} set file gives_again (λ d. d) rs images
  pub opened_once : (set : FileSet) (r : Reading) (image : Option (Option (List ℕ)))
      → AreImages {R = Option (List ℕ)} set 1 Took (λ d. d) (Some r ∷ []) (image ∷ []) → ⊥

pub record CasesOfSalvage : Type 0 where
  pub conflicts : CasesOfConflicts
  pub gaps : CasesOfGaps
  pub ends : CasesOfEnds
  pub closed : CasesOfClosed
  pub damaged : CasesOfDamaged
  pub sets : CasesOfSalvagedSets
