-- A section that was being recovered when an error came, and the sections before it.
use Rattle.std.proofs.Common.{◌≡◌, inl, inr, ℕ, ◌+◌, ◌<◌, true, false, List, [], ◌++◌, length}
use Rattle.std.proofs.Common.{Option, Some, None, refl, sym, ◌∙◌, arith}
use Rattle.std.specs.{Io.KnownBytes.Appends}
use Rattle.tape_image.specs.{Tape.TapeItem, Written.AppendsFront}
use Rattle.tape_image.proofs.{Walks.known_start, Pieces.front_more, Pieces.front_behind}
use Rattle.tape_set.specs.Lawful.{FileForm}
use Rattle.tape_run.specs.SalvageTaking.{MountsTaken, StopsCopy, StopsSection, StopsTaking}
use Rattle.tape_run.specs.SalvageTaking.{form_for, has_form, copy_text, taken_text, after_all}
use Rattle.tape_run.specs.SalvageTaking.{all_text, file_text, next_section, image_number}
use Rattle.tape_run.specs.{SalvageTaking.items_text, SalvageCopies.believed, SalvageCopies.start_of}
use Rattle.tape_run.specs.declared.salvage.Content.{Content}
use Rattle.tape_run.specs.{Reeling.Mounting, SalvageBlocks.Salvaged, SalvageBlocks.ReportsFront}
use Rattle.tape_run.specs.{declared.salvage.ending.SectionEnd.SectionEnd, SalvageLine.section_line}
use Rattle.tape_run.specs.declared.salvage.ending.SectionEnd.TheVariants.{Continues}
use Rattle.tape_run.specs.declared.salvage.copies.SectionCopy.{SectionCopy}
use Rattle.tape_run.specs.declared.salvage.recovery.Recovery.{Recovery}
use Rattle.tape_run.specs.declared.salvage.walk.Expected.{Expected}
use Rattle.tape_run.specs.SalvageChoice.{firsts, IsBest, last_section, form_of_file}
use Rattle.tape_run.specs.SalvageImage.{RecoversSection, BeginsWith, salvaged_from, text_from}
use Rattle.tape_run.specs.SalvageEnds.{no_section_text, no_form_text, read_again_text}
use Rattle.tape_run.proofs.{Fitting.no_text, SalvageTaking.TakenSoFar}

pub begins_empty : (before : Option (List ℕ)) → BeginsWith before []
begins_empty None = tt
begins_empty (Some xs) = (0, xs, omega arith, known_start (Some xs) (Some xs) 0 refl)

-- ---- one copy

-- the section's line was not written completely
pub line_begun : {W : Type 0} (contents : W → Option (List ℕ)) (before : Option (List ℕ))
    (c : SectionCopy) (sect : ℕ) (form : Option FileForm) (old : Recovery W)
    (said says : Option (List ℕ))
    → AppendsFront said says (section_line sect (image_number c.image) c.section.blocks)
    → (lines : Salvaged → List ℕ) × StopsCopy before sect c form lines
    × ReportsFront contents old said says lines
line_begun contents before c sect form old said says part = (
  items_text sect c form [],
  ([], inl (begins_empty before, refl)),
  λ start g h. front_more said says _ [] part,
)

-- it was, but the data that were read again were not all reported
pub items_begun : {W : Type 0} (contents : W → Option (List ℕ)) (before : Option (List ℕ))
    (c : SectionCopy) (sect : ℕ) (form : Option FileForm) (origin : Expected) (most : ℕ)
    (old : Recovery W) (said one says : Option (List ℕ))
    → origin ≡ start_of c → most ≡ believed c
    → Appends said one (section_line sect (image_number c.image) c.section.blocks)
    → (items : List TapeItem) × BeginsWith before items × ReportsFront contents old one says
    (λ g. text_from c.section.key most form origin g items)
    → (lines : Salvaged → List ℕ) × StopsCopy before sect c form lines
    × ReportsFront contents old said says lines
items_begun contents before c sect form origin most old said one says first count line
    (items, begins, part) =
    let r = rw (first, count) at part in (
      items_text sect c form items,
      (items, inl (begins, refl)),
      λ start g h. front_behind said one says _ _ line (r start g h),
    )

-- they were, but the end of the section was not
pub end_begun : {W : Type 0} (contents : W → Option (List ℕ)) (before after : Option (List ℕ))
    (c : SectionCopy) (sect : ℕ) (form : Option FileForm) (origin : Expected) (most : ℕ)
    (old mid : Recovery W) (said one two says : Option (List ℕ)) (read : ℕ)
    → origin ≡ start_of c → most ≡ believed c
    → Appends said one (section_line sect (image_number c.image) c.section.blocks)
    → RecoversSection contents before after origin c.section.key most form old mid one two read
    → ReportsFront contents mid two says (read_again_text read c)
    → (lines : Salvaged → List ℕ) × StopsCopy before sect c form lines
    × ReportsFront contents old said says lines
end_begun contents before after c sect form origin most old mid said one two says read first count
    line found part =
    let key = c.section.key in
    let r = rw (first, count) at found in (
      copy_text sect c form (Some r.items),
      (r.items, inr (after, r.is_ended, r.reads, refl)),
      λ start g h.
          let a = r.recovers start g h in
          front_behind said one says _ _ line (front_behind one two says _ _ a.1
          ((rw r.count at part) start
          (salvaged_from key (believed c) form (start_of c) g r.items) a.0)),
    )

module _ {W L R : Type 0} (contents : W → Option (List ℕ)) (gives : Mounting L R)
    (remaining : R → Option (List ℕ)) (copies : List SectionCopy) (content : Content)
    (known : Option FileForm) where
  -- ---- one section

  -- the section with this number, and a prefix of its lines
  abbrev pub Begun : ℕ → L → L → Recovery W → Option (List ℕ) → Option (List ℕ) → Type 0
  Begun sect shelf left old said says = (lines : Salvaged → List ℕ)
      × StopsSection gives remaining copies content known sect shelf left lines
      × ReportsFront contents old said says lines

  pub none_begun : (sect : ℕ) (shelf left : L) (old : Recovery W) (said : Option (List ℕ))
      → left ≡ shelf → Begun sect shelf left old said said
  none_begun sect shelf left old said same =
      ((λ (g : Salvaged). []), inl (same, refl), λ start g h. no_text said [])

  begun : (sect : ℕ) (copy : Option SectionCopy) (shelf left : L) (old : Recovery W)
      (said says : Option (List ℕ)) → IsBest (firsts sect None copies) copy
      → MountsTaken gives remaining content known copy shelf left None
      → ReportsFront contents old said says (taken_text content known sect copy None)
      → Begun sect shelf left old said says
  begun sect copy shelf left old said says best mounts part =
      (taken_text content known sect copy None, inr (copy, best, inl (mounts, refl)), part)

  pub without_copy : (sect : ℕ) (shelf left : L) (old : Recovery W) (said says : Option (List ℕ))
      → IsBest (firsts sect None copies) None → left ≡ shelf
      → ReportsFront contents old said says (no_section_text sect)
      → Begun sect shelf left old said says
  without_copy sect shelf left old said says best same part =
      begun sect None shelf left old said says best (same, refl) part

  abbrev form_of : SectionCopy → Option FileForm
  form_of c = form_for content c.section.form known

  pub without_form : (sect : ℕ) (c : SectionCopy) (shelf left : L) (old : Recovery W)
      (said says : Option (List ℕ)) → IsBest (firsts sect None copies) (Some c)
      → has_form content (form_of c) ≡ false → left ≡ shelf
      → ReportsFront contents old said says (no_form_text sect)
      → Begun sect shelf left old said says
  without_form sect c shelf left old said says best off same part =
      begun sect (Some c) shelf left old said says best
      (rw off (same, refl)) (rw off part)

  pub without_image : (sect : ℕ) (c : SectionCopy) (shelf left : L) (old : Recovery W)
      (said says : Option (List ℕ)) → IsBest (firsts sect None copies) (Some c)
      → has_form content (form_of c) ≡ true → gives shelf c.image None left
      → ReportsFront contents old said says (no_section_text sect)
      → Begun sect shelf left old said says
  without_image sect c shelf left old said says best on gave part =
      begun sect (Some c) shelf left old said says best
      (rw on (None, gave, refl)) (rw on part)

  pub copy_begun : (sect : ℕ) (c : SectionCopy) (device : R) (shelf left : L) (old : Recovery W)
      (said says : Option (List ℕ)) → IsBest (firsts sect None copies) (Some c)
      → has_form content (form_of c) ≡ true → gives shelf c.image (Some device) left
      → (lines : Salvaged → List ℕ) × StopsCopy (remaining device) sect c (form_of c) lines
      × ReportsFront contents old said says lines
      → Begun sect shelf left old said says
  copy_begun sect c device shelf left old said says best on gave (lines, stops, part) =
      (lines, inr (Some c, best, inr (c, refl, on, device, gave, stops)), part)

  -- the image was opened, but there was no memory to read it
  pub none_read : (sect : ℕ) (c : SectionCopy) (device : R) (shelf left : L) (old : Recovery W)
      (said : Option (List ℕ)) → IsBest (firsts sect None copies) (Some c)
      → has_form content (form_of c) ≡ true → gives shelf c.image (Some device) left
      → Begun sect shelf left old said said
  none_read sect c device shelf left old said best on gave =
      copy_begun sect c device shelf left old said said best on gave (
        items_text sect c (form_of c) [],
        ([], inl (begins_empty (remaining device), refl)),
        λ start g h. no_text said _,
      )

  -- ---- all sections

  abbrev pub Stopped : L → L → Recovery W → Option (List ℕ) → Option (List ℕ) → Type 0
  Stopped shelf left old said says = (lines : Salvaged → List ℕ)
      × StopsTaking gives remaining copies content shelf left lines
      × ReportsFront contents old said says lines

  -- in the section with the next number
  pub stops_in : (n : ℕ) (end : SectionEnd) (shelf now left : L) (old mid : Recovery W)
      (said w says : Option (List ℕ)) → n < last_section copies → known ≡ form_of_file copies
      → TakenSoFar contents gives remaining copies content known n end shelf now old mid said w
      → Begun (n + 1) now left mid w says → Stopped shelf left old said says
  stops_in n end shelf now left old mid said w says within form so_far (part, begins, fronts) =
      let s = rw form at so_far in
      let many : n + 1 ≡ length s.taken + 1 = omega (arith, s.counted) in
      let less : length s.taken < last_section copies = omega (arith, s.counted, within) in
      let known_now = form_of_file copies in (
        (λ (g : Salvaged). all_text content known_now 1 s.taken g
            ++ part (after_all content known_now s.taken g)),
        record {
          taken = s.taken;
          mid = now;
          took = s.took;
          are = inr (inl (s.on, less, part, rw (form, many) at begins, refl));
        },
        λ start g h.
            let r = s.recovers start g h in
            front_behind said w says _ _ r.1
            (fronts start (after_all content known_now s.taken g) r.0),
      )

  -- after all sections that were found
  pub stops_last : (n : ℕ) (end : SectionEnd) (shelf now : L) (old mid : Recovery W)
      (said w says : Option (List ℕ)) → n ≡ last_section copies → known ≡ form_of_file copies
      → TakenSoFar contents gives remaining copies content known n end shelf now old mid said w
      → end ≡ Continues → ReportsFront contents mid w says (no_section_text (next_section n))
      → Stopped shelf now old said says
  stops_last n end shelf now old mid said w says all form so_far on missed =
      let s = rw form at so_far in (
        file_text content copies s.taken,
        record {
          taken = s.taken;
          mid = now;
          took = s.took;
          are = inr (inr (inl (s.on, s.counted ∙ all), refl, refl));
        },
        rw (sym s.last ∙ on, s.counted) (λ start g h.
            let r = s.recovers start g h in
            front_behind said w says _ _ r.1
            (missed start (after_all content (form_of_file copies) s.taken g) r.0)),
      )
