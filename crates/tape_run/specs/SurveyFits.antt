-- Whether the blocks of sections are in the format that their second labels state.
use Rattle.std.specs.Prelude.{ℕ, ◌==◌, ◌-◌, ◌&&◌, nat_le, if◌then◌else◌, Bool, true, false, List}
use Rattle.std.specs.Prelude.{Option, Some, None, option_map, Result, Ok, Err}
use Rattle.std.specs.Option.{option_or}
use Rattle.tape_image.specs.Tape.{TapeItem, block, mark, bad}
use Rattle.tape_label.specs.{declared.values.Head2.Head2, declared.label.LabelFault.LabelFault}
use Rattle.tape_label.specs.declared.values.Kind.{Kind}
use Rattle.tape_label.specs.declared.values.Kind.TheVariants.{Hdr2}
use Rattle.tape_label.specs.{Kinds.kind_at, Reading.wide_head2_at, Formats.least_record}
use Rattle.tape_label.specs.WideHead2.{absent_head2, is_further_header}
use Rattle.tape_blocks.specs.{Content.content_in, Judged.judged}
use Rattle.tape_blocks.specs.declared.check.BlockFault.{BlockFault}
use Rattle.tape_run.specs.declared.{met.Met.Met, passing.Phase.Phase, section.Entry.Entry}
use Rattle.tape_run.specs.declared.passing.Phase.TheVariants.{Second, Data}
use Rattle.tape_run.specs.declared.survey.{fits.Fit.Fit, fits.BlockEnd.BlockEnd, fits.Misfit.Misfit}
use Rattle.tape_run.specs.SurveyPadding.{padding_after}

-- no section is being read
abbrev pub no_fit : Fit
no_fit = record { form = None; begun = None; misfit = None; padding = None }

-- how a block ends of which padding was left out or not, unless there is a fault
abbrev pub unless_fault : Bool → Result Bool BlockFault → Option BlockEnd
unless_fault padded (Ok end) = Some (record { begun = Some end; padded = padded })
unless_fault padded (Err f) = None

-- how these bytes of a block end, whether they are all of it or not; `None` if they are not in this
-- format
abbrev pub end_in : Head2 → Bool → Bool → List ℕ → Option BlockEnd
end_in form begun padded b =
    unless_fault padded (judged form.format form.rec_len form.offset begun b)

-- how the block ends, as it is or without padding of NULs or spaces; `None` if the block is not in
-- this format, or in format F has no record length
abbrev pub end_of : Head2 → Bool → List ℕ → Option BlockEnd
end_of form begun b =
    if nat_le (least_record form.format) form.rec_len
    then option_or (end_in form begun false b)
    (end_in form begun true (content_in form.format form.rec_len form.offset b))
    else None

-- how a block ends: what follows if no record is unfinished before it, and if one is
abbrev pub either_end : Option BlockEnd → Option BlockEnd → Option BlockEnd
either_end None None = None
either_end (Some a) (Some b) = Some (record { begun = None; padded = a.padded && b.padded })
either_end (Some end) None = Some end
either_end None (Some end) = Some end

-- the same for a block before which a record is unfinished or not, if that is known
abbrev pub end_at : Head2 → Option Bool → List ℕ → Option BlockEnd
end_at form (Some begun) b = end_of form begun b
end_at form None b = either_end (end_of form false b) (end_of form true b)

-- that of format U, if the section has no second label
abbrev pub absent_if : Bool → Option Head2
absent_if is = if is then Some absent_head2 else None

-- the second label in a block of this kind, if it can be read; a further header label shows that
-- the section has none
abbrev pub form_by : Option Kind → Result Head2 LabelFault → Bool → Option Head2
form_by (Some Hdr2) (Ok form) is = Some form
form_by _ _ is = absent_if is

-- the second label of a section whose first label is followed by this item
abbrev pub form_at : TapeItem → Option Head2
form_at mark = Some absent_head2
form_at (block b) = form_by (kind_at b) (wide_head2_at b) (is_further_header b)
form_at bad = None

-- what is known of a section before its blocks; the first section begins with a record
abbrev pub fit_from : Met → TapeItem → Fit
fit_from met x = record {
  form = form_at x;
  begun = if met.key.sect == 1 then Some false else None;
  misfit = None;
  padding = None;
}

-- after this block with this number, which ends so
abbrev pub with_end : Fit → ℕ → Head2 → List ℕ → Option BlockEnd → Fit
with_end fit number form b (Some end) = record fit {
  begun = end.begun;
  padding = padding_after fit.padding end.padded form b;
}
with_end fit number form b None = record fit { misfit = Some number }

-- the same with the label and the misfit so far
abbrev pub with_block_by : Fit → ℕ → List ℕ → Option Head2 → Option ℕ → Fit
with_block_by fit number b (Some form) None =
    with_end fit number form b (end_at form fit.begun b)
with_block_by fit number b _ _ = fit

-- what is known after one more block
abbrev pub with_block : Fit → ℕ → List ℕ → Fit
with_block fit number b = with_block_by fit number b fit.form fit.misfit

-- what is known of the section that is being read, after one more item
abbrev pub fit_in : Fit → Phase → TapeItem → Fit
fit_in fit (Second met) x = fit_from met x
fit_in fit (Data met) (block b) = with_block fit met.blocks b
fit_in fit p x = fit

-- the last block, if the file ends and a record is unfinished
abbrev pub open_end : Bool → ℕ → Option Bool → Option ℕ
open_end true blocks (Some true) = Some (blocks - 1)
open_end eof blocks begun = None

-- the first block of a complete section that is not in the format
abbrev pub misfit_of : Fit → Entry → Option ℕ
misfit_of fit entry = option_or fit.misfit (open_end entry.eof entry.blocks fit.begun)

-- the same block, with the number of its section
abbrev pub misfit_in : ℕ → Option ℕ → Option Misfit
misfit_in sect found = option_map (λ b. record { sect = sect; block = b }) found
