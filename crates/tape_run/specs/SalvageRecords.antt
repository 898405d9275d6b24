-- The complete records in blocks, some of which are missing.
use Rattle.std.specs.Prelude.{◌≡◌, ℕ, ◌+◌, ◌-◌, ◌*◌, ◌/◌, ◌==◌, ◌&&◌, min, max, nat_le, Bool, true}
use Rattle.std.specs.Prelude.{false, if◌then◌else◌, List, [], length, take}
use Rattle.std.specs.Prelude.{◌∷◌, ◌++◌, Option, Some, None, Result, Ok, Err}
use Rattle.std.specs.{List.suffix_len, Io.KnownBytes.Appends}
use Rattle.tape_label.specs.declared.values.Format.{Format}
use Rattle.tape_label.specs.declared.values.Format.TheVariants.{Fixed}
use Rattle.tape_blocks.specs.{Content.content_in, Judged.in_order}
use Rattle.tape_blocks.specs.{declared.parts.Form.Form, declared.parts.Span.TheVariants.Whole}
use Rattle.tape_blocks.specs.{declared.check.BlockFault.BlockFault, Block.Portion, Judged.judged}
use Rattle.tape_blocks.specs.Spans.{continues, leaves, join}
use Rattle.tape_set.specs.Lawful.{FileForm}
use Rattle.tape_core.specs.Parts.{goes_on_at, parts_in}
use Rattle.tape_run.specs.{RecordText.output_of, declared.salvage.mender.Mender.Mender}

-- The parts of the complete records, those of an unfinished record after them, and whether
-- something is missing and no record has begun since.
pub record Piece : Type 0 where
  pub done : List Portion
  pub front : List Portion
  pub begun : Bool
  pub torn : Bool
  pub records : ℕ

abbrev pub nothing : Piece
nothing = record { done = []; front = []; begun = false; torn = false; records = 0 }

-- one more part, after which its record is unfinished
abbrev pub with_open : Piece → Portion → Piece
with_open p x = record {
  done = p.done;
  front = p.front ++ x ∷ [];
  begun = true;
  torn = false;
  records = p.records;
}

-- one more part, which ends its record; the count never exceeds the greatest number of 64 bits
abbrev pub with_end : Piece → Portion → Piece
with_end p x = record {
  done = (p.done ++ p.front) ++ x ∷ [];
  front = [];
  begun = false;
  torn = false;
  records = min (p.records + 1) 18446744073709551615;
}

-- one more part; if its record began in a missing block, the part is left out
abbrev pub with_part : Piece → Portion → Piece
with_part p x =
    if p.torn && continues x.span then p
    else (if leaves x.span then with_open p x else with_end p x)

abbrev pub with_parts : Piece → List Portion → Piece
with_parts p [] = p
with_parts p (x ∷ xs) = with_parts (with_part p x) xs

-- a block is missing: the unfinished record is dropped
abbrev pub torn : Piece → Piece
torn p = record { done = p.done; front = []; begun = false; torn = true; records = p.records }

-- whether a record is unfinished before the block; if something is missing before it, the block
-- itself says so
abbrev pub begun_at : FileForm → Piece → List ℕ → Bool
begun_at form p block = if p.torn then goes_on_at form.format form.offset block else p.begun

-- the result of checking the block there
abbrev pub judged_at : FileForm → Piece → List ℕ → Result Bool BlockFault
judged_at form p block = judged form.format form.rec_len form.offset (begun_at form p block) block

-- the block without padding that the standard does not allow
abbrev pub content_for : FileForm → List ℕ → List ℕ
content_for form block = content_in form.format form.rec_len form.offset block

-- the number of NULs, or of spaces, at the end of a block
abbrev pub padding_len : List ℕ → ℕ
padding_len block = max (suffix_len (λ b. b == 0) block) (suffix_len (λ b. b == 32) block)

-- the place where whole records of this length end of which one contains a byte before the place
-- `start`, if they end at the place `end` with those that do not
abbrev pub records_end : ℕ → ℕ → ℕ → ℕ
records_end rec_len start end =
    if nat_le start end then end - (end - start) / rec_len * rec_len else end

-- The place where the records end that are taken from a block with a fault at this place: there.
-- But if in format F all bytes from the fault on are NULs, or all are spaces, the last records of
-- that byte alone may be padding, and are not taken.
abbrev pub taken_end : Format → ℕ → ℕ → List ℕ → ℕ → ℕ
taken_end Fixed rec_len offset block place =
    records_end rec_len (max offset (length block - padding_len block)) place
taken_end _ rec_len offset block place = place

-- the fault, with the place where the records taken from its block end
abbrev pub fault_in : FileForm → List ℕ → BlockFault → BlockFault
fault_in form block fault = record {
  place = taken_end form.format form.rec_len form.offset block fault.place;
  cause = fault.cause;
}

-- the bytes in which the records before a fault at this place are looked for: in format F those
-- before it, otherwise all, since the units of format V depend on the block's length
abbrev pub front_to : Format → List ℕ → ℕ → List ℕ
front_to Fixed block place = take place block
front_to _ block place = block

-- the parts before a fault
abbrev pub parts_before : FileForm → Bool → List ℕ → BlockFault → List Portion
parts_before form begun block fault =
    in_order begun (parts_in form (front_to form.format block fault.place))

-- the records after the parts of a block with this result, before something is missing
abbrev pub taken_by : FileForm → Piece → List ℕ → Result Bool BlockFault → Piece
taken_by form p block (Ok end) = with_parts p (parts_in form block)
taken_by form p block (Err fault) =
    with_parts p (parts_before form (begun_at form p block) block (fault_in form block fault))

-- the records after a block with this result: from a block with a fault those before it are taken,
-- and the rest of it is missing
abbrev pub mended_by : FileForm → Piece → List ℕ → Result Bool BlockFault → Piece
mended_by form p block (Ok end) = taken_by form p block (Ok end)
mended_by form p block (Err fault) = torn (taken_by form p block (Err fault))

-- a block that counts as one record, whatever it contains
abbrev pub as_it_is : List ℕ → Portion
as_it_is block = record { span = Whole; bytes = block }

-- the records after the content of a block in this form
abbrev pub mended_in : FileForm → Piece → List ℕ → Piece
mended_in form p content = mended_by form p content (judged_at form p content)

-- the records after a block; without a form each block is one record
abbrev pub mended : Option FileForm → Piece → List ℕ → Piece
mended None p block = with_part p (as_it_is block)
mended (Some form) p block = mended_in form p (content_for form block)

-- the records after the parts that are taken from a block, before something is missing
abbrev pub taken_in : FileForm → Piece → List ℕ → Piece
taken_in form p content = taken_by form p content (judged_at form p content)

abbrev pub taken : Option FileForm → Piece → List ℕ → Piece
taken None p block = with_part p (as_it_is block)
taken (Some form) p block = taken_in form p (content_for form block)

-- the reason why not all of the block is records in this form, and the place where those taken end
abbrev pub fault_by : FileForm → List ℕ → Result Bool BlockFault → Option BlockFault
fault_by form block (Ok end) = None
fault_by form block (Err fault) = Some (fault_in form block fault)

abbrev pub fault_at : FileForm → Piece → List ℕ → Option BlockFault
fault_at form p content = fault_by form content (judged_at form p content)

abbrev pub found_fault : Option FileForm → Piece → List ℕ → Option BlockFault
found_fault None p block = None
found_fault (Some form) p block = fault_at form p (content_for form block)

-- something is missing before the block, and the block continues a record whose beginning is
-- missing
abbrev pub is_cut : Option FileForm → Piece → List ℕ → Bool
is_cut None p b = false
is_cut (Some form) p b = p.torn && goes_on_at form.format form.offset b

-- the bytes of a record, if it is unfinished
abbrev pub begun_bytes : Option (List ℕ) → List ℕ
begun_bytes None = []
begun_bytes (Some front) = front

-- the contents of the writer at the start, if known, and how records are written
pub record Start : Type 0 where
  pub had : Option (List ℕ)
  pub form : Form

-- The complete records were appended to the contents of the writer as `extract` writes them, the
-- unfinished one is buffered, and the flags and the count are right.
pub record IsPiece (start : Start) (now : Option (List ℕ)) (form : Form) (unfinished : List ℕ)
    (records : ℕ) (begun torn : Bool) (p : Piece) : Type 0 where
  pub forms : form ≡ start.form
  pub written : Appends start.had now (output_of start.form p.done)
  pub whole : (join p.done).rest ≡ None
  pub buffered : unfinished ≡ begun_bytes (join p.front).rest
  pub no_record : (join p.front).records ≡ []
  pub counts : records ≡ p.records
  pub begins : begun ≡ p.begun
  pub tears : torn ≡ p.torn
  pub none : p.begun ≡ false → p.front ≡ []

-- the records that a mender has written and buffered
abbrev pub HasPiece : {W : Type 0} → (W → Option (List ℕ)) → Start → Mender W → Piece → Type 0
HasPiece contents start m p =
    IsPiece start (contents m.out) m.form m.unfinished.items m.records m.begun m.torn p
