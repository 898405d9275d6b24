-- Files that are not close to SIMH's format, by bytes that each of them has at the same place.
use Rattle.std.specs.Prelude.{ℕ, ◌&&◌, ◌||◌, Bool, if◌then◌else◌, List, [], ◌∷◌, ◌++◌, codes, drop}
use Rattle.std.specs.Prelude.{nat_eq, Option, Some, None, not}
use Rattle.std.specs.List.{starts_with}
use Rattle.tape_run.specs.declared.container.Container.{Container}
use Rattle.tape_run.specs.declared.container.Container.TheVariants as kinds

-- the bytes `mark` are at offset `place`
abbrev pub has : ℕ → List ℕ → List ℕ → Bool
has place mark xs = starts_with nat_eq (drop place xs) mark

-- compressed files and archives
abbrev pub packed : List ℕ → Option Container
packed xs =
    if has 0 (0x1F ∷ 0x8B ∷ 8 ∷ []) xs then Some kinds.Gzip
    else if has 0 (0x1F ∷ 0x9D ∷ 0x90 ∷ []) xs then Some kinds.Compress
    else if has 0 (codes "BZh") xs && has 4 (codes "1AY&SY") xs then Some kinds.Bzip2
    else if has 0 (0xFD ∷ codes "7zXZ" ++ 0 ∷ []) xs then Some kinds.Xz
    else if has 0 (0x28 ∷ 0xB5 ∷ 0x2F ∷ 0xFD ∷ []) xs then Some kinds.Zstd
    else if has 0 (0x50 ∷ 0x4B ∷ 3 ∷ 4 ∷ []) xs then Some kinds.Zip
    else if has 0 (0x37 ∷ 0x7A ∷ 0xBC ∷ 0xAF ∷ 0x27 ∷ 0x1C ∷ []) xs then Some kinds.SevenZip
    else if has 257 (codes "ustar") xs then Some kinds.Tar
    else None

-- cassettes of home computers, and discs: on a ZX Spectrum's a header of 19 bytes comes first, of a
-- kind from 0 to 3
abbrev pub other_medium : List ℕ → Option Container
other_medium xs =
    if has 0 (codes "C64-TAPE-RAW") xs then Some kinds.Commodore
    else if has 0 (codes "C16-TAPE-RAW") xs then Some kinds.Commodore
    else if has 0 (19 ∷ 0 ∷ 0 ∷ 0 ∷ []) xs then Some kinds.Spectrum
    else if has 0 (19 ∷ 0 ∷ 0 ∷ 1 ∷ []) xs then Some kinds.Spectrum
    else if has 0 (19 ∷ 0 ∷ 0 ∷ 2 ∷ []) xs then Some kinds.Spectrum
    else if has 0 (19 ∷ 0 ∷ 0 ∷ 3 ∷ []) xs then Some kinds.Spectrum
    else if has 32769 (codes "CD001") xs then Some kinds.Iso
    else None

-- a volume label is at offset `place`, in ASCII or EBCDIC
abbrev pub has_volume : ℕ → List ℕ → Bool
has_volume place xs =
    has place (codes "VOL1") xs || has place (0xE5 ∷ 0xD6 ∷ 0xD3 ∷ 0xF1 ∷ []) xs

-- a first header label is there
abbrev pub has_header : ℕ → List ℕ → Bool
has_header place xs =
    has place (codes "HDR1") xs || has place (0xC8 ∷ 0xC4 ∷ 0xD9 ∷ 0xF1 ∷ []) xs

-- Tapes that begin with a volume label, by the bytes before it and after it: none; or its length in
-- two bytes, before it alone, or after it too.
abbrev pub labelled : List ℕ → Option Container
labelled xs =
    if has_volume 0 xs && has_header 80 xs then Some kinds.Raw
    else if not (has 0 (80 ∷ 0 ∷ []) xs && has_volume 2 xs) then None
    else if has 82 (80 ∷ 0 ∷ 80 ∷ 0 ∷ []) xs then Some kinds.TwoByteWords
    else if has 82 (80 ∷ 0 ∷ []) xs then Some kinds.Tpc
    else None
