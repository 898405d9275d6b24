-- The kind of a file in words, for people. The text may change.
use Rattle.std.specs.Prelude.{ℕ, List, codes}
use Rattle.tape_run.specs.declared.container.Container.{Container}
use Rattle.tape_run.specs.declared.container.Container.TheVariants as kinds

-- a compressed file or an archive
abbrev pub packed_text : Container → List ℕ
packed_text kinds.Gzip = codes "compressed with gzip: 'gunzip -k' decompresses it"
packed_text kinds.Compress = codes "compressed with compress: 'gunzip -k' decompresses it"
packed_text kinds.Bzip2 = codes "compressed with bzip2: 'bunzip2 -k' decompresses it"
packed_text kinds.Xz = codes "compressed with xz: 'unxz -k' decompresses it"
packed_text kinds.Zstd = codes "compressed with zstd: 'unzstd' decompresses it"
packed_text kinds.Zip = codes "a zip archive: 'unzip' unpacks it"
packed_text kinds.SevenZip = codes "a 7z archive: '7z x' unpacks it"
packed_text _ = codes "a tar archive: 'tar -xf' unpacks it"

-- an image of a tape
abbrev pub image_text : Container → List ℕ
image_text kinds.Simh = codes "a SIMH image"
image_text kinds.Extended =
    codes "a SIMH image of the extended format: 'tape convert' makes a plain one of it"
image_text kinds.E11 = codes "an E11 image: 'tape convert' makes a SIMH image of it"
image_text kinds.TextCopy = codes "a SIMH image with CR LF for LF: copy it again, not as text"
image_text kinds.Aws = codes "an AWS image: 'tape convert' makes a SIMH image of it"
image_text kinds.Het =
    codes "a HET image: 'hetupd -d' makes an AWS image, 'tape convert' a SIMH image"
image_text kinds.FakeTape = codes "a FakeTape image, which tape does not read"
image_text kinds.Tpc = codes "a TPC image: 'tpc2mt' of the SIMH tools makes a SIMH image of it"
image_text kinds.TwoByteWords =
    codes "an image with lengths of two bytes, which tape does not read"
image_text kinds.P7b = codes "a P7B image of a tape with 7 tracks, which tape does not read"
image_text kinds.BigEndian =
    codes "an image with its lengths in big-endian order, which tape does not read"
image_text _ = codes "the blocks of a tape without their lengths, which cannot be found again"

-- what a file of the kind is, and the program that makes a SIMH image of it
abbrev pub container_text : Container → List ℕ
container_text kinds.Unknown = codes "not a SIMH image, or damaged in its first block"
container_text kinds.Iso = codes "an image of a disc (ISO 9660), not of a tape"
container_text kinds.Commodore =
    codes "a cassette of a Commodore computer, which tape does not read"
container_text kinds.Spectrum = codes "a cassette of a ZX Spectrum, which tape does not read"
container_text kinds.Gzip = packed_text kinds.Gzip
container_text kinds.Compress = packed_text kinds.Compress
container_text kinds.Bzip2 = packed_text kinds.Bzip2
container_text kinds.Xz = packed_text kinds.Xz
container_text kinds.Zstd = packed_text kinds.Zstd
container_text kinds.Zip = packed_text kinds.Zip
container_text kinds.SevenZip = packed_text kinds.SevenZip
container_text kinds.Tar = packed_text kinds.Tar
container_text kind = image_text kind
