-- Volumes whose labels are in EBCDIC.
use Rattle.std.specs.Prelude.{◌≡◌, ◌==◌, ◌&&◌, not, ℕ, Bool, true, false, List, [], ◌∷◌}
use Rattle.std.specs.Prelude.{if◌then◌else◌, length, map, slice_index}
use Rattle.tape_image.specs.Tape.{TapeItem, block, mark}
use Rattle.tape_writer.specs.declared.ebcdic.Part.{Part}
use Rattle.tape_writer.specs.declared.ebcdic.Part.TheVariants.{Headers, Data, Trailers}
use Rattle.tape_writer.specs.Tapes.{Tapes, Ended, UnderWay}

-- what may come after a tape mark
abbrev pub after_mark : Part → Part
after_mark Headers = Data
after_mark Data = Trailers
after_mark Trailers = Headers

-- what may come after an item
abbrev pub after : Part → TapeItem → Part
after part mark = after_mark part
after part item = part

abbrev pub is_data : Part → Bool
is_data Data = true
is_data part = false

-- labels have 80 bytes
abbrev pub is_label : Part → List ℕ → Bool
is_label part bytes = not (is_data part) && (length bytes == 80)

-- for each byte, as a character of ISO 8859-1, the same character in code page 037
abbrev pub ebcdic_table : List ℕ
ebcdic_table =
    0 ∷ 1 ∷ 2 ∷ 3 ∷ 55 ∷ 45 ∷ 46 ∷ 47 ∷ 22 ∷ 5 ∷ 37 ∷ 11 ∷ 12 ∷ 13 ∷ 14 ∷ 15 ∷
    16 ∷ 17 ∷ 18 ∷ 19 ∷ 60 ∷ 61 ∷ 50 ∷ 38 ∷ 24 ∷ 25 ∷ 63 ∷ 39 ∷ 28 ∷ 29 ∷ 30 ∷ 31 ∷
    64 ∷ 90 ∷ 127 ∷ 123 ∷ 91 ∷ 108 ∷ 80 ∷ 125 ∷ 77 ∷ 93 ∷ 92 ∷ 78 ∷ 107 ∷ 96 ∷ 75 ∷ 97 ∷
    240 ∷ 241 ∷ 242 ∷ 243 ∷ 244 ∷ 245 ∷ 246 ∷ 247 ∷ 248 ∷ 249 ∷ 122 ∷ 94 ∷ 76 ∷ 126 ∷ 110 ∷ 111 ∷
    124 ∷ 193 ∷ 194 ∷ 195 ∷ 196 ∷ 197 ∷ 198 ∷ 199 ∷ 200 ∷ 201 ∷ 209 ∷ 210 ∷ 211 ∷ 212 ∷ 213 ∷ 214 ∷
    215 ∷ 216 ∷ 217 ∷ 226 ∷ 227 ∷ 228 ∷ 229 ∷ 230 ∷ 231 ∷ 232 ∷ 233 ∷ 186 ∷ 224 ∷ 187 ∷ 176 ∷ 109 ∷
    121 ∷ 129 ∷ 130 ∷ 131 ∷ 132 ∷ 133 ∷ 134 ∷ 135 ∷ 136 ∷ 137 ∷ 145 ∷ 146 ∷ 147 ∷ 148 ∷ 149 ∷ 150 ∷
    151 ∷ 152 ∷ 153 ∷ 162 ∷ 163 ∷ 164 ∷ 165 ∷ 166 ∷ 167 ∷ 168 ∷ 169 ∷ 192 ∷ 79 ∷ 208 ∷ 161 ∷ 7 ∷
    32 ∷ 33 ∷ 34 ∷ 35 ∷ 36 ∷ 21 ∷ 6 ∷ 23 ∷ 40 ∷ 41 ∷ 42 ∷ 43 ∷ 44 ∷ 9 ∷ 10 ∷ 27 ∷
    48 ∷ 49 ∷ 26 ∷ 51 ∷ 52 ∷ 53 ∷ 54 ∷ 8 ∷ 56 ∷ 57 ∷ 58 ∷ 59 ∷ 4 ∷ 20 ∷ 62 ∷ 255 ∷
    65 ∷ 170 ∷ 74 ∷ 177 ∷ 159 ∷ 178 ∷ 106 ∷ 181 ∷ 189 ∷ 180 ∷ 154 ∷ 138 ∷ 95 ∷ 202 ∷ 175 ∷ 188 ∷
    144 ∷ 143 ∷ 234 ∷ 250 ∷ 190 ∷ 160 ∷ 182 ∷ 179 ∷ 157 ∷ 218 ∷ 155 ∷ 139 ∷ 183 ∷ 184 ∷ 185 ∷ 171 ∷
    100 ∷ 101 ∷ 98 ∷ 102 ∷ 99 ∷ 103 ∷ 158 ∷ 104 ∷ 116 ∷ 113 ∷ 114 ∷ 115 ∷ 120 ∷ 117 ∷ 118 ∷ 119 ∷
    172 ∷ 105 ∷ 237 ∷ 238 ∷ 235 ∷ 239 ∷ 236 ∷ 191 ∷ 128 ∷ 253 ∷ 254 ∷ 251 ∷ 252 ∷ 173 ∷ 174 ∷ 89 ∷
    68 ∷ 69 ∷ 66 ∷ 70 ∷ 67 ∷ 71 ∷ 156 ∷ 72 ∷ 84 ∷ 81 ∷ 82 ∷ 83 ∷ 88 ∷ 85 ∷ 86 ∷ 87 ∷
    140 ∷ 73 ∷ 205 ∷ 206 ∷ 203 ∷ 207 ∷ 204 ∷ 225 ∷ 112 ∷ 221 ∷ 222 ∷ 219 ∷ 220 ∷ 141 ∷ 142 ∷ 223 ∷ []

-- a character of ISO 8859-1 in code page 037
abbrev pub to_ebcdic : ℕ → ℕ
to_ebcdic byte = slice_index ebcdic_table byte

-- the item with labels in EBCDIC: only these are changed
abbrev pub coded_item : Part → TapeItem → TapeItem
coded_item part (block b) = if is_label part b then block (map to_ebcdic b) else block b
coded_item part item = item

-- what may come after the items
abbrev pub part_of : Part → List TapeItem → Part
part_of part [] = part
part_of part (x ∷ xs) = part_of (after part x) xs

-- the items, of which the first is in this part
abbrev pub coded_from : Part → List TapeItem → List TapeItem
coded_from part [] = []
coded_from part (x ∷ xs) = coded_item part x ∷ coded_from (after part x) xs

-- the items of a volume with labels in EBCDIC
abbrev pub coded : List TapeItem → List TapeItem
coded items = coded_from Headers items

-- the volumes with labels in EBCDIC
abbrev pub coded_tapes : Tapes → Tapes
coded_tapes (Ended volumes) = Ended (map coded volumes)
coded_tapes (UnderWay volumes items) = UnderWay (map coded volumes) (coded items)

-- what may come next on the current volume
abbrev pub IsAt : Part → Tapes → Type 0
IsAt part (Ended volumes) = Unit {0}
IsAt part (UnderWay volumes items) = part ≡ part_of Headers items

-- the output contains the volumes with labels in EBCDIC
abbrev pub HoldsCoded : (Tapes → Type 0) → Part → Tapes → Type 0
HoldsCoded H part tapes = H (coded_tapes tapes) × IsAt part tapes
