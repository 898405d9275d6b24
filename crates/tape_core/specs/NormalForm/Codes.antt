-- The codes of the characters in labels.
use Rattle.std.specs.Prelude.{ℕ, ◌==◌, nat_le, ◌&&◌, Bool, true, List, [], ◌∷◌, length, map, take}
use Rattle.std.specs.Prelude.{drop, slice_index, if◌then◌else◌}
use Rattle.tape_core.specs.declared.normal.code.Code.{Code}
use Rattle.tape_core.specs.declared.normal.code.Code.TheVariants.{Ascii, Ebcdic, PaddedAscii}
use Rattle.tape_core.specs.declared.normal.code.Code.TheVariants.{PaddedEbcdic}

-- for each byte, as a character of code page 037, the same character in ISO 8859-1
abbrev pub ebcdic_table : List ℕ
ebcdic_table =
    0 ∷ 1 ∷ 2 ∷ 3 ∷ 156 ∷ 9 ∷ 134 ∷ 127 ∷ 151 ∷ 141 ∷ 142 ∷ 11 ∷ 12 ∷ 13 ∷ 14 ∷ 15 ∷
    16 ∷ 17 ∷ 18 ∷ 19 ∷ 157 ∷ 133 ∷ 8 ∷ 135 ∷ 24 ∷ 25 ∷ 146 ∷ 143 ∷ 28 ∷ 29 ∷ 30 ∷ 31 ∷
    128 ∷ 129 ∷ 130 ∷ 131 ∷ 132 ∷ 10 ∷ 23 ∷ 27 ∷ 136 ∷ 137 ∷ 138 ∷ 139 ∷ 140 ∷ 5 ∷ 6 ∷ 7 ∷
    144 ∷ 145 ∷ 22 ∷ 147 ∷ 148 ∷ 149 ∷ 150 ∷ 4 ∷ 152 ∷ 153 ∷ 154 ∷ 155 ∷ 20 ∷ 21 ∷ 158 ∷ 26 ∷
    32 ∷ 160 ∷ 226 ∷ 228 ∷ 224 ∷ 225 ∷ 227 ∷ 229 ∷ 231 ∷ 241 ∷ 162 ∷ 46 ∷ 60 ∷ 40 ∷ 43 ∷ 124 ∷
    38 ∷ 233 ∷ 234 ∷ 235 ∷ 232 ∷ 237 ∷ 238 ∷ 239 ∷ 236 ∷ 223 ∷ 33 ∷ 36 ∷ 42 ∷ 41 ∷ 59 ∷ 172 ∷
    45 ∷ 47 ∷ 194 ∷ 196 ∷ 192 ∷ 193 ∷ 195 ∷ 197 ∷ 199 ∷ 209 ∷ 166 ∷ 44 ∷ 37 ∷ 95 ∷ 62 ∷ 63 ∷
    248 ∷ 201 ∷ 202 ∷ 203 ∷ 200 ∷ 205 ∷ 206 ∷ 207 ∷ 204 ∷ 96 ∷ 58 ∷ 35 ∷ 64 ∷ 39 ∷ 61 ∷ 34 ∷
    216 ∷ 97 ∷ 98 ∷ 99 ∷ 100 ∷ 101 ∷ 102 ∷ 103 ∷ 104 ∷ 105 ∷ 171 ∷ 187 ∷ 240 ∷ 253 ∷ 254 ∷ 177 ∷
    176 ∷ 106 ∷ 107 ∷ 108 ∷ 109 ∷ 110 ∷ 111 ∷ 112 ∷ 113 ∷ 114 ∷ 170 ∷ 186 ∷ 230 ∷ 184 ∷ 198 ∷ 164 ∷
    181 ∷ 126 ∷ 115 ∷ 116 ∷ 117 ∷ 118 ∷ 119 ∷ 120 ∷ 121 ∷ 122 ∷ 161 ∷ 191 ∷ 208 ∷ 221 ∷ 222 ∷ 174 ∷
    94 ∷ 163 ∷ 165 ∷ 183 ∷ 169 ∷ 167 ∷ 182 ∷ 188 ∷ 189 ∷ 190 ∷ 91 ∷ 93 ∷ 175 ∷ 168 ∷ 180 ∷ 215 ∷
    123 ∷ 65 ∷ 66 ∷ 67 ∷ 68 ∷ 69 ∷ 70 ∷ 71 ∷ 72 ∷ 73 ∷ 173 ∷ 244 ∷ 246 ∷ 242 ∷ 243 ∷ 245 ∷
    125 ∷ 74 ∷ 75 ∷ 76 ∷ 77 ∷ 78 ∷ 79 ∷ 80 ∷ 81 ∷ 82 ∷ 185 ∷ 251 ∷ 252 ∷ 249 ∷ 250 ∷ 255 ∷
    92 ∷ 247 ∷ 83 ∷ 84 ∷ 85 ∷ 86 ∷ 87 ∷ 88 ∷ 89 ∷ 90 ∷ 178 ∷ 212 ∷ 214 ∷ 210 ∷ 211 ∷ 213 ∷
    48 ∷ 49 ∷ 50 ∷ 51 ∷ 52 ∷ 53 ∷ 54 ∷ 55 ∷ 56 ∷ 57 ∷ 179 ∷ 219 ∷ 220 ∷ 217 ∷ 218 ∷ 159 ∷ []

-- the character that a byte is in code page 037
abbrev pub to_ascii : ℕ → ℕ
to_ascii byte = slice_index ebcdic_table byte

-- the characters of a label in EBCDIC; only a block of 80 bytes can be a label
abbrev pub turned : List ℕ → List ℕ
turned label = if length label == 80 then map to_ascii label else label

-- the greatest number of bytes of a label with its padding
abbrev pub longest_label : ℕ
longest_label = 120

-- whether a block of this length can be a label
abbrev pub is_label_length : ℕ → Bool
is_label_length n = nat_le 80 n && nat_le n longest_label

-- whether each of the bytes is c
abbrev pub repeats : ℕ → List ℕ → Bool
repeats c [] = true
repeats c (d ∷ ds) = (d == c) && repeats c ds

-- whether the bytes are one byte over and over, or none
abbrev pub is_padding : List ℕ → Bool
is_padding [] = true
is_padding (c ∷ cs) = repeats c cs

-- the 80 characters of a label, without the padding behind them; any other block as it is
abbrev pub unpadded : List ℕ → List ℕ
unpadded block =
    if is_label_length (length block) && is_padding (drop 80 block) then take 80 block else block

-- the label with its characters in ASCII, without padding
abbrev pub in_ascii : Code → List ℕ → List ℕ
in_ascii Ascii label = label
in_ascii Ebcdic label = turned label
in_ascii PaddedAscii label = unpadded label
in_ascii PaddedEbcdic label = turned (unpadded label)
