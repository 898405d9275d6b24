-- The SIMH images of images of other formats spell the images' items.
use Rattle.std.proofs.Common.{◌≡◌, ℕ, ◌+◌, ◌*◌, ◌%◌, ◌^◌, ◌≤◌, ◌<◌, Bool}
use Rattle.std.proofs.Common.{true, false, nat_lt, ◌==◌, ◌&&◌, if◌then◌else◌}
use Rattle.std.proofs.Common.{List, [], ◌∷◌, ◌++◌, length, take, drop, refl, sym}
use Rattle.std.proofs.Common.{ap, subst, ◌∙◌, arith, append_assoc, replicate}
use Rattle.std.proofs.Common.{take-append-drop}
use Rattle.std.proofs.lemmas.List.{length-take}
use Rattle.std.specs.List.{flat_map}
use lib.Seq.{drop_at, take_at}
use Rattle.std.proofs.lemmas.Bool.Decides.{nat_tests}
use Rattle.byteorder.specs.Endian.{little_number, little_bytes}
use Rattle.byteorder.specs.Numbers.{little_number-reads_back}
use Rattle.tape_image.specs.declared.format.ImageFormat.{ImageFormat}
use Rattle.tape_image.specs.declared.format.ImageFormat.TheVariants as formats
use Rattle.tape_image.specs.declared.format.step.Piece.{Piece}
use Rattle.tape_image.specs.declared.format.step.Piece.TheVariants as pieces
use Rattle.tape_image.specs.declared.format.step.Step.TheVariants.{Stop}
use Rattle.tape_image.specs.declared.item.Ending.TheVariants.{Marked, Physical}
use Rattle.tape_image.specs.Tape.{block, mark}
use Rattle.tape_image.specs.Word.{IsWord, mark_word, end_word}
use Rattle.tape_image.specs.Written.{written_block}
use Rattle.tape_image.specs.Spelling.{IsSpelling, Leads}
use Rattle.tape_image.specs.Spelling.{Spells}
use Rattle.tape_image.specs.Format.{piece_bytes, passed, instead}
use Rattle.tape_image.specs.Format.{looked, bytes_after}
use Rattle.tape_image.specs.Format.{aws_header, aws_block, Before, after, first_header, keep}
use Rattle.tape_image.specs.Format.{next_header, with_more, kept_block, kept_in, word_behind}
use Rattle.tape_image.specs.FormatItems.{IsChunk, chunks, joined, last_len}
use Rattle.tape_image.specs.Spelling.{item_of}
use Rattle.std.specs.List.{AllByRecursion}
use Rattle.tape_image.proofs.Formats.{at_chunk, more_twice}
use lib.Seq.{take_all}
use Rattle.std.proofs.Common.{◌≢◌, not, nat_le, append-nil, length-append}
use Rattle.tape_image.specs.FormatItems.{IsBare, IsE11, e11_mark, e11_gap, IsOther, IsMarker}
use Rattle.tape_image.specs.FormatItems.{Encoding, IsEncoding, bytes_of, AreEncodings, EndsImage}
use Rattle.tape_image.specs.FormatItems.{HasItems, SimhImagesKeepItems}
use Rattle.tape_image.specs.FormatItems as encodings
use Rattle.tape_image.proofs.{Words.word-append, Leads.Leads-nil}
use Rattle.tape_image.proofs.WrittenItems.{block_spelled, bad_spelled}
use Rattle.tape_image.proofs.{Leads.Leads-trans}
use Rattle.tape_image.proofs.FormatWords.{not_less, less_than, e11_looked, by_first, leads_by}
use Rattle.tape_image.proofs.FormatWords.{mark_there, e11_leads}
use Rattle.tape_image.proofs.FormatExtended.{is_word, not_word, class_looked, extended_leads}

-- ---- AWS

and_false : (a b : Bool) → (a && (b && false)) ≡ false
and_false true true = refl
and_false true false = refl
and_false false b = refl

-- a header of a length, the length before, and flags
abbrev header : ℕ → ℕ → ℕ → List ℕ → List ℕ
header n before flag rest = little_bytes 2 n ++ (little_bytes 2 before ++ flag ∷ 0 ∷ rest)

abbrev begun : Before → Bool
begun before = not (length before.kept == 0)

header_looked : (before : Before) (n flag : ℕ) (rest : List ℕ) → before.chunk < 2 ^ 16
    → n < 2 ^ 16 → flag < 256
    → looked formats.Aws before (header n before.chunk flag rest)
    ≡ aws_header before.chunk (begun before) n before.chunk flag
header_looked before n flag rest h k l =
    let shown : List ℕ =
    little_bytes 2 n ++ (little_bytes 2 before.chunk ++ flag ∷ 0 ∷ take 2 rest) in
    let long : nat_lt (length shown) 6 ≡ false = not_less (length shown) 6 (grind arith) in
    rw (
      long,
      little_number-reads_back 2 n (little_bytes 2 before.chunk ++ flag ∷ 0 ∷ take 2 rest)
          (omega (arith, k)),
      little_number-reads_back 2 before.chunk (flag ∷ 0 ∷ take 2 rest) (omega (arith, h)),
    ) (ap (aws_header before.chunk (begun before) n before.chunk)
    {x = flag + 256 * (0 + 256 * 0)} {y = flag} (omega arith))

-- a header that no block, or a block, precedes
first_looked : (before n flag : ℕ) (rest : List ℕ) → before < 2 ^ 16 → n < 2 ^ 16 → flag < 256
    → ((n == 0) && ((before == 0) && (flag == 0))) ≡ false
    → looked formats.Aws (after before) (header n before flag rest) ≡ first_header n flag
first_looked before n flag rest h k l some =
    header_looked (after before) n flag rest h k l
    ∙ rw (some, is_word before before refl) refl

next_looked : (before n flag : ℕ) (kept rest : List ℕ) → before < 2 ^ 16 → n < 2 ^ 16
    → flag < 256 → 0 < length kept
    → looked formats.Aws (at_chunk before kept) (header n before flag rest) ≡ next_header n flag
next_looked before n flag kept rest h k l some =
    let not_empty : (length kept == 0) ≡ false =
    not_word (length kept) 0 (λ z. omega (arith, z, some)) in
    header_looked (at_chunk before kept) n flag rest h k l
    ∙ rw (not_empty, is_word before before refl) refl

aws_mark_leads : (before : ℕ) (rest : List ℕ) → before < 2 ^ 16
    → Leads (bytes_after formats.Aws (after before) (header 0 before 0x40 rest)) (mark ∷ [])
    (bytes_after formats.Aws (after 0) rest)
aws_mark_leads before rest h =
    leads_by _ (little_bytes 4 mark_word) _ (mark ∷ []) mark_there
    (by_first formats.Aws (after before) (header 0 before 0x40 rest)
    (instead (pieces.Word mark_word) 6)
    (first_looked before 0 0x40 rest h (omega arith) (omega arith)
    (and_false true (before == 0))))

word_size : (n : ℕ) → piece_bytes (word_behind n) ≡ replicate (n % 2) 0 ++ little_bytes 4 n
word_size n = go (n % 2 == 1) refl
  where
    go : (t : Bool) → (n % 2 == 1) ≡ t
        → piece_bytes (if t then pieces.ZeroWord n else pieces.Word n)
        ≡ replicate (n % 2) 0 ++ little_bytes 4 n
    go true e =
        let one : n % 2 ≡ 1 = grind (arith, nat_tests) in
        rw (one) refl
    go false e =
        let none : n % 2 ≡ 0 = grind (arith, nat_tests) in
        rw (none) refl

-- the bytes that stand for a block
block_bytes : (content : List ℕ)
    → little_bytes 4 (length content) ++ (content ++ piece_bytes (word_behind (length content)))
    ≡ written_block content
block_bytes content =
    ap (λ (l : List ℕ). little_bytes 4 (length content) ++ (content ++ l))
    (word_size (length content))

aws_passed : (content rest : List ℕ) (tail : Piece) (f : List ℕ → List ℕ)
    → passed (record { count = length content; tail = tail; last = 0 }) (content ++ rest) f
    ≡ content ++ (piece_bytes tail ++ f rest)
aws_passed content rest tail f = rw (
  take_at content rest (length content) refl,
  drop_at content rest (length content) refl,
) refl

-- a block in one chunk
one_chunk : (before : ℕ) (content rest : List ℕ) → before < 2 ^ 16 → IsChunk content
    → bytes_after formats.Aws (after before)
    (header (length content) before 0xA0 (content ++ rest))
    ≡ written_block content ++ bytes_after formats.Aws (after (length content)) rest
one_chunk before content rest h (some, few) =
    let n = length content in
    let xs = header n before 0xA0 (content ++ rest) in
    let f : List ℕ → List ℕ = bytes_after formats.Aws (after n) in
    let tail : Piece = word_behind n in
    let is : first_header n 0xA0 ≡ aws_block n = rw (less_than 0 n some) refl in
    by_first formats.Aws (after before) xs (aws_block n)
    (first_looked before n 0xA0 (content ++ rest) h few (omega arith)
    (and_false (n == 0) (before == 0)) ∙ is)
    ∙ ap (λ (l : List ℕ). little_bytes 4 n ++ l) (aws_passed content rest tail f)
    ∙ ap (λ (l : List ℕ). little_bytes 4 n ++ l)
    (sym (append_assoc content (piece_bytes tail) (f rest)))
    ∙ sym (append_assoc (little_bytes 4 n) (content ++ piece_bytes tail) (f rest))
    ∙ ap (λ (l : List ℕ). l ++ f rest) (block_bytes content)

-- a chunk is kept
kept_all : (c rest kept : List ℕ) (last : Bool) (f : Before → List ℕ → List ℕ)
    → kept_in (length c) (record { count = length c; last = last }) kept (c ++ rest) f
    ≡ (if last then kept_block (with_more kept c) ++ f (after (length c)) rest
    else f (at_chunk (length c) (with_more kept c)) rest)
kept_all c rest kept last f =
    let whole : nat_lt (length (c ++ rest)) (length c) ≡ false =
    not_less (length (c ++ rest)) (length c) (omega (arith, length-append c rest)) in
    rw (whole, take_at c rest (length c) refl, drop_at c rest (length c) refl) refl

some_kept : (kept c : List ℕ) → 0 < length kept → 0 < length (with_more kept c)
some_kept [] c some = absurd (omega (arith, some))
some_kept (k ∷ kept) c some = omega arith

-- the chunks of a block that has begun
next_chunks : (before : ℕ) (kept c : List ℕ) (cs : List (List ℕ)) (rest : List ℕ)
    → before < 2 ^ 16 → 0 < length kept → AllByRecursion IsChunk (c ∷ cs)
    → bytes_after formats.Aws (at_chunk before kept) (chunks 0 before (c ∷ cs) ++ rest)
    ≡ kept_block (with_more kept (joined (c ∷ cs)))
    ++ bytes_after formats.Aws (after (last_len (c ∷ cs))) rest
next_chunks before kept c [] rest h some ((size, few), _) =
    let n = length c in
    let is : next_header n 0x20 ≡ keep n true = rw (less_than 0 n size) refl in
    by_first formats.Aws (at_chunk before kept) (header n before 0x20 (c ++ rest)) (keep n true)
    (next_looked before n 0x20 kept (c ++ rest) h few (omega arith) some ∙ is)
    ∙ kept_all c rest kept true (bytes_after formats.Aws)
    ∙ ap (λ (l : List ℕ). kept_block (with_more kept l) ++ bytes_after formats.Aws (after n) rest)
    (sym (append-nil c))
next_chunks before kept c (d ∷ cs) rest h some ((size, few), others) =
    let n = length c in
    let behind = chunks 0 n (d ∷ cs) in
    let is : next_header n 0 ≡ keep n false = rw (less_than 0 n size) refl in
    let whole : (header n before 0 c ++ behind) ++ rest ≡ header n before 0 (c ++ (behind
    ++ rest)) =
    ap (λ (l : List ℕ). header n before 0 l) (append_assoc c behind rest) in
    ap (bytes_after formats.Aws (at_chunk before kept)) whole
    ∙ by_first formats.Aws (at_chunk before kept) (header n before 0 (c ++ (behind ++ rest)))
    (keep n false)
    (next_looked before n 0 kept (c ++ (behind ++ rest)) h few (omega arith) some ∙ is)
    ∙ kept_all c (behind ++ rest) kept false (bytes_after formats.Aws)
    ∙ next_chunks n (with_more kept c) d cs rest few (some_kept kept c some) others
    ∙ ap (λ (l : List ℕ). kept_block l
    ++ bytes_after formats.Aws (after (last_len (d ∷ cs))) rest)
    (more_twice kept c (joined (d ∷ cs)))

-- the item of a block of which these bytes are kept
kept_spelled : (content : List ℕ) → 0 < length content
    → IsSpelling (kept_block (with_more [] content)) (item_of (length content) content ∷ [])
kept_spelled content some = go (nat_lt 99999 (length content)) refl
  where
    go : (t : Bool) → nat_lt 99999 (length content) ≡ t
        → IsSpelling (kept_block (with_more [] content)) (item_of (length content) content ∷ [])
    go true e =
        let far : 99999 < length content = grind (arith, nat_tests) in
        let long : nat_lt 99999 (length (take 100000 content)) ≡ true =
        less_than 99999 (length (take 100000 content))
        (omega (arith, length-take 100000 content, far)) in
        let other : nat_le (length content) 99999 ≡ false = grind (arith, nat_tests) in
        rw (long, other) bad_spelled
    go false e =
        let near : length content ≤ 99999 = grind (arith, nat_tests) in
        let all : take 100000 content ≡ content = take_all 100000 content (omega (arith, near)) in
        let same : nat_le (length content) 99999 ≡ true = grind (arith, nat_tests) in
        rw (all, e, same, block_bytes content)
        (block_spelled content (grind (arith, nat_tests, some, near)))

aws_block_leads : (before : ℕ) (cs : List (List ℕ)) (rest : List ℕ) → before < 2 ^ 16
    → cs ≢ [] → AllByRecursion IsChunk cs
    → Leads (bytes_after formats.Aws (after before) (chunks 0x80 before cs ++ rest))
    (item_of (length (joined cs)) (joined cs) ∷ [])
    (bytes_after formats.Aws (after (last_len cs)) rest) × (last_len cs < 2 ^ 16)
aws_block_leads before [] rest h some are = absurd (some refl)
aws_block_leads before (c ∷ []) rest h some ((size, few), _) =
    let near : nat_le (length c) 99999 ≡ true = grind (arith, nat_tests) in
    let spelled : IsSpelling (written_block c) (block c ∷ []) =
    block_spelled c (grind (arith, nat_tests, size, few)) in
    rw (append-nil c, near) (
      leads_by _ (written_block c) _ (block c ∷ []) spelled (one_chunk before c rest h (size, few)),
      few,
    )
aws_block_leads before (c ∷ d ∷ cs) rest h some ((size, few), others) =
    let n = length c in
    let all = joined (c ∷ d ∷ cs) in
    let behind = chunks 0 n (d ∷ cs) in
    let is : first_header n 0x80 ≡ keep n false = rw (less_than 0 n size) refl in
    let whole : (header n before 0x80 c ++ behind) ++ rest
    ≡ header n before 0x80 (c ++ (behind ++ rest)) =
    ap (λ (l : List ℕ). header n before 0x80 l) (append_assoc c behind rest) in
    let first : 0 < length (with_more [] c) =
    omega (arith, length-take 100000 c, size) in
    let is_kept : bytes_after formats.Aws (after before)
    ((header n before 0x80 c ++ behind) ++ rest)
    ≡ kept_block (with_more [] all) ++ bytes_after formats.Aws (after (last_len (d ∷ cs))) rest =
    ap (bytes_after formats.Aws (after before)) whole
    ∙ by_first formats.Aws (after before) (header n before 0x80 (c ++ (behind ++ rest)))
    (keep n false)
    (first_looked before n 0x80 (c ++ (behind ++ rest)) h few (omega arith)
    (and_false (n == 0) (before == 0)) ∙ is)
    ∙ kept_all c (behind ++ rest) [] false (bytes_after formats.Aws)
    ∙ next_chunks n (with_more [] c) d cs rest few first others
    ∙ ap (λ (l : List ℕ). kept_block l
    ++ bytes_after formats.Aws (after (last_len (d ∷ cs))) rest)
    (more_twice [] c (joined (d ∷ cs))) in (
      leads_by _ (kept_block (with_more [] all)) _ (item_of (length all) all ∷ [])
          (kept_spelled all (omega (arith, length-append c (joined (d ∷ cs)), size))) is_kept,
      last_few d cs others,
    )
  where
    last_few : (d : List ℕ) (cs : List (List ℕ)) → AllByRecursion IsChunk (d ∷ cs)
        → last_len (d ∷ cs) < 2 ^ 16
    last_few d [] ((_, few), _) = few
    last_few d (e ∷ cs) (_, others) = last_few e cs others

-- ---- images

-- the encodings of a format
leads : (format : ImageFormat) (before : ℕ) (e : Encoding) (rest : List ℕ) → before < 2 ^ 16
    → IsEncoding format before e rest
    → Leads (bytes_after format (after before) (e.bytes ++ rest)) e.given
    (bytes_after format (after e.after) rest) × (e.after < 2 ^ 16)
leads formats.Extended before e rest h (is, z) =
    rw (z) (extended_leads (after before) e.bytes rest e.given is, omega arith)
leads formats.E11 before e rest h (is, z) =
    rw (z) (e11_leads (after before) e.bytes rest e.given is, omega arith)
leads formats.Aws before e rest h (encodings.aws_mark whole given z) =
    rw (z, given, whole) (aws_mark_leads before rest h, omega arith)
leads formats.Aws before e rest h (encodings.aws_block cs some are whole given z) =
    rw (z, given, whole) (aws_block_leads before cs rest h some are)

-- the end of an image
nothing_spelled : Spells [] []
nothing_spelled =
    record { rest = []; leads = Leads-nil []; ending = Physical; ended = refl }

end_spelled : (xs : List ℕ) → xs ≡ little_bytes 4 end_word → Spells xs []
end_spelled xs e = rw (e) (record {
  rest = little_bytes 4 end_word;
  leads = Leads-nil (little_bytes 4 end_word);
  ending = Marked;
  ended = (omega arith, refl);
})

pub first_four : (rest : List ℕ) → 4 ≤ length rest → little_number 4 rest ≡ end_word
    → IsWord (take 4 rest) end_word
first_four rest long e =
    let four : length (take 4 rest) ≡ 4 = omega (arith, length-take 4 rest, long) in
    record {
      four = four;
      value = sym (word-append (take 4 rest) (drop 4 rest) (omega (arith, four)))
          ∙ ap (little_number 4) (take-append-drop 4 rest) ∙ e;
    }

end_by : (format : ImageFormat) (before : Before) (rest : List ℕ)
    → looked format before (take 4 rest ++ drop 4 rest) ≡ Stop (pieces.Word end_word)
    → Spells (bytes_after format before rest) []
end_by format before rest is = end_spelled (bytes_after format before rest)
    (by_first format before rest (Stop (pieces.Word end_word))
    (ap (looked format before) (sym (take-append-drop 4 rest)) ∙ is))

ends_here : (format : ImageFormat) (before : ℕ) (rest : List ℕ) → EndsImage format rest
    → Spells (bytes_after format (after before) rest) []
ends_here formats.Aws before rest e = rw (e) nothing_spelled
ends_here formats.E11 before rest (Physical, e) = rw (e) nothing_spelled
ends_here formats.E11 before rest (Marked, (long, e)) = end_by formats.E11 (after before) rest
    (e11_looked (after before) (take 4 rest) (drop 4 rest) end_word (first_four rest long e))
ends_here formats.Extended before rest (Physical, e) = rw (e) nothing_spelled
ends_here formats.Extended before rest (Marked, (long, e)) = end_by formats.Extended
    (after before) rest
    (class_looked (after before) (take 4 rest) (drop 4 rest) end_word (first_four rest long e) refl)

-- consecutive encodings
chain : (format : ImageFormat) (before : ℕ) (es : List Encoding) (rest : List ℕ)
    → before < 2 ^ 16 → AreEncodings format before es rest → EndsImage format rest
    → Spells (bytes_after format (after before) (bytes_of es rest)) (flat_map (λ e. e.given) es)
chain format before [] rest h are end = ends_here format before rest end
chain format before (e ∷ es) rest h (is, more) end =
    let first = leads format before e (bytes_of es rest) h is in
    let behind = chain format e.after es rest first.1 more end in
    let whole : (e.bytes ++ flat_map (λ x. x.bytes) es) ++ rest ≡ e.bytes ++ bytes_of es rest =
    append_assoc e.bytes (flat_map (λ x. x.bytes) es) rest in
    record {
      rest = behind.rest;
      leads = subst (λ (l : List ℕ). Leads (bytes_after format (after before) l)
          (e.given ++ flat_map (λ x. x.given) es) behind.rest) (sym whole)
          (Leads-trans _ _ _ e.given (flat_map (λ x. x.given) es) first.0 behind.leads);
      ending = behind.ending;
      ended = behind.ended;
    }

pub keep_items : SimhImagesKeepItems
keep_items format xs items h =
    rw (h.whole, h.items_are) (chain format 0 h.encodings h.rest (omega arith) h.are h.ends)
