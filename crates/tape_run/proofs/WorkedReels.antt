-- The reels of the worked history, by computation: what their bytes begin with, and that each is a
-- copy of a volume or foreign.
use Rattle.std.proofs.Common.{◌≡◌, ◌≤◌, ℕ, Bool, List, [], ◌∷◌, ◌++◌, true, false, refl, sym, ap}
use Rattle.std.proofs.Common.{codes, lit≤, lit<, Some, ◌+◌, ◌%◌, arith, replicate, length, flat_map}
use Rattle.tape_image.specs.Tape.{TapeItem, block, bad, mark}
use Rattle.tape_image.specs.Spelling as spelling
use Rattle.tape_image.specs.{Spelling.Spelling, Begins.Begins, Begins.ends, Begins.faults}
use Rattle.tape_image.specs.Begins as begin
use Rattle.tape_image.specs.declared.item.Ending.TheVariants.{Marked, Physical}
use Rattle.tape_image.specs.declared.item.ImageCause.TheVariants.{Truncated}
use Rattle.tape_label.specs.{Kinds.kind_at, VolumeLabels.is_volume_label}
use Rattle.tape_label.specs.Reading.{head1_at, head_at}
use Rattle.tape_set.specs.{Layout.items, Reading.IsReadingOf, Reading.as_read}
use Rattle.tape_core.specs.Foreign.{starts_set}
use Rattle.tape_run.specs.Mount.{IsMount, IsMountOf, reads, foreign_reel}
use Rattle.tape_run.specs.WorkedHistory.{worked_set, vol1, hdr1, hdr1_of_2, hdr2, eov1, eov2, eof1}
use Rattle.tape_run.specs.WorkedHistory.{eof2, block_0, block_1, block_2, a_mark, an_end, label}
use Rattle.tape_run.specs.WorkedHistory.{data_block, bad_data, reel_1, reel_2, cut_reel, bad_0_reel}
use Rattle.tape_run.specs.WorkedHistory.{bad_1_reel, short_reel, blank_reel, other_reel, reading}

-- ---- the bytes begin with these items

abbrev mark_of : Spelling
mark_of = record {
  bytes = a_mark;
  given = mark ∷ [];
  spelled = spelling.a_mark (record { four = refl; value = refl }) refl;
}

abbrev label_of : (text : List ℕ) → length text ≡ 80 → Spelling
label_of text e = record {
  bytes = label text;
  given = block text ∷ [];
  spelled = spelling.a_block 80 text (ap Some (sym e))
      (record {
        lead = 80 ∷ 0 ∷ 0 ∷ 0 ∷ [];
        pad = [];
        trail = 80 ∷ 0 ∷ 0 ∷ 0 ∷ [];
        whole = refl;
        lead_is = record { four = refl; value = refl };
        pad_is = sym (ap (λ n. n % 2) e);
        trail_is = record { four = refl; value = refl };
      })
      refl;
}

abbrev data_of : (text : List ℕ) → length text ≡ 18 → Spelling
data_of text e = record {
  bytes = data_block text;
  given = block text ∷ [];
  spelled = spelling.a_block 18 text (ap Some (sym e))
      (record {
        lead = 18 ∷ 0 ∷ 0 ∷ 0 ∷ [];
        pad = [];
        trail = 18 ∷ 0 ∷ 0 ∷ 0 ∷ [];
        whole = refl;
        lead_is = record { four = refl; value = refl };
        pad_is = sym (ap (λ n. n % 2) e);
        trail_is = record { four = refl; value = refl };
      })
      refl;
}

abbrev bad_of : Spelling
bad_of = record {
  bytes = bad_data;
  given = bad ∷ [];
  spelled = spelling.a_block 2147483666 (codes "##################") refl
      (record {
        lead = 18 ∷ 0 ∷ 0 ∷ 128 ∷ [];
        pad = [];
        trail = 18 ∷ 0 ∷ 0 ∷ 128 ∷ [];
        whole = refl;
        lead_is = record { four = refl; value = refl };
        pad_is = refl;
        trail_is = record { four = refl; value = refl };
      })
      refl;
}

abbrev first_labels : List Spelling
first_labels = label_of vol1 refl ∷ label_of hdr1 refl ∷ label_of hdr2 refl ∷ mark_of ∷ []

abbrev second_labels : List Spelling
second_labels = label_of vol1 refl ∷ label_of hdr1_of_2 refl ∷ label_of hdr2 refl ∷ mark_of ∷ []

abbrev first_end : List Spelling
first_end = mark_of ∷ label_of eov1 refl ∷ label_of eov2 refl ∷ mark_of ∷ mark_of ∷ []

abbrev second_end : List Spelling
second_end = mark_of ∷ label_of eof1 refl ∷ label_of eof2 refl ∷ mark_of ∷ mark_of ∷ []

abbrev items_of : List Spelling → List TapeItem
items_of ss = flat_map (λ s. s.given) ss

-- encodings, followed by an end-of-medium marker
ended : (bytes : List ℕ) (ss : List Spelling) (n : ℕ)
    → bytes ≡ flat_map (λ s. s.bytes) ss ++ an_end → length bytes ≡ n + 4 → n + 4 ≤
    begin.image_limit
    → Begins 0 bytes (items_of ss) n (ends Marked)
ended bytes ss n e size within = grind (arith)

-- spellings, and nothing more
all_of : (bytes : List ℕ) (ss : List Spelling) (n : ℕ) → bytes ≡ flat_map (λ s. s.bytes) ss ++ []
    → length bytes ≡ n → n ≤ begin.image_limit → Begins 0 bytes (items_of ss) n (ends Physical)
all_of bytes ss n e size within = grind (arith)

-- encodings, followed by a prefix of a block of 18 characters
cut_off : (bytes : List ℕ) (ss : List Spelling) (n : ℕ)
    → bytes ≡ flat_map (λ s. s.bytes) ss ++ (18 ∷ 0 ∷ 0 ∷ 0 ∷ codes "20018AA")
    → length bytes ≡ n + 11 → n + 26 ≤ begin.image_limit
    → Begins 0 bytes (items_of ss) n (faults Truncated)
cut_off bytes ss n e size within = record {
  rest = 18 ∷ 0 ∷ 0 ∷ 0 ∷ codes "20018AA";
  walks = record {
    leads = record { spellings = ss; whole = e; items_are = refl };
    moves = omega (arith, size);
  };
  within = omega (arith, within);
  stops = begin.in_block (lit≤ tt) 26 refl within (lit< tt) refl;
}

-- ---- each mount is a copy, or foreign

-- read this far and this well, with nothing after it
a_copy : (xs : List TapeItem) (volume : ℕ) (good : List Bool)
    → IsReadingOf worked_set (reading volume good)
    → xs ≡ as_read (items worked_set volume) good ++ []
    → IsMount worked_set xs (reads (reading volume good))
a_copy xs volume good is whole =
    record { is_reading = is; more = []; whole = whole; behind = λ n. absurd (n refl) }

pub whole_1 : IsMountOf worked_set reel_1 (reads (reading 1 (replicate 11 true)))
whole_1 = (
  items worked_set 1,
  508,
  ends Marked,
  ended reel_1 (first_labels ++ data_of block_0 refl ∷ data_of block_1 refl ∷ first_end) 508 refl
      refl (lit≤ tt),
  a_copy _ _ _ (record { volume = refl; within = lit≤ tt }) refl,
)

pub whole_2 : IsMountOf worked_set reel_2 (reads (reading 2 (replicate 10 true)))
whole_2 = (
  items worked_set 2,
  482,
  ends Marked,
  ended reel_2 (second_labels ++ data_of block_2 refl ∷ second_end) 482 refl refl (lit≤ tt),
  a_copy _ _ _ (record { volume = refl; within = lit≤ tt }) refl,
)

pub cut_1 : IsMountOf worked_set cut_reel (reads (reading 1 (replicate 5 true)))
cut_1 = (
  items_of (first_labels ++ data_of block_0 refl ∷ []),
  294,
  faults Truncated,
  cut_off cut_reel (first_labels ++ data_of block_0 refl ∷ []) 294 refl refl (lit≤ tt),
  a_copy _ _ _ (record { volume = refl; within = lit≤ tt }) refl,
)

pub bad_0 : IsMountOf worked_set bad_0_reel (reads
    (reading 1 (replicate 4 true ++ false ∷ replicate 6 true)))
bad_0 = (
  items_of (first_labels ++ bad_of ∷ data_of block_1 refl ∷ first_end),
  508,
  ends Marked,
  ended bad_0_reel (first_labels ++ bad_of ∷ data_of block_1 refl ∷ first_end) 508 refl refl
      (lit≤ tt),
  a_copy _ _ _ (record { volume = refl; within = lit≤ tt }) refl,
)

pub bad_1 : IsMountOf worked_set bad_1_reel (reads
    (reading 1 (replicate 5 true ++ false ∷ replicate 5 true)))
bad_1 = (
  items_of (first_labels ++ data_of block_0 refl ∷ bad_of ∷ first_end),
  508,
  ends Marked,
  ended bad_1_reel (first_labels ++ data_of block_0 refl ∷ bad_of ∷ first_end) 508 refl refl
      (lit≤ tt),
  a_copy _ _ _ (record { volume = refl; within = lit≤ tt }) refl,
)

pub short_2 : IsMountOf worked_set short_reel (reads (reading 2 (replicate 6 true)))
short_2 = (
  items_of (second_labels ++ data_of block_2 refl ∷ mark_of ∷ []),
  298,
  ends Physical,
  all_of short_reel (second_labels ++ data_of block_2 refl ∷ mark_of ∷ []) 298 refl refl (lit≤ tt),
  a_copy _ _ _ (record { volume = refl; within = lit≤ tt }) refl,
)

abbrev other_hdr1 : List ℕ
other_hdr1 = codes
    "HDR1PAYROLL          XYZ00100010001000100 00000 00000 000000                    "

abbrev blank_items : List TapeItem
blank_items = block vol1 ∷ mark ∷ mark ∷ []

abbrev other_items : List TapeItem
other_items = block vol1 ∷ block other_hdr1 ∷ []

blank_is_none : starts_set (codes "ABC001") blank_items ≡ false
unfolding kind_at
blank_is_none = refl

other_is_none : starts_set (codes "ABC001") other_items ≡ false
unfolding kind_at is_volume_label head1_at head_at
other_is_none = refl

pub blank : IsMountOf worked_set blank_reel foreign_reel
blank = (
  blank_items,
  96,
  ends Marked,
  ended blank_reel (label_of vol1 refl ∷ mark_of ∷ mark_of ∷ []) 96 refl refl (lit≤ tt),
  blank_is_none,
)

pub other : IsMountOf worked_set other_reel foreign_reel
other = (
  other_items,
  176,
  ends Physical,
  all_of other_reel (label_of vol1 refl ∷ label_of other_hdr1 refl ∷ []) 176 refl refl (lit≤ tt),
  other_is_none,
)
