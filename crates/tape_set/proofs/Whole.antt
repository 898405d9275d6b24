-- A complete reading of a section's volume moves each position in the section to the position after
-- it.
use Rattle.std.proofs.Common.{◌≡◌, ◌≤◌, ℕ, zero, suc, ◌+◌, ◌-◌, List, [], ◌∷◌, ◌++◌, length, take}
use Rattle.std.proofs.Common.{drop, Bool, true, refl, ap, ◌∙◌, arith, eq-eqb, length-append}
use Rattle.std.proofs.lemmas.List.{length-map}
use Rattle.std.specs.Prelude.{replicate, ◌==◌, ◌&&◌}
use Rattle.tape_set.specs.Layout.{FileSet, Section, Entry, a_data_block, data_group, trailer_group}
use Rattle.tape_set.specs.Reach.{far, far_in, before_data, passes, good_run, first_unread}
use Rattle.tape_set.specs.{declared.position.Position.TheVariants.Awaits, Laws.WholeGivesSection}
use Rattle.tape_set.specs.Layout.{item_of, entries, items}
use Rattle.tape_set.specs.Reach.{both_good, moved, behind}
use Rattle.tape_set.specs.declared.position.Position.{Position}
use Rattle.tape_set.proofs.{Reaching.reading_of, Reaching.both_true, Standing.data_stands}

-- ---- if all items were readable

all_pass : (m : ℕ) (es : List Entry) → length es ≤ m → passes (replicate m true) es ≡ true
all_pass m [] h = refl
all_pass zero (e ∷ es) h = absurd (omega arith)
all_pass (suc m) (e ∷ es) h = all_pass m es (omega arith)

all_behind : (a m : ℕ) → drop a (replicate (a + m) true) ≡ replicate m true
all_behind zero m = let e : 0 + m ≡ m = omega arith in rw e refl
all_behind (suc a) m = let e : suc a + m ≡ suc (a + m) = omega arith in rw e (all_behind a m)

run_of_all : (k m : ℕ) → k ≤ m → good_run (take k (replicate m true)) ≡ k
run_of_all zero m h = refl
run_of_all (suc k) zero h = absurd (omega arith)
run_of_all (suc k) (suc m) h = grind (arith, run_of_all k m (omega arith))

none_unread : (b n m : ℕ) → b ≤ n → n ≤ m → first_unread (replicate m true) b n ≡ n
none_unread b n m le most =
    let e : m ≡ b + (m - b) = omega arith in
    let behind_b : drop b (replicate m true) ≡ replicate (m - b) true =
    ap (λ v. drop b (replicate v true)) e ∙ all_behind b (m - b) in
    let run : good_run (take (n - b) (drop b (replicate m true))) ≡ n - b =
    rw behind_b (run_of_all (n - b) (m - b) (omega arith)) in
    omega arith

both_of_all : (n q : ℕ) → both_good (drop n (replicate (n + (q + 2)) true)) ≡ true
both_of_all n q = grind (arith, all_behind)

-- ---- in a section

all_moved : (p : Position) (sect b : ℕ) (s : Section) (q : ℕ) → b ≤ length s.blocks
    → moved p sect b s (replicate (length s.blocks + (q + 2)) true) ≡ behind sect s
all_moved p sect b s q le = grind (arith, none_unread, both_of_all)

-- at least three entries follow a section's data: its closing mark, its trailer label and a mark
trailers_three : (s : Section) → length (trailer_group s) ≡ length s.trailers + 3
trailers_three s = grind (arith, length-append, length-map)

pub whole_gives : (set : FileSet) → WholeGivesSection set
whole_gives set file sect b k s found some le =
    let past : List Entry = before_data set file sect s in
    let front = data_stands set file sect s found some in
    let all : length (((past ++ data_group s.blocks) ++ trailer_group s) ++ front.0)
    ≡ length (entries set s.volume) = ap (λ v. length v) front.1 in
    let q : ℕ = length s.trailers + (1 + length front.0) in
    let many : length (items set s.volume) ≡ length past + (length s.blocks + (q + 2)) =
    omega (
      arith,
      all,
      length-map (entries set s.volume) item_of,
      length-append ((past ++ data_group s.blocks) ++ trailer_group s) front.0,
      length-append (past ++ data_group s.blocks) (trailer_group s),
      length-append past (data_group s.blocks),
      data_length s,
      trailers_three s,
    ) in
    let good : List Bool = replicate (length past + (length s.blocks + (q + 2))) true in
    let here : (s.volume == s.volume) ≡ true = eq-eqb s.volume s.volume refl in
    let passed : passes good past ≡ true = all_pass _ past (omega arith) in
    let both : ((s.volume == s.volume) && passes good past) ≡ true = both_true _ _ here passed in
    ap (λ v. far set file (Awaits sect b k) (reading_of s.volume (replicate v true))) many
    ∙ (ap (λ o. far_in set file (Awaits sect b k) sect b (reading_of s.volume good) o) found
    ∙ (rw both (ap (λ v. moved (Awaits sect b k) sect b s v) (all_behind (length past)
    (length s.blocks + (q + 2))) ∙ all_moved (Awaits sect b k) sect b s q le)))
  where
    data_length : (x : Section) → length (data_group x.blocks) ≡ length x.blocks
    data_length x = length-map x.blocks (λ b. a_data_block b.bytes)
