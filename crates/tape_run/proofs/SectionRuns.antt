-- Reading items that are in their proper order.
use Rattle.std.proofs.Common.{◌≡◌, ℕ, ◌+◌, Bool, true, false, List, [], ◌∷◌, ◌++◌, length, Option}
use Rattle.std.proofs.Common.{Some, None, Ok, refl, ap, subst, ◌∙◌, arith, append-nil, map, ◌==◌}
use Rattle.std.proofs.{Common.not, Common.if◌then◌else◌, lemmas.Bool.Decides.nat_tests}
use Rattle.tape_image.specs.Tape.{TapeItem, block, mark}
use Rattle.tape_label.specs.{declared.values.Kind.Kind, declared.values.Head1.Head1, Kinds.kind_at}
use Rattle.tape_label.specs.{declared.values.Trail1.Trail1, Reading.head1_at, Reading.trail1_at}
use Rattle.tape_label.specs.declared.values.Kind.TheVariants as kinds
use Rattle.tape_run.specs.declared.passing.Phase.TheVariants.{Second, Headers, Data, Trailer}
use Rattle.tape_run.specs.Passing.{Told, cut, closes, met_by, second_with, step, in_list}
use Rattle.tape_run.specs.{declared.section.SectionKey.SectionKey, declared.met.Met.Met}
use Rattle.tape_run.specs.{declared.passing.Phase.Phase, Passing.phase_after, Passing.told_from}
use Rattle.tape_run.specs.declared.section.SectionState.TheVariants.{Good, Bad, Count}
use Rattle.tape_run.specs.declared.passing.Phase.TheVariants.{Trailers, Next, Over}
use Rattle.tape_set.specs.Lawful.{label_count}
use Rattle.tape_run.proofs.NotedSoFar.{phase_after-append, told_from-append}

-- these items lead from one phase to another, and contain these sections
pub record Runs (p : Phase) (items : List TapeItem) (q : Phase) (ts : List Told) : Type 0 where
  pub after : phase_after p items ≡ q
  pub tells : told_from p items ≡ ts

pub runs_nil : (p : Phase) → Runs p [] p []
runs_nil p = record { after = refl; tells = refl }

pub runs_append : (p q r : Phase) (xs ys : List TapeItem) (ts us : List Told) → Runs p xs q ts
    → Runs q ys r us → Runs p (xs ++ ys) r (ts ++ us)
runs_append p q r xs ys ts us a b = grind (arith, phase_after-append, told_from-append)

pub runs_step : (p q : Phase) (x : TapeItem) (t : Option Told) → step p x ≡ (q, t)
    → Runs p (x ∷ []) q (in_list t)
runs_step p q x t e = record {
  after = ap (λ (s : Phase × Option Told). s.0) e;
  tells = append-nil (in_list (step p x).1) ∙ ap (λ (s : Phase × Option Told). in_list s.1) e;
}

pub runs_headers : (met : Met) (hs : List (List ℕ))
    → Runs (Headers met) (map block hs) (Headers met) []
runs_headers met [] = runs_nil (Headers met)
runs_headers met (h ∷ hs) =
    let r = runs_headers met hs in
    record { after = r.after; tells = r.tells }

pub runs_trailers : (v : List ℕ) (hs : List (List ℕ))
    → Runs (Trailers v) (map block hs) (Trailers v) []
runs_trailers v [] = runs_nil (Trailers v)
runs_trailers v (h ∷ hs) = let r = runs_trailers v hs in record { after = r.after; tells = r.tells }

-- a section with the number of its blocks found so far, none of them bad
abbrev pub whole_met : List ℕ → SectionKey → ℕ → Met
whole_met v key n = record { volume = v; key = key; blocks = n; bad = false }

pub runs_data : (v : List ℕ) (key : SectionKey) (n : ℕ) (cs : List (List ℕ))
    → Runs (Data (whole_met v key n)) (map block cs) (Data (whole_met v key (n + length cs))) []
runs_data v key n [] =
    subst (λ (k : ℕ). Runs (Data (whole_met v key n)) [] (Data (whole_met v key k)) [])
    (omega arith) (runs_nil (Data (whole_met v key n)))
runs_data v key n (c ∷ cs) =
    let r = runs_data v key (n + 1) cs in
    let many : n + 1 + length cs ≡ n + length (c ∷ cs) = omega arith in
    record { after = r.after ∙ ap (λ (k : ℕ). Data (whole_met v key k)) many; tells = r.tells }

abbrev pub key_of : Head1 → SectionKey
key_of head = record { set_id = head.set_id; file = head.sequence; sect = head.sect }

-- a whole section
abbrev pub good_told : List ℕ → Head1 → Trail1 → ℕ → Told
good_told v head trail n =
    (key_of head, record { volume = v; blocks = n; eof = trail.eof; state = Good })

abbrev counted : ℕ → Bool → SectionKey → List ℕ → Bool → Told
counted n same key v eof = (
  key,
  record {
    volume = v;
    blocks = n;
    eof = eof;
    state = if not same then Count else (if false then Bad else Good);
  },
)

abbrev closed_if : Bool → List ℕ → Told → Told → Phase × Option Told
closed_if c v t u = if c then (Trailers v, Some t) else (Over, Some u)

abbrev closed : List ℕ → Told → Phase × Option Told
closed v t = (Trailers v, Some t)

told_good : (v : List ℕ) (key : SectionKey) (trail : Trail1) (n : ℕ) (u : Told) (c same : Bool)
    → closes (whole_met v key n) trail ≡ c → (trail.blocks == label_count n) ≡ same
    → trail.head.sequence ≡ key.file → trail.head.sect ≡ key.sect → trail.blocks ≡ label_count n
    → closed_if c v (counted n same key v trail.eof) u ≡ closed v (counted n true key v trail.eof)
told_good v key trail n u true true a b file sect count = refl
told_good v key trail n u true false a b file sect count =
    absurd (grind (arith, nat_tests, b, count))
told_good v key trail n u false same a b file sect count =
    absurd (grind (arith, nat_tests, a, file, sect))

pub runs_trailer : (v : List ℕ) (head : Head1) (trail : Trail1) (n : ℕ) (b : List ℕ)
    → trail1_at b ≡ Ok trail → trail.head.sequence ≡ head.sequence → trail.head.sect ≡ head.sect
    → trail.blocks ≡ label_count n → Runs (Trailer (whole_met v (key_of head) n)) (block b
    ∷ []) (Trailers v) (good_told v head trail n ∷ [])
runs_trailer v head trail n b is file sect count = grind (arith, runs_step, told_good, cut)

-- a section's items
abbrev pub section_items : List ℕ → List ℕ → List (List ℕ) → List (List ℕ) → List ℕ → List (List ℕ)
    → List TapeItem
section_items hdr1 hdr2 headers content trailer trailers =
    (block hdr1 ∷ []) ++ ((block hdr2 ∷ []) ++ (map block headers ++ ((mark ∷ []) ++ (map block
    content ++ ((mark ∷ []) ++ ((block trailer ∷ []) ++ (map block trailers ++ (mark ∷ []))))))))

-- the labels of a section, which agree with each other and with its blocks
pub record IsWhole (hdr1 hdr2 : List ℕ) (content : List (List ℕ)) (trailer : List ℕ)
    (head : Head1) (trail : Trail1) : Type 0 where
  pub hdr1_is : head1_at hdr1 ≡ Ok head
  pub hdr2_is : kind_at hdr2 ≡ Some kinds.Hdr2
  pub trailer_is : trail1_at trailer ≡ Ok trail
  pub file : trail.head.sequence ≡ head.sequence
  pub sect : trail.head.sect ≡ head.sect
  pub count : trail.blocks ≡ label_count (length content)

-- a complete section is reported as good, if a section may begin there
pub runs_section : (p : Phase) (v hdr1 hdr2 : List ℕ) (headers content : List (List ℕ))
    (trailer : List ℕ) (trailers : List (List ℕ)) (head : Head1) (trail : Trail1)
    → step p (block hdr1) ≡ (Second (met_by v head), None)
    → IsWhole hdr1 hdr2 content trailer head trail
    → Runs p (section_items hdr1 hdr2 headers content trailer trailers) (Next v)
    (good_told v head trail (length content) ∷ [])
runs_section p v hdr1 hdr2 headers content trailer trailers head trail first w =
    let n = length content in
    let met = met_by v head in
    runs_append p (Second met) (Next v) (block hdr1 ∷ []) _ [] _
    (runs_step p (Second met) (block hdr1) None first)
    (runs_append (Second met) (Headers met) (Next v) (block hdr2 ∷ []) _ [] _
    (runs_step (Second met) (Headers met) (block hdr2) None
    (ap (λ (k : Option Kind). (second_with met k, None)) w.hdr2_is))
    (runs_append (Headers met) (Headers met) (Next v) (map block headers) _ [] _
    (runs_headers met headers)
    (runs_append (Headers met) (Data met) (Next v) (mark ∷ []) _ [] _
    (runs_step (Headers met) (Data met) mark None refl)
    (runs_append (Data met) (Data (whole_met v (key_of head) n)) (Next v) (map block content) _ [] _
    (subst (λ (k : ℕ). Runs (Data met) (map block content) (Data (whole_met v (key_of head) k)) [])
    (omega arith) (runs_data v (key_of head) 0 content))
    (runs_append (Data (whole_met v (key_of head) n)) (Trailer (whole_met v (key_of head) n))
    (Next v) (mark ∷ []) _ [] _ (runs_step (Data (whole_met v (key_of head) n))
    (Trailer (whole_met v (key_of head) n)) mark None refl)
    (runs_append (Trailer (whole_met v (key_of head) n)) (Trailers v) (Next v)
    (block trailer ∷ []) _ (good_told v head trail n ∷ []) []
    (runs_trailer v head trail n trailer w.trailer_is w.file w.sect w.count)
    (runs_append (Trailers v) (Trailers v) (Next v) (map block trailers)
    (mark ∷ []) [] [] (runs_trailers v trailers)
    (runs_step (Trailers v) (Next v) mark None refl))))))))
