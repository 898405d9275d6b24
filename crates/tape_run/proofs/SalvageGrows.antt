-- The recovered records grow, and up to the first missing block none is left out.
use Rattle.std.proofs.Common.{◌≡◌, Bool, true, false, List, [], ◌∷◌, ◌++◌, Result, Ok, Err, Some}
use Rattle.std.proofs.Common.{◌&&◌, refl, sym, ap, subst, ◌∙◌, append-nil, append_assoc}
use Rattle.std.proofs.Common.{if◌then◌else◌}
use Rattle.std.specs.List.{AllByRecursion}
use Rattle.tape_blocks.specs.declared.check.BlockFault.{BlockFault}
use Rattle.tape_blocks.specs.{Block.Portion, Spans.continues, Spans.leaves, Spans.InOrder}
use Rattle.tape_set.specs.Lawful.{FileForm}
use Rattle.tape_run.specs.SalvageRecords.{Piece, nothing, with_part, with_parts, with_open}
use Rattle.tape_run.specs.SalvageRecords.{with_end, torn, mended, mended_by, judged_at, taken_by}
use Rattle.tape_run.specs.SalvageRecords.{parts_before, begun_at, fault_in, content_for}
use Rattle.tape_core.specs.Parts.{parts_in}
use Rattle.tape_run.specs.SalvageWhole.{Blocks, all_parts, piece_after, IsBlock, FirstStays}
use Rattle.tape_run.specs.SalvageWhole.{NeverLess}
use Rattle.tape_run.proofs.SalvageWhole.{on, is_judged, same_piece, split_order}

-- ---- what was recovered remains

abbrev Stays : Piece → Piece → Type 0
Stays p q = (more : List Portion) × (q.done ≡ p.done ++ more)

same_stays : (p q : Piece) → q.done ≡ p.done → Stays p q
same_stays p q e = ([], e ∙ sym (append-nil p.done))

stays_then : (p q r : Piece) → Stays p q → Stays q r → Stays p r
stays_then p q r (a, e) (b, f) = (
  a ++ b,
  f ∙ ap (λ (l : List Portion). l ++ b) e ∙ append_assoc p.done a b,
)

part_by : (p : Piece) (x : Portion) (t l : Bool)
    → Stays p (if t then p else (if l then with_open p x else with_end p x))
part_by p x true l = same_stays p p refl
part_by p x false true = same_stays p (with_open p x) refl
part_by p x false false = (p.front ++ x ∷ [], append_assoc p.done p.front (x ∷ []))

parts_stay : (p : Piece) (xs : List Portion) → Stays p (with_parts p xs)
parts_stay p [] = same_stays p p refl
parts_stay p (x ∷ xs) = stays_then p (with_part p x) (with_parts (with_part p x) xs)
    (part_by p x (p.torn && continues x.span) (leaves x.span)) (parts_stay (with_part p x) xs)

judged_stays : (form : FileForm) (p : Piece) (b : List _) (r : Result Bool BlockFault)
    → Stays p (mended_by form p b r)
judged_stays form p b (Ok e) = parts_stay p (parts_in form b)
judged_stays form p b (Err f) =
    let q = taken_by form p b (Err f) in
    stays_then p q (torn q) (parts_stay p (parts_before form (begun_at form p b) b
    (fault_in form b f))) (same_stays q (torn q) refl)

pub first_stays : FirstStays
first_stays form p [] = same_stays p p refl
first_stays form p ((true, f) ∷ bs) = stays_then p (mended (Some form) p f.bytes)
    (piece_after form (mended (Some form) p f.bytes) bs)
    (judged_stays form p (content_for form f.bytes) (judged_at form p (content_for form f.bytes)))
    (first_stays form (mended (Some form) p f.bytes) bs)
first_stays form p ((false, f) ∷ bs) =
    stays_then p (torn p) (piece_after form (torn p) bs) (same_stays p (torn p) refl)
    (first_stays form (torn p) bs)

-- ---- if nothing is missing

record Grown (p q : Piece) (xs : List Portion) (end : Bool) : Type 0 where
  whole : q.torn ≡ false
  begun : q.begun ≡ end
  all : q.done ++ q.front ≡ (p.done ++ p.front) ++ xs

grown_part : (p : Piece) (x : Portion) (l : Bool) → leaves x.span ≡ l → p.torn ≡ false
    → Grown p (with_part p x) (x ∷ []) l
grown_part p x true l t = record {
  whole = rw (t, l) refl;
  begun = rw (t, l) refl;
  all = rw (t, l) (sym (append_assoc p.done p.front (x ∷ [])));
}
grown_part p x false l t = record {
  whole = rw (t, l) refl;
  begun = rw (t, l) refl;
  all = rw (t, l) (append-nil ((p.done ++ p.front) ++ x ∷ []));
}

grown_parts : (p : Piece) (xs : List Portion) (end : Bool) → p.torn ≡ false
    → InOrder p.begun xs end → Grown p (with_parts p xs) xs end
grown_parts p [] end t o =
    record { whole = t; begun = o; all = sym (append-nil (p.done ++ p.front)) }
grown_parts p (x ∷ xs) end t (c, o) =
    let one = grown_part p x (leaves x.span) refl t in
    let q = with_part p x in
    let rest = grown_parts q xs end one.whole (subst (λ b. InOrder b xs end) (sym one.begun) o) in
    record {
      whole = rest.whole;
      begun = rest.begun;
      all = rest.all ∙ ap (λ (l : List Portion). l ++ xs) one.all
          ∙ append_assoc (p.done ++ p.front) (x ∷ []) xs;
    }

grown_blocks : (form : FileForm) (p : Piece) (bs : Blocks) (end : Bool)
    → AllByRecursion (IsBlock form) bs → AllByRecursion (λ b. b.0 ≡ true) bs → p.torn ≡ false
    → InOrder p.begun (all_parts bs) end → Grown p (piece_after form p bs) (all_parts bs) end
grown_blocks form p [] end is all t o =
    record { whole = t; begun = o; all = sym (append-nil (p.done ++ p.front)) }
grown_blocks form p ((false, f) ∷ bs) end (i, is) (a, all) t o = absurd (cc a)
grown_blocks form p ((true, f) ∷ bs) end (i, is) (a, all) t o =
    let cut = split_order p.begun end f.parts (all_parts bs) o in
    let j = is_judged form p f.bytes f.parts p.begun cut.0 true p.front i.holds cut.1
    (on t refl refl refl) in
    let q = mended (Some form) p f.bytes in
    let one : Grown p q f.parts cut.0 =
    subst (λ z. Grown p z f.parts cut.0) (sym (same_piece form p f.bytes f.parts j.0 i.holds j.1))
    (grown_parts p f.parts cut.0 t cut.1) in
    let rest = grown_blocks form q bs end is all one.whole
    (subst (λ b. InOrder b (all_parts bs) end) (sym one.begun) cut.2) in
    record {
      whole = rest.whole;
      begun = rest.begun;
      all = rest.all ∙ ap (λ (l : List Portion). l ++ all_parts bs) one.all
          ∙ append_assoc (p.done ++ p.front) f.parts (all_parts bs);
    }

pub after_append : (form : FileForm) (p : Piece) (bs cs : Blocks)
    → piece_after form p (bs ++ cs) ≡ piece_after form (piece_after form p bs) cs
after_append form p [] cs = refl
after_append form p (b ∷ bs) cs =
    after_append form (if b.0 then mended (Some form) p b.1.bytes else torn p) bs cs

pub never_less : NeverLess
never_less form bs more end is all o =
    let p = piece_after form nothing bs in
    let rest = first_stays form p more in (
      (grown_blocks form nothing bs end is all refl o).all,
      (rest.0, ap (λ (q : Piece). q.done) (after_append form nothing bs more) ∙ rest.1),
    )
