-- The form and the rank of a copy that was found as it is.
use Rattle.std.proofs.Common.{◌≡◌, ◌≤◌, ℕ, ◌+◌, ◌*◌, ◌-◌, ◌==◌, ◌&&◌, Bool, true, false, List}
use Rattle.std.proofs.Common.{length, Option, Some, None, refl, sym, ap, ◌∙◌, arith, inl, inr}
use Rattle.std.proofs.Common.{eq-eqb, if◌then◌else◌, nat_le, is_none}
use Rattle.std.proofs.lemmas.Bool.Decides.{nat_tests}
use Rattle.tape_label.specs.declared.values.Format.{Format}
use Rattle.tape_label.specs.declared.values.Format.TheVariants.{Fixed, Counted, Spanned}
use Rattle.tape_label.specs.declared.values.Format.TheVariants.{Undefined, Variable}
use Rattle.tape_label.specs.{Formats.least_record, Head2.HasOffset, Reading.wide_head2_at}
use Rattle.tape_label.proofs.{Second.head2_again, Wide.wide_as_strict}
use Rattle.tape_set.specs.Layout.{Section}
use Rattle.tape_set.specs.Lawful.{FileForm, TellsForm, binding_len, label_count}
use Rattle.tape_core.specs.{Known.known_of, Range.form_in_range}
use Rattle.tape_run.specs.SalvageWalk.{FoundAt, form_by, form_of}
use Rattle.tape_run.specs.{SalvageCopies.is_complete, SalvageCopies.rank, SalvageFile.closed_copy}
use Rattle.tape_run.specs.{SalvageWhole.not_read, SalvageSections.SectionRead, SalvageSets.rank_of}
use Rattle.tape_run.proofs.{SalvageOpened.AllRead, SalvageFound.IsFound}

-- ---- the form that the labels record

pub in_range_by : (format : Format) (n m : ℕ) (file_id : List ℕ) → least_record format ≤ n
    → n ≤ 99999 → m ≤ 99
    → form_in_range (known_of format (binding_len format n) m file_id) ≡ true
in_range_by Fixed n m file_id least most fits =
    let a : nat_le 1 n ≡ true = grind (arith, nat_tests) in
    let b : nat_le n 99999 ≡ true = grind (arith, nat_tests) in
    let c : nat_le m 99 ≡ true = grind (arith, nat_tests) in
    rw (a, b, c) refl
in_range_by Counted n m file_id least most fits =
    let c : nat_le m 99 ≡ true = grind (arith, nat_tests) in rw c refl
in_range_by Spanned n m file_id least most fits =
    let c : nat_le m 99 ≡ true = grind (arith, nat_tests) in rw c refl
in_range_by Undefined n m file_id least most fits =
    let c : nat_le m 99 ≡ true = grind (arith, nat_tests) in rw c refl
in_range_by Variable n m file_id least most fits =
    let c : nat_le m 99 ≡ true = grind (arith, nat_tests) in rw c refl

pub few_digits : (label : List ℕ) (n : ℕ) → HasOffset label n → n ≤ 99
few_digits label n (inl h) = let f = h.fits in omega (arith, f)
few_digits label n (inr (spaces, e)) = omega (arith, e)

pub form_read : (form : FileForm) (s : Section) (t : TellsForm form s)
    → form_by t.head.file_id (wide_head2_at s.hdr2) ≡ Some form
form_read form s t =
    let g = t.second in
    let len = t.hdr2.rec_len in
    let most = len.fits in
    ap (form_by t.head.file_id) (wide_as_strict _ _ (head2_again _ _ _ t.hdr2))
    ∙ ap (λ (b : Bool). if b then Some (form_of t.head.file_id g) else None)
    (in_range_by _ _ _ t.head.file_id len.at_least (omega (arith, most))
    (few_digits _ _ t.hdr2.offset)) ∙ ap (λ (f : FileForm). Some f) t.told

-- ---- a copy

-- a copy is complete exactly if all blocks were read
pub all_known : (set_id : List ℕ) (n : ℕ) (s : SectionRead) (t : FoundAt) (f : IsFound set_id s t)
    → AllRead s.headers → (b : Bool) → (not_read s.blocks == 0) ≡ b
    → is_complete (closed_copy n f.section f.closing) ≡ b
all_known set_id n s t f heads b e =
    let u = f.section in
    let k = f.closing in
    let counted : (k.count == label_count u.blocks) ≡ true =
    eq-eqb k.count (label_count u.blocks) (f.has.count ∙ ap label_count (sym f.has.blocks)) in
    ap (λ (c : Bool). is_none u.certain && is_none (if c then None else Some k.count)) counted
    ∙ by b e u.certain refl
  where
    by : (b : Bool) → (not_read s.blocks == 0) ≡ b → (o : Option ℕ) → f.section.certain ≡ o
        → (is_none o && true) ≡ b
    by true e None is = refl
    by false e None is =
        let none = f.has.doubt is in
        let z : (not_read s.blocks == 0) ≡ true = eq-eqb (not_read s.blocks) 0 none in
        absurd (cc (sym z ∙ e))
    by true e (Some m) is =
        let none : not_read s.blocks ≡ 0 = grind (arith, nat_tests, e) in
        absurd (cc (sym is ∙ f.has.certain heads none))
    by false e (Some m) is = refl

pub found_rank : (set_id : List ℕ) (n : ℕ) (s : SectionRead) (t : FoundAt) (f : IsFound set_id s t)
    → AllRead s.headers → rank (closed_copy n f.section f.closing) ≡ rank_of s.blocks
found_rank set_id n s t f heads =
    let u = f.section in
    ap (λ (b : Bool). (if b then 8589934592 else 0) + (2 * (u.blocks - u.unreadable) + 1))
    (all_known set_id n _ t f heads (not_read s.blocks == 0) refl) ∙ ap (λ (m : ℕ).
    (if not_read s.blocks == 0 then 8589934592 else 0) + (2 * (m - u.unreadable) + 1)) f.has.blocks
    ∙ ap (λ (m : ℕ). (if not_read s.blocks == 0 then 8589934592 else 0)
    + (2 * (length s.blocks - m) + 1)) f.has.unread
