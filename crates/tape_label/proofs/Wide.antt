-- The wider reading of second labels: a label that is read has the fields returned, every such
-- label is read, and a label that the strict reading accepts has the same fields.
use Rattle.std.proofs.Common.{◌≡◌, ℕ, ◌+◌, ◌/◌, ◌%◌, ◌<◌, ◌≤◌, List, [], ◌∷◌, length, Bool, true}
use Rattle.std.proofs.Common.{false, cond, eqb, Ok, Result, refl, subst, arith, rules, inl, inr}
use Rattle.std.proofs.{lemmas.Bool.eqb-true, lemmas.Slice.Eq.bytes_eq-Decides}
use Rattle.std.specs.{Str.bytes_eq, Prelude.codes}
use Rattle.tape_label.specs.{Digits.digits, declared.label.LabelFault.LabelFault}
use Rattle.tape_label.specs.Reading.{◌>>=◌, eighty, number_at, second, format_at, offset_at}
use Rattle.tape_label.specs.Reading.{head2_at, wide_head2_at, wide_format_at, number_or_spaces}
use Rattle.tape_label.specs.{Reading.rec_len_at, declared.values.Kind.Kind}
use Rattle.tape_label.specs.declared.values.Format.TheVariants.{Fixed, Counted, Spanned}
use Rattle.tape_label.specs.declared.values.Format.TheVariants.{Undefined, Variable}
use Rattle.tape_label.specs.{Formats.letter, Formats.least_record, declared.values.Format.Format}
use Rattle.tape_label.specs.{declared.values.Head2.Head2, Positions.HasNumber, Head2.IsHead2}
use Rattle.tape_label.specs.{Positions.positions, WideHead2.IsWideHead2, WideHead2.HasRecLen}
use Rattle.tape_label.specs.WideHead2.{HasNumberOrSpaces}
use Rattle.tape_label.proofs.Steps.{bind_ok, done, ok_is, number_found, number_again}
use Rattle.tape_label.proofs.Steps.{character_found, character_is, size_found, size_again}
use Rattle.tape_label.proofs.Second.{second_found, second_again, format_found}
use Rattle.tape_label.proofs.Second.{offset_found, offset_again, head2_found}

-- ---- the format

wide_is : (label : List ℕ) (c : ℕ) (one two : Bool) (r : Result Format LabelFault) (f : Format)
    → eqb c 85 ≡ one → eqb c 86 ≡ two → (r ≡ Ok f → c ≡ letter f)
    → cond one (Ok Undefined) (cond two (Ok Variable) r) ≡ done f → c ≡ letter f
wide_is label c true two r f p q h e = rw (← ok_is Undefined f e) (eqb-true _ _ p)
wide_is label c false true r f p q h e = rw (← ok_is Variable f e) (eqb-true _ _ q)
wide_is label c false false r f p q h e = h e

-- a list of one element is known by the element
one_is : (a b : ℕ) → a ∷ [] ≡ b ∷ [] → a ≡ b
one_is a b e = cc

wide_format_found : (label : List ℕ) (f : Format) → 4 < length label → wide_format_at label ≡ Ok f
    → positions label 5 5 ≡ letter f ∷ []
unfolding wide_format_at
wide_format_found label f lt e = grind (arith, wide_is, eqb, character_found, format_found, one_is)

wide_format_again : (label : List ℕ) (f : Format) → 4 < length label
    → positions label 5 5 ≡ letter f ∷ [] → wide_format_at label ≡ Ok f
unfolding wide_format_at format_at
wide_format_again label Fixed lt e = rw (character_is label 4 70 lt e) refl
wide_format_again label Counted lt e = rw (character_is label 4 68 lt e) refl
wide_format_again label Spanned lt e = rw (character_is label 4 83 lt e) refl
wide_format_again label Undefined lt e = rw (character_is label 4 85 lt e) refl
wide_format_again label Variable lt e = rw (character_is label 4 86 lt e) refl

-- ---- the lengths

spaces_is : (label : List ℕ) (first last n : ℕ) (b : Bool) → last ≤ length label
    → bytes_eq (positions label first last) (codes "     ") ≡ b
    → cond b (Ok 0) (number_at label first last 0) ≡ done n → HasNumberOrSpaces label first last n
spaces_is label first last n true le p e = grind (arith, bytes_eq-Decides, ok_is)
spaces_is label first last n false le p e = inl (number_found label first last 0 n le e)

spaces_found : (label : List ℕ) (first last n : ℕ) → last ≤ length label
    → number_or_spaces label first last ≡ Ok n → HasNumberOrSpaces label first last n
unfolding number_or_spaces
spaces_found label first last n le e =
    spaces_is label first last n (bytes_eq (positions label first last) (codes "     ")) le refl e

no_space : (n : ℕ) → eqb (48 + n) 32 ≡ false
no_space n = search rules

no_spaces : (ds : List ℕ) (n : ℕ) → ds ≡ digits 5 n → bytes_eq ds (codes "     ") ≡ false
no_spaces ds n e = rw (e, no_space (n / 10 / 10 / 10 / 10 % 10)) refl

blocks_again : (label : List ℕ) (n : ℕ) → HasNumberOrSpaces label 6 10 n
    → number_or_spaces label 6 10 ≡ Ok n
unfolding number_or_spaces
blocks_again label n (inl h) =
    rw (no_spaces (positions label 6 10) n h.spelled) (number_again label 6 10 0 n h)
blocks_again label n (inr h) = rw (h.0, h.1) refl

records_again : (label : List ℕ) (n : ℕ) → HasNumberOrSpaces label 11 15 n
    → number_or_spaces label 11 15 ≡ Ok n
unfolding number_or_spaces
records_again label n (inl h) =
    rw (no_spaces (positions label 11 15) n h.spelled) (number_again label 11 15 0 n h)
records_again label n (inr h) = rw (h.0, h.1) refl

record_found : (label : List ℕ) (f : Format) (n : ℕ) → length label ≡ 80
    → rec_len_at f label ≡ Ok n → HasRecLen f label n
record_found label Fixed n size e = number_found label 11 15 1 n (omega arith) e
record_found label Counted n size e = spaces_found label 11 15 n (omega arith) e
record_found label Spanned n size e = spaces_found label 11 15 n (omega arith) e
record_found label Undefined n size e = spaces_found label 11 15 n (omega arith) e
record_found label Variable n size e = spaces_found label 11 15 n (omega arith) e

record_again : (label : List ℕ) (f : Format) (n : ℕ) → HasRecLen f label n
    → rec_len_at f label ≡ Ok n
record_again label Fixed n h = number_again label 11 15 1 n h
record_again label Counted n h = records_again label n h
record_again label Spanned n h = records_again label n h
record_again label Undefined n h = records_again label n h
record_again label Variable n h = records_again label n h

-- ---- the label

pub wide_found : (label : List ℕ) (h : Head2) → wide_head2_at label ≡ Ok h
    → (k : Kind) × IsWideHead2 label k h
unfolding wide_head2_at
wide_found label h e =
    let a = bind_ok (eighty label) (λ _. second label >>=
    λ _. wide_format_at label >>= λ format. number_or_spaces label 6 10 >>= λ block_len. rec_len_at
    format label >>= λ rec_len. offset_at label >>= λ offset. Ok
    (record { format = format; block_len = block_len; rec_len = rec_len; offset = offset })) h e in
    let b = bind_ok (second label)
    (λ _. wide_format_at label >>= λ format. number_or_spaces label 6 10 >>= λ block_len.
    rec_len_at format label >>= λ rec_len. offset_at label >>= λ offset.
    Ok (record { format = format; block_len = block_len; rec_len = rec_len; offset = offset })) h
    a.2 in
    let f = bind_ok (wide_format_at label) (λ format. number_or_spaces label 6 10 >>= λ block_len.
    rec_len_at format label >>= λ rec_len. offset_at label >>= λ offset.
    Ok (record { format = format; block_len = block_len; rec_len = rec_len; offset = offset })) h
    b.2 in
    let l = bind_ok (number_or_spaces label 6 10) (λ block_len. rec_len_at f.0 label
    >>= λ rec_len. offset_at label >>= λ offset. Ok
    (record { format = f.0; block_len = block_len; rec_len = rec_len; offset = offset })) h f.2 in
    let r =
    bind_ok (rec_len_at f.0 label) (λ rec_len. offset_at label >>= λ offset.
    Ok (record { format = f.0; block_len = l.0; rec_len = rec_len; offset = offset })) h l.2 in
    let o = bind_ok (offset_at label) (λ offset.
    Ok (record { format = f.0; block_len = l.0; rec_len = r.0; offset = offset })) h r.2 in
    let size = size_found label a.0 a.1 in
    let which = second_found label b.0 b.1 in
    let made : Head2 = record { format = f.0; block_len = l.0; rec_len = r.0; offset = o.0 } in (
      which.0,
      subst (λ (h : Head2). IsWideHead2 label which.0 h) {x = made} (ok_is made h o.2) record {
        second = which.1;
        kind = record { size = size; named = which.2 };
        format = wide_format_found label f.0 (omega arith) f.1;
        block_len = spaces_found label 6 10 l.0 (omega arith) l.1;
        rec_len = record_found label f.0 r.0 size r.1;
        offset = offset_found label o.0 size o.1;
      },
    )

pub wide_again : (label : List ℕ) (k : Kind) (h : Head2) → IsWideHead2 label k h
    → wide_head2_at label ≡ Ok h
unfolding wide_head2_at
wide_again label k h is =
    rw (
      size_again label is.kind.size,
      second_again label k is.second is.kind.named,
      wide_format_again label h.format (omega (arith, is.kind.size)) is.format,
      blocks_again label h.block_len is.block_len,
      record_again label h.format h.rec_len is.rec_len,
      offset_again label h.offset is.offset,
    ) refl

-- ---- the strict reading

strict_record : (label : List ℕ) (f : Format) (n : ℕ)
    → HasNumber label 11 15 (least_record f) n → HasRecLen f label n
strict_record label Fixed n h = h
strict_record label Counted n h = inl h
strict_record label Spanned n h = inl h
strict_record label Undefined n h = inl h
strict_record label Variable n h = inl h

pub strict_is_wide : (label : List ℕ) (k : Kind) (h : Head2) → IsHead2 label k h
    → IsWideHead2 label k h
strict_is_wide label k h is = record {
  second = is.second;
  kind = is.kind;
  format = is.format;
  block_len = inl is.block_len;
  rec_len = strict_record label h.format h.rec_len is.rec_len;
  offset = is.offset;
}

pub wide_as_strict : (label : List ℕ) (h : Head2) → head2_at label ≡ Ok h
    → wide_head2_at label ≡ Ok h
wide_as_strict label h e =
    let found = head2_found label h e in
    wide_again label found.0 h (strict_is_wide label found.0 h found.1)
