-- Second header and trailer labels: a label that is read has the fields returned, and every second
-- label is read.
use Rattle.std.proofs.Common.{◌≡◌, ℕ, ◌+◌, ◌<◌, List, [], ◌∷◌, length, Bool, true, false, cond, eqb}
use Rattle.std.proofs.Common.{Ok, Err, refl, subst, arith, rules, inl, inr, ◌⊎◌}
use Rattle.std.proofs.{lemmas.Bool.eqb-true, lemmas.Slice.Eq.bytes_eq-Decides}
use Rattle.std.specs.{Str.bytes_eq, Prelude.codes, Prelude.◌||◌}
use Rattle.tape_label.specs.Reading.{◌>>=◌, eighty, begins_as, number_at, second, format_at}
use Rattle.tape_label.specs.{Reading.offset_at, Reading.head2_at, declared.values.Kind.Kind}
use Rattle.tape_label.specs.declared.values.Format.TheVariants.{Fixed, Counted, Spanned}
use Rattle.tape_label.specs.declared.values.Format.TheVariants.{Undefined, Variable}
use Rattle.tape_label.specs.Formats.{is_standard, letter, least_record}
use Rattle.tape_label.specs.{declared.values.Format.Format}
use Rattle.tape_label.specs.{declared.values.Head2.Head2, Kinds.identifier, Kinds.IsSecond}
use Rattle.tape_label.specs.{Positions.positions, Head2.HasOffset, Head2.IsHead2}
use Rattle.tape_label.specs.declared.label.LabelFault.TheVariants as faults
use Rattle.tape_label.specs.declared.values.Kind.TheVariants as kinds
use Rattle.tape_label.proofs.Steps.{bind_ok, done, ok_is, number_found, number_again}
use Rattle.tape_label.proofs.Steps.{character_found, character_is, size_found, size_again}
use Rattle.tape_label.proofs.Steps.{begins_found}

second_cases : (one two three : Bool) (u : Unit {0})
    → cond (one || two || three) (Ok tt) (Err faults.Identifier) ≡ done u
    → (one ≡ true) ⊎ ((two ≡ true) ⊎ (three ≡ true))
second_cases true two three u e = inl refl
second_cases false true three u e = inr (inl refl)
second_cases false false true u e = inr (inr refl)
second_cases false false false u e = absurd cc

pub second_found : (label : List ℕ) (u : Unit {0}) → second label ≡ Ok u
    → (k : Kind) × IsSecond k × (positions label 1 4 ≡ identifier k)
second_found label u e =
    elim (second_cases (begins_as label kinds.Hdr2) (begins_as label kinds.Eof2)
    (begins_as label kinds.Eov2) u e) [
      | inl p ↦ (kinds.Hdr2, tt, begins_found label kinds.Hdr2 p)
      | inr q ↦ elim q [
        | inl p ↦ (kinds.Eof2, tt, begins_found label kinds.Eof2 p)
        | inr p ↦ (kinds.Eov2, tt, begins_found label kinds.Eov2 p)
      ]
    ]

pub second_again : (label : List ℕ) (k : Kind) → IsSecond k → positions label 1 4 ≡ identifier k
    → second label ≡ Ok tt
second_again label kinds.Hdr2 is named = rw named refl
second_again label kinds.Eof2 is named = rw named refl
second_again label kinds.Eov2 is named = rw named refl
second_again label _ is named = absurd is

format_is : (c : ℕ) (one two three : Bool) (f : Format) → eqb c 70 ≡ one → eqb c 68 ≡ two
    → eqb c 83 ≡ three
    → cond one (Ok Fixed) (cond two (Ok Counted) (cond three (Ok Spanned) (Err (faults.Format c))))
    ≡ done f → c ≡ letter f
format_is c true two three f p q r e = rw (← ok_is Fixed f e) (eqb-true _ _ p)
format_is c false true three f p q r e = rw (← ok_is Counted f e) (eqb-true _ _ q)
format_is c false false true f p q r e = rw (← ok_is Spanned f e) (eqb-true _ _ r)
format_is c false false false f p q r e = absurd cc

pub format_found : (label : List ℕ) (f : Format) → 4 < length label → format_at label ≡ Ok f
    → positions label 5 5 ≡ letter f ∷ []
unfolding format_at
format_found label f lt e = grind (arith, format_is, eqb, character_found)

standard_is : (c : ℕ) (one two three : Bool) (f : Format)
    → cond one (Ok Fixed) (cond two (Ok Counted) (cond three (Ok Spanned) (Err (faults.Format c))))
    ≡ done f → is_standard f ≡ true
standard_is c true two three f e = rw (← ok_is Fixed f e) refl
standard_is c false true three f e = rw (← ok_is Counted f e) refl
standard_is c false false true f e = rw (← ok_is Spanned f e) refl
standard_is c false false false f e = absurd cc

format_standard : (label : List ℕ) (f : Format) → format_at label ≡ Ok f → is_standard f ≡ true
unfolding format_at
format_standard label f e = standard_is _ _ _ _ f e

pub format_again : (label : List ℕ) (f : Format) → 4 < length label → is_standard f ≡ true
    → positions label 5 5 ≡ letter f ∷ [] → format_at label ≡ Ok f
unfolding format_at
format_again label Fixed lt s e = rw (character_is label 4 70 lt e) refl
format_again label Counted lt s e = rw (character_is label 4 68 lt e) refl
format_again label Spanned lt s e = rw (character_is label 4 83 lt e) refl
format_again label Undefined lt s e = absurd cc
format_again label Variable lt s e = absurd cc

offset_is : (label : List ℕ) (n : ℕ) (b : Bool) → length label ≡ 80
    → bytes_eq (positions label 51 52) (codes "  ") ≡ b
    → cond b (Ok 0) (number_at label 51 52 0) ≡ done n → HasOffset label n
offset_is label n true size p e = grind (arith, bytes_eq-Decides, ok_is)
offset_is label n false size p e = inl (number_found label 51 52 0 n (omega arith) e)

pub offset_found : (label : List ℕ) (n : ℕ) → length label ≡ 80 → offset_at label ≡ Ok n
    → HasOffset label n
unfolding offset_at
offset_found label n size e = search (arith, tt, offset_is)

no_space : (n : ℕ) → eqb (48 + n) 32 ≡ false
no_space n = search rules

pub offset_again : (label : List ℕ) (n : ℕ) → HasOffset label n → offset_at label ≡ Ok n
unfolding offset_at
offset_again label n (inl h) = grind (arith, bytes_eq, no_space, number_again)
offset_again label n (inr h) = rw (h.0, h.1) refl

pub head2_found : (label : List ℕ) (h : Head2) → head2_at label ≡ Ok h
    → (k : Kind) × IsHead2 label k h
unfolding head2_at
head2_found label h e =
    let a = bind_ok (eighty label) (λ _. second label >>=
    λ _. format_at label >>= λ format. number_at label 6 10 0 >>= λ block_len. number_at label 11 15
    (least_record format) >>= λ rec_len. offset_at label >>= λ offset. Ok
    (record { format = format; block_len = block_len; rec_len = rec_len; offset = offset })) h e in
    let b = bind_ok (second label)
    (λ _. format_at label >>= λ format. number_at label 6 10 0 >>= λ block_len.
    number_at label 11 15 (least_record format) >>= λ rec_len. offset_at label >>= λ offset.
    Ok (record { format = format; block_len = block_len; rec_len = rec_len; offset = offset })) h
    a.2 in
    let f = bind_ok (format_at label) (λ format. number_at label 6 10 0 >>= λ block_len.
    number_at label 11 15 (least_record format) >>= λ rec_len. offset_at label >>= λ offset.
    Ok (record { format = format; block_len = block_len; rec_len = rec_len; offset = offset })) h
    b.2 in
    let l = bind_ok (number_at label 6 10 0) (λ block_len. number_at label 11 15
    (least_record f.0) >>= λ rec_len. offset_at label >>= λ offset. Ok
    (record { format = f.0; block_len = block_len; rec_len = rec_len; offset = offset })) h f.2 in
    let r =
    bind_ok (number_at label 11 15 (least_record f.0)) (λ rec_len. offset_at label >>= λ offset.
    Ok (record { format = f.0; block_len = l.0; rec_len = rec_len; offset = offset })) h l.2 in
    let o = bind_ok (offset_at label) (λ offset.
    Ok (record { format = f.0; block_len = l.0; rec_len = r.0; offset = offset })) h r.2 in
    let size = size_found label a.0 a.1 in
    let which = second_found label b.0 b.1 in
    let made : Head2 = record { format = f.0; block_len = l.0; rec_len = r.0; offset = o.0 } in (
      which.0,
      subst (λ (h : Head2). IsHead2 label which.0 h) {x = made} (ok_is made h o.2) record {
        second = which.1;
        kind = record { size = size; named = which.2 };
        standard = format_standard label f.0 f.1;
        format = format_found label f.0 (omega arith) f.1;
        block_len = number_found label 6 10 0 l.0 (omega arith) l.1;
        rec_len = number_found label 11 15 (least_record f.0) r.0 (omega arith) r.1;
        offset = offset_found label o.0 size o.1;
      },
    )

pub head2_again : (label : List ℕ) (k : Kind) (h : Head2) → IsHead2 label k h
    → head2_at label ≡ Ok h
unfolding head2_at
head2_again label k h is =
    rw (
      size_again label is.kind.size,
      second_again label k is.second is.kind.named,
      format_again label h.format (omega (arith, is.kind.size)) is.standard is.format,
      number_again label 6 10 0 h.block_len is.block_len,
      number_again label 11 15 (least_record h.format) h.rec_len is.rec_len,
      offset_again label h.offset is.offset,
    ) refl
