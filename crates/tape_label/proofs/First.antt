-- The volume label, first header labels and first trailer labels: a label that is read has the
-- fields returned, and every label is read.
use Rattle.std.proofs.Common.{◌≡◌, ℕ, List, length, Bool, true, false, cond, Ok, Err, refl, subst}
use Rattle.std.proofs.Common.{arith, inl, inr, ◌⊎◌}
use Rattle.tape_label.specs.Reading.{◌>>=◌, eighty, of_kind, number_at, vol1_fields, vol1_at}
use Rattle.tape_label.specs.Reading.{head_fields, head_at, head1_at, end_at, trail1_at}
use Rattle.tape_label.specs.Kinds.{HasKind, identifier, trailer}
use Rattle.tape_label.specs.{declared.values.Vol1.Vol1, declared.values.Head1.Head1}
use Rattle.tape_label.specs.{declared.values.Trail1.Trail1, Positions.positions, Vol1.IsVol1}
use Rattle.tape_label.specs.{Head1.HasHead, Head1.IsHead1, Trail1.IsTrail1}
use Rattle.tape_label.specs.declared.label.LabelFault.TheVariants as faults
use Rattle.tape_label.specs.declared.values.Kind.TheVariants as kinds
use Rattle.tape_label.proofs.Steps.{bind_ok, done, ok_is, number_found, number_again}
use Rattle.tape_label.proofs.Steps.{character_found, character_is, size_found, size_again}
use Rattle.tape_label.proofs.Steps.{begins_found, named_found, named_again}

-- ---- volume labels

pub vol1_found : (label : List ℕ) (v : Vol1) → vol1_at label ≡ Ok v → IsVol1 label v
unfolding vol1_at
vol1_found label v e =
    let a =
    bind_ok (eighty label) (λ _. of_kind label kinds.Vol1 >>= λ _. Ok (vol1_fields label)) v e in
    let b = bind_ok (of_kind label kinds.Vol1) (λ _. Ok (vol1_fields label)) v a.2 in
    let size = size_found label a.0 a.1 in
    subst (λ (v : Vol1). IsVol1 label v) (ok_is (vol1_fields label) v b.2) record {
      kind = record { size = size; named = named_found label kinds.Vol1 b.0 b.1 };
      volume = refl;
      access = character_found label 10 (omega arith);
      implementation = refl;
      owner = refl;
      version = character_found label 79 (omega arith);
    }

pub vol1_again : (label : List ℕ) (v : Vol1) → IsVol1 label v → vol1_at label ≡ Ok v
unfolding vol1_at
vol1_again label v is =
    let access = character_is label 10 v.access (omega (arith, is.kind.size)) is.access in
    let version = character_is label 79 v.version (omega (arith, is.kind.size)) is.version in
    rw (
      size_again label is.kind.size,
      named_again label kinds.Vol1 is.kind.named,
      is.volume,
      access,
      is.implementation,
      is.owner,
      version,
    ) refl

-- a volume label has no field that can fail
pub vol1_kind : (label : List ℕ) → HasKind label kinds.Vol1 → vol1_at label ≡ Ok (vol1_fields label)
unfolding vol1_at
vol1_kind label has = rw (size_again label has.size, named_again label kinds.Vol1 has.named) refl

-- ---- fields that first header and first trailer labels share

head_found : (label : List ℕ) (h : Head1) → length label ≡ 80 → head_at label ≡ Ok h
    → HasHead label h
unfolding head_at
head_found label h size e =
    let a = bind_ok (number_at label 28 31 1)
    (λ sect. number_at label 32 35 1 >>= λ sequence. Ok (head_fields label sect sequence)) h e in
    let b =
    bind_ok (number_at label 32 35 1) (λ sequence. Ok (head_fields label a.0 sequence)) h a.2 in
    subst (λ (h : Head1). HasHead label h) (ok_is (head_fields label a.0 b.0) h b.2) record {
      file_id = refl;
      set_id = refl;
      sect = number_found label 28 31 1 a.0 (omega arith) a.1;
      sequence = number_found label 32 35 1 b.0 (omega arith) b.1;
      generation = refl;
      gen_version = refl;
      created = refl;
      expires = refl;
      access = character_found label 53 (omega arith);
      implementation = refl;
    }

head_again : (label : List ℕ) (h : Head1) → length label ≡ 80 → HasHead label h
    → head_at label ≡ Ok h
unfolding head_at
head_again label h size has =
    let access = character_is label 53 h.access (omega arith) has.access in
    rw (
      number_again label 28 31 1 h.sect has.sect,
      number_again label 32 35 1 h.sequence has.sequence,
      has.file_id,
      has.set_id,
      has.generation,
      has.gen_version,
      has.created,
      has.expires,
      access,
      has.implementation,
    ) refl

-- ---- first header labels

pub head1_found : (label : List ℕ) (h : Head1) → head1_at label ≡ Ok h → IsHead1 label h
unfolding head1_at
head1_found label h e =
    let a = bind_ok (eighty label) (λ _. of_kind label kinds.Hdr1 >>= λ _. head_at label) h e in
    let b = bind_ok (of_kind label kinds.Hdr1) (λ _. head_at label) h a.2 in
    let size = size_found label a.0 a.1 in
    record {
      kind = record { size = size; named = named_found label kinds.Hdr1 b.0 b.1 };
      head = head_found label h size b.2;
    }

pub head1_again : (label : List ℕ) (h : Head1) → IsHead1 label h → head1_at label ≡ Ok h
unfolding head1_at
head1_again label h is = grind (arith, size_again, named_again, head_again)

-- ---- first trailer labels

end_cases : (one two eof : Bool)
    → cond one (Ok true) (cond two (Ok false) (Err faults.Identifier)) ≡ done eof
    → ((one ≡ true) × (true ≡ eof)) ⊎ ((two ≡ true) × (false ≡ eof))
end_cases true two eof e = inl (refl, cc)
end_cases false true eof e = inr (refl, cc)
end_cases false false eof e = absurd cc

end_found : (label : List ℕ) (eof : Bool) → end_at label ≡ Ok eof
    → positions label 1 4 ≡ identifier (trailer eof)
unfolding end_at
end_found label eof e = grind (arith, end_cases, begins_found)

end_again : (label : List ℕ) (eof : Bool) → positions label 1 4 ≡ identifier (trailer eof)
    → end_at label ≡ Ok eof
unfolding end_at
end_again label true named = rw named refl
end_again label false named = rw named refl

pub trail1_found : (label : List ℕ) (t : Trail1) → trail1_at label ≡ Ok t → IsTrail1 label t
unfolding trail1_at
trail1_found label t e =
    let a = bind_ok (eighty label) (λ _. end_at label >>= λ eof. head_at label >>= λ head. number_at
    label 55 60 0 >>= λ blocks. Ok (record { eof = eof; head = head; blocks = blocks })) t e in
    let b = bind_ok (end_at label) (λ eof. head_at label >>= λ head. number_at label 55 60 0 >>=
    λ blocks. Ok (record { eof = eof; head = head; blocks = blocks })) t a.2 in
    let c = bind_ok (head_at label) (λ head. number_at label 55 60 0 >>=
    λ blocks. Ok (record { eof = b.0; head = head; blocks = blocks })) t b.2 in
    let d = bind_ok (number_at label 55 60 0)
    (λ blocks. Ok (record { eof = b.0; head = c.0; blocks = blocks })) t c.2 in
    let size = size_found label a.0 a.1 in
    let made : Trail1 = record { eof = b.0; head = c.0; blocks = d.0 } in
    subst (λ (t : Trail1). IsTrail1 label t) {x = made} (ok_is made t d.2) record {
      kind = record { size = size; named = end_found label b.0 b.1 };
      head = head_found label c.0 size c.1;
      blocks = number_found label 55 60 0 d.0 (omega arith) d.1;
    }

pub trail1_again : (label : List ℕ) (t : Trail1) → IsTrail1 label t → trail1_at label ≡ Ok t
unfolding trail1_at
trail1_again label t is =
    rw (
      size_again label is.kind.size,
      end_again label t.eof is.kind.named,
      head_again label t.head is.kind.size is.head,
      number_again label 55 60 0 t.blocks is.blocks,
    ) refl
