-- Laws about joining parts to records, and about the order of their spans.
use Rattle.std.proofs.Common.{◌≡◌, ℕ, drop, Bool, true, false, List, [], ◌∷◌, ◌++◌}
use Rattle.std.proofs.Common.{Option, Some, None, refl, sym, ap, ◌∙◌}
use Rattle.std.proofs.lemmas.List.{append-nil}
use Rattle.std.specs.Prelude.{is_some, if◌then◌else◌}
use Rattle.tape_label.specs.declared.values.Format.{Format}
use Rattle.tape_blocks.specs.Spans.{Joined, InOrder, leaves, continues, span_of, content_after}
use Rattle.tape_blocks.specs.Spans.{with_record, join_after, join, joined_with}
use Rattle.tape_blocks.specs.{Block.Portion, Block.HoldsUnits}
use Rattle.tape_blocks.proofs.{PartsLaws.parts_are}

by_end : (b : Bool) (content : List ℕ) (ps qs : List Portion) → ((begun : Option (List ℕ))
    → join_after begun (ps ++ qs) ≡ joined_with (join_after begun ps) qs)
    → (if b then join_after (Some content) (ps ++ qs) else with_record content
    (join_after None (ps ++ qs))) ≡ joined_with (if b then join_after
    (Some content) ps else with_record content (join_after None ps)) qs
by_end true content ps qs same = same (Some content)
by_end false content ps qs same = ap (with_record content) (same None)

-- The finished records of the first list are followed by those of the second, which continues the
-- first list's unfinished record.
pub join-append : (begun : Option (List ℕ)) (ps qs : List Portion)
    → join_after begun (ps ++ qs) ≡ joined_with (join_after begun ps) qs
join-append begun [] qs = refl
join-append begun (p ∷ ps) qs =
    by_end (leaves p.span) (content_after begun p.bytes) ps qs (λ b. join-append b ps qs)

pub join_ends : (ps : List Portion) (p : Portion) (records : List (List ℕ)) (front : Option (List
    ℕ)) → join ps ≡ record { records = records; rest = front } → leaves p.span ≡ false → join (ps
    ++ p ∷ []) ≡ record { records = records ++ content_after front p.bytes ∷ []; rest = None }
join_ends ps p records front e ends = join-append None ps (p ∷ [])
    ∙ ap (λ (j : Joined). joined_with j (p ∷ [])) e ∙ rw ends refl

pub join_goes_on : (ps : List Portion) (p : Portion) (records : List (List ℕ)) (front : Option (List
    ℕ)) → join ps ≡ record { records = records; rest = front } → leaves p.span ≡ true
    → join (ps ++ p ∷ []) ≡ record { records = records; rest = Some (content_after front p.bytes) }
join_goes_on ps p records front e goes = join-append None ps (p ∷ [])
    ∙ ap (λ (j : Joined). joined_with j (p ∷ [])) e ∙ rw (goes, append-nil records) refl

rest_by : (b : Bool) (content : List ℕ) (ps : List Portion) (end : Bool) → InOrder b ps end
    → ((begun : Option (List ℕ)) → InOrder (is_some begun) ps end
    → is_some (join_after begun ps).rest ≡ end)
    → is_some (if b then join_after (Some content) ps else with_record content
    (join_after None ps)).rest ≡ end
rest_by true content ps end order same = same (Some content) order
rest_by false content ps end order same = same None order

pub begun_rest : (begun : Option (List ℕ)) (ps : List Portion) (end : Bool)
    → InOrder (is_some begun) ps end → is_some (join_after begun ps).rest ≡ end
begun_rest begun [] end order = order
begun_rest begun (p ∷ ps) end order = rest_by (leaves p.span)
    (content_after begun p.bytes) ps end order.1 (λ b o. begun_rest b ps end o)

pub leaves_of : (begun goes_on : Bool) → leaves (span_of begun goes_on) ≡ goes_on
leaves_of true true = refl
leaves_of true false = refl
leaves_of false true = refl
leaves_of false false = refl

pub continues_of : (begun goes_on : Bool) → continues (span_of begun goes_on) ≡ begun
continues_of true true = refl
continues_of true false = refl
continues_of false true = refl
continues_of false false = refl

-- ---- one block

pub one_list : (format : Format) (rec_len offset : ℕ) (block : List ℕ) (ps qs : List Portion)
    → HoldsUnits format rec_len offset block ps → HoldsUnits format rec_len offset block qs
    → ps ≡ qs
one_list format rec_len offset block ps qs x y =
    sym (parts_are format rec_len ps (drop offset block) x.0 x.1.units x.2 x.1.body)
    ∙ parts_are format rec_len qs (drop offset block) y.0 y.1.units y.2 y.1.body
