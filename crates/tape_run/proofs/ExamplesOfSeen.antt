-- The examples for sessions with known parts, and for readers that know their bytes.
use Rattle.std.proofs.Common.{◌≡◌, ◌⊎◌, ℕ, List, [], ◌∷◌, length, Bool, Some, None, refl, sym, ap}
use Rattle.std.proofs.Common.{arith, inl, inr, ◌∙◌}
use Rattle.tape_blocks.specs.Block.{Portion}
use Rattle.tape_core.specs.{Point.Point, Weight.Rose, declared.sink.SinkFault.SinkFault}
use Rattle.tape_core.specs.declared.sink.SinkFault.TheVariants.{Device, Full, Failed}
use Rattle.tape_core.proofs.Crashes.{or_nothing}
use Rattle.tape_run.specs.{CasesOfSaves.comes_now, CasesOfSaves.weighing, CasesOfSeen.CasesOfSeen}
use Rattle.tape_run.specs.{CasesOfSeen.counting, Crash.BringsNoMore, Given.IfTold}
use Rattle.tape_run.specs.{Steps.RefusesRestart, SessionState.SessionState}
use Rattle.tape_run.specs.Seen.{seen, IsKept, IfSeen, IsSeen}
use Rattle.tape_run.specs.Causes.{ExtractFails, ReadingFails, RefusesAny}
use Rattle.tape_run.specs.declared.fault.{EngineFault.TheVariants.Run, RunFault.TheVariants.Sink}

each_part : (s : SessionState ℕ) (p : Portion) → s.sink ≡ 1
    → IfSeen counting s (λ is. is.parts ≡ p ∷ []) → (q : Portion) → q ≡ p
each_part s p one so q = let e = so (q ∷ []) (sym one) in cc

no_part : (s : SessionState ℕ) → s.sink ≡ 1 → IsSeen counting s (λ is. is.parts ≡ []) → ⊥
no_part s one (now, count, none) = absurd (omega (arith, one, count, ap length none))

both_told : (a b : List ℕ) → IfTold (λ r. r) (Some a ∷ Some b ∷ []) (λ bytes. bytes ≡ a ∷ b ∷ [])
both_told a b [] e = absurd (cc)
both_told a b (x ∷ []) e = absurd (cc)
both_told a b (x ∷ y ∷ []) e = let f = e in cc
both_told a b (x ∷ y ∷ z ∷ bytes) e = absurd (cc)

one_untold : (a : List ℕ) → IfTold (λ r. r) (Some a ∷ None ∷ []) (λ bytes. ⊥)
one_untold a [] e = absurd (cc)
one_untold a (b ∷ []) e = absurd (cc)
one_untold a (b ∷ c ∷ bytes) e = absurd (cc)

brings_no_more : (old new : Point) → old.staged ≡ 0
    → BringsNoMore (weighing (comes_now [])) old new → new ≡ old
brings_no_more old new none brings = (or_nothing ((brings [] none).now new [] (refl, refl))).0

back_refused : (cause : SinkFault) (n : ℕ) (old new : SessionState ℕ)
    → RefusesRestart counting n (Sink cause) old new → (new.failures ≡ old.failures)
    × ((Rose old.sink new.sink × (cause ≡ Device)) ⊎ ((cause ≡ Failed) × (new.sink ≡ old.sink)
    × ((held : List Portion) → length held ≡ old.sink → IsKept (seen counting old held) → ⊥)))
back_refused cause n old new (same, inl r) = (same, inl (r.counted, r.why))
back_refused cause n old new (same, inr h) = (same, inr h)

not_extracted : (back : Bool) (cause : SinkFault) (old new : SessionState ℕ)
    → ReadingFails counting back (Run (Sink cause)) old new
    → (Rose old.sink new.sink × (cause ≡ Device)) ⊎ ((cause ≡ Failed)
    × ((held : List Portion) → length held ≡ old.sink → IsKept (seen counting old held) → ⊥))
not_extracted back cause old new (inl r) = inl (r.counted, r.why)
not_extracted back cause old new (inr h) = inr h

refused_either : (back : Bool) (cause : SinkFault) (old new : SessionState ℕ)
    → ExtractFails counting (RefusesAny counting (λ mid fault after. fault ≡ Full)) back
    (Run (Sink cause)) old new → (cause ≡ Device) ⊎ (cause ≡ Full) ⊎ (cause ≡ Failed)
refused_either back cause old new (inl r) = elim (r.why) [
  | inl device ↦ inl device
  | inr full ↦ inr (inl full)
]
refused_either back cause old new (inr h) = inr (inr h.0)

pub cases_of_seen : CasesOfSeen
cases_of_seen = record {
  is_seen = λ s parts. refl;
  seen_counts = λ s parts. (refl, refl);
  each_part = each_part;
  no_others = λ s one held count none. absurd (omega (arith, one, count, ap length none));
  some_part = λ s p one. (p ∷ [], sym one, refl);
  no_part = no_part;
  lost_parts = λ s parts. (parts, λ kept. absurd (kept tt), refl);
  not_lost = λ s one (now, has, none). no_part s one (now, has (λ x. x), none);
  told = λ a b all so. sym (so (a ∷ b ∷ []) refl);
  both_told = both_told;
  one_untold = one_untold;
  brings_no_more = brings_no_more;
  of_no_parts = λ old new parts none. absurd none;
  carried = λ back old new was is kept carries.
      let (now, has, (still, next, last)) = carries [] was kept in
      (next, (seen (weighing (comes_now [])) new now, still, refl, last));
  not_kept = λ back old new never held was kept.
      absurd (never (seen (weighing (comes_now [])) old held) refl kept);
  reel_refused = λ cause old new (same, r). (same, r.counted, r.why);
  refused_first = λ cause old new r. (sym r.calm ∙ r.why.0, r.why.1, r.counted);
  no_memory = λ old new r. r;
  no_other_fault = λ old new. (λ r. r, λ r. r, λ r. r);
  back_refused = back_refused;
  no_note = λ n old new r. r;
  no_other_way = λ n old new. (λ r. r, λ r. r, λ r. r);
  reel_not_made = λ fault old new r. r;
  save_not_made = λ fault old new r. r;
  back_not_made = λ n fault old new r. r;
  second_not_made = λ fault old new s. (let e = s.at in cc, s.calm.calm, s.refuses);
  not_extracted = not_extracted;
  refused_either = refused_either;
  no_memory_to_extract = λ back old new. (λ r. r, λ r. r);
  noted = λ back c old new one r. absurd (let e = sym one ∙ r.1 in cc);
  goes_on = λ old new r. absurd (let e = r.0 in cc);
  no_other_end = λ back old new. (λ r. r, λ r. r);
  none_refused = λ old new c. (c.calm, c.notes, λ held was kept. c.kept held was kept);
  walked = λ old new ps none w.
      let back = (w.crash [] none).now new.sink ps (refl, refl) in
      (w.core, w.notes, w.failures, (or_nothing back).0);
}
