-- The causes of the faults of writing from inputs.
use Rattle.tape_writer.proofs.Words.{◌≡◌, ℕ, ◌+◌, List, [], ◌∷◌, Option, Some, None, map, inl, inr}
use Rattle.tape_writer.proofs.Words.{refl, ◌⊎◌, AllByRecursion, Head1, Shape, ◌<◌, ◌≤◌, ◌++◌, Bool}
use Rattle.tape_writer.proofs.Words.{true, false, length, take, drop, get_or, sym, subst, ◌∙◌}
use Rattle.tape_writer.proofs.Words.{arith, append_assoc, length-append, IfSome, if◌then◌else◌}
use Rattle.tape_writer.proofs.Words.{prepend_known, length-take-le, map-append, length-map, IfKnown}
use Rattle.tape_writer.proofs.{Words.HasRecordLength, inputs.Filing.Wrote, inputs.Filing.wrote_next}
use Rattle.tape_writer.proofs.inputs.Cutting.{SoFar, within_longest}
use Rattle.tape_writer.proofs.inputs.Putting.{Put, known_more}
use Rattle.tape_image.proofs.Walks.{known_all, IfKnown-some}
use Rattle.std.proofs.{lemmas.Option.IfSome_then, KnownBytes.Consumes-kept, Common.take-append-drop}
use Rattle.tape_label.specs.Characters.{first_other}
use Rattle.tape_writer.specs.WriteFaults.{IsFilesFault, told_as, OneIsOther}
use Rattle.tape_writer.specs.Records.{records_from, records_of, to_come, given, longest}
use Rattle.tape_writer.specs.{WriteFaults.IsInputFault, WriteFaults.IsFileFault, Fields.IsTextHead}
use Rattle.tape_writer.specs.Records.{ends_before, is_full, Adds, IsFirstLong, GrowsLong}
use Rattle.tape_writer.specs.{declared.fault.WriteFault.TheVariants.BadField, Faults.IsEnding}
use Rattle.tape_writer.specs.{Told.Told, declared.inputs.records.InputFault.InputFault}
use Rattle.tape_writer.specs.{declared.fault.SetFault.TheVariants.Write, declared.phase.Phase.Phase}
use Rattle.tape_writer.specs.{declared.inputs.cut.Cut.Cut, declared.phase.Phase.TheVariants.Filing}
use Rattle.tape_writer.specs.{declared.course.Opened.Opened, Refusals.IsInFile, Refusals.IsPutFault}
use Rattle.tape_writer.specs.declared.fault.SetFault.{SetFault}
use Rattle.tape_writer.specs.{declared.fault.WriteFault.WriteFault, State.IfFiling, State.HasLength}
use Rattle.tape_writer.specs.declared.inputs.cut.Cut.TheVariants.{Lines, Length, Whole}
use Rattle.std.specs.Io.KnownBytes.{Consumes, Keeps}
use Rattle.tape_writer.specs.declared.fault.WriteFault.TheVariants as faults
use Rattle.tape_writer.specs.declared.inputs.records.InputFault.TheVariants as inputs

-- ---- heads that cannot be labelled

head_or_not : (h : Head1) → IsTextHead h ⊎ (IsTextHead h → ⊥)
head_or_not h = go _ _ _ _ _ _ _ refl refl refl refl refl refl refl
  where
    go : (a b c d e f i : Option ℕ) → first_other h.file_id ≡ a → first_other h.generation ≡ b
        → first_other h.gen_version ≡ c → first_other h.created ≡ d → first_other h.expires ≡ e
        → first_other (h.access ∷ []) ≡ f → first_other h.implementation ≡ i
        → IsTextHead h ⊎ (IsTextHead h → ⊥)
    go None None None None None None None p q r s t u v = inl record {
      file_id = p;
      generation = q;
      gen_version = r;
      created = s;
      expires = t;
      access = u;
      implementation = v;
    }
    go _ _ _ _ _ _ _ p q r s t u v = inr (λ is. cc)

-- if not all heads can be labelled, the fault is that of one of the files
pub head_fault : (X : Type 0) (view : X → Head1 × Option (List ℕ)) (capacity : ℕ) (shape : Shape)
    (cut : Cut) (n : ℕ) (xs : List X) → (AllByRecursion (λ x. IsTextHead (view x).0) xs → ⊥)
    → IsFilesFault capacity shape cut n (map view xs) (Write BadField)
head_fault X view capacity shape cut n [] not = absurd (not tt)
head_fault X view capacity shape cut n (x ∷ xs) not = elim (head_or_not (view x).0) [
  | inl is ↦ inr (head_fault X view capacity shape cut (n + 1) xs (λ all. not (is, all)))
  | inr other ↦ inl (inl other)
]

-- ---- records that get too long

first_by : (most : ℕ) (ends full : Bool) (r s : List ℕ) (xs ys zs : List (List ℕ))
    → most < length r → most < length s → IsFirstLong most zs
    → IsFirstLong most (if ends then r ∷ xs else (if full then s ∷ ys else zs))
first_by most true full r s xs ys zs a b c = a
first_by most false true r s xs ys zs a b c = b
first_by most false false r s xs ys zs a b c = c

-- a record that is already too long is the first one that is
first_long : (most : ℕ) (cut : Cut) (r bytes : List ℕ) → most < length r
    → IsFirstLong most (records_from cut r bytes)
first_long most Lines [] [] l = absurd (omega (arith, l))
first_long most Lines (b ∷ r) [] l = l
first_long most (Length n) [] [] l = absurd (omega (arith, l))
first_long most (Length n) (b ∷ r) [] l = l
first_long most Whole r [] l = l
first_long most cut r (b ∷ bytes) l =
    let more : most < length (r ++ b ∷ []) = omega (arith, l, length-append r (b ∷ [])) in
    first_by most (ends_before cut b) (is_full cut (length r + 1)) r (r ++ b ∷ []) _ _ _ l more
    (first_long most cut (r ++ b ∷ []) bytes more)

first_added : (most : ℕ) (cut : Cut) (r front new rest : List ℕ) (ended : Bool)
    → Adds cut r front new ended → most < length new
    → IsFirstLong most (records_from cut r (front ++ rest))
first_added most cut r front new rest true adds l = rw (adds rest) l
first_added most cut r front new rest false adds l = rw (adds rest) (first_long most cut new rest l)

-- a piece that is refused makes the record too long
pub grows_long : (most : ℕ) (cut : Cut) (r bytes : List ℕ) (content taken : ℕ) (ended : Bool)
    → content ≤ taken → taken ≤ length bytes → most < length r + content
    → Adds cut r (take taken bytes) (r ++ take content bytes) ended → GrowsLong most cut r bytes
grows_long most cut r bytes content taken ended few all l adds = λ more.
    let new : most < length (r ++ take content bytes) =
    omega (
      arith,
      l,
      few,
      all,
      length-append r (take content bytes),
      length-take-le content bytes (omega (arith, few, all)),
    ) in
    rw (← take-append-drop taken bytes, append_assoc (take taken bytes) (drop taken bytes) more)
    (first_added most cut r (take taken bytes) (r ++ take content bytes)
    (drop taken bytes ++ more) ended adds new)

pub less_long : (most n : ℕ) (rs : List (List ℕ)) → most ≤ n → IsFirstLong n rs
    → IsFirstLong most rs
less_long most n [] le l = l
less_long most n (r ∷ rs) le l = omega (arith, le, l)

-- the bytes read of a record, and those read ahead, show that it is too long
pub no_room : {cut : Cut} {r : List ℕ} {all left : Option (List ℕ)} (most n : ℕ) (ahead : List ℕ)
    (device : Option (List ℕ)) → SoFar cut all left r → Keeps left (prepend_known ahead device)
    → most ≤ n → GrowsLong n cut r ahead → IfSome all (λ xs. IsFirstLong most (records_of cut xs))
no_room {cut} {r} {all} {left} most n ahead device s kept le g =
    go all device (Consumes-kept all left _ r s.consumed kept)
  where
    go : (all device : Option (List ℕ)) → Consumes all (prepend_known ahead device) r
        → IfSome all (λ xs. IsFirstLong most (records_of cut xs))
    go None device c = tt
    go (Some xs) None c = absurd c
    go (Some xs) (Some ys) c = rw (c, s.same (ahead ++ ys)) (less_long most n _ le (g ys))

-- ---- records of other lengths

other_behind : (shape : Shape) (xs ys : List (List ℕ)) → OneIsOther shape ys
    → OneIsOther shape (xs ++ ys)
other_behind shape [] ys h = h
other_behind shape (x ∷ xs) ys h = inr (other_behind shape xs ys h)

other_first : (shape : Shape) (rs : List (List ℕ)) → IsFirstLong (longest shape) rs
    → OneIsOther shape rs
other_first shape [] l = absurd l
other_first shape (r ∷ rs) l =
    inl (λ has. absurd (omega (arith, l, within_longest shape (length r) has)))

-- the next record is too long
pub next_long : {cut : Cut} {a b : Bool} {all left : Option (List ℕ)} {old mid : List Told → Type 0}
    (shape : Shape) → Put cut a b all left old mid
    → IfSome left (λ ys. IsFirstLong (longest shape) (to_come cut b ys))
    → IfSome all (λ xs. OneIsOther shape (to_come cut a xs))
next_long {all = all} {left = left} shape p l = IfSome_then all (IfKnown-some all left _ p.known)
    (λ xs q. rw q.2 (other_behind shape p.records _ (other_first shape _ (rw q.1 at l))))

-- the record that was read last has an invalid length
pub put_other : (shape : Shape) (cut : Cut) (a b c : Bool) (all left next : Option (List ℕ))
    (old mid : List Told → Type 0) (r : List ℕ) → Put cut a b all left old mid
    → IfKnown left next (λ xs ys. to_come cut b xs ≡ given true r (to_come cut c ys))
    → (HasRecordLength shape.format shape.rec_len (length r) → ⊥)
    → IfSome all (λ xs. OneIsOther shape (to_come cut a xs))
put_other shape cut a b c all left next old mid r p k wrong =
    known_all all next _ _ (λ xs ys e. subst (OneIsOther shape)
    (sym (e ∙ append_assoc p.records (r ∷ []) (to_come cut c ys)))
    (other_behind shape p.records (r ∷ to_come cut c ys) (inl wrong)))
    (known_more cut a b c r p.records all left next p.known k)

-- ---- faults of the writer

of_put : (wrong other : Type 0) (fault : WriteFault) → IsPutFault wrong fault → (wrong → other)
    → IsPutFault other fault
of_put wrong other faults.RecordLength due f = f due
of_put wrong other _ due f = due

-- a record was not written in the file
pub put_fault : (file : Opened) (phase : Phase) (bytes : List ℕ) (other : Type 0)
    (fault : WriteFault) → IsInFile file phase
    → IfFiling phase (λ o. IsPutFault (HasLength o bytes → ⊥) fault)
    → ((HasRecordLength file.shape.format file.shape.rec_len (length bytes) → ⊥) → other)
    → IsPutFault other fault
put_fault file (Filing o) bytes other fault is due f =
    of_put _ other fault due (λ wrong. f (rw is at wrong))
put_fault file _ bytes other fault is due f = absurd is

-- a fault that ends the writer is possible with any records
pub of_ending : (other : Type 0) (fault : WriteFault) → IsEnding fault → IsPutFault other fault
of_ending other faults.RecordLength e = absurd e
of_ending other _ e = e

-- a fault at the end of a file ends the writer
pub end_ends : (file : Opened) (phase : Phase) (f : WriteFault) → IsInFile file phase
    → IfFiling phase (λ _. IsEnding f) → IsEnding f
end_ends file (Filing o) f is ends = ends
end_ends file _ f is ends = absurd is

-- the next record was not read
pub told_input : (other : Type 0) (fault : InputFault) → (fault ≡ inputs.TooLong → other)
    → IsInputFault other (told_as fault)
told_input other inputs.ReadFailed f = tt
told_input other inputs.TooLong f = f refl
told_input other inputs.OutOfMemory f = tt

-- no fault of an input says that no volume is left
pub not_told : (fault : InputFault) → told_as fault ≡ Write faults.OutOfVolumes → ⊥
not_told inputs.ReadFailed e = cc
not_told inputs.TooLong e = cc
not_told inputs.OutOfMemory e = cc

-- ---- one of the files

-- the fault is that of the file after the given files
fault_behind : (capacity : ℕ) (shape : Shape) (cut : Cut) (n m : ℕ)
    (xs ys : List (Head1 × Option (List ℕ))) (x : Head1 × Option (List ℕ)) (fault : SetFault)
    → m ≡ n + length xs → IsFileFault capacity shape cut m x fault
    → IsFilesFault capacity shape cut n (xs ++ x ∷ ys) fault
fault_behind capacity shape cut n m [] ys x fault e p =
    let same : m ≡ n = omega (arith, e) in
    inl (rw same at p)
fault_behind capacity shape cut n m (y ∷ xs) ys x fault e p =
    inr (fault_behind capacity shape cut (n + 1) m xs ys x fault (omega (arith, e)) p)

-- the file after those already written
pub wrote_fault : {X : Type 0} {view : X → Head1 × Option (List ℕ)} {set_id : List ℕ}
    {shape : Shape} {cut : Cut} {first now : List X} {at : ℕ} {old mid : List Told → Type 0}
    (w : Wrote X view set_id shape cut first now at old mid) (d : X) → at < length now
    → (capacity n m : ℕ) (fault : SetFault) → m ≡ n + at
    → IsFileFault capacity shape cut m (view (get_or now at d)) fault
    → IsFilesFault capacity shape cut n (map view first) fault
wrote_fault {view = view} w d within capacity n m fault e p =
    rw (wrote_next w d within, map-append view w.done _)
    (fault_behind capacity _ _ n m (map view w.done) _ _ fault
    (omega (arith, e, w.many, length-map w.done view)) p)
