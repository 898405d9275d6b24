-- The lines of readings, one after another, and how the merged image ends.
use Rattle.std.proofs.Common.{◌≡◌, ℕ, zero, suc, ◌+◌, ◌<◌, ◌≤◌, List, [], ◌∷◌, length, drop, get_or}
use Rattle.std.proofs.Common.{Option, Some, None, sym, ap, subst, ◌∙◌, inl, inr, ◌++◌, arith}
use Rattle.std.proofs.{Common.append_assoc, Common.append-nil, KnownBytes.Appends-trans}
use Rattle.std.proofs.lemmas.List.{drop_all, drop_more}
use Rattle.std.specs.Io.KnownBytes.{Appends}
use Rattle.tape_image.specs.{declared.item.Ending.Ending, Written.AppendsFront}
use Rattle.tape_image.specs.Reader.{Status, going, ended, failed, ending_of}
use Rattle.tape_image.specs.declared.item.Ending.TheVariants as endings
use Rattle.tape_run.specs.{MergeLines.lines_from, declared.merge.line.MergedEnd.MergedEnd}
use Rattle.tape_run.specs.{MergeNow.SomeEnds, declared.merge.reading.Reading.Reading}
use Rattle.tape_run.specs.declared.merge.line.MergedEnd.TheVariants.{Marked, Physical, Cut}
use Rattle.tape_run.proofs.Reporting.{front_then}

-- ---- lines

pub drop_one : {A : Type 0} (xs : List A) (n : ℕ) (x : A) → n < length xs → x ≡ get_or xs n x
    → drop n xs ≡ x ∷ drop (n + 1) xs
drop_one {A} xs n x lt is = drop_more xs n x lt
    ∙ ap (λ (y : A). y ∷ drop (n + 1) xs) (sym is)

-- The lines of the first readings were reported; the lines of the others complete the report.
pub record ReportsFirst {A : Type 0} (line : ℕ → A → List ℕ) (number : ℕ) (xs : List A)
    (old mid : Option (List ℕ)) : Type 0 where
  pub done : List ℕ
  pub wrote : Appends old mid done
  pub rest : lines_from line 0 xs ≡ done ++ lines_from line number (drop number xs)

-- the lines of the others, after one more
rest_after : {A : Type 0} (line : ℕ → A → List ℕ) (number : ℕ) (xs : List A) (x : A)
    (done text : List ℕ) → number < length xs → x ≡ get_or xs number x → text ≡ line number x
    → lines_from line 0 xs ≡ done ++ lines_from line number (drop number xs) → lines_from line 0 xs
    ≡ (done ++ text) ++ lines_from line (number + 1) (drop (number + 1) xs)
rest_after {A} line number xs x done text lt is this rest =
    let more = lines_from line (number + 1) (drop (number + 1) xs) in
    rest ∙ ap (λ (l : List A). done ++ lines_from line number l) (drop_one xs number x lt is)
    ∙ ap (λ t. done ++ (t ++ more)) (sym this) ∙ sym (append_assoc done text more)

pub reports_more : {A : Type 0} (line : ℕ → A → List ℕ) (number : ℕ) (xs : List A) (x : A)
    (old mid next : Option (List ℕ)) (text : List ℕ) → number < length xs
    → x ≡ get_or xs number x → text ≡ line number x → ReportsFirst line number xs old mid
    → Appends mid next text → ReportsFirst line (number + 1) xs old next
reports_more line number xs x old mid next text lt is this h wrote = record {
  done = h.done ++ text;
  wrote = Appends-trans old mid next h.done text h.wrote wrote;
  rest = rest_after line number xs x h.done text lt is this h.rest;
}

-- a prefix of the next line was reported
pub reports_part : {A : Type 0} (line : ℕ → A → List ℕ) (number : ℕ) (xs : List A) (x : A)
    (old mid next : Option (List ℕ)) (text : List ℕ) → number < length xs
    → x ≡ get_or xs number x → text ≡ line number x → ReportsFirst line number xs old mid
    → AppendsFront mid next text → AppendsFront old next (lines_from line 0 xs)
reports_part line number xs x old mid next text lt is this h part =
    front_then _ _ _ _ _ _ _ h.wrote part (rest_after _ _ _ _ _ _ lt is this h.rest)

pub reports_all : {A : Type 0} (line : ℕ → A → List ℕ) (number : ℕ) (xs : List A)
    (old new : Option (List ℕ)) → length xs ≤ number → ReportsFirst line number xs old new
    → Appends old new (lines_from line 0 xs)
reports_all {A} line number xs old new le h =
    subst (λ t. Appends old new t) (sym (h.rest
    ∙ ap (λ (l : List A). h.done ++ lines_from line number l) (drop_all number xs le)
    ∙ append-nil h.done)) h.wrote

-- ---- how the merged image ends

-- After some readings, none of which ended in a way that would change the answer.
pub record EndsSoFar {R : Type 0} (items : ℕ) (number : ℕ) (all : List (Reading R))
    (end : MergedEnd) : Type 0 where
  pub no_marked : SomeEnds items endings.Marked all
      → SomeEnds items endings.Marked (drop number all)
  pub not_marked : end ≡ Marked → ⊥
  pub physical : end ≡ Physical → SomeEnds items endings.Physical all
  pub cut : end ≡ Cut → SomeEnds items endings.Physical all
      → SomeEnds items endings.Physical (drop number all)

-- the reading with this number ended like this
pub ends_here : {R : Type 0} (items number : ℕ) (all : List (Reading R)) (r : Reading R)
    (ending : Ending) → number < length all → r ≡ get_or all number r → r.items ≡ items
    → r.image.status ≡ ended ending → SomeEnds items ending all
ends_here {R} items number [] r ending lt is many how = absurd (omega arith)
ends_here {R} items zero (x ∷ all) r ending lt is many how = inl (
  ap (λ (q : Reading R). q.items) (sym is) ∙ many,
  ap (λ (q : Reading R). q.image.status) (sym is) ∙ how,
)
ends_here {R} items (suc number) (x ∷ all) r ending lt is many how =
    inr (ends_here items number all r ending (omega arith) is many how)

is_later : {R : Type 0} (items : ℕ) (ending : Ending) (r : Reading R) (rest : List (Reading R))
    → (r.items ≡ items → r.image.status ≡ ended ending → ⊥)
    → SomeEnds items ending (r ∷ rest) → SomeEnds items ending rest
is_later items ending r rest never (inl (many, how)) = absurd (never many how)
is_later items ending r rest never (inr later) = later

-- it did not
pub ends_later : {R : Type 0} (items number : ℕ) (all : List (Reading R)) (r : Reading R)
    (ending : Ending) → number < length all → r ≡ get_or all number r
    → (r.items ≡ items → r.image.status ≡ ended ending → ⊥)
    → (SomeEnds items ending all → SomeEnds items ending (drop number all))
    → SomeEnds items ending all → SomeEnds items ending (drop (number + 1) all)
ends_later {R} items number all r ending lt is never so_far some =
    is_later items ending r (drop (number + 1) all) never
    (subst (SomeEnds items ending) (drop_one all number r lt is) (so_far some))

-- its status, as `ending` answers
pub ending_is : (s : Status) (ending : Ending) → ending_of s ≡ Some ending → s ≡ ended ending
ending_is going ending is = absurd (cc is)
ending_is (ended other) ending is = cc is
ending_is (failed fault) ending is = absurd (cc is)

pub ending_none : (s : Status) (ending : Ending) → ending_of s ≡ None → s ≡ ended ending → ⊥
ending_none s ending none is = cc (none, ap ending_of is)

-- it ended with the end of its bytes
pub ends_physical : {R : Type 0} (items number : ℕ) (all : List (Reading R)) (end : MergedEnd)
    (r : Reading R) → number < length all → r ≡ get_or all number r → r.items ≡ items
    → ending_of r.image.status ≡ Some endings.Physical → EndsSoFar items number all end
    → EndsSoFar items (number + 1) all Physical
ends_physical items number all end r lt is many how h =
    let at : r.image.status ≡ ended endings.Physical =
    ending_is _ _ how in
    record {
      no_marked = ends_later items _ _ _ endings.Marked lt is (λ _ m. cc (m, at)) h.no_marked;
      not_marked = λ e. cc e;
      physical = λ _. ends_here _ _ _ _ _ lt is many at;
      cut = λ e. absurd (cc e);
    }

-- it did not end, or it is shorter
pub ends_kept : {R : Type 0} (items number : ℕ) (all : List (Reading R)) (end : MergedEnd)
    (r : Reading R) → number < length all → r ≡ get_or all number r
    → ((ending : Ending) → r.items ≡ items → r.image.status ≡ ended ending → ⊥)
    → EndsSoFar items number all end → EndsSoFar items (number + 1) all end
ends_kept items number all end r lt is never h = record {
  no_marked = ends_later items _ _ _ endings.Marked lt is (never endings.Marked) h.no_marked;
  not_marked = h.not_marked;
  physical = h.physical;
  cut = λ e. ends_later items _ _ _ endings.Physical lt is (never endings.Physical) (h.cut e);
}
