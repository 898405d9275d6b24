-- Adding sections, as the map does it.
use Rattle.std.proofs.Common.{◌≡◌, Bool, true, false, List, [], ◌∷◌, refl}
use Rattle.std.specs.Map.{lookup}
use Rattle.indexmap.specs.IndexMap.{insert_entry}
use Rattle.tape_run.specs.declared.section.{SectionKey.SectionKey, Entry.Entry}
use Rattle.tape_run.specs.{Passing.Told, Noted.same_key, Noted.kept, Noted.noted}

inserted_here : (x : Told) (es : List Told) (key : SectionKey) (entry : Entry) (b : Bool)
    → same_key key x.0 ≡ b
    → insert_entry same_key es key (kept (lookup (same_key key) es) entry) ≡ noted es (key, entry)
    → insert_entry same_key (x ∷ es) key (kept (lookup (same_key key) (x ∷ es)) entry)
    ≡ noted (x ∷ es) (key, entry)
inserted_here x es key entry true e rest = simp e
inserted_here x es key entry false e rest = simp (e, rest)

-- inserting the better entry is the same as adding the section
pub inserted : (es : List Told) (key : SectionKey) (entry : Entry)
    → insert_entry same_key es key (kept (lookup (same_key key) es) entry) ≡ noted es (key, entry)
inserted [] key entry = refl
inserted (x ∷ es) key entry = inserted_here x _ _ _ (same_key key x.0) refl (inserted es key entry)
