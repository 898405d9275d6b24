-- Valid file sets are readable.
use Rattle.std.proofs.Common.{List}
use Rattle.tape_label.specs.declared.values.Kind.TheVariants as kinds
use Rattle.tape_label.proofs.Wide.{strict_is_wide}
use Rattle.tape_set.specs.Layout.{FileSet, Section}
use Rattle.tape_set.specs.Lawful.{FileForm, TellsForm, HasForm, IsFile, IsLawful}
use Rattle.tape_set.specs.Readable.{TellsWideForm, HasWideForm, IsReadableFile, IsReadable}
use Rattle.tape_set.proofs.Everywhere.{every}

tells : (form : FileForm) (s : Section) → TellsForm form s → TellsWideForm form s
tells form s t = record {
  head = t.head;
  second = t.second;
  hdr1 = t.hdr1;
  hdr2 = strict_is_wide s.hdr2 kinds.Hdr2 t.second t.hdr2;
  told = t.told;
}

has : (form : FileForm) (s : Section) → HasForm form s → HasWideForm form s
has form s h = record { labels = tells form s h.labels; held = h.held }

file : (f : List Section) → IsFile f → IsReadableFile f
file f is = record {
  ends = is.ends;
  alike = (
    is.alike.0,
    every (HasForm is.alike.0) (HasWideForm is.alike.0) (has is.alike.0) f is.alike.1,
  );
  order = is.order;
}

pub lawful_readable : (set : FileSet) → IsLawful set → IsReadable set
lawful_readable set l = record {
  volumes = l.volumes;
  each = l.each;
  files = every IsFile IsReadableFile file set.files l.files;
  first = l.first;
  goes_on = l.goes_on;
}
