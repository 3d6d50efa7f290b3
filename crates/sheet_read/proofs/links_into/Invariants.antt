-- The loop has read the lines of the first categories and stored their links; a refused line ends it, the others go on from its bytes (`times-stop`, `times-next`).
use mathlib.Core.List.{[]}
use mathlib.Core.Path.{◌≡◌}
use Prim.Native.Nat.{◌+◌, ◌-◌}
use lib.ListN.{drop}
use Rattle.table_record.specs.Records.{link_bytes}
use Rattle.table_record.specs.Store.{links_in}
use Rattle.spec_sheet.specs.Lines.{split, times}
use Rattle.sheet_read.specs.View.{links_to, each_under}
use Rattle.sheet_read.proofs.links_into.Given as goal

abbrev pub invariant-loop-j : goal.invariant-loop-j
invariant-loop-j l = (l.l ≡ link_bytes (links_to l.j (links_in l.l))) ×
    (times (each_under l.cats) (l.cats - l.j) (l.j + 1) (links_to l.j (links_in l.l)) l.at.at (split (drop l.at.at l.s)) ≡ times (each_under l.cats) l.cats 1 [] l.initial.at.at (split (drop l.initial.at.at l.s)))
