-- The invariant: the whole test is what is left of it (`rest-next`, `rest-broken`, `rest_end`).
use mathlib.Core.Path.{◌≡◌}
use Prim.Native.Nat.{◌+◌, ◌-◌}
use lib.ListN.{get_or}
use Rattle.table_record.specs.Store.{links_in}
use Rattle.spec_model.specs.Check.{no_raw_links}
use Rattle.table_check_links.specs.Parts.{each_from, link_accepted, links_accepted}
use Rattle.table_check_links.proofs.links_fit.Given as goal

abbrev pub invariant-loop-k : goal.invariant-loop-k
invariant-loop-k l = links_accepted l.cats (links_in l.l) ≡ each_from (l.cats + 1 - l.k) l.k (λ j. link_accepted j (get_or (links_in l.l) j no_raw_links))
