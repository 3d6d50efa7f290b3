-- A table that passes the check is within the limits, and its links fall: what the functions ask that are called after it.
use mathlib.Core.Path.{◌≡◌, sym, ◌∙◌}
use mathlib.Core.Bool.{So}
use mathlib.Core.List.{List, []}
use Prim.Native.Nat.{ℕ, zero, suc, ◌+◌}
use native.Mathlib.Nat.{not-suc-le-zero}
use native.Mathlib.Omega.{arith}
use lib.ListN.{length, get_or}
use Rattle.spec_model.specs.Table.{between, links_fit}
use Rattle.spec_model.specs.Check.{table_of, codes_fit, table_accepted}
use Rattle.spec_model.proofs.Rules.{second}
use Rattle.law_model.proofs.Fitting.{TableFitting, table-fitting, every-at, all-below}
use Rattle.spec_model.proofs.Largest.{get_or-from}
use Rattle.table_record.specs.declared.Counts.{Counts}
use Rattle.table_record.specs.Store.{raw_table, table_in, broader_of}
use Rattle.table_record.specs.Limits.{Limits, Descends, Checked}
use Rattle.table_record.proofs.Tables.{cats-length}
use Rattle.table_check.proofs.Laws.{counts-limits, counts-are}

module _ (b l : List ℕ) (c : Counts) (f : TableFitting (table_in b l c)) where
  pub fitting-limits : Limits c
  fitting-limits = counts-limits c (sym (counts-are b l c) ∙ f.counts)

  links : Descends l c
  unfolding table_in table_of
  links zero p q = absurd (not-suc-le-zero p)
  links (suc k) p q =
      let cs = (table_in b l c).cats in
      let e : 1 + k ≡ suc k = omega arith in
      let w : So (links_fit (1 + k) (get_or cs k [])) = every-at links_fit [] 1 cs f.links k (rw (cats-length b l c) q) in
      let v : So (links_fit (suc k) (broader_of l (suc k))) = rw (get_or-from (broader_of l) [] c.cats 1 k q, e) at w in
      all-below (suc k) (broader_of l (suc k)) (second (between 1 2 (length (broader_of l (suc k)))) _ v)

  pub fitting-checked : Checked l c
  fitting-checked = record { limits = fitting-limits; descends = links }

module _ (b l : List ℕ) (c : Counts) (h : So (table_accepted (raw_table b l c))) where
  accepted-fitting : TableFitting (table_in b l c)
  unfolding table_accepted table_in
  accepted-fitting = table-fitting (table_in b l c) (second (codes_fit (raw_table b l c)) _ h)

  pub accepted-limits : Limits c
  accepted-limits = fitting-limits b l c accepted-fitting

  pub accepted-checked : Checked l c
  accepted-checked = fitting-checked b l c accepted-fitting
