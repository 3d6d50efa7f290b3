use mathlib.Core.Path.{◌≡◌, refl, ◌∙◌}
use Prim.Native.Nat.{◌/◌, ◌%◌}
use native.Mathlib.Nat.{not-suc-le-zero}
use native.Mathlib.Omega.{arith}
use lib.ListN.{length-set}
use Rattle.table_record.specs.Store.{table_in}
use Rattle.table_record.proofs.Lists.{set_next}
use Rattle.relation_compare.specs.Pairs.{pair_entry}
use Rattle.relation_compare.proofs.Laws.{pairs-all}
use Rattle.spec_model.specs.Table.{max_sheet_types}
use Rattle.relation_compare.proofs.pair_table.Goals as goal

pub loop-p-init : goal.loop-p-init
loop-p-init c = (refl, λ k h. absurd (not-suc-le-zero h))

pub pair_entry-requires : goal.pair_entry-requires
pair_entry-requires c = c.requires

pub bounds-out-p : goal.bounds-out-p
bounds-out-p c = omega (arith, c.loop-p.invariant.0)

pub loop-p-preserved : goal.loop-p-preserved
loop-p-preserved c =
    let a = c.args in
    let pair-entry = c.pair_entry in
    let loop = c.loop-p in (
      length-set loop.out loop.p pair-entry.result ∙ loop.invariant.0,
      set_next
          (λ k v. v ≡ pair_entry (table_in a.b.now a.l.now a.c) (k / max_sheet_types) (k % max_sheet_types)) loop.out loop.p pair-entry.result 0
          (omega (arith, loop.invariant.0)) loop.invariant.1 pair-entry.ensures,
    )

pub returns : goal.returns
returns c =
    let a = c.args in
    let loop = c.loop-p in
    pairs-all (table_in a.b.now a.l.now a.c) loop.out loop.invariant.0 (λ k h. loop.invariant.1 k (omega arith))
