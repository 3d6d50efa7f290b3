-- What the reader's answer says, for its callers: by its number it is the table that the definition gives, or the definition's refusal.
-- What is read passes the check of a table handed in, so Compare and Sheet write never answer 2 to it.
use mathlib.Core.Path.{◌≡◌, refl, sym, ap, ◌∙◌, subst}
use mathlib.Core.Bool.{true}
use mathlib.Core.List.{List}
use Prim.Native.Nat.{ℕ}
use native.Mathlib.Omega.{arith}
use Rattle.spec_model.specs.Table.{Table, table_fits, valid_sheet}
use Rattle.spec_model.specs.Check.{table_accepted}
use Rattle.spec_model.proofs.Rules.{both, first}
use Rattle.table_record.specs.Store.{raw_table, table_in}
use Rattle.law_table.proofs.Whole.{bytes-codes, bytes-mean}
use Rattle.spec_sheet.specs.Sheet.{SheetResult, malformed, loaded, read}
use Rattle.spec_sheet.proofs.Exact.{loaded-valid}
use Rattle.spec_sheet.proofs.Refusals.{refusal-number}
use Rattle.sheet_read.specs.View.{sheet_for}
use Rattle.sheet_read.specs.declared.Sheet.{Sheet}

module _ (s : List ℕ) (t : Table) (e : read s ≡ loaded t) where
  fits : table_fits t ≡ true
  unfolding valid_sheet
  fits = first (table_fits t) _ (loaded-valid s t e)

  means : table_in (sheet_for (loaded t)).types (sheet_for (loaded t)).links (sheet_for (loaded t)).counts ≡ t
  means = bytes-mean t fits

  accepted : table_accepted (raw_table (sheet_for (loaded t)).types (sheet_for (loaded t)).links (sheet_for (loaded t)).counts) ≡ true
  unfolding table_accepted table_in
  accepted = both (bytes-codes t fits) (ap table_fits (bytes-mean t fits) ∙ fits)

module _ (s : List ℕ) (r : Sheet) (is : r ≡ sheet_for (read s)) where
  -- 0 is the number of no refusal
  loaded-by : {C : Type 0} (a : SheetResult) → read s ≡ a → r.refusal ≡ 0 → ((t : Table) → read s ≡ loaded t → C) → C
  loaded-by (loaded t) e z k = k t e
  loaded-by (malformed n at) e z k =
      let h = refusal-number s n at e in
      let m : n ≡ 0 = sym (ap (λ (x : Sheet). x.refusal) (is ∙ ap sheet_for e)) ∙ z in
      absurd (omega (arith, h.0))

  pub read-loaded : r.refusal ≡ 0 → read s ≡ loaded (table_in r.types r.links r.counts)
  read-loaded z = loaded-by (read s) refl z λ t e.
      e ∙ ap loaded (sym (subst (λ (x : Sheet). table_in x.types x.links x.counts ≡ t) (ap sheet_for (sym e) ∙ sym is) (means s t e)))

  pub read-malformed : (r.refusal ≡ 0 → ⊥) → read s ≡ malformed r.refusal r.at
  read-malformed n = go (read s) refl
    where
      go : (a : SheetResult) → read s ≡ a → read s ≡ malformed r.refusal r.at
      go (loaded t) e = absurd (n (ap (λ (x : Sheet). x.refusal) (is ∙ ap sheet_for e)))
      go (malformed k at) e = e ∙ sym (ap (λ (x : Sheet). malformed x.refusal x.at) (is ∙ ap sheet_for e))

  pub read-accepted : r.refusal ≡ 0 → table_accepted (raw_table r.types r.links r.counts) ≡ true
  read-accepted z = loaded-by (read s) refl z λ t e.
      subst (λ (x : Sheet). table_accepted (raw_table x.types x.links x.counts) ≡ true) (ap sheet_for (sym e) ∙ sym is) (accepted s t e)
