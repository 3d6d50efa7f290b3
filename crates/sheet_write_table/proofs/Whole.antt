-- The parts together are the text of the table's sheet.
use mathlib.Core.Path.{◌≡◌, sym, ap, ◌∙◌}
use mathlib.Core.List.{List, [], ◌∷◌, ◌++◌, append_assoc}
use Prim.Native.Nat.{ℕ, ◌≤◌}
use lib.ListN.{length}
use Rattle.spec_model.specs.Basics.{from}
use Rattle.spec_model.specs.Table.{Ty}
use Rattle.spec_model.specs.Check.{table_of}
use Rattle.spec_model.proofs.Lists.{take-from}
use Rattle.table_record.specs.declared.Counts.{Counts}
use Rattle.table_record.specs.Limits.{Limits}
use Rattle.table_record.specs.Store.{raw_table, broader_of}
use Rattle.table_record.proofs.Lists.{length_from}
use Rattle.spec_sheet.specs.Lines.{bytes, join}
use Rattle.spec_sheet.specs.Text.{newest_form, number_text, each, type_lines, end_text, sheet_lines, text}
use Rattle.text_write.specs.Fill.{Filled, Lined}
use Rattle.text_write.proofs.Laws.{fill_is}
use Rattle.sheet_write_table.specs.Parts.{type_in, type_lines_to, under_lines, count_lines, front_lines, back_lines}

regroup : (front u x e : List (List ℕ)) (t : List ℕ) → (front ++ (u ++ (t ∷ []))) ++ (x ++ e) ≡ (front ++ (u ++ (t ∷ x))) ++ e
regroup front u x e t = simp append_assoc

module _ (b l : List ℕ) (c : Counts) where
  -- the sheet's lines and the last, with the number of categories and the list of types as they stand in the table
  abbrev lines_with : ℕ → List Ty → List (List ℕ)
  lines_with n ts = (number_text (bytes "guide=") newest_form ∷ number_text (bytes "subjects=") c.subjects ∷ number_text (bytes "methods=") c.methods ∷ number_text (bytes "cats=") n
      ∷ (under_lines l c.cats ++ (number_text (bytes "types=") c.sheet ∷ each type_lines 0 ts))) ++ (end_text ∷ [])

  parts_are : c.sheet ≤ c.types → join (front_lines l c ++ back_lines b c) ≡ text (table_of (raw_table b l c))
  unfolding text sheet_lines table_of front_lines back_lines under_lines type_lines_to
  parts_are h =
      ap join (regroup (count_lines c) (under_lines l c.cats) (type_lines_to b c c.sheet) (end_text ∷ []) (number_text (bytes "types=") c.sheet))
      ∙ ap (λ z. join (lines_with z (from c.sheet 0 (type_in b c)))) (sym (length_from (broader_of l) c.cats 1))
      ∙ ap (λ z. join (lines_with (length (from c.cats 1 (broader_of l))) z)) (sym (take-from (type_in b c) c.sheet c.types 0 h))

  pub sheet-is : {old new : List ℕ} {r : ℕ} → Limits c → Lined old new (front_lines l c ++ back_lines b c) r → Filled old new (text (table_of (raw_table b l c))) r
  sheet-is g f = fill_is (parts_are g.counted) f.filled
