-- What is written is the definition's: the pairs of an accepted sheet, whose table the relations can be asked of; and the three cases of the input.
use mathlib.Core.Path.{◌≡◌, refl, sym, ap, ◌∙◌}
use mathlib.Core.Bool.{Bool, true, false}
use mathlib.Core.List.{List, [], ◌∷◌, flatten}
use Prim.Native.Nat.{ℕ, ◌+◌, ◌*◌, ◌/◌, ◌%◌, ◌≤◌, ◌<◌}
use native.Mathlib.Omega.{arith}
use lib.ListN.{length, get_or}
use borrow.Author.Tests.{lt-ltb, le-ltb}
use Rattle.spec_model.specs.Basics.{from}
use Rattle.spec_model.specs.Table.{Table, max_sheet_types}
use Rattle.spec_model.specs.Relations.{Comparison, bit}
use Rattle.spec_model.specs.Check.{table_of}
use Rattle.table_record.specs.Store.{table_in}
use Rattle.table_record.proofs.Lists.{from-same}
use Rattle.table_record.specs.Limits.{Checked}
use Rattle.table_check.proofs.Accepted.{accepted-checked}
use Rattle.relation_compare.specs.Comparing.{comparison_at}
use Rattle.relation_compare.specs.Pairs.{pair_code, pair_table}
use Rattle.relation_compare.proofs.Laws.{pair-at}
use Rattle.spec_sheet.specs.Lines.{bytes, join}
use Rattle.spec_sheet.specs.Text.{spaced}
use Rattle.spec_sheet.specs.Sheet.{malformed, read}
use Rattle.sheet_read.specs.declared.Sheet.{Sheet}
use Rattle.sheet_read.specs.View.{sheet_for, sheet_of, read_into_of}
use Rattle.text_read.specs.declared.Malformed.{Malformed}
use Rattle.base_numbers.specs.Refusal.{number_of}
use Rattle.base_numbers.specs.declared.refusal.Refusal.{Refusal}
use Rattle.base_numbers.specs.declared.refusal.Refusal.TheVariants.{Form, OutOfRange, NotBelow, ShortBuffer, UnknownSubject, NotHeld, UnknownType, Unrelated}
use Rattle.base_numbers.specs.declared.refusal.Refusal.TheVariants.{NotOwner, NotStrict, TypesFull, PlacesFull, CellsFull, NotCallable, WrongValues, TooWide, AnsweredAlready, CallsFull, LaterLayer, UnfitTimes}
use Rattle.std.specs.Prelude.{Result, Ok, Err}
use Rattle.table_record.specs.declared.Counts.{Counts}
use Rattle.table_record.specs.Layout.{empty_counts}
use Rattle.sheet_read.proofs.Accepted.{read-loaded, read-malformed, read-accepted}
use Rattle.pairs_output.specs.Output.{max_input, comparison_bits, pair_line, pair_lines, result_lines, pairs_output}
use Rattle.pairs_write_lines.specs.Parts.{comparison_in, code_line, row_lines, code_lines}

-- ---- the pairs
bit-low : (b : Bool) → bit b ≤ 1
bit-low true = omega arith
bit-low false = omega arith

low_bit : (b n : ℕ) → b ≤ 1 → (b + 2 * n) % 2 ≡ b
low_bit b n h = omega arith

answers_of : (a : Comparison) → comparison_in (pair_code a) ≡ comparison_bits a
answers_of a = go a.subtype a.strict a.loose a.free
  where
    go : (w x y z : Bool) → comparison_in (bit w + 2 * bit x + 4 * bit y + 8 * bit z) ≡ bit w ∷ bit x ∷ bit y ∷ bit z ∷ []
    go w x y z =
        let p = bit-low w in
        let q = bit-low x in
        let r = bit-low y in
        let s = bit-low z in
        let k = bit w + 2 * bit x + 4 * bit y + 8 * bit z in
        let k₀ : k ≡ bit w + 2 * (bit x + 2 * (bit y + 2 * bit z)) = omega arith in
        let k₁ : k / 2 ≡ bit x + 2 * (bit y + 2 * bit z) = omega arith in
        let k₂ : k / 4 ≡ bit y + 2 * bit z = omega arith in
        let k₃ : k / 8 ≡ bit z + 2 * 0 = omega arith in
        ap (λ i. i ∷ k / 2 % 2 ∷ k / 4 % 2 ∷ k / 8 % 2 ∷ []) (ap (λ i. i % 2) k₀ ∙ low_bit (bit w) (bit x + 2 * (bit y + 2 * bit z)) p)
        ∙ ap (λ i. bit w ∷ i ∷ k / 4 % 2 ∷ k / 8 % 2 ∷ []) (ap (λ i. i % 2) k₁ ∙ low_bit (bit x) (bit y + 2 * bit z) q)
        ∙ ap (λ i. bit w ∷ bit x ∷ i ∷ k / 8 % 2 ∷ []) (ap (λ i. i % 2) k₂ ∙ low_bit (bit y) (bit z) r)
        ∙ ap (λ i. bit w ∷ bit x ∷ bit y ∷ i ∷ []) (ap (λ i. i % 2) k₃ ∙ low_bit (bit z) 0 s)

module _ (T : Table) (h : T.sheet ≤ max_sheet_types) where
  entry-is : (t s : ℕ) → t < T.sheet → s < T.sheet → get_or (pair_table T) (t * max_sheet_types + s) 0 ≡ pair_code (comparison_at T t s)
  entry-is t s p q = pair-at T t s (omega arith) (omega arith) ∙ rw (lt-ltb t T.sheet p, lt-ltb s T.sheet q)

  pair_is : (t s : ℕ) → t < T.sheet → s < T.sheet → code_line t s (get_or (pair_table T) (t * max_sheet_types + s) 0) ≡ pair_line T t s
  unfolding code_line pair_line
  pair_is t s p q = ap (code_line t s) (entry-is t s p q) ∙ ap (λ z. spaced (t ∷ s ∷ z)) (answers_of (comparison_at T t s))

  pub pairs-are : code_lines (pair_table T) T.sheet T.sheet ≡ pair_lines T
  unfolding code_lines row_lines pair_lines
  pairs-are = ap flatten (from-same (λ t. row_lines (pair_table T) t T.sheet) (λ t. from T.sheet 0 (pair_line T t)) T.sheet 0
      (λ t _ p. from-same (λ s. code_line t s (get_or (pair_table T) (t * max_sheet_types + s) 0)) (pair_line T t) T.sheet 0 (λ s _ q. pair_is t s (omega arith) (omega arith))))

-- ---- no refusal has the number 0
some-number : (e : Refusal) → number_of e ≡ 0 → ⊥
some-number Form h = omega arith
some-number OutOfRange h = omega arith
some-number NotBelow h = omega arith
some-number ShortBuffer h = omega arith
some-number UnknownSubject h = omega arith
some-number NotHeld h = omega arith
some-number UnknownType h = omega arith
some-number Unrelated h = omega arith
some-number NotOwner h = omega arith
some-number NotStrict h = omega arith
some-number TypesFull h = omega arith
some-number PlacesFull h = omega arith
some-number CellsFull h = omega arith
some-number NotCallable h = omega arith
some-number WrongValues h = omega arith
some-number TooWide h = omega arith
some-number AnsweredAlready h = omega arith
some-number CallsFull h = omega arith
some-number LaterLayer h = omega arith
some-number UnfitTimes h = omega arith

-- ---- what the reader answers, over the bytes that it is lent
module _ (bs types links : List ℕ) (r : Result Counts Malformed) (h : read_into_of r types links ≡ sheet_for (read bs)) where
  -- an accepted sheet
  module _ (c : Counts) (e : r ≡ Ok c) where
    is : sheet_of 0 0 types links c ≡ sheet_for (read bs)
    is = ap (λ z. read_into_of z types links) (sym e) ∙ h

    pub sheet-checked : Checked links c
    sheet-checked = accepted-checked types links c (read-accepted bs (sheet_of 0 0 types links c) is refl)

    pub sheet-few : c.sheet ≤ max_sheet_types
    sheet-few = sheet-checked.limits.sheet

    pub accepted-prints : length bs ≤ max_input → join (code_lines (pair_table (table_in types links c)) c.sheet c.sheet) ≡ pairs_output bs
    unfolding pairs_output result_lines table_in table_of
    accepted-prints l = ap join (pairs-are (table_in types links c) sheet-few) ∙ ap (λ a. join (result_lines a)) (sym (read-loaded bs (sheet_of 0 0 types links c) is refl))
        ∙ rw (le-ltb max_input (length bs) l)

  -- a refused one
  pub refused-prints : (m : Malformed) → r ≡ Err m → length bs ≤ max_input → join (result_lines (malformed (number_of m.refusal) m.at)) ≡ pairs_output bs
  unfolding pairs_output
  refused-prints m e l =
      let x : Sheet = sheet_of (number_of m.refusal) m.at types links empty_counts in
      let is : x ≡ sheet_for (read bs) = ap (λ z. read_into_of z types links) (sym e) ∙ h in
      ap (λ a. join (result_lines a)) (sym (read-malformed bs x is (some-number m.refusal))) ∙ rw (le-ltb max_input (length bs) l)

-- ---- an input that is too long
pub long-prints : (bs : List ℕ) → max_input < length bs → join (bytes "no=2" ∷ []) ≡ pairs_output bs
unfolding pairs_output
long-prints bs l = rw (lt-ltb max_input (length bs) l)
