-- The line of a pair by its pieces, how long it is at most, and one line or one row more behind those before.
use mathlib.Core.Path.{◌≡◌, refl, sym, ap, ◌∙◌}
use mathlib.Core.Logic.{⊎_elim}
use mathlib.Core.List.{List, [], ◌∷◌, ◌++◌, flatten, append_assoc, append-nil}
use Prim.Native.Nat.{ℕ, ◌+◌, ◌*◌, ◌/◌, ◌%◌, ◌≤◌, ◌<◌}
use native.Mathlib.Nat.{zero-add}
use native.Mathlib.Omega.{arith}
use native.Mathlib.Numerals.{add-one}
use lib.ListN.{length, get_or, length-append}
use Rattle.spec_model.specs.Basics.{from}
use Rattle.spec_model.specs.Table.{max_sheet_types}
use Rattle.table_record.proofs.Lists.{lt-or-ge, from_last}
use Rattle.spec_sheet.specs.Lines.{bytes, join}
use Rattle.spec_sheet.specs.Numbers.{decimal}
use Rattle.spec_sheet.specs.Text.{number_text, spaces}
use Rattle.spec_sheet.proofs.Numbers.{decimal-one, decimal-more}
use Rattle.pairs_write_lines.specs.Parts.{comparison_in, comparison_text, code_line, row_lines, code_lines}

abbrev word : ℕ → List ℕ
word n = number_text (bytes " ") n

regroup : (a b c d e : List ℕ) → ((a ++ b) ++ c) ++ (d ++ e) ≡ (a ++ (b ++ (c ++ (d ++ [])))) ++ e
regroup a b c d e = simp (append_assoc, append-nil)

-- ---- the line of a pair
pub answers-are : (c : ℕ) → ((word (c % 2) ++ word (c / 2 % 2)) ++ word (c / 4 % 2)) ++ join (word (c / 8 % 2) ∷ []) ≡ comparison_text c
unfolding comparison_text join
answers-are c = regroup (word (c % 2)) (word (c / 2 % 2)) (word (c / 4 % 2)) (word (c / 8 % 2)) (10 ∷ [])

pub line-is : (t s c : ℕ) → (decimal t ++ word s) ++ comparison_text c ≡ code_line t s c ++ 10 ∷ []
unfolding comparison_text code_line
line-is t s c = three (decimal t) (word s) (spaces (comparison_in c)) (10 ∷ [])
  where
    three : (a b d e : List ℕ) → (a ++ b) ++ (d ++ e) ≡ (a ++ (b ++ d)) ++ e
    three a b d e = simp append_assoc

-- ---- its length
digit-length : (n : ℕ) → n < 10 → length (decimal n) ≡ 1
digit-length n h = ap length (decimal-one n h)

short-length : (n : ℕ) → n < max_sheet_types → length (decimal n) ≤ 2
short-length n h = ⊎_elim
    (λ (l : n < 10). let e = digit-length n l in omega arith)
    (λ (g : 10 ≤ n). let e : length (decimal n) ≡ length (decimal (n / 10)) + 1 = ap length (decimal-more n g (omega arith)) ∙ length-append (decimal (n / 10)) ((48 + n % 10) ∷ []) in
    let d = digit-length (n / 10) (omega arith) in
    omega arith)
    (lt-or-ge n 10)

word-length : (n : ℕ) → length (word n) ≡ 1 + length (decimal n)
unfolding number_text
word-length n = length-append (bytes " ") (decimal n)

bit_length : (n : ℕ) → length (word (n % 2)) ≡ 2
bit_length n = word-length (n % 2) ∙ ap (λ z. 1 + z) (digit-length (n % 2) (omega arith))

answers-length : (c : ℕ) → length (comparison_text c) ≡ 9
unfolding comparison_text
answers-length c =
    let w = bit_length c in
    let x = bit_length (c / 2) in
    let y = bit_length (c / 4) in
    let z = bit_length (c / 8) in
    simp length-append (omega arith)

pub line-short : (t s c : ℕ) → t < max_sheet_types → s < max_sheet_types → length (code_line t s c ++ 10 ∷ []) ≤ 14
line-short t s c p q =
    let e : length ((decimal t ++ word s) ++ comparison_text c) ≡ length (code_line t s c ++ 10 ∷ []) = ap length (line-is t s c) in
    let f : length ((decimal t ++ word s) ++ comparison_text c) ≡ length (decimal t) + length (word s) + length (comparison_text c) = length-append (decimal t ++ word s) (comparison_text c)
    ∙ ap (λ z. z + length (comparison_text c)) (length-append (decimal t) (word s)) in
    let a = short-length t p in
    let b = short-length s q in
    let d = word-length s in
    let g = answers-length c in omega arith

-- ---- one more
pub row-none : (pairs : List ℕ) (t : ℕ) → [] ≡ row_lines pairs t 0
unfolding row_lines from
row-none pairs t = refl

pub row_next : (pairs : List ℕ) (t s v : ℕ) → v ≡ get_or pairs (t * max_sheet_types + s) 0 → row_lines pairs t s ++ (code_line t s v ∷ []) ≡ row_lines pairs t (s + 1)
unfolding row_lines
row_next pairs t s v e =
    let f : ℕ → List ℕ = λ s. code_line t s (get_or pairs (t * max_sheet_types + s) 0) in
    ap (λ z. row_lines pairs t s ++ (code_line t s z ∷ [])) e ∙ ap (λ z. row_lines pairs t s ++ (f z ∷ [])) (sym (zero-add s)) ∙ sym (from_last f s 0)
    ∙ ap (row_lines pairs t) (sym (add-one s))

flatten-last : (ls : List (List (List ℕ))) (l : List (List ℕ)) → flatten (ls ++ (l ∷ [])) ≡ flatten ls ++ l
unfolding flatten
flatten-last [] l = append-nil l
flatten-last (x ∷ ls) l = ap (λ z. x ++ z) (flatten-last ls l) ∙ sym (append_assoc x (flatten ls) l)

pub rows_none : (pairs : List ℕ) (n : ℕ) → [] ≡ code_lines pairs n 0
unfolding code_lines from flatten
rows_none pairs n = refl

pub rows_next : (pairs : List ℕ) (n t : ℕ) → code_lines pairs n t ++ row_lines pairs t n ≡ code_lines pairs n (t + 1)
unfolding code_lines
rows_next pairs n t =
    let f : ℕ → List (List ℕ) = λ t. row_lines pairs t n in
    ap (λ z. code_lines pairs n t ++ f z) (sym (zero-add t)) ∙ sym (flatten-last (from t 0 f) (f (0 + t))) ∙ ap flatten (sym (from_last f t 0)) ∙ ap (code_lines pairs n) (sym (add-one t))
