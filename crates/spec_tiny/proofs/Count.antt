-- There are 14 and 116, in order; each is a valid sheet, of the kind, and read back; no two are equal (P24, P25).
use mathlib.Core.Path.{◌≡◌, refl, sym, ap, ◌∙◌}
use mathlib.Core.Bool.{Bool, false, So, cond}
use mathlib.Core.List.{List, [], ◌∷◌, map}
use Prim.Native.Nat.{ℕ, zero, suc, ◌<◌}
use native.Mathlib.Nat.{not-suc-le-zero, le_of_suc-le-suc}
use lib.Dec.{ltb}
use lib.ListN.{length, get_or}
use Rattle.spec_model.specs.Basics.{all, from}
use Rattle.spec_model.specs.Table.{Table, valid_sheet}
use Rattle.spec_model.proofs.Rules.{first, second}
use Rattle.spec_model.proofs.Lists.{get_or-map-in, from_first}
use Rattle.spec_sheet.specs.Text.{text}
use Rattle.spec_sheet.specs.Sheet.{loaded, read}
use Rattle.spec_sheet.proofs.Exact.{read-of-text, same-table}
use Rattle.spec_tiny.specs.Order.{rank}
use Rattle.spec_tiny.specs.Tiny.{tiny_table, tiny_tables, tiny_count, is_tiny, tiny_text, tiny_bytes}
use Rattle.spec_tiny.specs.Numbered.{tiny_at}

pub count : length tiny_tables ≡ tiny_count
unfolding tiny_tables
count = refl

-- what is known of them in their order, of each
pub mapped_at : {A : Type 0} (f : Table → A) (xs : List A) (d : A) → map f tiny_tables ≡ xs → (i : ℕ) → i < tiny_count → f (tiny_at i) ≡ get_or xs i d
unfolding tiny_at
mapped_at {A} f xs d e i l = sym (get_or-map-in f tiny_tables i (tiny_table false []) d (rw count l)) ∙ ap (λ (ys : List A). get_or ys i d) e

number_at : (f : Table → ℕ) (g : ℕ → ℕ) → map f tiny_tables ≡ from tiny_count 0 g → (i : ℕ) → i < tiny_count → f (tiny_at i) ≡ g i
number_at f g e i l = mapped_at f _ 0 e i l ∙ from_first g tiny_count i 0 l

all_valid : So (all valid_sheet tiny_tables)
unfolding tiny_tables valid_sheet
all_valid = refl

all-tiny : So (all is_tiny tiny_tables)
unfolding tiny_tables is_tiny
all-tiny = refl

all-at : {A : Type 0} (f : A → Bool) (xs : List A) (d : A) (i : ℕ) → i < length xs → So (all f xs) → So (f (get_or xs i d))
all-at f [] d i l h = absurd (not-suc-le-zero l)
all-at f (x ∷ xs) d zero l h = first (f x) _ h
all-at f (x ∷ xs) d (suc i) l h = all-at f xs d i (le_of_suc-le-suc l) (second (f x) _ h)

-- the methods of each: 14 have one and 116 have two
counted : map (λ (t : Table). t.methods) tiny_tables ≡ from tiny_count 0 (λ i. cond (ltb i 14) 1 2)
unfolding tiny_tables from
counted = refl

pub methods-at : (i : ℕ) → i < tiny_count → (tiny_at i).methods ≡ cond (ltb i 14) 1 2
unfolding tiny_at
methods-at i l = number_at (λ (t : Table). t.methods) (λ i. cond (ltb i 14) 1 2) counted i l

-- each is a valid sheet
pub valid : (i : ℕ) → i < tiny_count → So (valid_sheet (tiny_at i))
unfolding tiny_at
valid i l = all-at valid_sheet tiny_tables (tiny_table false []) i (rw count l) all_valid

-- of the kind
pub tiny : (i : ℕ) → i < tiny_count → So (is_tiny (tiny_at i))
unfolding tiny_at
tiny i l = all-at is_tiny tiny_tables (tiny_table false []) i (rw count l) all-tiny

-- and accepted by the reader, with its own table
pub accepted : (i : ℕ) → i < tiny_count → read (text (tiny_at i)) ≡ loaded (tiny_at i)
accepted i l = read-of-text (tiny_at i) (valid i l)

-- the list is in order
ranks : map rank tiny_tables ≡ from tiny_count 0 (λ i. i)
unfolding tiny_tables rank from
ranks = refl

pub rank-at : (i : ℕ) → i < tiny_count → rank (tiny_at i) ≡ i
unfolding tiny_at
rank-at i l = number_at rank (λ k. k) ranks i l

-- no two are equal
pub once : (i j : ℕ) → i < tiny_count → j < tiny_count → tiny_at i ≡ tiny_at j → i ≡ j
once i j k l e = sym (rank-at i k) ∙ ap rank e ∙ rank-at j l

-- and no two texts
pub once-text : (i j : ℕ) → i < tiny_count → j < tiny_count → text (tiny_at i) ≡ text (tiny_at j) → i ≡ j
once-text i j k l e = once i j k l (same-table (text (tiny_at i)) (tiny_at i) (tiny_at j) (accepted i k) (ap read e ∙ accepted j l))

-- ---- The text
pub text-size : length tiny_text ≡ tiny_bytes
unfolding tiny_text
text-size = refl
