-- The text that is printed lists every tiny sheet (P25): cut at its `end=sheet` lines it is the list's texts, and what is said of the list is said of them.
use mathlib.Core.Path.{◌≡◌, refl, sym, ap, ◌∙◌, subst}
use mathlib.Core.Bool.{false}
use mathlib.Core.List.{List, [], ◌∷◌, map, flatten}
use Prim.Native.Nat.{ℕ, suc, ◌<◌}
use native.Mathlib.Omega.{arith}
use lib.ListN.{length, get_or, length-map}
use Rattle.spec_model.specs.Table.{Table}
use Rattle.spec_model.proofs.Lists.{get_or-map-in}
use Rattle.spec_sheet.specs.Text.{text}
use Rattle.spec_sheet.specs.Sheet.{read}
use Rattle.spec_sheet.proofs.Exact.{same-table}
use Rattle.spec_tiny.specs.Tiny.{tiny_table, tiny_tables, tiny_count, tiny_text}
use Rattle.spec_tiny.specs.Numbered.{tiny_at}
use Rattle.spec_tiny.specs.Order.{rank}
use Rattle.spec_tiny.specs.Every.{sheets_in, sheet_in, Every}
use Rattle.spec_tiny.proofs.Count.{count, tiny, accepted, rank-at, methods-at, once-text, text-size}
use Rattle.spec_tiny.proofs.All.{complete-text}

sheets : sheets_in tiny_text ≡ map text tiny_tables
unfolding sheets_in tiny_text
sheets = refl

sheet-at : (i : ℕ) → i < tiny_count → sheet_in tiny_text i ≡ text (tiny_at i)
unfolding tiny_at
sheet-at i l = ap (λ (xs : List (List ℕ)). get_or xs i []) sheets ∙ get_or-map-in text tiny_tables i (tiny_table false []) [] (rw count l)

whole : flatten (sheets_in tiny_text) ≡ tiny_text
unfolding tiny_text
whole = ap flatten sheets

pub every-tiny : Every tiny_text
every-tiny = record {
  whole = whole;
  size = text-size;
  count = ap length sheets ∙ length-map tiny_tables text ∙ count;
  tiny = λ i l. (tiny_at i, record { accepted = ap read (sheet-at i l) ∙ accepted i l; kind = tiny i l }, rank-at i l);
  methods = λ i t l e. ap (λ (z : Table). z.methods) (same-table (text (tiny_at i)) t (tiny_at i) (sym (ap read (sheet-at i l)) ∙ e) (accepted i l)) ∙ methods-at i l;
  once = λ i j k l e. once-text i j k l (sym (sheet-at i k) ∙ e ∙ sheet-at j l);
  all = λ bs t h. let r = complete-text bs t h.accepted h.kind in (r.0, sheet-at (rank t) r.0 ∙ sym r.1);
}

-- ---- No other text is such a list: sheet i can only be the one of rank i, and there is nothing beside the sheets.
same_lists : (xs ys : List (List ℕ)) → length xs ≡ length ys → ((i : ℕ) → i < length xs → get_or xs i [] ≡ get_or ys i []) → xs ≡ ys
same_lists [] [] e h = refl
same_lists [] (y ∷ ys) e h = absurd (omega arith)
same_lists (x ∷ xs) [] e h = absurd (omega arith)
same_lists (x ∷ xs) (y ∷ ys) e h = ap (λ z. z ∷ xs) (h 0 (omega arith)) ∙ ap (λ zs. y ∷ zs) (same_lists xs ys (omega arith) (λ i l. h (suc i) (omega arith)))

pub only : (out : List ℕ) → Every out → out ≡ tiny_text
only out e = sym e.whole ∙ ap flatten (same_lists (sheets_in out) (sheets_in tiny_text) (e.count ∙ sym every-tiny.count) at) ∙ whole
  where
    at : (i : ℕ) → i < length (sheets_in out) → sheet_in out i ≡ sheet_in tiny_text i
    at i l =
        let k : i < tiny_count = subst (λ z. i < z) e.count l in
        let r = rank-at i k in
        let a = e.all (text (tiny_at i)) (tiny_at i) (record { accepted = accepted i k; kind = tiny i k }) in
        ap (sheet_in out) (sym r) ∙ a.1 ∙ sym (sheet-at i k)
