-- The one array of the search (specs/Found): what its entries say, and what it says once a pair is added.
use mathlib.Core.Path.{◌≡◌, refl, ap, sym, ◌∙◌}
use mathlib.Core.Logic.{⊎_elim}
use mathlib.Core.Bool.{Bool, true, false}
use mathlib.Core.List.{List, [], ◌∷◌, map}
use Prim.Native.Nat.{ℕ, zero, suc, ◌+◌, ◌*◌, ◌/◌, ◌%◌, ◌≤◌, ◌<◌}
use native.Mathlib.Omega.{arith}
use borrow.Author.Tests.{le-leb, lt-leb}
use lib.Bits.{bit_or}
use lib.Dec.{leb}
use lib.ListN.{length, get_or, set, length-map, get_or-map}
use lib.Seq.{map-set_same}
use Rattle.table_record.proofs.Lists.{lt-or-ge}
use Rattle.std.specs.Prelude.{Some}
use Rattle.relation_found.specs.Found.{marks_in, queue_in, Added, ListedIn, MetIn}
use Rattle.relation_found.proofs.Pairs.{in_rows, pair-new}
use Rattle.spec_model.specs.Table.{max_types}

map-set : {A B : Type 0} (f : A → B) (l : List A) (i : ℕ) (y : A) → map f (set l i y) ≡ set (map f l) i (f y)
map-set f [] i y = refl
map-set f (x ∷ xs) zero y = refl
map-set {B = B} f (x ∷ xs) (suc i) y = ap (λ (zs : List B). f x ∷ zs) (map-set f xs i y)

-- ---- an entry, as it is read
pub mark-at : (b : List ℕ) (i : ℕ) (r x : Bool) → r ≡ leb 32768 (get_or b i 0) → r ≡ x → get_or (marks_in b) i false ≡ x
unfolding marks_in
mark-at b i r x e f = get_or-map (λ (v : ℕ). leb 32768 v) b i 0 ∙ sym e ∙ f

pub queue-at : (b : List ℕ) (i v : ℕ) → v ≡ get_or b i 0 → get_or (queue_in b) i 0 ≡ v % 32768
unfolding queue_in
queue-at b i v e = get_or-map (λ (v : ℕ). v % 32768) b i 0 ∙ ap (λ (v : ℕ). v % 32768) (sym e)

pub buffer-length : (b : List ℕ) → length (marks_in b) ≡ length b
unfolding marks_in
buffer-length b = length-map b (λ (v : ℕ). leb 32768 v)

-- ---- an entry below its rows
pub entry_in : (n : ℕ) (b : List ℕ) (t x y : ℕ) → ListedIn n b t → bit_or x y < length b / max_types → (x < max_types) × (y < max_types) × (x * max_types + y < length b)
entry_in n b t x y h k = let e = buffer-length b in in_rows x y (length b) (omega (arith, h.few)) k

-- ---- pair p is added as number t: the top bit of entry p, then the rest of entry t
top_kept : (v p : ℕ) → p < 32768 → leb 32768 (v / 32768 * 32768 + p) ≡ leb 32768 v
top_kept v p l =
    ⊎_elim
    (λ (h : v < 32768). lt-leb 32768 (v / 32768 * 32768 + p) (omega arith) ∙ sym (lt-leb 32768 v h))
    (λ (h : 32768 ≤ v). le-leb 32768 (v / 32768 * 32768 + p) (omega arith) ∙ sym (le-leb 32768 v h))
    (lt-or-ge v 32768)

module _ (b : List ℕ) (t p : ℕ) (l : p < 32768) where
  abbrev marked : List ℕ
  marked = set b p (get_or b p 0 % 32768 + 32768)

  -- entry t, read as w
  module _ (w : ℕ) (e : w ≡ get_or marked t 0) where
    abbrev placed : ℕ
    placed = w / 32768 * 32768 + p

    added-marks : marks_in (set marked t placed) ≡ set (marks_in b) p true
    unfolding marks_in
    added-marks =
        map-set_same (λ (v : ℕ). leb 32768 v) marked t placed 0 (top_kept w p l ∙ ap (λ (v : ℕ). leb 32768 v) e)
        ∙ map-set (λ (v : ℕ). leb 32768 v) b p (get_or b p 0 % 32768 + 32768)
        ∙ ap (λ (v : Bool). set (map (λ (v : ℕ). leb 32768 v) b) p v) (le-leb 32768 (get_or b p 0 % 32768 + 32768) (omega arith))

    added-queue : queue_in (set marked t placed) ≡ set (queue_in b) t p
    unfolding queue_in
    added-queue =
        let kept : (get_or b p 0 % 32768 + 32768) % 32768 ≡ get_or b p 0 % 32768 = omega arith in
        let new : placed % 32768 ≡ p = omega arith in
        map-set (λ (v : ℕ). v % 32768) marked t placed
        ∙ ap (λ (q : List ℕ). set q t (placed % 32768)) (map-set_same (λ (v : ℕ). v % 32768) b p (get_or b p 0 % 32768 + 32768) 0 kept)
        ∙ ap (λ (v : ℕ). set (map (λ (v : ℕ). v % 32768) b) t v) new

    pub added : Added b t p (set marked t placed)
    added = (added-marks, added-queue)

pub pair-added : (n : ℕ) (b : List ℕ) (t x y : ℕ) → ListedIn n b t → x < n → y < n → get_or (marks_in b) (x * max_types + y) false ≡ false
    → (b' : List ℕ) (r : ℕ) → (r ≡ t + 1) × Added b t (x * max_types + y) b' → MetIn n (λ M. M x y) b t b' (Some r)
pair-added n b t x y h p q e b' r k = rw (k.0, k.1.0, k.1.1) (pair-new n (marks_in b) (queue_in b) t x y h p q e)
