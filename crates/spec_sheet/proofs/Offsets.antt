-- Where a refusal stands (S31): its offset is behind a number of whole lines, and within the input.
use mathlib.Core.Path.{◌≡◌, refl, sym, ap, ◌∙◌}
use mathlib.Core.Bool.{Bool, true, false, cond}
use mathlib.Core.List.{List, [], ◌∷◌, ◌++◌, append_assoc}
use Prim.Native.Nat.{ℕ, zero, suc, ◌+◌, ◌≤◌}
use native.Mathlib.Omega.{arith}
use lib.ListN.{length, length-append}
use Rattle.spec_model.specs.Basics.{Res, refuse, ok}
use Rattle.spec_model.specs.Table.{Rep, ref, w32, w64, Table}
use Rattle.spec_model.specs.Refusals.{not_below}
use Rattle.spec_sheet.specs.Lines.{Row, row, cut, split, join, Reading, refused, got, Reader, line_at, line, follow, bind, times, end_of_input}
use Rattle.spec_sheet.specs.Sheet.{under_line, own_line, end_line, method_line, members, one_type, body, signatures_stand, ending, sheet, malformed, loaded, sheet_result, read}
use Rattle.spec_sheet.proofs.Lines.{unsplit, unsplit-split, rows, rows_append}

-- from offset at with rows rs, whole lines lead to offset at' with rows rs'
record Ahead (at : ℕ) (rs : List Row) (at' : ℕ) (rs' : List Row) : Type 0 where
  lines : List (List ℕ)
  passed : rs ≡ rows lines ++ rs'
  offset : at' ≡ at + length (join lines)

pub join-append : (a b : List (List ℕ)) → join (a ++ b) ≡ join a ++ join b
unfolding join
join-append [] b = refl
join-append (l ∷ a) b = ap (λ z. l ++ 10 ∷ z) (join-append a b) ∙ sym (append_assoc l (10 ∷ join a) (join b))

ahead_none : (at : ℕ) (rs : List Row) → Ahead at rs at rs
unfolding join
ahead_none at rs = record { lines = []; passed = refl; offset = omega arith }

ahead_more : {at a b : ℕ} {rs q r : List Row} → Ahead at rs a q → Ahead a q b r → Ahead at rs b r
ahead_more {at} {a} {b} {rs} {q} {r} x y =
    let xs : List (List ℕ) = x.lines in
    let ys : List (List ℕ) = y.lines in
    let n : length (join (xs ++ ys)) ≡ length (join xs) + length (join ys) = ap length (join-append xs ys) ∙ length-append (join xs) (join ys) in
    let p : a ≡ at + length (join xs) = x.offset in
    let s : b ≡ a + length (join ys) = y.offset in
    record {
      lines = xs ++ ys;
      passed = x.passed ∙ ap (λ z. rows xs ++ z) y.passed ∙ sym (append_assoc (rows xs) (rows ys) r) ∙ ap (λ z. z ++ r) (sym (rows_append xs ys));
      offset = omega arith;
    }

ahead-line : (at : ℕ) (l : List ℕ) (rs : List Row) → Ahead at (row l ∷ rs) (at + (length l + 1)) rs
unfolding join
ahead-line at l rs = let n : length (l ++ 10 ∷ []) ≡ length l + 1 = length-append l (10 ∷ []) in record { lines = l ∷ []; passed = refl; offset = omega arith }

-- what an answer of a reader that started at `at` with rows rs may be
abbrev Placed : {A : Type 0} → ℕ → List Row → Reading A → Type 0
Placed at rs (refused n k) = (rs' : List Row) × Ahead at rs k rs'
Placed at rs (got x k rs') = Ahead at rs k rs'

abbrev Places : {A : Type 0} → Reader A → Type 0
Places p = (at : ℕ) (rs : List Row) → Placed at rs (p at rs)

placed-more : {A : Type 0} (at : ℕ) {a : ℕ} (rs : List Row) {q : List Row} (r : Reading A) → Ahead at rs a q → Placed a q r → Placed at rs r
placed-more at rs (refused n k) x y = (y.0, ahead_more x y.1)
placed-more at rs (got v k rs') x y = ahead_more x y

line-places : {A : Type 0} (f : List ℕ → Res A) → Places (line f)
line-places {A} f at [] = ([], ahead_none at [])
line-places {A} f at (cut l ∷ rs) = (cut l ∷ rs, ahead_none at (cut l ∷ rs))
line-places {A} f at (row l ∷ rs) = go (f l)
  where
    go : (r : Res A) → Placed at (row l ∷ rs) (line_at r at l rs)
    go (refuse n) = (row l ∷ rs, ahead_none at (row l ∷ rs))
    go (ok x) = ahead-line at l rs

follow-places : {A B : Type 0} (at : ℕ) (rs : List Row) (r : Reading A) (k : A → Reader B) → Placed at rs r → ((x : A) → Places (k x)) → Placed at rs (follow r k)
follow-places at rs (refused n a) k h f = h
follow-places at rs (got x a q) k h f = placed-more at rs (k x a q) h (f x a q)

bind-places : {A B : Type 0} (p : Reader A) (k : A → Reader B) → Places p → ((x : A) → Places (k x)) → Places (bind p k)
bind-places p k h f at rs = follow-places at rs (p at rs) k (h at rs) f

times-places : {A : Type 0} (p : ℕ → Reader A) → ((i : ℕ) → Places (p i)) → (n i : ℕ) (acc : List A) → Places (times p n i acc)
unfolding times
times-places p h zero i acc at rs = ahead_none at rs
times-places p h (suc n) i acc at rs = follow-places at rs (p i at rs) _ (h i at rs) (λ x. times-places p h n (suc i) (acc ++ x ∷ []))

members-places : (m n : ℕ) (r : Rep) (c : ℕ) → Places (members m n r c)
unfolding members
members-places m n ref c = bind-places (line own_line) _ (line-places own_line) λ o.
    bind-places (times (λ j. line (method_line n)) m 0 []) _ (times-places (λ j. line (method_line n)) (λ j. line-places (method_line n)) m 0 []) λ ms. ahead_none
members-places m n w32 c = ahead_none
members-places m n w64 c = ahead_none

type-places : (m c n i : ℕ) → Places (one_type m c n i)
unfolding one_type
type-places m c n i = bind-places (line _) _ (line-places _) λ x. bind-places (line _) _ (line-places _) λ r. bind-places (line _) _ (line-places _) λ k. members-places m n r k

body-places : Places body
unfolding body
body-places = bind-places (line _) _ (line-places _) λ g. bind-places (line _) _ (line-places _) λ s. bind-places (line _) _ (line-places _) λ m. bind-places (line _) _ (line-places _) λ c.
    bind-places (times (λ k. line (under_line c k)) c 1 []) _ (times-places (λ k. line (under_line c k)) (λ k. line-places (under_line c k)) c 1 []) λ us. bind-places (line _) _ (line-places _) λ n.
    bind-places (times (one_type m c n) n 0 []) _ (times-places (one_type m c n) (type-places m c n) n 0 []) λ ts. ahead_none

-- own in a signature is refused at the last line's offset, where `ending` started
ending-places : (t : Table) → Places (ending t)
unfolding ending
ending-places t last rs = go (line end_line last rs) (line-places end_line last rs)
  where
    own : (b : Bool) (a : ℕ) (q : List Row) → Ahead last rs a q → Placed last rs (cond b (got t a q) (refused not_below last))
    own true a q h = h
    own false a q h = (rs, ahead_none last rs)

    behind : (a : ℕ) (q : List Row) → Ahead last rs a q → Placed last rs (follow (end_of_input a q) λ u at rs. cond (signatures_stand t) (got t at rs) (refused not_below last))
    behind a [] h = own (signatures_stand t) a [] h
    behind a (r ∷ q) h = (r ∷ q, h)

    go : (r : Reading (Unit {0})) → Placed last rs r → Placed last rs (follow r λ u. bind end_of_input λ u at rs. cond (signatures_stand t) (got t at rs) (refused not_below last))
    go (refused n k) h = h
    go (got u a q) h = behind a q h

unsplit-lines : (ls : List (List ℕ)) (rs : List Row) → unsplit (rows ls ++ rs) ≡ join ls ++ unsplit rs
unfolding join
unsplit-lines [] rs = refl
unsplit-lines (l ∷ ls) rs = ap (λ z. l ++ 10 ∷ z) (unsplit-lines ls rs) ∙ sym (append_assoc l (10 ∷ join ls) (unsplit rs))

malformed-is : {n at k j : ℕ} → malformed n at ≡ malformed k j → at ≡ j
malformed-is p = cc

loaded-malformed : {C : Type 0} {n at : ℕ} {t : Table} → loaded t ≡ malformed n at → C
loaded-malformed p = let z : ◌≡◌ {A = ℕ} 0 1 = cc in absurd (omega arith)

-- the bytes before a refusal's offset are whole lines
pub offset-behind-lines : (bs : List ℕ) (n at : ℕ) → read bs ≡ malformed n at → (ls : List (List ℕ)) × (rest : List ℕ) × (bs ≡ join ls ++ rest) × (at ≡ length (join ls))
unfolding read sheet
offset-behind-lines bs n at = go (sheet 0 (split bs)) (follow-places 0 (split bs) (body 0 (split bs)) ending (body-places 0 (split bs)) ending-places)
  where
    go : (r : Reading Table) → Placed 0 (split bs) r → sheet_result r ≡ malformed n at → (ls : List (List ℕ)) × (rest : List ℕ) × (bs ≡ join ls ++ rest) × (at ≡ length (join ls))
    go (refused k j) h e =
        let i = h.1 in
        let p : j ≡ 0 + length (join i.lines) = i.offset in
        let q : j ≡ at = malformed-is e in
        (i.lines, unsplit h.0, sym (unsplit-split bs) ∙ ap unsplit i.passed ∙ unsplit-lines i.lines h.0, omega arith)
    go (got t k rs) h e = loaded-malformed e

pub offset-within : (bs : List ℕ) (n at : ℕ) → read bs ≡ malformed n at → at ≤ length bs
offset-within bs n at h =
    let i = offset-behind-lines bs n at h in
    let p : length bs ≡ length (join i.0) + length i.1 = ap length i.2 ∙ length-append (join i.0) i.1 in
    let q : at ≡ length (join i.0) = i.3 in omega arith
