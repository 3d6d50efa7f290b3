-- Laws over plain values: what a sign, a space, an operand more, the line's end and its word mean. The proofs of the functions cite them.
use mathlib.Core.Path.{◌≡◌, refl, sym, ap, ◌∙◌, subst}
use mathlib.Core.Bool.{Bool, true, false, not, ◌&&◌, ◌||◌, cond}
use mathlib.Core.List.{List, [], ◌∷◌, ◌++◌}
use mathlib.Core.Option.{Option, none, some}
use Prim.Native.Nat.{ℕ, zero, suc, ◌+◌, ◌-◌, ◌^◌, ◌≤◌, ◌<◌}
use native.Mathlib.Omega.{arith}
use native.Mathlib.Numerals.{add-one}
use lib.Dec.{eqb, leb}
use lib.IntN.{ℤ, pos, negsuc, ◌-ℤ◌}
use lib.ListN.{length, get_or, set, take, drop, length-drop}
use lib.Seq.{length-take-le, take-suc-set}
use mir.Facts.{to_z-of_z}
use mir.Syntax.{w64}
use mir.Val.{to_z, SFits}
use borrow.Author.Tests.{le-leb, lt-leb, lt-ltb, le-ltb, eq-eqb, ne_eqb, eqb-true, eqb-false}
use Rattle.spec_model.specs.Requests.{Request}
use Rattle.spec_model.specs.Table.{is_none}
use Rattle.spec_model.proofs.Rules.{both}
use Rattle.spec_model.specs.Coded.{by_code}
use Rattle.spec_sheet.specs.Lines.{bytes, starts, same}
use Rattle.spec_sheet.specs.Numbers.{Scan, fail, took, bind_scan, number}
use Rattle.std.specs.Prelude.{Option as Maybe, Some, None}
use Rattle.text_read.proofs.Laws.{from-here, at-end}
use Rattle.script_read_request.specs.Asked.{half, positive, negative, integer, operand, operands, max_operands, leftover, request_by, word, request_line}
use Rattle.script_read_request.specs.Read.{integer_by, code_of, count_fits, Reads}
use Rattle.script_read_request.specs.declared.Code.{Code}
use Rattle.script_read_request.specs.declared.Code.TheVariants.{New, Move, Call, Answer}
use Rattle.script_read_request.specs.declared.Asked.{Asked}

-- ---- Signs
pub signed : (n : ℕ) → n < half → to_z w64 n ≡ pos n
signed n h = let z : n < 2 ^ 63 = omega arith in let f : SFits w64 (pos n) = record { sfits = z } in to_z-of_z f

-- one below 0, less n
pub below : (n : ℕ) → negsuc 0 -ℤ pos n ≡ negsuc n
below zero = refl
below (suc n) = ap (λ z. negsuc (suc z)) (omega arith)

pub below-fits : (n : ℕ) → n < half → SFits w64 (negsuc n)
below-fits n h = let z : n < 2 ^ 63 = omega arith in record { sfits = z }

module _ (n : ℕ) (r : List ℕ) where
  pub plus-past : half ≤ n → fail ≡ positive n r
  plus-past h = ap (λ z. cond z (took (pos n) r) fail) (sym (le-ltb n half h))

  pub plus-right : n < half → (v : ℤ) → v ≡ pos n → took v r ≡ positive n r
  plus-right h v q = ap (λ z. took z r) q ∙ ap (λ z. cond z (took (pos n) r) fail) (sym (lt-ltb n half h))

  pub minus-zero : n ≡ 0 → fail ≡ negative n r
  minus-zero h = ap (λ z. cond (z && leb n half) (took (negsuc (n - 1)) r) fail) (sym (lt-leb 1 n (omega arith)))

  module _ (z : n ≡ 0 → ⊥) where
    pub minus-past : half < n → fail ≡ negative n r
    minus-past h =
        let p : 1 ≤ n = omega arith in ap (λ z. cond z (took (negsuc (n - 1)) r) fail) (sym (ap (λ z. z && leb n half) (le-leb 1 n p) ∙ lt-leb n half h))

    pub minus-right : n ≤ half → (v : ℤ) → v ≡ negsuc (n - 1) → took v r ≡ negative n r
    minus-right h v q =
        let p : 1 ≤ n = omega arith in ap (λ z. took z r) q ∙ ap (λ z. cond z (took (negsuc (n - 1)) r) fail) (sym (both (le-leb 1 n p) (le-leb n half h)))

-- ---- Signed numbers and operands at a place of the line
pub integer-none : (l : List ℕ) (at : ℕ) → at ≡ length l → fail ≡ integer (drop at l)
unfolding integer
integer-none l at h = sym (ap integer (at-end l at (omega arith)))

pub operand-none : (l : List ℕ) (at : ℕ) → at ≡ length l → fail ≡ operand (drop at l)
unfolding operand
operand-none l at h = sym (ap operand (at-end l at (omega arith)))

module _ (l : List ℕ) (at : ℕ) (h : at < length l) where
  integer-here : cond (eqb (get_or l at 0) 45) (bind_scan (number (drop (at + 1) l)) negative) (bind_scan (number (drop at l)) positive) ≡ integer (drop at l)
  unfolding integer
  integer-here =
      let d = from-here l at h in
      sym (ap integer d ∙ ap (λ z. cond (eqb (get_or l at 0) 45) (bind_scan (number (drop (at + 1) l)) negative) (bind_scan (number z) positive)) (sym d))

  pub integer-minus : get_or l at 0 ≡ 45 → bind_scan (number (drop (at + 1) l)) negative ≡ integer (drop at l)
  integer-minus e =
      ap (λ z. cond z (bind_scan (number (drop (at + 1) l)) negative) (bind_scan (number (drop at l)) positive)) (sym (eq-eqb (get_or l at 0) 45 e)) ∙ integer-here

  pub integer-plus : (get_or l at 0 ≡ 45 → ⊥) → bind_scan (number (drop at l)) positive ≡ integer (drop at l)
  integer-plus e =
      ap (λ z. cond z (bind_scan (number (drop (at + 1) l)) negative) (bind_scan (number (drop at l)) positive)) (sym (ne_eqb (get_or l at 0) 45 e)) ∙ integer-here

  operand-here : cond (eqb (get_or l at 0) 32) (integer (drop (at + 1) l)) fail ≡ operand (drop at l)
  unfolding operand
  operand-here = sym (ap operand (from-here l at h))

  pub operand-other : (get_or l at 0 ≡ 32 → ⊥) → fail ≡ operand (drop at l)
  operand-other e = ap (λ z. cond z (integer (drop (at + 1) l)) fail) (sym (ne_eqb (get_or l at 0) 32 e)) ∙ operand-here

  pub operand-space : (s : Scan ℤ) → get_or l at 0 ≡ 32 → s ≡ integer (drop (at + 1) l) → s ≡ operand (drop at l)
  operand-space s e q = q ∙ ap (λ z. cond z (integer (drop (at + 1) l)) fail) (sym (eq-eqb (get_or l at 0) 32 e)) ∙ operand-here

-- ---- Operands: `count` of them are read, the rest begins at i.
abbrev Rest : Type 0
Rest = List ℤ × List ℕ

abbrev onward : ℕ → List ℤ → List ℕ → Scan ℤ → Rest
onward n acc l s = elim s [ fail ↦ (acc, l) | took v r ↦ operands n (acc ++ v ∷ []) r ]

module _ (l : List ℕ) (items : List ℤ) (count i : ℕ) (R : Rest) (inv : operands (max_operands - count) (take count items) (drop i l) ≡ R) where
  pub operands-many : max_operands ≤ count → (take count items, drop i l) ≡ R
  unfolding operands
  operands-many h = let e : max_operands - count ≡ 0 = omega arith in ap (λ z. operands z (take count items) (drop i l)) (sym e) ∙ inv

  module _ (h : count < max_operands) (t : Maybe (ℤ × ℕ)) (is : integer_by l t ≡ operand (drop i l)) where
    operands_step : onward (max_operands - (count + 1)) (take count items) (drop i l) (integer_by l t) ≡ R
    unfolding operands
    operands_step =
        let e : max_operands - count ≡ suc (max_operands - (count + 1)) = omega arith in
        ap (onward (max_operands - (count + 1)) (take count items) (drop i l)) is ∙ ap (λ z. operands z (take count items) (drop i l)) (sym e) ∙ inv

    pub operands_end : t ≡ None → (take count items, drop i l) ≡ R
    operands_end e = ap (λ z. onward (max_operands - (count + 1)) (take count items) (drop i l) (integer_by l z)) (sym e) ∙ operands_step

    pub operands-more : count < length items → (v : ℤ) (next : ℕ) → t ≡ Some (v, next) → operands (max_operands - (count + 1)) (take (count + 1) (set items count v)) (drop next l) ≡ R
    operands-more k v next e =
        ap (λ z. operands (max_operands - (count + 1)) z (drop next l)) (ap (λ z. take z (set items count v)) (add-one count) ∙ take-suc-set items count v k)
        ∙ ap (λ z. onward (max_operands - (count + 1)) (take count items) (drop i l) (integer_by l z)) (sym e) ∙ operands_step

-- ---- The line's end
pub end_other : (l : List ℕ) (code : Code) (count : ℕ) → (code ≡ Answer → count ≡ 2 → ⊥) → (ws : List ℤ) → length ws ≡ count → same [] l ≡ same (leftover (code_of code) ws) l
end_other l New count h ws n = refl
end_other l Move count h ws n = refl
end_other l Call count h ws n = refl
end_other l Answer count h ws n = ap (λ z. same (cond z (bytes " -") []) l) (sym (ne_eqb (length ws) 2 (λ q. h refl (sym n ∙ q))))

pub same-empty : (l : List ℕ) (at : ℕ) → at ≤ length l → eqb at (length l) ≡ same [] (drop at l)
unfolding starts
same-empty l at h = go (eqb at (length l)) refl
  where
    go : (b : Bool) → eqb at (length l) ≡ b → b ≡ eqb (length (drop at l)) 0
    go true e = let q : at ≡ length l = eqb-true at (length l) e in let d : length (drop at l) ≡ length l - at = length-drop at l in sym (eq-eqb (length (drop at l)) 0 (d ∙ omega arith))
    go false e = let q : at ≡ length l → ⊥ = eqb-false at (length l) e in let d : length (drop at l) ≡ length l - at = length-drop at l in
        sym (ne_eqb (length (drop at l)) 0 (λ z. let p : length l - at ≡ 0 = sym d ∙ z in q (omega arith)))

-- ---- The request
one-is : (q : Request) (b : Bool) → not (is_none (cond b (some q) none)) ≡ b
one-is q true = refl
one-is q false = refl

either_is : (p q : Request) (a b : Bool) → not (is_none (cond a (some p) (cond b (some q) none))) ≡ (a || b)
either_is p q true b = refl
either_is p q false true = refl
either_is p q false false = refl

counted : (k : ℕ) (ws : List ℤ) → not (is_none (by_code k ws)) ≡ count_fits k (length ws)
counted zero ws = one-is _ (eqb (length ws) 3)
counted (suc zero) ws = one-is _ (eqb (length ws) 4)
counted (suc (suc zero)) ws = one-is _ (leb 3 (length ws))
counted (suc (suc (suc zero))) ws = either_is _ _ (eqb (length ws) 2) (eqb (length ws) 3)
counted (suc (suc (suc (suc k)))) ws = refl

none-is : (o : Option Request) → not (is_none o) ≡ false → none ≡ o
none-is none h = refl
none-is (some q) h = let e : ◌≡◌ {A = Bool} true false = h in cc

-- What stands behind the word at `at`: the operands are the first `count` items, and the bytes behind them begin at `next`.
module _ (l : List ℕ) (at : ℕ) (code : Code) (items : List ℤ) (count next : ℕ) (is : (take count items, drop next l) ≡ operands max_operands [] (drop at l)) (few : count ≤ max_operands)
    (size : length items ≡ max_operands) where
  abbrev ws : List ℤ
  ws = take count items

  pub taken : length ws ≡ count
  taken = length-take-le count items (omega arith)

  abbrev k : ℕ
  k = code_of code

  by_word : cond (same (leftover k ws) (drop next l)) (by_code k ws) none ≡ request_by k (drop at l)
  by_word = ap (λ (z : Rest). cond (same (leftover k z.0) z.1) (by_code k z.0) none) is

  abbrev a : Asked
  a = record { code = code; count = count; items = items }

  pub reads : (r : Maybe Asked) → r ≡ cond (same (leftover k ws) (drop next l) && count_fits k count) (Some a) None → Reads (request_by k (drop at l)) r
  reads r e = subst (λ z. Reads z r) by_word (go (same (leftover k ws) (drop next l)) e)
    where
      fitting : not (is_none (by_code k ws)) ≡ count_fits k count
      fitting = counted k ws ∙ ap (count_fits k) taken

      by_count : (b : Bool) → count_fits k count ≡ b → Reads (by_code k ws) (cond b (Some a) None)
      by_count true f = record { is = refl; some = sym (fitting ∙ f); within = (few, size) }
      by_count false f = record { is = none-is (by_code k ws) (fitting ∙ f); some = sym (fitting ∙ f); within = tt }

      go : (b : Bool) → r ≡ cond (b && count_fits k count) (Some a) None → Reads (cond b (by_code k ws) none) r
      go true e = subst (Reads (by_code k ws)) (sym e) (by_count (count_fits k count) refl)
      go false e = subst (Reads none) (sym e) (record { is = refl; some = refl; within = tt })

-- Which word the line begins with.
module _ (l : List ℕ) (a : Maybe Asked) where
  abbrev Line : Bool → Bool → Bool → Bool → Option Request
  Line n m c s = cond n (request_by 0 (drop 6 l)) (cond m (request_by 1 (drop 7 l)) (cond c (request_by 2 (drop 7 l)) (cond s (request_by 3 (drop 9 l)) none)))

  words : Line (starts (word 0) l) (starts (word 1) l) (starts (word 2) l) (starts (word 3) l) ≡ request_line l
  unfolding request_line
  words = refl

  pub line-new : starts (word 0) l ≡ true → Reads (request_by 0 (drop 6 l)) a → Reads (request_line l) a
  line-new h = subst (λ z. Reads z a) (ap (λ z. Line z (starts (word 1) l) (starts (word 2) l) (starts (word 3) l)) (sym h) ∙ words)

  module _ (h0 : starts (word 0) l ≡ false) where
    words1 : Line false (starts (word 1) l) (starts (word 2) l) (starts (word 3) l) ≡ request_line l
    words1 = ap (λ z. Line z (starts (word 1) l) (starts (word 2) l) (starts (word 3) l)) (sym h0) ∙ words

    pub line-move : starts (word 1) l ≡ true → Reads (request_by 1 (drop 7 l)) a → Reads (request_line l) a
    line-move h = subst (λ z. Reads z a) (ap (λ z. Line false z (starts (word 2) l) (starts (word 3) l)) (sym h) ∙ words1)

    module _ (h1 : starts (word 1) l ≡ false) where
      words2 : Line false false (starts (word 2) l) (starts (word 3) l) ≡ request_line l
      words2 = ap (λ z. Line false z (starts (word 2) l) (starts (word 3) l)) (sym h1) ∙ words1

      pub line-call : starts (word 2) l ≡ true → Reads (request_by 2 (drop 7 l)) a → Reads (request_line l) a
      line-call h = subst (λ z. Reads z a) (ap (λ z. Line false false z (starts (word 3) l)) (sym h) ∙ words2)

      module _ (h2 : starts (word 2) l ≡ false) where
        words3 : Line false false false (starts (word 3) l) ≡ request_line l
        words3 = ap (λ z. Line false false z (starts (word 3) l)) (sym h2) ∙ words2

        pub line-answer : starts (word 3) l ≡ true → Reads (request_by 3 (drop 9 l)) a → Reads (request_line l) a
        line-answer h = subst (λ z. Reads z a) (ap (λ z. Line false false false z) (sym h) ∙ words3)

        pub line_other : starts (word 3) l ≡ false → Reads none a → Reads (request_line l) a
        line_other h = subst (λ z. Reads z a) (ap (λ z. Line false false false z) (sym h) ∙ words3)
