-- Laws of filling a lent buffer. `fill-rest` puts two writers together, the second on the rest of the buffer; `counted` is what a writer says of an empty part.
use mathlib.Core.Path.{◌≡◌, refl, sym, ap, ◌∙◌, subst}
use mathlib.Core.Bool.{Bool, true, false, cond}
use mathlib.Core.List.{List, [], ◌∷◌, ◌++◌, append_assoc, append-nil}
use Prim.Native.Nat.{ℕ, zero, suc, ◌+◌, ◌-◌, ◌/◌, ◌%◌, ◌≤◌, ◌<◌, min}
use native.Mathlib.Omega.{arith}
use native.Mathlib.Numerals.{add-one}
use lib.Dec.{ltb}
use lib.ListN.{length, get_or, set, take, drop, length-append, length-drop, drop_of_length-le}
use lib.Seq.{take-append_seam, drop-append_seam, drop-drop, length-take-le, take_all, take-suc, drop-cons, set_at}
use borrow.Rule.Slice.PartMut.{mid_of, put_mid}
use Rattle.spec_sheet.specs.Lines.{join}
use Rattle.spec_sheet.specs.Numbers.{decimal_in, decimal}
use Rattle.spec_sheet.proofs.Offsets.{join-append}
use Rattle.spec_sheet.proofs.Lines.{nil-length}
use Rattle.text_write.specs.Fill.{Filled, Lined}

pub fill_none : (l : List ℕ) → Filled l l [] 0
fill_none l = record { said = refl; size = refl; text = λ _. refl }

-- a copy, byte by byte
pub copy-next : (b t : List ℕ) (i : ℕ) → i < length t → length t ≤ length b → set (take i t ++ drop i b) i (get_or t i 0) ≡ take (i + 1) t ++ drop (i + 1) b
copy-next b t i h k =
    ap (λ z. set (take i t ++ z) i (get_or t i 0)) (drop-cons b i 0 (omega arith))
    ∙ set_at (take i t) (get_or b i 0) (drop (suc i) b) (get_or t i 0) i (length-take-le i t (omega arith))
    ∙ sym (append_assoc (take i t) (get_or t i 0 ∷ []) (drop (suc i) b))
    ∙ ap (λ z. z ++ drop (suc i) b) (sym (take-suc t i 0 h))
    ∙ ap (λ z. take z t ++ drop z b) (sym (add-one i))

pub copy-all : (b t new : List ℕ) (i : ℕ) → i ≤ length t → length t ≤ i → length t ≤ length b → new ≡ take i t ++ drop i b → Filled b new t (length t)
copy-all b t new i a h k e =
    let q : i ≡ length t = omega arith in
    let w : new ≡ t ++ drop (length t) b = e ∙ ap (λ z. take z t ++ drop z b) q ∙ ap (λ z. z ++ drop (length t) b) (take_all (length t) t (omega arith)) in
    let s : length (t ++ drop (length t) b) ≡ length t + length (drop (length t) b) = length-append t (drop (length t) b) in
    let d : length (drop (length t) b) ≡ length b - length t = length-drop (length t) b in
    record { said = refl; size = ap length w ∙ omega arith; text = λ _. w }

-- a second filling, of the rest
fill_more : (old mid tl new xs ys : List ℕ) (a b k : ℕ) → Filled old mid xs a → k ≡ min a (length mid) → Filled (drop k mid) tl ys b → new ≡ take k mid ++ tl
    → Filled old new (xs ++ ys) (a + b)
fill_more old mid tl new xs ys a b k f e g n =
    let s = f.said in
    let t = g.said in
    let u = f.size in
    let v = g.size in
    let p : length (xs ++ ys) ≡ length xs + length ys = length-append xs ys in
    let d : length (drop k mid) ≡ length mid - k = length-drop k mid in
    let w : length (take k mid) ≡ k = length-take-le k mid (omega arith) in
    let o : length (take k mid ++ tl) ≡ length (take k mid) + length tl = length-append (take k mid) tl in
    record {
      said = omega arith;
      size = ap length n ∙ omega arith;
      text = λ r.
          let q : k ≡ length xs = omega arith in
          let m : mid ≡ xs ++ drop (length xs) old = f.text (omega arith) in
          let dm : drop k mid ≡ drop (length xs) old = ap (λ z. drop z mid) q ∙ ap (drop (length xs)) m ∙ drop-append_seam xs (drop (length xs) old) in
          let tm : take k mid ≡ xs = ap (λ z. take z mid) q ∙ ap (take (length xs)) m ∙ take-append_seam xs (drop (length xs) old) in
          let t : tl ≡ ys ++ drop (length (xs ++ ys)) old =
          g.text (omega arith) ∙ ap (λ z. ys ++ drop (length ys) z) dm ∙ ap (λ z. ys ++ z) (drop-drop (length ys) (length xs) old) ∙ ap (λ z. ys ++ drop z old) (sym p) in
          n ∙ ap (λ z. z ++ tl) tm ∙ ap (λ z. xs ++ z) t
          ∙ sym (append_assoc xs ys (drop (length (xs ++ ys)) old));
    }

-- THE LAW: a writer, and another on the part of the buffer from the first one's end on, lent and given back
pub fill-rest : {old mid tl xs ys : List ℕ} {a b k : ℕ} → Filled old mid xs a → k ≡ min a (length mid)
    → Filled (mid_of k (length mid - k) mid) tl ys b → Filled old (put_mid k (length mid - k) mid tl) (xs ++ ys) (a + b)
fill-rest {old} {mid} {tl} {xs} {ys} {a} {b} {k} f e g =
    let d : length (drop k mid) ≡ length mid - k = length-drop k mid in
    let m : take (length mid - k) (drop k mid) ≡ drop k mid = take_all (length mid - k) (drop k mid) (omega arith) in
    let p : drop (length mid - k) (drop k mid) ≡ [] = drop_of_length-le (drop k mid) {i = length mid - k} (omega arith) in
    fill_more old mid tl (put_mid k (length mid - k) mid tl) xs ys a b k f e (subst (λ z. Filled z tl ys b) m g)
    (ap (λ z. take k mid ++ (tl ++ z)) p ∙ ap (λ z. take k mid ++ z) (append-nil tl))

-- the same text, said otherwise
pub fill_is : {old new xs ys : List ℕ} {r : ℕ} → xs ≡ ys → Filled old new xs r → Filled old new ys r
fill_is {old} {new} {xs} {ys} {r} e f = subst (λ z. Filled old new z r) e f

-- a line is its text and LF
pub ended : {old new l : List ℕ} {r : ℕ} → Filled old new (l ++ 10 ∷ []) r → Lined old new (l ∷ []) r
unfolding join
ended f = record { filled = f }

-- a piece of a line, and the line's end in the rest of the buffer
pub line-rest : {old mid tl xs ys : List ℕ} {a b k : ℕ} → Filled old mid xs a → k ≡ min a (length mid)
    → Lined (mid_of k (length mid - k) mid) tl (ys ∷ []) b → Lined old (put_mid k (length mid - k) mid tl) ((xs ++ ys) ∷ []) (a + b)
unfolding join
line-rest {xs = xs} {ys = ys} f e g = ended (fill_is (sym (append_assoc xs ys (10 ∷ []))) (fill-rest f e g.filled))

-- lines, and lines in the rest of the buffer
pub lines_rest : {old mid tl : List ℕ} {xs ys : List (List ℕ)} {a b k : ℕ} → Lined old mid xs a → k ≡ min a (length mid)
    → Lined (mid_of k (length mid - k) mid) tl ys b → Lined old (put_mid k (length mid - k) mid tl) (xs ++ ys) (a + b)
lines_rest {xs = xs} {ys = ys} f e g = record { filled = fill_is (sym (join-append xs ys)) (fill-rest f.filled e g.filled) }

pub lines_none : (l : List ℕ) → Lined l l [] 0
unfolding join
lines_none l = record { filled = fill_none l }

-- the same lines, said otherwise
pub lines_are : {old new : List ℕ} {xs ys : List (List ℕ)} {r : ℕ} → xs ≡ ys → Lined old new xs r → Lined old new ys r
lines_are {old} {new} {r = r} e f = subst (λ z. Lined old new z r) e f

-- the text in front of a buffer that has room for it, and what `&new[..r]` asks
pub printed : {old new xs : List ℕ} {r : ℕ} → Filled old new xs r → r ≤ length old → (take r new ≡ xs) × ((r ≤ length new) × (r ≡ length (take r new)))
printed {old} {new} {xs} {r} f l =
    let e = f.said in
    let s = f.size in
    let k : r ≤ length new = omega arith in
    (ap (λ z. take z new) e ∙ ap (take (length xs)) (f.text (omega arith)) ∙ take-append_seam xs (drop (length xs) old), (k, sym (length-take-le r new k)))

-- A writer on an empty part of the buffer b counts, and leaves b as it is.
pub counted : {b tl xs : List ℕ} {r : ℕ} → Filled [] tl xs r → tl ++ b ≡ b
counted {b} {tl} f = ap (λ z. z ++ b) (nil-length tl f.size)

-- a number of 64 bits has at most twenty digits
digits-few : (f n : ℕ) → length (decimal_in f n) ≤ f
unfolding decimal_in
digits-few zero n = omega arith
digits-few (suc f) n = go (ltb n 10) (digits-few f (n / 10))
  where
    go : (b : Bool) → length (decimal_in f (n / 10)) ≤ f → length (cond b ((48 + n) ∷ []) (decimal_in f (n / 10) ++ (48 + n % 10) ∷ [])) ≤ suc f
    go true h = omega arith
    go false h = simp length-append (omega arith)

pub decimal-few : (n : ℕ) → length (decimal n) ≤ 20
decimal-few n = digits-few 20 n
