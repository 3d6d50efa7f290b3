-- Laws over plain values for the line kinds: words, numbers below a bound and broader categories. The proofs of the functions cite them.
use mathlib.Core.Path.{◌≡◌, refl, sym, ap, ◌∙◌}
use mathlib.Core.Logic.{◌⊎◌, inl, inr}
use mathlib.Core.Bool.{Bool, true, false, ◌&&◌, cond}
use mathlib.Core.List.{List, [], ◌∷◌}
use Prim.Native.Nat.{ℕ, zero, suc, ◌+◌, ◌≤◌, ◌<◌}
use native.Mathlib.Omega.{arith}
use lib.Dec.{ltb, leb}
use lib.ListN.{length, get_or, take, drop}
use lib.Seq.{length-take-le, get_or-take}
use borrow.Author.Tests.{ltb-true, leb-true, leb-false, lt-ltb, le-ltb}
use Rattle.spec_model.specs.Basics.{Res, refuse, ok, try, need, all}
use Rattle.spec_model.specs.Table.{Rep, ref, w32, w64, max_sheet_types, max_broader}
use Rattle.spec_model.specs.Check.{links_of}
use Rattle.spec_model.proofs.Rules.{first, second}
use Rattle.spec_model.specs.Refusals.{form, out_of_range, not_below}
use Rattle.table_record.proofs.Lists.{lt-or-ge}
use Rattle.spec_sheet.specs.Lines.{bytes, starts, same, keyed, choice}
use Rattle.spec_sheet.specs.Numbers.{fail, took, whole, numbers}
use Rattle.spec_sheet.specs.Text.{rep_text, own_text, end_text}
use Rattle.spec_sheet.specs.Sheet.{rep_line, own_line, end_line, under_line, below}
use Rattle.text_read.specs.declared.Numbers.{Numbers}
use Rattle.text_read.specs.View.{items_of, numbers_of, RestEmpty, max_numbers}
use Rattle.text_read.proofs.Laws.{from-here, at-end}
use Rattle.std.specs.List.{list_all}
use Rattle.sheet_read_line.specs.View.{LinksExact}

-- every line kind refuses an empty line
pub rep-empty : rep_line [] ≡ refuse form
unfolding rep_line choice starts
rep-empty = refl

pub own-empty : own_line [] ≡ refuse form
unfolding own_line choice starts
own-empty = refl

pub end_empty : end_line [] ≡ refuse form
unfolding end_line choice starts
end_empty = refl

pub under-empty : (cats k : ℕ) → under_line cats k [] ≡ refuse form
unfolding under_line keyed starts
under-empty cats k = refl

-- The last line.
pub end-yes : (l : List ℕ) → same end_text l ≡ true → ok tt ≡ end_line l
unfolding end_line choice
end-yes l e = ap (λ z. cond z (ok tt) (refuse form)) (sym e)

pub end-no : (l : List ℕ) → same end_text l ≡ false → refuse form ≡ end_line l
unfolding end_line choice
end-no l e = ap (λ z. cond z (ok tt) (refuse form)) (sym e)

-- Words.
module _ (l : List ℕ) where
  rep-third : Res Rep
  rep-third = cond (same (rep_text w64) l) (ok w64) (refuse form)

  rep-second : Res Rep
  rep-second = cond (same (rep_text w32) l) (ok w32) rep-third

  pub rep-ref : same (rep_text ref) l ≡ true → ok ref ≡ rep_line l
  unfolding rep_line choice rep-second rep-third
  rep-ref e = ap (λ z. cond z (ok ref) rep-second) (sym e)

  module _ (a : same (rep_text ref) l ≡ false) where
    to-second : rep-second ≡ rep_line l
    unfolding rep_line choice rep-second rep-third
    to-second = ap (λ z. cond z (ok ref) rep-second) (sym a)

    pub rep-w32 : same (rep_text w32) l ≡ true → ok w32 ≡ rep_line l
    unfolding rep-second
    rep-w32 e = ap (λ z. cond z (ok w32) rep-third) (sym e) ∙ to-second

    module _ (b : same (rep_text w32) l ≡ false) where
      to-third : rep-third ≡ rep_line l
      unfolding rep-second
      to-third = ap (λ z. cond z (ok w32) rep-third) (sym b) ∙ to-second

      pub rep-w64 : same (rep_text w64) l ≡ true → ok w64 ≡ rep_line l
      unfolding rep-third
      rep-w64 e = ap (λ z. cond z (ok w64) (refuse form)) (sym e) ∙ to-third

      pub rep-none : same (rep_text w64) l ≡ false → refuse form ≡ rep_line l
      unfolding rep-third
      rep-none e = ap (λ z. cond z (ok w64) (refuse form)) (sym e) ∙ to-third

  own-second : Res Bool
  own-second = cond (same (own_text false) l) (ok false) (refuse form)

  pub own-yes : same (own_text true) l ≡ true → ok true ≡ own_line l
  unfolding own_line choice own-second
  own-yes e = ap (λ z. cond z (ok true) own-second) (sym e)

  module _ (a : same (own_text true) l ≡ false) where
    to-own : own-second ≡ own_line l
    unfolding own_line choice own-second
    to-own = ap (λ z. cond z (ok true) own-second) (sym a)

    pub own-no : same (own_text false) l ≡ true → ok false ≡ own_line l
    unfolding own-second
    own-no e = ap (λ z. cond z (ok false) (refuse form)) (sym e) ∙ to-own

    pub own-none : same (own_text false) l ≡ false → refuse form ≡ own_line l
    unfolding own-second
    own-none e = ap (λ z. cond z (ok false) (refuse form)) (sym e) ∙ to-own

-- a test of every number, as the library has it
pub all-list : {A : Type 0} (f : A → Bool) (xs : List A) → list_all f xs ≡ all f xs
all-list f [] = refl
all-list f (x ∷ xs) = ap (λ z. f x && z) (all-list f xs)

-- Numbers as bytes: those that are there are below n, the others are 0.
low-at : (n : ℕ) (xs : List ℕ) (i : ℕ) → all (below n) xs ≡ true → i < length xs → get_or xs i 0 < n
low-at n [] i h k = absurd (omega arith)
low-at n (x ∷ xs) zero h k = ltb-true x n (first (ltb x n) (all (below n) xs) h)
low-at n (x ∷ xs) (suc i) h k = low-at n xs i (second (ltb x n) (all (below n) xs) h) (omega arith)

module _ (n : ℕ) (t : Numbers) (few : t.count ≤ max_numbers) (rest : RestEmpty t) where
  pub item-small : all (below n) (numbers_of t) ≡ true → n ≤ max_sheet_types → (i : ℕ) → get_or (items_of t) i 0 < 256
  item-small h k i = go (lt-or-ge i t.count)
    where
      there : length (numbers_of t) ≡ t.count
      there = length-take-le t.count (items_of t) few

      go : (i < t.count) ⊎ (t.count ≤ i) → get_or (items_of t) i 0 < 256
      go (inl l) = let e = get_or-take t.count (items_of t) i 0 l in let w = low-at n (numbers_of t) i h (omega (arith, there)) in omega (arith, e, w)
      go (inr l) = omega (arith, rest i l)

-- a bound that is allowed
pub all-leb : (c : ℕ) (xs : List ℕ) → all (λ n. leb n c) xs ≡ all (below (c + 1)) xs
all-leb c [] = refl
all-leb c (x ∷ xs) = ap (λ z. z && all (λ n. leb n c) xs) (one x) ∙ ap (λ z. ltb x (c + 1) && z) (all-leb c xs)
  where
    go : (x : ℕ) (b : Bool) → leb x c ≡ b → b ≡ ltb x (c + 1)
    go x true e = sym (lt-ltb x (c + 1) (omega (arith, leb-true x c e)))
    go x false e = sym (le-ltb x (c + 1) (omega (arith, leb-false x c e)))

    one : (x : ℕ) → leb x c ≡ ltb x (c + 1)
    one x = go x (leb x c) refl

-- An `under=` line.
module _ (c k : ℕ) (l : List ℕ) where
  lower : List ℕ → Res (List ℕ)
  lower xs = need (all (λ n. ltb n k) xs) not_below λ _. ok xs

  ranged : List ℕ → Res (List ℕ)
  ranged xs = need (all (λ n. leb n c) xs) out_of_range λ _. lower xs

  after-key : Bool → Res (List ℕ)
  after-key b = try (need b form λ _. ok (drop 6 l)) λ r. try (whole (numbers max_broader [] r)) ranged

  line_of : after-key (starts (bytes "under=") l) ≡ under_line c k l
  unfolding under_line keyed after-key ranged lower
  line_of = refl

  pub under-key : starts (bytes "under=") l ≡ false → refuse form ≡ under_line c k l
  unfolding after-key
  under-key e = ap after-key (sym e) ∙ line_of

  module _ (h : starts (bytes "under=") l ≡ true) where
    behind-key : try (whole (numbers max_broader [] (drop 6 l))) ranged ≡ under_line c k l
    unfolding after-key
    behind-key = ap after-key (sym h) ∙ line_of

    pub under-wrong : fail ≡ numbers max_broader [] (drop 6 l) → refuse form ≡ under_line c k l
    under-wrong e = ap (λ z. try (whole z) ranged) e ∙ behind-key

    module _ (xs : List ℕ) (e : ℕ) (q : took xs (drop e l) ≡ numbers max_broader [] (drop 6 l)) where
      taken : try (whole (took xs (drop e l))) ranged ≡ under_line c k l
      taken = ap (λ z. try (whole z) ranged) q ∙ behind-key

      pub under-behind : e < length l → refuse form ≡ under_line c k l
      under-behind j = ap (λ z. try (whole (took xs z)) ranged) (sym (from-here l e j)) ∙ taken

      module _ (j : length l ≤ e) where
        alone : ranged xs ≡ under_line c k l
        alone = ap (λ z. try (whole (took xs z)) ranged) (sym (at-end l e j)) ∙ taken

        pub under-above : all (below (c + 1)) xs ≡ false → refuse out_of_range ≡ under_line c k l
        unfolding ranged
        under-above b = ap (λ z. need z out_of_range λ _. lower xs) (sym (all-leb c xs ∙ b)) ∙ alone

        module _ (b : all (below (c + 1)) xs ≡ true) where
          known : lower xs ≡ under_line c k l
          unfolding ranged
          known = ap (λ z. need z out_of_range λ _. lower xs) (sym (all-leb c xs ∙ b)) ∙ alone

          pub under-high : all (below k) xs ≡ false → refuse not_below ≡ under_line c k l
          unfolding lower
          under-high d = ap (λ z. need z not_below λ _. ok xs) (sym d) ∙ known

          pub under-good : all (below k) xs ≡ true → ok xs ≡ under_line c k l
          unfolding lower
          under-good d = ap (λ z. need z not_below λ _. ok xs) (sym d) ∙ known

-- One or two numbers as links: they are what was read, and the record of what they say, in which a missing second one is 0.
pub links-are : (t : Numbers) (n a b : ℕ) → n ≡ t.count → a ≡ t.first → b ≡ t.second → 1 ≤ t.count → t.count ≤ 2 → RestEmpty t
    → (links_of (record { count = n; first = a; second = b }) ≡ numbers_of t) × LinksExact (record { count = n; first = a; second = b })
links-are t n a b e p q h k z = go t.count e h k (z 1)
  where
    go : (c : ℕ) → n ≡ c → 1 ≤ c → c ≤ 2 → (c ≤ 1 → t.second ≡ 0) → (links_of (record { count = n; first = a; second = b }) ≡ take c (items_of t))
        × LinksExact (record { count = n; first = a; second = b })
    go zero e h k z = absurd (omega arith)
    go (suc zero) e h k z = let w = q ∙ z (omega arith) in (rw (e, p), rw (e, p, w))
    go (suc (suc zero)) e h k z = (rw (e, p, q), rw (e, p, q))
    go (suc (suc (suc c))) e h k z = absurd (omega arith)
