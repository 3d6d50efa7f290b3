-- Lines: splitting undoes joining, and what makes a line reader exact.
use mathlib.Core.Path.{◌≡◌, refl, sym, ap, ◌∙◌}
use mathlib.Core.Bool.{Bool, true, false, So, cond}
use mathlib.Core.List.{List, [], ◌∷◌, ◌++◌, append-nil}
use Prim.Native.Nat.{ℕ, ◌+◌, zero, suc, ◌/◌, ◌%◌}
use native.Mathlib.Omega.{arith}
use lib.Dec.{eqb, ltb}
use lib.ListN.{length, drop, length-append}
use lib.Seq.{drop-append_seam}
use borrow.Author.Tests.{eqb-true, eq-eqb, ne_eqb}
use Rattle.spec_model.specs.Basics.{Res, ok, all, need}
use Rattle.spec_model.proofs.Rules.{both, first, second, never}
use Rattle.spec_model.specs.Refusals.{form}
use Rattle.spec_sheet.specs.Lines.{Row, row, cut, push, split, join, starts, same, keyed, choice}
use Rattle.spec_sheet.specs.Clean.{not_lf, clean}
use Rattle.spec_sheet.specs.Numbers.{decimal, tails, commas, decimal_in}
use Rattle.spec_sheet.proofs.Steps.{cond_cases, ok-value, refuse-ok, need-ok}

-- bytes back from rows
abbrev pub unsplit : List Row → List ℕ
unsplit [] = []
unsplit (row l ∷ rs) = l ++ 10 ∷ unsplit rs
unsplit (cut l ∷ rs) = l ++ unsplit rs

unpush : (b : ℕ) (rs : List Row) → unsplit (push b rs) ≡ b ∷ unsplit rs
unpush b [] = refl
unpush b (row l ∷ rs) = refl
unpush b (cut l ∷ rs) = refl

pub unsplit-split : (bs : List ℕ) → unsplit (split bs) ≡ bs
unfolding split
unsplit-split [] = refl
unsplit-split (b ∷ bs) = go (unsplit-split bs) (eqb b 10) refl
  where
    go : unsplit (split bs) ≡ bs → (t : Bool) → eqb b 10 ≡ t → unsplit (cond t (row [] ∷ split bs) (push b (split bs))) ≡ b ∷ bs
    go ih true e = ap (λ z. z ∷ unsplit (split bs)) (sym (eqb-true b 10 e)) ∙ ap (λ z. b ∷ z) ih
    go ih false e = unpush b (split bs) ∙ ap (λ z. b ∷ z) ih

abbrev pub rows : List (List ℕ) → List Row
rows [] = []
rows (l ∷ ls) = row l ∷ rows ls

pub rows_append : (a b : List (List ℕ)) → rows (a ++ b) ≡ rows a ++ rows b
rows_append [] b = refl
rows_append (l ∷ a) b = ap (λ z. row l ∷ z) (rows_append a b)

unsplit-rows : (ls : List (List ℕ)) → unsplit (rows ls) ≡ join ls
unfolding join
unsplit-rows [] = refl
unsplit-rows (l ∷ ls) = ap (λ z. l ++ 10 ∷ z) (unsplit-rows ls)

pub split-sound : (bs : List ℕ) (ls : List (List ℕ)) → split bs ≡ rows ls → bs ≡ join ls
split-sound bs ls h = sym (unsplit-split bs) ∙ ap unsplit h ∙ unsplit-rows ls

abbrev pub Clean : List (List ℕ) → Type 0
Clean [] = Unit {0}
Clean (l ∷ ls) = So (clean l) × Clean ls

pub clean-lines : (a b : List (List ℕ)) → Clean a → Clean b → Clean (a ++ b)
clean-lines [] b h k = k
clean-lines (l ∷ a) b h k = (h.0, clean-lines a b h.1 k)

pub not_lf-eqb : (b : ℕ) → So (not_lf b) → eqb b 10 ≡ false
not_lf-eqb b h = cond_cases (eqb b 10) h (λ e k. never k) (λ e k. e)

pub split-line : (l xs : List ℕ) → So (clean l) → split (l ++ 10 ∷ xs) ≡ row l ∷ split xs
unfolding split
split-line [] xs h = refl
split-line (b ∷ l) xs h =
    ap (λ z. cond z (row [] ∷ split (l ++ 10 ∷ xs)) (push b (split (l ++ 10 ∷ xs)))) (not_lf-eqb b (first (not_lf b) (clean l) h))
    ∙ ap (push b) (split-line l xs (second (not_lf b) (clean l) h))

pub split-full : (ls : List (List ℕ)) → Clean ls → split (join ls) ≡ rows ls
unfolding join split
split-full [] h = refl
split-full (l ∷ ls) h = split-line l (join ls) h.0 ∙ ap (λ z. row l ∷ z) (split-full ls h.1)

-- no decimal has an LF
pub all_append : (f : ℕ → Bool) (a b : List ℕ) → So (all f a) → So (all f b) → So (all f (a ++ b))
all_append f [] b h k = k
all_append f (x ∷ a) b h k = both (first (f x) (all f a) h) (all_append f a b (second (f x) (all f a) h) k)

digit-clean : (n : ℕ) → So (not_lf (48 + n))
digit-clean n = ap (λ z. cond z false true) (ne_eqb (48 + n) 10 (λ q. omega arith))

digits-clean : (f n : ℕ) → So (clean (decimal_in f n))
unfolding decimal_in
digits-clean zero n = refl
digits-clean (suc f) n = go (digits-clean f (n / 10)) (ltb n 10)
  where
    go : So (clean (decimal_in f (n / 10))) → (b : Bool) → So (clean (cond b ((48 + n) ∷ []) (decimal_in f (n / 10) ++ (48 + n % 10) ∷ [])))
    go ih true = both (digit-clean n) refl
    go ih false = all_append not_lf (decimal_in f (n / 10)) ((48 + n % 10) ∷ []) ih (both (digit-clean (n % 10)) refl)

pub decimal-clean : (n : ℕ) → So (clean (decimal n))
decimal-clean n = digits-clean 20 n

tails-clean : (xs : List ℕ) → So (clean (tails xs))
tails-clean [] = refl
tails-clean (x ∷ xs) = all_append not_lf (decimal x) (tails xs) (decimal-clean x) (tails-clean xs)

pub commas-clean : (xs : List ℕ) → So (clean (commas xs))
commas-clean [] = refl
commas-clean (x ∷ xs) = all_append not_lf (decimal x) (tails xs) (decimal-clean x) (tails-clean xs)

-- words at the start of a line
pub starts-sound : (k l : List ℕ) → So (starts k l) → l ≡ k ++ drop (length k) l
unfolding starts
starts-sound [] l h = refl
starts-sound (k ∷ ks) [] h = never h
starts-sound (k ∷ ks) (b ∷ bs) h =
    ap (λ z. z ∷ bs) (sym (eqb-true k b (first (eqb k b) (starts ks bs) h))) ∙ ap (λ z. k ∷ z) (starts-sound ks bs (second (eqb k b) (starts ks bs) h))

pub starts-full : (k l : List ℕ) → So (starts k (k ++ l))
unfolding starts
starts-full [] l = refl
starts-full (k ∷ ks) l = both (eq-eqb k k refl) (starts-full ks l)

pub nil-length : (l : List ℕ) → length l ≡ 0 → l ≡ []
nil-length [] h = refl
nil-length (x ∷ l) h = absurd (omega arith)

pub same-sound : (k l : List ℕ) → So (same k l) → l ≡ k
same-sound k l h =
    let e : l ≡ k ++ drop (length k) l = starts-sound k l (first (starts k l) (eqb (length l) (length k)) h) in
    let n : length l ≡ length k = eqb-true (length l) (length k) (second (starts k l) (eqb (length l) (length k)) h) in
    let q : length l ≡ length k + length (drop (length k) l) = ap length e ∙ length-append k (drop (length k) l) in
    e ∙ ap (λ z. k ++ z) (nil-length (drop (length k) l) (omega arith)) ∙ append-nil k

pub keyed-sound : (key l r : List ℕ) → keyed key l ≡ ok r → l ≡ key ++ r
unfolding keyed
keyed-sound key l r h = need-ok (starts key l) form (λ u. ok (drop (length key) l)) h (λ t e. starts-sound key l t ∙ ap (λ z. key ++ z) (ok-value e))

pub keyed-full : (key r : List ℕ) → keyed key (key ++ r) ≡ ok r
unfolding keyed
keyed-full key r = ap (λ z. need z form (λ u. ok (drop (length key) (key ++ r)))) (starts-full key r) ∙ ap ok (drop-append_seam key r)

-- A line reader is exact when it accepts the texts of the values that fit, each with its value, and nothing else.
pub record LineExact {A : Type 0} (f : List ℕ → Res A) (fit : A → Type 0) (tx : A → List ℕ) : Type 0 where
  pub sound : (l : List ℕ) (x : A) → f l ≡ ok x → fit x × (l ≡ tx x)
  pub full : (x : A) → fit x → f (tx x) ≡ ok x
  pub lf : (x : A) → fit x → So (clean (tx x))

abbrev pub Any : {A : Type 0} → A → Type 0
Any x = Unit {0}

pub choice-exact : {A : Type 0} (tx : A → List ℕ) (xs : List A) → ((x : A) → choice tx xs (tx x) ≡ ok x) → ((x : A) → So (clean (tx x))) → LineExact (choice tx xs) Any tx
unfolding choice
choice-exact tx xs f c = record { sound = λ l x e. (tt, from xs l x e); full = λ x u. f x; lf = λ x u. c x }
  where
    from : (xs : List _) (l : List ℕ) (x : _) → choice tx xs l ≡ ok x → l ≡ tx x
    from [] l x e = refuse-ok e
    from (y ∷ xs) l x e = cond_cases (same (tx y) l) e (λ t v. same-sound (tx y) l t ∙ ap tx (ok-value v)) (λ t v. from xs l x v)
