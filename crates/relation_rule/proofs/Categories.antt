-- The order of categories (T7), worked out for the categories from 0 up, since links fall.
use mathlib.Core.Path.{◌≡◌, refl, ap, sym, ◌∙◌}
use mathlib.Core.Logic.{⊎_elim}
use mathlib.Core.Bool.{Bool, true, false, ◌||◌, cond}
use mathlib.Core.List.{List, [], ◌∷◌}
use Prim.Native.Nat.{ℕ, zero, suc, ◌+◌, ◌≤◌, ◌<◌}
use native.Mathlib.Nat.{not-suc-le-zero, le_of_suc-le-suc}
use native.Mathlib.Omega.{arith}
use lib.Dec.{eqb}
use lib.ListN.{get_or}
use borrow.Author.Tests.{eq-eqb, ne_eqb}
use Rattle.spec_model.specs.Basics.{any, AllBelow}
use Rattle.spec_model.specs.Relations.{reaches, cat_le}
use Rattle.spec_model.specs.Check.{RawLinks, no_raw_links, links_of, table_of}
use Rattle.spec_model.proofs.Largest.{get_or-from, get_or-from-out}
use Rattle.spec_model.specs.Table.{max_categories}
use Rattle.table_record.specs.declared.Counts.{Counts}
use Rattle.table_record.specs.Store.{links_in, table_in, broader_of}
use Rattle.table_record.proofs.Lists.{lt-or-ge}
use Rattle.table_record.specs.Limits.{Checked}
use Rattle.relation_rule.specs.Parts.{broader_in, cat_next}

-- the order of the table is that of these links, whatever its types
pub order_is : (b l : List ℕ) (c : Counts) (x y : ℕ) → reaches (suc max_categories) (broader_in l c) x y ≡ cat_le (table_in b l c) x y
unfolding cat_le table_in table_of broader_in
order_is b l c x y = refl

module _ (l : List ℕ) (c : Counts) where
  links-in : (x : ℕ) → 0 < x → x ≤ c.cats → get_or (broader_in l c) x [] ≡ broader_of l x
  unfolding broader_in
  links-in zero p q = absurd (not-suc-le-zero p)
  links-in (suc x) p q = get_or-from (broader_of l) [] c.cats 1 x q ∙ ap (broader_of l) (let e : 1 + x ≡ suc x = omega arith in e)

  links-out : (x : ℕ) → c.cats < x → get_or (broader_in l c) x [] ≡ []
  unfolding broader_in
  links-out zero p = refl
  links-out (suc x) p = get_or-from-out (broader_of l) [] c.cats 1 x (le_of_suc-le-suc p)

  links-zero : get_or (broader_in l c) 0 [] ≡ []
  unfolding broader_in
  links-zero = refl

any_same : (f g : ℕ → Bool) (n : ℕ) (xs : List ℕ) → AllBelow n xs → ((k : ℕ) → k < n → f k ≡ g k) → any f xs ≡ any g xs
any_same f g n [] h e = refl
any_same f g n (x ∷ xs) h e = rw (e x h.0, any_same f g n xs h.1 e)

or-none : (p q : Bool) → p || q ≡ p || (q || false)
or-none true q = refl
or-none false true = refl
or-none false false = refl

module _ (l : List ℕ) (c : Counts) (h : Checked l c) where
  links-below : (x : ℕ) → AllBelow x (get_or (broader_in l c) x [])
  links-below zero = rw (links-zero l c) tt
  links-below (suc x) = ⊎_elim (λ (p : c.cats < suc x). rw (links-out l c (suc x) p) tt)
      (λ (p : suc x ≤ c.cats). rw (links-in l c (suc x) (omega arith) p) (h.descends (suc x) (omega arith) p)) (lt-or-ge c.cats (suc x))

  -- as many steps as the category's number are enough
  more-fuel : (f a x : ℕ) → x ≤ f → reaches f (broader_in l c) a x ≡ reaches (suc f) (broader_in l c) a x
  unfolding reaches
  more-fuel zero a zero p = rw (links-zero l c) (or-none (eqb a 0) (eqb a 0))
  more-fuel zero a (suc x) p = absurd (not-suc-le-zero p)
  more-fuel (suc f) a x p = ap (λ (b : Bool). eqb a 0 || (eqb a x || b))
      (any_same (λ k. reaches f (broader_in l c) a k) (λ k. reaches (suc f) (broader_in l c) a k) x (get_or (broader_in l c) x []) (links-below x) (λ k q. more-fuel f a k (omega arith)))

  -- from the answers below x, that of x
  pub next-order : (done : List Bool) (a x : ℕ) → x < suc max_categories → ((k : ℕ) → k < x → get_or done k false ≡ reaches (suc max_categories) (broader_in l c) a k)
      → cat_next (broader_in l c) done a x ≡ reaches (suc max_categories) (broader_in l c) a x
  unfolding cat_next reaches
  next-order done a x p e = ap (λ (b : Bool). eqb a 0 || (eqb a x || b))
      (any_same (λ k. get_or done k false) (λ k. reaches max_categories (broader_in l c) a k) x (get_or (broader_in l c) x []) (links-below x)
      (λ k q. e k q ∙ sym (more-fuel max_categories a k (omega arith))))

-- a category above the last has no links
pub far_order : (l : List ℕ) (c : Counts) (a x : ℕ) → c.cats < x → (eqb a 0 || eqb a x) ≡ reaches (suc max_categories) (broader_in l c) a x
unfolding reaches
far_order l c a x p = rw (links-out l c x p) (or-none (eqb a 0) (eqb a x))

-- what needs no links: category 0, and a category itself
module _ (l : List ℕ) (c : Counts) (a x : ℕ) where
  pub none-order : a ≡ 0 → true ≡ reaches (suc max_categories) (broader_in l c) a x
  unfolding reaches
  none-order e = rw (eq-eqb a 0 e)

  pub self-order : a ≡ x → true ≡ reaches (suc max_categories) (broader_in l c) a x
  unfolding reaches
  self-order e = rw (eq-eqb a x e) (go (eqb a 0))
    where
      go : (p : Bool) → true ≡ p || true
      go true = refl
      go false = refl

-- One category: each result of the code.
module _ (l : List ℕ) (c : Counts) (done : List Bool) (a x : ℕ) where
  pub next-none : a ≡ 0 → true ≡ cat_next (broader_in l c) done a x
  unfolding cat_next
  next-none e = rw (eq-eqb a 0 e)

  pub next-self : a ≡ x → true ≡ cat_next (broader_in l c) done a x
  unfolding cat_next
  next-self e = rw (eq-eqb a x e) (go (eqb a 0))
    where
      go : (p : Bool) → true ≡ p || true
      go true = refl
      go false = refl

  module _ (p : a ≡ 0 → ⊥) (q : a ≡ x → ⊥) where
    pub next-zero : x ≡ 0 → false ≡ cat_next (broader_in l c) done a x
    unfolding cat_next
    next-zero e = rw (ne_eqb a 0 p, ne_eqb a x q, e, links-zero l c)

    pub next-out : c.cats < x → false ≡ cat_next (broader_in l c) done a x
    unfolding cat_next
    next-out h = rw (ne_eqb a 0 p, ne_eqb a x q, links-out l c x h)

    module _ (z : x ≡ 0 → ⊥) (i : x ≤ c.cats) (r : RawLinks) (e : r ≡ get_or (links_in l) x no_raw_links) where
      next-links : any (λ k. get_or done k false) (links_of r) ≡ cat_next (broader_in l c) done a x
      unfolding cat_next
      next-links = rw (ne_eqb a 0 p, ne_eqb a x q, links-in l c x (omega arith) i, e)

      -- u and w are the two numbers, as the code has read them
      pub next-first : (u : ℕ) → u ≡ r.first → get_or done u false ≡ true → true ≡ cat_next (broader_in l c) done a x
      next-first u f g = go (eqb r.count 2) ∙ next-links
        where
          go : (b : Bool) → true ≡ any (λ k. get_or done k false) (cond b (r.first ∷ r.second ∷ []) (r.first ∷ []))
          go true = rw (← f, g)
          go false = rw (← f, g)

      pub next-second : (u w : ℕ) → u ≡ r.first → w ≡ r.second → get_or done u false ≡ false → r.count ≡ 2 → get_or done w false ≡ cat_next (broader_in l c) done a x
      next-second u w f g h n = (let k : get_or done w false ≡ any (λ k. get_or done k false) (links_of r) = rw (eq-eqb r.count 2 n, ← f, ← g, h) (go (get_or done w false)) in k) ∙ next-links
        where
          go : (b : Bool) → b ≡ b || false
          go true = refl
          go false = refl

      pub next_one : (u : ℕ) → u ≡ r.first → get_or done u false ≡ false → (r.count ≡ 2 → ⊥) → false ≡ cat_next (broader_in l c) done a x
      next_one u f h n = (let k : false ≡ any (λ k. get_or done k false) (links_of r) = rw (ne_eqb r.count 2 n, ← f, h) in k) ∙ next-links
