-- Readers put together stay exact: one law for each way in which Lines puts them together. A line more in the sheet is one more use of `bind-exact`.
use mathlib.Core.Path.{◌≡◌, refl, sym, ap, ◌∙◌, subst}
use mathlib.Core.Bool.{Bool, So}
use mathlib.Core.List.{List, [], ◌∷◌, ◌++◌, append_assoc, append-nil}
use Prim.Native.Nat.{ℕ, zero, suc, ◌+◌, ◌≤◌, ◌<◌}
use native.Mathlib.Omega.{arith}
use lib.ListN.{length}
use Rattle.spec_model.specs.Basics.{Res, refuse, ok, every}
use Rattle.spec_model.proofs.Rules.{both, first, second}
use Rattle.spec_sheet.specs.Lines.{Row, row, cut, Reading, refused, got, Reader, pure, line_at, line, follow, bind, times}
use Rattle.spec_sheet.specs.Text.{each}
use Rattle.spec_sheet.proofs.Lines.{rows, rows_append, Clean, clean-lines, LineExact}

-- A reader is exact when it accepts the lines of the values that fit, each with its value, leaves what follows, and accepts nothing else.
pub record Exact {A : Type 0} (p : Reader A) (fit : A → Type 0) (ls : A → List (List ℕ)) : Type 0 where
  pub sound : (at : ℕ) (rs : List Row) (x : A) (at' : ℕ) (rs' : List Row) → p at rs ≡ got x at' rs' → fit x × (rs ≡ rows (ls x) ++ rs')
  pub full : (at : ℕ) (x : A) (rs' : List Row) → fit x → (at' : ℕ) × (p at (rows (ls x) ++ rs') ≡ got x at' rs')
  pub lf : (x : A) → fit x → Clean (ls x)

pub refused-got : {A C : Type 0} {n k at : ℕ} {x : A} {rs : List Row} → refused n k ≡ got x at rs → C
refused-got p = let z : ◌≡◌ {A = ℕ} 0 1 = cc in absurd (omega arith)

pub got-value : {A : Type 0} {x y : A} {a b : ℕ} {r q : List Row} → got x a r ≡ got y b q → x ≡ y
got-value p = cc

pub got-rest : {A : Type 0} {x y : A} {a b : ℕ} {r q : List Row} → got x a r ≡ got y b q → r ≡ q
got-rest p = cc

pub follow-got : {A B C : Type 0} {y : B} {b : ℕ} {q : List Row} (r : Reading A) (k : A → Reader B) → follow r k ≡ got y b q
    → ((x : A) (a : ℕ) (rs : List Row) → r ≡ got x a rs → k x a rs ≡ got y b q → C) → C
follow-got (refused n at) k h c = refused-got h
follow-got (got x a rs) k h c = c x a rs refl h

-- one line
pub line-exact : {A : Type 0} {f : List ℕ → Res A} {fit : A → Type 0} {tx : A → List ℕ} → LineExact f fit tx → Exact (line f) fit (λ x. tx x ∷ [])
line-exact {f} {fit} {tx} o = record { sound = from; full = λ at x rs' h. (_, ap (λ z. line_at z at (tx x) rs') (o.full x h)); lf = λ x h. (o.lf x h, tt) }
  where
    from : (at : ℕ) (rs : List Row) (x : _) (at' : ℕ) (rs' : List Row) → line f at rs ≡ got x at' rs' → fit x × (rs ≡ row (tx x) ∷ rs')
    from at [] x at' rs' h = refused-got h
    from at (cut l ∷ rs) x at' rs' h = refused-got h
    from at (row l ∷ rs) x at' rs' h = go (f l) refl h
      where
        go : (g : Res _) → f l ≡ g → line_at g at l rs ≡ got x at' rs' → fit x × (row l ∷ rs ≡ row (tx x) ∷ rs')
        go (refuse n) e h = refused-got h
        go (ok y) e h = let i = o.sound l x (e ∙ ap ok (got-value h)) in (i.0, ap (λ z. row z ∷ rs) i.1 ∙ ap (λ z. row (tx x) ∷ z) (got-rest h))

-- a value without lines: the one that fits
pub pure-exact : {A : Type 0} {v : A} {fit : A → Type 0} → fit v → ((y : A) → fit y → v ≡ y) → Exact (pure v) fit (λ y. [])
pure-exact {v} {fit} h only = record {
  sound = λ at rs x at' rs' e. (subst fit (got-value e) h, got-rest e);
  full = λ at x rs' o. (at, ap (λ z. got z at rs') (only x o));
  lf = λ x o. tt;
}

-- One reader and then another, where the first one's value is a part of the second one's.
pub bind-exact : {A B : Type 0} {p : Reader A} {k : A → Reader B} {fit_a : A → Type 0} {fit : B → Type 0} {ls_a : A → List (List ℕ)} {ls : B → List (List ℕ)} (part : B → A)
    → Exact p fit_a ls_a → ((y : B) → fit y → fit_a (part y)) → ((x : A) → fit_a x → Exact (k x) (λ y. (part y ≡ x) × fit y) ls) → Exact (bind p k) fit (λ y. ls_a (part y) ++ ls y)
bind-exact {p} {k} {fit_a} {fit} {ls_a} {ls} part E fits F =
    record { sound = from; full = to; lf = λ y o. clean-lines (ls_a (part y)) (ls y) (E.lf (part y) (fits y o)) ((F (part y) (fits y o)).lf y (refl, o)) }
  where
    join-rows : (y : _) (rs' : List Row) → rows (ls_a (part y) ++ ls y) ++ rs' ≡ rows (ls_a (part y)) ++ (rows (ls y) ++ rs')
    join-rows y rs' = ap (λ z. z ++ rs') (rows_append (ls_a (part y)) (ls y)) ∙ append_assoc (rows (ls_a (part y))) (rows (ls y)) rs'

    from : (at : ℕ) (rs : List Row) (y : _) (at' : ℕ) (rs' : List Row) → bind p k at rs ≡ got y at' rs' → fit y × (rs ≡ rows (ls_a (part y) ++ ls y) ++ rs')
    from at rs y at' rs' h = follow-got (p at rs) k h λ x a q e₁ e₂.
        let i = E.sound at rs x a q e₁ in
        let j = (F x i.0).sound a q y at' rs' e₂ in
        (j.0.1, i.1 ∙ ap (λ z. rows (ls_a x) ++ z) j.1 ∙ ap (λ z. rows (ls_a z) ++ (rows (ls y) ++ rs')) (sym j.0.0) ∙ sym (join-rows y rs'))

    to : (at : ℕ) (y : _) (rs' : List Row) → fit y → (at' : ℕ) × (bind p k at (rows (ls_a (part y) ++ ls y) ++ rs') ≡ got y at' rs')
    to at y rs' o =
        let i = E.full at (part y) (rows (ls y) ++ rs') (fits y o) in
        let j = (F (part y) (fits y o)).full i.0 y rs' (refl, o) in
        (j.0, ap (λ z. bind p k at z) (join-rows y rs') ∙ ap (λ z. follow z k) i.1 ∙ j.1)

-- the same values by lines said in another way, or with one end taken off
pub exact-lines : {A : Type 0} {p : Reader A} {fit : A → Type 0} {ls ls' : A → List (List ℕ)} → ((x : A) → fit x → ls x ≡ ls' x) → Exact p fit ls → Exact p fit ls'
exact-lines {p} {fit} {ls} {ls'} e E = record {
  sound = λ at rs x at' rs' h. let i = E.sound at rs x at' rs' h in (i.0, i.1 ∙ ap (λ z. rows z ++ rs') (e x i.0));
  full = λ at x rs' o. subst (λ z. (at' : ℕ) × (p at (rows z ++ rs') ≡ got x at' rs')) (e x o) (E.full at x rs' o);
  lf = λ x o. subst Clean (e x o) (E.lf x o);
}

-- several things
module _ {A : Type 0} (p : ℕ → Reader A) (fit : ℕ → A → Bool) (ls : ℕ → A → List (List ℕ)) (limit : ℕ)
    (E : (i : ℕ) → i < limit → Exact (p i) (λ x. So (fit i x)) (ls i)) where
  abbrev Several : ℕ → ℕ → List A → List Row → List A → List Row → Type 0
  Several n i acc rs ys rs' = (xs : List A) × (ys ≡ acc ++ xs) × (length xs ≡ n) × So (every fit i xs) × (rs ≡ rows (each ls i xs) ++ rs')

  times-sound : (n i : ℕ) (acc : List A) (at : ℕ) (rs : List Row) (ys : List A) (at' : ℕ) (rs' : List Row) → i + n ≤ limit → times p n i acc at rs ≡ got ys at' rs'
      → Several n i acc rs ys rs'
  unfolding times each
  times-sound zero i acc at rs ys at' rs' h e = ([], sym (got-value e) ∙ sym (append-nil acc), refl, refl, got-rest e)
  times-sound (suc n) i acc at rs ys at' rs' h e = follow-got (p i at rs) _ e (λ x a q e₁ e₂.
      let j = (E i (omega arith)).sound at rs x a q e₁ in
      let k = times-sound n (suc i) (acc ++ x ∷ []) a q ys at' rs' (omega arith) e₂ in (
        x ∷ k.0,
        k.1 ∙ append_assoc acc (x ∷ []) k.0,
        ap suc k.2,
        both j.0 k.3,
        j.1 ∙ ap (λ z. rows (ls i x) ++ z) k.4 ∙ sym (append_assoc (rows (ls i x)) (rows (each ls (suc i) k.0)) rs')
            ∙ ap (λ z. z ++ rs') (sym (rows_append (ls i x) (each ls (suc i) k.0))),
      ))

  times-full : (xs : List A) (i : ℕ) (acc : List A) (at : ℕ) (rs' : List Row) → i + length xs ≤ limit → So (every fit i xs)
      → (at' : ℕ) × (times p (length xs) i acc at (rows (each ls i xs) ++ rs') ≡ got (acc ++ xs) at' rs')
  unfolding times each
  times-full [] i acc at rs' h o = (at, ap (λ z. got z at rs') (sym (append-nil acc)))
  times-full (x ∷ xs) i acc at rs' h o =
      let q : List Row = rows (each ls (suc i) xs) ++ rs' in
      let j = (E i (omega arith)).full at x q (first (fit i x) _ o) in
      let k = times-full xs (suc i) (acc ++ x ∷ []) j.0 rs' (omega arith) (second (fit i x) _ o) in (
        k.0,
        ap (λ z. times p (suc (length xs)) i acc at z) (ap (λ z. z ++ rs') (rows_append (ls i x) (each ls (suc i) xs)) ∙ append_assoc (rows (ls i x)) (rows (each ls (suc i) xs)) rs')
            ∙ ap (λ z. follow z (λ x. times p (length xs) (suc i) (acc ++ x ∷ []))) j.1 ∙ k.1 ∙ ap (λ z. got z k.0 rs') (append_assoc acc (x ∷ []) xs),
      )

  times-lf : (xs : List A) (i : ℕ) → i + length xs ≤ limit → So (every fit i xs) → Clean (each ls i xs)
  unfolding each
  times-lf [] i h o = tt
  times-lf (x ∷ xs) i h o = clean-lines (ls i x) (each ls (suc i) xs) ((E i (omega arith)).lf x (first (fit i x) _ o)) (times-lf xs (suc i) (omega arith) (second (fit i x) _ o))

  pub times-exact : (n i : ℕ) → i + n ≤ limit → Exact (times p n i []) (λ xs. (length xs ≡ n) × So (every fit i xs)) (each ls i)
  times-exact n i h = record {
    sound = λ at rs ys at' rs' e. let j = times-sound n i [] at rs ys at' rs' h e in
        ((ap length j.1 ∙ j.2, subst (λ z. So (every fit i z)) (sym j.1) j.3), j.4 ∙ ap (λ z. rows (each ls i z) ++ rs') (sym j.1));
    full = λ at xs rs' o. subst (λ z. (at' : ℕ) × (times p z i [] at (rows (each ls i xs) ++ rs') ≡ got xs at' rs')) o.0 (times-full xs i [] at rs' (omega (arith, o.0)) o.1);
    lf = λ xs o. times-lf xs i (omega (arith, o.0)) o.1;
  }
