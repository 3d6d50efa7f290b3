-- Who receives a crossing to an own type, and what empties a trail; and the numbers that derived types take.
use mathlib.Core.Path.{◌≡◌, refl, ap, sym}
use mathlib.Core.Logic.{◌⊎◌, inl, inr}
use mathlib.Core.Bool.{Bool, true, false, So}
use mathlib.Core.List.{List, [], ◌∷◌, ◌++◌}
use mathlib.Core.Option.{Option, none, some}
use Prim.Native.Nat.{ℕ, zero, suc, ◌+◌, ◌<◌}
use native.Mathlib.Omega.{arith}
use native.Mathlib.Nat.{not-suc-le-zero, le_of_suc-le-suc}
use lib.Dec.{eqb, ltb}
use lib.ListN.{length, get_or, set}
use Rattle.spec_model.specs.Basics.{Res, refuse, ok, need, then}
use Rattle.spec_model.specs.Table.{Kind, sub, closed, Ty, Table, no_type, max_types, size, type_at, with_types}
use Rattle.spec_model.specs.Relations.{subtype, conforms, free, related}
use Rattle.spec_model.specs.Restriction.{is_key, find, without_new, entry, pending, derive_methods, make, derive}
use Rattle.spec_model.specs.Crossing.{base_of, base_owner, Reference, adapt, cross}
use Rattle.spec_model.specs.Requests.{System, Request, serve, after}
use Rattle.spec_model.specs.Book.{Page, last_type, last_closed, empty_page, joins, add_closed, page_adapt, page_cross}
use Rattle.spec_model.proofs.Tests.{eqb-so}
use Rattle.spec_model.proofs.Rules.{never}
use Rattle.spec_model.specs.Refusals.{unrelated, not_owner}
use Rattle.law_model.proofs.Deriving.{IfSome}
use Rattle.law_model.proofs.Steps.{IfOk}

-- X2: an accepted crossing to an own type is received by the owner of the base.
pub own-received : (f : Reference) (to r : ℕ) → (type_at f.table to).own ≡ true → IfOk (cross f to r) (λ g. r ≡ base_owner f.places f.place)
unfolding cross
own-received f to r e =
    go (type_at f.table to).own e (related free f.table to f.type) (eqb r (base_owner f.places f.place)) refl (adapt f.table f.places to to (base_of f.places f.place)) _
  where
    last : (m : Res Reference) → r ≡ base_owner f.places f.place → IfOk m (λ g. r ≡ base_owner f.places f.place)
    last (refuse n) q = tt
    last (ok g) q = q

    go : (own : Bool) → own ≡ true → (fr ow : Bool) → eqb r (base_owner f.places f.place) ≡ ow → (m n : Res Reference)
        → IfOk {A = Reference} (elim own [ true ↦ need fr unrelated λ _. need ow not_owner λ _. m | false ↦ n ]) (λ g. r ≡ base_owner f.places f.place)
    go true e true true q m n = last m (eqb-so q)
    go true e true false q m n = tt
    go true e false ow q m n = tt
    go false e fr ow q m n = never e

-- L7 leaves a page its trail, with T joined or as it was
adapt-trail : (t : Table) (g : Page) (to r : ℕ) → ((page_adapt t g to r).1.trail ≡ to ∷ g.trail) ⊎ ((page_adapt t g to r).1.trail ≡ g.trail)
unfolding page_adapt
adapt-trail t g to r = go (related conforms t r (last_closed g)) (derive max_types t closed r (last_closed g))
  where
    go : (c : Bool) (o : Option (Table × ℕ)) → let y : Table × Page =
        elim c [ true ↦ (t, joins to g) | false ↦ elim o [ none ↦ (t, g) | some x ↦ (x.0, joins to (add_closed x.1 g)) ] ] in
        (y.1.trail ≡ to ∷ g.trail) ⊎ (y.1.trail ≡ g.trail)
    go true o = inl refl
    go false none = inr refl
    go false (some x) = inl refl

-- Only unwrapping empties a trail (L5, L6). (It stays as it was only where a derivation fails, which no accepted request meets.)
pub trail-kept : (t : Table) (g : Page) (to : ℕ) → (type_at t to).own ≡ false → ((page_cross t g to).1.trail ≡ to ∷ g.trail) ⊎ ((page_cross t g to).1.trail ≡ g.trail)
unfolding page_cross
trail-kept t g to e = go (type_at t to).own e (related subtype t to (last_type g)) (derive max_types t sub to (last_type g))
  where
    go : (own : Bool) → own ≡ false → (st : Bool) (o : Option (Table × ℕ)) →
        let y : Table × Page =
        elim own [
          | true ↦ page_adapt t
              (empty_page g.class) to to
          | false ↦ elim st [ true ↦ (t, joins to g) | false ↦ elim o [ none ↦ (t, g) | some x ↦ page_adapt x.0 g to x.1 ] ]
        ] in
        (y.1.trail ≡ to ∷ g.trail) ⊎ (y.1.trail ≡ g.trail)
    go true e st o = never (sym e)
    go false e true o = inl refl
    go false e false none = inr refl
    go false e false (some x) = adapt-trail x.0 g to x.1

-- ---- D14
pub record Lowest (d : Kind) (l r i : ℕ) (xs : List Ty) (j : ℕ) : Type 0 where
  pub off : ℕ
  pub place : j ≡ i + off
  pub inside : off < length xs
  pub key : So (is_key d l r (get_or xs off no_type).key)
  pub lowest : (k : ℕ) → k < off → is_key d l r (get_or xs k no_type).key ≡ false

pub find-lowest : (d : Kind) (l r i : ℕ) (xs : List Ty) → IfSome (find d l r i xs) (Lowest d l r i xs)
unfolding find
find-lowest d l r i [] = tt
find-lowest d l r i (x ∷ xs) = go (is_key d l r x.key) refl (find d l r (suc i) xs) (find-lowest d l r (suc i) xs)
  where
    later : is_key d l r x.key ≡ false → (o : Option ℕ) → IfSome o (Lowest d l r (suc i) xs) → IfSome o (Lowest d l r i (x ∷ xs))
    later e none h = tt
    later e (some j) h = record {
      off = suc h.off;
      place = omega (arith, h.place);
      inside = omega (arith, h.inside);
      key = h.key;
      lowest = λ k u. elim k as (λ k. k < suc h.off → is_key d l r (get_or (x ∷ xs) k no_type).key ≡ false) [ zero ↦ (λ _. e) | suc k ↦ (λ u. h.lowest k (le_of_suc-le-suc u)) ] u;
    }

    go : (b : Bool) → is_key d l r x.key ≡ b → (o : Option ℕ) → IfSome o (Lowest d l r (suc i) xs) → IfSome (elim b [ true ↦ some i | false ↦ o ]) (Lowest d l r i (x ∷ xs))
    go true e o h = record { off = 0; place = omega arith; inside = omega arith; key = e; lowest = λ k u. absurd (not-suc-le-zero u) }
    go false e o h = later e o h

-- what is known is used again, and the table stays as it is
pub known-again : (f : ℕ) (t : Table) (d : Kind) (l r i : ℕ) → without_new t d l r ≡ some i → derive f t d l r ≡ some (t, i)
unfolding derive make
known-again zero t d l r i e = ap (λ o. elim o as (λ _. Option (Table × ℕ)) [ some i ↦ some (t, i) | none ↦ none ]) e
known-again (suc f) t d l r i e = ap (λ o. elim o as (λ _. Option (Table × ℕ)) [
  | some i ↦ some (t, i)
  | none ↦ elim (ltb (size t) max_types) [
    | false ↦ none
    | true ↦ let n = size t in then (derive_methods (derive f) d (with_types t (t.types ++ (pending t d l r ∷ []))) (type_at t l).methods (type_at t r).methods) λ p.
        some (with_types p.0 (set p.0.types n (entry t d l r p.1)), n)
  ]
]) e

-- D15: a new type's number is the count before it
pub new-number : (f : ℕ) (t : Table) (d : Kind) (l r : ℕ) → without_new t d l r ≡ none → IfSome (derive f t d l r) (λ x. x.1 ≡ size t)
unfolding derive make
new-number zero t d l r e = go (without_new t d l r) e
  where
    go : (o : Option ℕ) → o ≡ none → IfSome {A = Table × ℕ} (elim o [ some i ↦ some (t, i) | none ↦ none ]) (λ x. x.1 ≡ size t)
    go none e = tt
    go (some i) e = let z : ◌≡◌ {A = ℕ} 0 1 = cc in absurd (omega arith)
new-number (suc f) t d l r e =
    go (without_new t d l r) e (ltb (size t) max_types) (derive_methods (derive f) d (with_types t (t.types ++ (pending t d l r ∷ []))) (type_at t l).methods (type_at t r).methods)
  where
    go : (o : Option ℕ) → o ≡ none → (b : Bool) (m : Option (Table × _)) → IfSome {A = Table × ℕ} (elim o [
      | some i ↦ some (t, i)
      | none ↦ elim b [
        | false ↦ none
        | true ↦ then m λ p.
            some (with_types p.0 (set p.0.types (size t) (entry t d l r p.1)), size t)
      ]
    ]) (λ x. x.1 ≡ size t)
    go none e false m = tt
    go none e true none = tt
    go none e true (some p) = refl
    go (some i) e b m = let z : ◌≡◌ {A = ℕ} 0 1 = cc in absurd (omega arith)

-- Q14: a refusal leaves the state, its table with it, as it was
pub refused-unchanged : (s : System) (q : Request) (n : ℕ) → serve s q ≡ refuse n → after s (serve s q) ≡ s
refused-unchanged s q n e = ap (after s) e
