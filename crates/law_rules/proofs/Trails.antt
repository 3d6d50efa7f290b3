-- What unwrapping leaves on a page (docs/SPEC.md, L5).
use mathlib.Core.Path.{◌≡◌, refl, ap, sym, subst, ◌∙◌}
use mathlib.Core.Logic.{◌⊎◌, inl, inr}
use mathlib.Core.Bool.{Bool, true, false, So}
use mathlib.Core.List.{List, [], ◌∷◌}
use mathlib.Core.Option.{Option, none, some}
use Prim.Native.Nat.{ℕ, suc, ◌≤◌, ◌<◌}
use native.Mathlib.Omega.{arith}
use lib.ListN.{length}
use Rattle.spec_model.specs.Table.{closed, Table, max_types, type_at, valid_sheet}
use Rattle.spec_model.specs.Relations.{conforms, related}
use Rattle.spec_model.specs.Restriction.{derive}
use Rattle.spec_model.specs.Crossing.{Reference, cross}
use Rattle.spec_model.specs.Requests.{Request, leaving}
use Rattle.spec_model.specs.Book.{Page, Book, empty_page, joins, add_closed, page_adapt, page_cross, page_at}
use Rattle.spec_model.specs.Claim.{reached}
use Rattle.spec_model.proofs.Rules.{never}
use Rattle.law_model.proofs.Good.{Good}
use Rattle.law_model.proofs.Steps.{IfOk, ok-map}
use Rattle.law_model.proofs.Trails.{Track, Trailed, cross-ok}
use Rattle.law_model.proofs.Demand3.{reached-together}
use Rattle.law_model.proofs.Sheets.{sheet-fitting, sheet-good}

-- Page y is what page g becomes: of the same class, with T alone in its trail, and with the closed type of one adapter at most.
pub record Emptied (g : Page) (to : ℕ) (y : Page) : Type 0 where
  pub class : y.class ≡ g.class
  pub trail : y.trail ≡ to ∷ []
  pub closed : length y.closed ≤ 1

-- an empty page that meets its first adapter, or none; a derivation that fails leaves it empty
adapt-empty : (t : Table) (g : Page) (to : ℕ) → ((page_adapt t (empty_page g.class) to to).1.trail ≡ []) ⊎ Emptied g to (page_adapt t (empty_page g.class) to to).1
unfolding page_adapt
adapt-empty t g to = go (related conforms t to g.class) (derive max_types t closed to g.class)
  where
    e : Page
    e = empty_page g.class

    go : (c : Bool) (o : Option (Table × ℕ)) → let y : Table × Page =
        elim c [ true ↦ (t, joins to e) | false ↦ elim o [ none ↦ (t, e) | some x ↦ (x.0, joins to (add_closed x.1 e)) ] ] in
        (y.1.trail ≡ []) ⊎ Emptied g to y.1
    go true o = inr (record { class = refl; trail = refl; closed = omega arith })
    go false none = inl refl
    go false (some x) = inr (record { class = refl; trail = refl; closed = omega arith })

cross-empties : (t : Table) (g : Page) (to : ℕ) → (type_at t to).own ≡ true → ((page_cross t g to).1.trail ≡ []) ⊎ Emptied g to (page_cross t g to).1
unfolding page_cross
cross-empties t g to e = go (type_at t to).own e _
  where
    go : (own : Bool) → own ≡ true → (z : Table × Page) → let y : Table × Page = elim own [ true ↦ page_adapt t (empty_page g.class) to to | false ↦ z ] in
        (y.1.trail ≡ []) ⊎ Emptied g to y.1
    go true e z = adapt-empty t g to
    go false e z = never e

-- L5. A crossing to a type with own, where it is accepted, empties both lists of the page first.
pub own-empties : (f : Reference) → Good f.table → (g : Page) → Track f g → (to r : ℕ) → (type_at f.table to).own ≡ true
    → IfOk (cross f to r) (λ f'. Emptied g to (page_cross f.table g to).1)
own-empties f good g k to r e = ok-map _ _ (λ f' h. go f' (cross-empties f.table g to e) h.trailed) (cross f to r) (cross-ok f good g k to r)
  where
    go : (f' : Reference) → ((page_cross f.table g to).1.trail ≡ []) ⊎ Emptied g to (page_cross f.table g to).1 → Trailed f' (page_cross f.table g to).1
        → Emptied g to (page_cross f.table g to).1
    go f' (inl q) w = let z : [] ≡ f'.type ∷ w.0 = sym q ∙ w.1 in let n : 0 ≡ suc (length w.0) = ap length z in absurd (omega arith)
    go f' (inr q) w = q

-- so in every state reached from a valid sheet, of each cell and its page
pub unwrapped : (t : Table) → So (valid_sheet t) → (qs : List Request) → let s = (reached t qs).0 in let b = (reached t qs).1 in
    (k : ℕ) → k < length s.cells → (to r : ℕ) → (type_at b.table to).own ≡ true
    → IfOk (cross (leaving s k) to r) (λ f. Emptied (page_at b k) to (page_cross b.table (page_at b k) to).1)
unwrapped t valid qs k l to r =
    let e = reached-together t (sheet-good t valid) (sheet-fitting t valid).0.sheet qs in let s = (reached t qs).0 in
    subst (λ (b : Book). (type_at b.table to).own ≡ true → IfOk (cross (leaving s k) to r) (λ f. Emptied (page_at b k) to (page_cross b.table (page_at b k) to).1)) (sym e.1)
    (own-empties (leaving s k) e.2.good _ (e.2.track k l) to r)
