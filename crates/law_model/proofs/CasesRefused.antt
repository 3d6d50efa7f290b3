-- Worked refusals that Case P does not meet (K13). Everything is computed from the definitions, but for a full table of types (11), which is a law over every such table.
use mathlib.Core.Path.{◌≡◌, refl, ap, ◌∙◌}
use mathlib.Core.Bool.{Bool, true, false, So}
use mathlib.Core.List.{List, [], ◌∷◌, ◌++◌}
use mathlib.Core.Option.{Option, none, some}
use Prim.Native.Nat.{ℕ, ◌-◌}
use lib.Dec.{ltb}
use lib.IntN.{pos, negsuc}
use lib.ListN.{set, replicate}
use Rattle.spec_model.specs.Basics.{Res, refuse, ok, then, need, try}
use Rattle.spec_model.specs.Table.{Kind, sub, Method, Table, max_types, size, type_at, with_types}
use Rattle.spec_model.specs.Relations.{subtype, loose, related}
use Rattle.spec_model.specs.Restriction.{without_new, entry, pending, derive_methods, make, derive, derived}
use Rattle.spec_model.specs.Crossing.{object, adapter, Reference, adapt, cross}
use Rattle.spec_model.specs.Requests.{System, got, refused, move, pair, number, no_call, loaded, run}
use Rattle.spec_model.proofs.CasesWords.{cell, state_from, new', move', call', answer'}
use Rattle.spec_model.proofs.Cases.{case_p, twice}
use Rattle.spec_model.proofs.CasesWorked.{Work, AllWork, passing}

-- ---- refusals
-- so many cells, places and calls, all alike
abbrev full : ℕ → ℕ → ℕ → System
full cells places calls = state_from twice (replicate cells (cell 0 0 0)) (replicate places (object 0 0)) (replicate calls no_call)

abbrev pub refusals : List Work
refusals =
    -- 6: a cell unknown, another's, or negative, moved and called (M2, C2)
    record {
      state = loaded case_p;
      requests = new' 0 1 4 ∷ move' 0 0 1 2 ∷ move' 0 2 1 2 ∷ move' 1 0 1 2 ∷ move (pos 0) (negsuc 0) (pos 1) (pos 2) ∷ call' 1 0 0 [] ∷ [];
      gives = got (pair 0 0) ∷ got (pair 1 0) ∷ refused 6 ∷ refused 6 ∷ refused 6 ∷ refused 6 ∷ [];
      cells = cell 0 4 0 ∷ cell 1 2 0 ∷ [];
      places = object 1 0 ∷ [];
    }
    -- 15 for too few and too many arguments (C4); 16 on the far side of both ends of w32, and the ends themselves accepted (C14)
    ∷ record {
      state = loaded case_p;
      requests = new' 0 1 4 ∷ call' 0 0 1 [] ∷ call' 0 0 1 (pos 5 ∷ pos 6 ∷ []) ∷ call' 0 0 1 (pos 2147483648 ∷ []) ∷ call' 0 0 1 (pos 2147483647 ∷ [])
          ∷ call' 0 0 1 (negsuc 2147483648 ∷ []) ∷ call' 0 0 1 (negsuc 2147483647 ∷ []) ∷ [];
      gives = got (pair 0 0) ∷ refused 15 ∷ refused 15 ∷ refused 16 ∷ got (pair 0 0) ∷ refused 16 ∷ got (pair 1 0) ∷ [];
      cells = cell 0 4 0 ∷ [];
      places = object 1 0 ∷ [];
    }
    -- answers: 6 for a call unknown and for one who does not own the base, 15 for nothing where a number is due, then 17 once it is given (A2, A3, A5)
    ∷ record {
      state = loaded case_p;
      requests = new' 0 1 4 ∷ move' 0 0 1 2 ∷ call' 1 1 0 [] ∷ answer' 0 1 (some (pos 5)) ∷ answer' 1 0 (some (pos 5)) ∷ answer' 0 0 none ∷ answer' 0 0 (some (pos 5))
          ∷ answer' 0 0 (some (pos 5)) ∷ [];
      gives = got (pair 0 0) ∷ got (pair 1 0) ∷ got (pair 0 0) ∷ refused 6 ∷ refused 6 ∷ refused 15 ∷ got (number (pos 5)) ∷ refused 17 ∷ [];
      cells = cell 0 4 0 ∷ cell 1 2 0 ∷ [];
      places = object 1 0 ∷ [];
    }
    -- 15 for an argument's cell that is another's, and one that is unknown (C5)
    ∷ record {
      state = loaded passing;
      requests = new' 0 0 0 ∷ move' 0 0 1 0 ∷ call' 1 1 0 (pos 0 ∷ []) ∷ call' 1 1 0 (pos 2 ∷ []) ∷ [];
      gives = got (pair 0 0) ∷ got (pair 1 0) ∷ refused 15 ∷ refused 15 ∷ [];
      cells = cell 0 0 0 ∷ cell 1 0 0 ∷ [];
      places = object 0 0 ∷ [];
    }
    -- 12: the last place is given to an object; one further, or an adapter behind it, finds none (N4, N5, X9). A reference that needs no place still moves.
    ∷ record {
      state = full 1 127 0;
      requests = new' 0 0 1 ∷ new' 0 0 0 ∷ new' 0 0 0 ∷ move' 0 0 1 1 ∷ move' 0 0 1 0 ∷ [];
      gives = refused 12 ∷ got (pair 1 127) ∷ refused 12 ∷ refused 12 ∷ got (pair 2 0) ∷ [];
      cells = cell 0 0 127 ∷ cell 1 0 0 ∷ [];
      places = object 0 0 ∷ [];
    }
    ∷ record { state = full 1 126 0; requests = new' 0 0 1 ∷ []; gives = got (pair 1 127) ∷ []; cells = cell 0 1 127 ∷ []; places = object 0 0 ∷ adapter 126 6 ∷ [] }
    -- 13: cell 255 is the last (N7, M5)
    ∷ record {
      state = full 255 1 0;
      requests = move' 0 0 1 0 ∷ move' 0 0 1 0 ∷ new' 0 0 0 ∷ [];
      gives = got (pair 255 0) ∷ refused 13 ∷ refused 13 ∷ [];
      cells = cell 1 0 0 ∷ [];
      places = [];
    }
    -- 18: a subject's call 32 is its last (C7)
    ∷ record { state = full 1 1 31; requests = call' 0 0 0 [] ∷ call' 0 0 0 [] ∷ []; gives = got (pair 31 0) ∷ refused 18 ∷ []; cells = []; places = [] }
    ∷ []

pub refusals-worked : AllWork refusals
unfolding run
refusals-worked = (refl, (refl, (refl, (refl, (refl, (refl, (refl, (refl, tt))))))))

-- ---- 11, over every table of 128 types: nothing new is derived (D15). With 127 there is room for one, if the types of its signatures are there.
abbrev Methods : Type 0
Methods = Option (Table × List Method)

-- a derivation, by the number that a new type takes, what is known, the room, and the methods derived
abbrev making : Table → ℕ → Kind → ℕ → ℕ → Option ℕ → Bool → Methods → Res (Table × ℕ)
making t n d l r known room ms = elim (elim known as (λ _. Option (Table × ℕ)) [
  | some i ↦ some (t, i)
  | none ↦ elim room [ false ↦ none | true ↦ then ms λ p. some (with_types p.0 (set p.0.types n (entry t d l r p.1)), n) ]
]) [ none ↦ refuse 11 | some p ↦ ok p ]

abbrev derived_methods : Table → Kind → ℕ → ℕ → Methods
derived_methods t d l r = derive_methods (derive (max_types - 1)) d (with_types t (t.types ++ (pending t d l r ∷ []))) (type_at t l).methods (type_at t r).methods

derived-by : (t : Table) (d : Kind) (l r n : ℕ) → size t ≡ n → without_new t d l r ≡ none → derived t d l r ≡ making t n d l r none (ltb n max_types) (derived_methods t d l r)
unfolding derived derive make
derived-by t d l r n e w = ap (λ o. making t (size t) d l r o (ltb (size t) max_types) (derived_methods t d l r)) w ∙ ap (λ k. making t k d l r none (ltb k max_types) (derived_methods t d l r)) e

pub full-refused : (t : Table) (d : Kind) (l r : ℕ) → size t ≡ max_types → without_new t d l r ≡ none → derived t d l r ≡ refuse 11
full-refused t d l r e w = derived-by t d l r max_types e w

pub last_made : (t : Table) (d : Kind) (l r : ℕ) → size t ≡ max_types - 1 → without_new t d l r ≡ none → (p : Table × List Method) → derived_methods t d l r ≡ some p
    → derived t d l r ≡ ok (with_types p.0 (set p.0.types (max_types - 1) (entry t d l r p.1)), max_types - 1)
last_made t d l r e w p m = derived-by t d l r (max_types - 1) e w ∙ ap (making t (max_types - 1) d l r none true) m

-- a crossing that wants a new Sub in such a table is refused with 11 (X5)
pub full-crossing : (f : Reference) (to r : ℕ) → (type_at f.table to).own ≡ false → So (related loose f.table to f.type) → related subtype f.table to f.type ≡ false
    → size f.table ≡ max_types → without_new f.table sub to f.type ≡ none → cross f to r ≡ refuse 11
unfolding cross
full-crossing f to r own lo st e w = go (type_at t to).own own (related loose t to f.type) lo (related subtype t to f.type) st
    (derived t sub to f.type) (full-refused t sub to f.type e w) _ _
  where
    t : Table
    t = f.table

    go : (a : Bool) → a ≡ false → (b : Bool) → b ≡ true → (c : Bool) → c ≡ false → (m : Res (Table × ℕ)) → m ≡ refuse 11 → (u v : Res Reference)
        → ◌≡◌ {A = Res Reference} (elim a [ true ↦ u | false ↦ need b 8 λ _. elim c [ true ↦ v | false ↦ try m λ x. adapt x.0 f.places to x.1 f.place ] ]) (refuse 11)
    go a p b q c s m z u v = rw (p, q, s, z)
