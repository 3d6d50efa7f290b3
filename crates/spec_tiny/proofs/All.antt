-- Every valid table of the kind is among them (P22, P25).
use mathlib.Core.Path.{◌≡◌, refl, sym, ap, ◌∙◌, subst}
use mathlib.Core.Bool.{Bool, true, false, not, ◌&&◌, So}
use mathlib.Core.List.{List, [], ◌∷◌, ◌++◌, map}
use mathlib.Core.Option.{Option, none, some}
use Prim.Native.Nat.{ℕ, suc, ◌<◌, ◌≤◌}
use native.Mathlib.Omega.{arith}
use lib.Dec.{eqb, ltb, leb}
use lib.ListN.{length, get_or}
use borrow.Author.Tests.{leb-true, ltb-true, eqb-true}
use Rattle.spec_model.specs.Basics.{◌⇒◌, all, unless_missing}
use Rattle.spec_model.specs.Table.{State, denied, optional, avail, unavail, Rep, ref, w32, w64, Key, Method, Ty, Table, signed, type_at, is_ref, is_nil, may_stand, stands_in, signature_fits}
use Rattle.spec_model.specs.Table.{method_count, key_fits, type_fits, counts_fit, between, max_arguments, table_fits, valid_sheet}
use Rattle.spec_model.proofs.Rules.{never, first, second}
use Rattle.spec_tiny.specs.Tiny.{permitted, choices, fronts, tuples_of, tiny_table, tiny_with, tiny_tables, tiny_count, is_tiny}
use Rattle.spec_tiny.specs.Numbered.{tiny_at}
use Rattle.spec_tiny.proofs.Count.{count, rank-at}
use Rattle.spec_tiny.specs.Order.{rank}
use Rattle.spec_sheet.specs.Text.{text}
use Rattle.spec_sheet.specs.Sheet.{loaded, read}
use Rattle.spec_sheet.proofs.Exact.{loaded-valid, text-of-read}

-- x is one of a list
pub data Among {A : Type 0} (x : A) : List A → Type 0 where
  here : {y : A} {ys : List A} → x ≡ y → Among x (y ∷ ys)
  there : {y : A} {ys : List A} → Among x ys → Among x (y ∷ ys)

among-left : {A : Type 0} {x : A} (xs ys : List A) → Among x xs → Among x (xs ++ ys)
among-left [] ys h = elim h [ ]
among-left (z ∷ xs) ys (here e) = here e
among-left (z ∷ xs) ys (there h) = there (among-left xs ys h)

among-right : {A : Type 0} {x : A} (xs ys : List A) → Among x ys → Among x (xs ++ ys)
among-right [] ys h = h
among-right (z ∷ xs) ys h = there (among-right xs ys h)

among-map : {A B : Type 0} (f : A → B) {x : A} (xs : List A) → Among x xs → Among (f x) (map f xs)
among-map f [] h = elim h [ ]
among-map f (z ∷ xs) (here e) = here (ap f e)
among-map f (z ∷ xs) (there h) = there (among-map f xs h)

among-at : {A : Type 0} {x : A} (d : A) (xs : List A) → Among x xs → (i : ℕ) × (i < length xs) × (get_or xs i d ≡ x)
among-at d [] h = elim h [ ]
among-at d (z ∷ xs) (here e) = (0, omega arith, sym e)
among-at d (z ∷ xs) (there h) = let r = among-at d xs h in (suc r.0, omega (arith, r.1), r.2)

-- tuples
among-fronts : (m : Method) (r : List Method) (xs : List Method) (tuples : List (List Method)) → Among m xs → Among r tuples → Among (m ∷ r) (fronts xs tuples)
among-fronts m r [] tuples h k = elim h [ ]
among-fronts m r (x ∷ xs) tuples (here e) k = among-left (map (λ q. x ∷ q) tuples) (fronts xs tuples) (subst (λ z. Among (z ∷ r) (map (λ q. x ∷ q) tuples)) (sym e) (among-map (λ q. x ∷ q) tuples k))
among-fronts m r (x ∷ xs) tuples (there h) k = among-right (map (λ q. x ∷ q) tuples) (fronts xs tuples) (among-fronts m r xs tuples h k)

-- one type, which is number 0
module _ (t : Table) where
  stood : (a : ℕ) → So (stands_in t 1 a) → a ≡ 0
  stood a h = let l : a < 1 = ltb-true a 1 (first (ltb a 1) _ h) in omega arith

  stood-own : (a : ℕ) → (type_at t 0).own ≡ true → So (stands_in t 1 a) → ⊥
  stood-own a e h = never (sym (ap not e) ∙ sym (ap (λ z. may_stand (type_at t z)) (stood a h)) ∙ second (ltb a 1) _ h)

  -- what a method that is permitted may say
  permits : (own : Bool) (s : State) (xs : List ℕ) (o : Option ℕ) → (type_at t 0).own ≡ own
      → So (all (stands_in t 1) xs) → So (unless_missing o (stands_in t 1)) → So (leb (length xs) 1) → Among (signed s xs o) (permitted own s)
  permits own s [] none e h k l = here refl
  permits false s [] (some b) e h k l = there (here (ap (λ z. signed s [] (some z)) (stood b k)))
  permits true s [] (some b) e h k l = absurd (stood-own b e k)
  permits false s (a ∷ []) none e h k l = there (there (here (ap (λ z. signed s (z ∷ []) none) (stood a (first (stands_in t 1 a) _ h)))))
  permits false s (a ∷ []) (some b) e h k l =
      let f : signed s (a ∷ []) (some b) ≡ signed s (0 ∷ []) (some b) = ap (λ z. signed s (z ∷ []) (some b)) (stood a (first (stands_in t 1 a) _ h)) in
      there (there (there (here (f ∙ ap (λ z. signed s (0 ∷ []) (some z)) (stood b k)))))
  permits true s (a ∷ []) o e h k l = absurd (stood-own a e (first (stands_in t 1 a) _ h))
  permits own s (a ∷ b ∷ xs) o e h k l = let z : length (a ∷ b ∷ xs) ≤ 1 = leb-true (length (a ∷ b ∷ xs)) 1 l in absurd (omega arith)

  method-among : (own : Bool) (s : State) (xs : List ℕ) (o : Option ℕ) → (type_at t 0).own ≡ own → So (signature_fits t 1 (signed s xs o)) → So (leb (length xs) 1) → Among (signed s xs o) (choices own)
  method-among own denied [] none e h l = here refl
  method-among own denied [] (some b) e h l = never h
  method-among own denied (a ∷ xs) o e h l = never h
  method-among own unavail [] none e h l = there (here refl)
  method-among own unavail [] (some b) e h l = never h
  method-among own unavail (a ∷ xs) o e h l = never h
  method-among own avail xs o e h l =
      let k = second (leb (length xs) max_arguments) _ h in
      there (there (among-left (permitted own avail) (permitted own optional) (permits own avail xs o e (first (all (stands_in t 1) xs) _ k) (second (all (stands_in t 1) xs) _ k) l)))
  method-among own optional xs o e h l =
      let k = second (leb (length xs) max_arguments) _ h in
      there (there (among-right (permitted own avail) (permitted own optional) (permits own optional xs o e (first (all (stands_in t 1) xs) _ k) (second (all (stands_in t 1) xs) _ k) l)))

  abbrev few : Method → Bool
  few m = leb (length m.args) 1

  tuples-among : (own : Bool) → (type_at t 0).own ≡ own → (ms : List Method) → So (all (signature_fits t 1) ms) → So (all few ms) → Among ms (tuples_of (choices own) (length ms))
  tuples-among own e [] h k = here refl
  tuples-among own e (m ∷ ms) h k = among-fronts m ms (choices own) (tuples_of (choices own) (length ms))
      (method-among own m.state m.args m.answer e (first (signature_fits t 1 m) _ h) (first (few m) _ k))
      (tuples-among own e ms (second (signature_fits t 1 m) _ h) (second (few m) _ k))

-- a table of one subject, no categories and the one type x
abbrev one_of : ℕ → Ty → Table
one_of m x = record { subjects = 1; methods = m; cats = []; sheet = 1; types = x ∷ [] }

abbrev table_by : ℕ → ℕ → List (List ℕ) → ℕ → List Ty → Table
table_by s m cs n ts = record { subjects = s; methods = m; cats = cs; sheet = n; types = ts }

table_same : (s m n : ℕ) (cs : List (List ℕ)) (ts : List Ty) (x : Ty) → s ≡ 1 → cs ≡ [] → n ≡ 1 → ts ≡ x ∷ [] → table_by s m cs n ts ≡ one_of m x
table_same s m n cs ts x a b c d = rw (a, b, c, d)

nil_is : {A : Type 0} (xs : List A) → So (is_nil xs) → xs ≡ []
nil_is [] h = refl
nil_is (x ∷ xs) h = never h

single : {A : Type 0} (xs : List A) → length xs ≡ 1 → (x : A) × (xs ≡ x ∷ [])
single [] h = absurd (omega arith)
single (x ∷ []) h = (x, refl)
single (x ∷ y ∷ xs) h = absurd (omega arith)

one-type : (t : Table) → So (valid_sheet t) → So (is_tiny t) → (x : Ty) × (t ≡ one_of t.methods x)
unfolding valid_sheet is_tiny
one-type t v k =
    let k₁ = second (eqb t.subjects 1) _ k in
    let k₂ = second (between 1 2 t.methods) _ k₁ in
    let k₃ = second (is_nil t.cats) _ k₂ in
    let n : t.sheet ≡ 1 = eqb-true t.sheet 1 (first (eqb t.sheet 1) _ k₃) in
    let q : t.sheet ≡ length t.types = eqb-true t.sheet (length t.types) (second (table_fits t) _ v) in
    let r = single t.types (sym q ∙ n) in (
      r.0,
      table_same t.subjects t.methods t.sheet t.cats t.types r.0 (eqb-true t.subjects 1 (first (eqb t.subjects 1) _ k))
          (nil_is t.cats (first (is_nil t.cats) _ k₂)) n r.1,
    )

ref-is : (r : Rep) → So (is_ref r) → r ≡ ref
ref-is ref h = refl
ref-is w32 h = never h
ref-is w64 h = never h

none_is : (t : Table) (o : Option Key) → t.sheet ≡ 1 → So (key_fits t 0 o) → o ≡ none
none_is t none e h = refl
none_is t (some k) e h = let z : t.sheet ≤ 0 = leb-true t.sheet 0 (first (leb t.sheet 0) _ h) in absurd (omega arith)

abbrev type_by : Rep → ℕ → Bool → List Method → Option Key → Ty
type_by r c o ms k = record { rep = r; cat = c; own = o; methods = ms; key = k }

tiny-same : (m : ℕ) (r : Rep) (c : ℕ) (o : Bool) (ms : List Method) (k : Option Key) → r ≡ ref → c ≡ 0 → length ms ≡ m → k ≡ none → one_of m (type_by r c o ms k) ≡ tiny_table o ms
tiny-same m r c o ms k a b d e = rw (a, b, ← d, e)

-- with n methods: without own in front, with own behind
with-own : (own : Bool) (n : ℕ) (t : Table) → Among t (map (tiny_table own) (tuples_of (choices own) n)) → Among t (tiny_with n)
with-own false n t h = among-left (map (tiny_table false) (tuples_of (choices false) n)) (map (tiny_table true) (tuples_of (choices true) n)) h
with-own true n t h = among-right (map (tiny_table false) (tuples_of (choices false) n)) (map (tiny_table true) (tuples_of (choices true) n)) h

in_list : (own : Bool) (ms : List Method) → 1 ≤ length ms → length ms ≤ 2 → Among ms (tuples_of (choices own) (length ms)) → Among (tiny_table own ms) tiny_tables
unfolding tiny_tables
in_list own [] a b h = absurd (omega arith)
in_list own (x ∷ []) a b h = among-left (tiny_with 1) (tiny_with 2) (with-own own 1 (tiny_table own (x ∷ [])) (among-map (tiny_table own) (tuples_of (choices own) 1) h))
in_list own (x ∷ y ∷ []) a b h =
    among-right (tiny_with 1) (tiny_with 2) (with-own own 2 (tiny_table own (x ∷ y ∷ [])) (among-map (tiny_table own) (tuples_of (choices own) 2) h))
in_list own (x ∷ y ∷ z ∷ ms) a b h = absurd (omega arith)

one-among : (m : ℕ) (x : Ty) → So (valid_sheet (one_of m x)) → So (is_tiny (one_of m x)) → Among (one_of m x) tiny_tables
unfolding valid_sheet table_fits is_tiny
one-among m x v k =
    let t = one_of m x in
    let k₁ : So (between 1 2 m && (is_ref x.rep && all (few t) x.methods)) = k in
    let b = first (between 1 2 m) _ k₁ in
    let k₂ = second (between 1 2 m) _ k₁ in
    let fits = first (table_fits t) _ v in
    let low : 1 ≤ m = leb-true 1 m (first (leb 1 m) _ b) in
    let high : m ≤ 2 = leb-true m 2 (second (leb 1 m) _ b) in
    let f : So (type_fits t 0 x) = first (type_fits t 0 x) _ (second (counts_fit t) _ fits) in
    let f₁ = second (leb x.cat 0) _ f in
    let f₂ = second (x.own ⇒ is_ref x.rep) _ f₁ in
    let f₃ = second (eqb (length x.methods) (method_count x.rep m)) _ f₂ in
    let r : x.rep ≡ ref = ref-is x.rep (first (is_ref x.rep) _ k₂) in
    let c : x.cat ≤ 0 = leb-true x.cat 0 (first (leb x.cat 0) _ f) in
    let n : length x.methods ≡ m = eqb-true (length x.methods) (method_count x.rep m) (first (eqb (length x.methods) (method_count x.rep m)) _ f₂) ∙ ap (λ z. method_count z m) r in
    let key : x.key ≡ none = none_is t x.key refl (second (all (signature_fits t 1) x.methods) _ f₃) in
    subst (λ z. Among z tiny_tables) (sym (tiny-same m x.rep x.cat x.own x.methods x.key r (omega arith) n key))
    (in_list x.own x.methods (omega arith) (omega arith)
    (tuples-among t x.own refl x.methods (first (all (signature_fits t 1) x.methods) _ f₃) (second (is_ref x.rep) _ k₂)))

-- every valid table of the kind is one of the list
pub complete : (t : Table) → So (valid_sheet t) → So (is_tiny t) → Among t tiny_tables
complete t v k =
    let r = one-type t v k in
    let e = r.1 in
    subst (λ z. Among z tiny_tables) (sym e) (one-among t.methods r.0 (subst (λ z. So (valid_sheet z)) e v) (subst (λ z. So (is_tiny z)) e k))

-- with its number
pub complete-at : (t : Table) → So (valid_sheet t) → So (is_tiny t) → (i : ℕ) × (i < tiny_count) × (tiny_at i ≡ t)
unfolding tiny_at
complete-at t v k = let r = among-at (tiny_table false []) tiny_tables (complete t v k) in (r.0, subst (λ z. r.0 < z) count r.1, r.2)

-- which is its rank
pub complete-rank : (t : Table) → So (valid_sheet t) → So (is_tiny t) → (rank t < tiny_count) × (tiny_at (rank t) ≡ t)
complete-rank t v k =
    let r = complete-at t v k in
    let e : rank t ≡ r.0 = ap rank (sym r.2) ∙ rank-at r.0 r.1 in
    (subst (λ z. z < tiny_count) (sym e) r.1, ap tiny_at e ∙ r.2)

-- Any bytes that the reader accepts with a table of the kind are the text of the one at its rank.
pub complete-text : (bs : List ℕ) (t : Table) → read bs ≡ loaded t → So (is_tiny t) → (rank t < tiny_count) × (bs ≡ text (tiny_at (rank t)))
complete-text bs t h k = let r = complete-rank t (loaded-valid bs t h) k in (r.0, sym (text-of-read bs t h) ∙ ap text (sym r.1))
