-- Every state reached from a loaded sheet passes the check of 2.
use mathlib.Core.Path.{◌≡◌, refl, ap, sym, subst, ◌∙◌}
use mathlib.Core.Bool.{Bool, true, false, not, ◌&&◌, So, cond}
use mathlib.Core.List.{List, [], ◌∷◌}
use mathlib.Core.Option.{Option, none, some}
use Prim.Native.Nat.{ℕ, ◌≤◌, ◌<◌}
use native.Mathlib.Omega.{arith}
use native.Mathlib.Decide.{dec_lt}
use lib.Dec.{eqb, ltb, leb}
use lib.ListN.{length}
use Rattle.spec_model.specs.Basics.{every, ◌⇒◌, all, unless_missing, AllBelow}
use Rattle.spec_model.specs.Table.{links_fit, Kind, sub, sup, closed, Key, Method, Table, no_method, no_type, max_types, max_arguments, size, type_at, method_at, is_ref, permit, stands_in, is_nil, is_none}
use Rattle.spec_model.specs.Table.{max_subjects, signature_fits, key_fits, signature_bound, type_fits, table_fits, valid_sheet}
use Rattle.spec_model.specs.Relations.{free, related}
use Rattle.spec_model.specs.Restriction.{main_side, derive, derived}
use Rattle.spec_model.specs.Crossing.{Place, object, adapter, no_place, place_at}
use Rattle.spec_model.specs.Requests.{System, loaded, Request, no_cell, no_call, serve, after}
use Rattle.spec_model.specs.Check.{cell_fits, place_fits, call_fits, system_fits}
use Rattle.spec_model.specs.Book.{Book}
use Rattle.spec_model.specs.Claim.{accepted, feed, follow, reached}
use Rattle.spec_model.proofs.Tests.{eqb-self, ltb-so, so-ltb, leb-so, so-leb}
use Rattle.spec_model.proofs.Rules.{never, both, first, second}
use Rattle.spec_model.proofs.Largest.{keeps-related}
use Rattle.spec_model.proofs.Derived.{AnswerBelow, Known, itself, of_number, made, DerivedMethod, past, here, Complete}
use Rattle.spec_model.proofs.Growth.{Grown, grown-refl, grown-trans, method-same}
use Rattle.law_model.proofs.Unowned.{AllUnowned, AnswerUnowned}
use Rattle.law_model.proofs.Deriving.{IfSome}
use Rattle.law_model.proofs.Good.{Good, Derived, counted_of, grown-counts, grown-sheet_sigs, derive-good}
use Rattle.law_model.proofs.Steps.{IfOk}
use Rattle.law_model.proofs.Fitting.{TableFitting, all-at, at_all, at_every, signature-below, fitting-sound, nil_is, none_is}
use Rattle.law_model.proofs.Sheets.{sheet-fitting, sheet-good}
use Rattle.law_model.proofs.Callers.{calls-few, fit-callers}
use Rattle.law_model.proofs.Within.{calling, PlaceIn, SystemIn, serve-in}
use Rattle.law_model.proofs.Checked.{derived-of, fitting-system}

-- ---- a table that has grown from a valid sheet by derivations fits
not-false : {b : Bool} → b ≡ false → So (not b)
not-false e = rw e

module _ (t : Table) (n : ℕ) where
  args-stand : (xs : List ℕ) → AllBelow n xs → AllUnowned t xs → So (all (stands_in t n) xs)
  args-stand [] l u = refl
  args-stand (x ∷ xs) l u = both (both (so-ltb l.0) (not-false u.0)) (args-stand xs l.1 u.1)

  answer-stands : (o : Option ℕ) → AnswerBelow n o → AnswerUnowned t o → So (unless_missing o (stands_in t n))
  answer-stands none l u = refl
  answer-stands (some x) l u = both (so-ltb l) (not-false u)

  -- a signature fits if it is short, in range and without own, or missing where the method isn't permitted
  signature-fits : (m : Method) → (So (permit m.state) → length m.args ≤ max_arguments) → AllBelow n m.args × AnswerBelow n m.answer
      → AllUnowned t m.args × AnswerUnowned t m.answer
      → (permit m.state ≡ false → (m.args ≡ []) × (m.answer ≡ none)) → So (signature_fits t n m)
  signature-fits m s l u z = go (permit m.state) s z
    where
      go : (b : Bool) → (So b → length m.args ≤ max_arguments) → (b ≡ false → (m.args ≡ []) × (m.answer ≡ none))
          → So
          (elim b [ true ↦ leb (length m.args) max_arguments && (all (stands_in t n) m.args && unless_missing m.answer (stands_in t n)) | false ↦ is_nil m.args && is_none m.answer ])
      go true s z = both (so-leb (s refl)) (both (args-stand m.args l.0 u.0) (answer-stands m.answer l.1 u.1))
      go false s z = let e = z refl in rw (e.0, e.1)

-- a method of a type that fits has no signature where it isn't permitted
pub unsigned : (t : Table) (n : ℕ) (m : Method) → So (signature_fits t n m) → permit m.state ≡ false → (m.args ≡ []) × (m.answer ≡ none)
unsigned t n m h e = go (permit m.state) e h
  where
    go : (b : Bool) → b ≡ false
        → So (elim b [ true ↦ leb (length m.args) max_arguments && (all (stands_in t n) m.args && unless_missing m.answer (stands_in t n)) | false ↦ is_nil m.args && is_none m.answer ])
        → (m.args ≡ []) × (m.answer ≡ none)
    go true e h = never (sym e)
    go false e h = (nil_is m.args (first (is_nil m.args) _ h), none_is m.answer (second (is_nil m.args) _ h))

-- nor has one of a derived type
pub derived-unsigned : (t : Table) (d : Kind) (a b c : Method) → DerivedMethod t d a b c → permit c.state ≡ false → (c.args ≡ []) × (c.answer ≡ none)
derived-unsigned t d a b c (past p q r) e = rw r (refl, refl)
derived-unsigned t d a b c (here p q r) e = r e

module _ (t₀ t : Table) (valid : So (valid_sheet t₀)) (good : Good t) (x : Grown t₀ t) where
  f₀ : TableFitting t₀
  f₀ = (sheet-fitting t₀ valid).0

  whole : t₀.sheet ≡ size t₀
  whole = (sheet-fitting t₀ valid).1

  bound-is : (i : ℕ) → i < t.sheet → signature_bound t i ≡ t.sheet
  bound-is i l = ap (λ b. cond b t.sheet (size t)) (so-ltb l)

  bound-late : (i : ℕ) → t.sheet ≤ i → signature_bound t i ≡ size t
  bound-late i l = go (ltb i t.sheet) refl
    where
      go : (b : Bool) → ltb i t.sheet ≡ b → cond b t.sheet (size t) ≡ size t
      go true e = let p : i < t.sheet = ltb-so e in absurd (omega arith)
      go false e = refl

  -- a sheet type
  old-method : (i m : ℕ) → i < t.sheet → m < length (type_at t i).methods → So (signature_fits t (signature_bound t i) (method_at t i m))
  old-method i m l k =
      let l₀ : i < t₀.sheet = subst (λ n. i < n) x.sheet l in let s₀ : i < size t₀ = omega (arith, whole) in
      let same = x.same i s₀ in let e = method-same t₀ t x i m s₀ in
      let k₀ : m < length (type_at t₀ i).methods = subst (λ y. m < length y.methods) same k in
      let h = all-at (signature_fits t₀ (signature_bound t₀ i)) no_method (type_at t₀ i).methods (f₀.types i s₀).signatures m k₀ in
      let b : signature_bound t₀ i ≡ t.sheet = ap (λ b. cond b t₀.sheet (size t₀)) (so-ltb l₀) ∙ sym x.sheet in
      signature-fits t (signature_bound t i) (method_at t i m) (λ _. good.short i m)
      (rw (bound-is i l, e) (subst (λ n. AllBelow n (method_at t₀ i m).args × AnswerBelow n (method_at t₀ i m).answer) b (signature-below t₀ (signature_bound t₀ i) (method_at t₀ i m) h)))
      (good.unowned i m) (λ q. rw e (unsigned t₀ (signature_bound t₀ i) (method_at t₀ i m) h (subst (λ y. permit y.state ≡ false) e q)))

  -- a derived type
  new-method : (i m : ℕ) → t.sheet ≤ i → i < size t → So (signature_fits t (signature_bound t i) (method_at t i m))
  new-method i m l u = let k = good.keyed i l u in
      signature-fits t (signature_bound t i) (method_at t i m) (λ _. good.short i m) (rw (bound-late i l) (good.sigs i m)) (good.unowned i m)
      (derived-unsigned t k.0.kind _ _ _ ((good.complete i k.0 k.1).at m))

  key-fits : (i : ℕ) → i < size t → Dec (i < t.sheet) → So (key_fits t i (type_at t i).key)
  key-fits i u (yes l) =
      let l₀ : i < t₀.sheet = subst (λ n. i < n) x.sheet l in let s₀ : i < size t₀ = omega (arith, whole) in
      rw (x.same i s₀) (go (type_at t₀ i).key (f₀.types i s₀).key l₀)
    where
      go : (o : Option Key) → So (key_fits t₀ i o) → i < t₀.sheet → So (key_fits t i o)
      go none h q = so-ltb l
      go (some k) h q = let p : t₀.sheet ≤ i = leb-so (first (leb t₀.sheet i) _ h) in absurd (omega arith)
  key-fits i u (no l) = let k = good.keyed i (omega arith) u in let c = good.complete i k.0 k.1 in
      rw k.1 (both (so-leb (let p : t.sheet ≤ i = omega arith in p)) (both (so-ltb c.low) (so-ltb c.high)))

  own-ref : (i : ℕ) → i < size t → Dec (i < t.sheet) → So ((type_at t i).own ⇒ is_ref (type_at t i).rep)
  own-ref i u (yes l) = let l₀ : i < t₀.sheet = subst (λ n. i < n) x.sheet l in let s₀ : i < size t₀ = omega (arith, whole) in rw (x.same i s₀) (f₀.types i s₀).own
  own-ref i u (no l) = let k = good.keyed i (omega arith) u in rw (good.complete i k.0 k.1).own

  signatures-fit : (i : ℕ) → i < size t → Dec (i < t.sheet) → So (all (signature_fits t (signature_bound t i)) (type_at t i).methods)
  signatures-fit i u (yes l) = at_all (signature_fits t (signature_bound t i)) no_method (type_at t i).methods (λ m k. old-method i m l k)
  signatures-fit i u (no l) = at_all (signature_fits t (signature_bound t i)) no_method (type_at t i).methods (λ m k. new-method i m (omega arith) u)

  type-fits : (i : ℕ) → i < size t → So (type_fits t i (type_at t i))
  type-fits i u = let d = dec_lt i t.sheet in
      both (so-leb (good.cat_in i))
      (both (own-ref i u d)
      (both (subst (λ n. So (eqb (length (type_at t i).methods) n)) (good.counts i u) (eqb-self (length (type_at t i).methods))) (both (signatures-fit i u d) (key-fits i u d))))

  pub grown-fits : So (table_fits t)
  unfolding table_fits
  grown-fits = let links : So (every links_fit 1 t.cats) = rw x.cats f₀.links in
      both (grown-counts t₀ t x f₀.counts good.room)
      (both links (at_every (type_fits t) no_type 0 t.types (λ i l. subst (λ n. So (type_fits t n (type_at t i))) (omega arith) (type-fits i l))))

-- ---- the states reached from the sheet t₀
module _ (t₀ : Table) (valid : So (valid_sheet t₀)) where
  -- what is known of the table, and of a type that stands in an adapter
  abbrev FromSheet : Table → Type 0
  FromSheet t = Good t × Grown t₀ t

  abbrev IsRef : Table → ℕ → Type 0
  IsRef t i = So (is_ref (type_at t i).rep)

  ref-grows : (t u : Table) (i : ℕ) → Grown t u → i < size t → IsRef t i → IsRef u i
  ref-grows t u i g l h = rw (g.same i l) h

  sheet-size : (t : Table) → FromSheet t → t.sheet ≤ size t
  sheet-size t k = let f = sheet-fitting t₀ valid in rw k.1.sheet (omega (arith, k.1.more, f.0.sheet))

  sheet-signatures : (t : Table) → FromSheet t → (a m : ℕ) → a < t.sheet → AllBelow t.sheet (method_at t a m).args × AnswerBelow t.sheet (method_at t a m).answer
  sheet-signatures t k = let f = (sheet-fitting t₀ valid).0 in grown-sheet_sigs t₀ t k.1 f.sheet (fitting-sound t₀ f).sheet_sigs

  known-ref : (t u : Table) → Grown t u → Complete u → (d : Kind) (l r i : ℕ) → l < size t → r < size t → Known u d l r i → IsRef t (main_side d l r) → IsRef u i
  known-ref t u g c sub l r i a b (itself o e q) h = rw q (ref-grows t u l g a h)
  known-ref t u g c sup l r i a b (itself o e q) h = rw (q, e) (ref-grows t u r g b h)
  known-ref t u g c closed l r i a b (itself o e q) h = never o
  known-ref t u g c sub l r i a b (of_number v o e q) h = rw q (ref-grows t u l g a h)
  known-ref t u g c sup l r i a b (of_number v o e q) h = rw q (ref-grows t u r g b h)
  known-ref t u g c closed l r i a b (of_number v o e q) h = never o
  known-ref t u g c sub l r i a b (made v e) h = rw (c i _ e).rep (ref-grows t u l g a h)
  known-ref t u g c sup l r i a b (made v e) h = rw (c i _ e).rep (ref-grows t u r g b h)
  known-ref t u g c closed l r i a b (made v e) h = rw (c i _ e).rep (ref-grows t u l g a h)

  good-derives : (t : Table) → FromSheet t → (d : Kind) (l r : ℕ) → So (related free t l r)
      → IfOk (derived t d l r) (λ x. FromSheet x.0 × Grown t x.0 × (x.1 < size x.0) × (IsRef t (main_side d l r) → IsRef x.0 x.1))
  good-derives t k d l r h = derived-of _ t d l r (go (derive max_types t d l r) (derive-good t k.0 max_types d l r h))
    where
      go : (o : Option (Table × ℕ)) → IfSome o (Derived t d l r)
          → IfSome o (λ x. FromSheet x.0 × Grown t x.0 × (x.1 < size x.0) × (IsRef t (main_side d l r) → IsRef x.0 x.1))
      go none w = tt
      go (some x) w =
          let q = keeps-related free t l r h in
          ((w.good, grown-trans k.1 w.grow), w.grow, w.inside, λ e. known-ref t x.0 w.grow w.good.complete d l r x.1 q.low q.high w.is e)

  abbrev Inside : System → Type 0
  Inside = SystemIn FromSheet IsRef (λ t i h. h) ref-grows sheet-size sheet-signatures (λ t k. k.0.sigs) good-derives

  inside-kept : (s : System) → Inside s → (q : Request) → Inside (after s (serve s q))
  inside-kept = serve-in FromSheet IsRef (λ t i h. h) ref-grows sheet-size sheet-signatures (λ t k. k.0.sigs) good-derives

  inside-follow : (qs : List Request) (s : System) (b : Book) → Inside s → Inside (follow s b qs).0
  unfolding follow
  inside-follow [] s b h = h
  inside-follow (q ∷ qs) s b h = inside-follow qs (after s (serve s q)) (feed b q (accepted (serve s q))) (inside-kept s h q)

  place-fits : (s : System) (p : ℕ) (x : Place) → PlaceIn FromSheet IsRef (λ t i h. h) ref-grows sheet-size sheet-signatures (λ t k. k.0.sigs) good-derives s.table p x
      → So (place_fits s p x)
  place-fits s p (object c o) h = both (so-ltb h.0) (both (so-ltb h.1) h.2)
  place-fits s p (adapter b c) h = both (so-ltb h.0) (both (so-ltb h.1) h.2)

  subjects-few : (s : System) → Inside s → s.table.subjects ≤ max_subjects
  subjects-few s h = let c = counted_of t₀ (sheet-fitting t₀ valid).0.counts in rw h.table.1.subjects c.subjects

  inside-fits : (s : System) → Inside s → So (system_fits s)
  inside-fits s h = fitting-system s (record {
    table = grown-fits t₀ s.table valid h.table.0 h.table.1;
    cell_count = h.cell_count;
    place_count = h.places.count;
    call_count = calls-few (calling s h.calls) (subjects-few s h);
    cells = at_all (cell_fits s) no_cell s.cells (λ k l. let c = h.cells k l in both (so-ltb c.holder) (both (so-ltb c.place) (both (so-ltb c.sheet) c.isref)));
    places =
        at_every (place_fits s) no_place 0 s.places (λ p l. subst (λ n. So (place_fits s n (place_at s.places p))) (omega arith) (place-fits s p (place_at s.places p) (h.places.each p l)));
    calls = at_all (call_fits s) no_call s.calls (λ j l. let c = h.calls.each j l in both (so-ltb c.caller) (both (so-ltb c.cell) (so-ltb c.method)));
    callers = fit-callers s.table.subjects s.calls (calling s h.calls);
  })

  inside-start : Inside (loaded t₀)
  inside-start = record {
    table = (sheet-good t₀ valid, grown-refl t₀);
    places = record { count = omega arith; each = λ p l. absurd (omega arith) };
    cell_count = omega arith;
    cells = λ k l. absurd (omega arith);
    calls = record { each = λ j l. absurd (omega arith); few = λ k. omega arith };
  }

-- Q19: every state reached from a loaded sheet passes the check.
pub reached-fits : (t : Table) → So (valid_sheet t) → (qs : List Request) → So (system_fits (reached t qs).0)
reached-fits t h qs = inside-fits t h (reached t qs).0 (inside-follow t h qs (loaded t) _ (inside-start t h))

-- Every derived type in a table reached from a sheet is complete, and the sheet's types are as they were.
pub reached-good : (t : Table) → So (valid_sheet t) → (qs : List Request) → Good (reached t qs).0.table × Grown t (reached t qs).0.table
reached-good t h qs = (inside-follow t h qs (loaded t) _ (inside-start t h)).table
