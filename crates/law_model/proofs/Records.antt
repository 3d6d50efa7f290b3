-- The record that stands for a thing of the model (Handed): it means that thing, and its codes pass the check of 2.
use mathlib.Core.Path.{◌≡◌, refl, ap, sym, ◌∙◌}
use mathlib.Core.Bool.{Bool, true, false, ◌&&◌, So, cond}
use mathlib.Core.List.{List, [], ◌∷◌}
use mathlib.Core.Option.{Option, none, some}
use Prim.Native.Nat.{ℕ, suc, ◌≤◌, ◌<◌}
use native.Mathlib.Omega.{arith}
use native.Mathlib.Decide.{dec_lt}
use lib.Dec.{eqb, ltb, leb}
use lib.ListN.{length, get_or}
use Rattle.spec_model.specs.Basics.{◌⇒◌, from}
use Rattle.spec_model.specs.Table.{State, denied, optional, avail, unavail, Rep, ref, w32, w64, Kind, sub, sup, closed, Key, Method, Ty, no_method, max_arguments, max_methods, is_ref, permit}
use Rattle.spec_model.specs.Table.{between, is_none, method_count, signed}
use Rattle.spec_model.specs.Relations.{bit}
use Rattle.spec_model.specs.Crossing.{Place, object, adapter}
use Rattle.spec_model.specs.Requests.{Call, flagged}
use Rattle.spec_model.specs.Check.{no_raw_method, state_of, rep_of, kind_of, method_of, type_of, links_of, place_of, call_of, raw_method_fits, raw_type_fits}
use Rattle.spec_model.specs.Records.{state_code, rep_code, kind_code, key_codes, argument_slots, method_record, type_record, links_record}
use Rattle.spec_model.specs.Handed.{place_record, call_record}
use Rattle.spec_model.proofs.Tests.{leb-so, so-leb}
use Rattle.spec_model.proofs.Rules.{never, both, second, imply}
use Rattle.spec_model.proofs.Largest.{get_or-from-out}
use Rattle.spec_model.proofs.Lists.{from_first, is-from, take-from, all_from}
use Rattle.spec_model.proofs.Codes.{answer_back}
use Rattle.law_model.proofs.Fitting.{or_right}

-- ---- places and calls
pub place-back : (p : Place) → place_of (place_record p) ≡ p
place-back (object class owner) = refl
place-back (adapter behind type) = refl

pub place-code : (p : Place) → So (ltb (place_record p).code 2)
place-code (object class owner) = refl
place-code (adapter behind type) = refl

flag-back : (b : Bool) → eqb (bit b) 1 ≡ b
flag-back true = refl
flag-back false = refl

flag-code : (b : Bool) → So (ltb (bit b) 2)
flag-code true = refl
flag-code false = refl

pub call_back : (c : Call) → call_of (call_record c) ≡ c
call_back c = ap (flagged c) (flag-back c.answered)

pub call-code : (c : Call) → So (ltb (call_record c).answered 2)
call-code c = flag-code c.answered

-- ---- links
pub links-back : (xs : List ℕ) → So (between 1 2 (length xs)) → links_of (links_record xs) ≡ xs
links-back [] h = never h
links-back (a ∷ []) h = refl
links-back (a ∷ b ∷ []) h = refl
links-back (a ∷ b ∷ c ∷ xs) h = let n = length xs in let l : suc (suc (suc n)) ≤ 2 = leb-so (second (leb 1 (suc (suc (suc n)))) _ h) in absurd (omega arith)

-- ---- a method that has a short signature, and none where it isn't permitted
pub record MethodShaped (m : Method) : Type 0 where
  pub short : length m.args ≤ max_arguments
  pub unsigned : permit m.state ≡ false → (m.args ≡ []) × (m.answer ≡ none)

args-back : (xs : List ℕ) → length xs ≤ argument_slots → from (length xs) 0 (λ j. get_or xs j 0) ≡ xs
args-back xs l = is-from (λ j. get_or xs j 0) (length xs) 0 xs refl (λ i p. refl)

abbrev MethodBack : State → List ℕ → Option ℕ → Type 0
MethodBack s xs a = ◌≡◌ {A = Method} (method_of (method_record (signed s xs a))) (signed s xs a)

bare-back : (s : State) → permit s ≡ false → state_of (state_code s) ≡ s → (xs : List ℕ) (a : Option ℕ) → (xs ≡ []) × (a ≡ none) → MethodBack s xs a
bare-back s e b xs a u = rw (u.0, u.1, b, e)

signed_back : (s : State) → permit s ≡ true → state_of (state_code s) ≡ s → (xs : List ℕ) (a : Option ℕ) → length xs ≤ argument_slots → MethodBack s xs a
signed_back s e b xs a l = rw (b, e, take-from (λ j. get_or xs j 0) (length xs) argument_slots 0 l, args-back xs l, answer_back a)

pub method-back : (m : Method) → MethodShaped m → method_of (method_record m) ≡ m
method-back m h = go m.state m.args m.answer (let l = h.short in omega arith) h.unsigned
  where
    go : (s : State) (xs : List ℕ) (a : Option ℕ) → length xs ≤ argument_slots → (permit s ≡ false → (xs ≡ []) × (a ≡ none)) → MethodBack s xs a
    go denied xs a l u = bare-back denied refl refl xs a (u refl)
    go optional xs a l u = signed_back optional refl refl xs a l
    go avail xs a l u = signed_back avail refl refl xs a l
    go unavail xs a l u = bare-back unavail refl refl xs a (u refl)

pub method-codes : (m : Method) → length m.args ≤ max_arguments → So (raw_method_fits (method_record m))
method-codes m l = go m.state
  where
    state-code : (s : State) → So (ltb (state_code s) 4)
    state-code denied = refl
    state-code optional = refl
    state-code avail = refl
    state-code unavail = refl

    go : (s : State) → So (ltb (state_code s) 4 && (permit (state_of (state_code s)) ⇒ leb (length m.args) max_arguments))
    go s = both (state-code s) (imply (permit (state_of (state_code s))) (leb (length m.args) max_arguments) (λ _. so-leb l))

-- ---- a type of the right shape, with number i in a table of so many methods and sheet types
pub record Shaped (methods sheet i : ℕ) (x : Ty) : Type 0 where
  pub own : So (x.own ⇒ is_ref x.rep)
  pub key : is_none x.key ≡ ltb i sheet
  pub long : length x.methods ≡ method_count x.rep methods
  pub method : (m : ℕ) → MethodShaped (get_or x.methods m no_method)

rep-back : (r : Rep) → rep_of (rep_code r) ≡ r
rep-back ref = refl
rep-back w32 = refl
rep-back w64 = refl

own_back : (b o : Bool) → So (o ⇒ b) → (b && eqb (bit o) 1) ≡ o
own_back true o h = flag-back o
own_back false true h = never h
own_back false false h = refl

key_back : (o : Option Key) (b : Bool) → is_none o ≡ b → ◌≡◌ {A = Option Key} (cond b none (some (record { kind = kind_of (key_codes o).0; left = (key_codes o).1; right = (key_codes o).2 }))) o
key_back none true e = refl
key_back none false e = never (sym e)
key_back (some k) true e = never e
key_back (some k) false e = go k.kind k.left k.right
  where
    go : (d : Kind) (l r : ℕ) → ◌≡◌ {A = Option Key} (some (record { kind = kind_of (kind_code d); left = l; right = r })) (some (record { kind = d; left = l; right = r }))
    go sub l r = refl
    go sup l r = refl
    go closed l r = refl

-- method j of the record
method-at : (x : Ty) (j : ℕ) → j < max_methods → get_or (type_record x).methods j no_raw_method ≡ method_record (get_or x.methods j no_method)
method-at x j l = from_first (λ j. method_record (get_or x.methods j no_method)) max_methods j no_raw_method l

methods-back : (methods : ℕ) (x : Ty) → methods ≤ max_methods → length x.methods ≡ method_count x.rep methods → ((m : ℕ) → MethodShaped (get_or x.methods m no_method))
    → cond (is_ref x.rep) (from methods 0 (λ j. method_of (get_or (type_record x).methods j no_raw_method))) [] ≡ x.methods
methods-back methods x l long h = go x.rep long
  where
    none_left : (ms : List Method) → length ms ≡ 0 → [] ≡ ms
    none_left [] e = refl
    none_left (m ∷ ms) e = absurd (omega arith)

    go : (r : Rep) → length x.methods ≡ method_count r methods → cond (is_ref r) (from methods 0 (λ j. method_of (get_or (type_record x).methods j no_raw_method))) [] ≡ x.methods
    go ref e = is-from (λ j. method_of (get_or (type_record x).methods j no_raw_method)) methods no_method x.methods e λ j p.
        sym (ap method_of (method-at x j (omega arith)) ∙ method-back (get_or x.methods j no_method) (h j))
    go w32 e = none_left x.methods e
    go w64 e = none_left x.methods e

pub type-back : (methods sheet i : ℕ) (x : Ty) → methods ≤ max_methods → Shaped methods sheet i x → type_of methods sheet i (type_record x) ≡ x
type-back methods sheet i x l h = build (rep-back x.rep) x.cat
    (ap (λ r. is_ref r && eqb (bit x.own) 1) (rep-back x.rep) ∙ own_back (is_ref x.rep) x.own h.own)
    (ap (λ r. cond (is_ref r) (from methods 0 (λ j. method_of (get_or (type_record x).methods j no_raw_method))) []) (rep-back x.rep) ∙ methods-back methods x l h.long h.method)
    (key_back x.key (ltb i sheet) h.key)
  where
    build : {a b : Rep} → a ≡ b → (c : ℕ) → {o p : Bool} → o ≡ p → {ms ns : List Method} → ms ≡ ns → {k l : Option Key} → k ≡ l
        → ◌≡◌ {A = Ty} (record { rep = a; cat = c; own = o; methods = ms; key = k }) (record { rep = b; cat = c; own = p; methods = ns; key = l })
    build p c q r s = rw (p, q, r, s)

pub type-codes : (methods sheet i : ℕ) (x : Ty) → Shaped methods sheet i x → So (raw_type_fits methods sheet i (type_record x))
type-codes methods sheet i x h = both (rep-code x.rep) (both
    (imply (is_ref (rep_of (rep_code x.rep))) _ λ _.
    both (flag-code x.own) (all_from (λ j. get_or (type_record x).methods j no_raw_method) raw_method_fits methods 0 λ j a b. go j (dec_lt j max_methods)))
    (or_right (ltb i sheet) (key-code x.key)))
  where
    rep-code : (r : Rep) → So (ltb (rep_code r) 3)
    rep-code ref = refl
    rep-code w32 = refl
    rep-code w64 = refl

    kind-code : (d : Kind) → So (ltb (kind_code d) 3)
    kind-code sub = refl
    kind-code sup = refl
    kind-code closed = refl

    key-code : (o : Option Key) → So (ltb (key_codes o).0 3)
    key-code none = refl
    key-code (some k) = kind-code k.kind

    go : (j : ℕ) → Dec (j < max_methods) → So (raw_method_fits (get_or (type_record x).methods j no_raw_method))
    go j (yes l) = rw (method-at x j l) (method-codes (get_or x.methods j no_method) (h.method j).short)
    go j (no l) = rw (get_or-from-out (λ j. method_record (get_or x.methods j no_method)) no_raw_method max_methods 0 j (omega arith))
