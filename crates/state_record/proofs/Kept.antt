-- What the steps keep: one record more leaves a state sound, where the record's numbers are below their counts.
use mathlib.Core.Path.{◌≡◌, refl, ap, sym, subst, ◌∙◌}
use mathlib.Core.Bool.{true, false, cond}
use mathlib.Core.List.{List, [], ◌∷◌, ◌++◌}
use Prim.Native.Nat.{ℕ, suc, ◌+◌, ◌≤◌, ◌<◌}
use native.Mathlib.Nat.{not-suc-le-zero}
use native.Mathlib.Omega.{arith}
use native.Mathlib.Decide.{dec_lt}
use lib.Dec.{eqb}
use lib.ListN.{length, get_or, set, get_or-append}
use lib.Seq.{get_or_at}
use Rattle.spec_model.specs.Crossing.{Place as Placeᵐ, no_place, place_at, place_type, max_places}
use Rattle.spec_model.specs.Basics.{from}
use Rattle.spec_model.specs.Requests.{no_call, flagged, max_calls_each, max_calls, made_by}
use Rattle.spec_model.specs.Requests.{Call as Callᵐ}
use Rattle.law_model.proofs.Callers.{made-append, Calling, calls-few, calls-room, calling-more, calling-answered}
use Rattle.table_record.specs.declared.Counts.{Counts}
use Rattle.table_record.specs.Limits.{Checked}
use Rattle.table_record.specs.Layout.{types_size}
use Rattle.table_record.proofs.Lists.{from_last}
use Rattle.state_record.specs.Counted.{Places}
use Rattle.state_record.specs.Counted.{Calls}
use Rattle.state_record.specs.Whole.{Whole, whole}
use Rattle.state_record.specs.View.{seen, call_of, blank_call, places_in, calls_in, is_object, behind_of, no_calls, state_loaded, with_types}
use Rattle.state_record.specs.Sound.{Descending, Typed, MayCall, Sound}
use Rattle.state_record.proofs.Laws.{places-length, calls-length}

-- what holds of every element of a list and of one more
more : {A : Type 0} (d : A) (P : ℕ → A → Type 0) (xs : List A) (x : A) → ((i : ℕ) → i < length xs → P i (get_or xs i d)) → P (length xs) x → (i : ℕ) → i < length xs + 1
    → P i (get_or (xs ++ (x ∷ [])) i d)
more d P xs x each new i l = go (dec_lt i (length xs))
  where
    go : Dec (i < length xs) → P i (get_or (xs ++ (x ∷ [])) i d)
    go (yes h) = rw (get_or-append xs (x ∷ []) d i h) (each i h)
    go (no h) = let e : length xs ≡ i = omega arith in rw (get_or_at xs x [] d i e) (subst (λ n. P n x) e new)

-- places ps with one more, x
module _ (ps qs : Places) (x : Placeᵐ) (count : qs.count ≡ ps.count + 1) (e : places_in qs ≡ places_in ps ++ (x ∷ [])) where
  each_more : (P : ℕ → Placeᵐ → Type 0) → ((p : ℕ) → p < ps.count → P p (place_at (places_in ps) p)) → P ps.count x → (p : ℕ) → p < qs.count
      → P p (place_at (places_in qs) p)
  each_more P each new p l =
      let n : length (places_in ps) ≡ ps.count = places-length ps in
      subst (λ xs. P p (place_at xs p)) (sym e) (more no_place P (places_in ps) x (λ i h. each i (omega arith)) (subst (λ k. P k x) (sym n) new) p (omega arith))

  pub descending-more : Descending ps → ps.count < max_places → (is_object x ≡ false → behind_of x < ps.count) → Descending qs
  descending-more h room new = record { count = omega (arith, count, room); behind = each_more (λ p y. is_object y ≡ false → behind_of y < p) h.behind new }

  pub typed-more : (c : Counts) → Typed ps c → place_type x < c.types → Typed qs c
  typed-more c h new = each_more (λ p y. place_type y < c.types) h new

-- the state of a loaded sheet
none_made : (k : ℕ) → made_by k (calls_in no_calls) ≡ 0
unfolding seen from
none_made k = refl

pub loaded-sound : (types links : List ℕ) (counts : Counts) → length types ≡ types_size → Checked links counts → Sound (whole types (state_loaded links counts))
loaded-sound types links counts long h = record {
  long = long;
  checked = h;
  descending = record { count = omega arith; behind = λ p l. absurd (not-suc-le-zero l) };
  typed = λ p l. absurd (not-suc-le-zero l);
  cell_count = omega arith;
  cells = λ k l. absurd (not-suc-le-zero l);
  calls = record { each = λ j l. absurd (not-suc-le-zero l); few = λ k. omega (arith, none_made k) };
}

-- nothing of soundness is in the bytes of the types
pub sound-types : (s : Whole) (b : List ℕ) → length b ≡ types_size → Sound s → Sound (with_types s b)
sound-types s b long h = record {
  long = long;
  checked = h.checked;
  descending = h.descending;
  typed = h.typed;
  cell_count = h.cell_count;
  cells = λ k l. let x = h.cells k l in record { type = x.type; place = x.place };
  calls = record { each = λ j l. let x = h.calls.each j l in record { caller = x.caller; cell = x.cell; method = x.method }; few = h.calls.few };
}

-- the calls by their numbers, and the end of a loop that goes through them
abbrev pub called : Calls → ℕ → Callᵐ
called js j = call_of (get_or js.list j blank_call)

pub calls-from : (js : Calls) → calls_in js ≡ from js.count 0 (called js)
unfolding seen
calls-from js = refl

pub ended : (j n : ℕ) → j ≤ n → n ≤ j → j ≡ n
ended j n l z = omega arith

-- one call more in a list of them
pub made-last : (f : ℕ → Callᵐ) (k j : ℕ) → made_by k (from (suc j) 0 f) ≡ made_by k (from j 0 f) + cond (eqb k (f j).caller) 1 0
made-last f k j = ap (made_by k) (from_last f j 0) ∙ made-append k (from j 0 f) (f (0 + j) ∷ []) ∙ ap (λ (i : ℕ). made_by k (from j 0 f) + cond (eqb k (f i).caller) 1 0) (omega arith)

-- Callers are known and each has few calls, so that there is room for who has fewer (Q9).
module _ (s : Whole) (h : Sound s) where
  pub sound-calling : Calling s.counts.subjects (calls_in s.calls)
  sound-calling = record { callers = λ j l. (h.calls.each j (subst (λ n. j < n) (calls-length s.calls) l)).caller; few = h.calls.few }

  pub sound-few : s.calls.count ≤ max_calls
  sound-few = subst (λ n. n ≤ max_calls) (calls-length s.calls) (calls-few sound-calling h.checked.limits.subjects)

  pub sound-room : (who : ℕ) → MayCall s who → s.calls.count < max_calls
  sound-room who may = subst (λ n. n < max_calls) (calls-length s.calls) (calls-room sound-calling h.checked.limits.subjects who may.0 may.1)

  -- one call more of who may make it, and one that is answered
  pub few-added : (c : Callᵐ) → MayCall s c.caller → (k : ℕ) → made_by k (calls_in s.calls ++ (c ∷ [])) ≤ max_calls_each
  few-added c may = (calling-more sound-calling c may.0 may.1).few

  pub few-answered : (j k : ℕ) → made_by k (set (calls_in s.calls) j (flagged (get_or (calls_in s.calls) j no_call) true)) ≤ max_calls_each
  few-answered j = (calling-answered sound-calling j true).few
