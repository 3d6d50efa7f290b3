-- The codes of counted places and calls, as loops test them: past the array nothing is tested, and the records that are read there fit.
use mathlib.Core.Path.{◌≡◌, refl, ap, ◌∙◌}
use mathlib.Core.Bool.{Bool, true, false}
use mathlib.Core.List.{List}
use Prim.Native.Nat.{ℕ, zero, suc, ◌+◌, ◌-◌, ◌*◌, ◌≤◌, ◌<◌, min}
use mathlib.Core.Logic.{⊎_elim}
use native.Mathlib.Omega.{arith}
use lib.Dec.{ltb}
use lib.ListN.{get_or, get_or-eq_default}
use borrow.Author.Tests.{lt-ltb, le-ltb}
use Rattle.spec_model.specs.Check.{RawPlace, RawCall, no_raw_place, no_raw_call}
use Rattle.spec_model.proofs.Lists.{length_from, from_first}
use Rattle.spec_model.specs.Crossing.{max_places}
use Rattle.spec_model.specs.Requests.{max_calls}
use Rattle.table_record.proofs.Lists.{lt-or-ge}
use Rattle.table_check_links.specs.Parts.{each_from}
use Rattle.table_check_links.proofs.Each.{all-each}
use Rattle.state_bytes.specs.Flat.{raw_place_at, raw_call_at, raw_places, raw_calls, place_size, call_size}
use Rattle.state_bytes.specs.Records.{place_codes, call_codes}

abbrev pub PlaceFits : List ℕ → ℕ → Bool
PlaceFits b p = ltb (get_or (raw_places b) p no_raw_place).code 2

abbrev pub CallFits : List ℕ → ℕ → Bool
CallFits b j = ltb (get_or (raw_calls b) j no_raw_call).answered 2

pub each_all : (f : ℕ → Bool) (n i : ℕ) → ((k : ℕ) → i ≤ k → f k ≡ true) → each_from n i f ≡ true
unfolding each_from
each_all f zero i h = refl
each_all f (suc n) i h = rw (h i (omega arith), each_all f n (suc i) (λ k p. h k (omega arith)))

module _ (b : List ℕ) where
  pub places-each : (n : ℕ) → place_codes b n ≡ each_from (n - 0) 0 (PlaceFits b)
  unfolding place_codes
  places-each n = let e : n ≡ n - 0 = omega arith in all-each (λ k. get_or (raw_places b) k no_raw_place) (λ (p : RawPlace). ltb p.code 2) n 0 ∙ ap (λ (z : ℕ). each_from z 0 (PlaceFits b)) e

  pub place-fits : (p : ℕ) → p < max_places → PlaceFits b p ≡ ltb (get_or b (p * place_size) 0) 2
  unfolding raw_places
  place-fits p h = ap (λ (x : RawPlace). ltb x.code 2) (from_first (λ k. raw_place_at b (k * place_size)) max_places p no_raw_place h)

  pub places-past : (n i : ℕ) → max_places ≤ i → each_from n i (PlaceFits b) ≡ true
  unfolding raw_places
  places-past n i h = each_all (PlaceFits b) n i (λ k p. let l = length_from (λ k. raw_place_at b (k * place_size)) max_places 0 in
      ap (λ (x : RawPlace). ltb x.code 2) (get_or-eq_default (raw_places b) no_raw_place (omega (arith, l, h, p))))

  -- where the loop ends nothing is left, or only what lies past the array
  pub places-end : (n i : ℕ) → i ≡ min n max_places → each_from (n - i) i (PlaceFits b) ≡ true
  unfolding each_from
  places-end n i e = ⊎_elim
      (λ (l : n < max_places). let z : n - i ≡ 0 = omega (arith, l, e) in ap (λ (c : ℕ). each_from c i (PlaceFits b)) z)
      (λ (l : max_places ≤ n). places-past (n - i) i (omega (arith, l, e)))
      (lt-or-ge n max_places)

  pub calls-each : (n : ℕ) → call_codes b n ≡ each_from (n - 0) 0 (CallFits b)
  unfolding call_codes
  calls-each n = let e : n ≡ n - 0 = omega arith in all-each (λ k. get_or (raw_calls b) k no_raw_call) (λ (c : RawCall). ltb c.answered 2) n 0 ∙ ap (λ (z : ℕ). each_from z 0 (CallFits b)) e

  pub call-fits : (j : ℕ) → j < max_calls → CallFits b j ≡ ltb (get_or b (j * call_size + 3) 0) 2
  unfolding raw_calls
  call-fits j h = ap (λ (x : RawCall). ltb x.answered 2) (from_first (λ k. raw_call_at b (k * call_size)) max_calls j no_raw_call h)

  pub calls-past : (n i : ℕ) → max_calls ≤ i → each_from n i (CallFits b) ≡ true
  unfolding raw_calls
  calls-past n i h = each_all (CallFits b) n i (λ k p. let l = length_from (λ k. raw_call_at b (k * call_size)) max_calls 0 in
      ap (λ (x : RawCall). ltb x.answered 2) (get_or-eq_default (raw_calls b) no_raw_call (omega (arith, l, h, p))))

  -- where the loop ends nothing is left, or only what lies past the array
  pub calls-end : (n i : ℕ) → i ≡ min n max_calls → each_from (n - i) i (CallFits b) ≡ true
  unfolding each_from
  calls-end n i e = ⊎_elim
      (λ (l : n < max_calls). let z : n - i ≡ 0 = omega (arith, l, e) in ap (λ (c : ℕ). each_from c i (CallFits b)) z)
      (λ (l : max_calls ≤ n). calls-past (n - i) i (omega (arith, l, e)))
      (lt-or-ge n max_calls)

-- a code, tested
pub too_large : (x : ℕ) → 1 < x → ltb x 2 ≡ false
too_large x h = le-ltb x 2 h

pub small-enough : (x : ℕ) → x ≤ 1 → ltb x 2 ≡ true
small-enough x h = lt-ltb x 2 (omega arith)
