-- An input whose lists and tolerance fit is read from its text, and from no other bytes (P27): `input-exact`. Larger numbers are read as one (S2), so that it can't be said of them.
use mathlib.Core.Path.{◌≡◌, refl, sym, ap, subst, ◌∙◌}
use mathlib.Core.Bool.{So}
use mathlib.Core.Logic.{◌↔◌}
use mathlib.Core.List.{List, [], ◌∷◌, ◌++◌, append_assoc, append-nil}
use Prim.Native.Nat.{ℕ, zero, suc, ◌+◌, ◌≤◌, ◌<◌}
use native.Mathlib.Omega.{arith}
use lib.Dec.{eqb}
use lib.ListN.{length, length-append}
use borrow.Author.Tests.{eqb-true}
use Rattle.spec_model.specs.Basics.{Res, refuse, ok, try, need}
use Rattle.spec_model.specs.Refusals.{out_of_range}
use Rattle.spec_model.specs.Table.{between}
use Rattle.spec_sheet.specs.Lines.{bytes, Row, row, cut, split, join, got, line, line_at, end_of_input, keyed}
use Rattle.spec_sheet.specs.Numbers.{Scan, fail, took, bind_scan, whole, top, number, decimal}
use Rattle.spec_sheet.specs.Sheet.{number_line}
use Rattle.spec_sheet.specs.Text.{number_text, spaces, spaced}
use Rattle.spec_sheet.proofs.Steps.{cond_cases, ok-value, try_ok, need-ok, fail-took, took-value, took-rest, whole-ok}
use Rattle.spec_sheet.proofs.Numbers.{number-sound, number-full, decimal-head}
use Rattle.spec_sheet.proofs.Lines.{rows, split-sound, Clean, split-full, all_append, decimal-clean, keyed-sound, keyed-full}
use Rattle.spec_sheet.specs.Clean.{not_lf, clean}
use Rattle.spec_sheet.proofs.Readers.{refused-got, got-value, got-rest, follow-got}
use Rattle.spec_sheet.proofs.LineKinds.{in_between}
use Rattle.spec_doors.specs.Times.{last_time}
use Rattle.spec_doors.specs.Paired.{time, Fit}
use Rattle.spec_doors.specs.Input.{space, decimals, times_line, Input, input_lines, input_text}

-- every number of a list is below `top`
abbrev Small : List ℕ → Type 0
Small [] = Unit {0}
Small (x ∷ xs) = (x < top) × Small xs

-- ---- A line of times
-- what is read is times behind acc, to the end of the line, and the line is their text where none is too large
record Listed (acc l ns r : List ℕ) : Type 0 where
  head : ℕ
  rest : List ℕ
  is : ns ≡ acc ++ head ∷ rest
  whole-line : r ≡ []
  text : Small (head ∷ rest) → l ≡ spaced (head ∷ rest)

decimals-sound : (k : ℕ) (acc l ns r : List ℕ) → decimals k acc l ≡ took ns r → Listed acc l ns r
unfolding decimals number_text
decimals-sound zero acc l ns r h = absurd (fail-took h)
decimals-sound (suc k) acc l ns r h = go (λ b q h. decimals-sound k b q ns r h) (number l) refl h
  where
    come : ((b q : List ℕ) → decimals k b q ≡ took ns r → Listed b q ns r) → (a : ℕ) (q : List ℕ) → number l ≡ took a q
        → space (acc ++ a ∷ []) (λ q. decimals k (acc ++ a ∷ []) q) q ≡ took ns r → Listed acc l ns r
    come ih a [] e h = record { head = a; rest = []; is = sym (took-value h); whole-line = sym (took-rest h); text = λ s. number-sound l a [] e s.0 }
    come ih a (b ∷ q) e h = cond_cases (eqb b 32) h
        (λ t k₁. let i : Listed (acc ++ a ∷ []) q ns r = ih (acc ++ a ∷ []) q k₁ in record {
          head = a;
          rest = i.head ∷ i.rest;
          is = i.is ∙ append_assoc acc (a ∷ []) (i.head ∷ i.rest);
          whole-line = i.whole-line;
          text = λ s. number-sound l a (b ∷ q) e s.0 ∙ ap (λ z. decimal a ++ z ∷ q) (eqb-true b 32 t) ∙ ap (λ z. decimal a ++ 32 ∷ z) (i.text s.1);
        })
        (λ t k₁. absurd (fail-took k₁))

    go : ((b q : List ℕ) → decimals k b q ≡ took ns r → Listed b q ns r) → (s : Scan ℕ) → number l ≡ s
        → bind_scan s (λ a q. space (acc ++ a ∷ []) (λ q. decimals k (acc ++ a ∷ []) q) q) ≡ took ns r → Listed acc l ns r
    go ih fail e h = absurd (fail-took h)
    go ih (took a q) e h = come ih a q e h

decimals-full : (k : ℕ) (acc : List ℕ) (a : ℕ) (xs : List ℕ) → suc (length xs) ≤ k → Small (a ∷ xs) → decimals k acc (spaced (a ∷ xs)) ≡ took (acc ++ a ∷ xs) []
unfolding decimals number_text
decimals-full zero acc a xs h s = absurd (omega arith)
decimals-full (suc k) acc a [] h s = ap (λ z. bind_scan z (λ a q. space (acc ++ a ∷ []) (λ q. decimals k (acc ++ a ∷ []) q) q)) (number-full a [] s.0 refl)
decimals-full (suc k) acc a (x ∷ xs) h s =
    ap (λ z. bind_scan z (λ a q. space (acc ++ a ∷ []) (λ q. decimals k (acc ++ a ∷ []) q) q)) (number-full a (32 ∷ decimal x ++ spaces xs) s.0 refl)
    ∙ decimals-full k (acc ++ a ∷ []) x xs (omega arith) s.1 ∙ ap (λ z. took z []) (append_assoc acc (a ∷ []) (x ∷ xs))

times-sound : (l xs : List ℕ) → times_line l ≡ ok xs → Small xs → l ≡ spaced xs
unfolding times_line
times-sound [] xs e s = ap spaced (ok-value e)
times-sound (b ∷ bs) xs e s = let i : Listed [] (b ∷ bs) xs [] = decimals-sound (length (b ∷ bs)) [] (b ∷ bs) xs [] (whole-ok (decimals (length (b ∷ bs)) [] (b ∷ bs)) e) in
    i.text (subst Small i.is s) ∙ ap spaced (sym i.is)

-- each time takes a byte at least
long-enough : (xs : List ℕ) → length xs ≤ length (spaces xs)
unfolding number_text
long-enough [] = omega arith
long-enough (x ∷ xs) = let e : length (32 ∷ decimal x ++ spaces xs) ≡ suc (length (decimal x) + length (spaces xs)) = ap suc (length-append (decimal x) (spaces xs)) in
    let h : length xs ≤ length (spaces xs) = long-enough xs in omega (arith, e)

times-full : (xs : List ℕ) → Small xs → times_line (spaced xs) ≡ ok xs
unfolding times_line
times-full [] s = refl
times-full (x ∷ xs) s = go (spaced (x ∷ xs)) refl
  where
    go : (l : List ℕ) → spaced (x ∷ xs) ≡ l → times_line l ≡ ok (x ∷ xs)
    go [] e = let i = decimal-head x s.0 in let z : length (decimal x ++ spaces xs) ≡ 0 = ap length e in
        absurd (omega (arith, z, length-append (decimal x) (spaces xs), ap length i.2))
    go (b ∷ bs) e = let i = decimal-head x s.0 in
        ap (λ z. whole (decimals (length z) [] z)) (sym e)
        ∙ ap whole (decimals-full (length (spaced (x ∷ xs))) [] x xs (omega (arith, length-append (decimal x) (spaces xs), ap length i.2, long-enough xs)) s)

-- ---- The tolerance
within-sound : (l : List ℕ) (n : ℕ) → number_line (bytes "within=") 0 top l ≡ ok n → n < top → l ≡ number_text (bytes "within=") n
unfolding number_line number_text
within-sound l n e h = try_ok (keyed (bytes "within=") l) _ e λ r e₁ e. try_ok (whole (number r)) _ e λ m e₂ e. need-ok (between 0 top m) out_of_range _ e λ b e.
    let m-small : m < top = subst (λ z. z < top) (sym (ok-value e)) h in
    keyed-sound (bytes "within=") l r e₁ ∙ ap (λ z. bytes "within=" ++ z) (number-sound r m [] (whole-ok (number r) e₂) m-small ∙ append-nil (decimal m))
    ∙ ap (λ z. bytes "within=" ++ decimal z) (ok-value e)

within-full : (n : ℕ) → n < top → number_line (bytes "within=") 0 top (number_text (bytes "within=") n) ≡ ok n
unfolding number_line number_text
within-full n h =
    let e : number (decimal n) ≡ took n [] = ap number (sym (append-nil (decimal n))) ∙ number-full n [] h refl in
    ap (λ z. try z λ r. try (whole (number r)) λ m. need (between 0 top m) out_of_range λ _. ok m) (keyed-full (bytes "within=") (decimal n))
    ∙ ap (λ z. try (whole z) λ m. need (between 0 top m) out_of_range λ _. ok m) e ∙ ap (λ b. need b out_of_range λ _. ok n) (in_between 0 top n (omega arith) (omega arith))

-- ---- The three lines
-- the line that was read, and what is left
line-got : {A : Type 0} (f : List ℕ → Res A) (at : ℕ) (rs : List Row) (x : A) (next : ℕ) (q : List Row) → line f at rs ≡ got x next q
    → (l : List ℕ) × (rs ≡ row l ∷ q) × (f l ≡ ok x)
line-got f at [] x next q h = refused-got h
line-got f at (cut l ∷ rs) x next q h = refused-got h
line-got {A} f at (row l ∷ rs) x next q h = go (f l) refl h
  where
    go : (r : Res A) → f l ≡ r → line_at r at l rs ≡ got x next q → (m : List ℕ) × (row l ∷ rs ≡ row m ∷ q) × (f m ≡ ok x)
    go (refuse n) e k = refused-got k
    go (ok y) e k = (l, ap (λ z. row l ∷ z) (got-rest k), e ∙ ap ok (got-value k))

end-got : (at : ℕ) (rs : List Row) (next : ℕ) (q : List Row) → end_of_input at rs ≡ got tt next q → rs ≡ []
end-got at [] next q h = refl
end-got at (r ∷ rs) next q h = refused-got h

fit_small : (xs : List ℕ) → ((k : ℕ) → k < length xs → time xs k ≤ last_time) → Small xs
fit_small [] h = tt
fit_small (x ∷ xs) h = (let e : x ≤ last_time = h 0 (omega arith) in omega arith, fit_small xs (λ k l. h (suc k) (omega arith)))

spaces-clean : (xs : List ℕ) → So (clean (spaces xs))
unfolding number_text
spaces-clean [] = refl
spaces-clean (x ∷ xs) = all_append not_lf (decimal x) (spaces xs) (decimal-clean x) (spaces-clean xs)

spaced-clean : (xs : List ℕ) → So (clean (spaced xs))
spaced-clean [] = refl
spaced-clean (x ∷ xs) = all_append not_lf (decimal x) (spaces xs) (decimal-clean x) (spaces-clean xs)

module _ (x : Input) (fit : Fit x.marks x.arrivals x.within) where
  marks-small : Small x.marks
  marks-small = fit_small x.marks fit.mark-times.last

  arrivals-small : Small x.arrivals
  arrivals-small = fit_small x.arrivals fit.arrival-times.last

  within-small : x.within < top
  within-small = omega (arith, fit.tolerance)

  lines : List (List ℕ)
  lines = number_text (bytes "within=") x.within ∷ spaced x.marks ∷ spaced x.arrivals ∷ []

  sound : (s : List ℕ) (at : ℕ) → input_lines 0 (split s) ≡ got x at [] → s ≡ input_text x
  unfolding input_lines input_text
  sound s at h =
      follow-got (line (number_line (bytes "within=") 0 top) 0 (split s)) _ h λ w a₁ r₁ e₁ h. follow-got (line times_line a₁ r₁) _ h λ ms a₂ r₂ e₂ h.
      follow-got (line times_line a₂ r₂) _ h λ xs a₃ r₃ e₃ h. follow-got (end_of_input a₃ r₃) _ h λ u a₄ r₄ e₄ h.
      let i = line-got (number_line (bytes "within=") 0 top) 0 (split s) w a₁ r₁ e₁ in
      let j = line-got times_line a₁ r₁ ms a₂ r₂ e₂ in
      let k = line-got times_line a₂ r₂ xs a₃ r₃ e₃ in
      let v : record { within = w; marks = ms; arrivals = xs } ≡ x = got-value h in
      let rs : split s ≡ rows (i.0 ∷ j.0 ∷ k.0 ∷ []) = i.1 ∙ ap (λ z. row i.0 ∷ z) (j.1 ∙ ap (λ z. row j.0 ∷ z) (k.1 ∙ ap (λ z. row k.0 ∷ z) (end-got a₃ r₃ a₄ r₄ e₄))) in
      split-sound s (i.0 ∷ j.0 ∷ k.0 ∷ []) rs
      ∙ ap (λ z. join (z ∷ j.0 ∷ k.0 ∷ [])) (within-sound i.0 x.within (i.2 ∙ ap (λ (z : Input). ok z.within) v) within-small)
      ∙ ap (λ z. join (number_text (bytes "within=") x.within ∷ z ∷ k.0 ∷ [])) (times-sound j.0 x.marks (j.2 ∙ ap (λ (z : Input). ok z.marks) v) marks-small)
      ∙ ap (λ z. join (number_text (bytes "within=") x.within ∷ spaced x.marks ∷ z ∷ [])) (times-sound k.0 x.arrivals (k.2 ∙ ap (λ (z : Input). ok z.arrivals) v) arrivals-small)

  -- no line of the text has an LF of its own
  clean-text : Clean lines
  unfolding lines number_text
  clean-text = (decimal-clean x.within, (spaced-clean x.marks, (spaced-clean x.arrivals, tt)))

  full : (at : ℕ) × (input_lines 0 (split (input_text x)) ≡ got x at [])
  unfolding input_lines input_text lines
  full = (
    0 + (length (number_text (bytes "within=") x.within) + 1) + (length (spaced x.marks) + 1) + (length (spaced x.arrivals) + 1),
    ap (λ z. input_lines 0 z) (split-full lines clean-text) ∙ rw (within-full x.within within-small, times-full x.marks marks-small, times-full x.arrivals arrivals-small),
  )

  -- The bytes that are read as an input that fits are its text, and no others.
  pub input-exact : (s : List ℕ) → ((at : ℕ) × (input_lines 0 (split s) ≡ got x at [])) ↔ (s ≡ input_text x)
  input-exact s = ((λ h. sound s h.0 h.1), λ e. subst (λ z. (at : ℕ) × (input_lines 0 (split z) ≡ got x at [])) (sym e) full)
