-- Laws over plain values for an `m=` line: signatures and methods. The proofs of the functions cite them.
use Rattle.std.specs.Prelude.{Some, IfSome}
use Rattle.std.specs.Prelude.{Option as Optionˢ}
use mathlib.Core.Path.{◌≡◌, refl, sym, ap, ◌∙◌, subst}
use mathlib.Core.Bool.{Bool, true, false, ◌&&◌, cond}
use mathlib.Core.List.{List, []}
use mathlib.Core.Option.{Option, none, some}
use Prim.Native.Nat.{ℕ, zero, suc, ◌+◌, ◌≤◌, ◌<◌}
use native.Mathlib.Omega.{arith}
use native.Mathlib.Numerals.{add-one}
use lib.Dec.{eqb}
use lib.ListN.{length, get_or, take, drop}
use borrow.Author.Tests.{lt-ltb, le-ltb, eq-eqb, ne_eqb}
use Rattle.spec_model.specs.Basics.{Res, refuse, ok, try, need, all, unless_missing}
use Rattle.spec_model.specs.Table.{State, optional, avail, Method, bare, max_arguments, permit}
use Rattle.spec_model.specs.Check.{state_of, answer_of, method_of}
use Rattle.spec_model.proofs.Rules.{never}
use Rattle.spec_model.specs.Refusals.{form, out_of_range}
use Rattle.spec_sheet.specs.Lines.{starts}
use Rattle.spec_sheet.specs.Numbers.{Scan, fail, took, bind_scan, whole, number, numbers}
use Rattle.spec_sheet.specs.Text.{state_text}
use Rattle.spec_sheet.specs.Sheet.{closing, arguments, answer, below, signature, method_line}
use Rattle.text_read.specs.declared.Numbers.{Numbers}
use Rattle.text_read.proofs.Laws.{from-here, at-end}
use Rattle.sheet_read_method.specs.View.{ArgsWithin, bare_line}

-- an empty line is refused
pub method-empty : (n : ℕ) → method_line n [] ≡ refuse form
unfolding method_line starts
method-empty n = refl

-- The arguments of a signature.
pub args_none : (l : List ℕ) (at : ℕ) → at ≡ length l → fail ≡ arguments (drop at l)
unfolding arguments
args_none l at h = sym (ap arguments (at-end l at (omega arith)))

module _ (l : List ℕ) (at : ℕ) (h : at < length l) where
  abbrev listed : List ℕ → Scan (List ℕ)
  listed p = bind_scan (numbers max_arguments [] p) closing

  args-here : arguments (drop at l) ≡ cond (eqb (get_or l at 0) 41) (took [] (drop (at + 1) l)) (listed (drop at l))
  unfolding arguments
  args-here = ap arguments (from-here l at h) ∙ ap (λ z. cond (eqb (get_or l at 0) 41) (took [] (drop (at + 1) l)) (listed z)) (sym (from-here l at h))

  pub args-empty : get_or l at 0 ≡ 41 → took [] (drop (at + 1) l) ≡ arguments (drop at l)
  args-empty q = sym (args-here ∙ ap (λ z. cond z (took [] (drop (at + 1) l)) (listed (drop at l))) (eq-eqb (get_or l at 0) 41 q))

  module _ (ne : get_or l at 0 ≡ 41 → ⊥) where
    args-list : arguments (drop at l) ≡ listed (drop at l)
    args-list = args-here ∙ ap (λ z. cond z (took [] (drop (at + 1) l)) (listed (drop at l))) (ne_eqb (get_or l at 0) 41 ne)

    pub args-wrong : fail ≡ numbers max_arguments [] (drop at l) → fail ≡ arguments (drop at l)
    args-wrong q = sym (args-list ∙ ap (λ z. bind_scan z closing) (sym q))

    module _ (xs : List ℕ) (e : ℕ) (q : took xs (drop e l) ≡ numbers max_arguments [] (drop at l)) where
      closes : arguments (drop at l) ≡ closing xs (drop e l)
      closes = args-list ∙ ap (λ z. bind_scan z closing) (sym q)

      pub args-open : e ≡ length l → fail ≡ arguments (drop at l)
      args-open b = sym (closes ∙ ap (closing xs) (at-end l e (omega arith)))

      pub args-other : e < length l → (get_or l e 0 ≡ 41 → ⊥) → fail ≡ arguments (drop at l)
      args-other b w = sym (closes ∙ ap (closing xs) (from-here l e b) ∙ ap (λ z. cond z (took xs (drop (e + 1) l)) fail) (ne_eqb (get_or l e 0) 41 w))

      pub args-closed : e < length l → get_or l e 0 ≡ 41 → took xs (drop (e + 1) l) ≡ arguments (drop at l)
      args-closed b w = sym (closes ∙ ap (closing xs) (from-here l e b) ∙ ap (λ z. cond z (took xs (drop (e + 1) l)) fail) (eq-eqb (get_or l e 0) 41 w))

  -- its answer
  answer-here : answer (drop at l) ≡ cond (eqb (get_or l at 0) 45) (took none (drop (at + 1) l)) (bind_scan (number (drop at l)) (λ n r. took (some n) r))
  unfolding answer
  answer-here = ap answer (from-here l at h) ∙ ap (λ z. cond (eqb (get_or l at 0) 45) (took none (drop (at + 1) l)) (bind_scan (number z) (λ n r. took (some n) r))) (sym (from-here l at h))

  pub answer-dash : get_or l at 0 ≡ 45 → took none (drop (at + 1) l) ≡ answer (drop at l)
  answer-dash q = sym (answer-here ∙ ap (λ z. cond z (took none (drop (at + 1) l)) (bind_scan (number (drop at l)) (λ n r. took (some n) r))) (eq-eqb (get_or l at 0) 45 q))

  module _ (ne : get_or l at 0 ≡ 45 → ⊥) where
    answer-number : answer (drop at l) ≡ bind_scan (number (drop at l)) (λ n r. took (some n) r)
    answer-number = answer-here ∙ ap (λ z. cond z (took none (drop (at + 1) l)) (bind_scan (number (drop at l)) (λ n r. took (some n) r))) (ne_eqb (get_or l at 0) 45 ne)

    pub answer-wrong : fail ≡ number (drop at l) → fail ≡ answer (drop at l)
    answer-wrong q = sym (answer-number ∙ ap (λ z. bind_scan z (λ n r. took (some n) r)) (sym q))

    pub answer-took : (n e : ℕ) → took n (drop e l) ≡ number (drop at l) → took (answer_of (n + 1)) (drop e l) ≡ answer (drop at l)
    answer-took n e q = ap (λ z. took (answer_of z) (drop e l)) (add-one n) ∙ sym (answer-number ∙ ap (λ z. bind_scan z (λ n r. took (some n) r)) (sym q))

pub answer-none : (l : List ℕ) (at : ℕ) → at ≡ length l → fail ≡ answer (drop at l)
unfolding answer
answer-none l at h = sym (ap answer (at-end l at (omega arith)))

pub args-within : (size : ℕ) (t : Optionˢ Numbers) (x : Numbers) → t ≡ Some x → IfSome t (ArgsWithin size) → ArgsWithin size x
args-within size t x e h = subst (λ z. IfSome z (ArgsWithin size)) e h

-- an answer among n types
answer-low : (a n : ℕ) → a ≤ n → unless_missing (answer_of a) (below n) ≡ true
answer-low zero n h = refl
answer-low (suc a) n h = lt-ltb a n (omega arith)

answer-high : (a n : ℕ) → n < a → unless_missing (answer_of a) (below n) ≡ false
answer-high zero n h = absurd (omega arith)
answer-high (suc a) n h = le-ltb a n (omega arith)

-- A signature.
module _ (n : ℕ) (s : State) (l : List ℕ) where
  method : List ℕ → Option ℕ → Method
  method xs o = record { state = s; args = xs; answer = o }

  checked : Method → Res Method
  checked m = need (all (below n) m.args && unless_missing m.answer (below n)) out_of_range λ _. ok m

  after-args : Scan (List ℕ) → Res Method
  after-args r = try (whole (bind_scan r λ xs q. bind_scan (answer q) λ o p. took (method xs o) p)) checked

  after-answer : List ℕ → Scan (Option ℕ) → Res Method
  after-answer xs r = try (whole (bind_scan r λ o p. took (method xs o) p)) checked

  signature-of : after-args (arguments l) ≡ signature n s l
  unfolding signature method checked after-args
  signature-of = refl

  pub signature-args : fail ≡ arguments l → refuse form ≡ signature n s l
  unfolding after-args
  signature-args e = ap after-args e ∙ signature-of

  module _ (xs r : List ℕ) (e : took xs r ≡ arguments l) where
    behind-args : after-answer xs (answer r) ≡ signature n s l
    unfolding after-args after-answer
    behind-args = ap after-args e ∙ signature-of

    pub signature-answer : fail ≡ answer r → refuse form ≡ signature n s l
    unfolding after-answer
    signature-answer q = ap (after-answer xs) q ∙ behind-args

    module _ (a : ℕ) (w : List ℕ) (k : ℕ) (q : took (answer_of a) (drop k w) ≡ answer r) where
      both-taken : try (whole (took (method xs (answer_of a)) (drop k w))) checked ≡ signature n s l
      unfolding after-answer
      both-taken = ap (after-answer xs) q ∙ behind-args

      pub signature-behind : k < length w → refuse form ≡ signature n s l
      signature-behind h = ap (λ z. try (whole (took (method xs (answer_of a)) z)) checked) (sym (from-here w k h)) ∙ both-taken

      module _ (h : length w ≤ k) where
        complete : need (all (below n) xs && unless_missing (answer_of a) (below n)) out_of_range (λ _. ok (method xs (answer_of a))) ≡ signature n s l
        unfolding checked method
        complete = ap (λ z. try (whole (took (method xs (answer_of a)) z)) checked) (sym (at-end w k h)) ∙ both-taken

        pub signature-high : all (below n) xs ≡ false → refuse out_of_range ≡ signature n s l
        signature-high b = ap (λ z. need (z && unless_missing (answer_of a) (below n)) out_of_range (λ _. ok (method xs (answer_of a)))) (sym b) ∙ complete

        module _ (b : all (below n) xs ≡ true) where
          args-below : need (unless_missing (answer_of a) (below n)) out_of_range (λ _. ok (method xs (answer_of a))) ≡ signature n s l
          args-below = ap (λ z. need (z && unless_missing (answer_of a) (below n)) out_of_range (λ _. ok (method xs (answer_of a)))) (sym b) ∙ complete

          pub signature-answer-high : n < a → refuse out_of_range ≡ signature n s l
          signature-answer-high d = ap (λ z. need z out_of_range (λ _. ok (method xs (answer_of a)))) (sym (answer-high a n d)) ∙ args-below

          pub signature-good : a ≤ n → ok (record { state = s; args = xs; answer = answer_of a }) ≡ signature n s l
          unfolding method
          signature-good d = ap (λ z. need z out_of_range (λ _. ok (method xs (answer_of a)))) (sym (answer-low a n d)) ∙ args-below

-- What a method's bytes mean.
means : State → Bool → ℕ → List ℕ → ℕ → Method
means s b count args a = record { state = s; args = cond b (take count args) []; answer = cond b (answer_of a) none }

pub signed-means : (s count answer a k : ℕ) (args xs : List ℕ) → permit (state_of s) ≡ true → count ≡ k → take k args ≡ xs → answer ≡ a
    → method_of (record { state = s; count = count; args = args; answer = answer }) ≡ record { state = state_of s; args = xs; answer = answer_of a }
unfolding means
signed-means s count answer a k args xs p e q f =
    ap (λ z. means (state_of s) z count args answer) p
    ∙ ap (λ (z : ℕ). let m : Method = record { state = state_of s; args = take z args; answer = answer_of answer } in m) e
    ∙ ap (λ (z : List ℕ). let m : Method = record { state = state_of s; args = z; answer = answer_of answer } in m) q
    ∙ ap (λ (z : ℕ). let m : Method = record { state = state_of s; args = xs; answer = answer_of z } in m) f

-- where a state permits nothing, the other bytes are not looked at (H15)
pub unsigned-means : (s count answer : ℕ) (args : List ℕ) → permit (state_of s) ≡ false → method_of (record { state = s; count = count; args = args; answer = answer }) ≡ bare (state_of s)
unfolding means
unsigned-means s count answer args p = ap (λ z. means (state_of s) z count args answer) p

-- a state that permits has a code
pub permits-below : (s : ℕ) → permit (state_of s) ≡ true → s < 4
permits-below zero p = never p
permits-below (suc zero) p = omega arith
permits-below (suc (suc zero)) p = omega arith
permits-below (suc (suc (suc s))) p = never p

-- An `m=` line, by its beginning.
module _ (n : ℕ) (l : List ℕ) where
  after-avail : Res Method
  after-avail = cond (starts (state_text optional) l) (signature n optional (drop 11 l)) (bare_line l)

  pub method-avail : starts (state_text avail) l ≡ true → signature n avail (drop 8 l) ≡ method_line n l
  unfolding method_line after-avail
  method-avail e = ap (λ z. cond z (signature n avail (drop 8 l)) after-avail) (sym e)

  module _ (a : starts (state_text avail) l ≡ false) where
    not-avail : after-avail ≡ method_line n l
    unfolding method_line after-avail
    not-avail = ap (λ z. cond z (signature n avail (drop 8 l)) after-avail) (sym a)

    pub method-optional : starts (state_text optional) l ≡ true → signature n optional (drop 11 l) ≡ method_line n l
    unfolding after-avail
    method-optional e = ap (λ z. cond z (signature n optional (drop 11 l)) (bare_line l)) (sym e) ∙ not-avail

    pub method-bare : starts (state_text optional) l ≡ false → bare_line l ≡ method_line n l
    unfolding after-avail
    method-bare e = ap (λ z. cond z (signature n optional (drop 11 l)) (bare_line l)) (sym e) ∙ not-avail
