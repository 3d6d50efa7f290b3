-- Requests by their codes, and what a step leaves for those behind it.
use mathlib.Core.Path.{◌≡◌, refl, sym, ap, ◌∙◌}
use mathlib.Core.List.{List}
use mathlib.Core.Option.{Option, none, some}
use Prim.Native.Nat.{ℕ, zero, suc, ◌≤◌, ◌<◌}
use lib.IntN.{ℤ, pos}
use lib.ListN.{length, get_or, drop}
use borrow.Author.Tests.{eq-eqb, ne_eqb, le-leb, lt-leb}
use Rattle.spec_model.specs.Basics.{Res}
use Rattle.spec_model.specs.Requests.{System, Request, Result, Outcome as Outcomeᵐ, got, refused, serve, new_request, move_request, call_request, answer_request, after, outcome}
use Rattle.spec_model.specs.Coded.{by_code}
use Rattle.state_record.specs.Whole.{Whole as State}
use Rattle.state_record.specs.View.{system_in}
use Rattle.state_record.specs.Sound.{Sound}
use Rattle.std.specs.Prelude.{Ok, Err}
use Rattle.std.specs.Prelude.{Result as Either}
use Rattle.base_numbers.specs.declared.refusal.Refusal.{Refusal}
use Rattle.base_numbers.specs.declared.refusal.Refusal.TheVariants.{Form}
use Rattle.request_common.specs.declared.Answer.{Answer}
use Rattle.request_common.specs.Served.{Done as Served, refusal_of as refusal}
use Rattle.request_common.specs.Served.{outcome_of, served_with, Step}
use Rattle.request_common.proofs.Laws.{refuses as step-refuses, refused-means}
use Rattle.request_by_code.specs.Coded.{serve_asked}

-- ---- One request.

pub refuses : (s : State) (q : Option Request) (r : Served) → Sound s → q ≡ none → r ≡ refusal s Form → Step s (serve_asked (system_in s) q) r
unfolding serve_asked
refuses s q r h e k = step-refuses h (ap (serve_asked (system_in s)) e) k

module _ (m : System) (ws : List ℤ) where
  abbrev o : ℕ → ℤ
  o i = get_or ws i (pos 0)

  pub new_none : (length ws ≡ 3 → ⊥) → by_code 0 ws ≡ none
  new_none h = rw (ne_eqb (length ws) 3 h)

  pub new_is : length ws ≡ 3 → new_request m (o 0) (o 1) (o 2) ≡ serve_asked m (by_code 0 ws)
  unfolding serve_asked serve
  new_is h = rw (eq-eqb (length ws) 3 h)

  pub move-none : (length ws ≡ 4 → ⊥) → by_code 1 ws ≡ none
  move-none h = rw (ne_eqb (length ws) 4 h)

  pub move-is : length ws ≡ 4 → move_request m (o 0) (o 1) (o 2) (o 3) ≡ serve_asked m (by_code 1 ws)
  unfolding serve_asked serve
  move-is h = rw (eq-eqb (length ws) 4 h)

  pub call_none : length ws < 3 → by_code 2 ws ≡ none
  call_none h = rw (lt-leb 3 (length ws) h)

  pub call-is : 3 ≤ length ws → call_request m (o 0) (o 1) (o 2) (drop 3 ws) ≡ serve_asked m (by_code 2 ws)
  unfolding serve_asked serve
  call-is h = rw (le-leb 3 (length ws) h)

  pub answer-none : (length ws ≡ 2 → ⊥) → (length ws ≡ 3 → ⊥) → by_code 3 ws ≡ none
  answer-none h k = rw (ne_eqb (length ws) 2 h, ne_eqb (length ws) 3 k)

  pub nothing_is : length ws ≡ 2 → answer_request m (o 0) (o 1) none ≡ serve_asked m (by_code 3 ws)
  unfolding serve_asked serve
  nothing_is h = rw (eq-eqb (length ws) 2 h)

  pub answer-is : (length ws ≡ 2 → ⊥) → length ws ≡ 3 → answer_request m (o 0) (o 1) (some (o 2)) ≡ serve_asked m (by_code 3 ws)
  unfolding serve_asked serve
  answer-is h k = rw (ne_eqb (length ws) 2 h, eq-eqb (length ws) 3 k)

-- the code of no request
pub code-none : (k : ℕ) (ws : List ℤ) → (k ≡ 0 → ⊥) → (k ≡ 1 → ⊥) → (k ≡ 2 → ⊥) → (k ≡ 3 → ⊥) → by_code k ws ≡ none
code-none zero ws a b c d = absurd (a refl)
code-none (suc zero) ws a b c d = absurd (b refl)
code-none (suc (suc zero)) ws a b c d = absurd (c refl)
code-none (suc (suc (suc zero))) ws a b c d = absurd (d refl)
code-none (suc (suc (suc (suc k)))) ws a b c d = refl

-- ---- What a step leaves for those behind it.
module _ (s : State) (m : Res (System × Result)) (r : Served) (h : Step s m r) where
  pub outcome-is : outcome m ≡ outcome_of r.outcome
  outcome-is = ap outcome (sym h.is) ∙ go (outcome_of r.outcome) where
    go : (o : Outcomeᵐ) → outcome (served_with (system_in r.state) o) ≡ o
    go (refused e) = refl
    go (got x) = refl

  pub after_is : after (system_in s) m ≡ system_in r.state
  after_is = ap (after (system_in s)) (sym h.is) ∙ go r.outcome refl where
    go : (a : Either Answer Refusal) → r.outcome ≡ a → after (system_in s) (served_with (system_in r.state) (outcome_of a)) ≡ system_in r.state
    go (Err e) z = sym (refused-means h e z)
    go (Ok x) z = refl
