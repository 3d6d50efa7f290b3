-- What the loop has printed, and what a line more adds to it: a request's line and those behind it, or the line that ends the program.
use mathlib.Core.Path.{◌≡◌, refl, sym, ap, ◌∙◌}
use mathlib.Core.Bool.{Bool, true, false, not, cond}
use mathlib.Core.List.{List, [], ◌∷◌, ◌++◌, append_assoc, append-nil}
use mathlib.Core.Option.{Option, none, some}
use Prim.Native.Nat.{ℕ, min, ◌+◌, ◌-◌, ◌*◌, ◌≤◌, ◌<◌}
use native.Mathlib.Omega.{arith}
use lib.ListN.{length, drop, drop_of_length-le}
use borrow.Rule.Slice.PartMut.{mid_of, put_mid}
use Rattle.spec_model.specs.Basics.{refuse}
use Rattle.spec_model.specs.Table.{is_none}
use Rattle.spec_model.specs.Requests.{System, Request, refused, serve, after, outcome}
use Rattle.spec_model.specs.Refusals.{form}
use Rattle.spec_sheet.specs.Lines.{Row, row, cut, bytes, split, first_line}
use Rattle.spec_sheet.proofs.Steps.{none-some}
use Rattle.state_record.specs.Whole.{Whole as State}
use Rattle.state_record.specs.View.{system_in}
use Rattle.state_record.specs.Sound.{Sound}
use Rattle.request_common.specs.Served.{Done as Served}
use Rattle.request_common.specs.Served.{outcome_of, Step}
use Rattle.request_by_code.specs.Coded.{serve_asked}
use Rattle.request_by_code.proofs.Laws.{outcome-is, after_is}
use Rattle.text_cursor.specs.View.{LineAt, past}
use Rattle.text_write.specs.Fill.{Lined}
use Rattle.text_write.proofs.Laws.{lines_none, lines_rest, lines_are}
use Rattle.std.specs.Prelude.{Option as Maybe}
use Rattle.std.specs.Option.{is_some}
use Rattle.script_read_request.specs.declared.Asked.{Asked}
use Rattle.script_read_request.specs.Asked.{request_line}
use Rattle.script_read_request.specs.Read.{asked_as, Reads}
use Rattle.script_write_outcome.specs.Outcomes.{outcome_text}
use Rattle.script_output.specs.Parts.{lines_by, lines_from}
use Rattle.script_output.proofs.Rows.{rows_left, line-some, line-within}

-- a line that asks something isn't empty
asks-some : (l : List ℕ) (q : Request) → request_line l ≡ some q → 0 < length l
unfolding request_line
asks-some [] q e = none-some e
asks-some (b ∷ l) q e = omega arith

-- ---- the line l at `at`, before the end of the lines
module _ (x : System) (s : List ℕ) (at : ℕ) (l : List ℕ) (h : LineAt s at l) (k : at < length s) where
  -- a malformed line ends the program
  lines_end : request_line l ≡ none → lines_from x (split (drop at s)) ≡ bytes "no=1" ∷ []
  unfolding lines_from
  lines_end n = go (split (drop at s)) refl
    where
      go : (rs : List Row) → split (drop at s) ≡ rs → lines_from x rs ≡ bytes "no=1" ∷ []
      go [] e = rows_left s at l h k e
      go (cut m ∷ rs) e = refl
      go (row m ∷ rs) e = ap (lines_by x (λ y. lines_from y rs)) (ap request_line (sym (h.is ∙ ap first_line e)) ∙ n)

  lines_more : (q : Request) → request_line l ≡ some q
      → lines_from x (split (drop at s)) ≡ outcome_text (outcome (serve x q)) ∷ lines_from (after x (serve x q)) (split (drop (at + (length l + 1)) s))
  unfolding lines_from
  lines_more q e = ap (lines_from x) (line-some s at l h k (asks-some l q e)) ∙ ap (lines_by x (λ y. lines_from y (split (drop (at + (length l + 1)) s)))) e

-- ---- Where the cursor stands behind a line that asks something: behind its LF.
module _ (rest : List ℕ) (at : ℕ) (l : List ℕ) (h : LineAt rest at l) (k : at < length rest) (q : Maybe Asked) (a : Reads (request_line l) q) (d : ℕ) (n : d ≡ past at (split (drop at rest))) where
  pub passed-line : cond (is_some q) d (length rest) ≡ cond (is_some q) (at + (length l + 1)) (length rest)
  passed-line = go (request_line l) refl
    where
      go : (o : Option Request) → request_line l ≡ o → cond (is_some q) d (length rest) ≡ cond (is_some q) (at + (length l + 1)) (length rest)
      go none e =
          let w : is_some q ≡ false = a.some ∙ ap (λ z. not (is_none z)) e in
          ap (λ z. cond z d (length rest)) w ∙ sym (ap (λ z. cond z (at + (length l + 1)) (length rest)) w)
      go (some y) e = ap (λ z. cond (is_some q) z (length rest)) (n ∙ ap (past at) (line-some rest at l h k (asks-some l y e)))

-- ---- A turn: the line at `at` is read and served, and the next one begins where the code says.
module _ (s : State) (rest : List ℕ) (at : ℕ) (l : List ℕ) (h : LineAt rest at l) (k : at < length rest) (q : Maybe Asked) (a : Reads (request_line l) q)
    (r : Served) (t : Step s (serve_asked (system_in s) (asked_as q)) r) (next : ℕ) (n : next ≡ cond (is_some q) (at + (length l + 1)) (length rest)) where
  pub turn : lines_from (system_in s) (split (drop at rest)) ≡ outcome_text (outcome_of r.outcome) ∷ lines_from (system_in r.state) (split (drop next rest))
  unfolding lines_from serve_asked outcome_text split
  turn = go (request_line l) refl
    where
      go : (o : Option Request) → request_line l ≡ o
          → lines_from (system_in s) (split (drop at rest)) ≡ outcome_text (outcome_of r.outcome) ∷ lines_from (system_in r.state) (split (drop next rest))
      go none e =
          let m : serve_asked (system_in s) (asked_as q) ≡ refuse form = ap (serve_asked (system_in s)) (a.is ∙ e) in
          let o : refused form ≡ outcome_of r.outcome = ap outcome (sym m) ∙ outcome-is s _ r t in
          let w : is_some q ≡ false = a.some ∙ ap (λ z. not (is_none z)) e in
          let d : drop next rest ≡ [] = ap (λ z. drop z rest) (n ∙ ap (λ z. cond z (at + (length l + 1)) (length rest)) w) ∙ drop_of_length-le rest {i = length rest} (omega arith) in
          lines_end (system_in s) rest at l h k e ∙ ap (λ z. outcome_text z ∷ []) o
          ∙ ap (λ z. outcome_text (outcome_of r.outcome) ∷ lines_from (system_in r.state) (split z)) (sym d)
      go (some y) e =
          let m : serve_asked (system_in s) (asked_as q) ≡ serve (system_in s) y = ap (serve_asked (system_in s)) (a.is ∙ e) in
          let o : outcome (serve (system_in s) y) ≡ outcome_of r.outcome = ap outcome (sym m) ∙ outcome-is s _ r t in
          let f : after (system_in s) (serve (system_in s) y) ≡ system_in r.state = ap (after (system_in s)) (sym m) ∙ after_is s _ r t in
          let w : is_some q ≡ true = a.some ∙ ap (λ z. not (is_none z)) e in
          let d : at + (length l + 1) ≡ next = sym (n ∙ ap (λ z. cond z (at + (length l + 1)) (length rest)) w) in
          lines_more (system_in s) rest at l h k y e
          ∙ ap (λ z. outcome_text z ∷ lines_from (after (system_in s) (serve (system_in s) y)) (split (drop (at + (length l + 1)) rest))) o
          ∙ ap (λ z. outcome_text (outcome_of r.outcome) ∷ lines_from z (split (drop (at + (length l + 1)) rest))) f
          ∙ ap (λ z. outcome_text (outcome_of r.outcome) ∷ lines_from (system_in r.state) (split (drop z rest))) d

  pub next-behind : (at < next) × (next ≤ length rest)
  next-behind = let w = line-within rest at l h k in go (is_some q) n w
    where
      go : (b : Bool) → next ≡ cond b (at + (length l + 1)) (length rest) → at + length l < length rest → (at < next) × (next ≤ length rest)
      go true e w = let f : next ≡ at + (length l + 1) = e in (omega arith, omega arith)
      go false e w = let f : next ≡ length rest = e in (omega arith, omega arith)

-- ---- So far: `lines` are written, the lines from `at` on are still to come.
pub record Going (s₀ : State) (rest old : List ℕ) (s : State) (cur : List ℕ) (w at : ℕ) : Type 0 where
  pub lines : List (List ℕ)
  pub lined : Lined old cur lines w
  pub left : lines ++ lines_from (system_in s) (split (drop at rest)) ≡ lines_from (system_in s₀) (split rest)
  pub sound : Sound s
  pub few : w ≤ 73 * at
  pub within : at ≤ length rest

module _ (s₀ : State) (rest old : List ℕ) where
  pub going-starts : Sound s₀ → Going s₀ rest old s₀ old 0 0
  going-starts h = record { lines = []; lined = lines_none old; left = refl; sound = h; few = omega arith; within = omega arith }

  module _ (s : State) (cur : List ℕ) (w at : ℕ) (g : Going s₀ rest old s cur w at) where
    pub going_on : (l : List ℕ) (h : LineAt rest at l) (k : at < length rest) (q : Maybe Asked) (a : Reads (request_line l) q) (r : Served) (t : Step s (serve_asked (system_in s) (asked_as q)) r)
        (next : ℕ) (n : next ≡ cond (is_some q) (at + (length l + 1)) (length rest)) {tl : List ℕ} {b i : ℕ} → i ≡ min w (length cur)
        → Lined (mid_of i (length cur - i) cur) tl (outcome_text (outcome_of r.outcome) ∷ []) b → b ≤ 73 → Going s₀ rest old r.state (put_mid i (length cur - i) cur tl) (w + b) next
    going_on l h k q a r t next n i f c =
        let x : List ℕ = outcome_text (outcome_of r.outcome) in
        let more = lines_from (system_in r.state) (split (drop next rest)) in
        let u = next-behind s rest at l h k q a r t next n in
        let v = u.0 in
        let z = g.few in record {
          lines = g.lines ++ (x ∷ []);
          lined = lines_rest g.lined i f;
          left = append_assoc g.lines (x ∷ []) more ∙ ap (λ y. g.lines ++ y) (sym (turn s rest at l h k q a r t next n)) ∙ g.left;
          sound = t.sound;
          few = omega arith;
          within = u.1;
        }

    pub going_done : length rest ≤ at → Lined old cur (lines_from (system_in s₀) (split rest)) w
    unfolding lines_from split
    going_done l =
        let d : drop at rest ≡ [] = drop_of_length-le rest {i = at} l in
        let e : lines_from (system_in s) (split (drop at rest)) ≡ [] = ap (λ z. lines_from (system_in s) (split z)) d in
        lines_are (sym (append-nil g.lines) ∙ ap (λ z. g.lines ++ z) (sym e) ∙ g.left) g.lined
