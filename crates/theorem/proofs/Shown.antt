-- The theorem that is shown (specs/Shown), from the laws over what is returned.
use mathlib.Core.Path.{◌≡◌, refl, ap, sym, subst, ◌∙◌}
use mathlib.Core.Logic.{◌↔◌}
use mathlib.Core.Bool.{false, not, ◌&&◌, So, cond}
use mathlib.Core.List.{List, [], ◌∷◌, ◌++◌}
use mathlib.Core.Option.{Option, some}
use Prim.Native.Nat.{ℕ, ◌+◌, ◌≤◌}
use native.Mathlib.Omega.{arith}
use lib.IntN.{ℤ, pos}
use lib.ListN.{length, get_elem?}
use Rattle.spec_model.specs.Basics.{named}
use Rattle.spec_model.specs.Table.{Table, valid_sheet}
use Rattle.spec_model.specs.Requests.{System, Request, new, move, call, answer, Outcome, refused, outcome, max_calls_each, made_by, serve, run}
use Rattle.spec_model.specs.Check.{RawSystem, system_of}
use Rattle.spec_model.specs.Handed.{Returns}
use Rattle.spec_model.specs.Book.{Book, opened}
use Rattle.spec_model.specs.Callers.{Transcript, taken, seen, called_by, accepted_calls, passes_tests, refused_before, made_all}
use Rattle.spec_model.specs.Refusals.{calls_full}
use Rattle.spec_model.proofs.Rules.{never}
use Rattle.law_model.proofs.Checked.{fits-bounded}
use Rattle.law_model.proofs.Returned.{accepted-codes}
use Rattle.law_model.proofs.Loaded.{loaded-means}
use Rattle.law_rules.proofs.Callers.{run-made, accepted-append, tests-seen, limit-seen, full-met, run-bounded}
use Rattle.law_handed.proofs.Counted.{means-same}
use Rattle.table_record.specs.Store.{raw_table, table_in}
use Rattle.spec_sheet.proofs.Exact.{loaded-valid}
use Rattle.sheet_read.specs.declared.Sheet.{Sheet}
use Rattle.sheet_read.proofs.Accepted.{read-loaded, read-accepted}
use Rattle.request_run.specs.Requested.{asked}
use Rattle.theorem.specs.Shown.{Accepts, sheet_table, book_of, seen_of, is_call, RunReturns, History, begins, asks, runs, alike, Shown, ShownApart}
use Rattle.theorem.proofs.Runs.{seen_placed, placed_at, seen-before, fed-both}
use Rattle.theorem.proofs.Laws.{Means, means-first, means-alike, means-asked, asked-made, outcome-is, means-run, run-counts, means-claim, means-noted, means-called, means-answered}

module _ (bytes : List ℕ) (f : Sheet) (a : Accepts bytes f) where
  abbrev t : Table
  t = sheet_table f

  pub valid : So (valid_sheet t)
  valid = loaded-valid bytes t (read-loaded bytes f a.contract a.accepted)

  abbrev b₀ : Book
  b₀ = opened (sheet_table f)

  pub history-means : (r : RawSystem) (l : Transcript) → History f r l → Means t r (book_of f l)
  unfolding table_in
  history-means r l begins = means-first t valid (raw_table f.types f.links f.counts) refl (read-accepted bytes f a.contract a.accepted)
  history-means r _ (asks {r = r₀} {l = l₀} {q = q} {o = o} h w) =
      subst (Means t r) (sym (fed-both l₀ ((q, taken o) ∷ []) b₀)) (means-asked t valid r₀ (book_of f l₀) (history-means r₀ l₀ h) r q o w)
  history-means r _ (runs {r = r₀} {l = l₀} {qs = qs} {os = os} h w) =
      subst (Means t r) (sym (fed-both l₀ (seen_of qs os) b₀)) (means-run t valid r₀ (book_of f l₀) (history-means r₀ l₀ h) r qs os w)
  history-means r l (alike {r = r₀} h e) = means-alike t valid r₀ (book_of f l) (history-means r₀ l h) r e

  -- the records of a subject's calls, by the transcript (L28)
  history-made : (r : RawSystem) (l : Transcript) → History f r l → (n : ℕ) → made_by n (system_of r).calls ≡ accepted_calls n l
  history-made r l begins n = ap (λ (s : System). made_by n s.calls) (loaded-means (raw_table f.types f.links f.counts))
  history-made r _ (asks {r = r₀} {l = l₀} {q = q} {o = o} h w) n =
      asked-made t valid r₀ (book_of f l₀) (history-means r₀ l₀ h) r q o w n ∙ ap (λ (m : ℕ). m + cond (called_by n q && taken o) 1 0) (history-made r₀ l₀ h n)
      ∙ sym (accepted-append n l₀ ((q, taken o) ∷ []))
  history-made r _ (runs {r = r₀} {l = l₀} {qs = qs} {os = os} h w) n =
      run-counts t valid r₀ (book_of f l₀) (history-means r₀ l₀ h) r qs os w n ∙ ap (λ (m : ℕ). m + accepted_calls n (seen_of qs os)) (history-made r₀ l₀ h n) ∙ sym (accepted-append n l₀ (seen_of qs os))
  history-made r l (alike {r = r₀} h e) n = ap (λ (s : System). made_by n s.calls) (means-same r r₀ e) ∙ history-made r₀ l h n

  -- nobody has made more than 32, since the state passes the check (H17)
  history-few : (r : RawSystem) (l : Transcript) → History f r l → (n : ℕ) → accepted_calls n l ≤ max_calls_each
  history-few r l h n = let few = (fits-bounded (system_of r) (accepted-codes r (history-means r l h).passes).2).calls.few n in omega (arith, few, history-made r l h n)

  module _ (r : RawSystem) (l : Transcript) (h : History f r l) where
    outcome-of : (q : Request) (o : Outcome) (r' : RawSystem) → Returns r q o r' → o ≡ outcome (serve (system_of r) q)
    outcome-of q o r' w = outcome-is t valid r (book_of f l) (history-means r l h) r' q o w

    tests : (subject k m : ℤ) (vs : List ℤ) (o : Outcome) (r' : RawSystem) → Returns r (call subject k m vs) o r' → passes_tests (system_of r) subject k m vs ≡ not (refused_before o)
    tests subject k m vs o r' w = tests-seen (system_of r) subject k m vs ∙ sym (ap (λ x. not (refused_before x)) (outcome-of (call subject k m vs) o r' w))

    full : (subject k m : ℤ) (vs : List ℤ) (o : Outcome) (r' : RawSystem) → Returns r (call subject k m vs) o r' → refused_before o ≡ false
        → (o ≡ refused calls_full) ↔ (accepted_calls (named subject) l ≡ max_calls_each)
    full subject k m vs o r' w e =
        let i = outcome-of (call subject k m vs) o r' w in
        let x = limit-seen (system_of r) subject k m vs (tests subject k m vs o r' w ∙ ap not e) in
        let c = history-made r l h (named subject) in
        (λ z. omega (arith, x.0 (sym i ∙ z), c, history-few r l h (named subject)), λ z. i ∙ x.1 (omega (arith, z, c)))

    some-value : {x y : Outcome} → some x ≡ some y → x ≡ y
    some-value p = cc

    in-runs : (before behind : List (Option Request)) (subject k m : ℤ) (vs : List ℤ) (os : List Outcome) (r' : RawSystem)
        → RunReturns r (before ++ (some (call subject k m vs) ∷ behind)) os r' → (o : Outcome) → get_elem? os (length before) ≡ some o → refused_before o ≡ false
        → (o ≡ refused calls_full) ↔ (accepted_calls (named subject) (l ++ seen_of before os) ≡ max_calls_each)
    in-runs before behind subject k m vs os r' w o at e =
        let n = named subject in
        let q = call subject k m vs in
        let s = system_of r in
        let s' = (run s (asked before)).1 in
        let i : o ≡ outcome (serve s' q) = some-value (sym at ∙ ap (λ (z : List Outcome). get_elem? z (length before)) w.outcomes ∙ placed_at before behind q s) in
        let x = limit-seen s' subject k m vs (tests-seen s' subject k m vs ∙ ap (λ z. not (refused_before z)) (sym i) ∙ ap not e) in
        let few = (run-bounded (asked before) s (fits-bounded s (accepted-codes r (history-means r l h).passes).2)).calls.few n in
        let c : made_by n s'.calls ≡ accepted_calls n (l ++ seen_of before os) = run-made (asked before) s n ∙ ap (λ (z : ℕ). z + accepted_calls n (seen (asked before) (run s (asked before)).0)) (history-made r l h n)
        ∙ ap (λ (z : Transcript). accepted_calls n l + accepted_calls n z) (sym (ap (seen_of before) w.outcomes ∙ seen-before before behind q s ∙ seen_placed before s)) ∙ sym (accepted-append n l (seen_of before os)) in
        (λ z. omega (arith, x.0 (sym i ∙ z), c, few), λ z. i ∙ x.1 (omega (arith, z, c)))

    others : (q : Request) (o : Outcome) (r' : RawSystem) → Returns r q o r' → is_call q ≡ false → o ≡ refused calls_full → ⊥
    others q o r' w e z = go q e ((full-met (system_of r) q).0 (sym (outcome-of q o r' w) ∙ z))
      where
        go : (q : Request) → is_call q ≡ false → So (made_all (system_of r) q) → ⊥
        go (new subject class to) e z = never z
        go (move subject k receiver to) e z = never z
        go (call subject k m vs) e z = never (sym e)
        go (answer subject j v) e z = never z

pub shown : Shown
shown bytes f a r l h = let t = sheet_table f in let v = valid bytes f a in let x = history-means bytes f a r l h in (
  record {
    passes = x.passes;
    claim = means-claim t v r (book_of f l) x;
    calls = λ subject k m vs o r' w e. means-called t v r (book_of f l) x o r' e subject k m vs w;
    notes = means-noted t v r (book_of f l) x;
    answers = λ subject j y o r' w e. means-answered t v r (book_of f l) x o r' e subject j y w;
  },
  record { made = history-made bytes f a r l h; tests = tests bytes f a r l h; full = full bytes f a r l h; in_runs = in-runs bytes f a r l h; others = others bytes f a r l h },
)

pub shown-apart : ShownApart
shown-apart bytes f a n r r' l l' h h' e k m vs o z w p k' m' vs' o' z' w' p' =
    let x = full bytes f a r l h (pos n) k m vs o z w p in
    let x' = full bytes f a r' l' h' (pos n) k' m' vs' o' z' w' p' in
    (λ q. x'.1 (sym e ∙ x.0 q), λ q. x.1 (e ∙ x'.0 q))
