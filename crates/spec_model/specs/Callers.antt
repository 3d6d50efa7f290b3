-- Rules L28 to L31: how many calls a subject has made, by the requests and whether each was accepted, and what follows for 18. Statements over lists of requests, as Demand3 is
-- (Claim); the theorem has them of histories (L24), and of what runs.
use Rattle.std.specs.Prelude.{◌≡◌, ◌↔◌, Bool, true, false, not, ◌&&◌, ◌||◌, cond, List, [], ◌∷◌, ℕ, suc, eqb, leb, ℤ, pos}
use Rattle.std.proofs.Math.Bool.{So}
use Rattle.spec_model.specs.Basics.{names, named}
use Rattle.spec_model.specs.Table.{Table, method_at, is_avail, valid_sheet}
use Rattle.spec_model.specs.Requests.{System, loaded, Request, new, move, call, answer, Outcome, got, refused, outcome, cell_at, held, arguments_held, max_calls_each, made_by, serve, run}
use Rattle.spec_model.specs.Refusals.{unknown_subject, not_held, not_callable, wrong_values, calls_full}

-- ---- A transcript: requests in order, and for each whether it was accepted. No more than this is seen from outside (L1, L25).
abbrev pub Transcript : Type 0
Transcript = List (Request × Bool)

abbrev pub taken : Outcome → Bool
taken (refused n) = false
taken (got x) = true

abbrev pub seen : List Request → List Outcome → Transcript
seen [] os = []
seen (q ∷ qs) [] = []
seen (q ∷ qs) (o ∷ os) = (q, taken o) ∷ seen qs os

-- a call of subject n, by its number; asked only of accepted calls, whose subject is a known one (C1)
abbrev pub called_by : ℕ → Request → Bool
called_by n (new subject class to) = false
called_by n (move subject cell receiver to) = false
called_by n (call subject cell m vs) = eqb n (named subject)
called_by n (answer subject j v) = false

-- the accepted calls of subject n
abbrev pub accepted_calls : ℕ → Transcript → ℕ
accepted_calls n [] = 0
accepted_calls n (x ∷ l) = cond (called_by n x.0 && x.1) (suc (accepted_calls n l)) (accepted_calls n l)

-- ---- The tests of a call that come before 18 (C1 to C5), and the numbers that they refuse with
abbrev pub passes_tests : System → ℤ → ℤ → ℤ → List ℤ → Bool
passes_tests s subject k m vs = let x = method_at s.table (cell_at s (named k)).type (named m) in
    names subject s.table.subjects && (held s subject k && ((names m s.table.methods && is_avail x.state) && arguments_held s subject x.args vs))

abbrev pub refused_before : Outcome → Bool
refused_before (refused e) = eqb e unknown_subject || (eqb e not_held || (eqb e not_callable || eqb e wrong_values))
refused_before (got x) = false

-- the state that a list leaves, and its transcript
abbrev pub ran_to : Table → List Request → System
ran_to t qs = (run (loaded t) qs).1

abbrev pub saw_of : Table → List Request → Transcript
saw_of t qs = seen qs (run (loaded t) qs).0

-- ---- From a loaded sheet, any list of requests
-- the records of a subject's calls are as many as its accepted calls (L28)
abbrev pub CallsCounted : Type 0
CallsCounted = (t : Table) → So (valid_sheet t) → (qs : List Request) (n : ℕ) → made_by n (ran_to t qs).calls ≡ accepted_calls n (saw_of t qs)

-- A call that passes the tests before 18 meets 18 exactly if its subject's accepted calls are 32 (L29).
abbrev pub CallsLimited : Type 0
CallsLimited = (t : Table) → So (valid_sheet t) → (qs : List Request) (subject k m : ℤ) (vs : List ℤ) → So (passes_tests (ran_to t qs) subject k m vs)
    → (outcome (serve (ran_to t qs) (call subject k m vs)) ≡ refused calls_full) ↔ (accepted_calls (named subject) (saw_of t qs) ≡ max_calls_each)

-- Two lists from one sheet, in which subject n has equally many accepted calls, whatever the others asked: its calls behind them that pass the tests before 18 meet 18 both or
-- neither (L30). The two calls may differ.
abbrev pub CallsApart : Type 0
CallsApart = (t : Table) → So (valid_sheet t) → (ps qs : List Request) (n : ℕ) → accepted_calls n (saw_of t ps) ≡ accepted_calls n (saw_of t qs)
    → (k m : ℤ) (vs : List ℤ) → So (passes_tests (ran_to t ps) (pos n) k m vs) → (k' m' : ℤ) (vs' : List ℤ) → So (passes_tests (ran_to t qs) (pos n) k' m' vs')
    → (outcome (serve (ran_to t ps) (call (pos n) k m vs)) ≡ refused calls_full) ↔ (outcome (serve (ran_to t qs) (call (pos n) k' m' vs')) ≡ refused calls_full)

-- ---- In any state (L31)
-- whether a call passed the tests before 18 is seen by its outcome: no later test has one of their numbers
abbrev pub TestsSeen : Type 0
TestsSeen = (s : System) (subject k m : ℤ) (vs : List ℤ) → passes_tests s subject k m vs ≡ not (refused_before (outcome (serve s (call subject k m vs))))

-- 18 is for a call that passes them, of a subject whose calls are all made: no other test, no crossing and no other request gives it
abbrev pub made_all : System → Request → Bool
made_all s (new subject class to) = false
made_all s (move subject k receiver to) = false
made_all s (call subject k m vs) = passes_tests s subject k m vs && leb max_calls_each (made_by (named subject) s.calls)
made_all s (answer subject j v) = false

abbrev pub FullMet : Type 0
FullMet = (s : System) (q : Request) → (outcome (serve s q) ≡ refused calls_full) ↔ So (made_all s q)
