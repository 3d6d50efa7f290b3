-- The numbers of an answer are small (crate law_handed): a cell, place or call is one of a sound state. So each is a word as it is.
use mathlib.Core.Path.{◌≡◌, sym, ap, subst, ◌∙◌}
use mathlib.Core.Logic.{inl, inr}
use mathlib.Core.List.{List}
use mathlib.Core.Option.{Option, none, some}
use Prim.Native.Nat.{◌<◌}
use native.Mathlib.Omega.{arith}
use lib.ListN.{length, get_or}
use Rattle.spec_model.specs.Requests.{Cell, System, Request, Result, no_cell}
use Rattle.law_handed.proofs.Small.{Small, Named, small-serve}
use Rattle.state_record.specs.Whole.{Whole as State}
use Rattle.state_record.specs.View.{cells_in, system_in}
use Rattle.state_record.specs.Sound.{Sound}
use Rattle.state_record.proofs.Laws.{means-counted}
use Rattle.state_record.proofs.Kept.{sound-few}
use Rattle.std.specs.Prelude.{Ok, Err}
use Rattle.std.specs.Prelude.{Result as Either}
use Rattle.base_numbers.specs.declared.refusal.Refusal.{Refusal}
use Rattle.base_numbers.proofs.Laws.{number-small}
use Rattle.request_common.specs.declared.Answer.{Answer}
use Rattle.request_common.specs.declared.Answer.TheVariants.{Pair, Number, Nothing}
use Rattle.request_common.specs.Served.{Done as Served}
use Rattle.request_common.specs.Served.{outcome_of, served_with, Step}
use Rattle.request_common.proofs.Laws.{cells_are}
use Rattle.request_by_code.specs.Coded.{serve_asked}
use Rattle.request_words.specs.Found.{SmallOutcome}

small-asked : (s : System) (q : Option Request) → Small (λ (x : System × Result). Named s x.0 x.1) (serve_asked s q)
unfolding serve_asked
small-asked s none = (omega arith, omega arith)
small-asked s (some q) = small-serve s q

pub step_small : (s : State) (q : Option Request) (r : Served) → Sound s → Step s (serve_asked (system_in s) q) r → SmallOutcome r.outcome
step_small s q r h w = go r.outcome (subst (Small (λ (x : System × Result). Named (system_in s) x.0 x.1)) (sym w.is) (small-asked (system_in s) q))
  where
    go : (a : Either Answer Refusal) → Small {A = System × Result} (λ x. Named (system_in s) x.0 x.1) (served_with (system_in r.state) (outcome_of a)) → SmallOutcome a
    go (Err e) k = number-small e
    go (Ok (Pair a b)) (inl k) =
        let t : State = r.state in
        let n : length (system_in t).cells ≡ t.cells.count = (means-counted t).cells in
        let l : a < t.cells.count = omega (arith, n, k.0) in
        let p : (get_or (cells_in t.cells) a no_cell).place < t.places.count = (w.sound.cells a l).place in
        let e : (get_or (cells_in t.cells) a no_cell).place ≡ b = ap (λ (cs : List Cell). (get_or cs a no_cell).place) (sym (cells_are t)) ∙ k.1 in
        (omega (arith, l, w.sound.cell_count), omega (arith, p, e, w.sound.descending.count))
    go (Ok (Pair a b)) (inr k) =
        let n : length (system_in s).places ≡ s.places.count = (means-counted s).places in
        let m : length (system_in s).calls ≡ s.calls.count = (means-counted s).calls in
        (omega (arith, m, k.0, sound-few s h), omega (arith, n, k.1, h.descending.count))
    go (Ok (Number v)) k = tt
    go (Ok Nothing) k = tt
