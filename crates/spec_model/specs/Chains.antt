-- Rules L15 to L18: the chains that a type permits, and those that a cell offers.
use Rattle.std.specs.Prelude.{Bool, ◌&&◌, ◌||◌, List, [], ◌∷◌, ℕ}
use Rattle.std.proofs.Math.Bool.{So}
use Rattle.spec_model.specs.Basics.{over}
use Rattle.spec_model.specs.Table.{Table, type_at, method_at, is_ref, permit, is_nil}
use Rattle.spec_model.specs.Crossing.{place_type, place_at}
use Rattle.spec_model.specs.Requests.{System, cell_at}

-- A chain is a list of methods, each called on the answer of the one before. Only a reference has chains; each step needs the method, and all but the last an answer that goes on (L15 to L17).
unfoldable pub permits : Table → ℕ → List ℕ → Bool
permits t n [] = is_ref (type_at t n).rep
permits t n (m ∷ w) = is_ref (type_at t n).rep && (permit (method_at t n m).state && (is_nil w || over (method_at t n m).answer (λ a. permits t a w)))

abbrev pub Permits : Table → ℕ → List ℕ → Type 0
Permits t n w = So (permits t n w)

abbrev pub AllPermit : Table → List ℕ → List ℕ → Type 0
AllPermit t [] w = Unit
AllPermit t (x ∷ xs) w = Permits t x w × AllPermit t xs w

-- a cell offers what both its view and the place that it leads to let through (L18)
unfoldable pub offered : System → ℕ → List ℕ → Bool
unfolding permits
offered s k w = permits s.table (cell_at s k).type w && permits s.table (place_type (place_at s.places (cell_at s k).place)) w
