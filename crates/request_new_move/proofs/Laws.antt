-- New and move by their tests, and the way that both go then.
use mathlib.Core.Path.{◌≡◌, sym, ap, ◌∙◌, subst}
use mathlib.Core.Bool.{Bool, true, false}
use mathlib.Core.List.{List, [], ◌∷◌, ◌++◌}
use Prim.Native.Nat.{ℕ, ◌+◌, ◌≤◌, ◌<◌}
use native.Mathlib.Omega.{arith}
use lib.Dec.{ltb}
use lib.IntN.{ℤ}
use lib.ListN.{length, get_or}
use borrow.Author.Tests.{lt-ltb, le-ltb}
use Rattle.spec_model.specs.Basics.{Res, refuse, try, names, named}
use Rattle.spec_model.specs.Table.{Table}
use Rattle.spec_model.specs.Crossing.{Reference, object, cross, max_places}
use Rattle.spec_model.specs.Crossing.{Place as Placeᵐ}
use Rattle.spec_model.specs.Requests.{System, Result, add_cell, held, is_sheet_ref, no_cell, new_request, move_request}
use Rattle.spec_model.specs.Requests.{Cell as Cellᵐ}
use Rattle.spec_model.specs.Refusals.{unknown_subject, not_held, unknown_type, places_full}
use Rattle.table_record.specs.Store.{table_in}
use Rattle.state_record.specs.declared.Cell.{Cell}
use Rattle.state_record.specs.Counted.{Places}
use Rattle.state_record.specs.declared.Place.TheVariants.{Object}
use Rattle.state_record.specs.Whole.{Whole as State}
use Rattle.state_record.specs.View.{cell_of, cells_in, places_in, place_added, system_in}
use Rattle.state_record.specs.Sound.{Descending, Sound}
use Rattle.state_record.proofs.Laws.{places-length, system-is, means-counted}
use Rattle.state_record.proofs.Kept.{descending-more, typed-more}
use Rattle.crossing_meet.specs.declared.Crossed.{Crossed}
use Rattle.crossing_meet.specs.Crossed.{reference, crossed_of, Came, Leaves}
use Rattle.std.specs.Prelude.{Ok, Err}
use Rattle.std.specs.Prelude.{Result as Either}
use Rattle.std.proofs.lemmas.Result.{IfOk-at_ok}
use Rattle.base_numbers.specs.declared.refusal.Refusal.{Refusal}
use Rattle.base_numbers.specs.Refusal.{number_of}
use Rattle.crossing_one.specs.declared.Crossing.{Crossing}
use Rattle.crossing_one.specs.Crosses.{crossing}
use Rattle.request_common.specs.Served.{is_sheet_class, arrived, Arrives}
use Rattle.request_new_move.specs.Sent.{sent_to, Sends, Made}

-- ---- The way that both go: r came of the crossing.
module _ (s : State) (ps : Places) (x : Crossing) (h : Sends s ps x) (types : List ℕ) (r : Either Crossed Refusal)
    (is : crossed_of types s.links s.counts r ≡ crossing (table_in s.types s.links s.counts) ps x) (left : Leaves s.counts ps x.from s.types types r) where
  abbrev Adds : Res Reference → Res (System × Result)
  Adds z = try z (λ f. add_cell (system_in s) x.receiver f)

  pub sent-refused : (e : Refusal) → r ≡ Err e → sent_to s ps x ≡ refuse (number_of e)
  sent-refused e z = ap Adds (sym is ∙ ap (crossed_of types s.links s.counts) z)

  module _ (y : Crossed) (e : r ≡ Ok y) where
    pub sent-lands : sent_to s ps x ≡ add_cell (system_in s) x.receiver (arrived s types y.types y.places y.ty y.place)
    sent-lands = ap Adds (sym is ∙ ap (crossed_of types s.links s.counts) e)

    pub sent-arrives : Arrives s types y.types y.places y.ty y.place
    sent-arrives = let m = IfOk-at_ok (λ (z : Crossed). Came s.counts ps x.from types z) e left.came in record {
      sound = h.sound;
      long = left.long;
      grew = m.types;
      kept = left.kept;
      descending = m.descending;
      typed = m.typed h.typed;
      more = let u = h.more in let w = m.before.more in omega arith;
      ty = m.ty h.from;
      place = m.place;
    }

-- ---- An object as the next place.
pub made : (ps : Places) (class owner a b : ℕ) (qs : Places) → Descending ps → ps.count < max_places → a ≡ class → b ≡ owner →
    qs ≡ place_added ps (record { place = Object a b })
    → places_in qs ≡ places_in ps ++ (object a b ∷ []) → Made ps class owner qs
made ps class owner a b qs desc room p q e are =
    let are' : places_in qs ≡ places_in ps ++ (object class owner ∷ []) = are ∙ ap (λ (n : ℕ). places_in ps ++ (object n b ∷ [])) p
    ∙ ap (λ (n : ℕ). places_in ps ++ (object class n ∷ [])) q in
    let one : qs.count ≡ ps.count + 1 = ap (λ (z : Places). z.count) e in record {
      are = are';
      count = one;
      descending = descending-more ps qs (object class owner) one are' desc room (λ (z : ◌≡◌ {A = Bool} true false). absurd (let w : ◌≡◌ {A = ℕ} 0 1 = cc in omega arith));
      typed = λ c t l. typed-more ps qs (object class owner) one are' c t l;
    }

abbrev table_of : State → Table
table_of s = table_in s.types s.links s.counts

-- ---- New.
module _ (s : State) (subject class to : ℤ) where
  abbrev N : Res (System × Result)
  N = new_request (system_in s) subject class to

  pub new-unknown-subject : names subject (system_in s).table.subjects ≡ false → N ≡ refuse unknown_subject
  unfolding new_request
  new-unknown-subject e = rw e

  module _ (known : names subject (system_in s).table.subjects ≡ true) where
    pub new-class : is_sheet_class (system_in s).table class ≡ false → N ≡ refuse unknown_type
    unfolding new_request
    new-class e = rw (known, e)

    module _ (ty : is_sheet_class (system_in s).table class ≡ true) where
      pub new-type : is_sheet_ref (system_in s).table to ≡ false → N ≡ refuse unknown_type
      unfolding new_request
      new-type e = rw (known, ty, e)

      module _ (target : is_sheet_ref (system_in s).table to ≡ true) where
        room : (b : Bool) → ltb s.places.count max_places ≡ b → ltb (length (system_in s).places) max_places ≡ b
        room b e = ap (λ (n : ℕ). ltb n max_places) (means-counted s).places ∙ e

        pub new-places-full : max_places ≤ s.places.count → N ≡ refuse places_full
        unfolding new_request
        new-places-full l = rw (known, ty, target, room false (le-ltb s.places.count max_places l))

        -- the object of class k, owned by o, and the reference to it
        abbrev Goes : Table → List Placeᵐ → ℕ → ℕ → ℕ → ℕ → Res (System × Result)
        Goes t ps k p j o = try (cross (reference t ps k p) j o) λ f. add_cell (system_in s) o f

        goes : s.places.count < max_places →
            N ≡ Goes (system_in s).table ((system_in s).places ++ (object (named class) (named subject) ∷ [])) (named class) (length (system_in s).places) (named to) (named subject)
        unfolding new_request
        goes l = rw (known, ty, target, room true (lt-ltb s.places.count max_places l))

        pub new-goes : s.places.count < max_places → (o k j : ℕ) → o ≡ named subject → k ≡ named class → j ≡ named to →
            (qs : Places) → Made s.places k o qs → N ≡ sent_to s qs (record { from = k; place = s.places.count; to = j; receiver = o })
        new-goes l o k j eo ek ej qs m =
            let ps = places_in s.places in
            goes l
            ∙ ap (λ (x : System). Goes x.table (x.places ++ (object (named class) (named subject) ∷ [])) (named class) (length x.places) (named to) (named subject)) (system-is s)
            ∙ ap (λ (n : ℕ). Goes (table_of s) (ps ++ (object (named class) n ∷ [])) (named class) (length ps) (named to) n) (sym eo)
            ∙ ap (λ (n : ℕ). Goes (table_of s) (ps ++ (object n o ∷ [])) n (length ps) (named to) o) (sym ek)
            ∙ ap (λ (n : ℕ). Goes (table_of s) (ps ++ (object k o ∷ [])) k (length ps) n o) (sym ej)
            ∙ ap (λ (n : ℕ). Goes (table_of s) (ps ++ (object k o ∷ [])) k n j o) (places-length s.places)
            ∙ ap (λ (x : List Placeᵐ). Goes (table_of s) x k s.places.count j o) (sym m.are)

        pub new-sends : Sound s → s.places.count < max_places → (o k j : ℕ) → o < s.counts.subjects → k < s.counts.sheet →
            (qs : Places) → Made s.places k o qs → Sends s qs (record { from = k; place = s.places.count; to = j; receiver = o })
        new-sends h l o k j lo lk qs m = let u = h.checked.limits.counted in record {
          sound = h;
          descending = m.descending;
          typed = m.typed s.counts h.typed (omega arith);
          more = let w = m.count in omega arith;
          place = let w = m.count in omega arith;
          from = omega arith;
          receiver = let w = h.checked.limits.subjects in omega arith;
        }

-- ---- Move.
module _ (s : State) (subject k receiver to : ℤ) where
  abbrev M : Res (System × Result)
  M = move_request (system_in s) subject k receiver to

  pub move-unknown-subject : names subject (system_in s).table.subjects ≡ false → M ≡ refuse unknown_subject
  unfolding move_request
  move-unknown-subject e = rw e

  module _ (known : names subject (system_in s).table.subjects ≡ true) where
    pub move-receiver : names receiver (system_in s).table.subjects ≡ false → M ≡ refuse unknown_subject
    unfolding move_request
    move-receiver e = rw (known, e)

    module _ (met : names receiver (system_in s).table.subjects ≡ true) where
      pub move-not-held : held (system_in s) subject k ≡ false → M ≡ refuse not_held
      unfolding move_request
      move-not-held e = rw (known, met, e)

      module _ (holds : held (system_in s) subject k ≡ true) where
        pub move-unknown-type : is_sheet_ref (system_in s).table to ≡ false → M ≡ refuse unknown_type
        unfolding move_request
        move-unknown-type e = rw (known, met, holds, e)

        module _ (target : is_sheet_ref (system_in s).table to ≡ true) where
          abbrev Leads : Table → List Placeᵐ → Cellᵐ → ℕ → ℕ → Res (System × Result)
          Leads t ps c j r = try (cross (reference t ps c.type c.place) j r) λ f. add_cell (system_in s) r f

          leads : M ≡ Leads (system_in s).table (system_in s).places (get_or (system_in s).cells (named k) no_cell) (named to) (named receiver)
          unfolding move_request
          leads = rw (known, met, holds, target)

          -- cell i of the code is c, of static type t and place p
          module _ (i : ℕ) (ei : i ≡ named k) (c : Cell) (at : cell_of c ≡ get_or (cells_in s.cells) i no_cell) (t p j r : ℕ) (et : t ≡ c.ty) (ep : p ≡ c.place) where
            pub move-goes : j ≡ named to → r ≡ named receiver → M ≡ sent_to s s.places (record { from = t; place = p; to = j; receiver = r })
            move-goes ej er =
                leads
                ∙ ap (λ (x : System). Leads x.table x.places (get_or x.cells (named k) no_cell) (named to) (named receiver)) (system-is s)
                ∙ ap (λ (n : ℕ). Leads (table_of s) (places_in s.places) (get_or (cells_in s.cells) n no_cell) (named to) (named receiver)) (sym ei)
                ∙ ap (λ (x : Cellᵐ). Leads (table_of s) (places_in s.places) x (named to) (named receiver)) (sym at)
                ∙ ap (λ (n : ℕ). Leads (table_of s) (places_in s.places) (cell_of c) n (named receiver)) (sym ej)
                ∙ ap (λ (n : ℕ). Leads (table_of s) (places_in s.places) (cell_of c) j n) (sym er)
                ∙ ap (λ (n : ℕ). sent_to s s.places (record { from = n; place = c.place; to = j; receiver = r })) (sym et)
                ∙ ap (λ (n : ℕ). sent_to s s.places (record { from = t; place = n; to = j; receiver = r })) (sym ep)

            pub move-sends : Sound s → i < s.cells.count → r < s.counts.subjects → Sends s s.places (record { from = t; place = p; to = j; receiver = r })
            move-sends h l lr = record {
              sound = h;
              descending = h.descending;
              typed = h.typed;
              more = omega arith;
              place = let w : c.place < s.places.count = subst (λ (x : Cellᵐ). x.place < s.places.count) (sym at) (h.cells i l).place in omega arith;
              from = let w : c.ty < s.counts.types = subst (λ (x : Cellᵐ). x.type < s.counts.types) (sym at) (h.cells i l).type in omega arith;
              receiver = let w = h.checked.limits.subjects in omega arith;
            }
