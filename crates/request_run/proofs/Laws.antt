-- A request by its code as a word, and what has been served so far.
use mathlib.Core.Path.{◌≡◌, refl, sym, ap, subst, ◌∙◌}
use mathlib.Core.Bool.{Bool, true, false, cond, ◌||◌}
use mathlib.Core.List.{List, [], ◌∷◌, ◌++◌, map, flatten}
use mathlib.Core.Option.{Option}
use Prim.Native.Nat.{ℕ, zero, suc, ◌+◌, ◌-◌, ◌*◌, ◌≤◌, ◌<◌}
use native.Mathlib.Omega.{arith}
use lib.IntN.{ℤ}
use lib.ListN.{length, take, drop, drop_of_length-le}
use lib.Seq.{sets, length-sets}
use Rattle.spec_model.specs.Basics.{ok, need, names}
use Rattle.spec_model.proofs.Rules.{never}
use Rattle.spec_model.specs.Table.{size}
use Rattle.spec_model.specs.Requests.{System, Request, Outcome as Outcomeᵐ, after}
use Rattle.spec_model.specs.Check.{system_of, system_accepted}
use Rattle.spec_model.specs.Handed.{counted, stored_from}
use Rattle.base_numbers.specs.Index.{index_of}
use Rattle.table_record.specs.Store.{with_count}
use Rattle.table_record.specs.Records.{bytes_of}
use Rattle.table_record.specs.Layout.{type_size}
use Rattle.state_record.specs.Whole.{Whole as State}
use Rattle.state_record.specs.View.{raw_state, system_in, with_types}
use Rattle.state_record.specs.Sound.{Sound}
use Rattle.std.specs.Prelude.{Ok, Err, is_ok}
use Rattle.std.specs.Prelude.{Result as Either}
use Rattle.base_numbers.specs.declared.refusal.Refusal.{Refusal}
use Rattle.base_numbers.specs.Refusal.{number_of}
use Rattle.request_common.specs.declared.Answer.{Answer}
use Rattle.request_common.specs.Served.{Done as Served}
use Rattle.request_common.specs.Served.{outcome_of, Stored, Step}
use Rattle.request_common.proofs.Laws.{stored-self, stored_on, system-kept}
use Rattle.request_common.specs.Back.{is_accepted}
use Rattle.spec_model.specs.Coded.{by_code}
use Rattle.spec_model.specs.Refusals.{out_of_range}
use Rattle.request_by_code.specs.Coded.{serve_asked}
use Rattle.request_by_code.proofs.Laws.{outcome-is, after_is}
use Rattle.request_serve.proofs.Stored.{counted-stored, counts-stored, bytes-stored}
use Rattle.request_words.specs.Words.{request, requests, outcome_size, words_of, outcome_words}
use Rattle.request_words.specs.Found.{asked_at, next_at}
use Rattle.request_words.proofs.Words.{request-at, words-next}
use Rattle.request_run.specs.Requested.{run_asked, run_handed}
use Rattle.request_run.specs.Ran.{Over as Ran, room, AllRefused, RanAs, Runs}
use Rattle.request_run.proofs.Whole.{serve_each, each-is-run}

-- what was taken, as the library asks it
pub taken_is : (a : Either Answer Refusal) → is_ok a ≡ is_accepted a
taken_is (Ok x) = refl
taken_is (Err e) = refl

-- no refusal has the number 0
pub some_number : (e : Refusal) → 0 < number_of e
some_number e = grind arith

-- by the code: 4 is that of no request
pub code_is : (code : ℤ) (ws : List ℤ) → by_code (index_of code 4) ws ≡ request code ws
code_is code ws = go (names code 4) refl
  where
    go : (b : Bool) → names code 4 ≡ b → by_code (index_of code 4) ws ≡ request code ws
    go true e = rw e
    go false e = rw e

neither : (a b : Bool) → (a || b) ≡ false → (a ≡ false) × (b ≡ false)
neither true b h = never (sym h)
neither false b h = (refl, h)

-- every counted byte of the types, the equation of `RanAs`
abbrev Bytes : State → System → List ℕ → Type 0
Bytes s m b = take (size m.table * type_size) b ≡ take (s.counts.types * type_size) s.types ++ flatten (map bytes_of (drop s.counts.types m.table.types))

-- ---- The run so far: `i` requests are served, the words from `at` on are still to come.
abbrev rest : State → List ℤ → ℕ → ℕ → List Outcomeᵐ × System
rest s ws f at = serve_each (system_in s) (requests f (drop at ws))

pub record Going (s₀ : State) (ws old : List ℤ) (s : State) (cur : List ℤ) (i at : ℕ) (any : Bool) : Type 0 where
  pub system : (rest s ws (room old - i) at).1 ≡ (rest s₀ ws (room old) 0).1
  pub count : i + length (rest s ws (room old - i) at).0 ≡ length (rest s₀ ws (room old) 0).0
  pub words : sets cur (i * outcome_size) (outcome_words (rest s ws (room old - i) at).0) ≡ sets old 0 (outcome_words (rest s₀ ws (room old) 0).0)
  pub untouched : AllRefused (rest s₀ ws (room old) 0).0 → (any ≡ false) × AllRefused (rest s ws (room old - i) at).0
  pub quiet : any ≡ false → s ≡ with_types s₀ s.types
  pub stored : Stored s₀ s
  pub sound : Sound s
  pub long : length cur ≡ length old
  pub few : i ≤ room old
  pub within : at ≤ length ws

module _ (s₀ : State) (ws old : List ℤ) where
  abbrev whole : List Outcomeᵐ × System
  whole = run_asked (system_in s₀) (requests (room old) ws)

  pub going-starts : Sound s₀ → Going s₀ ws old s₀ old 0 0 false
  going-starts h =
      let e : room old - 0 ≡ room old = omega arith in
      let z : (n : ℕ) → 0 + n ≡ n = λ n. omega arith in
      record {
        system = rw e;
        count = z (length (rest s₀ ws (room old - 0) 0).0) ∙ rw e;
        words = rw e;
        untouched = λ a. (refl, subst (λ (f : ℕ). AllRefused (rest s₀ ws f 0).0) (sym e) a);
        quiet = λ z. refl;
        stored = stored-self s₀ h;
        sound = h;
        long = refl;
        few = omega arith;
        within = omega arith;
      }

  module _ (s : State) (cur : List ℤ) (i at : ℕ) (any : Bool) (g : Going s₀ ws old s cur i at any) where
    -- The types once they are given back where no request was taken.
    module _ (h₀ : Sound s₀) (t : List ℕ) (back : t ≡ cond any s.types s₀.types) where
      back-same : any ≡ false → with_types s t ≡ s₀
      back-same z = ap (with_types s) (back ∙ ap (λ (b : Bool). cond b s.types s₀.types) z) ∙ ap (λ (x : State). with_types x s₀.types) (g.quiet z)

      back_any : any ≡ true → with_types s t ≡ s
      back_any z = ap (with_types s) (back ∙ ap (λ (b : Bool). cond b s.types s₀.types) z)

      back-means : system_in (with_types s t) ≡ system_in s
      back-means = go any refl
        where
          go : (b : Bool) → any ≡ b → system_in (with_types s t) ≡ system_in s
          go true z = ap system_in (back_any z)
          go false z = ap system_in (back-same z)
              ∙ sym (ap system_in (g.quiet z) ∙ system-kept s₀ s.types (omega (arith, g.stored.grew.more, g.stored.grew.room)) g.stored.kept)

      back-left : Stored s₀ (with_types s t)
      back-left = go any refl
        where
          go : (b : Bool) → any ≡ b → Stored s₀ (with_types s t)
          go true z = subst (Stored s₀) (sym (back_any z)) g.stored
          go false z = subst (Stored s₀) (sym (back-same z)) (stored-self s₀ h₀)

    -- nothing comes any more: no room, or no words
    ended : rest s ws (room old - i) at ≡ ([], system_in s) → Sound s₀ → (t : List ℕ) → t ≡ cond any s.types s₀.types
        → (out : List ℤ) → out ≡ cur → (r : Ran) → r ≡ record { refusal = 0; served = i; state = with_types s t }
        → RanAs s₀ old out whole.0 whole.1 r
    unfolding outcome_words
    ended e h₀ t back out k r y =
        let z : i + 0 ≡ i = omega arith in
        let st : State = with_types s t in
        let is : system_in st ≡ (rest s₀ ws (room old) 0).1 = back-means h₀ t back ∙ ap (λ (p : List Outcomeᵐ × System). p.1) (sym e) ∙ g.system in
        let w : Stored s₀ st = back-left h₀ t back in
        subst (RanAs s₀ old out whole.0 whole.1) (sym y)
        (subst (λ (m : List Outcomeᵐ × System). RanAs s₀ old out m.0 m.1 (record { refusal = 0; served = i; state = with_types s t }))
        (each-is-run (system_in s₀) (requests (room old) ws)) (record {
          refusal = refl;
          served = sym z ∙ ap (λ (p : List Outcomeᵐ × System). i + length p.0) (sym e) ∙ g.count;
          answers = k ∙ ap (λ (p : List Outcomeᵐ × System). sets cur (i * outcome_size) (outcome_words p.0)) (sym e) ∙ g.words;
          records = counted-stored s₀ st w ∙ ap (λ (m : System). counted (stored_from (raw_state s₀) m)) is;
          untouched = λ a. back-same h₀ t back (g.untouched a).0;
          links = w.links;
          counts = counts-stored s₀ st w ∙ ap (λ (m : System). with_count s₀.counts (size m.table)) is;
          types = subst (λ (m : System). Bytes s₀ m st.types) is (bytes-stored s₀ st w);
        }))

    pub going-full : room old ≤ i → Sound s₀ → (t : List ℕ) → t ≡ cond any s.types s₀.types
        → (out : List ℤ) → out ≡ cur → (r : Ran) → r ≡ record { refusal = 0; served = i; state = with_types s t }
        → RanAs s₀ old out whole.0 whole.1 r
    unfolding serve_each requests
    going-full l = let e : room old - i ≡ 0 = omega arith in ended (ap (λ (f : ℕ). rest s ws f at) e)

    no_words : (f : ℕ) → serve_each (system_in s) (requests f []) ≡ ([], system_in s)
    unfolding serve_each requests
    no_words zero = refl
    no_words (suc f) = refl

    pub going_done : length ws ≤ at → Sound s₀ → (t : List ℕ) → t ≡ cond any s.types s₀.types
        → (out : List ℤ) → out ≡ cur → (r : Ran) → r ≡ record { refusal = 0; served = i; state = with_types s t }
        → RanAs s₀ old out whole.0 whole.1 r
    going_done l = ended (ap (λ (xs : List ℤ). serve_each (system_in s) (requests (room old - i) xs)) (drop_of_length-le ws {i = at} l) ∙ no_words (room old - i))

    module _ (more : i < room old) (here : at < length ws) (r : Served) (step : Step s (serve_asked (system_in s) (asked_at ws at)) r) where
      abbrev on : List Outcomeᵐ × System
      on = rest r.state ws (room old - (i + 1)) (next_at ws at)

      one : rest s ws (room old - i) at ≡ (outcome_of r.outcome ∷ on.0, on.1)
      unfolding serve_each
      one =
          let e : room old - i ≡ suc (room old - (i + 1)) = omega arith in
          let qs : List (Option Request) = requests (room old - (i + 1)) (drop (next_at ws at) ws) in
          ap (λ (f : ℕ). rest s ws f at) e ∙ ap (serve_each (system_in s)) (request-at ws at here (room old - (i + 1)))
          ∙ ap
          (λ (o : Outcomeᵐ). (o ∷ (serve_each (after (system_in s) (serve_asked (system_in s) (asked_at ws at))) qs).0, (serve_each (after (system_in s) (serve_asked (system_in s) (asked_at ws at))) qs).1))
          (outcome-is s _ r step)
          ∙ ap (λ (t : System). (outcome_of r.outcome ∷ (serve_each t qs).0, (serve_each t qs).1)) (after_is s _ r step)

      pub going_on : (out : List ℤ) → out ≡ sets cur (i * outcome_size) (words_of (outcome_of r.outcome)) → (at' : ℕ) → at' ≡ next_at ws at → at' ≤ length ws
          → (any' : Bool) → any' ≡ (any || is_accepted r.outcome) → Going s₀ ws old r.state out (i + 1) at' any'
      unfolding outcome_words
      going_on out k at' d w any' ea = subst (λ (n : ℕ). n ≤ length ws → Going s₀ ws old r.state out (i + 1) n any') (sym d) (λ (w' : next_at ws at ≤ length ws). record {
        system = ap (λ (p : List Outcomeᵐ × System). p.1) (sym one) ∙ g.system;
        count = let z : i + 1 + length on.0 ≡ i + suc (length on.0) = omega arith in z ∙ ap (λ (p : List Outcomeᵐ × System). i + length p.0) (sym one) ∙ g.count;
        words = written (outcome_of r.outcome) k ∙ ap (λ (p : List Outcomeᵐ × System). sets cur (i * outcome_size) (outcome_words p.0)) (sym one) ∙ g.words;
        untouched = λ a. let b = g.untouched a in
            let c = still r.outcome refl (subst (λ (p : List Outcomeᵐ × System). AllRefused p.0) one b.1) in
            (ea ∙ ap (λ (x : Bool). x || is_accepted r.outcome) b.0 ∙ c.0, c.1);
        quiet = λ z. let n = neither any (is_accepted r.outcome) (sym ea ∙ z) in still-there r.outcome refl n.1 ∙ ap (λ (x : State). with_types x r.state.types) (g.quiet n.0);
        stored = stored_on s₀ s r.state g.stored step.stored;
        sound = step.sound;
        long = ap length k ∙ length-sets cur (i * outcome_size) (words_of (outcome_of r.outcome)) ∙ g.long;
        few = omega arith;
        within = w';
      }) w
        where
          still : (a : Either Answer Refusal) → r.outcome ≡ a → AllRefused (outcome_of a ∷ on.0) → (is_accepted r.outcome ≡ false) × AllRefused on.0
          still (Err e) z h = (ap is_accepted z, h)
          still (Ok x) z h = absurd h

          still-there : (a : Either Answer Refusal) → r.outcome ≡ a → is_accepted r.outcome ≡ false → r.state ≡ with_types s r.state.types
          still-there (Err e) z h = step.stays e z
          still-there (Ok x) z h = never (sym h ∙ ap is_accepted z)

          written : (o : Outcomeᵐ) → out ≡ sets cur (i * outcome_size) (words_of o) → sets out ((i + 1) * outcome_size) (outcome_words on.0) ≡ sets cur (i * outcome_size) (outcome_words (o ∷ on.0))
          written o z =
              let e : (i + 1) * outcome_size ≡ i * outcome_size + outcome_size = omega arith in
              ap (λ (l : List ℤ). sets l ((i + 1) * outcome_size) (outcome_words on.0)) z ∙ ap (λ (n : ℕ). sets (sets cur (i * outcome_size) (words_of o)) n (outcome_words on.0)) e
              ∙ words-next o cur (i * outcome_size) (outcome_words on.0)

-- ---- A state handed in.
module _ (s : State) (ws old new : List ℤ) (r : Ran) where
  pub handed-unfit : system_accepted (raw_state s) ≡ false → r ≡ record { refusal = out_of_range; served = 0; state = s } → new ≡ old → Runs s old new (run_handed (raw_state s) (room old) ws) r
  unfolding run_handed
  handed-unfit h e k = subst (λ (q : Bool). Runs s old new (need q out_of_range λ _. ok (run_asked (system_of (raw_state s)) (requests (room old) ws))) r) (sym h) (e, k)

  pub handed-fit : system_accepted (raw_state s) ≡ true → Runs s old new (ok (run_asked (system_in s) (requests (room old) ws))) r → Runs s old new (run_handed (raw_state s) (room old) ws) r
  unfolding run_handed system_in
  handed-fit h e = subst (λ (q : Bool). Runs s old new (need q out_of_range λ _. ok (run_asked (system_of (raw_state s)) (requests (room old) ws))) r) (sym h) e
