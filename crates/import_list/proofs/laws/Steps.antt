-- One step of the list: what is still to be written stays what it was, but for the command that is written.
use Rattle.std.specs.Prelude.{◌≡◌, refl, Bool, true, false, not, List, [], ◌∷◌, ◌++◌, ℕ, ◌+◌, ◌-◌, ◌*◌, ◌≤◌, ◌<◌, length, drop}
use Rattle.std.proofs.Common.{sym, ap, ◌∙◌, subst, append_assoc, arith, length-drop}
use Rattle.whole.specs.Cases.{if}
use Rattle.theory.specs.Command.{Command}
use Rattle.import_grammar.specs.Grammar.{lt, le, gt, ge, Atom, now, later, compare, group, deepest}
use Rattle.import_model.specs.Commands.{compare_commands, atom_commands, result_command}
use Rattle.import_found.specs.Places.{Place, atom_at, result_at, lost, find, xor, Decided, Emits, by_result, by_atom, TooDeep}
use Rattle.import_found.proofs.laws.Depth.{never_deep}
use Rattle.import_places.specs.Walking.{signs, two_to}
use Rattle.import_list.specs.declared.Entry.{Entry}
use Rattle.import_list.specs.Pending.{first_holds, own, AtomReading, ResultReading, outcome, first_value, second_value, StandsFor, half, done, Lies, Rises, Pending, none_left, also_left, size, Beyond, Visits, ResultFirst}
use Rattle.import_list.proofs.laws.Shorter.{outcome_size}

-- ---- an atom's commands: of its first outcome, of its second, its own

pub atom_apart : {n : ℕ} (x : Atom n) → Decided x → (T F : List Command) → atom_commands x T F ≡ if (first_holds x) T F ++ (if (first_holds x) F T ++ (own x ∷ []))
unfolding atom_commands first_holds own compare_commands
atom_apart (now p i) d T F = refl
atom_apart (later p i) d T F = refl
atom_apart (compare s p lt t) d T F = refl
atom_apart (compare s p le t) d T F = refl
atom_apart (compare s p gt t) d T F = refl
atom_apart (compare s p ge t) d T F = refl
atom_apart (group p o q) d T F = absurd d

-- ---- what a place tells

pub record AtomTold (b : Bool) (ps : List Bool) (u : List ℕ) (C : List Command) : Type 0 where
  pub reading : AtomReading u
  pub deep : length ps ≤ deepest
  pub yes_commands : List Command
  pub no_commands : List Command
  pub holds : Emits (find u 0 (not b) false ps) yes_commands
  pub fails : Emits (find u 0 b false ps) no_commands
  pub is : C ≡ atom_commands reading.atom yes_commands no_commands

abbrev pub Told : Place → List Command → Type 0
Told (atom_at b ps u) C = AtomTold b ps u C
Told (result_at u) C = (R : ResultReading u) × (C ≡ result_command R.result ∷ [])
Told lost C = ⊥

pub told : {p : Place} {C : List Command} → Emits p C → Told p C
told (by_result r q f e a j) = (record { result = r; spaces = q; rest = f; follows = a; bytes = e; within = j }, refl)
told (by_atom {n = n} x q k f m z a e j Y N y g) =
    record {
      reading = record { index = n; atom = x; spaces = q; next = k; rest = f; inside = omega (arith, m); decided = z; follows = a; bytes = e; within = j };
      deep = omega (arith, m);
      yes_commands = Y;
      no_commands = N;
      holds = y;
      fails = g;
      is = refl;
    }

-- ---- the first outcome, and the second

module _ (u : List ℕ) (ps : List Bool) {T F : List Command} where
  pick_first : (f b : Bool) → Emits (find u 0 (not b) false ps) T → Emits (find u 0 b false ps) F → Emits (find u 0 (first_value f b) false ps) (if f T F)
  pick_first true b y n = y
  pick_first false b y n = n

  pick_second : (f b : Bool) → Emits (find u 0 (not b) false ps) T → Emits (find u 0 b false ps) F → Emits (find u 0 (second_value f b) false ps) (if f F T)
  pick_second true true y n = n
  pick_second true false y n = n
  pick_second false b y n = y

-- ---- the offsets rise

pub rises : (w : List ℕ) (i : ℕ) (l : List Entry) → i < length w → Beyond w (length (drop i w)) l → Rises i l
rises w i [] h b = tt
rises w i (d ∷ l) h b = let m = length-drop i w in let n = length-drop d.at w in omega (arith, m, n, b)

-- so there are at most half as many entries as bytes
pub few : {w : List ℕ} {l : List Entry} {C : List Command} → Pending w l C → (i : ℕ) → Rises i l → length l * 2 ≤ i
few none_left i r = omega arith
few (also_left {e} s d q p) i r = let h = few p e.at q in omega (arith, h, r)

-- ---- steps

-- an atom with the commands of no outcome written yet
abbrev pub first_entry : ℕ → Bool → ℕ → ℕ → Entry
first_entry i b m c = record { at = i; sign = b; mask = m; count = c; both = false }

abbrev pub with_both : Entry → Entry
with_both e = record { at = e.at; sign = e.sign; mask = e.mask; count = e.count; both = true }

-- an atom at a place: what is known of it
pub atom_told : {w : List ℕ} {p : Place} {l : List Entry} {C : List Command} (G : Visits w p l C) {b : Bool} {ps : List Bool} {u : List ℕ} → p ≡ atom_at b ps u → AtomTold b ps u G.here
atom_told G e = told (subst (λ (q : Place). Emits q G.here) e G.emits)

-- a visit of an atom: it waits on the list, its first outcome is visited
pub visit_atom : {w : List ℕ} {p : Place} {l : List Entry} {C : List Command} (G : Visits w p l C) (i : ℕ) (b : Bool) (m c : ℕ) → p ≡ atom_at b (signs m c) (drop i w) → i < length w → m < two_to c
    → (first : Bool) → ((R : AtomReading (drop i w)) → first ≡ first_holds R.atom)
    → Visits w (find (drop i w) 0 (first_value first b) false (signs m c)) (first_entry i b m c ∷ l) C
visit_atom {w} {p} {l} {C} G i b m c e h k first f =
    let t = atom_told G e in
    let R = t.reading in
    let x = R.atom in
    let Y = t.yes_commands in
    let N = t.no_commands in
    let g : first ≡ first_holds x = f R in
    let A : List Command = if (first_holds x) Y N in
    let B : List Command = if (first_holds x) N Y in
    record {
      here = A;
      later_on = (B ++ (own x ∷ [])) ++ G.later_on;
      emits = subst (λ (v : Bool). Emits (find (drop i w) 0 (first_value v b) false (signs m c)) A) (sym g) (pick_first (drop i w) (signs m c) (first_holds x) b t.holds t.fails);
      beyond = outcome_size (drop i w) R (first_value first b) (signs m c);
      pending = also_left
          (half refl R B (pick_second (drop i w) (signs m c) (first_holds x) b t.holds t.fails))
          (record { inside = h; low = k })
          (rises w i l h (subst (λ (n : ℕ). Beyond w n l) (ap size e) G.beyond))
          G.pending;
      all = G.all ∙ (ap (λ (D : List Command). D ++ G.later_on) (t.is ∙ atom_apart x R.decided Y N) ∙ append_assoc A (B ++ (own x ∷ [])) G.later_on);
    }

clash : true ≡ false → ⊥
clash e = let w : ◌≡◌ {A = ℕ} 0 1 = cc in omega arith

-- the latest entry
pub record Top (w : List ℕ) (e : Entry) (l : List Entry) (C : List Command) : Type 0 where
  pub its : List Command
  pub others : List Command
  pub stands : StandsFor w e its
  pub lies : Lies w e
  pub rise : Rises e.at l
  pub rest : Pending w l others
  pub is : C ≡ its ++ others

abbrev pub Topped : List ℕ → List Entry → List Command → Type 0
Topped w [] C = C ≡ []
Topped w (e ∷ l) C = Top w e l C

pub topped : {w : List ℕ} {l : List Entry} {C : List Command} → Pending w l C → Topped w l C
topped none_left = refl
topped (also_left {A = A} {B = B} s d r p) = record { its = A; others = B; stands = s; lies = d; rise = r; rest = p; is = refl }

pub record HalfTold (w : List ℕ) (e : Entry) (A : List Command) : Type 0 where
  pub reading : AtomReading (drop e.at w)
  pub second : List Command
  pub emits : Emits (outcome w e (second_value (first_holds reading.atom) e.sign)) second
  pub is : A ≡ second ++ (own reading.atom ∷ [])

half_told : {w : List ℕ} {e : Entry} {A : List Command} → StandsFor w e A → e.both ≡ false → HalfTold w e A
half_told (half n R S h) z = record { reading = R; second = S; emits = h; is = refl }
half_told (done y R) z = absurd (clash (sym y ∙ z))

pub record DoneTold (w : List ℕ) (e : Entry) (A : List Command) : Type 0 where
  pub reading : AtomReading (drop e.at w)
  pub is : A ≡ own reading.atom ∷ []

done_told : {w : List ℕ} {e : Entry} {A : List Command} → StandsFor w e A → e.both ≡ true → DoneTold w e A
done_told (half n R S h) z = absurd (clash (sym z ∙ n))
done_told (done y R) z = record { reading = R; is = refl }

-- the latest entry lies in the text
pub top_lies : {w : List ℕ} {e : Entry} {l : List Entry} {C : List Command} → Pending w (e ∷ l) C → Lies w e
top_lies {w} {e} {l} {C} P = let t : Top w e l C = topped P in t.lies

-- the first outcome is written: the second is visited, and the entry waits for its own command
pub visit_second : {w : List ℕ} {e : Entry} {l : List Entry} {C : List Command} → Pending w (e ∷ l) C → e.both ≡ false
    → (first : Bool) → ((R : AtomReading (drop e.at w)) → first ≡ first_holds R.atom)
    → Visits w (outcome w e (second_value first e.sign)) (with_both e ∷ l) C
visit_second {w} {e} {l} {C} P z first f =
    let t : Top w e l C = topped P in
    let h = half_told t.stands z in
    let R = h.reading in
    let O : List Command = own R.atom ∷ [] in
    record {
      here = h.second;
      later_on = O ++ t.others;
      emits = subst (λ (v : Bool). Emits (outcome w e (second_value v e.sign)) h.second) (sym (f R)) h.emits;
      beyond = outcome_size (drop e.at w) R (second_value first e.sign) (signs e.mask e.count);
      pending = also_left (done refl R) (record { inside = t.lies.inside; low = t.lies.low }) t.rise t.rest;
      all = t.is ∙ (ap (λ (D : List Command). D ++ t.others) h.is ∙ append_assoc h.second O t.others);
    }

-- both outcomes are written: its own command, and the list without it
pub record Last (w : List ℕ) (e : Entry) (l : List Entry) (C : List Command) : Type 0 where
  pub reading : AtomReading (drop e.at w)
  pub others : List Command
  pub pending : Pending w l others
  pub is : C ≡ own reading.atom ∷ others

pub write_own : {w : List ℕ} {e : Entry} {l : List Entry} {C : List Command} → Pending w (e ∷ l) C → e.both ≡ true → Last w e l C
write_own {w} {e} {l} {C} P z =
    let t : Top w e l C = topped P in
    let h = done_told t.stands z in
    record { reading = h.reading; others = t.others; pending = t.rest; is = t.is ∙ ap (λ (D : List Command). D ++ t.others) h.is }

pub visit_result : {w : List ℕ} {p : Place} {l : List Entry} {C : List Command} (G : Visits w p l C) (u : List ℕ) → p ≡ result_at u → ResultFirst w u l C
visit_result G u e =
    let t : Told (result_at u) G.here = told (subst (λ (q : Place). Emits q G.here) e G.emits) in
    record { reading = t.0; others = G.later_on; pending = G.pending; is = G.all ∙ ap (λ (D : List Command). D ++ G.later_on) t.1 }

-- no place is lost, or behind too many brackets
pub not_deep : {w : List ℕ} {p : Place} {l : List Entry} {C : List Command} → Visits w p l C → TooDeep p → ⊥
not_deep G d = never_deep G.emits d

pub not_lost : {w : List ℕ} {p : Place} {l : List Entry} {C : List Command} → Visits w p l C → p ≡ lost → ⊥
not_lost G e = never_deep G.emits (subst TooDeep (sym e) tt)

-- a list that stands for nothing more is empty where no entry is left
pub all_written : {w : List ℕ} {C : List Command} → Pending w [] C → C ≡ []
all_written P = topped P

-- nothing is on the list at first
pub first_visit : {w : List ℕ} {p : Place} {C : List Command} → Emits p C → Visits w p [] C
first_visit {C = C} h = record { here = C; later_on = []; emits = h; beyond = tt; pending = none_left; all = nothing_behind C }
  where
    nothing_behind : (D : List Command) → D ≡ D ++ []
    nothing_behind [] = refl
    nothing_behind (c ∷ D) = ap (λ (E : List Command). c ∷ E) (nothing_behind D)
