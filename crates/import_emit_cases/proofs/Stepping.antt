-- One step: a result's command where the way goes down, or the latest entry's own. The laws of the list say what is still to be written behind it.
use mathlib.Core.Path.{◌≡◌, sym, ap, ◌∙◌, subst}
use mathlib.Core.Bool.{Bool, true, false, not}
use mathlib.Core.List.{List, ◌∷◌}
use Prim.Native.Nat.{ℕ, zero, suc, ◌-◌, ◌<◌}
use native.Mathlib.Omega.{arith}
use lib.Dec.{T}
use lib.ListN.{get_or}
use Rattle.whole.specs.Cases.{clash, from_true}
use Rattle.theory.specs.Command.{Command}
use Rattle.import_numbers.specs.Numbers.{all_within}
use Rattle.import_model.specs.Encode.{command_bytes}
use Rattle.import_model.specs.Commands.{result_command}
use Rattle.import_found.specs.Places.{xor}
use Rattle.import_going.specs.declared.start.Spot.{Spot}
use Rattle.import_going.specs.Turns.{Spotted}
use Rattle.import_list.specs.declared.Entry.{Entry}
use Rattle.import_list.specs.Pending.{own, outcome, second_value, Lies, Pending, Visits}
use Rattle.import_list.specs.Packed.{unpacked, entries, FitsWord, Pushed}
use Rattle.import_list.proofs.laws.Steps.{with_both, top_lies, visit_second, write_own}
use Rattle.import_look.specs.declared.Told.{Told}
use Rattle.import_look.specs.Looks.{command_told, Looks, LeafLooks}
use Rattle.import_descend.specs.declared.Down.{Down}
use Rattle.import_descend.specs.Walks.{SpotComes, Starting, Descends}
use Rattle.import_descend.proofs.Entering.{spotted_in}
use Rattle.std.specs.Prelude.{Result, Ok, Err}
use Rattle.import_emit_cases.specs.declared.Full.{Full}
use Rattle.import_emit_cases.specs.declared.Wrote.{Wrote}
use Rattle.import_emit_cases.specs.Emitting.{PutBytes, Puts, Lent, WritesCommand}

as_command : {out : List ℕ} {at : ℕ} {c d : Command} {r : Result ℕ Full} {out' : List ℕ} → c ≡ d → PutBytes out at (command_bytes c) r out' → PutBytes out at (command_bytes d) r out'
as_command {out} {at} {r = r} {out' = out'} e p = subst (λ (c : Command). PutBytes out at (command_bytes c) r out') e p

abbrev with_count : ℕ → Result ℕ Full → Result Wrote Full
with_count k (Ok a) = Ok (record { count = k; at = a })
with_count k (Err e) = Err e

-- ---- down to a result

module _ (w : List ℕ) (s : Spot) (l : List ℕ) (n : ℕ) (out : List ℕ) (at : ℕ) (L : Lent w l n out at (SpotComes w s l n)) where
  pub starting : Starting w s l n
  starting = record { inside = spotted_in w L.to.place s L.to.spotted; short = L.short; long = L.long; few = L.few }

  module _ (d : Down) (l' : List ℕ) (D : Descends w s l n d l') (t : Told) (K : LeafLooks w d.at t) where
    pub leaf_fits : T (all_within t.linear)
    leaf_fits = let f = D.first L.commands L.to in from_true (K f.reading).fits

    pub leaf_writes : (e : Result ℕ Full) (out' : List ℕ) → Puts out at (command_told t) e out' → WritesCommand w l out at (SpotComes w s l n) (with_count d.count e) l' out'
    leaf_writes (Ok a) out' P =
        record {
          few = D.few;
          within = P.within;
          grows = P.grows;
          advances = λ C G.
              let f = D.first C G in
              record { command = result_command f.reading.result; others = f.others; is = f.is; pending = λ q. f.pending; written = as_command (K f.reading).own_is P.written };
        }
    leaf_writes (Err b) out' P =
        record {
          few = omega arith;
          within = P.within;
          grows = P.grows;
          advances = λ C G.
              let f = D.first C G in
              record { command = result_command f.reading.result; others = f.others; is = f.is; pending = λ q. clash q; written = as_command (K f.reading).own_is P.written };
        }

-- ---- the latest entry

-- what a word has room for
narrow : (l : List ℕ) (n : ℕ) (e : Entry) → 0 < n → entries l n ≡ e ∷ entries l (n - 1) → (e.count < 64) × (e.mask < 4294967296)
unfolding entries unpacked
narrow l zero e z h = absurd (omega (arith, z))
narrow l (suc m) e z h =
    let g : unpacked (get_or l m 0) ≡ e = cc in
    (subst (λ (d : Entry). d.count < 64) g (omega arith), subst (λ (d : Entry). d.mask < 4294967296) g (omega arith))

module _ (w l : List ℕ) (n : ℕ) (out : List ℕ) (at : ℕ) (e : Entry) (z : 0 < n) (L : Lent w l n out at (Pending w (entries l n))) (h : entries l n ≡ e ∷ entries l (n - 1)) where
  on_top : {C : List Command} → Pending w (entries l n) C → Pending w (e ∷ entries l (n - 1)) C
  on_top {C} P = subst (λ (es : List Entry). Pending w es C) h P

  pub lies : Lies w e
  lies = top_lies (on_top L.to)

  pub marked_fits : (b : Bool) → FitsWord (record { at = e.at; sign = e.sign; mask = e.mask; count = e.count; both = b })
  marked_fits b =
      let a = lies.inside in
      let s = L.short in
      let q = narrow l n e z h in
      record { place = omega (arith, a, s); shallow = q.0; low = q.1 }

  module _ (t : Told) (K : Looks w e.at t) where
    module _ (b : e.both ≡ true) where
      pub own_fits : T (all_within t.linear)
      own_fits = let q = write_own (on_top L.to) b in from_true (K q.reading).fits

      pub own_writes : (p : Result ℕ Full) (out' : List ℕ) → Puts out at (command_told t) p out' → WritesCommand w l out at (Pending w (entries l n)) (with_count (n - 1) p) l out'
      own_writes (Ok a) out' P =
          record {
            few = let f = L.few in omega (arith, f);
            within = P.within;
            grows = P.grows;
            advances = λ C G.
                let q = write_own (on_top G) b in
                record { command = own q.reading.atom; others = q.others; is = q.is; pending = λ z. q.pending; written = as_command (K q.reading).own_is P.written };
          }
      own_writes (Err a) out' P =
          record {
            few = omega arith;
            within = P.within;
            grows = P.grows;
            advances = λ C G.
                let q = write_own (on_top G) b in
                record { command = own q.reading.atom; others = q.others; is = q.is; pending = λ z. clash z; written = as_command (K q.reading).own_is P.written };
          }

    -- the entry waits for its own command, and its second outcome is visited
    module _ (b : e.both ≡ false) (l₁ : List ℕ) (P : Pushed l (n - 1) (with_both e) l₁) (v : Bool) (g : v ≡ xor t.first e.sign) (s : Spot) (S : Spotted w (outcome w e (not v)) s) where
      marked_top : with_both e ∷ entries l (n - 1) ≡ entries l₁ n
      marked_top = let k : suc (n - 1) ≡ n = omega (arith, z) in sym P.now_are ∙ ap (entries l₁) k

      second : (C : List Command) → Pending w (entries l n) C → SpotComes w s l₁ n C
      second C G =
          let q = visit_second (on_top G) b t.first (λ R. (K R).first_is) in
          record {
            place = outcome w e (not v);
            spotted = S;
            visits = subst (λ (x : Bool). Visits w (outcome w e (not x)) (entries l₁ n) C) (sym g) (subst (λ (es : List Entry). Visits w (outcome w e (second_value t.first e.sign)) es C) marked_top q);
          }

      pub second_lent : Lent w l₁ n out at (SpotComes w s l₁ n)
      second_lent = record { short = L.short; long = P.room ∙ L.long; few = let f = L.few in let r = P.room in omega (arith, f, r); room = L.room; commands = L.commands; to = second L.commands L.to }

      pub second_writes : (r : Result Wrote Full) (l' out' : List ℕ) → WritesCommand w l₁ out at (SpotComes w s l₁ n) r l' out' → WritesCommand w l out at (Pending w (entries l n)) r l' out'
      second_writes r l' out' W =
          record { few = let f = W.few in let q = P.room in omega (arith, f, q); within = W.within; grows = W.grows; advances = λ C G. W.advances C (second C G) }
