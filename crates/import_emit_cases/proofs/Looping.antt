-- The loop: what is written so far and what the list stands for are all the commands.
use mathlib.Core.Path.{◌≡◌, refl, sym, ap, ◌∙◌, subst}
use mathlib.Core.Bool.{true, false}
use mathlib.Core.List.{List, [], ◌∷◌, ◌++◌, append_assoc, append-nil}
use Prim.Native.Nat.{ℕ, ◌+◌, ◌≤◌, ◌<◌}
use native.Mathlib.Omega.{arith}
use lib.ListN.{length, drop, length-append}
use Rattle.whole.specs.Cases.{clash}
use Rattle.theory.specs.Command.{Command}
use Rattle.text_decimal.specs.Put.{PutAt}
use Rattle.text_decimal.proofs.Puts.{none, then, rename}
use Rattle.import_model.specs.Encode.{command_bytes, encode}
use Rattle.import_found.specs.Places.{go, Emits}
use Rattle.import_places.specs.Walking.{signs, two_to}
use Rattle.import_going.specs.declared.start.Spot.{Spot}
use Rattle.import_going.specs.Turns.{Spotted}
use Rattle.import_list.specs.Pending.{Pending}
use Rattle.import_list.specs.Packed.{entries}
use Rattle.import_list.proofs.laws.Steps.{first_visit, all_written}
use Rattle.import_write.proofs.Laws.{next_command}
use Rattle.import_descend.specs.Walks.{SpotComes}
use Rattle.std.specs.Prelude.{Result, Ok, Err}
use Rattle.import_emit_cases.specs.declared.Full.{Full}
use Rattle.import_emit_cases.specs.declared.Wrote.{Wrote}
use Rattle.import_emit_cases.specs.Emitting.{Lent, WritesCommand, Finishes, CasesBegin, Emitting}

-- all commands are no shorter than those written and the next
longer_all : (A : List Command) (c : Command) (D C : List Command) → C ≡ A ++ (c ∷ D) → length (encode A) + length (command_bytes c) ≤ length (encode C)
unfolding encode
longer_all A c D C e = let k = ap (λ (X : List Command). length (encode X)) e in let h = up_to A in omega (arith, h, k)
  where
    up_to : (A : List Command) → length (encode A) + length (command_bytes c) ≤ length (encode (A ++ (c ∷ D)))
    up_to [] = let k = length-append (command_bytes c) (encode D) in omega (arith, k)
    up_to (d ∷ A) =
        let h = up_to A in
        let j = length-append (command_bytes d) (encode A) in
        let k = length-append (command_bytes d) (encode (A ++ (c ∷ D))) in
        omega (arith, h, j, k)

-- ---- entry by entry

-- some commands are written, the list stands for the others
pub record SoFar (w out₀ : List ℕ) (at₀ : ℕ) (l : List ℕ) (n : ℕ) (out : List ℕ) (at : ℕ) (C : List Command) : Type 0 where
  pub written : List Command
  pub others : List Command
  pub is : C ≡ written ++ others
  pub pending : Pending w (entries l n) others
  pub put : PutAt out₀ at₀ (encode written) at out

pub record Written (w l₀ : List ℕ) (n₀ : ℕ) (out₀ : List ℕ) (at₀ : ℕ) (l : List ℕ) (n : ℕ) (out : List ℕ) (at : ℕ) : Type 0 where
  pub same : length out ≡ length out₀
  pub listed : length l ≡ length l₀
  pub few : n ≤ length l₀
  pub within : at ≤ length out₀
  pub so_far : (C : List Command) → Pending w (entries l₀ n₀) C → SoFar w out₀ at₀ l n out at C

module _ (w l₀ : List ℕ) (n₀ : ℕ) (out₀ : List ℕ) (at₀ : ℕ) (L : Lent w l₀ n₀ out₀ at₀ (Pending w (entries l₀ n₀))) where
  pub start : Written w l₀ n₀ out₀ at₀ l₀ n₀ out₀ at₀
  unfolding encode
  start = record { same = refl; listed = refl; few = L.few; within = L.room; so_far = λ C P. record { written = []; others = C; is = refl; pending = P; put = none out₀ at₀ } }

  module _ (l : List ℕ) (n : ℕ) (out : List ℕ) (at : ℕ) (K : Written w l₀ n₀ out₀ at₀ l n out at) where
    pub still : Lent w l n out at (Pending w (entries l n))
    still =
        let f = K.so_far L.commands L.to in
        let a = K.few in
        let b = K.listed in
        let c = K.within in
        let d = K.same in
        record { short = L.short; long = b ∙ L.long; few = omega (arith, a, b); room = omega (arith, c, d); commands = f.others; to = f.pending }

    pub ended : n ≤ 0 → Finishes out₀ at₀ (Pending w (entries l₀ n₀)) (Ok at) out
    unfolding entries
    ended h C P =
        let f = K.so_far C P in
        let k : n ≡ 0 = omega (arith, h) in
        let e = all_written (subst (λ (m : ℕ). Pending w (entries l m) f.others) k f.pending) in
        let g : C ≡ f.written = f.is ∙ (ap (λ (D : List Command). f.written ++ D) e ∙ append-nil f.written) in
        record { put = λ q. rename (ap encode (sym g)) f.put; longer = λ q. clash (sym q) }

    module _ (r : Wrote) (l' out' : List ℕ) (W : WritesCommand w l out at (Pending w (entries l n)) (Ok r) l' out') where
      pub on : length l' ≡ length l → length out' ≡ length out → Written w l₀ n₀ out₀ at₀ l' r.count out' r.at
      on a b =
          record {
            same = b ∙ K.same;
            listed = a ∙ K.listed;
            few = let f = W.few in let k = K.listed in omega (arith, f, k);
            within = let f = W.within in let k = K.same in omega (arith, f, k);
            so_far = λ C P.
                let f = K.so_far C P in
                let g = W.advances f.others f.pending in
                record {
                  written = f.written ++ (g.command ∷ []);
                  others = g.others;
                  is = f.is ∙ (ap (λ (D : List Command). f.written ++ D) g.is ∙ sym (append_assoc f.written (g.command ∷ []) g.others));
                  pending = g.pending refl;
                  put = next_command f.written g.command L.room f.put (g.written.put refl);
                };
          }

    module _ (b : Full) (l' out' : List ℕ) (W : WritesCommand w l out at (Pending w (entries l n)) (Err b) l' out') where
      pub stops : Finishes out₀ at₀ (Pending w (entries l₀ n₀)) (Err b) out'
      stops C P =
          let f = K.so_far C P in
          let g = W.advances f.others f.pending in
          let a = g.written.longer refl in
          let h = f.put.behind in
          let c = longer_all f.written g.command g.others C (f.is ∙ ap (λ (D : List Command). f.written ++ D) g.is) in
          let k = K.same in
          record { put = λ z. clash z; longer = λ z. omega (arith, a, h, c, k) }

-- ---- from the first place on

pub no_signs : 0 < two_to 0
unfolding two_to
no_signs = omega arith

module _ (w : List ℕ) (from : ℕ) (l out : List ℕ) (at : ℕ) (B : CasesBegin w from l out at) (s : Spot) (S : Spotted w (go (drop from w) false (signs 0 0)) s) where
  first : (C : List Command) → Emits (go (drop from w) false []) C → SpotComes w s l 0 C
  unfolding signs entries
  first C E = record { place = go (drop from w) false []; spotted = S; visits = first_visit E }

  pub first_lent : Lent w l 0 out at (SpotComes w s l 0)
  first_lent = record { short = B.short; long = B.long; few = omega arith; room = B.room; commands = B.commands; to = first B.commands B.emits }

  module _ (b : Full) (l₁ out₁ : List ℕ) (W : WritesCommand w l out at (SpotComes w s l 0) (Err b) l₁ out₁) (m : length out₁ ≡ length out) where
    pub first_full : Emitting w from out at (Err b) out₁
    unfolding encode
    first_full =
        record {
          same = m;
          commands = λ C E.
              let g = W.advances C (first C E) in
              let a = g.written.longer refl in
              let c = longer_all [] g.command g.others C g.is in
              record { put = λ z. clash z; longer = λ z. omega (arith, a, c) };
        }

  module _ (r : Wrote) (l₁ out₁ : List ℕ) (W : WritesCommand w l out at (SpotComes w s l 0) (Ok r) l₁ out₁) (m : length out₁ ≡ length out) where
    pub rest_lent : length l₁ ≡ length l → Lent w l₁ r.count out₁ r.at (Pending w (entries l₁ r.count))
    rest_lent k =
        let g = W.advances B.commands (first B.commands B.emits) in
        let a = W.few in
        let b = W.within in
        record { short = B.short; long = k ∙ B.long; few = omega (arith, a, k); room = omega (arith, b, m); commands = g.others; to = g.pending refl }

    pub then_rest : (f : Result ℕ Full) (out' : List ℕ) → length out' ≡ length out₁ → Finishes out₁ r.at (Pending w (entries l₁ r.count)) f out' → Emitting w from out at f out'
    unfolding encode
    then_rest f out' k F =
        record {
          same = k ∙ m;
          commands = λ C E.
              let g = W.advances C (first C E) in
              let p = g.written.put refl in
              let h = F g.others (g.pending refl) in
              let b = p.behind in
              let j = length-append (command_bytes g.command) (encode g.others) in
              let i = ap (λ (X : List Command). length (encode X)) g.is in
              record {
                put = λ z. rename (ap encode (sym g.is)) (then B.room p (h.put z));
                longer = λ z. let a = h.longer z in omega (arith, a, b, j, i, m);
              };
        }
