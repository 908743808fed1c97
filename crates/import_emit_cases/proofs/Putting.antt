-- One command: it is put where its bytes fit, else they are longer than what is left.
use mathlib.Core.Path.{◌≡◌, sym, ap, subst}
use mathlib.Core.Bool.{Bool, true, false}
use mathlib.Core.List.{List}
use Prim.Native.Nat.{ℕ, ◌+◌, ◌≤◌, ◌<◌}
use native.Mathlib.Omega.{arith}
use borrow.Author.Tests.{eq-eqb, ne_eqb}
use lib.IntN.{ℤ}
use lib.ListN.{length}
use Rattle.whole.specs.Cases.{if, clash}
use Rattle.whole.specs.Linears.{numbers}
use Rattle.theory.specs.Command.{Command, push_condition, push_forbidden}
use Rattle.text_decimal.specs.Put.{PutAt}
use Rattle.import_model.specs.Encode.{command_bytes}
use Rattle.import_write.specs.Writes.{leaf_of, test_of}
use Rattle.import_write.proofs.Laws.{leaf_length, test_length}
use Rattle.import_look.specs.declared.Told.{Told}
use Rattle.import_look.specs.Looks.{command_told}
use Rattle.std.specs.Prelude.{Result, Ok, Err}
use Rattle.import_emit_cases.specs.declared.Full.{Full}
use Rattle.import_emit_cases.specs.Emitting.{Puts}

module _ (out : List ℕ) (at k : ℕ) (c : Command) (e : length (command_bytes c) ≡ k) where
  pub put_one : (n : ℕ) (out' : List ℕ) → 0 < k → at + k ≤ length out → PutAt out at (command_bytes c) n out' → Puts out at c (Ok n) out'
  put_one n out' z h p =
      let b = p.behind in
      record {
        within = omega (arith, b, e, h);
        grows = λ q. omega (arith, b, e, z);
        written = record { put = λ q. p; longer = λ q. clash (sym q) };
      }

  pub no_room : at ≤ length out → length out < at + k → (f : Full) → Puts out at c (Err f) out
  no_room h m f = record { within = omega arith; grows = λ q. clash q; written = record { put = λ q. clash q; longer = λ q. omega (arith, e, m) } }

-- ---- a linear as a leaf or as a test

pub linear_length : (a : List ℤ) → length a ≡ numbers → (test : Bool) → length (command_bytes (if test (test_of a) (leaf_of a))) ≡ 37
linear_length a n true = test_length a n
linear_length a n false = leaf_length a n

pub linear_test : (a : List ℤ) (test : Bool) → test ≡ true → if test (test_of a) (leaf_of a) ≡ test_of a
linear_test a test e = ap (λ (b : Bool). if b (test_of a) (leaf_of a)) e

pub linear_leaf : (a : List ℤ) (test : Bool) → test ≡ false → if test (test_of a) (leaf_of a) ≡ leaf_of a
linear_leaf a test e = ap (λ (b : Bool). if b (test_of a) (leaf_of a)) e

-- ---- by the byte that is told

module _ (t : Told) where
  pub told_leaf : t.kind ≡ 0x10 → command_told t ≡ leaf_of t.linear
  unfolding command_told
  told_leaf e = simp (eq-eqb t.kind 0x10 e)

  module _ (p : t.kind ≡ 0x10 → ⊥) where
    pub told_condition : t.kind ≡ 0x11 → command_told t ≡ push_condition t.condition
    unfolding command_told
    told_condition e = simp (ne_eqb t.kind 0x10 p, eq-eqb t.kind 0x11 e)

    module _ (q : t.kind ≡ 0x11 → ⊥) where
      pub told_test : t.kind ≡ 0x12 → command_told t ≡ test_of t.linear
      unfolding command_told
      told_test e = simp (ne_eqb t.kind 0x10 p, ne_eqb t.kind 0x11 q, eq-eqb t.kind 0x12 e)

      pub told_forbidden : (t.kind ≡ 0x12 → ⊥) → command_told t ≡ push_forbidden
      unfolding command_told
      told_forbidden r = simp (ne_eqb t.kind 0x10 p, ne_eqb t.kind 0x11 q, ne_eqb t.kind 0x12 r)

pub as_told : {out : List ℕ} {at : ℕ} {c d : Command} {r : Result ℕ Full} {out' : List ℕ} → c ≡ d → Puts out at d r out' → Puts out at c r out'
as_told {out} {at} {r = r} {out' = out'} e p = subst (λ (c : Command). Puts out at c r out') (sym e) p
