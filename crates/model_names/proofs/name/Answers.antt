-- `model_names::name` meets its contract.
use mathlib.Core.Path.{refl, sym, ap, ◌∙◌}
use Prim.Native.Nat.{◌+◌}
use native.Mathlib.Nat.{add-zero, add_comm}
use Rattle.theory.specs.Name.{Part}
use Rattle.model_names.specs.Parts.{part_as}
use Rattle.model_names.proofs.NameWalk.{part_refused, part_passed, name_empty, name_bytes_are}
use Rattle.model_names.proofs.name.Goals as goal

pub returns-then-v-ne0 : goal.returns-then-v-ne0
returns-then-v-ne0 c = let n = part_refused c.args.model.now c.args.action c.name_refusal-v.result c.name_refusal-v.ensures c.if-v-ne0.true in
    record {
      bytes = name_empty c.args.model.now c.args.action n;
      memory = refl;
      place = sym (ap (λ (p : Part). c.args.model.ref_ptr.1 + p.start) n ∙ add-zero _);
    }

pub returns : goal.returns
returns c = let n = part_passed c.args.model.now c.args.action c.name_refusal-v.result c.name_refusal-v.ensures c.if-v-ne0.false ∙ sym c.named_part-p.ensures.0 in
    record {
      bytes = name_bytes_are c.args.model.now c.args.action (part_as c.named_part-p.result) n;
      memory = refl;
      place = add_comm _ _ ∙ ap (λ (p : Part). c.args.model.ref_ptr.1 + p.start) (sym n);
    }
